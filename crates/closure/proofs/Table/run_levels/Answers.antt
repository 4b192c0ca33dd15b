-- `run_levels` meets its contract. The invariant: the levels passed are visited, each by the table made when it was entered. Assumes nothing.
use mathlib.Core.Path.{◌≡◌, refl, ◌∙◌}
use Prim.Native.Nat.{◌-◌}
use native.Mathlib.Omega.{arith}
use Rattle.closure.specs.Walk.{pass_level, pass}
use Rattle.closure.proofs.Becoming.{stays, same, steps}
use Rattle.closure.proofs.Sweeps.{sweep_none, sweep_more}
use Rattle.closure.proofs.Model.{level_told}
use Rattle.closure.proofs.Table.run_levels.Goals as goal

pub loop-level-init : goal.loop-level-init
loop-level-init c = stays (sweep_none _ _ _)

pub loop-level-preserved : goal.loop-level-preserved
loop-level-preserved c = let a = c.args in
    let l = c.loop-level in
    let t = l.self in
    let n = c.run_level.ensures in
    let e = n.cells ∙ level_told _ t.plan _ _ _ l.level (rw l.invariant.plan (omega arith)) c.neighbourhoods.ensures in
    steps {g = λ p. pass_level a.step p a.flags.now l.level} l.invariant (record { plan = n.plan; place = n.place; cells = e }) (sweep_more _ 0 l.level _ (omega arith))

pub returns : goal.returns
unfolding pass
returns c = let a = c.args in
    let e : c.loop-level.level - 0 ≡ a.self.now.plan.levels - 1 = omega (arith, c.args.self.now.size.range.levels≥) in
    same c.loop-level.invariant (rw e refl)
