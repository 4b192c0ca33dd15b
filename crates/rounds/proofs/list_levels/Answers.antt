-- `list_levels` meets its contract: level by level. Assumes nothing.
use mathlib.Core.Path.{◌≡◌, refl, ap, ◌∙◌}
use Prim.Native.Nat.{◌+◌, ◌-◌}
use native.Mathlib.Omega.{arith}
use lib.ListN.{length}
use Rattle.grid.specs.Plan.{cell_offset}
use Rattle.outcomes.specs.Calls.{changed, written}
use Rattle.rounds.proofs.Turns.{start, block, list_room, listed_to, few, few_next, one_level, next}
use Rattle.rounds.proofs.list_levels.Goals as goal
use Rattle.rounds.proofs.list_levels.Goals.{After-list_changed_between-end}

pub loop-k-init : goal.loop-k-init
loop-k-init c = start c.requires

pub list_changed_between-end-requires : goal.list_changed_between-end-requires
list_changed_between-end-requires c = let l = c.loop-k in
    let from = c.cell_offset-from.ensures in
    record { list_room = list_room c.requires l.auto.marks; block = block c.requires l.k (omega arith) from c.cell_offset-to.ensures; listed_to = listed_to c.requires l.invariant from }

-- how many cells are listed behind the level
listed : (c : After-list_changed_between-end) → let a = c.args in
    c.list_changed_between-end.result ≡ length (changed (cell_offset a.plan (c.loop-k.k + 1)) a.cells.now a.wanted.now)
listed c = let a = c.args in
    c.list_changed_between-end.ensures.value ∙ ap (λ t. length (changed t a.cells.now a.wanted.now)) c.cell_offset-to.ensures

pub overflow_sub-lengths : goal.overflow_sub-lengths
overflow_sub-lengths c = omega (arith, one_level c.requires c.loop-k.invariant (omega arith) (listed (goal.at.overflow_sub-lengths c).After-list_changed_between-end))

pub overflow_cast-lengths : goal.overflow_cast-lengths
overflow_cast-lengths c = omega (arith, few_next c.requires c.loop-k.invariant (omega arith) (listed (goal.at.overflow_cast-lengths c).After-list_changed_between-end))

pub loop-k-preserved : goal.loop-k-preserved
loop-k-preserved c = let a = c.args in
    let l = c.loop-k in
    next c.requires l.invariant (omega arith) (listed (goal.at.loop-k-preserved c).After-list_changed_between-end)
    (c.list_changed_between-end.ensures.list_after ∙ ap (λ t. written (changed t a.cells.now a.wanted.now) l.marks) c.cell_offset-to.ensures) (omega (arith, c.requires.levels≤)) refl

pub overflow_cast-result : goal.overflow_cast-result
overflow_cast-result c = omega (arith, few c.requires c.loop-k.invariant (omega arith))

pub returns : goal.returns
returns c = let e : c.loop-k.k ≡ c.args.plan.levels - 1 = omega arith in rw e at c.loop-k.invariant
