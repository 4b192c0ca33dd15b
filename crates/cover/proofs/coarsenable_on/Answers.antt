-- `cover::coarsenable_on` meets its contract: the windows of the level are the supports. Assumes nothing.
use Prim.Native.Nat.{◌+◌, ◌*◌, ◌≤◌}
use native.Mathlib.Omega.{arith}
use Rattle.facts.proofs.Mapped.{fill_length}
use Rattle.facts.proofs.Ranges.{mid_len}
use Rattle.grid.specs.Plan.{function_total}
use Rattle.cover.proofs.Passes.{level_room, functions_fit, coarsenable_pass}
use Rattle.cover.proofs.coarsenable_on.Goals as goal
use Rattle.cover.proofs.coarsenable_on.Goals.{After-function_offset-at}

pub level-requires : goal.level-requires
level-requires c = let s = c in level_room s.args.plan s.requires.in_range s.args.level s.requires.level_lt_levels s.args.reactivables.now s.requires.functions_len.1 s.requires.plan_in_bounds.0 s.requires.plan_in_bounds.1

-- where the level's functions end
fits : (c : After-function_offset-at) → c.function_offset-at.result + c.function_rows_at-rows.result * c.function_columns_at-columns.result ≤ function_total c.args.plan
fits c = let s = c in functions_fit s.args.plan s.requires.in_range s.args.level s.requires.level_lt_levels c.function_columns_at-columns.ensures c.function_rows_at-rows.ensures c.function_offset-at.ensures

pub slice_bounds-pick-count : goal.slice_bounds-pick-count
slice_bounds-pick-count c = omega (arith, fits (goal.at.slice_bounds-pick-count c).After-function_offset-at, c.requires.functions_len.0)

pub slice_bounds-pick-start : goal.slice_bounds-pick-start
slice_bounds-pick-start c = omega (arith, fits (goal.at.slice_bounds-pick-start c).After-function_offset-at, c.requires.functions_len.0)

pub slice_bounds-pick-count-2 : goal.slice_bounds-pick-count-2
slice_bounds-pick-count-2 c = omega (arith, fits (goal.at.slice_bounds-pick-count-2 c).After-function_offset-at, c.requires.functions_len.2)

pub slice_bounds-pick-start-2 : goal.slice_bounds-pick-start-2
slice_bounds-pick-start-2 c = omega (arith, fits (goal.at.slice_bounds-pick-start-2 c).After-function_offset-at, c.requires.functions_len.2)

pub pick-requires : goal.pick-requires
pick-requires c = let o = c in
    let s = o in
    let at = o.function_offset-at.result in
    let b = fits (goal.at.pick-requires c).After-function_offset-at in
    let n = fill_length _ _ _ _ c.level.ensures in
    (omega (arith, mid_len at s.args.functions.now, s.requires.functions_len.0), omega (arith, n, s.requires.plan_in_bounds.1), omega (arith, mid_len at s.args.out.now, s.requires.functions_len.2))

pub returns : goal.returns
returns c = let o = c in
    let s = o in
    coarsenable_pass s.args.plan s.requires.in_range s.args.level s.requires.level_lt_levels s.args.functions.now s.args.reactivables.now _ s.args.least.now s.args.out.now _ o.function_offset-at.ensures
    (λ i. o.function_rows_at-rows.ensures i * o.function_columns_at-columns.ensures i) s.requires.functions_len.1 s.requires.plan_in_bounds.1 s.requires.functions_len.2 c.level.ensures c.pick.ensures
