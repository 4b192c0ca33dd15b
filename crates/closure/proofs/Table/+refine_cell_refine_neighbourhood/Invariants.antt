-- `refine_cell` and `refine_neighbourhood` meet their contracts, at every fuel above the level. The measure is twice the level, and one
-- more for the cell itself. The loops' invariants: the table is the model's after the rows, or the columns, passed. Assumes nothing.
use Prim.Native.Nat.{ℕ, ◌+◌, ◌*◌, ◌-◌, ◌≤◌}
use Rattle.closure.specs.Table.{Becomes}
use Rattle.closure.specs.Walk.{sweep, at, refine_cell}
use Rattle.closure.proofs.Table.+refine_cell_refine_neighbourhood.Given as goal

abbrev pub decreases-refine_cell : goal.decreases-refine_cell
decreases-refine_cell l = 2 * l.place.level + 1

abbrev pub decreases-refine_neighbourhood : goal.decreases-refine_neighbourhood
decreases-refine_neighbourhood l = 2 * l.place.level

abbrev pub invariant-refine_neighbourhood-loop-column : goal.invariant-refine_neighbourhood-loop-column
invariant-refine_neighbourhood-loop-column l = (n : ℕ) → l.fn.place.level ≤ n → Becomes l.initial.self l.self (λ p. sweep (λ x. refine_cell n p (at l.coarse l.row x)) l.near.columns.first (l.column - l.near.columns.first))

abbrev pub invariant-refine_neighbourhood-loop-row : goal.invariant-refine_neighbourhood-loop-row
invariant-refine_neighbourhood-loop-row l = let w = l.near.columns.first in
    (n : ℕ) → l.fn.place.level ≤ n → Becomes l.initial.self l.self (λ p. sweep (λ y. sweep (λ x. refine_cell n p (at l.coarse y x)) w (l.near.columns.end - w)) l.near.rows.first (l.row - l.near.rows.first))
