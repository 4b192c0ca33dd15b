-- `refine_cell` and `refine_neighbourhood` meet their contracts, at every fuel above the level. The measure is twice the level, and one
-- more for the cell itself. The loops' invariants: the table is the model's after the rows, or the columns, passed. Assumes nothing.
use mathlib.Core.Path.{◌≡◌, sym, ◌∙◌}
use Prim.Native.Nat.{ℕ, ◌+◌, ◌≤◌}
use native.Mathlib.Omega.{arith}
use Rattle.grid.specs.declared.Plan.{Plan}
use Rattle.grid.specs.declared.Place.{Place}
use Rattle.grid.specs.declared.Rectangle.{Rectangle}
use Rattle.grid.specs.Plan.{CellInside}
use Rattle.grid.specs.Spans.{neighbourhood}
use Rattle.grid.proofs.Laws.{cell_number_lt}
use Rattle.closure.specs.Ready.{TableSize}
use Rattle.closure.specs.Walk.{at}
use Rattle.closure.proofs.Sweeps.{sweep_none, sweep_more}
use Rattle.closure.proofs.Places.{Sited, sited}
use Rattle.closure.proofs.Becoming.{stays, same, steps}
use Rattle.closure.proofs.Model.{refine_done, refine_opened, near_plain, near_low, near_over, Lower, lower}
use Rattle.closure.proofs.Table.+refine_cell_refine_neighbourhood.Goals as goal
use Rattle.closure.proofs.Table.+refine_cell_refine_neighbourhood.Goals.{refine_neighbourhood-In-loop-column}

-- ---- the cell

pub refine_cell-bounds-self-number : goal.refine_cell-bounds-self-number
refine_cell-bounds-self-number t c =
    let a = c.args in
    omega (arith, cell_number_lt a.self.now.plan c.args.self.now.size.range a.place c.requires.cell_inside, c.args.self.now.size.size, c.requires.cell_value)

pub refine_cell-returns-then-self-number-eq2 : goal.refine_cell-returns-then-self-number-eq2
refine_cell-returns-then-self-number-eq2 t c = λ n l.
    stays (refine_done _ _ _ n l (rw (← c.requires.cell_value) c.if-self-number-eq2.true))

pub refine_cell-returns : goal.refine_cell-returns
refine_cell-returns t c = λ n l.
    let b = c.refine_neighbourhood.ensures in
    let near = b c.args.place.level (omega arith) in
    steps near c.write_cell.ensures (refine_opened _ _ _ n _ l (rw (← c.requires.cell_value) c.if-self-number-eq2.false) (λ m k. sym near.cells ∙ (b m k).cells))

-- ---- its neighbourhood

pub refine_neighbourhood-returns-then-class-eq0 : goal.refine_neighbourhood-returns-then-class-eq0
refine_neighbourhood-returns-then-class-eq0 t c = λ n l. stays (near_plain _ _ _ _ c.if-class-eq0.true)

pub refine_neighbourhood-returns-then-level-class : goal.refine_neighbourhood-returns-then-level-class
refine_neighbourhood-returns-then-level-class t c = λ n l. stays (near_low _ _ _ _ c.if-class-eq0.false c.if-level-class.true)

-- the rectangle that is walked
walked : {p : Plan} {x : Place} {r : Rectangle} {n : ℕ} → r ≡ neighbourhood p x → TableSize p n → CellInside p x → (p.class ≡ 0 → ⊥) → p.class ≤ x.level + 1 → Lower p x r
walked e size inside class≢ level≥ = lower e size.range inside (record { class≢ = class≢; level≥ = level≥ })

pub refine_neighbourhood-cell_offset-offset-requires-clause-level_le_levels :
    goal.refine_neighbourhood-cell_offset-offset-requires-clause-level_le_levels
refine_neighbourhood-cell_offset-offset-requires-clause-level_le_levels t c =
    let down = (walked c.neighbourhood-near.ensures c.args.self.now.size c.requires.cell_inside c.if-class-eq0.false c.if-level-class.false).level< in
    omega arith

pub refine_neighbourhood-columns_at-width-requires-clause-level_lt_levels :
    goal.refine_neighbourhood-columns_at-width-requires-clause-level_lt_levels
refine_neighbourhood-columns_at-width-requires-clause-level_lt_levels t c =
    let down = (walked c.neighbourhood-near.ensures c.args.self.now.size c.requires.cell_inside c.if-class-eq0.false c.if-level-class.false).level< in
    omega arith

pub refine_neighbourhood-loop-row-init : goal.refine_neighbourhood-loop-row-init
refine_neighbourhood-loop-row-init t c = λ n l. stays (sweep_none _ _ _)

pub refine_neighbourhood-loop-column-init : goal.refine_neighbourhood-loop-column-init
refine_neighbourhood-loop-column-init t c = λ n l. stays (sweep_none _ _ _)

-- the cell that is reached
reached : (t : ℕ) (c : refine_neighbourhood-In-loop-column t) → CellInside c.args.self.now.plan (at c.neighbourhood-near.result.level c.loop-row.row c.loop-column.column)
reached t c =
    let k = walked c.neighbourhood-near.ensures c.args.self.now.size c.requires.cell_inside c.if-class-eq0.false c.if-level-class.false in
    k.inside c.loop-row.row c.loop-column.column (omega arith) (omega arith)

site : (t : ℕ) (c : refine_neighbourhood-In-loop-column t)
    → Sited c.args.self.now.plan (at c.neighbourhood-near.result.level c.loop-row.row c.loop-column.column) c.cell_offset-offset.result c.columns_at-width.result
site t c = sited c.args.self.now.size (reached t c) c.cell_offset-offset.ensures c.columns_at-width.ensures

pub refine_neighbourhood-overflow_mul-number : goal.refine_neighbourhood-overflow_mul-number
refine_neighbourhood-overflow_mul-number t c = omega (arith, site t c)

pub refine_neighbourhood-overflow_add-number : goal.refine_neighbourhood-overflow_add-number
refine_neighbourhood-overflow_add-number t c = omega (arith, site t c, c.args.self.now.size.small)

pub refine_neighbourhood-overflow_add-number-in-loop-column :
    goal.refine_neighbourhood-overflow_add-number-in-loop-column
refine_neighbourhood-overflow_add-number-in-loop-column t c = omega (arith, site t c, c.args.self.now.size.small)

-- the plan stays
plan_is : (t : ℕ) (c : refine_neighbourhood-In-loop-column t) → c.loop-column.self.plan ≡ c.args.self.now.plan
plan_is t c = (c.loop-column.invariant c.args.place.level (omega arith)).plan ∙ (c.loop-row.invariant c.args.place.level (omega arith)).plan

pub refine_neighbourhood-refine_cell-requires : goal.refine_neighbourhood-refine_cell-requires
refine_neighbourhood-refine_cell-requires t c =
    let i = (goal.at.refine_neighbourhood-refine_cell-requires t c).In-loop-column in
    let down = (walked c.neighbourhood-near.ensures c.args.self.now.size c.requires.cell_inside c.if-class-eq0.false c.if-level-class.false).level< in
    (omega (arith, c.decreases), rw (plan_is t i) (reached t i, ((site t i).same, omega arith)))

pub refine_neighbourhood-loop-column-preserved : goal.refine_neighbourhood-loop-column-preserved
refine_neighbourhood-loop-column-preserved t c =
    let l = c.loop-column in
    let k = walked c.neighbourhood-near.ensures c.args.self.now.size c.requires.cell_inside c.if-class-eq0.false c.if-level-class.false in
    λ n m.
    steps (l.invariant n m) (c.refine_cell.ensures n (omega (arith, k.level<))) (sweep_more _ _ l.column _ l.auto.column)

pub refine_neighbourhood-loop-row-preserved : goal.refine_neighbourhood-loop-row-preserved
refine_neighbourhood-loop-row-preserved t c =
    let l = c.loop-row in
    let k = walked c.neighbourhood-near.ensures c.args.self.now.size c.requires.cell_inside c.if-class-eq0.false c.if-level-class.false in
    let e : c.loop-column.column ≡ c.neighbourhood-near.result.columns.end = omega (arith, k.columns≤) in
    λ n m.
    steps (l.invariant n m) (c.loop-column.invariant n m) (rw e (sweep_more _ _ l.row _ l.auto.row))

pub refine_neighbourhood-returns : goal.refine_neighbourhood-returns
refine_neighbourhood-returns t c = λ n l.
    let k = walked c.neighbourhood-near.ensures c.args.self.now.size c.requires.cell_inside c.if-class-eq0.false c.if-level-class.false in
    let e : c.loop-row.row ≡ c.neighbourhood-near.result.rows.end = omega (arith, k.rows≤) in
    same (c.loop-row.invariant n l) (rw e (near_over _ _ _ _ c.neighbourhood-near.ensures c.if-class-eq0.false c.if-level-class.false))
