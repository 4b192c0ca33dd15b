-- `tables::open` meets its contract. Nothing is written before the refusals are decided. Assumes nothing.
use mathlib.Core.Path.{refl, sym}
use Rattle.refusals.proofs.Refused.{refused, handed_on}
use Rattle.mesh.proofs.Bridge.{Passed, passed}
use Rattle.tables.proofs.Calls.{first_cells, first_functions, opened, unopened}
use Rattle.tables.proofs.open.Goals as goal
use Rattle.tables.proofs.open.Goals.{In_ok-refusal}

pub returns-in_err-refusal : goal.returns-in_err-refusal
returns-in_err-refusal c = let whole = unopened _ _ _ c.in_err-refusal.ensures (refused c.in_err-refusal.field-0.0) in
    record { number = rw (handed_on _ c.from_residual.ensures.1) whole.0; cells = whole.1.0; functions = whole.1.1 }

sized : (c : In_ok-refusal) → let a = c.args in Passed a.plan a.cells.now a.functions.now
sized c = passed _ _ _ (sym c.in_ok-refusal.ensures)

pub cell_offset-requires : goal.cell_offset-requires
cell_offset-requires c = let k = sized (goal.at.cell_offset-requires c).In_ok-refusal in record { in_range = k.range; level_le_levels = k.range.levels≥ }

pub fresh-requires : goal.fresh-requires
fresh-requires c = rw c.cell_offset.ensures (first_cells _ _ _ (sized (goal.at.fresh-requires c).In_ok-refusal))

pub function_offset-requires : goal.function_offset-requires
function_offset-requires c = let k = sized (goal.at.function_offset-requires c).In_ok-refusal in record { in_range = k.range; level_le_levels = k.range.levels≥ }

pub fresh-requires-2 : goal.fresh-requires-2
fresh-requires-2 c = rw c.function_offset.ensures (first_functions _ _ _ (sized (goal.at.fresh-requires-2 c).In_ok-refusal))

pub returns : goal.returns
returns c = let whole = opened _ _ _ c.fresh.new.table c.fresh-2.new.table c.in_ok-refusal.ensures refl c.cell_offset.ensures c.fresh.ensures c.function_offset.ensures c.fresh-2.ensures in
    record { number = whole.0; cells = whole.1.0; functions = whole.1.1 }
