-- `eligible_cells` meets its contract: refining, the table itself has byte 1 at the active cells, and the last level begins at its offset.
-- Assumes nothing.
use mathlib.Core.Path.{ap}
use Rattle.calls.specs.Parts.{direction_of}
use Rattle.calls.proofs.Eligible.{kinds_are, refine_eligible_cells, coarsen_eligible_cells}
use Rattle.calls.proofs.eligible_cells.Goals as goal

pub returns-in-Refine : goal.returns-in-Refine
returns-in-Refine c = let s = c in λ fs.
    kinds_are (ap direction_of c.in-Refine.is) c.cell_offset.ensures c.copy_bytes.ensures (refine_eligible_cells s.args.plan s.requires.in_range s.args.cells.now fs s.requires.cells_len.0)

pub returns-in-Coarsen : goal.returns-in-Coarsen
returns-in-Coarsen c = let a = c.args in λ fs.
    kinds_are (ap direction_of c.in-Coarsen.is) c.cell_total.ensures c.reactivable_cells.ensures (coarsen_eligible_cells a.plan a.cells.now fs)
