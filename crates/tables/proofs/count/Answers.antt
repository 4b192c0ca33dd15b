-- `tables::count` meets its contract. The tables passed check, so the counts are small and the area is that of any mesh. Assumes nothing.
use mathlib.Core.Path.{refl, sym}
use Rattle.refusals.proofs.Refused.{refused, handed_on}
use Rattle.mesh.proofs.Bridge.{check_good}
use Rattle.tables.proofs.Calls.{short_cells, short_functions, counted, uncounted}
use Rattle.tables.proofs.count.Goals as goal

pub returns-in_err-check : goal.returns-in_err-check
returns-in_err-check c = rw (handed_on _ c.from_residual.ensures.1) (uncounted _ _ _ c.in_err-check.ensures (refused c.in_err-check.field-0.0))

pub tally-requires : goal.tally-requires
tally-requires c = short_cells _ _ _ (sym c.in_ok-check.ensures)

pub tally-requires-2 : goal.tally-requires-2
tally-requires-2 c = short_cells _ _ _ (sym c.in_ok-check.ensures)

pub tally-requires-3 : goal.tally-requires-3
tally-requires-3 c = short_functions _ _ _ (sym c.in_ok-check.ensures)

pub area-requires : goal.area-requires
area-requires c = (check_good _ _ _ (sym c.in_ok-check.ensures)).0.range

pub returns : goal.returns
returns c = counted _ _ _ c.in_ok-check.ensures refl c.tally.ensures c.tally-2.ensures c.tally-3.ensures c.area.ensures
