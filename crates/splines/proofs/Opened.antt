-- The knots of a side are open. Assumes nothing.
use Rattle.grid.specs.declared.Side.{Side}
use Rattle.grid.specs.Knots.{times}
use Rattle.grid.specs.Side.{Sized}
use Rattle.grid.proofs.Knots.{some_cells, times_start, times_end, times_least, times_most}
use Rattle.splines.proofs.Local.{Open}

pub open_times : (s : Side) → Sized s → Open s.degree s.cells (times s)
open_times s z = record {
  some = some_cells s z;
  near = times_start s z;
  far = times_end s z;
  least = λ j l. times_least s z j;
  most = times_most s z;
}
