-- `flag_marks` meets its contract: each arm is the function of that kind of marks. Assumes nothing.
use mathlib.Core.Path.{ap}
use Rattle.mesh.proofs.Bridge.{check_passed}
use Rattle.calls.specs.Parts.{by_of}
use Rattle.calls.proofs.Flags.{flags_are}
use Rattle.calls.proofs.flag_marks.Goals as goal

pub flag_cells-requires : goal.flag_cells-requires
flag_cells-requires c = let s = c in
    let P = check_passed _ _ _ s.requires.functions_value in
    record { in_range = P.range; cells_len = (P.cells, s.requires.scratch.flags_are) }

pub returns-in-Cells : goal.returns-in-Cells
returns-in-Cells c = flags_are (ap by_of c.in-Cells.is) (c.flag_cells.ensures c.args.functions.now)

pub returns-in-Functions : goal.returns-in-Functions
returns-in-Functions c = flags_are (ap by_of c.in-Functions.is) c.flag_functions.ensures
