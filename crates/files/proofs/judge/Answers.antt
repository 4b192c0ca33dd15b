-- `judge` meets its contract: the head, then the cells, then the corners. Assumes nothing.
use Rattle.files.proofs.Decoding.{file_no_head, count_small, file_no_cells, file_no_corners, file_good}
use Rattle.files.proofs.judge.Goals as goal

pub returns-in_err-first : goal.returns-in_err-first
returns-in_err-first c = let seven = c.read_all.auto.numbers in
    rw c.from_residual.ensures (file_no_head c.args.s.now (rw seven at c.in_err-first.ensures))

pub read_cells-requires : goal.read_cells-requires
read_cells-requires c = let f = c.in_ok-first.ensures in
    record { from_in_bounds = f.inside; count_lt_number_limit = count_small c.read_all.auto.numbers f }

pub returns-in_err-cells : goal.returns-in_err-cells
returns-in_err-cells c =
    rw c.from_residual-in_err-cells.ensures (file_no_cells c.read_all.auto.numbers c.in_ok-first.ensures c.in_err-cells.ensures)

pub read_corners-requires : goal.read_corners-requires
read_corners-requires c = let f = c.in_ok-cells.ensures in f.inside

pub returns-in_err-corners : goal.returns-in_err-corners
returns-in_err-corners c =
    rw c.from_residual-in_err-corners.ensures (file_no_corners c.read_all.auto.numbers c.in_ok-first.ensures c.in_ok-cells.ensures c.in_err-corners.ensures)

pub returns : goal.returns
returns c = file_good c.read_all.auto.numbers c.in_ok-first.ensures c.in_ok-cells.ensures c.in_ok-corners.ensures c.plan_with-plan.ensures
