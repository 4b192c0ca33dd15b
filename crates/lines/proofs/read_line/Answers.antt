-- `read_line` meets its contract. Assumes nothing.
use mathlib.Core.Path.{sym, ap}
use mathlib.Core.List.{List, ◌++◌}
use Prim.Native.Nat.{ℕ}
use native.Mathlib.Omega.{arith}
use lib.ListN.{drop}
use lib.Seq.{length-take-le}
use Rattle.lines.proofs.Texts.{up_to_inside}
use Rattle.lines.proofs.Fields.{line_bad, line_not, line_read, no_room}
use Rattle.lines.proofs.read_line.Goals as goal

pub returns-then-numbers-lt64 : goal.returns-then-numbers-lt64
returns-then-numbers-lt64 c = no_room _ _ c.if-numbers-lt64.true

pub slice_bounds-kind_of-end : goal.slice_bounds-kind_of-end
slice_bounds-kind_of-end c = let line = c.args.line.now in
    sym (length-take-le c.find-end.result line (omega (arith, c.find-end.ensures, up_to_inside 32 line 0 (omega arith))))

pub returns-in_default : goal.returns-in_default
returns-in_default c =
    line_bad c.args.line.now c.find-end.result c.kind_of-kind.result c.find-end.ensures c.kind_of-kind.ensures _ (omega arith) c.in_default.ensures

pub returns-then-not-fits : goal.returns-then-not-fits
returns-then-not-fits c =
    line_not c.args.line.now c.find-end.result c.kind_of-kind.result c.find-end.ensures c.kind_of-kind.ensures _ (omega arith)
    c.in-Some.count c.in-Some.ensures (sym c.if-not-fits.ensures)

pub returns : goal.returns
returns c = let a = c.args in
    let n = c.in-Some.count in
    line_read a.line.now c.find-end.result c.kind_of-kind.result c.find-end.ensures c.kind_of-kind.ensures a.numbers.now (omega arith)
    n c.in-Some.ensures _ (sym c.if-not-fits.ensures) (ap (λ (x : List ℕ). x ++ drop n a.numbers.now) c.store_numbers.ensures)
