-- No refusal has the number 0; what a `?` hands on is the refusal that it got. Assumes nothing.
use Rattle.std.proofs.Common.{◌≡◌, ap, ◌∙◌, Result, Err}
use Rattle.std.specs.Result.{IsErrAnd}
use Rattle.std.proofs.lemmas.Result.{err_from_is_err_and}
use Rattle.std.proofs.Common.{◌≢◌, arith}
use Rattle.refusals.specs.declared.Refusal.{Refusal}
use Rattle.refusals.specs.declared.Refusal.TheVariants.{PlanOutOfRange, TooManyCells, TableLength, NotAMesh, NotAdmissible, WrongFunctionByte, MarkOutOfRange, MarkOfWrongKind, MarkOfLastLevel, CellListTooShort, FunctionListTooShort, MalformedFile, TrailingBytes, PlanWithoutHeights, PointOrHeightOutOfRange, TooManyCellsToProject, CarriedHeightOutOfRange, DraftOpen, NoDraft, RefinedCellNotWanted}
use Rattle.refusals.specs.Numbers.{number}

pub refused : (r : Refusal) → number r ≢ 0
refused PlanOutOfRange e = omega arith
refused TooManyCells e = omega arith
refused TableLength e = omega arith
refused NotAMesh e = omega arith
refused NotAdmissible e = omega arith
refused WrongFunctionByte e = omega arith
refused MarkOutOfRange e = omega arith
refused MarkOfWrongKind e = omega arith
refused MarkOfLastLevel e = omega arith
refused CellListTooShort e = omega arith
refused FunctionListTooShort e = omega arith
refused MalformedFile e = omega arith
refused TrailingBytes e = omega arith
refused PlanWithoutHeights e = omega arith
refused PointOrHeightOutOfRange e = omega arith
refused TooManyCellsToProject e = omega arith
refused CarriedHeightOutOfRange e = omega arith
refused DraftOpen e = omega arith
refused NoDraft e = omega arith
refused RefinedCellNotWanted e = omega arith

pub handed_on : {A : Type 0} {e : Refusal} (r : Result A Refusal) → IsErrAnd r (λ y. y ≡ e) → r ≡ Err e
handed_on r h = let p = err_from_is_err_and r h in p.1 ∙ ap Err p.2
