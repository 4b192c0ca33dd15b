-- The numbers of the refusals (document 01, "The refusal table", and document 02), and 0 for a call that is not refused. Definitions only.
use Rattle.std.specs.Prelude.{Result, Ok, Err, ℕ}
use Rattle.refusals.specs.declared.Refusal.{Refusal}
use Rattle.refusals.specs.declared.Refusal.TheVariants.{PlanOutOfRange, TooManyCells, TableLength, NotAMesh, NotAdmissible, WrongFunctionByte, MarkOutOfRange, MarkOfWrongKind, MarkOfLastLevel, CellListTooShort, FunctionListTooShort, MalformedFile, TrailingBytes, PlanWithoutHeights, PointOrHeightOutOfRange, TooManyCellsToProject, CarriedHeightOutOfRange, DraftOpen, NoDraft, RefinedCellNotWanted}

abbrev pub number : Refusal → ℕ
number PlanOutOfRange = 1
number TooManyCells = 2
number TableLength = 3
number NotAMesh = 4
number NotAdmissible = 5
number WrongFunctionByte = 6
number MarkOutOfRange = 7
number MarkOfWrongKind = 8
number MarkOfLastLevel = 9
number CellListTooShort = 10
number FunctionListTooShort = 11
number MalformedFile = 12
number TrailingBytes = 13
number PlanWithoutHeights = 14
number PointOrHeightOutOfRange = 15
number TooManyCellsToProject = 16
number CarriedHeightOutOfRange = 17
number DraftOpen = 18
number NoDraft = 19
number RefinedCellNotWanted = 20

-- 0, or why a call is refused
abbrev pub number_of : {A : Type 0} → Result A Refusal → ℕ
number_of (Ok x) = 0
number_of (Err r) = number r
