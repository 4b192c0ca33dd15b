-- Which call a line asks for, and what the code leaves of a call and its answer. Definitions only.
use Rattle.std.specs.Prelude.{◌≡◌, List, ℕ}
use Rattle.lines.specs.declared.Kind.{Kind}
use Rattle.lines.specs.declared.Kind.TheVariants.{Unreadable, Wall, Split, Join, SplitFunctions, JoinFunctions}
use Rattle.outcomes.specs.Calls.{Direction, refine, coarsen, By, cells, functions, Outcome}
use Rattle.script.specs.Session.{shown}
use Rattle.script.specs.Steps.{Said}

-- the call that a kind of line asks for
abbrev pub direction_of : Kind → Direction
direction_of Unreadable = coarsen
direction_of Wall = coarsen
direction_of Split = refine
direction_of Join = coarsen
direction_of SplitFunctions = refine
direction_of JoinFunctions = coarsen

abbrev pub by_of : Kind → By
by_of Unreadable = functions
by_of Wall = functions
by_of Split = cells
by_of Join = cells
by_of SplitFunctions = functions
by_of JoinFunctions = functions

-- a call with its answer: both tables, and what stands in the buffer
pub record Answered (o : Outcome) (count : ℕ) (cs fs out : List ℕ) : Type 0 where
  pub cells : cs ≡ o.cells
  pub functions : fs ≡ o.functions
  pub said : Said (shown o) count out
