-- A whole session, from the bytes of its input to those of its output. Every place named here is in document 01, "The session
-- program". Definitions only.
use Rattle.std.specs.Prelude.{cond, List, [], ◌∷◌, ◌++◌, ℕ, eqb, ltb, take, replicate}
use Rattle.grid.specs.declared.Plan.{Plan}
use Rattle.grid.specs.Plan.{plan_of, cell_total, function_total}
use Rattle.mesh.specs.Mesh.{Opened, open_mesh}
use Rattle.outcomes.specs.Calls.{Direction, refine, coarsen, By, cells, functions, Outcome, outcome}
use Rattle.lines.specs.declared.Kind.{Kind}
use Rattle.lines.specs.declared.Kind.TheVariants.{Unreadable, Wall, Split, Join, SplitFunctions, JoinFunctions}
use Rattle.lines.specs.Reading.{lines_of, meaning}
use Rattle.lines.specs.Writing.{answer, question, large}
use Rattle.script.specs.Bounds.{input_bytes, wall_cells}

-- what is in hand between two lines: no wall, or a plan with its cell table and its function table
pub data State : Type 0 where
  no_wall : State
  wall : Plan → List ℕ → List ℕ → State

-- what a line leaves in hand, and what it prints
pub record Reply : Type 0 where
  pub state : State
  pub printed : List ℕ

abbrev pub reply : State → List ℕ → Reply
reply s text = record { state = s; printed = text }

-- a table or a list of n entries before anything is written to it
abbrev pub blank : ℕ → List ℕ
blank n = replicate n 0

-- ---- "`wall` with the plan"

-- "A refused or `large` wall keeps the earlier one"; "An allowed wall above 4,096 cells prints `large`"
abbrev pub settled : State → Plan → Opened → Reply
settled earlier p o =
    cond (eqb o.number 0)
    (cond (ltb wall_cells (cell_total p)) (reply earlier large) (reply (wall p o.cells o.functions) (answer o.number [] [])))
    (reply earlier (answer o.number [] []))

unfoldable pub opening : State → Plan → Reply
opening earlier p = settled earlier p (open_mesh p (blank (cell_total p)) (blank (function_total p)))

-- ---- "`split`, `join`, `fsplit`, `fjoin` with up to 64 marks"

-- "the answer number, cell list and function list": the lists as far as the answered lengths
abbrev pub shown : Outcome → List ℕ
shown o = answer o.answer.number (take o.answer.cells o.cell_list) (take o.answer.functions o.function_list)

-- "a mark line before any wall, prints `?`"; "Its lists have T and F entries"
unfoldable pub calling : Direction → By → State → List ℕ → Reply
calling d by no_wall marks = reply no_wall question
calling d by (wall p cs fs) marks =
    let o = outcome d by p cs fs marks (blank (cell_total p)) (blank (function_total p)) in
    reply (wall p o.cells o.functions) (shown o)

-- ---- lines

-- what a line of this kind with these numbers does; "A line it cannot read .. prints `?`"
abbrev pub obey : Kind → State → List ℕ → Reply
obey Unreadable s ns = reply s question
obey Wall s ns = opening s (plan_of ns)
obey Split s ns = calling refine cells s ns
obey Join s ns = calling coarsen cells s ns
obey SplitFunctions s ns = calling refine functions s ns
obey JoinFunctions s ns = calling coarsen functions s ns

-- a line without its line feed
unfoldable pub step_of : State → List ℕ → Reply
step_of s line = obey (meaning line).kind s (meaning line).numbers

-- what each of the lines prints, where the first of them finds s in hand
unfoldable pub replies_from : State → List (List ℕ) → List (List ℕ)
replies_from s [] = []
replies_from s (l ∷ ls) = let r = step_of s l in r.printed ∷ replies_from r.state ls

-- "It reads at most 16,384 bytes from standard input and ignores the rest": what each line of an input prints
unfoldable pub replies : List ℕ → List (List ℕ)
replies input = replies_from no_wall (lines_of (take input_bytes input))

unfoldable pub joined : List (List ℕ) → List ℕ
joined [] = []
joined (t ∷ ts) = t ++ joined ts

-- all that is printed, in order
unfoldable pub session : List ℕ → List ℕ
session input = joined (replies input)
