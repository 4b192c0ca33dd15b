-- How the contracts of whole calls and of their two steps are said: what the lent slices hold at entry and at exit, as an outcome, or as
-- what a step leaves. Definitions only.
use Rattle.std.specs.Prelude.{◌≡◌, List, ℕ}
use Rattle.outcomes.specs.declared.Answer.{Answer}
use Rattle.outcomes.specs.Calls.{Outcome}
use Rattle.outcomes.specs.Steps.{Settled, Relabelled}
use Rattle.std.specs.Borrow.{Bor, MutBor}
use denote.Triple.Both.{Both}

-- an answer, both tables and both lists as one outcome
abbrev pub outcome_of : Answer → List ℕ → List ℕ → List ℕ → List ℕ → Outcome
outcome_of a cs fs cl fl = record { answer = a; cells = cs; functions = fs; cell_list = cl; function_list = fl }

-- what a slice that a function may write holds at entry and at exit, and one that it only reads

abbrev pub Lent : Type 0
Lent = Both (MutBor (List ℕ)) (MutBor (List ℕ))

abbrev pub Seen : Type 0
Seen = Both (Bor (List ℕ)) (Bor (List ℕ))

-- an answer, with the tables and lists as the function leaves them
abbrev pub left : Answer → Lent → Lent → Lent → Lent → Outcome
left r cells functions cell_list function_list = outcome_of r cells.exit.now functions.exit.now cell_list.exit.now function_list.exit.now

-- an answer, with the cells and their list as the first step leaves them
abbrev pub left_cells : Answer → Lent → Lent → Settled
left_cells r cells cell_list = record { answer = r; cells = cells.exit.now; cell_list = cell_list.exit.now }

-- a count, with the functions and their list as the second step leaves them
abbrev pub left_functions : ℕ → Lent → Lent → Relabelled
left_functions n functions function_list = record { count = n; functions = functions.exit.now; function_list = function_list.exit.now }

-- the outcome is what the call, a definition, makes of the tables, marks and lists that the function finds
abbrev pub Meets : (List ℕ → List ℕ → List ℕ → List ℕ → List ℕ → Outcome) → Answer → Lent → Lent → Seen → Lent → Lent → Type 0
Meets call r cells functions marks cell_list function_list =
    left r cells functions cell_list function_list
    ≡ call cells.entry.now functions.entry.now marks.entry.now cell_list.entry.now function_list.entry.now
