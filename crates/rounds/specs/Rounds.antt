-- Document 02, Req 13: "From this wall to that one". Rounds of marks that lead from today's mesh to a wanted one, and the call that gives
-- them, as one function of its whole input. Names as in outcomes/specs/Calls.antt; ws and wf are the wanted tables. Definitions only.
use Rattle.std.specs.Prelude.{Bool, not, ◌&&◌, ◌||◌, cond, ℕ, zero, suc, ◌-◌, eqb, ltb, length}
use mathlib.Core.List.{List, [], ◌∷◌, map, flatten}
use Rattle.facts.specs.Bounded.{some}
use Rattle.facts.specs.Numbers.{listed, tabulate}
use Rattle.grid.specs.declared.Plan.{Plan}
use Rattle.grid.specs.Plan.{cell_total, function_total, cell_level}
use Rattle.mesh.specs.Mesh.{active, refined}
use Rattle.outcomes.specs.Calls.{refine, written}
use Rattle.outcomes.specs.Calls as calls
use Rattle.outcomes.specs.Runs.{Tables, LentLists, Call, after}
use Rattle.drafts.specs.Drafts.{after6}
use Rattle.rounds.specs.declared.RoundsAnswer.{RoundsAnswer}

-- ---- the rounds

-- "round k holds, in rising order, the wanted split cells of level k that are active by then", where cs are the cells by then
unfoldable pub marks_on : Plan → List ℕ → ℕ → List ℕ → List ℕ
marks_on p ws k cs = listed (cell_total p) (λ c. eqb (cell_level p c) k && (refined ws c && active cs c))

-- marks "as a split by cells"
abbrev pub as_call : List ℕ → LentLists → Call
as_call marks room = record { direction = refine; by = calls.cells; marks = marks; room = room }

-- lists that are long enough for any call: an entry for each cell, and one for each function
abbrev pub ample : Plan → LentLists
ample p = record { cells = tabulate (cell_total p) (λ i. 0); functions = tabulate (function_total p) (λ i. 0) }

-- the tables by round k: today's, t, after the rounds before it
unfoldable pub by_round : Plan → Tables → List ℕ → ℕ → Tables
by_round p t ws zero = t
by_round p t ws (suc k) =
    let u = by_round p t ws k in
    after p u (as_call (marks_on p ws k u.cells) (ample p))

-- the marks of round k
abbrev pub round : Plan → Tables → List ℕ → ℕ → List ℕ
round p t ws k = marks_on p ws k (by_round p t ws k).cells

-- f k, f (k + 1) and so on, n of them
unfoldable pub in_turn : {A : Type 0} → (ℕ → A) → ℕ → ℕ → List A
in_turn f k zero = []
in_turn f k (suc n) = f k ∷ in_turn f (suc k) n

-- "rounds of cell marks, one for each level but the last, empty rounds kept"
unfoldable pub rounds : Plan → Tables → List ℕ → List (List ℕ)
rounds p t ws = in_turn (round p t ws) 0 (p.levels - 1)

-- ---- refusals

-- 20: "a cell split today is not split in the wanted wall"
unfoldable pub losing : Plan → List ℕ → List ℕ → Bool
losing p cs ws = some (cell_total p) (λ c. refined cs c && not (refined ws c))

-- "20, after today's wall and then the wanted one pass 1 to 6"
unfoldable pub refusal : Plan → List ℕ → List ℕ → List ℕ → List ℕ → ℕ
refusal p cs fs ws wf = after6 p cs fs (after6 p ws wf (cond (losing p cs ws) 20 0))

-- ---- the call

-- "a number and both lists' lengths", and both lists
pub record RoundsOutcome : Type 0 where
  pub answer : RoundsAnswer
  pub marks : List ℕ
  pub lengths : List ℕ

-- a refusal answers its number, with zero lengths; both lists keep their values
unfoldable pub refused : ℕ → List ℕ → List ℕ → RoundsOutcome
refused n ml ll = record { answer = record { number = n; marks = 0; rounds = 0 }; marks = ml; lengths = ll }

-- when the rounds are known, `all`: "10, last, where the lent lists are short"; or "The marks stand round after round in one lent list, the
-- L-1 round lengths in another", and entries past what is written keep their values
unfoldable pub filled : List (List ℕ) → List ℕ → List ℕ → RoundsOutcome
filled all ml ll =
    cond (ltb (length ml) (length (flatten all)) || ltb (length ll) (length all)) (refused 10 ml ll)
    (record {
      answer = record { number = 0; marks = length (flatten all); rounds = length all };
      marks = written (flatten all) ml;
      lengths = written (map length all) ll;
    })

-- plan, today's tables, the wanted tables and both lent lists to the answer and both lists
unfoldable pub find_rounds : Plan → List ℕ → List ℕ → List ℕ → List ℕ → List ℕ → List ℕ → RoundsOutcome
find_rounds p cs fs ws wf ml ll =
    let n = refusal p cs fs ws wf in
    cond (eqb n 0) (filled (rounds p (record { cells = cs; functions = fs }) ws) ml ll) (refused n ml ll)
