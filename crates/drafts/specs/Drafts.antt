-- Document 02, Req 10: "A draft kept open". What each call on a draft, and each other call with one, makes of its whole input. Names as in
-- outcomes/specs/Calls.antt; d is the draft, a value that goes in and comes back, and dl the lent list with its marks. Definitions only.
use Rattle.std.specs.Prelude.{Bool, not, ◌&&◌, cond, List, ℕ, ◌+◌, eqb, leb, ltb, ℤ, length, take}
use Rattle.facts.specs.Numbers.{first}
use Rattle.facts.specs.Writing.{written_at}
use Rattle.grid.specs.declared.Plan.{Plan}
use Rattle.mesh.specs.Mesh.{check, open_mesh}
use Rattle.outcomes.specs.Calls.{Direction, refine, By, cells, mark_refusal, Outcome, refused, outcome}
use Rattle.refining.specs.Refining.{WithHeights, refused_with, outcome_with_heights}
use Rattle.files.specs.File.{read_mesh}
use Rattle.drafts.specs.declared.Draft.{Draft}
use Rattle.drafts.specs.declared.DraftAnswer.{DraftAnswer}

-- any number other than 0 is open; but "A draft handed in with more marks than its list has entries counts as not open"
unfoldable pub is_open : Draft → List ℕ → Bool
is_open d dl = not (eqb d.«open» 0) && leb d.marks (length dl)

abbrev pub no_draft : Draft
no_draft = record { «open» = 0; marks = 0 }

-- the marks that a draft has collected
abbrev pub marks_of : Draft → List ℕ → List ℕ
marks_of d dl = take d.marks dl

-- the draft after a call with this answer that ends it: none if accepted, and as it was if refused
abbrev pub ended_by : ℕ → Draft → Draft
ended_by n d = cond (eqb n 0) no_draft d

-- ---- 18 and 19

-- the first of 1 to 6; where they do not refuse, n
abbrev pub after6 : Plan → List ℕ → List ℕ → ℕ → ℕ
after6 p cs fs n = cond (eqb (check p cs fs) 0) n (check p cs fs)

module _ (p : Plan) (cs fs : List ℕ) (d : Draft) (dl : List ℕ) where
  -- "18 for a split, a join or a second draft while one is open, directly after 6"
  unfoldable pub refusal18 : ℕ
  refusal18 = after6 p cs fs (cond (is_open d dl) 18 0)

  -- "19 for adding, closing or dropping with none open, after 6"
  unfoldable pub refusal19 : ℕ
  refusal19 = after6 p cs fs (cond (is_open d dl) 0 19)

  -- ---- the calls on a draft. Each answers the draft too; refused, it is as it was

  -- opening one: it has no marks
  unfoldable pub open_draft : DraftAnswer
  open_draft =
      let n = refusal18 in
      record { number = n; draft = cond (eqb n 0) (record { «open» = 1; marks = 0 }) d }

  -- "Dropping it changes no table"
  unfoldable pub drop_draft : DraftAnswer
  drop_draft =
      let n = refusal19 in
      record { number = n; draft = ended_by n d }

  -- adding marks: "each mark judged against the wall when added", "and 10, after 7 to 9, where an added mark overfills the list"
  unfoldable pub add_refusal : List ℕ → ℕ
  add_refusal marks =
      let n = refusal19 in
      let m = first (mark_refusal refine cells p cs fs) marks in
      cond (eqb n 0) (cond (eqb m 0) (cond (ltb (length dl) (d.marks + length marks)) 10 0) m) n

-- an answer, and the list of marks
pub record Added : Type 0 where
  pub answer : DraftAnswer
  pub list : List ℕ

-- "repeats taking an entry each. A refused add adds none of its marks"
unfoldable pub add_marks : Plan → List ℕ → List ℕ → Draft → List ℕ → List ℕ → Added
add_marks p cs fs d dl marks =
    let n = add_refusal p cs fs d dl marks in
    cond (eqb n 0)
    (record { answer = record { number = 0; draft = record { «open» = d.«open»; marks = d.marks + length marks } }; list = written_at dl d.marks marks })
    (record { answer = record { number = n; draft = d }; list = dl })

-- what a call without a draft leaves, and the draft
pub record Closed : Type 0 where
  pub outcome : Outcome
  pub draft : Draft

-- "Closing it has the effect, lists and refusals of a single split by cells with all its marks, no heights and no draft; a refused close leaves
-- it open"
unfoldable pub close_draft : Plan → List ℕ → List ℕ → Draft → List ℕ → List ℕ → List ℕ → Closed
close_draft p cs fs d dl cl fl =
    let n = refusal19 p cs fs d dl in
    let o = outcome refine cells p cs fs (marks_of d dl) cl fl in
    cond (eqb n 0) (record { outcome = o; draft = ended_by o.answer.number d }) (record { outcome = refused n cs fs cl fl; draft = d })

-- ---- the other calls, with a draft

-- splits and joins
unfoldable pub outcome_with_draft : Direction → By → Plan → List ℕ → List ℕ → Draft → List ℕ → List ℕ → List ℕ → List ℕ → Outcome
outcome_with_draft way by p cs fs d dl marks cl fl =
    let n = refusal18 p cs fs d dl in
    cond (eqb n 0) (outcome way by p cs fs marks cl fl) (refused n cs fs cl fl)

-- splits with heights: 18 "before heights are tried"
unfoldable pub outcome_with_heights_and_draft : By → Plan → List ℕ → List ℕ → List ℤ → Draft → List ℕ → List ℕ → List ℕ → List ℕ → WithHeights
outcome_with_heights_and_draft by p cs fs hs d dl marks cl fl =
    let n = refusal18 p cs fs d dl in
    cond (eqb n 0) (outcome_with_heights by p cs fs hs marks cl fl) (refused_with n cs fs hs cl fl)

-- "The open call, or reading a wall from disk, when accepted, drops it": the draft that they answer
unfoldable pub draft_after_open : Plan → List ℕ → List ℕ → Draft → Draft
draft_after_open p cs fs d = ended_by (open_mesh p cs fs).number d

unfoldable pub draft_after_read : List ℕ → List ℕ → List ℕ → Draft → Draft
draft_after_read file cs fs d = ended_by (read_mesh file cs fs).answer.number d
