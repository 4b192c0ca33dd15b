-- What the contracts of the parts cite. Definitions only.
use Rattle.std.specs.Prelude.{cond, List, ◌≡◌, ℕ, ◌≤◌, eqb, ℤ, length}
use Rattle.grid.specs.declared.Plan.{Plan}
use Rattle.grid.specs.Plan.{cell_total, function_total}
use Rattle.mesh.specs.Mesh.{labels, check}
use Rattle.outcomes.specs.declared.Answer.{Answer}
use Rattle.outcomes.specs.Calls.{By, refine, changed, new_cells, refusal, settle}
use Rattle.outcomes.specs.Steps.{room_refusal}
use Rattle.outcomes.specs.Meets.{Lent, Seen, left}
use Rattle.heights.specs.Heights.{heights_refusal}
use Rattle.carry.specs.Steps.{Grows}
use Rattle.refining.specs.Refining.{WithHeights, carry_into}
use Rattle.std.specs.Borrow.{MutBor}
use denote.Triple.Both.{Both}

-- what lent heights hold at entry and at exit
abbrev pub LentHeights : Type 0
LentHeights = Both (MutBor (List ℤ)) (MutBor (List ℤ))

-- an answer, with tables, heights and lists as the function leaves them
abbrev pub left_with_heights : Answer → Lent → Lent → LentHeights → Lent → Lent → WithHeights
left_with_heights r cells functions heights cell_list function_list =
    record { outcome = left r cells functions cell_list function_list; heights = heights.exit.now }

-- the outcome is what the call, a definition, makes of the tables, heights, marks and lists that the function finds
abbrev pub MeetsWithHeights : (List ℕ → List ℕ → List ℤ → List ℕ → List ℕ → List ℕ → WithHeights) → Answer → Lent → Lent → LentHeights → Seen → Lent → Lent → Type 0
MeetsWithHeights call r cells functions heights marks cell_list function_list =
    left_with_heights r cells functions heights cell_list function_list
    ≡ call cells.entry.now functions.entry.now heights.entry.now marks.entry.now cell_list.entry.now function_list.entry.now

-- the first of refusals 7 to 11, or 0
unfoldable pub make_refusal : By → Plan → List ℕ → List ℕ → List ℕ → ℕ → ℕ → ℕ
make_refusal by p cs fs marks cell_room function_room =
    let n = refusal refine by p cs fs marks in
    cond (eqb n 0) (room_refusal p cs fs cell_room function_room (new_cells refine by p cs fs marks)) n

-- that, and with 0 the new cells and functions
pub record Made (by : By) (p : Plan) (cs fs marks : List ℕ) (cell_room function_room number : ℕ) (cs' fs' : List ℕ) : Type 0 where
  pub is : number ≡ make_refusal by p cs fs marks cell_room function_room
  pub cells : number ≡ 0 → cs' ≡ new_cells refine by p cs fs marks
  pub functions : number ≡ 0 → fs' ≡ labels p cs'

-- what the refusals but 17 leave
pub record Ready (p : Plan) (cs fs : List ℕ) (hs : List ℤ) (cl fl cs' fs' : List ℕ) : Type 0 where
  pub checked : check p cs fs ≡ 0
  pub allowed : heights_refusal p fs hs ≡ 0
  pub grows : Grows p cs cs'
  pub sized : length cs' ≡ cell_total p
  pub labelled : fs' ≡ labels p cs'
  pub cells≤ : length (changed (cell_total p) cs cs') ≤ length cl
  pub functions≤ : length (changed (function_total p) fs fs') ≤ length fl

-- what is left then
unfoldable pub finished : Plan → List ℕ → List ℕ → List ℤ → List ℕ → List ℕ → List ℕ → List ℕ → WithHeights
finished p cs fs hs cl fl cs' fs' = carry_into p cs fs hs cl fl (settle p cs fs cl fl cs' fs')
