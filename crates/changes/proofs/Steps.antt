-- What the two steps of a call leave, from the counts and the bytes that their parts promise. Assumes nothing.
use mathlib.Core.Path.{◌≡◌, sym, ap, ◌∙◌}
use mathlib.Core.Logic.{◌≢◌}
use mathlib.Core.Bool.{true, false}
use mathlib.Core.List.{List}
use Prim.Native.Nat.{ℕ, ◌≤◌}
use native.Mathlib.Omega.{arith}
use lib.Dec.{ltb}
use lib.ListN.{length}
use borrow.Author.Tests.{le-ltb}
use Rattle.grid.specs.declared.Plan.{Plan}
use Rattle.grid.specs.Plan.{cell_total, function_total}
use Rattle.mesh.specs.Mesh.{labels}
use Rattle.outcomes.specs.declared.Answer.{Answer}
use Rattle.outcomes.specs.Calls.{changed, written}
use Rattle.outcomes.specs.Steps.{room_refusal, settle_cells, relabel}
use Rattle.outcomes.proofs.Steps.{rooms, refuses_room, settles}
use Rattle.changes.proofs.Changes.{changed_short}

-- a table has room for all of its numbers
pub room_for_all : (n : ℕ) (old new : List ℕ) (room : ℕ) → n ≤ room → false ≡ ltb room (length (changed n old new))
room_for_all n old new room h = sym (le-ltb room (length (changed n old new)) (omega (arith, changed_short old new n)))

-- 10, 11, or neither, where the cells that changed are said by the length of the table
module _ (p : Plan) (cs fs : List ℕ) (cell_room function_room : ℕ) (cs' : List ℕ) (sized : length cs ≡ cell_total p) where
  abbrev dc : ℕ
  dc = length (changed (length cs) cs cs')

  abbrev df : ℕ
  df = length (changed (function_total p) fs (labels p cs'))

  same : length (changed (cell_total p) cs cs') ≡ dc
  same = ap (λ (n : ℕ). length (changed n cs cs')) (sym sized)

  pub refuses_10 : ltb cell_room dc ≡ true → 10 ≡ room_refusal p cs fs cell_room function_room cs'
  unfolding room_refusal
  refuses_10 h = rw (same, h)

  pub refuses_11 : ltb cell_room dc ≡ false → ltb function_room df ≡ true → 11 ≡ room_refusal p cs fs cell_room function_room cs'
  unfolding room_refusal
  refuses_11 h k = rw (same, h, k)

  pub refuses_none : ltb cell_room dc ≡ false → ltb function_room df ≡ false → 0 ≡ room_refusal p cs fs cell_room function_room cs'
  unfolding room_refusal
  refuses_none h k = rw (same, h, k)

module _ (p : Plan) (cs fs cl : List ℕ) (room : ℕ) (cs' : List ℕ) {number : ℕ} (judged : number ≡ room_refusal p cs fs (length cl) room cs') where
  pub stops : number ≢ 0 → {a : Answer} → a ≡ record { number = number; cells = 0; functions = 0 }
      → record { answer = a; cells = cs; cell_list = cl } ≡ settle_cells p cs fs cl room cs'
  stops n e = ap (λ (a : Answer). record { answer = a; cells = cs; cell_list = cl }) (e ∙ ap (λ (m : ℕ). record { number = m; cells = 0; functions = 0 }) judged)
      ∙ sym (refuses_room p cs fs cl room cs' (λ z. n (judged ∙ z)))

  module _ (sized : length cs ≡ cell_total p) (none : number ≡ 0) where
    abbrev changes : List ℕ
    changes = changed (length cs) cs cs'

    alike : changed (cell_total p) cs cs' ≡ changes
    alike = ap (λ (n : ℕ). changed n cs cs') (sym sized)

    pub cell_room_lem : length changes ≤ length cl
    cell_room_lem = rw (← alike) (rooms p cs fs (length cl) room cs' (sym judged ∙ none)).0

    pub ends : {n : ℕ} {cells list : List ℕ} → n ≡ length changes → cells ≡ cs' → list ≡ written changes cl
        → record { answer = record { number = 0; cells = n; functions = 0 }; cells = cells; cell_list = list } ≡ settle_cells p cs fs cl room cs'
    ends en ec el = rw (en, ec, el, ← alike) (sym (settles p cs fs cl room cs' (sym judged ∙ none)))

pub relabels : (p : Plan) (cs fs fl : List ℕ) → length fs ≡ function_total p → {n : ℕ} {made functions list : List ℕ} → made ≡ labels p cs
    → n ≡ length (changed (length fs) fs made) → functions ≡ made → list ≡ written (changed (length fs) fs made) fl
    → record { count = n; functions = functions; function_list = list } ≡ relabel p cs fs fl
unfolding relabel
relabels p cs fs fl s em en ef el = rw (en, ef, el, em, s)
