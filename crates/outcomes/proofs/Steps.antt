-- Settling the mesh and then relabelling is the whole call. Assumes nothing.
use mathlib.Core.Path.{◌≡◌, refl, sym, ap, ◌∙◌}
use mathlib.Core.Bool.{Bool}
use mathlib.Core.Logic.{◌≢◌}
use mathlib.Core.List.{List}
use Prim.Native.Nat.{ℕ, suc, ◌≤◌}
use native.Mathlib.Omega.{arith}
use lib.Dec.{ltb, eqb, eqb→eq, nltb→le}
use lib.ListN.{length}
use Rattle.facts.proofs.Tests.{cases, not_e, differ, eqb_of, T_true, T_false}
use Rattle.grid.specs.declared.Plan.{Plan}
use Rattle.grid.specs.Plan.{cell_total, function_total}
use Rattle.mesh.specs.Mesh.{labels}
use Rattle.outcomes.specs.Calls.{Direction, By, changed, written, Outcome, refused, settle, new_cells, refusal, outcome}
use Rattle.outcomes.specs.Steps.{Settled, Relabelled, room_refusal, settle_cells, relabel, in_steps, relabelled_by}
use Rattle.outcomes.specs.Meets.{outcome_of}
use Rattle.outcomes.proofs.Results.{accepted, Made, refusal_of, accepted_as, made, outcome_settled}

-- ---- the ends of the first step

module _ (p : Plan) (cs fs : List ℕ) (cell_room function_room : ℕ) (cs' : List ℕ) where
  abbrev ten : Bool
  ten = ltb cell_room (length (changed (cell_total p) cs cs'))

  abbrev eleven : Bool
  eleven = ltb function_room (length (changed (function_total p) fs (labels p cs')))

  -- both lists have room where nothing is refused
  pub rooms : room_refusal p cs fs cell_room function_room cs' ≡ 0
      → (length (changed (cell_total p) cs cs') ≤ cell_room) × (length (changed (function_total p) fs (labels p cs')) ≤ function_room)
  unfolding room_refusal
  rooms z = cases ten
      (λ a. absurd (let k : ◌≡◌ {A = ℕ} 10 0 = rw (T_true ten a) at z in omega arith))
      (λ a. cases eleven
      (λ b. absurd (let k : ◌≡◌ {A = ℕ} 11 0 = rw (T_false ten (not_e ten a), T_true eleven b) at z in omega arith))
      (λ b. (nltb→le _ _ a, nltb→le _ _ b)))

module _ (p : Plan) (cs fs cl : List ℕ) (room : ℕ) (cs' : List ℕ) where
  abbrev n : ℕ
  n = room_refusal p cs fs (length cl) room cs'

  abbrev dc : List ℕ
  dc = changed (cell_total p) cs cs'

  -- what it leaves where it refuses, and where it does not
  pub refuses_room : n ≢ 0 → settle_cells p cs fs cl room cs' ≡ record { answer = record { number = n; cells = 0; functions = 0 }; cells = cs; cell_list = cl }
  unfolding settle_cells
  refuses_room h = rw (T_false (eqb n 0) (λ t. h (eqb→eq _ _ t))) refl

  pub settles : n ≡ 0 → settle_cells p cs fs cl room cs' ≡ record { answer = record { number = 0; cells = length dc; functions = 0 }; cells = cs'; cell_list = written dc cl }
  unfolding settle_cells
  settles z = rw (T_true (eqb n 0) (eqb_of _ _ z)) refl

  -- its number is that of the refusal
  number_is : (settle_cells p cs fs cl room cs').answer.number ≡ n
  number_is = cases (eqb n 0)
      (λ z. ap (λ (s : Settled). s.answer.number) (settles (eqb→eq _ _ z)) ∙ sym (eqb→eq _ _ z))
      (λ z. ap (λ (s : Settled). s.answer.number) (refuses_room (differ _ _ z)))

  -- where it is 0, the cells are the new ones and the function list has room for the second step
  pub settled_cells : (settle_cells p cs fs cl room cs').answer.number ≡ 0
      → ((settle_cells p cs fs cl room cs').cells ≡ cs') × (length (changed (function_total p) fs (labels p cs')) ≤ room)
  settled_cells z =
      let e : n ≡ 0 = sym number_is ∙ z in
      (ap (λ (s : Settled). s.cells) (settles e), (rooms p cs fs (length cl) room cs' e).1)

-- ---- the first step and then the second

module _ (p : Plan) (cs fs cl fl cs' : List ℕ) where
  abbrev s : Settled
  s = settle_cells p cs fs cl (length fl) cs'

  pub stopped : s.answer.number ≢ 0 → outcome_of s.answer s.cells fs s.cell_list fl ≡ in_steps p cs fs cl fl cs'
  unfolding in_steps
  stopped n = rw (T_false (eqb s.answer.number 0) (λ t. n (eqb→eq _ _ t))) refl

  pub finished : s.answer.number ≡ 0 → {r : Relabelled} → r ≡ relabel p s.cells fs fl
      → outcome_of (record { number = 0; cells = s.answer.cells; functions = r.count }) s.cells r.functions s.cell_list r.function_list ≡ in_steps p cs fs cl fl cs'
  unfolding in_steps
  finished z e = rw (e, T_true (eqb s.answer.number 0) (eqb_of _ _ z)) refl

  -- is what the new tables make
  pub in_steps_lem : in_steps p cs fs cl fl cs' ≡ settle p cs fs cl fl cs' (labels p cs')
  unfolding in_steps settle_cells room_refusal relabel settle refused
  in_steps_lem =
      let t = ten p cs fs (length cl) (length fl) cs' in
      let e = eleven p cs fs (length cl) (length fl) cs' in
      cases t (λ a. rw (T_true t a) refl)
      (λ a. cases e (λ b. rw (T_false t (not_e t a), T_true e b) refl) (λ b. rw (T_false t (not_e t a), T_false e (not_e e b)) refl))

module _ (d : Direction) (by : By) (p : Plan) (cs fs marks cl fl : List ℕ) where
  -- what a call makes of its input where 1 to 9 do not refuse it
  pub call_in_steps : refusal d by p cs fs marks ≡ 0 → outcome d by p cs fs marks cl fl ≡ in_steps p cs fs cl fl (new_cells d by p cs fs marks)
  call_in_steps e = outcome_settled d by p cs fs marks cl fl e ∙ sym (in_steps_lem p cs fs cl fl (new_cells d by p cs fs marks))

  -- the second step of an accepted call, from the cells that its table shows
  relabels : (o : Outcome) → Made d by p cs fs marks cl fl o → o.answer.number ≡ 0 → relabelled_by o ≡ relabel p o.cells fs fl
  unfolding accepted refused relabel
  relabels o (refusal_of n e) z = absurd (let k : suc n ≡ 0 = ap (λ o. o.answer.number) (sym e) ∙ z in omega arith)
  relabels o (accepted_as cs' fs' ec ef r a b e) z = rw (e, ef) refl

  pub call_relabelled : (outcome d by p cs fs marks cl fl).answer.number ≡ 0 → relabelled_by (outcome d by p cs fs marks cl fl) ≡ relabel p (outcome d by p cs fs marks cl fl).cells fs fl
  call_relabelled = relabels (outcome d by p cs fs marks cl fl) (made d by p cs fs marks cl fl)
