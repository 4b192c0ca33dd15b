-- What a refused call on a draft leaves, and an accepted close. Assumes nothing.
use mathlib.Core.Path.{◌≡◌, refl, sym, ap, ◌∙◌}
use mathlib.Core.List.{List}
use mathlib.Core.Logic.{◌≢◌}
use Prim.Native.Nat.{ℕ}
use lib.Dec.{eqb, eqb→eq}
use borrow.Author.Tests.{ne_eqb}
use Rattle.facts.proofs.Tests.{cases, differ, T_true}
use Rattle.grid.specs.declared.Plan.{Plan}
use Rattle.outcomes.specs.Calls.{refine, cells, Outcome, refused, outcome}
use Rattle.outcomes.proofs.Results.{accepted, Made, refusal_of, accepted_as, made}
use Rattle.outcomes.specs.Runs.{LentLists}
use Rattle.refining.specs.Seasons.{SeasonCall}
use Rattle.drafts.specs.Drafts.{no_draft, marks_of, refusal19, Added, Closed, ended_by}
use Rattle.drafts.specs.Seasons.{State, changed, closed, added}
use Rattle.drafts.specs.Demands.{Passes, Open}
use Rattle.drafts.proofs.Refusals.{close_refused, close_taken, AddCase, taken, left_out, add_case}
use Rattle.drafts.proofs.Seasons.{changed_open}

-- ---- 18

pub guarded : (p : Plan) (s : State) → Passes p s → Open s → (a : SeasonCall) → (changed p s a).answer.number ≡ 18
unfolding refused
guarded p s k o a = let (cl, fl, e) = changed_open p s k (T_true _ o) a in ap (λ (o : Outcome). o.answer.number) e

-- ---- what a refusal keeps

pub refused_add_lem : (p : Plan) (s : State) (marks : List ℕ) → (added p s marks).answer.number ≢ 0
    → added p s marks ≡ record { answer = record { number = (added p s marks).answer.number; draft = s.draft }; list = s.list }
unfolding added
refused_add_lem p s marks = go (add_case p s.tables.cells s.tables.functions s.draft s.list marks)
  where
    go : {o : Added} → AddCase p s.tables.cells s.tables.functions s.draft s.list marks o → o.answer.number ≢ 0
        → o ≡ record { answer = record { number = o.answer.number; draft = s.draft }; list = s.list }
    go (taken l q m e) n = absurd (n (ap (λ (o : Added). o.answer.number) e))
    go (left_out m e) n = rw e refl

-- a refused outcome is its number, and nothing else
all_kept : (p : Plan) (cs fs marks cl fl : List ℕ) → let o = outcome refine cells p cs fs marks cl fl in o.answer.number ≢ 0 → o ≡ refused o.answer.number cs fs cl fl
unfolding refused accepted
all_kept p cs fs marks cl fl = go (made refine cells p cs fs marks cl fl)
  where
    go : {o : Outcome} → Made refine cells p cs fs marks cl fl o → o.answer.number ≢ 0 → o ≡ refused o.answer.number cs fs cl fl
    go (refusal_of n e) z = rw e refl
    go (accepted_as cs' fs' ec ef r a b e) z = absurd (z (ap (λ (o : Outcome). o.answer.number) e))

module _ (p : Plan) (s : State) (room : LentLists) where
  abbrev n : ℕ
  n = refusal19 p s.tables.cells s.tables.functions s.draft s.list

  close_no : n ≢ 0 → closed p s room ≡ record { outcome = refused n s.tables.cells s.tables.functions room.cells room.functions; draft = s.draft }
  unfolding closed
  close_no = close_refused p s.tables.cells s.tables.functions s.draft s.list room.cells room.functions

  abbrev one : Outcome
  one = outcome refine cells p s.tables.cells s.tables.functions (marks_of s.draft s.list) room.cells room.functions

  pub close_yes : n ≡ 0 → closed p s room ≡ record { outcome = one; draft = ended_by one.answer.number s.draft }
  unfolding closed
  close_yes = close_taken p s.tables.cells s.tables.functions s.draft s.list room.cells room.functions

  pub refused_close_lem : (closed p s room).outcome.answer.number ≢ 0
      → closed p s room ≡ record { outcome = refused (closed p s room).outcome.answer.number s.tables.cells s.tables.functions room.cells room.functions; draft = s.draft }
  unfolding refused
  refused_close_lem z = cases (eqb n 0)
      (λ t. let e = close_yes (eqb→eq n 0 t) in
      let w : one.answer.number ≢ 0 = λ q. z (ap (λ (c : Closed). c.outcome.answer.number) e ∙ q) in
      rw e (rw (ne_eqb one.answer.number 0 w) (ap (λ o. record { outcome = o; draft = s.draft }) (all_kept p s.tables.cells s.tables.functions (marks_of s.draft s.list) room.cells room.functions w))))
      (λ t. rw (close_no (differ n 0 t)) refl)

  pub closed_ends_lem : (closed p s room).outcome.answer.number ≡ 0 → (closed p s room).draft ≡ no_draft
  unfolding refused
  closed_ends_lem z = cases (eqb n 0)
      (λ t. let e = close_yes (eqb→eq n 0 t) in
      let w : one.answer.number ≡ 0 = ap (λ (c : Closed). c.outcome.answer.number) (sym e) ∙ z in
      rw e (rw w refl))
      (λ t. absurd (differ n 0 t (ap (λ (c : Closed). c.outcome.answer.number) (sym (close_no (differ n 0 t))) ∙ z)))
