-- The refusals in their order, and what they keep. Assumes nothing.
use mathlib.Core.Path.{◌≡◌, refl}
use mathlib.Core.Bool.{Bool, true, false, not, ◌&&◌, ◌||◌, cond}
use mathlib.Core.List.{List, flatten}
use mathlib.Core.Logic.{◌≢◌}
use Prim.Native.Nat.{ℕ, ◌<◌}
use native.Mathlib.Omega.{arith}
use lib.Dec.{T, eqb, eqb→eq, ltb}
use lib.ListN.{length}
use borrow.Author.Tests.{ne_eqb}
use Rattle.facts.proofs.Tests.{and_i, and_l, and_r, not_e, cases, differ, T_true, T_false}
use Rattle.facts.proofs.Bounded.{some_i, some_e}
use Rattle.grid.specs.declared.Plan.{Plan}
use Rattle.grid.specs.Plan.{cell_total}
use Rattle.mesh.specs.Mesh.{refined, check}
use Rattle.rounds.specs.Rounds.{rounds, losing, refusal, RoundsOutcome, refused, filled, find_rounds}
use Rattle.rounds.specs.Demands.{today}

module _ (p : Plan) (cs ws : List ℕ) where
  pub not_losing : losing p cs ws ≡ false → (c : ℕ) → c < cell_total p → T (refined cs c) → T (refined ws c)
  unfolding losing
  not_losing e c i r = cases (refined ws c) (λ t. t) (λ m. absurd (let t = some_i (cell_total p) (λ c. refined cs c && not (refined ws c)) c i (and_i (refined cs c) _ r m) in rw e at t))

module _ (p : Plan) (cs fs ws wf ml ll : List ℕ) where
  abbrev pub found : RoundsOutcome
  found = find_rounds p cs fs ws wf ml ll

  pub find_today : check p cs fs ≢ 0 → found ≡ refused (check p cs fs) ml ll
  unfolding find_rounds refusal
  find_today n = rw (ne_eqb (check p cs fs) 0 n, ne_eqb (check p cs fs) 0 n) refl

  pub find_wanted : check p cs fs ≡ 0 → check p ws wf ≢ 0 → found ≡ refused (check p ws wf) ml ll
  unfolding find_rounds refusal
  find_wanted e n = rw (e, ne_eqb (check p ws wf) 0 n, ne_eqb (check p ws wf) 0 n) refl

  pub find_losing : check p cs fs ≡ 0 → check p ws wf ≡ 0 → losing p cs ws ≡ true → found ≡ refused 20 ml ll
  unfolding find_rounds refusal
  find_losing e f l = rw (e, f, l) refl

  pub find_filled : check p cs fs ≡ 0 → check p ws wf ≡ 0 → losing p cs ws ≡ false → found ≡ filled (rounds p (today p cs fs ws wf) ws) ml ll
  unfolding find_rounds refusal
  find_filled e f l = rw (e, f, l) refl

-- 10 or 0
module _ (ml ll : List ℕ) (o : RoundsOutcome) (z : o.answer.number ≡ 0) where
  never_20 : (b : Bool) → (cond b (refused 10 ml ll) o).answer.number ≢ 20
  unfolding refused
  never_20 true e = absurd (omega arith)
  never_20 false e = absurd (omega arith)

  kept_10 : (b : Bool) → (cond b (refused 10 ml ll) o).answer.number ≢ 0 → cond b (refused 10 ml ll) o ≡ refused (cond b (refused 10 ml ll) o).answer.number ml ll
  unfolding refused
  kept_10 true n = refl
  kept_10 false n = absurd (n z)

module _ (all : List (List ℕ)) (ml ll : List ℕ) where
  filled_20 : (filled all ml ll).answer.number ≢ 20
  unfolding filled
  filled_20 = never_20 ml ll _ refl (ltb (length ml) (length (flatten all)) || ltb (length ll) (length all))

  filled_kept : (filled all ml ll).answer.number ≢ 0 → filled all ml ll ≡ refused (filled all ml ll).answer.number ml ll
  unfolding filled
  filled_kept = kept_10 ml ll _ refl (ltb (length ml) (length (flatten all)) || ltb (length ll) (length all))

module _ (n : ℕ) (ml ll : List ℕ) where
  refused_kept : refused n ml ll ≡ refused (refused n ml ll).answer.number ml ll
  unfolding refused
  refused_kept = refl

  refused_number : (refused n ml ll).answer.number ≡ n
  unfolding refused
  refused_number = refl

module _ (p : Plan) (cs fs ws wf ml ll : List ℕ) where
  abbrev o : RoundsOutcome
  o = found p cs fs ws wf ml ll

  pub nothing : o.answer.number ≢ 0 → o ≡ refused o.answer.number ml ll
  nothing n = cases (eqb (check p cs fs) 0)
      (λ a. cases (eqb (check p ws wf) 0)
      (λ b. cases (losing p cs ws)
      (λ l. rw (find_losing p cs fs ws wf ml ll (eqb→eq _ _ a) (eqb→eq _ _ b) (T_true _ l)) (refused_kept 20 ml ll))
      (λ l. let e = find_filled p cs fs ws wf ml ll (eqb→eq _ _ a) (eqb→eq _ _ b) (T_false (losing p cs ws) (not_e (losing p cs ws) l)) in
      rw e (filled_kept (rounds p (today p cs fs ws wf) ws) ml ll (rw e at n))))
      (λ b. rw (find_wanted p cs fs ws wf ml ll (eqb→eq _ _ a) (differ _ _ b)) (refused_kept (check p ws wf) ml ll)))
      (λ a. rw (find_today p cs fs ws wf ml ll (differ _ _ a)) (refused_kept (check p cs fs) ml ll))

  module _ (a : check p cs fs ≡ 0) (b : check p ws wf ≡ 0) where
    pub is_20 : o.answer.number ≡ 20 → (c : ℕ) × (c < cell_total p) × T (refined cs c) × T (not (refined ws c))
    unfolding losing
    is_20 e = cases (losing p cs ws)
        (λ l. let (c, i, t) = some_e (cell_total p) (λ c. refined cs c && not (refined ws c)) l in (c, i, and_l (refined cs c) _ t, and_r (refined cs c) _ t))
        (λ l. absurd (filled_20 (rounds p (today p cs fs ws wf) ws) ml ll (rw (find_filled p cs fs ws wf ml ll a b (T_false (losing p cs ws) (not_e (losing p cs ws) l))) at e)))

    pub gives_20 : (c : ℕ) → c < cell_total p → T (refined cs c) → T (not (refined ws c)) → o.answer.number ≡ 20
    unfolding losing
    gives_20 c i r n =
        rw (find_losing p cs fs ws wf ml ll a b (T_true (losing p cs ws) (some_i (cell_total p) (λ c. refined cs c && not (refined ws c)) c i (and_i (refined cs c) _ r n)))) (refused_number 20 ml ll)
