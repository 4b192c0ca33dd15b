-- "Marks may repeat; repeats mean one mark": a call asks of its marks only which numbers they are, and which refused one stands first.
-- Assumes nothing.
use mathlib.Core.Path.{◌≡◌, refl, sym, ap, ap₂, ◌∙◌, subst, fun_ext}
use mathlib.Core.Bool.{Bool, true, false, not, ◌&&◌, cond}
use mathlib.Core.Logic.{◌≢◌}
use mathlib.Core.List.{List, [], ◌∷◌}
use Prim.Native.Nat.{ℕ, ◌≤◌}
use native.Mathlib.Omega.{arith}
use lib.Dec.{T, ltb, eqb, eqb→eq}
use Rattle.facts.specs.Numbers.{elem, first}
use Rattle.facts.proofs.Tests.{or_l, or_r, or_e, not_e, cases, same, differ, eqb_of, T_true, T_false}
use Rattle.facts.proofs.Bounded.{some_same}
use Rattle.facts.proofs.Numbers.{first_zero, first_none}
use Rattle.grid.specs.declared.Plan.{Plan}
use Rattle.grid.specs.Plan.{function_total, supported}
use Rattle.mesh.specs.Mesh.{active, deactivated, reactivable, labels, check}
use Rattle.outcomes.specs.Calls.{Direction, refine, coarsen, By, cells, functions, total, eligible, is_too_deep, mark_refusal, under_marked, under_kept, selected, base, smallest, refused, settle, new_cells, refusal, outcome}
use Rattle.outcomes.proofs.Marks.{refusal_check, refusal_mark}
use Rattle.outcomes.proofs.Results.{outcome_mark}
use Rattle.theorems.specs.Main.{unseen, once, SameButNumber, equal, mark_refused}

-- ---- each number once

unseen→ : (seen xs : List ℕ) (c : ℕ) → T (elem c (unseen seen xs)) → T (elem c xs)
unfolding unseen elem
unseen→ seen [] c t = t
unseen→ seen (x ∷ xs) c t = cases (elem x seen)
    (λ s. or_r (eqb c x) (elem c xs) (unseen→ seen xs c (rw (T_true (elem x seen) s) at t)))
    (λ s. or_e (eqb c x) (elem c (unseen (x ∷ seen) xs)) (rw (T_false (elem x seen) (not_e (elem x seen) s)) at t)
    (λ q. or_l (eqb c x) (elem c xs) q) (λ u. or_r (eqb c x) (elem c xs) (unseen→ (x ∷ seen) xs c u)))

→unseen : (seen xs : List ℕ) (c : ℕ) → (T (elem c seen) → ⊥) → T (elem c xs) → T (elem c (unseen seen xs))
unfolding unseen elem
→unseen seen [] c n t = t
→unseen seen (x ∷ xs) c n t = cases (elem x seen)
    (λ s. rw (T_true (elem x seen) s) (or_e (eqb c x) (elem c xs) t
    (λ q. absurd (n (subst (λ y. T (elem y seen)) (sym (eqb→eq c x q)) s))) (→unseen seen xs c n)))
    (λ s. rw (T_false (elem x seen) (not_e (elem x seen) s)) (cases (eqb c x)
    (λ q. or_l (eqb c x) (elem c (unseen (x ∷ seen) xs)) q)
    (λ q. or_r (eqb c x) (elem c (unseen (x ∷ seen) xs)) (→unseen (x ∷ seen) xs c
    (λ m. or_e (eqb c x) (elem c seen) m (not_e (eqb c x) q) n)
    (or_e (eqb c x) (elem c xs) t (λ r. absurd (not_e (eqb c x) q r)) (λ u. u))))))

once_members : (xs : List ℕ) (c : ℕ) → elem c (once xs) ≡ elem c xs
once_members xs c = same (elem c (once xs)) (elem c xs) (unseen→ [] xs c) (→unseen [] xs c (λ t. unfold elem in t))

-- where those seen have 0, the first that has not is the same
first_unseen : (f : ℕ → ℕ) (seen xs : List ℕ) → ((x : ℕ) → T (elem x seen) → f x ≡ 0) → first f (unseen seen xs) ≡ first f xs
unfolding unseen elem first
first_unseen f seen [] h = refl
first_unseen f seen (x ∷ xs) h = cases (elem x seen)
    (λ s. rw (T_true (elem x seen) s, T_true (eqb (f x) 0) (eqb_of (f x) 0 (h x s))) (first_unseen f seen xs h))
    (λ s. rw (T_false (elem x seen) (not_e (elem x seen) s)) (cases (eqb (f x) 0)
    (λ z. rw (T_true (eqb (f x) 0) z) (first_unseen f (x ∷ seen) xs (λ y m.
    or_e (eqb y x) (elem y seen) m (λ q. ap f (eqb→eq y x q) ∙ eqb→eq (f x) 0 z) (h y))))
    (λ z. rw (T_false (eqb (f x) 0) (not_e (eqb (f x) 0) z)) refl)))

-- ---- marks with the same members mean the same cells

module _ (p : Plan) (cs fs ms ns : List ℕ) (members : (x : ℕ) → elem x ms ≡ elem x ns) where
  under_marked_lem : (c : ℕ) → under_marked p ms c ≡ under_marked p ns c
  unfolding under_marked
  under_marked_lem c = some_same (function_total p) _ _ (λ f _. ap (λ b. b && supported p f c) (members f))

  under_kept_lem : (c : ℕ) → under_kept p fs ms c ≡ under_kept p fs ns c
  unfolding under_kept
  under_kept_lem c = some_same (function_total p) _ _ (λ f _. ap (λ b. not b && (deactivated fs f && supported p f c)) (members f))

  selected_same : (d : Direction) (by : By) (c : ℕ) → selected d by p cs fs ms c ≡ selected d by p cs fs ns c
  unfolding selected
  selected_same d cells c = members c
  selected_same refine functions c = ap (λ b. active cs c && b) (under_marked_lem c)
  selected_same coarsen functions c = ap₂ (λ a b. reactivable p cs c && (a && not b)) (under_marked_lem c) (under_kept_lem c)

  module _ (d : Direction) (by : By) (cl fl : List ℕ) where
    new_same : new_cells d by p cs fs ms ≡ new_cells d by p cs fs ns
    unfolding new_cells
    new_same = ap (λ M. smallest p (base d cs M)) (fun_ext (selected_same d by))

    -- so the outcomes differ only by the refusal
    outcome_same : refusal d by p cs fs ms ≡ refusal d by p cs fs ns → outcome d by p cs fs ms cl fl ≡ outcome d by p cs fs ns cl fl
    unfolding outcome
    outcome_same e = ap₂ (λ n u. cond (eqb n 0) (settle p cs fs cl fl u (labels p u)) (refused n cs fs cl fl)) e new_same

-- ---- the two theorems

-- a mark's number is 0, or one of 7 to 9
abbrev OfMark : ℕ → Type 0
OfMark n = n ≢ 0 → (7 ≤ n) × (n ≤ 9)

either : (b : Bool) (x y : ℕ) → OfMark x → OfMark y → OfMark (cond b x y)
either true x y h k = h
either false x y h k = k

module _ (d : Direction) (by : By) (p : Plan) (cs fs : List ℕ) where
  abbrev judge : ℕ → ℕ
  judge = mark_refusal d by p cs fs

  of_mark : (x : ℕ) → OfMark (judge x)
  unfolding mark_refusal
  of_mark x = either (not (ltb x (total by p))) 7 _ (λ _. (omega arith, omega arith))
      (either (not (eligible d by p cs fs x)) 8 _ (λ _. (omega arith, omega arith))
      (either (is_too_deep d by p x) 9 0 (λ _. (omega arith, omega arith)) (λ n. absurd (n refl))))

  of_marks : (xs : List ℕ) → OfMark (first judge xs)
  unfolding first
  of_marks [] = λ n. absurd (n refl)
  of_marks (x ∷ xs) = either (eqb (judge x) 0) (first judge xs) (judge x) (of_marks xs) (of_mark x)

  pub call_repeats : (marks cl fl : List ℕ) → outcome d by p cs fs (once marks) cl fl ≡ outcome d by p cs fs marks cl fl
  call_repeats marks cl fl = outcome_same p cs fs (once marks) marks (once_members marks) d by cl fl
      (unfold refusal in ap (λ n. cond (eqb (check p cs fs) 0) n (check p cs fs)) (first_unseen judge [] marks (λ x t. absurd (unfold elem in t))))

  none_refused : (ms ns : List ℕ) → ((x : ℕ) → elem x ms ≡ elem x ns) → first judge ms ≡ 0 → first judge ns ≡ 0
  none_refused ms ns members e = first_none judge ns (λ x m. first_zero judge ms e x (subst T (sym (members x)) m))

  pub call_reordered : (ms ns cl fl : List ℕ) → ((x : ℕ) → elem x ms ≡ elem x ns)
      → SameButNumber cs fs cl fl (outcome d by p cs fs ms cl fl) (outcome d by p cs fs ns cl fl)
  call_reordered ms ns cl fl members =
      cases (eqb (check p cs fs) 0)
      (λ z. let k : check p cs fs ≡ 0 = eqb→eq _ _ z in
      cases (eqb (first judge ms) 0)
      (λ y. let e : first judge ms ≡ 0 = eqb→eq _ _ y in
      same_number (refusal_mark d by p cs fs ms k ∙ e ∙ sym (none_refused ms ns members e) ∙ sym (refusal_mark d by p cs fs ns k)))
      (λ y. let a : first judge ms ≢ 0 = differ _ _ y in
      let b : first judge ns ≢ 0 = λ e. a (none_refused ns ms (λ x. sym (members x)) e) in
      mark_refused (first judge ms) (first judge ns) (of_marks ms a).0 (of_marks ms a).1 (of_marks ns b).0 (of_marks ns b).1
      (outcome_mark d by p cs fs ms cl fl k a) (outcome_mark d by p cs fs ns cl fl k b)))
      (λ z. let n : check p cs fs ≢ 0 = differ _ _ z in
      same_number (refusal_check d by p cs fs ms n ∙ sym (refusal_check d by p cs fs ns n)))
    where
      same_number : refusal d by p cs fs ms ≡ refusal d by p cs fs ns → SameButNumber cs fs cl fl (outcome d by p cs fs ms cl fl) (outcome d by p cs fs ns cl fl)
      same_number e = equal (outcome_same p cs fs ms ns members d by cl fl e)
