-- What the passes are for: which cells marks by functions mean. Assumes nothing.
use mathlib.Core.Path.{◌≡◌, refl, ap, ◌∙◌}
use mathlib.Core.Bool.{Bool, true, false, not, ◌&&◌, cond}
use mathlib.Core.List.{List}
use Prim.Native.Nat.{ℕ, ◌≤◌, ◌<◌}
use native.Mathlib.Omega.{arith}
use lib.Dec.{T, eqb, eqb→eq}
use lib.ListN.{get_or}
use Rattle.facts.specs.Bounded.{some}
use Rattle.facts.specs.Least.{least}
use Rattle.facts.specs.Numbers.{elem, tabulate}
use Rattle.facts.proofs.Tests.{and_i, and_l, and_r, cases, same, not_i, not_e, eqb_of, differ, positive}
use Rattle.facts.proofs.Bounded.{some_i, some_e, some_same}
use Rattle.facts.proofs.Least.{least_le, least_ge}
use Rattle.facts.proofs.Numbers.{get_d_tabulate}
use Rattle.grid.specs.declared.Plan.{Plan}
use Rattle.grid.specs.Plan.{function_total, supported}
use Rattle.mesh.specs.Mesh.{refined}
use Rattle.outcomes.specs.Calls.{under_marked, under_kept}
use Rattle.windows.specs.Level.{least_value}

-- ---- what marks mean

-- the least value is 1: some value is 1, and none is 0
least_one : (n : ℕ) (g : ℕ → ℕ) → eqb (least 2 n g) 1 ≡ some n (λ f. eqb (g f) 1) && not (some n (λ f. eqb (g f) 0))
least_one n g = same (eqb (least 2 n g) 1) (ones && not none) to from
  where
    ones : Bool
    ones = some n (λ f. eqb (g f) 1)

    none : Bool
    none = some n (λ f. eqb (g f) 0)

    to : T (eqb (least 2 n g) 1) → T (ones && not none)
    to t =
        let e = eqb→eq (least 2 n g) 1 t in
        let no : T (not none) = not_i none (λ u. let w = some_e n (λ f. eqb (g f) 0) u in omega (arith, eqb→eq (g w.0) 0 w.2, least_le 2 n g w.0 w.1)) in
        and_i ones (not none) (cases ones (λ u. u) (λ u.
        absurd (let z : 2 ≤ least 2 n g = least_ge 2 n g 2 (omega arith) (λ f l.
        omega (arith, least_le 2 n g f l, differ (g f) 1 (not_i (eqb (g f) 1) (λ v. not_e ones u (some_i n (λ f. eqb (g f) 1) f l v))))) in
        omega arith))) no

    from : T (ones && not none) → T (eqb (least 2 n g) 1)
    from t =
        let w = some_e n (λ f. eqb (g f) 1) (and_l ones (not none) t) in
        let high = least_le 2 n g w.0 w.1 in
        let one = eqb→eq (g w.0) 1 w.2 in
        let low : 1 ≤ least 2 n g = least_ge 2 n g 1 (omega arith) (λ f l.
        positive (g f) (not_i (eqb (g f) 0) (λ u. not_e none (and_r ones (not none) t) (some_i n (λ f. eqb (g f) 0) f l u)))) in
        eqb_of (least 2 n g) 1 (omega arith)

-- 1 for a marked function, 0 for a kept one
one_of : (s m d : Bool) → eqb (cond s (cond m 1 (cond d 0 2)) 2) 1 ≡ m && s
one_of true true d = refl
one_of true false true = refl
one_of true false false = refl
one_of false true d = refl
one_of false false d = refl

zero_of : (s m d : Bool) → eqb (cond s (cond m 1 (cond d 0 2)) 2) 0 ≡ not m && (d && s)
zero_of true true d = refl
zero_of true false true = refl
zero_of true false false = refl
zero_of false true d = refl
zero_of false false true = refl
zero_of false false false = refl

-- what the functions weigh: 1 for each marked function, 0 for each other that is deactivated, 2 for the rest
abbrev pub weights : Plan → List ℕ → List ℕ → List ℕ
weights p fs marks = tabulate (function_total p) (λ f. cond (elem f marks) 1 (cond (eqb (get_or fs f 0) 2) 0 2))

module _ (p : Plan) (marks : List ℕ) (c : ℕ) where
  -- functions that are kept, besides those marked
  module _ (kept : ℕ → Bool) where
    abbrev byte : ℕ → ℕ
    byte f = cond (elem f marks) 1 (cond (kept f) 0 2)

    abbrev values : List ℕ
    values = tabulate (function_total p) byte

    abbrev value : ℕ → ℕ
    value f = cond (supported p f c) (get_or values f 0) 2

    value_is : (f : ℕ) → f < function_total p → value f ≡ cond (supported p f c) (byte f) 2
    value_is f l = rw (get_d_tabulate (function_total p) byte f 0 l)

    cover_is : eqb (least_value p values c) 1
        ≡ some (function_total p) (λ f. elem f marks && supported p f c) && not (some (function_total p) (λ f. not (elem f marks) && (kept f && supported p f c)))
    unfolding least_value
    cover_is =
        least_one (function_total p) value
        ∙ (ap (λ b. b && not (some (function_total p) (λ f. eqb (value f) 0)))
        (some_same (function_total p) _ _ (λ f l. ap (λ x. eqb x 1) (value_is f l) ∙ one_of (supported p f c) (elem f marks) (kept f)))
        ∙ ap (λ b. some (function_total p) (λ f. elem f marks && supported p f c) && not b)
        (some_same (function_total p) _ _ (λ f l. ap (λ x. eqb x 0) (value_is f l) ∙ zero_of (supported p f c) (elem f marks) (kept f))))

module _ (p : Plan) (fs marks : List ℕ) (c : ℕ) where
  pub under_marked_alone : eqb (least_value p (weights p fs marks) c) 1 ≡ under_marked p marks c && not (under_kept p fs marks c)
  unfolding under_marked under_kept refined
  under_marked_alone = cover_is p marks c (λ f. eqb (get_or fs f 0) 2)
