-- Refusals of planes, in order. Assumes nothing.
use mathlib.Core.Path.{◌≡◌, refl, sym, ◌∙◌}
use mathlib.Core.Logic.{◌≢◌}
use mathlib.Core.Bool.{Bool, true, false, not, ◌&&◌, cond}
use mathlib.Core.List.{List}
use Prim.Native.Nat.{ℕ, ◌≤◌}
use native.Mathlib.Omega.{arith}
use lib.Dec.{T, eqb, eqb→eq, ltb, nltb→le}
use lib.ListN.{length}
use borrow.Author.Tests.{eq-eqb, ne_eqb}
use Rattle.facts.proofs.Tests.{and_l, and_r, not_i, T_true, T_false}
use Rattle.grid.specs.Bounds.{most_cells}
use Rattle.grid.specs.declared.Plan.{Plan}
use Rattle.grid.specs.Plan.{plan_refusal, in_range, too_large, cell_total, function_total}
use Rattle.grid.specs.Range.{InRange}
use Rattle.grid.proofs.Laws.{taken_range, taken, refused}
use Rattle.mesh.specs.Mesh.{check}
use Rattle.mesh.proofs.Bridge.{chain, pass, stop}
use Rattle.planes.specs.Bits.{words_for, Words, in_order, Holding}
use Rattle.planes.specs.Planes.{cells_of, sized, size_refusal, refusal3, order_refusal, refusal4, check_planes}

-- ---- 1 to 3

module _ (p : Plan) (right : Bool) where
  pub size_plan : {n : ℕ} → n ≡ plan_refusal p → n ≢ 0 → n ≡ size_refusal p right
  unfolding size_refusal
  size_plan e z = e ∙ sym (refused p _ (λ q. z (e ∙ q)))

  pub size_3 : plan_refusal p ≡ 0 → right ≡ false → 3 ≡ size_refusal p right
  unfolding size_refusal
  size_3 e f = sym (taken p _ e ∙ rw f)

  pub size_0 : plan_refusal p ≡ 0 → right ≡ true → 0 ≡ size_refusal p right
  unfolding size_refusal
  size_0 e f = sym (taken p _ e ∙ rw f)

  -- what 0 says
  pub record Right : Type 0 where
    pub plan : plan_refusal p ≡ 0
    pub small : cell_total p ≤ most_cells
    pub lengths : T right

  pub right_of : size_refusal p right ≡ 0 → Right
  unfolding size_refusal plan_refusal too_large
  right_of e =
      let a = pass (in_range p) 0 _ e in
      let b = stop (too_large p) 1 _ a.1 in
      let d = pass right 2 0 b.1 in
      record { plan = rw (T_true (in_range p) a.0, T_false (too_large p) b.0); small = nltb→le most_cells (cell_total p) (not_i (ltb most_cells (cell_total p)) b.0); lengths = d.0 }

-- one more length is asked
abbrev three : Bool → Bool → Bool → ℕ
three x y z = cond (not x) 1 (cond y 2 (cond (not z) 3 0))

three_more : (x y z w : Bool) → three x y z ≢ 0 → three x y z ≡ three x y (z && w)
three_more true true z w n = refl
three_more true false true w n = absurd (n refl)
three_more true false false w n = refl
three_more false y z w n = refl

three_last : (x y z w : Bool) → three x y z ≡ 0 → three x y (z && w) ≡ cond (not w) 3 0
three_last true true z w e = absurd (omega arith)
three_last true false true w e = refl
three_last true false false w e = absurd (omega arith)
three_last false y z w e = absurd (omega arith)

three_less : (x y z w : Bool) → three x y (z && w) ≡ 0 → three x y z ≡ 0
three_less true true z w e = absurd (omega arith)
three_less true false true w e = refl
three_less true false false w e = absurd (omega arith)
three_less false y z w e = absurd (omega arith)

module _ (p : Plan) (a b : Bool) where
  pub more_refused : {n : ℕ} → n ≡ size_refusal p a → n ≢ 0 → n ≡ size_refusal p (a && b)
  unfolding size_refusal
  more_refused e z = e ∙ three_more (in_range p) (too_large p) a b (λ q. z (e ∙ q))

  pub more_length : size_refusal p a ≡ 0 → size_refusal p (a && b) ≡ cond (not b) 3 0
  unfolding size_refusal
  more_length e = three_last (in_range p) (too_large p) a b e

  -- with one length more, the first are right
  pub less_length : size_refusal p (a && b) ≡ 0 → size_refusal p a ≡ 0
  unfolding size_refusal
  less_length e = three_less (in_range p) (too_large p) a b e

-- where 4 is not given, the test passes
pub order_four : (b : Bool) → ◌≡◌ {A = ℕ} (cond b 0 4) 0 → T b
order_four true e = tt
order_four false e = absurd (omega arith)

-- ---- the lengths of planes

module _ (p : Plan) (P R : List ℕ) where
  pub sized_e : T (sized p P R) → (length P ≡ words_for (cell_total p)) × (length R ≡ words_for (cell_total p))
  unfolding sized
  sized_e t =
      let a = eqb (length P) (words_for (cell_total p)) in
      let b = eqb (length R) (words_for (cell_total p)) in
      (eqb→eq _ _ (and_l a b t), eqb→eq _ _ (and_r a b t))

  pub not_present : (length P ≡ words_for (cell_total p) → ⊥) → sized p P R ≡ false
  unfolding sized
  not_present n = rw (ne_eqb _ _ n)

  pub not_refined : length P ≡ words_for (cell_total p) → (length R ≡ words_for (cell_total p) → ⊥) → sized p P R ≡ false
  unfolding sized
  not_refined e n = rw (eq-eqb _ _ e, ne_eqb _ _ n)

  pub both_sized : length P ≡ words_for (cell_total p) → length R ≡ words_for (cell_total p) → sized p P R ≡ true
  unfolding sized
  both_sized e f = rw (eq-eqb _ _ e, eq-eqb _ _ f)

  -- what refusals 1 to 3 of planes leave
  pub record Sized : Type 0 where
    pub plan : plan_refusal p ≡ 0
    pub range : InRange p
    pub small : cell_total p ≤ most_cells
    pub present : length P ≡ words_for (cell_total p)
    pub refined : length R ≡ words_for (cell_total p)

  pub sized_of : size_refusal p (sized p P R) ≡ 0 → Sized
  sized_of e =
      let r = right_of p (sized p P R) e in
      let l = sized_e r.lengths in
      record { plan = r.plan; range = taken_range p r.plan; small = r.small; present = l.0; refined = l.1 }

  -- ---- and another table

  module _ (xs : List ℕ) (n : ℕ) where
    pub both_of : size_refusal p (sized p P R && eqb (length xs) n) ≡ 0 → Sized × (length xs ≡ n)
    both_of e =
        let r = right_of p (sized p P R && eqb (length xs) n) e in
        (sized_of (less_length p (sized p P R) (eqb (length xs) n) e), eqb→eq _ _ (and_r (sized p P R) (eqb (length xs) n) r.lengths))

  -- ---- 4

  module _ (n : ℕ) where
    pub order_before : (n ≡ 0 → ⊥) → n ≡ order_refusal p P R n
    unfolding order_refusal
    order_before z = rw (ne_eqb n 0 z)

    pub order_right : n ≡ 0 → in_order (cell_total p) P R ≡ true → 0 ≡ order_refusal p P R n
    unfolding order_refusal
    order_right z e = rw (z, e)

    pub order_wrong : n ≡ 0 → in_order (cell_total p) P R ≡ false → 4 ≡ order_refusal p P R n
    unfolding order_refusal
    order_wrong z e = rw (z, e)

    pub order_of : order_refusal p P R n ≡ 0 → (n ≡ 0) × T (in_order (cell_total p) P R)
    unfolding order_refusal
    order_of e =
        let c = chain n (cond (in_order (cell_total p) P R) 0 4) e in
        (c.0, order_four (in_order (cell_total p) P R) c.1)

-- what refusals 1 to 3 and 4 of planes leave
pub record Held (p : Plan) (P R fs : List ℕ) : Type 0 where
  pub sizes : Sized p P R
  pub functions : length fs ≡ function_total p
  pub order : T (in_order (cell_total p) P R)

pub held_of : (p : Plan) (P R fs : List ℕ) → refusal4 p P R fs ≡ 0 → Held p P R fs
unfolding refusal4 refusal3
held_of p P R fs e =
    let a = order_of p P R (refusal3 p P R fs) e in
    let b = both_of p P R fs (function_total p) a.0 in
    record { sizes = b.0; functions = b.1; order = a.1 }

-- and check, which asks the byte call's questions after them

module _ (p : Plan) (P R fs : List ℕ) where
  pub check_early : {n : ℕ} → n ≡ refusal4 p P R fs → n ≢ 0 → n ≡ check_planes p P R fs
  unfolding check_planes
  check_early e z = rw (ne_eqb (refusal4 p P R fs) 0 (λ q. z (e ∙ q)), e)

  pub check_held : refusal4 p P R fs ≡ 0 → check p (cells_of p P R) fs ≡ check_planes p P R fs
  unfolding check_planes
  check_held e = rw e

  -- what its 0 says
  pub check_of : check_planes p P R fs ≡ 0 → (refusal4 p P R fs ≡ 0) × (check p (cells_of p P R) fs ≡ 0)
  unfolding check_planes
  check_of e = chain (refusal4 p P R fs) (check p (cells_of p P R) fs) e

pub holding_of : (p : Plan) (P R fs : List ℕ) → Held p P R fs → Words P → Words R → Holding (cell_total p) P R
holding_of p P R fs h u v = record { present_words = u; refined_words = v; present_length = h.sizes.present; refined_length = h.sizes.refined; order = h.order }
