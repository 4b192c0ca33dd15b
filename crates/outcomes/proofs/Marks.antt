-- What a call that passes refusals 1 to 9 knows of its marks, and what they mean. Assumes nothing.
use mathlib.Core.Path.{◌≡◌, refl, sym, ap, ◌∙◌, subst, fun_ext}
use mathlib.Core.Bool.{◌&&◌}
use mathlib.Core.Logic.{◌≢◌}
use mathlib.Core.List.{List}
use Prim.Native.Nat.{ℕ, ◌+◌, ◌<◌}
use native.Mathlib.Omega.{arith}
use lib.Dec.{T, eqb, eqb→eq, ltb, ltb→lt, lt→ltb}
use Rattle.facts.specs.Numbers.{elem, stored, first}
use Rattle.facts.proofs.Tests.{and_l, and_r, same, T_true, T_false, eqb_of}
use Rattle.facts.proofs.Bounded.{some_e, some_same}
use Rattle.facts.proofs.Numbers.{first_zero, first_none, stored_is, stored_inside}
use Rattle.hierarchy.specs.Hierarchy.{Cells, needs, closure}
use Rattle.hierarchy.proofs.Closure.{closure_in}
use Rattle.grid.specs.declared.Plan.{Plan}
use Rattle.grid.specs.Plan.{cell_total, function_total, cell_level, function_level, last_level, supported, hierarchy}
use Rattle.grid.specs.Range.{InRange}
use Rattle.grid.proofs.Laws.{lawful, cell_inside}
use Rattle.grid.proofs.Spans.{supported_places}
use Rattle.mesh.specs.Mesh.{active, refined, reactivable, table_of, check}
use Rattle.mesh.proofs.Bridge.{Good, chain, pass, stop, active_is, reactivable_is}
use Rattle.outcomes.specs.Calls.{Direction, refine, coarsen, By, cells, functions, total, eligible, is_too_deep, mark_refusal, under_marked, selected, smallest, refusal}
use Rattle.outcomes.proofs.Sets.{May}

-- ---- refusals 7, 8, 9

module _ (d : Direction) (by : By) (p : Plan) (cs fs : List ℕ) (x : ℕ) where
  pub record Fits : Type 0 where
    pub inside : x < total by p
    pub kind : T (eligible d by p cs fs x)
    pub shallow : T (is_too_deep d by p x) → ⊥

  pub fits_e : mark_refusal d by p cs fs x ≡ 0 → Fits
  unfolding mark_refusal
  fits_e e =
      let (a, e1) = pass (ltb x (total by p)) 6 _ e in
      let (b, e2) = pass (eligible d by p cs fs x) 7 _ e1 in
      let (c, e3) = stop (is_too_deep d by p x) 8 0 e2 in
      record { inside = ltb→lt x (total by p) a; kind = b; shallow = c }

  pub fits_i : Fits → mark_refusal d by p cs fs x ≡ 0
  unfolding mark_refusal
  fits_i k = rw (T_true (ltb x (total by p)) (lt→ltb x (total by p) k.inside), T_true (eligible d by p cs fs x) k.kind, T_false (is_too_deep d by p x) k.shallow) refl

module _ (d : Direction) (by : By) (p : Plan) (cs fs marks : List ℕ) where
  abbrev judged : ℕ
  judged = first (mark_refusal d by p cs fs) marks

  pub refusal_check : check p cs fs ≢ 0 → refusal d by p cs fs marks ≡ check p cs fs
  unfolding refusal
  refusal_check n = rw (T_false (eqb (check p cs fs) 0) (λ t. n (eqb→eq _ _ t))) refl

  pub refusal_mark : check p cs fs ≡ 0 → refusal d by p cs fs marks ≡ judged
  unfolding refusal
  refusal_mark e = rw (T_true (eqb (check p cs fs) 0) (eqb_of _ _ e)) refl

  -- a call that passes 1 to 9 has good tables and marks that fit
  pub refusal_e : refusal d by p cs fs marks ≡ 0 → (check p cs fs ≡ 0) × ((x : ℕ) → T (elem x marks) → Fits d by p cs fs x)
  unfolding refusal
  refusal_e e =
      let (a, b) = chain (check p cs fs) judged e in
      (a, λ x m. fits_e d by p cs fs x (first_zero (mark_refusal d by p cs fs) marks b x m))

  pub refusal_i : check p cs fs ≡ 0 → ((x : ℕ) → T (elem x marks) → Fits d by p cs fs x) → refusal d by p cs fs marks ≡ 0
  refusal_i e h = refusal_mark e ∙ first_none (mark_refusal d by p cs fs) marks (λ x m. fits_i d by p cs fs x (h x m))

-- ---- what the marks mean is fit to be refined, or coarsened

module _ (p : Plan) (cs fs marks : List ℕ) (G : Good p cs) where
  not_last : (k : ℕ) → k < p.levels → (T (last_level p k) → ⊥) → k + 1 < p.levels
  unfolding last_level
  not_last k l f = let g : k + 1 ≢ p.levels = λ e. f (eqb_of (k + 1) p.levels e) in omega arith

  pub selected_may : (d : Direction) (by : By) → ((x : ℕ) → T (elem x marks) → Fits d by p cs fs x) → (c : ℕ) → c < cell_total p
      → T (selected d by p cs fs marks c) → May d (hierarchy p) (refined cs) c
  unfolding selected eligible is_too_deep under_marked
  selected_may refine cells h c i m =
      let k = h c m in
      (subst T (active_is p cs G c i) k.kind, not_last (cell_level p c) (cell_inside p G.range c i).level< k.shallow)
  selected_may refine functions h c i m =
      let (f, j, u) = some_e (function_total p) (λ f. elem f marks && supported p f c) (and_r (active cs c) _ m) in
      let k = h f (and_l (elem f marks) _ u) in
      let e : function_level p f ≡ cell_level p c = (supported_places p G.range f c i (and_r (elem f marks) _ u)).level in
      (subst T (active_is p cs G c i) (and_l (active cs c) _ m), not_last (cell_level p c) (cell_inside p G.range c i).level< (λ t. k.shallow (rw e t)))
  selected_may coarsen cells h c i m = subst T (reactivable_is p cs G c i) (h c m).kind
  selected_may coarsen functions h c i m = subst T (reactivable_is p cs G c i) (and_l (reactivable p cs c) _ m)

-- ---- the table of the closure

pub inside_ext : (n : ℕ) (X Y : Cells) → ((c : ℕ) → T (X c) → c < n) → ((c : ℕ) → T (Y c) → c < n) → ((c : ℕ) → c < n → X c ≡ Y c) → X ≡ Y
inside_ext n X Y I J h = fun_ext (λ c. same (X c) (Y c) (λ x. subst T (h c (I c x)) x) (λ y. subst T (sym (h c (J c y))) y))

pub closure_same_below : (p : Plan) (X Y : Cells) → ((c : ℕ) → c < cell_total p → X c ≡ Y c) → closure (hierarchy p) X ≡ closure (hierarchy p) Y
unfolding closure
closure_same_below p X Y h = fun_ext (λ c. some_same (cell_total p) _ _ (λ x l. ap (λ b. b && needs (hierarchy p) x c) (h x l)))

pub smallest_is : (p : Plan) → InRange p → (X : Cells) → smallest p X ≡ table_of p (closure (hierarchy p) X)
unfolding smallest
smallest_is p range X =
    let H = hierarchy p in
    let n : ℕ = cell_total p in
    ap (table_of p) (inside_ext n (stored n (closure H (stored n X))) (closure H (stored n X)) (stored_inside n _) (closure_in H (lawful p range) (stored n X)) (stored_is n _)
    ∙ closure_same_below p (stored n X) X (stored_is n X))
