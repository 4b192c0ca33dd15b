-- A function that is not active after a refinement has no height when all have passed theirs on. Assumes nothing.
use mathlib.Core.Path.{◌≡◌, refl, sym, ap, subst, ◌∙◌}
use mathlib.Core.Bool.{Bool, true, false, not, ◌&&◌, cond}
use mathlib.Core.List.{List}
use Prim.Native.Nat.{ℕ, zero, suc, ◌≤◌, ◌<◌, zero-le}
use native.Mathlib.Nat.{le_refl}
use native.Mathlib.Omega.{arith}
use lib.Dec.{T, eqb, leb, leb→le, nleb→lt, eqb→eq}
use lib.IntN.{ℤ, pos, *ℤ-zero}
use Rattle.facts.specs.Bounded.{implies, some, every}
use Rattle.facts.proofs.Bounded.{some_e}
use Rattle.facts.proofs.Tests.{cases, and_l, and_r, not_i, not_e, positive, differ, T_true}
use Rattle.grid.specs.declared.Plan.{Plan}
use Rattle.grid.specs.Range.{InRange}
use Rattle.grid.specs.Plan.{cell_total, function_total, cell_level, parent, supported}
use Rattle.grid.proofs.Laws.{cell_inside, parent_lt, parent_level, is_child}
use Rattle.mesh.specs.Mesh.{absent, active, refined, deactivated, is_mesh, label_of, labels}
use Rattle.mesh.proofs.Bridge.{mesh_fits, get_d_labels, deactivated_e, passive_i}
use Rattle.carry.specs.Carry.{share, at, pass_on, carried}
use Rattle.carry.specs.Steps.{Allowed, Scales, Grows}
use Rattle.carry.proofs.OnePass.{passed_at, passed_own}
use Rattle.carry.proofs.Shares.{share_later, share_within}

-- ---- heights that stay 0

module _ (p : Plan) (fs : List ℕ) (hs : List ℤ) (g : ℕ) (b : g < function_total p) where
  abbrev now : ℕ → ℤ
  now n = at (carried p fs n hs) g

  -- none is passed to it
  pass_zero : (f : ℕ) (ks : List ℤ) → at ks g ≡ pos 0 → share p f g ≡ 0 → at (pass_on p f ks) g ≡ pos 0
  pass_zero f ks z s = passed_at p f ks g b ∙ rw (z, s, *ℤ-zero (at ks f)) (go (eqb g f))
    where
      go : (c : Bool) → cond c (pos 0) (pos 0) ≡ pos 0
      go true = refl
      go false = refl

  stays_zero : (m : ℕ) → now m ≡ pos 0 → ((f : ℕ) → m ≤ f → f < function_total p → T (deactivated fs f) → share p f g ≡ 0)
      → (n : ℕ) → m ≤ n → n ≤ function_total p → now n ≡ pos 0
  unfolding carried
  stays_zero m z none zero l t = let e : m ≡ 0 = omega arith in subst (λ k. now k ≡ pos 0) e z
  stays_zero m z none (suc n) l t =
      cases (leb m n)
      (λ y. let k = leb→le m n y in go (deactivated fs n) (stays_zero m z none n k (omega arith)) (none n k t))
      (λ y. let e : m ≡ suc n = omega (arith, nleb→lt m n y) in subst (λ k. now k ≡ pos 0) e z)
    where
      go : (d : Bool) → now n ≡ pos 0 → (T d → share p n g ≡ 0) → at (cond d (pass_on p n (carried p fs n hs)) (carried p fs n hs)) g ≡ pos 0
      go true q s = pass_zero n (carried p fs n hs) q (s tt)
      go false q s = q

  -- a deactivated function has passed its height on, and gets none again
  given_away : Allowed p → Scales p → T (deactivated fs g) → now (function_total p) ≡ pos 0
  unfolding carried
  given_away allowed scales t =
      stays_zero (suc g) (rw (T_true (deactivated fs g) t) (passed_own p g (carried p fs g hs) b)) (λ f l d u. share_later p allowed scales f g d (omega arith))
      (function_total p) b (le_refl _)

  -- one that has none and gets none
  never : at hs g ≡ pos 0 → ((f : ℕ) → f < function_total p → T (deactivated fs f) → share p f g ≡ 0) → now (function_total p) ≡ pos 0
  unfolding carried
  never z none = stays_zero 0 z (λ f l. none f) (function_total p) zero-le (le_refl _)

-- ---- what the cells say

-- a cell after level 0 is present just where its parent is refined
present_is : (p : Plan) → InRange p → (cs : List ℕ) → T (is_mesh p cs) → (c : ℕ) → c < cell_total p → 1 ≤ cell_level p c → not (absent cs c) ≡ refined cs (parent p c)
present_is p range cs mesh c i l =
    let (a, b, ha, hb, e) = is_child p range c i l in
    let k : suc (cell_level p (parent p c)) < p.levels = omega (arith, parent_level p range c i l, (cell_inside p range c i).level<) in
    ap (λ d. not (absent cs d)) (sym e) ∙ (mesh_fits p cs mesh (parent p c) (parent_lt p range c i l)).below k a b ha hb

-- a label that is neither 1 nor 2
passive : (a b : Bool) → T (not (eqb (cond a 0 (cond b 2 1)) 1)) → T (not (eqb (cond a 0 (cond b 2 1)) 2)) → T a
passive true b s t = tt
passive false true s t = t
passive false false s t = s

module _ (p : Plan) (allowed : Allowed p) (scales : Scales p) (cs cs' : List ℕ) (grows : Grows p cs cs') (g : ℕ) (b : g < function_total p) where
  abbrev old : List ℕ
  old = labels p cs

  abbrev new : List ℕ
  new = labels p cs'

  somewhere : T (not (active new g)) → T (not (deactivated new g)) → (c : ℕ) × (c < cell_total p) × T (supported p g c && absent cs' c)
  unfolding active refined label_of
  somewhere s t =
      let e = get_d_labels p cs' g b in
      let out : ℕ → Bool = λ c. supported p g c && absent cs' c in
      some_e (cell_total p) out (passive (some (cell_total p) out) (every (cell_total p) (λ c. implies (supported p g c) (refined cs' c))) (rw e at s) (rw e at t))

  -- a cell of the support that is absent afterwards
  module _ (c : ℕ) (i : c < cell_total p) (s : T (supported p g c)) (a : T (absent cs' c)) where
    deep : 1 ≤ cell_level p c
    deep = positive (cell_level p c) (not_i (eqb (cell_level p c) 0) (λ z. not_e (absent cs' c) ((mesh_fits p cs' grows.after c i).first (eqb→eq (cell_level p c) 0 z)) a))

    unrefined : T (refined cs' (parent p c)) → ⊥
    unrefined r = not_e (absent cs' c) (subst T (sym (present_is p allowed.range cs' grows.after c i deep)) r) a

    -- it was absent before
    was_absent : T (absent cs c)
    was_absent = cases (absent cs c) (λ t. t)
        (λ t. absurd (unrefined (grows.stays (parent p c) (parent_lt p allowed.range c i deep) (subst T (present_is p allowed.range cs grows.before c i deep) t))))

    was_passive : active old g ≡ false
    unfolding active
    was_passive = rw (get_d_labels p cs g b, passive_i p cs g c i s was_absent) refl

    -- and no deactivated function has the cell's parent in its support
    childless : (f : ℕ) → f < function_total p → T (deactivated new f) → share p f g ≡ 0
    unfolding refined
    childless f d t = cases (eqb (share p f g) 0) (eqb→eq (share p f g) 0)
        (λ n. absurd (unrefined (deactivated_e p cs' f (subst (λ m. T (eqb m 2)) (get_d_labels p cs' f d) t) (parent p c) (parent_lt p allowed.range c i deep)
        (share_within p allowed scales f g c d b i (differ (share p f g) 0 n) s deep))))

  pub ends : (hs : List ℤ) → (active old g ≡ false → at hs g ≡ pos 0) → T (not (active new g)) → at (carried p new (function_total p) hs) g ≡ pos 0
  ends hs e n = cases (deactivated new g) (given_away p new hs g b allowed scales) (λ t.
      let (c, i, u) = somewhere n t in
      let s = and_l (supported p g c) (absent cs' c) u in
      let a = and_r (supported p g c) (absent cs' c) u in
      never p new hs g b (e (was_passive c i s a)) (childless c i s a))
