-- A refinement that carries heights keeps the height at every point. Assumes nothing.
use mathlib.Core.Path.{◌≡◌, refl, sym, ap, subst, ◌∙◌}
use mathlib.Core.Bool.{Bool, true, false, not, cond}
use mathlib.Core.List.{List}
use Prim.Native.Nat.{ℕ, ◌+◌, ◌-◌, ◌<◌}
use native.Mathlib.Nat.{le_refl}
use native.Mathlib.Omega.{arith}
use lib.Dec.{T, eqb, eqb→eq, ltb, ltb→lt, nltb→le, le→leb}
use lib.IntN.{ℤ, pos, ◌*ℤ◌, zero-*ℤ}
use lib.ListN.{length, get_or-eq_default}
use Rattle.facts.proofs.Tests.{cases, T_false}
use Rattle.exact.proofs.Sums.{sum_same}
use Rattle.grid.specs.declared.Plan.{Plan}
use Rattle.grid.specs.Plan.{function_offset, function_total, function_place, function_level, last_level}
use Rattle.grid.proofs.Spans.{support_some, supported_places}
use Rattle.grid.proofs.LastLevel.{function_last}
use Rattle.heights.specs.Heights.{on_mesh, value_at, product_of, height_sum}
use Rattle.mesh.specs.Mesh.{active, refined, deactivated, is_mesh, labels}
use Rattle.mesh.proofs.Bridge.{mesh_fits, length_labels, get_d_labels, deactivated_e}
use Rattle.carry.specs.Carry.{at, carried, only_active, carry}
use Rattle.carry.specs.Steps.{Allowed, Scales, Grows, NoneLast}
use Rattle.carry.proofs.Lists.{heights_length, heights_at, heights_is}
use Rattle.carry.proofs.Small.{carried_length}
use Rattle.carry.proofs.Whole.{whole, carried_keeps}
use Rattle.carry.proofs.Ends.{ends}

-- ---- active functions' heights

module _ (fs : List ℕ) (hs : List ℤ) where
  pub only_length : length (only_active fs hs) ≡ length hs
  unfolding only_active
  only_length = heights_length (length hs) _

  pub only_at : (g : ℕ) → g < length hs → at (only_active fs hs) g ≡ cond (active fs g) (at hs g) (pos 0)
  unfolding only_active
  only_at g l = heights_at (length hs) (λ f. cond (active fs f) (at hs f) (pos 0)) g l

  -- where the others have none already
  only_same : ((g : ℕ) → g < length hs → T (not (active fs g)) → at hs g ≡ pos 0) → only_active fs hs ≡ hs
  unfolding only_active
  only_same none = sym (heights_is (length hs) _ hs refl (λ g l. go (active fs g) (none g l)))
    where
      go : {z : ℤ} (b : Bool) → (T (not b) → z ≡ pos 0) → z ≡ cond b z (pos 0)
      go true e = refl
      go false e = e tt

  only_sum : (p : Plan) (x y : ℕ) → length hs ≡ function_total p → height_sum p fs hs x y ≡ whole p (only_active fs hs) x y
  unfolding height_sum product_of whole
  only_sum p x y s = sum_same (function_total p) _ _ (λ g l. sym (ap (λ z. z *ℤ pos (value_at p x y (function_place p g))) (only_at g (omega arith)) ∙ go (active fs g) (at hs g) (value_at p x y (function_place p g))))
    where
      go : (b : Bool) (z : ℤ) (v : ℕ) → cond b z (pos 0) *ℤ pos v ≡ cond b (z *ℤ pos v) (pos 0)
      go true z v = refl
      go false z v = zero-*ℤ (pos v)

pub carry_length : (p : Plan) (old new : List ℕ) (hs : List ℤ) → length hs ≡ function_total p → length (carry p old new hs) ≡ function_total p
unfolding carry
carry_length p old new hs s = only_length new _ ∙ carried_length p new (function_total p) (only_active old hs) (only_length old hs ∙ s)

-- ---- no function of the last level is deactivated

pub none_last : (p : Plan) → Allowed p → (cs : List ℕ) → T (is_mesh p cs) → NoneLast p (labels p cs)
unfolding refined last_level
none_last p allowed cs mesh f l = cases (ltb f (function_total p))
    (λ y. let b = ltb→lt f (function_total p) y in
    T_false (deactivated (labels p cs) f) (λ t.
    let (c, i, s) = support_some p allowed.range f b in
    let last : T (last_level p (function_level p f)) = subst T (sym (function_last p allowed.range f b)) (le→leb (function_offset p (p.levels - 1)) f l) in
    let e = eqb→eq (function_level p f + 1) p.levels last in
    (mesh_fits p cs mesh c i).shallow (deactivated_e p cs f (subst (λ m. T (eqb m 2)) (get_d_labels p cs f b) t) c i s)
    (omega (arith, (supported_places p allowed.range f c i s).level))))
    (λ y. rw (get_or-eq_default (labels p cs) 0 {n = f} (omega (arith, nltb→le f (function_total p) y, length_labels p cs))) refl)

-- ---- the height at a point

pub kept : (p : Plan) → Allowed p → Scales p → (cs cs' : List ℕ) → Grows p cs cs' → (hs : List ℤ) → length hs ≡ function_total p
    → (x y : ℕ) → T (on_mesh p x y) → height_sum p (labels p cs') (carry p (labels p cs) (labels p cs') hs) x y ≡ height_sum p (labels p cs) hs x y
unfolding carry
kept p allowed scales cs cs' grows hs s x y on =
    let old = labels p cs in
    let new = labels p cs' in
    let start = only_active old hs in
    let moved = carried p new (function_total p) start in
    let long : length moved ≡ function_total p = carried_length p new (function_total p) start (only_length old hs ∙ s) in
    let same : only_active new moved ≡ moved =
    only_same new moved (λ g l n. ends p allowed scales cs cs' grows g (omega arith) start (λ q. only_at old hs g (omega arith) ∙ ap (λ b. cond b (at hs g) (pos 0)) q) n) in
    ap (λ ks. height_sum p new ks x y) same
    ∙ only_sum new moved p x y long
    ∙ ap (λ ks. whole p ks x y) same
    ∙ carried_keeps p allowed scales x y on new (none_last p allowed cs' grows.after) (function_total p) (le_refl _) start
    ∙ sym (only_sum old hs p x y s)
