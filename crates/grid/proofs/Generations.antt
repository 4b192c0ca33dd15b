-- Ancestors, several levels up: what is above them in turn, how near to each other they are, and how near to one a cell of a
-- neighbourhood lies. Assumes nothing.
use Prim.Native.Nat.{ℕ, zero, suc, ◌+◌, ◌-◌, ◌*◌, ◌/◌, ◌^◌, ◌<◌, ◌≤◌}
use native.Mathlib.Nat.{div-lt_iff_lt-mul, div-div-eq-div-mul, div-one, lt-div-mul-add, mul-le-mul, one-mul, pow-zero, pow-suc, pow-le-pow_right, le_refl, le_of_suc-le-suc}
use native.Mathlib.Omega.{arith}
use mathlib.Core.Path.{◌≡◌, sym, ap, ◌∙◌}
use lib.Dec.{T}
use lib.Arith.{digits_div}
use lib.Pow.{pow-add}
use Rattle.grid.specs.declared.Plan.{Plan}
use Rattle.grid.specs.declared.Place.{Place}
use Rattle.grid.specs.Plan.{ratio, cell_total, cell_place, below, CellInside, ancestor, near}
use Rattle.grid.specs.Range.{InRange}
use Rattle.grid.proofs.Rising.{Apart}
use Rattle.grid.proofs.SideLaws.{together_near}
use Rattle.grid.proofs.Laws.{ratio_ge, across_sized, up_sized, cell_inside, CommonAt, Near, near_in, near_places, near_child_in, near_ancestor_lt, near_common}

-- ---- one direction

-- v columns, at least 2, stand on one: those at most 2·g apart stand on columns at most g apart
module _ (v g : ℕ) (two : 2 ≤ v) where
  half : (x y : ℕ) → x ≤ y + 2 * g → x / v ≤ y / v + g
  half x y h =
      let z : 0 < v = omega arith in
      le_of_suc-le-suc ((div-lt_iff_lt-mul z).1 (omega (arith, lt-div-mul-add {a = y} z, mul-le-mul two (le_refl g))))

  halves_apart : (x y : ℕ) → Apart (2 * g) x y → Apart g (x / v) (y / v)
  halves_apart x y a = record { right = half x y a.right; left = half y x a.left }

pow_two : (s d : ℕ) → 2 ≤ s → 0 < d → 2 ≤ s ^ d
pow_two s d two one =
    let z : 0 < s = omega arith in
    let e : s ^ 1 ≡ s = rw (pow-suc, pow-zero, one-mul) in
    omega (arith, pow-le-pow_right {n = s} z one)

-- ---- ancestors

module _ (p : Plan) where
  pub ancestor_own : (x : ℕ) → ancestor p 0 x ≡ x
  unfolding ancestor
  ancestor_own x = rw (pow-zero, div-one)

  -- d levels up and then e
  pub ancestor_more : (d e x : ℕ) → ancestor p (d + e) x ≡ ancestor p e (ancestor p d x)
  unfolding ancestor
  ancestor_more d e x = ap (λ (n : ℕ). x / n) (pow-add (ratio p) d e) ∙ sym (div-div-eq-div-mul x (ratio p ^ d) (ratio p ^ e))

  pub ancestor_next : (d x : ℕ) → ancestor p (d + 1) x ≡ ancestor p d x / ratio p
  unfolding ancestor
  ancestor_next d x = ancestor_more d 1 x ∙ ap (λ (n : ℕ). x / ratio p ^ d / n) (rw (pow-suc, pow-zero, one-mul))

  pub ancestor_one : (x : ℕ) → ancestor p 1 x ≡ x / ratio p
  ancestor_one x = ancestor_next 0 x ∙ ap (λ (n : ℕ). n / ratio p) (ancestor_own x)

  -- the columns on x have it for a parent
  child_stands : (x b : ℕ) → b < ratio p → ancestor p 1 (x * ratio p + b) ≡ x
  child_stands x b l = ancestor_one (x * ratio p + b) ∙ digits_div x l

  -- ancestors are at most half as far apart, and on any level not farther
  pub ancestors_apart : (d g x y : ℕ) → 0 < d → Apart (2 * g) x y → Apart g (ancestor p d x) (ancestor p d y)
  unfolding ancestor
  ancestors_apart d g x y one a = halves_apart (ratio p ^ d) g (pow_two (ratio p) d (ratio_ge p) one) x y a

  pub ancestors_within : (d g x y : ℕ) → Apart g x y → Apart g (ancestor p d x) (ancestor p d y)
  ancestors_within zero g x y a = rw (ancestor_own x, ancestor_own y) a
  ancestors_within (suc d) g x y a = ancestors_apart (suc d) g x y (omega arith) (record { right = omega (arith, a.right); left = omega (arith, a.left) })

-- ---- neighbourhoods

-- a cell near q and q's ancestor on its level are under a common function of that level
pub near_there : (p : Plan) → InRange p → (q c : Place) → CellInside p q → CellInside p c → Near p q c → CommonAt p c (ancestor p (p.class - 1) q.row) (ancestor p (p.class - 1) q.column)
near_there p range q c i j n =
    let e : p.class - 2 + 1 ≡ p.class - 1 = omega (arith, n.graded, range.class≢) in
    let up : (x : ℕ) → ancestor p (p.class - 1) x ≡ ancestor p (p.class - 2) x / ratio p =
    λ x. ap (λ (d : ℕ). ancestor p d x) (sym e) ∙ ancestor_next p (p.class - 2) x in
    rw (up q.row, up q.column) (near_common p range q c i j n)

-- one direction: the columns under x have one at most g from q's ancestor e levels up
pub record Beside (p : Plan) (g e q x : ℕ) : Type 0 where
  pub child : ℕ
  pub stands : ancestor p 1 child ≡ x
  pub near : Apart g child (ancestor p e q)

-- a cell near q stands class - 1 levels above it, and has a child at most the degrees from q's ancestor on the child's level
pub record NearBeside (p : Plan) (q c : Place) : Type 0 where
  pub graded : 2 ≤ p.class
  pub levels : c.level + (p.class - 1) ≡ q.level
  pub columns : Beside p p.degree_across (p.class - 2) q.column c.column
  pub rows : Beside p p.degree_up (p.class - 2) q.row c.row

pub near_beside : (p : Plan) → InRange p → (q c : ℕ) → q < cell_total p → T (near p q c) → NearBeside p (cell_place p q) (cell_place p c)
unfolding below
near_beside p range q c b t =
    let n = near_places p range q c t in
    let i = cell_inside p range q b in
    let j = cell_inside p range c (near_in p range q c t) in
    let e = near_child_in p range _ _ i j n in
    record {
      graded = omega (arith, range.class≢, n.graded);
      levels = omega (arith, range.class≢, n.graded, n.levels);
      columns = record {
        child = (cell_place p c).column * ratio p + n.right;
        stands = child_stands p (cell_place p c).column n.right n.right<;
        near = together_near _ (across_sized p range _) _ _ e.column< (near_ancestor_lt p range _ _ i j n p.columns (cell_place p q).column i.column<) n.common.columns;
      };
      rows = record {
        child = (cell_place p c).row * ratio p + n.down;
        stands = child_stands p (cell_place p c).row n.down n.down<;
        near = together_near _ (up_sized p range _) _ _ e.row< (near_ancestor_lt p range _ _ i j n p.rows (cell_place p q).row i.row<) n.common.rows;
      };
    }
