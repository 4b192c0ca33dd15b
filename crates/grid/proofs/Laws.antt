-- The laws of a plan's grid: numbers and places, parents and children, neighbourhoods. What the theory of meshes knows of the
-- grid is `lawful`. Assumes nothing.
use Prim.Native.Nat.{ℕ, suc, pred, ◌+◌, ◌-◌, ◌*◌, ◌/◌, ◌%◌, ◌^◌, ◌<◌, ◌≤◌}
use native.Mathlib.Nat.{mod-lt, div-add-mod'}
use native.Mathlib.Omega.{arith}
use mathlib.Core.Bool.{Bool, true, false, not, ◌&&◌, ◌||◌, cond}
use mathlib.Core.Logic.{◌≢◌}
use mathlib.Core.Path.{◌≡◌, refl}
use lib.Dec.{T, leb, ltb, eqb, leb→le, le→leb, eqb→eq, ltb→lt, lt→ltb}
use lib.Arith.{digits_div}
use Rattle.facts.specs.Bounded.{some}
use Rattle.facts.proofs.Tests.{and_i, and_l, and_r, or_e, or_l, or_r, cases, not_i, differ, eqb_of}
use Rattle.facts.proofs.Bounded.{some_i, some_e}
use Rattle.hierarchy.proofs.Sets.{Lawful}
use Rattle.grid.specs.declared.Plan.{Plan}
use Rattle.grid.specs.declared.Place.{Place}
use Rattle.grid.specs.Plan.{between, numbers_in_range, corners_in_range, in_range, ratio, grown, columns_at, rows_at, across_at, up_at, function_columns_at, cell_total, function_total, too_large, plan_refusal_or, plan_refusal, cell_place, cell_number, function_place, function_number, CellInside, FunctionInside, above, below, parent, child, ancestor, common_at, near_at, near, hierarchy}
use Rattle.grid.specs.Range.{InRange}
use Rattle.grid.proofs.Numbering as numbering
use Rattle.grid.specs.Knots.{together}
use Rattle.grid.specs.Side.{Sized}
use Rattle.grid.proofs.Direction.{grown_pos, grown_up, grown_down, grown_one, grown_ancestor, grown_unit, grown_more, div_swap}
use Rattle.grid.proofs.SideLaws.{together_up}

-- ---- the ranges

pub between_low : (lo hi x : ℕ) → T (between lo hi x) → lo ≤ x
unfolding between
between_low lo hi x t = leb→le lo x (and_l (leb lo x) (leb x hi) t)

pub between_high : (lo hi x : ℕ) → T (between lo hi x) → x ≤ hi
unfolding between
between_high lo hi x t = leb→le x hi (and_r (leb lo x) (leb x hi) t)

pub between_i : (lo hi x : ℕ) → lo ≤ x → x ≤ hi → T (between lo hi x)
unfolding between
between_i lo hi x a b = and_i (leb lo x) (leb x hi) (le→leb lo x a) (le→leb x hi b)

pub corners_below : (n bits : ℕ) → T (corners_in_range n bits) → bits < 2 ^ n
unfolding corners_in_range
corners_below n bits t = ltb→lt bits (2 ^ n) (and_l (ltb bits (2 ^ n)) _ t)

pub corners_even : (n bits : ℕ) → T (corners_in_range n bits) → bits % 2 ≡ 0
unfolding corners_in_range
corners_even n bits t = eqb→eq (bits % 2) 0 (and_r (ltb bits (2 ^ n)) _ t)

pub corners_i : (n bits : ℕ) → bits < 2 ^ n → bits % 2 ≡ 0 → T (corners_in_range n bits)
unfolding corners_in_range
corners_i n bits a b = and_i (ltb bits (2 ^ n)) _ (lt→ltb bits (2 ^ n) a) (eqb_of (bits % 2) 0 b)

-- each test of the range, as a fact
module _ (p : Plan) where
  abbrev r1 : Bool
  r1 = between 1 16 p.columns

  abbrev r2 : Bool
  r2 = between 1 16 p.rows

  abbrev r3 : Bool
  r3 = between 1 8 p.levels

  abbrev r4 : Bool
  r4 = between 1 4 p.degree_across

  abbrev r5 : Bool
  r5 = between 1 4 p.degree_up

  abbrev r6 : Bool
  r6 = eqb p.class 0 || between 2 8 p.class

  abbrev c1 : Bool
  c1 = corners_in_range p.columns p.corners_across

  abbrev c2 : Bool
  c2 = corners_in_range p.rows p.corners_up

  pub in_range_lem : T (in_range p) → InRange p
  unfolding in_range numbers_in_range
  in_range_lem u =
      let t = and_l (numbers_in_range p) _ u in
      let v = and_r (numbers_in_range p) (c1 && c2) u in
      let t2 = and_r r1 (r2 && (r3 && (r4 && (r5 && r6)))) t in
      let t3 = and_r r2 (r3 && (r4 && (r5 && r6))) t2 in
      let t4 = and_r r3 (r4 && (r5 && r6)) t3 in
      let t5 = and_r r4 (r5 && r6) t4 in
      let t6 = and_r r5 r6 t5 in
      record {
        columns≥ = between_low _ _ _ (and_l r1 _ t);
        columns≤ = between_high _ _ _ (and_l r1 _ t);
        rows≥ = between_low _ _ _ (and_l r2 _ t2);
        rows≤ = between_high _ _ _ (and_l r2 _ t2);
        levels≥ = between_low _ _ _ (and_l r3 _ t3);
        levels≤ = between_high _ _ _ (and_l r3 _ t3);
        across≥ = between_low _ _ _ (and_l r4 _ t4);
        across≤ = between_high _ _ _ (and_l r4 _ t4);
        up≥ = between_low _ _ _ (and_l r5 r6 t5);
        up≤ = between_high _ _ _ (and_l r5 r6 t5);
        class≢ = or_e (eqb p.class 0) (between 2 8 p.class) t6 (λ z. omega (arith, eqb→eq p.class 0 z)) (λ b. omega (arith, between_low 2 8 p.class b));
        class≤ = or_e (eqb p.class 0) (between 2 8 p.class) t6 (λ z. omega (arith, eqb→eq p.class 0 z)) (λ b. between_high 2 8 p.class b);
        corners_across< = corners_below _ _ (and_l c1 c2 v);
        even_across = corners_even _ _ (and_l c1 c2 v);
        corners_up< = corners_below _ _ (and_r c1 c2 v);
        even_up = corners_even _ _ (and_r c1 c2 v);
      }

  -- what corners are looked at for
  pub few_columns : T (numbers_in_range p) → p.columns ≤ 16
  unfolding numbers_in_range
  few_columns t = between_high _ _ _ (and_l r1 _ t)

  pub few_rows : T (numbers_in_range p) → p.rows ≤ 16
  unfolding numbers_in_range
  few_rows t = between_high _ _ _ (and_l r2 _ (and_r r1 _ t))

  pub range_test : InRange p → T (in_range p)
  unfolding in_range numbers_in_range
  range_test i =
      let t1 = between_i 1 16 p.columns i.columns≥ i.columns≤ in
      let t2 = between_i 1 16 p.rows i.rows≥ i.rows≤ in
      let t3 = between_i 1 8 p.levels i.levels≥ i.levels≤ in
      let t4 = between_i 1 4 p.degree_across i.across≥ i.across≤ in
      let t5 = between_i 1 4 p.degree_up i.up≥ i.up≤ in
      let t6 : T r6 = cases (eqb p.class 0) (λ z. or_l (eqb p.class 0) (between 2 8 p.class) z) (λ z. or_r (eqb p.class 0) (between 2 8 p.class) (between_i 2 8 p.class (omega (arith, differ p.class 0 z, i.class≢)) i.class≤)) in
      and_i (numbers_in_range p) _ (and_i r1 _ t1 (and_i r2 _ t2 (and_i r3 _ t3 (and_i r4 _ t4 (and_i r5 r6 t5 t6)))))
      (and_i c1 c2 (corners_i _ _ i.corners_across< i.even_across) (corners_i _ _ i.corners_up< i.even_up))

-- ---- refusals 1 and 2

module _ (p : Plan) where
  pub refused_1 : in_range p ≡ false → plan_refusal p ≡ 1
  unfolding plan_refusal
  refused_1 e = rw e

  pub refused_2 : in_range p ≡ true → too_large p ≡ true → plan_refusal p ≡ 2
  unfolding plan_refusal
  refused_2 e f = rw (e, f)

  pub refused_0 : in_range p ≡ true → too_large p ≡ false → plan_refusal p ≡ 0
  unfolding plan_refusal
  refused_0 e f = rw (e, f)

  -- a plan that is not refused is in range, and leaves the rest to be asked
  pub taken_range : plan_refusal p ≡ 0 → InRange p
  unfolding plan_refusal
  taken_range e = go (in_range p) refl e
    where
      go : (b : Bool) → in_range p ≡ b → cond {A = ℕ} (not b) 1 (cond (too_large p) 2 0) ≡ 0 → InRange p
      go true r z = in_range_lem p (rw r tt)
      go false r z = absurd (omega arith)

  pub taken : (n : ℕ) → plan_refusal p ≡ 0 → plan_refusal_or p n ≡ n
  unfolding plan_refusal
  taken n e = go (in_range p) (too_large p) e
    where
      go : (a b : Bool) → cond {A = ℕ} (not a) 1 (cond b 2 0) ≡ 0 → cond {A = ℕ} (not a) 1 (cond b 2 n) ≡ n
      go true true z = absurd (omega arith)
      go true false z = refl
      go false b z = absurd (omega arith)

  pub refused : (n : ℕ) → (plan_refusal p ≡ 0 → ⊥) → plan_refusal_or p n ≡ plan_refusal p
  unfolding plan_refusal
  refused n e = go (in_range p) (too_large p) e
    where
      go : (a b : Bool) → (cond {A = ℕ} (not a) 1 (cond b 2 0) ≡ 0 → ⊥) → cond {A = ℕ} (not a) 1 (cond b 2 n) ≡ cond (not a) 1 (cond b 2 0)
      go true true z = refl
      go true false z = absurd (z refl)
      go false b z = refl

-- ---- numbers and places, parents and children

pub ratio_pos : (p : Plan) → 0 < ratio p
unfolding ratio
ratio_pos p = omega arith

pub ratio_ge : (p : Plan) → 2 ≤ ratio p
unfolding ratio
ratio_ge p = omega arith

module _ (p : Plan) (range : InRange p) where
  wide : (k : ℕ) → 0 < columns_at p k
  wide k = grown_pos (ratio p) (ratio_pos p) p.columns k range.columns≥

  pub above_in : (x : Place) → 0 < x.level → CellInside p x → CellInside p (above p x)
  unfolding above
  above_in x z i = let l : pred x.level < p.levels = omega arith in record {
    level< = l;
    row< = grown_up (ratio p) (ratio_pos p) p.rows x.level x.row z i.row<;
    column< = grown_up (ratio p) (ratio_pos p) p.columns x.level x.column z i.column<;
  }

  below_in : (x : Place) (a b : ℕ) → suc x.level < p.levels → a < ratio p → b < ratio p → CellInside p x → CellInside p (below p x a b)
  unfolding below
  below_in x a b z l m i = record {
    level< = z;
    row< = grown_down (ratio p) (ratio_pos p) p.rows x.level x.row a i.row< l;
    column< = grown_down (ratio p) (ratio_pos p) p.columns x.level x.column b i.column< m;
  }

  above_below : (x : Place) (a b : ℕ) → a < ratio p → b < ratio p → above p (below p x a b) ≡ x
  unfolding above below
  above_below x a b l m = λ i. record { level = x.level; row = digits_div x.row l i; column = digits_div x.column m i }

  pub below_above : (x : Place) → 0 < x.level → below p (above p x) (x.row % ratio p) (x.column % ratio p) ≡ x
  unfolding above below
  below_above x z = λ i. record { level = e i; row = div-add-mod' x.row (ratio p) i; column = div-add-mod' x.column (ratio p) i }
    where
      e : suc (pred x.level) ≡ x.level
      e = omega arith

  -- the functions' numbering, by the same laws
  function_wide : (k : ℕ) → 0 < function_columns_at p k
  function_wide k = omega (arith, wide k)

  pub function_inside : (n : ℕ) → n < function_total p → FunctionInside p (function_place p n)
  function_inside n b = numbering.place_inside _ _ function_wide p.levels n b

  pub function_number_place : (n : ℕ) → n < function_total p → function_number p (function_place p n) ≡ n
  function_number_place n b = numbering.number_place _ _ function_wide p.levels n b

  pub function_place_number : (x : Place) → FunctionInside p x → function_place p (function_number p x) ≡ x
  function_place_number x i = numbering.place_number _ _ p.levels x i

  pub function_number_lt : (x : Place) → FunctionInside p x → function_number p x < function_total p
  function_number_lt x i = numbering.number_lt _ _ p.levels x i

  pub cell_inside : (n : ℕ) → n < cell_total p → CellInside p (cell_place p n)
  cell_inside n b = numbering.place_inside _ _ wide p.levels n b

  pub cell_number_place : (n : ℕ) → n < cell_total p → cell_number p (cell_place p n) ≡ n
  cell_number_place n b = numbering.number_place _ _ wide p.levels n b

  pub cell_place_number : (x : Place) → CellInside p x → cell_place p (cell_number p x) ≡ x
  cell_place_number x i = numbering.place_number _ _ p.levels x i

  pub cell_number_lt : (x : Place) → CellInside p x → cell_number p x < cell_total p
  cell_number_lt x i = numbering.number_lt _ _ p.levels x i

  -- there is a cell
  pub cells_some : 1 ≤ cell_total p
  cells_some =
      let i : CellInside p (record { level = 0; row = 0; column = 0 }) =
      record { level< = range.levels≥; row< = grown_pos (ratio p) (ratio_pos p) p.rows 0 range.rows≥; column< = wide 0 } in
      omega (arith, cell_number_lt (record { level = 0; row = 0; column = 0 }) i)

  module _ (n : ℕ) (b : n < cell_total p) (z : 0 < (cell_place p n).level) where
    pub parent_lt : parent p n < cell_total p
    unfolding parent
    parent_lt = numbering.number_lt _ _ _ _ (above_in (cell_place p n) z (cell_inside n b))

    pub parent_place : cell_place p (parent p n) ≡ above p (cell_place p n)
    unfolding parent
    parent_place = numbering.place_number _ _ _ _ (above_in (cell_place p n) z (cell_inside n b))

    pub parent_level : suc (cell_place p (parent p n)).level ≡ (cell_place p n).level
    unfolding above
    parent_level = rw parent_place suc_pred
      where
        suc_pred : suc (pred (cell_place p n).level) ≡ (cell_place p n).level
        suc_pred = omega arith

    pub child_of_parent : child p (parent p n) ((cell_place p n).row % ratio p) ((cell_place p n).column % ratio p) ≡ n
    unfolding child
    child_of_parent = rw (parent_place, below_above (cell_place p n) z) (numbering.number_place _ _ wide _ _ b)

    pub is_child : (a c : ℕ) × (a < ratio p) × (c < ratio p) × (child p (parent p n) a c ≡ n)
    is_child = ((cell_place p n).row % ratio p, (cell_place p n).column % ratio p, mod-lt _ (ratio_pos p), mod-lt _ (ratio_pos p), child_of_parent)

  module _ (n a c : ℕ) (b : n < cell_total p) (z : suc (cell_place p n).level < p.levels) (l : a < ratio p) (m : c < ratio p) where
    pub child_lt : child p n a c < cell_total p
    unfolding child
    child_lt = numbering.number_lt _ _ _ _ (below_in (cell_place p n) a c z l m (cell_inside n b))

    pub child_place : cell_place p (child p n a c) ≡ below p (cell_place p n) a c
    unfolding child
    child_place = numbering.place_number _ _ _ _ (below_in (cell_place p n) a c z l m (cell_inside n b))

    pub child_level : (cell_place p (child p n a c)).level ≡ suc (cell_place p n).level
    unfolding below
    child_level = rw child_place

    pub parent_of_child : parent p (child p n a c) ≡ n
    unfolding parent
    parent_of_child = rw (child_place, above_below (cell_place p n) a c l m) (numbering.number_place _ _ wide _ _ b)

-- ---- neighbourhoods

module _ (p : Plan) (range : InRange p) (k : ℕ) where
  pub across_sized : Sized (across_at p k)
  across_sized = record {
    base≥ = range.columns≥;
    unit≥ = grown_pos (ratio p) (ratio_pos p) 1 k (omega arith);
    degree≥ = range.across≥;
    whole = grown_one (ratio p) (ratio_pos p) p.columns k;
  }

  pub up_sized : Sized (up_at p k)
  up_sized = record {
    base≥ = range.rows≥;
    unit≥ = grown_pos (ratio p) (ratio_pos p) 1 k (omega arith);
    degree≥ = range.up≥;
    whole = grown_one (ratio p) (ratio_pos p) p.rows k;
  }

-- what `common_at` tests, as facts
pub record CommonAt (p : Plan) (d : Place) (y x : ℕ) : Type 0 where
  pub columns : T (together (across_at p d.level) d.column x)
  pub rows : T (together (up_at p d.level) d.row y)

module _ (p : Plan) (d : Place) (y x : ℕ) where
  abbrev columned : Bool
  columned = together (across_at p d.level) d.column x

  abbrev rowed : Bool
  rowed = together (up_at p d.level) d.row y

  pub common_fact : T (common_at p d y x) → CommonAt p d y x
  unfolding common_at
  common_fact t = record { columns = and_l columned rowed t; rows = and_r columned rowed t }

  pub common_test : CommonAt p d y x → T (common_at p d y x)
  unfolding common_at
  common_test c = and_i columned rowed c.columns c.rows

-- what `near_at` tests, as facts: the child is in the row `down` and the column `right` of the children
pub record Near (p : Plan) (q c : Place) : Type 0 where
  pub graded : p.class ≢ 0
  pub levels : q.level + 1 ≡ c.level + p.class
  pub down : ℕ
  pub right : ℕ
  pub down< : down < ratio p
  pub right< : right < ratio p
  pub common : CommonAt p (below p c down right) (ancestor p (p.class - 2) q.row) (ancestor p (p.class - 2) q.column)

module _ (p : Plan) (q c : Place) where
  abbrev classed : Bool
  classed = not (eqb p.class 0)

  abbrev leveled : Bool
  leveled = eqb (q.level + 1) (c.level + p.class)

  abbrev child_common : ℕ → ℕ → Bool
  child_common a b = common_at p (below p c a b) (ancestor p (p.class - 2) q.row) (ancestor p (p.class - 2) q.column)

  pub near_fact : T (near_at p q c) → Near p q c
  unfolding near_at
  near_fact t =
      let u : T (leveled && some (ratio p) (λ a. some (ratio p) (child_common a))) = and_r classed _ t in
      let (a, l, v) = some_e (ratio p) (λ a. some (ratio p) (child_common a)) (and_r leveled _ u) in
      let (b, m, w) = some_e (ratio p) (child_common a) v in
      record {
        graded = differ p.class 0 (and_l classed _ t);
        levels = eqb→eq (q.level + 1) (c.level + p.class) (and_l leveled _ u);
        down = a;
        right = b;
        down< = l;
        right< = m;
        common = common_fact p (below p c a b) _ _ w;
      }

  pub near_test : Near p q c → T (near_at p q c)
  unfolding near_at
  near_test n =
      let a : T classed = not_i (eqb p.class 0) (λ t. n.graded (eqb→eq p.class 0 t)) in
      let b : T leveled = eqb_of _ _ n.levels in
      let d : T (child_common n.down n.right) = common_test p (below p c n.down n.right) _ _ n.common in
      and_i classed _ a (and_i leveled _ b
      (some_i (ratio p) (λ a. some (ratio p) (child_common a)) n.down n.down< (some_i (ratio p) (child_common n.down) n.right n.right< d)))

-- a cell and one of its level under a common function have parents under one
module _ (p : Plan) (range : InRange p) (d : Place) (y x : ℕ) (i : CellInside p d) (yl : y < rows_at p d.level) (xl : x < columns_at p d.level) (z : 0 < d.level) where
  pub common_above : CommonAt p d y x → CommonAt p (above p d) (y / ratio p) (x / ratio p)
  unfolding above
  common_above c =
      let k : ℕ = pred d.level in
      let u = grown_unit (ratio p) (ratio_pos p) d.level z in
      let w : (b : ℕ) → grown (ratio p) b d.level ≡ grown (ratio p) b (pred d.level) * ratio p = λ b. grown_more (ratio p) (ratio_pos p) b d.level z in
      record {
        columns = together_up (ratio p) (ratio_pos p) (across_at p (pred d.level)) (across_at p d.level) (across_sized p range (pred d.level)) refl refl u _ _ (across_sized p range d.level) (w p.columns) i.column< xl c.columns;
        rows = together_up (ratio p) (ratio_pos p) (up_at p (pred d.level)) (up_at p d.level) (up_sized p range (pred d.level)) refl refl u _ _ (up_sized p range d.level) (w p.rows) i.row< yl c.rows;
      }

-- the child that makes c near q, and the ancestor of q, which is of its level
module _ (p : Plan) (range : InRange p) (q c : Place) (i : CellInside p q) (j : CellInside p c) (n : Near p q c) where
  abbrev pub near_child : Place
  near_child = below p c n.down n.right

  child_level< : suc c.level < p.levels
  child_level< = omega (arith, n.levels, n.graded, range.class≢, i.level<)

  pub near_child_in : CellInside p near_child
  near_child_in = below_in p range c n.down n.right child_level< n.down< n.right< j

  pub near_child_above : above p near_child ≡ c
  near_child_above = above_below p range c n.down n.right n.down< n.right<

  pub near_child_level : q.level - (p.class - 2) ≡ near_child.level
  unfolding below
  near_child_level = omega (arith, n.levels, n.graded, range.class≢)

  pub near_ancestor_lt : (b x : ℕ) → x < grown (ratio p) b q.level → ancestor p (p.class - 2) x < grown (ratio p) b (suc c.level)
  unfolding ancestor
  near_ancestor_lt b x h =
      let d : q.level - (p.class - 2) ≡ suc c.level = omega (arith, n.levels, n.graded, range.class≢) in
      rw d at (grown_ancestor (ratio p) (ratio_pos p) b q.level (p.class - 2) x (omega (arith, n.levels, n.graded, range.class≢)) h)

  -- so c and the ancestor one level up are under a common function
  pub near_common : CommonAt p c (ancestor p (p.class - 2) q.row / ratio p) (ancestor p (p.class - 2) q.column / ratio p)
  unfolding below
  near_common = rw near_child_above at (common_above p range near_child _ _ near_child_in (near_ancestor_lt p.rows q.row i.row<) (near_ancestor_lt p.columns q.column i.column<) (omega arith) n.common)

near_above : (p : Plan) → InRange p → (q c : Place) → CellInside p q → CellInside p c → 0 < c.level → Near p q c → Near p (above p q) (above p c)
unfolding above ancestor
near_above p range q c i j z n =
    let s = n.graded in let l = n.levels in
    let e : pred q.level + 1 ≡ pred c.level + p.class = omega arith in
    record {
      graded = s;
      levels = e;
      down = c.row % ratio p;
      right = c.column % ratio p;
      down< = mod-lt _ (ratio_pos p);
      right< = mod-lt _ (ratio_pos p);
      common = rw (below_above p range c z, ← div_swap (ratio p) (ratio_pos p) q.row (p.class - 2), ← div_swap (ratio p) (ratio_pos p) q.column (p.class - 2)) (near_common p range q c i j n);
    }

module _ (p : Plan) (range : InRange p) (q c : ℕ) where
  pub near_in : T (near p q c) → c < cell_total p
  unfolding near
  near_in t = ltb→lt c (cell_total p) (and_l (ltb c (cell_total p)) _ t)

  pub near_places : T (near p q c) → Near p (cell_place p q) (cell_place p c)
  unfolding near
  near_places t = near_fact p (cell_place p q) (cell_place p c) (and_r (ltb c (cell_total p)) _ t)

  pub near_of : c < cell_total p → Near p (cell_place p q) (cell_place p c) → T (near p q c)
  unfolding near
  near_of l n = and_i (ltb c (cell_total p)) _ (lt→ltb c (cell_total p) l) (near_test p (cell_place p q) (cell_place p c) n)

  pub near_level : T (near p q c) → (cell_place p c).level < (cell_place p q).level
  near_level t = let n = near_places t in omega (arith, n.graded, n.levels, range.class≢)

module _ (p : Plan) (range : InRange p) where
  near_parent : (q c : ℕ) → q < cell_total p → T (near p q c) → 1 ≤ (cell_place p c).level → T (near p (parent p q) (parent p c))
  near_parent q c b t z =
      let d : c < cell_total p = near_in p range q c t in
      near_of p range (parent p q) (parent p c) (parent_lt p range c d z)
      (rw (parent_place p range q b (omega (arith, near_level p range q c t)), parent_place p range c d z)
      (near_above p range (cell_place p q) (cell_place p c) (cell_inside p range q b) (cell_inside p range c d) z (near_places p range q c t)))

  -- what the theory of meshes knows of the grid
  pub lawful : Lawful (hierarchy p)
  lawful = record {
    parent_in = λ c i l. parent_lt p range c i l;
    parent_level = λ c i l. omega (arith, parent_level p range c i l);
    near_in = λ q c i t. near_in p range q c t;
    near_level = λ q c i t. near_level p range q c t;
    near_parent = near_parent;
  }
