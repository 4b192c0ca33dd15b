-- A function's children in both directions: they lie on the next level, and what they get is what formula 2 says. Assumes nothing.
use mathlib.Core.Path.{◌≡◌, sym, ap, subst, ◌∙◌}
use mathlib.Core.Bool.{Bool, true, false, ◌&&◌, cond}
use mathlib.Core.List.{List}
use Prim.Native.Nat.{ℕ, suc, ◌+◌, ◌*◌, ◌≤◌, ◌<◌}
use native.Mathlib.Nat.{div-le_self, mul_comm, mul-zero}
use native.Mathlib.Omega.{arith}
use lib.Arith.{digits_lt}
use lib.Dec.{leb, ltb, ltb→lt, nltb→le, eqb, eqb→eq, lit≤}
use lib.IntN.{ℤ, pos, nat_abs, ◌+ℤ◌, ◌*ℤ◌}
use borrow.Author.Tests.{eq-eqb, ne_eqb}
use Rattle.facts.proofs.Tests.{cases, differ}
use Rattle.grid.specs.declared.Side.{Side}
use Rattle.grid.specs.declared.Plan.{Plan}
use Rattle.grid.specs.declared.Place.{Place}
use Rattle.grid.specs.Knots.{functions, knot_on}
use Rattle.grid.specs.Side.{Sized}
use Rattle.grid.specs.Numbering.{number}
use Rattle.grid.specs.Plan.{ratio, across_at, up_at, function_columns_at, function_rows_at, function_offset, function_total, function_place, function_number, FunctionInside}
use Rattle.grid.specs.Range.{InRange}
use Rattle.grid.proofs.Direction.{grown_more}
use Rattle.grid.proofs.Laws.{ratio_pos, across_sized, up_sized, function_inside, function_number_place}
use Rattle.grid.proofs.Levels.{row_within}
use Rattle.grid.proofs.Numbering.{level_ends}
use Rattle.grid.proofs.Sides.{across_functions, up_functions, functions_beyond}
use Rattle.grid.proofs.Small.{columns_small, rows_small}
use Rattle.twoscale.specs.declared.Children.{Children}
use Rattle.twoscale.specs.Passing.{children_of, quarters_of}
use Rattle.twoscale.specs.TwoScale.{quarters}
use Rattle.twoscale.proofs.Steps.{spread}
use Rattle.carry.specs.Carry.{sixteenths, share, at, pass_on}
use Rattle.carry.specs.Steps.{most, Few, block_sixteenths, block_passed, BlockRoom, Allowed, Passing, Scales}
use Rattle.carry.proofs.Lists.{heights_same, at_none}
use Rattle.carry.proofs.Blocks.{block_at, block_before, block_behind}

-- ---- one direction

cond_most : (b : Bool) {x y : ℕ} → x ≤ 4 → y ≤ 4 → cond b x y ≤ 4
cond_most true l m = l
cond_most false l m = m

quarters_most : (a : Children) → a.low ≤ 4 → a.middle ≤ 4 → a.high ≤ 4 → (j : ℕ) → quarters_of a j ≤ 4
unfolding quarters_of
quarters_most a x y z j = cond_most (leb a.first j && leb j a.last) (cond_most (eqb j a.first) x (cond_most (eqb j a.last) z y)) (lit≤ tt)

module _ (s : Side) (z : Sized s) (d : s.degree ≤ 2) (i : ℕ) (l : i < functions s) where
  pub last_within : (children_of s i).last < functions s + s.cells
  unfolding children_of
  last_within = omega (arith, (spread s z i l d).within)

pub children_most : (s : Side) (i j : ℕ) → quarters_of (children_of s i) j ≤ 4
unfolding children_of
children_most s i j = quarters_most (children_of s i) (div-le_self 4 _) (cond_most (eqb (knot_on s (i + 1)) (knot_on s (i + s.degree))) (lit≤ tt) (lit≤ tt)) (div-le_self 4 _) j

-- ---- of a plan

-- function c of a row of level k, and function r of a column
module _ {p : Plan} (allowed : Allowed p) (k : ℕ) (l : suc k < p.levels) where
  pub across_within : (c : ℕ) → c < function_columns_at p k → (children_of (across_at p k) c).last < function_columns_at p (suc k)
  unfolding ratio
  across_within c m =
      omega (arith, last_within (across_at p k) (across_sized p allowed.range k) allowed.across≤ c (omega (arith, across_functions p k)), across_functions p k, grown_more 2 (ratio_pos p) p.columns (suc k) (omega arith))

  pub up_within : (r : ℕ) → r < function_rows_at p k → (children_of (up_at p k) r).last < function_rows_at p (suc k)
  unfolding ratio
  up_within r m =
      omega (arith, last_within (up_at p k) (up_sized p allowed.range k) allowed.up≤ r (omega (arith, up_functions p k)), up_functions p k, grown_more 2 (ratio_pos p) p.rows (suc k) (omega arith))

  across_few : (c : ℕ) → c < function_columns_at p k → Few (children_of (across_at p k) c)
  across_few c m = record {
    last≤ = omega (arith, across_within c m, columns_small p allowed.range _ _ (functions_beyond p allowed.range) (suc k) l);
    quarters≤ = children_most (across_at p k) c;
  }

  up_few : (r : ℕ) → r < function_rows_at p k → Few (children_of (up_at p k) r)
  up_few r m = record {
    last≤ = omega (arith, up_within r m, rows_small p allowed.range _ _ (functions_beyond p allowed.range) (suc k) l);
    quarters≤ = children_most (up_at p k) r;
  }

-- ---- the function at a place, and its children on the next level

module _ {p : Plan} (allowed : Allowed p) (z : Scales p) (x : Place) (inside : FunctionInside p x) (l : suc x.level < p.levels) where
  abbrev k : ℕ
  k = x.level

  abbrev U : Children
  U = children_of (up_at p k) x.row

  abbrev A : Children
  A = children_of (across_at p k) x.column

  abbrev o : ℕ
  o = function_offset p (suc k)

  abbrev w : ℕ
  w = function_columns_at p (suc k)

  wide : A.last < w
  wide = across_within allowed k l x.column inside.column<

  high : U.last < function_rows_at p (suc k)
  high = up_within allowed k l x.row inside.row<

  -- a function after their level gets nothing
  beyond : (g : ℕ) → o + function_rows_at p (suc k) * w ≤ g → block_sixteenths o w U A g ≡ 0
  beyond g m = block_behind o w U A (omega (arith, wide)) (function_rows_at p (suc k)) g high m

  on_level : (r c : ℕ) → r < function_rows_at p (suc k) → c < w → quarters (across_at p k) (across_at p (suc k)) x.column c * quarters (up_at p k) (up_at p (suc k)) x.row r ≡ block_sixteenths o w U A (o + r * w + c)
  on_level r c m n =
      rw ((z.across k l).children x.column c (omega (arith, inside.column<, across_functions p k)) (omega (arith, across_functions p (suc k))), (z.up k l).children x.row r (omega (arith, inside.row<, up_functions p k)) (omega (arith, up_functions p (suc k))), block_at o w U A r c n)
      (mul_comm (quarters_of A c) (quarters_of U r))

  -- a place's number, and where its level ends
  level_end : (y : Place) → FunctionInside p y → function_number p y < function_offset p y.level + function_rows_at p y.level * function_columns_at p y.level
  unfolding number
  level_end y i = omega (arith, digits_lt i.row< i.column<)

  at_place : (y : Place) → FunctionInside p y → sixteenths p x y ≡ block_sixteenths o w U A (function_number p y)
  unfolding sixteenths number
  at_place y i = cases (eqb y.level (suc k))
      (λ t. let e : y.level ≡ suc k = eqb→eq y.level (suc k) t in rw (eq-eqb y.level (suc k) e, e) (on_level y.row y.column (rw e at i.row<) (rw e at i.column<)))
      (λ t. rw (ne_eqb y.level (suc k) (differ y.level (suc k) t)) (cases (ltb y.level (suc k))
      (λ u. sym (block_before o w U A (function_number p y) (omega (arith, level_end y i, level_ends (function_columns_at p) (function_rows_at p) y.level (suc k) (ltb→lt y.level (suc k) u)))))
      (λ u. sym (beyond (function_number p y) (omega (arith, level_ends (function_columns_at p) (function_rows_at p) (suc k) y.level (omega (arith, nltb→le y.level (suc k) u, differ y.level (suc k) t))))))))

-- ---- function f, which stands at x, passes its height on

module _ {p : Plan} {f : ℕ} {heights : List ℤ} (a : Passing p f heights) (z : Scales p) (x : Place) (here : function_place p f ≡ x) where
  abbrev range : InRange p
  range = a.allowed.range

  inside : FunctionInside p x
  inside = rw here at (function_inside p range f a.function<)

  l : suc x.level < p.levels
  l = subst (λ (y : Place). suc y.level < p.levels) here a.level<

  is : function_number p x ≡ f
  is = rw here at (function_number_place p range f a.function<)

  abbrev q : ℕ → ℕ
  q = block_sixteenths (function_offset p (suc x.level)) (function_columns_at p (suc x.level)) (children_of (up_at p x.level) x.row) (children_of (across_at p x.level) x.column)

  shared : (g : ℕ) → g < function_total p → share p f g ≡ q g
  shared g m = rw here (at_place a.allowed z x inside l (function_place p g) (function_inside p range g m) ∙ ap q (function_number_place p range g m))

  -- the level of the children ends before the table does
  ends : function_offset p (suc x.level) + function_rows_at p (suc x.level) * function_columns_at p (suc x.level) ≤ function_total p
  ends = level_ends (function_columns_at p) (function_rows_at p) (suc x.level) p.levels l

  small : (g : ℕ) → nat_abs (at heights g) + nat_abs (at heights f) * q g ≤ most
  small g = cases (ltb g (function_total p))
      (λ t. rw (← shared g (ltb→lt g (function_total p) t)) (a.small g (ltb→lt g (function_total p) t)))
      (λ t. let m : function_total p ≤ g = nltb→le g (function_total p) t in rw (at_none heights g (omega (arith, a.sized)), beyond a.allowed z x inside l g (omega (arith, ends)), mul-zero) (lit≤ tt))

  pub family_room : BlockRoom f (function_offset p (suc x.level)) (function_columns_at p (suc x.level)) (children_of (up_at p x.level) x.row) (children_of (across_at p x.level) x.column) heights
  family_room = record {
    behind = omega (arith, is, level_end a.allowed z x inside l x inside, level_ends (function_columns_at p) (function_rows_at p) x.level (suc x.level) (omega arith));
    up_few = up_few a.allowed x.level l x.row inside.row<;
    across_few = across_few a.allowed x.level l x.column inside.column<;
    narrow = wide a.allowed z x inside l;
    within = omega (arith, a.sized, row_within (function_columns_at p) (function_rows_at p) (suc x.level) p.levels _ l (high a.allowed z x inside l));
    times = a.times;
    small = small;
  }

  pub family_passed : block_passed f (function_offset p (suc x.level)) (function_columns_at p (suc x.level)) (children_of (up_at p x.level) x.row) (children_of (across_at p x.level) x.column) heights ≡ pass_on p f heights
  unfolding block_passed pass_on
  family_passed = rw a.sized (heights_same (function_total p) _ _ (λ g m. ap (λ n. cond (eqb g f) (pos 0) (at heights g +ℤ at heights f *ℤ pos n)) (sym (shared g m))))
