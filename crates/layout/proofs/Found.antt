-- What the tests of the layout say of a plan, and that each answer is the one of the definition. Assumes nothing.
use mathlib.Core.Path.{◌≡◌, refl, sym, ◌∙◌}
use mathlib.Core.Bool.{Bool, true, false, ◌&&◌, cond}
use Prim.Native.Nat.{ℕ, ◌+◌, ◌≤◌, ◌<◌}
use native.Mathlib.Omega.{arith}
use lib.Dec.{T, ltb, eqb→eq, ltb→lt, lt→ltb}
use borrow.Author.Tests.{ne_eqb, lt-ltb, le-ltb}
use Rattle.facts.proofs.Tests.{and_i, and_l, and_r, T_true, eqb_of}
use Rattle.grid.specs.declared.Plan.{Plan}
use Rattle.grid.specs.declared.Place.{Place}
use Rattle.grid.specs.Knots.{knot_on}
use Rattle.grid.specs.Plan.{plan_refusal, columns_at, rows_at, function_columns_at, function_rows_at, cell_offset, function_offset, cell_total, function_total, cell_place, cell_number, function_place, across_at, up_at, CellInside, FunctionInside}
use Rattle.grid.specs.Range.{InRange}
use Rattle.grid.specs.Spans.{support_of}
use Rattle.grid.proofs.Laws.{taken_range, across_sized, up_sized}
use Rattle.grid.proofs.SideLaws.{support_knots}
use Rattle.grid.proofs.Spans.{across_functions, up_functions}
use Rattle.layout.specs.Layout.{answered, is_taken, cells_length, functions_length, has_level, level_at, place_of, has_place, cell_at, support_at, support}

below : (b : Bool) (n t : ℕ) → n < cond b t 0 → T b × (n < t)
below true n t l = (tt, l)
below false n t l = absurd (omega arith)

module _ (p : Plan) where
  range_of : T (is_taken p) → InRange p
  range_of t = taken_range p (eqb→eq (plan_refusal p) 0 t)

  -- ---- lengths

  pub cells_taken : plan_refusal p ≡ 0 → cell_total p ≡ cells_length p
  unfolding cells_length
  cells_taken e = rw e

  pub cells_refused : (plan_refusal p ≡ 0 → ⊥) → 0 ≡ cells_length p
  unfolding cells_length
  cells_refused e = rw (ne_eqb _ _ e)

  pub functions_taken : plan_refusal p ≡ 0 → function_total p ≡ functions_length p
  unfolding functions_length
  functions_taken e = rw e

  pub functions_refused : (plan_refusal p ≡ 0 → ⊥) → 0 ≡ functions_length p
  unfolding functions_length
  functions_refused e = rw (ne_eqb _ _ e)

  -- a number below such a length is one of a plan that is taken
  pub cells_some : (n : ℕ) → n < cells_length p → plan_refusal p ≡ 0
  unfolding cells_length
  cells_some n l = eqb→eq (plan_refusal p) 0 (below (is_taken p) n (cell_total p) l).0

  pub functions_some : (n : ℕ) → n < functions_length p → plan_refusal p ≡ 0
  unfolding functions_length
  functions_some n l = eqb→eq (plan_refusal p) 0 (below (is_taken p) n (function_total p) l).0

  pub cells_below : (n : ℕ) → n < cells_length p → InRange p × (n < cell_total p)
  unfolding cells_length
  cells_below n l = let (t, m) = below (is_taken p) n (cell_total p) l in (range_of t, m)

  pub functions_below : (n : ℕ) → n < functions_length p → InRange p × (n < function_total p)
  unfolding functions_length
  functions_below n l = let (t, m) = below (is_taken p) n (function_total p) l in (range_of t, m)

  -- ---- levels and places

  pub level_has : (k : ℕ) → T (has_level p k) → InRange p × (k < p.levels)
  unfolding has_level
  level_has k t = (range_of (and_l (is_taken p) _ t), ltb→lt k p.levels (and_r (is_taken p) _ t))

  -- the same of the test's answer
  pub level_said : {k : ℕ} {b : Bool} → b ≡ has_level p k → b ≡ true → InRange p × (k < p.levels)
  level_said e t = level_has _ (rw (sym e ∙ t) tt)

  pub level_taken : (k : ℕ) → T (has_level p k) → plan_refusal p ≡ 0
  unfolding has_level
  level_taken k t = eqb→eq (plan_refusal p) 0 (and_l (is_taken p) _ t)

  pub level_test : (k : ℕ) → plan_refusal p ≡ 0 → k < p.levels → T (has_level p k)
  unfolding has_level
  level_test k e l = and_i (is_taken p) _ (eqb_of _ _ e) (lt→ltb k p.levels l)

  pub place_level : (x : Place) → T (has_place p x) → T (has_level p x.level)
  unfolding has_place
  place_level x t = and_l (has_level p x.level) _ t

  pub place_test : (x : Place) → plan_refusal p ≡ 0 → CellInside p x → T (has_place p x)
  unfolding has_place
  place_test x e i =
      let rowed : T (ltb x.row (rows_at p x.level)) = lt→ltb _ _ i.row< in
      let columned : T (ltb x.column (columns_at p x.level)) = lt→ltb _ _ i.column< in
      and_i (has_level p x.level) _ (level_test x.level e i.level<) (and_i (ltb x.row (rows_at p x.level)) _ rowed columned)

  pub place_has : (x : Place) → T (has_place p x) → InRange p × CellInside p x
  unfolding has_place
  place_has x t =
      let (r, l) = level_has x.level (and_l (has_level p x.level) _ t) in
      let u : T (ltb x.row (rows_at p x.level) && ltb x.column (columns_at p x.level)) = and_r (has_level p x.level) _ t in (
        r,
        record {
          level< = l;
          row< = ltb→lt x.row (rows_at p x.level) (and_l (ltb x.row (rows_at p x.level)) _ u);
          column< = ltb→lt x.column (columns_at p x.level) (and_r (ltb x.row (rows_at p x.level)) _ u);
        },
      )

  -- ---- answers

  pub level_found : (k : ℕ) → T (has_level p k)
      → level_at p k ≡ record { first_cell = cell_offset p k; columns = columns_at p k; rows = rows_at p k; first_function = function_offset p k; functions_across = function_columns_at p k; functions_up = function_rows_at p k }
  unfolding level_at
  level_found k t = rw (T_true (has_level p k) t)

  pub place_found : (c : ℕ) → c < cells_length p
      → place_of p c ≡ record { found = 1; level = (cell_place p c).level; row = (cell_place p c).row; column = (cell_place p c).column }
  unfolding place_of
  place_found c l = rw (lt-ltb c (cells_length p) l)

  pub place_none : (c : ℕ) → cells_length p ≤ c → place_of p c ≡ record { found = 0; level = 0; row = 0; column = 0 }
  unfolding place_of
  place_none c l = rw (le-ltb c (cells_length p) l)

  pub cell_found : (x : Place) → T (has_place p x) → cell_at p x ≡ record { found = 1; cell = cell_number p x }
  unfolding cell_at
  cell_found x t = rw (T_true (has_place p x) t)

  pub support_found : (f : ℕ) → f < functions_length p → support p f ≡ support_at p (function_place p f)
  unfolding support
  support_found f l = rw (lt-ltb f (functions_length p) l)

  pub support_none : (f : ℕ) → functions_length p ≤ f
      → support p f ≡ record { found = 0; level = 0; first_row = 0; end_row = 0; first_column = 0; end_column = 0 }
  unfolding support
  support_none f l = rw (le-ltb f (functions_length p) l)

-- the rectangle in closed form lies between the knots
module _ (p : Plan) (range : InRange p) (x : Place) (i : FunctionInside p x) where
  pub rectangle_knots : support_of p x ≡ record {
    level = x.level;
    rows = record { first = knot_on (up_at p x.level) x.row; end = knot_on (up_at p x.level) (x.row + p.degree_up + 1) };
    columns = record { first = knot_on (across_at p x.level) x.column; end = knot_on (across_at p x.level) (x.column + p.degree_across + 1) };
  }
  unfolding support_of
  rectangle_knots = λ j. record {
    level = x.level;
    rows = support_knots (up_at p x.level) (up_sized p range x.level) x.row (rw (up_functions p x.level) i.row<) j;
    columns = support_knots (across_at p x.level) (across_sized p range x.level) x.column (rw (across_functions p x.level) i.column<) j;
  }

  pub support_is : support_at p x ≡ answered (support_of p x)
  unfolding support_at
  support_is = rw rectangle_knots refl
