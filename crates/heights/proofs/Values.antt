-- The values of a mesh's functions at a point. Assumes nothing.
use mathlib.Core.Path.{◌≡◌, refl, sym, ap, ap₂, ◌∙◌}
use mathlib.Core.Bool.{not, ◌&&◌}
use Prim.Native.Nat.{ℕ, zero, suc, ◌+◌, ◌*◌, ◌≤◌, ◌<◌}
use native.Mathlib.Nat.{zero-lt-suc, mul-le-mul, mul-zero, zero-mul, mul_comm}
use native.Mathlib.Omega.{arith}
use lib.Dec.{T, eqb, ltb, eqb_refl}
use borrow.Author.Tests.{lt-ltb}
use Rattle.facts.specs.Bounded.{sum}
use Rattle.facts.proofs.Tests.{cases, not_i, not_e, and_i, and_l, and_r}
use Rattle.facts.proofs.Sums.{sum_same, sum_rows, sum_mul}
use Rattle.grid.specs.declared.Plan.{Plan}
use Rattle.grid.specs.declared.Place.{Place}
use Rattle.grid.specs.Plan.{between, columns_at, rows_at, across_at, up_at, function_columns_at, function_rows_at, function_offset, cell_total, function_total, cell_place, cell_number, function_place, cell_level, function_level, CellInside, FunctionInside, supported_at, supported}
use Rattle.grid.specs.Knots.{functions, covers}
use Rattle.grid.proofs.Laws.{between_i, between_low, between_high, cell_inside, cell_number_lt, cell_place_number, function_inside}
use Rattle.grid.proofs.Sides.{across_functions, up_functions}
use Rattle.splines.specs.Values.{cell_of, value_on}
use Rattle.splines.specs.Claims.{OnSide}
use Rattle.splines.proofs.Inside.{values}
use Rattle.splines.proofs.Located.{starts, ends}
use Rattle.splines.proofs.Sides.{within}
use Rattle.heights.specs.Heights.{eighths, value_at, one_at}
use Rattle.heights.specs.Demands.{touches, Touched, inside_at, Valued}
use Rattle.heights.specs.Steps.{Point}
use Rattle.heights.proofs.Points.{on_across, on_up, place_at, millimetre}

some_product : (a b : ℕ) → ltb 0 (a * b) ≡ ltb 0 a && ltb 0 b
some_product zero b = rw zero-mul
some_product (suc a) zero = rw (mul-zero, lt-ltb 0 (suc a) (zero-lt-suc a))
some_product (suc a) (suc b) = rw (lt-ltb 0 (suc a) (zero-lt-suc a), lt-ltb 0 (suc b) (zero-lt-suc b)) (lt-ltb 0 (suc a * suc b) (omega arith))

module _ (p : Plan) (x y : ℕ) (s : Point p x y) where
  module _ (f : ℕ) (b : f < function_total p) where
    abbrev k : ℕ
    k = function_level p f

    abbrev at : Place
    at = function_place p f

    inside : FunctionInside p at
    inside = function_inside p s.range f b

    abbrev across : OnSide (across_at p k) (eighths p k) x
    across = on_across p x y s k inside.level<

    abbrev up : OnSide (up_at p k) (eighths p k) y
    up = on_up p x y s k inside.level<

    column_in : at.column < functions (across_at p k)
    column_in = omega (arith, inside.column<, across_functions p k)

    row_in : at.row < functions (up_at p k)
    row_in = omega (arith, inside.row<, up_functions p k)

    pub value_most : value_at p x y at ≤ one_at p k
    unfolding value_at one_at
    value_most = mul-le-mul ((values (across_at p k) (eighths p k) x across).most at.column column_in) ((values (up_at p k) (eighths p k) y up).most at.row row_in)

    -- a product is not 0 where neither factor is
    pub value_inside : ltb 0 (value_at p x y at) ≡ inside_at p x y at
    unfolding value_at inside_at
    value_inside =
        some_product (value_on (across_at p k) (eighths p k) at.column x) (value_on (up_at p k) (eighths p k) at.row y)
        ∙ ap₂ ◌&&◌ ((values (across_at p k) (eighths p k) x across).inside at.column column_in) ((values (up_at p k) (eighths p k) y up).inside at.row row_in)

    -- a cell of its level that the point touches
    module _ (c : ℕ) (l : c < cell_total p) (e : cell_level p c ≡ k) (t : T (touches p x y c)) where
      abbrev cell : Place
      cell = cell_place p c

      cell_in : CellInside p cell
      cell_in = cell_inside p s.range c l

      abbrev h : ℕ
      h = eighths p k

      touched : T (between (cell.column * h) (suc cell.column * h) x && between (cell.row * h) (suc cell.row * h) y)
      unfolding touches
      touched = rw e at t

      value_outside : T (not (supported p f c)) → value_at p x y at ≡ 0
      unfolding supported supported_at value_at between
      value_outside n =
          let a = covers (across_at p k) at.column cell.column in
          let b = covers (up_at p k) at.row cell.row in
          let n' : T (not (eqb k k && (a && b))) = rw e at n in
          let tx = and_l (between (cell.column * h) (suc cell.column * h) x) _ touched in
          let ty = and_r (between (cell.column * h) (suc cell.column * h) x) (between (cell.row * h) (suc cell.row * h) y) touched in
          cases a
          (λ u. rw ((values (up_at p k) h y up).outside cell.row at.row (rw e at cell_in.row<) (between_low _ _ y ty) (between_high _ _ y ty) row_in
          (not_i b (λ w. not_e (eqb k k && (a && b)) n' (and_i (eqb k k) (a && b) (eqb_refl k) (and_i a b u w)))))
          (mul-zero _))
          (λ u. rw ((values (across_at p k) h x across).outside cell.column at.column (rw e at cell_in.column<) (between_low _ _ x tx) (between_high _ _ x tx) column_in u) (zero-mul _))

  -- the point's own cell of level k
  module _ (k : ℕ) (l : k < p.levels) where
    abbrev its : Place
    its = record { level = k; row = cell_of (eighths p k) (rows_at p k) y; column = cell_of (eighths p k) (columns_at p k) x }

    its_inside : CellInside p its
    its_inside = record { level< = l; row< = within (up_at p k) (eighths p k) y (on_up p x y s k l); column< = within (across_at p k) (eighths p k) x (on_across p x y s k l) }

    its_touched : T (touches p x y (cell_number p its))
    unfolding touches
    its_touched =
        let a = on_across p x y s k l in
        let u = on_up p x y s k l in
        rw (cell_place_number p s.range its its_inside)
        (and_i (between _ _ x) (between _ _ y) (between_i _ _ x (starts a refl) (ends a refl)) (between_i _ _ y (starts u refl) (ends u refl)))

    value_somewhere : Touched p x y k
    value_somewhere = record {
      cell = cell_number p its;
      cell< = cell_number_lt p s.range its its_inside;
      level = ap (λ c. c.level) (cell_place_number p s.range its its_inside);
      touched = its_touched;
    }

  pub value_one : (k : ℕ) → k < p.levels → sum (function_rows_at p k * function_columns_at p k) (λ i. value_at p x y (function_place p (function_offset p k + i))) ≡ one_at p k
  unfolding value_at one_at
  value_one k l =
      let vx : ℕ → ℕ = λ c. value_on (across_at p k) (eighths p k) c x in
      let vy : ℕ → ℕ = λ r. value_on (up_at p k) (eighths p k) r y in
      sum_rows (function_rows_at p k) (function_columns_at p k) _
      ∙ sum_same (function_rows_at p k) _ (λ r. sum (function_columns_at p k) vx * vy r)
      (λ r m. sum_same (function_columns_at p k) _ (λ c. vy r * vx c) (λ c n. rw (place_at p s.range k l r c m n) (mul_comm (vx c) (vy r)))
      ∙ sum_mul (function_columns_at p k) (vy r) vx ∙ mul_comm (vy r) _)
      ∙ sum_mul (function_rows_at p k) (sum (function_columns_at p k) vx) vy
      ∙ ap₂ ◌*◌
      (ap (λ n. sum n vx) (sym (across_functions p k)) ∙ (values (across_at p k) (eighths p k) x (on_across p x y s k l)).one)
      (ap (λ n. sum n vy) (sym (up_functions p k)) ∙ (values (up_at p k) (eighths p k) y (on_up p x y s k l)).one)

  pub valued : Valued p x y
  valued = record { millimetre = millimetre p; most = value_most; one = value_one; somewhere = value_somewhere; outside = λ f c b l e t. value_outside f b c l e t; inside = value_inside }
