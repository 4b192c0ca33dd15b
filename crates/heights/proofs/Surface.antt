-- What the functions of a level add at a point is what those over it add, and that is small. Assumes nothing.
use mathlib.Core.Path.{◌≡◌, refl, sym, ap, ◌∙◌}
use mathlib.Core.Bool.{Bool, true, false, cond}
use mathlib.Core.List.{List}
use Prim.Native.Nat.{ℕ, ◌+◌, ◌*◌, ◌^◌, ◌≤◌, ◌<◌, zero-le}
use native.Mathlib.Nat.{mul-zero, zero-mul, mul-le-mul, mul-le-mul_left, mul-le-mul_right, le_trans, le_refl, le_of_eq, mul_assoc}
use native.Mathlib.Omega.{arith}
use lib.Dec.{T, leb→le}
use lib.IntN.{ℤ, pos, nat_abs, ◌*ℤ◌, *ℤ-zero}
use lib.ListN.{get_or}
use lib.Pow.{pow_mono}
use Rattle.facts.proofs.Bounded.{every_e}
use Rattle.facts.proofs.Tests.{implies_e}
use Rattle.exact.specs.Sums.{sumℤ}
use Rattle.exact.proofs.Dyadic.{abs_mul}
use Rattle.exact.proofs.Sums.{sum_bound, sum_same, sum_zero, sum_rows, sum_window}
use Rattle.grid.specs.declared.Plan.{Plan}
use Rattle.grid.specs.declared.Place.{Place}
use Rattle.grid.specs.declared.Side.{Side}
use Rattle.grid.specs.Plan.{columns_at, rows_at, across_at, up_at, function_columns_at, function_rows_at, function_offset, function_total, function_number, function_level, FunctionInside}
use Rattle.grid.specs.Knots.{first_over}
use Rattle.grid.specs.Side.{SideIn}
use Rattle.grid.proofs.Laws.{function_number_lt}
use Rattle.grid.proofs.Sides.{across_in, up_in, across_functions, up_functions}
use Rattle.mesh.specs.Mesh.{active}
use Rattle.splines.specs.declared.LocalValues.{LocalValues}
use Rattle.splines.specs.Values.{cell_of, value_on}
use Rattle.splines.specs.Local.{local_of, piece_of}
use Rattle.splines.specs.Claims.{OnSide}
use Rattle.splines.proofs.Sides.{within, value_over, value_outside, over_last}
use Rattle.splines.proofs.Inside.{values}
use Rattle.heights.specs.Heights.{eighths, value_at, one_at, product_of, places, low, all_low, low_on, product_at}
use Rattle.heights.specs.Steps.{OnSurface, level_part, row_sum, level_sum, most, Row, Rows}
use Rattle.heights.proofs.Points.{eighths_small, on_across, on_up, at, number_at, at_inside, place_at, millimetre}

module _ (functions : List ℕ) (heights : List ℤ) (f : ℕ) where
  product_none : product_of functions heights f 0 ≡ pos 0
  unfolding product_of
  product_none = go (active functions f)
    where
      go : (b : Bool) → cond b (get_or heights f (pos 0) *ℤ pos 0) (pos 0) ≡ pos 0
      go true = *ℤ-zero (get_or heights f (pos 0))
      go false = refl

  product_zero : {v : ℕ} → v ≡ 0 → product_of functions heights f v ≡ pos 0
  product_zero e = rw e product_none

  product_size : (v b : ℕ) → (T (active functions f) → nat_abs (get_or heights f (pos 0)) * v ≤ b) → nat_abs (product_of functions heights f v) ≤ b
  unfolding product_of
  product_size v b h = go (active functions f) h
    where
      go : (t : Bool) → (T t → nat_abs (get_or heights f (pos 0)) * v ≤ b) → nat_abs (cond t (get_or heights f (pos 0) *ℤ pos v) (pos 0)) ≤ b
      go true k = rw (abs_mul (get_or heights f (pos 0)) (pos v)) (k tt)
      go false k = zero-le

module _ (functions : List ℕ) (heights : List ℤ) where
  product_same : {f g v w : ℕ} → f ≡ g → v ≡ w → product_of functions heights f v ≡ product_of functions heights g w
  product_same e d = rw (e, d)

  row_same : {f g v w : ℕ} (across : LocalValues) → f ≡ g → v ≡ w → row_sum functions heights f across v ≡ row_sum functions heights g across w
  row_same across e d = rw (e, d)

  row_none : (f : ℕ) (across : LocalValues) {v : ℕ} → v ≡ 0 → row_sum functions heights f across v ≡ pos 0
  unfolding row_sum
  row_none f across e = sum_zero (across.degree + 1) _ (λ j l. product_zero functions heights (f + j) (rw (e, mul-zero)))

-- the sizes of sums
module _ {functions : List ℕ} {heights : List ℤ} where
  module _ {first v : ℕ} {across : LocalValues} (row : Row functions heights first across v) where
    -- the first n functions of a row
    pub part_size : (n : ℕ) → n ≤ across.degree + 1 → nat_abs (sumℤ n (λ j. product_of functions heights (first + j) (piece_of across j * v))) ≤ 3 * most
    part_size n l = le_trans (sum_bound n most _ (λ j m. row.small j (omega arith))) (let m : n ≤ 3 = omega (arith, row.degree≤) in mul-le-mul_right most m)

    pub row_size : nat_abs (row_sum functions heights first across v) ≤ 3 * most
    unfolding row_sum
    row_size = part_size (across.degree + 1) (le_refl _)

  module _ {first w : ℕ} {across up : LocalValues} (rows : Rows functions heights first w across up) where
    pub rows_part_size : (n : ℕ) → n ≤ up.degree + 1 → nat_abs (sumℤ n (λ i. row_sum functions heights (first + i * w) across (piece_of up i))) ≤ 9 * most
    rows_part_size n l =
        le_trans (sum_bound n (3 * most) _ (λ i m. row_size (rows.row i (omega arith))))
        (let m : n ≤ 3 = omega (arith, rows.degree≤) in mul-le-mul_right (3 * most) m)

    pub rows_size : nat_abs (level_sum functions heights first w across up) ≤ 9 * most
    unfolding level_sum
    rows_size = rows_part_size (up.degree + 1) (le_refl _)

module _ (p : Plan) (functions : List ℕ) (heights : List ℤ) (x y : ℕ) (s : OnSurface p functions heights x y) where
  module _ (k : ℕ) (l : k < p.levels) where
    abbrev h : ℕ
    h = eighths p k

    abbrev across : OnSide (across_at p k) h x
    across = on_across p x y s.point k l

    abbrev up : OnSide (up_at p k) h y
    up = on_up p x y s.point k l

    abbrev W : ℕ
    W = function_columns_at p k

    abbrev R : ℕ
    R = function_rows_at p k

    abbrev o : ℕ
    o = function_offset p k

    abbrev vx : ℕ → ℕ
    vx c = value_on (across_at p k) h c x

    abbrev vy : ℕ → ℕ
    vy r = value_on (up_at p k) h r y

    abbrev X : LocalValues
    X = local_of (across_at p k) h x

    abbrev Y : LocalValues
    Y = local_of (up_at p k) h y

    -- the first functions over the point's cell
    abbrev fc : ℕ
    fc = first_over (across_at p k) (cell_of h (columns_at p k) x)

    abbrev fr : ℕ
    fr = first_over (up_at p k) (cell_of h (rows_at p k) y)

    column_in : (j : ℕ) → j ≤ p.degree_across → fc + j < W
    column_in j m = omega (arith, over_last (across_at p k) h x across, across_functions p k)

    row_in : (i : ℕ) → i ≤ p.degree_up → fr + i < R
    row_in i m = omega (arith, over_last (up_at p k) h y up, up_functions p k)

    number_in : (r c : ℕ) → r < R → c < W → o + (r * W + c) < function_total p
    number_in r c m n = omega (arith, number_at p s.point.range k l r c, function_number_lt p s.point.range _ (at_inside p s.point.range k l r c m n))

    product_is : (r c : ℕ) → r < R → c < W → product_at p functions heights x y (o + (r * W + c)) ≡ product_of functions heights (o + (r * W + c)) (vx c * vy r)
    unfolding product_of value_at
    product_is r c m n = rw (place_at p s.point.range k l r c m n)

    -- a row's columns that are not over the point have value 0, and so have all of a row that is not
    column_off : (c : ℕ) → c < W → (fc ≤ c → c ≤ fc + p.degree_across → ⊥) → vx c ≡ 0
    column_off c n off = value_outside (across_at p k) h x across c (omega (arith, across_functions p k)) off

    row_off : (r : ℕ) → r < R → (fr ≤ r → r ≤ fr + p.degree_up → ⊥) → vy r ≡ 0
    row_off r n off = value_outside (up_at p k) h y up r (omega (arith, up_functions p k)) off

    row_window : (r : ℕ) → r < R → sumℤ W (λ c. product_of functions heights (o + (r * W + c)) (vx c * vy r)) ≡ row_sum functions heights (o + r * W + fc) X (vy r)
    unfolding row_sum local_of
    row_window r m =
        sum_window W fc (p.degree_across + 1) _ (omega (arith, column_in p.degree_across (le_refl _)))
        (λ c n. product_zero functions heights _ (rw (column_off c (omega (arith, column_in 0 zero-le)) (λ q w. absurd (omega arith))) (zero-mul (vy r))))
        (λ c n b. product_zero functions heights _ (rw (column_off c b (λ q w. absurd (omega arith))) (zero-mul (vy r))))
        ∙ sum_same (p.degree_across + 1) _ _ (λ j n. product_same functions heights (omega arith) (ap (λ v. v * vy r) (value_over (across_at p k) h x across j (omega arith))))

    pub level_sum_lem : level_part p functions heights x y k ≡ level_sum functions heights (function_number p (at p s.point.range k l fr fc)) W X Y
    unfolding level_part level_sum local_of
    level_sum_lem =
        sum_rows R W _
        ∙ sum_same R _ _ (λ r m. sum_same W _ _ (λ c n. product_is r c m n) ∙ row_window r m)
        ∙ sum_window R fr (p.degree_up + 1) _ (omega (arith, row_in p.degree_up (le_refl _)))
        (λ r m. row_none functions heights _ X (row_off r (omega (arith, row_in 0 zero-le)) (λ q w. absurd (omega arith))))
        (λ r m b. row_none functions heights _ X (row_off r b (λ q w. absurd (omega arith))))
        ∙ sum_same (p.degree_up + 1) _ _ (λ i m. row_same functions heights X (omega (arith, number_at p s.point.range k l fr fc)) (value_over (up_at p k) h y up i (omega arith)))

    -- ---- sizes

    across_most : (c : ℕ) → c < W → vx c ≤ 2 * h * h
    across_most c n = (values (across_at p k) h x across).most c (omega (arith, across_functions p k))

    up_most : (r : ℕ) → r < R → vy r ≤ 2 * h * h
    up_most r n = (values (up_at p k) h y up).most r (omega (arith, up_functions p k))

    one_small : 2 * h * h ≤ 8192
    one_small = let e = eighths_small p k s.point.levels≤ in omega (arith, mul-le-mul e e)

    height_low : (r c : ℕ) → r < R → c < W → T (active functions (o + (r * W + c))) → nat_abs (get_or heights (o + (r * W + c)) (pos 0)) ≤ 65536 * 16 ^ k
    unfolding all_low low low_on
    height_low r c m n a =
        let f = o + (r * W + c) in
        let t = implies_e (active functions f) _ (every_e (function_total p) _ s.low f (number_in r c m n)) a in
        let e : function_level p f ≡ k = ap (λ (z : Place). z.level) (place_at p s.point.range k l r c m n) in
        rw e at (leb→le (nat_abs (get_or heights f (pos 0))) (65536 * 16 ^ function_level p f) t)

    parts_small : 65536 * 2 ^ places p.levels ≤ most
    parts_small = mul-le-mul_left 65536 (pow_mono {i = 10 + 4 * p.levels} {j = 26} (omega (arith, s.point.levels≤)))

    product_small : (r c : ℕ) → r < R → c < W → nat_abs (product_of functions heights (o + (r * W + c)) (vx c * vy r)) ≤ most
    unfolding one_at
    product_small r c m n = product_size functions heights (o + (r * W + c)) (vx c * vy r) most (λ a.
        le_trans (mul-le-mul (height_low r c m n a) (mul-le-mul (across_most c n) (up_most r m)))
        (le_trans (le_of_eq (mul_assoc 65536 (16 ^ k) _ ∙ ap (λ z. 65536 * z) (millimetre p k l))) parts_small))

    piece_across : (j : ℕ) → j ≤ p.degree_across → piece_of X j ≡ vx (fc + j)
    piece_across j n = sym (value_over (across_at p k) h x across j n)

    piece_up : (i : ℕ) → i ≤ p.degree_up → piece_of Y i ≡ vy (fr + i)
    piece_up i m = sym (value_over (up_at p k) h y up i m)

    -- function j of row i of those over the point
    number_of_lem : (i j : ℕ) → function_number p (at p s.point.range k l fr fc) + i * W + j ≡ o + ((fr + i) * W + (fc + j))
    number_of_lem i j = omega (arith, number_at p s.point.range k l fr fc)

    row_of : (i : ℕ) → i ≤ p.degree_up → Row functions heights (function_number p (at p s.point.range k l fr fc) + i * W) X (piece_of Y i)
    unfolding local_of
    row_of i m = record {
      degree≤ = s.point.across≤;
      in_functions = omega (arith, number_of_lem i p.degree_across, number_in (fr + i) (fc + p.degree_across) (row_in i m) (column_in _ (le_refl _)), s.of_functions);
      in_heights = omega (arith, number_of_lem i p.degree_across, number_in (fr + i) (fc + p.degree_across) (row_in i m) (column_in _ (le_refl _)), s.of_heights);
      up≤ = omega (arith, piece_up i m, up_most (fr + i) (row_in i m), one_small);
      across≤ = λ j n. omega (arith, piece_across j n, across_most (fc + j) (column_in j n), one_small);
      small = λ j n. rw (number_of_lem i j, piece_across j n, piece_up i m) (product_small (fr + i) (fc + j) (row_in i m) (column_in j n));
    }

    pub rows_in : Rows functions heights (function_number p (at p s.point.range k l fr fc)) W X Y
    unfolding local_of
    rows_in = record { degree≤ = s.point.up≤; row = row_of }

    pub first_inside : FunctionInside p (at p s.point.range k l fr fc)
    first_inside = at_inside p s.point.range k l fr fc (omega (arith, row_in 0 zero-le)) (omega (arith, column_in 0 zero-le))

    pub level_size : nat_abs (level_part p functions heights x y k) ≤ 9 * most
    level_size = rw level_sum_lem (rows_size rows_in)

-- ---- what code finds on its way to a level's sum

module _ {p : Plan} {functions : List ℕ} {heights : List ℤ} {x y : ℕ} (s : OnSurface p functions heights x y) {k : ℕ} (l : k < p.levels) where
  module _ {e : ℕ} (he : e ≡ eighths p k) where
    module _ {columns : Side} {X : LocalValues} (hc : columns ≡ across_at p k) (hx : X ≡ local_of columns e x) where
      pub found_across : X ≡ local_of (across_at p k) (eighths p k) x
      found_across = rw (hx, hc, he)

      pub across_found : (SideIn columns) × (X.cell < columns.cells)
      unfolding local_of
      across_found = rw (found_across, hc) (across_in p s.point.range k l, within (across_at p k) (eighths p k) x (on_across p x y s.point k l))

    module _ {rows : Side} {Y : LocalValues} (hr : rows ≡ up_at p k) (hy : Y ≡ local_of rows e y) where
      pub found_up : Y ≡ local_of (up_at p k) (eighths p k) y
      found_up = rw (hy, hr, he)

      pub up_found : (SideIn rows) × (Y.cell < rows.cells)
      unfolding local_of
      up_found = rw (found_up, hr) (up_in p s.point.range k l, within (up_at p k) (eighths p k) y (on_up p x y s.point k l))

  module _ {e : ℕ} {columns rows : Side} {X Y : LocalValues} (he : e ≡ eighths p k) (hc : columns ≡ across_at p k) (hr : rows ≡ up_at p k)
      (hx : X ≡ local_of columns e x) (hy : Y ≡ local_of rows e y) {row column : ℕ} (hrow : row ≡ first_over rows Y.cell) (hcolumn : column ≡ first_over columns X.cell) where
    abbrev first : Place
    first = record { level = k; row = row; column = column }

    first_is : first ≡ record { level = k; row = first_over (up_at p k) (cell_of (eighths p k) (rows_at p k) y); column = first_over (across_at p k) (cell_of (eighths p k) (columns_at p k) x) }
    unfolding local_of
    first_is = rw (hrow, hcolumn, hx, hy, hc, hr, he)

    pub inside_found : FunctionInside p first
    inside_found = rw first_is (first_inside p functions heights x y s k l)

    module _ {n w : ℕ} (hn : n ≡ function_number p first) (hw : w ≡ function_columns_at p k) where
      pub rows_found : Rows functions heights n w X Y
      rows_found = rw (hn, first_is, hw, found_across he hc hx, found_up he hr hy) (rows_in p functions heights x y s k l)

      pub sum_found : level_sum functions heights n w X Y ≡ level_part p functions heights x y k
      sum_found = rw (hn, first_is, hw, found_across he hc hx, found_up he hr hy) (sym (level_sum_lem p functions heights x y s k l))
