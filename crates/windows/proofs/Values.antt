-- The windows of a level's functions: what they say of the functions over a cell. Assumes nothing.
use mathlib.Core.Path.{◌≡◌, refl, sym, ap, ◌∙◌}
use mathlib.Core.Bool.{cond}
use mathlib.Core.List.{List}
use Prim.Native.Nat.{ℕ, ◌+◌, ◌-◌, ◌*◌, ◌≤◌, ◌<◌}
use native.Mathlib.Nat.{le_antisymm, le_trans, le-add_right, mul-le-mul_right}
use native.Mathlib.Omega.{arith}
use lib.Arith.{digits_div, digits_mod}
use lib.Dec.{T}
use lib.ListN.{length, get_or}
use borrow.Rule.Slice.PartMut.{mid_of}
use Rattle.facts.specs.Least.{least}
use Rattle.facts.specs.Mapped.{filled}
use Rattle.facts.proofs.Least.{least_le, least_top, least_ge}
use Rattle.facts.proofs.Mapped.{run_in, part_at, mapped_at, filled_length}
use Rattle.facts.proofs.Tests.{cases, not_e, T_true, T_false}
use Rattle.grid.specs.declared.Plan.{Plan}
use Rattle.grid.specs.declared.Place.{Place}
use Rattle.grid.specs.Numbering.{number}
use Rattle.grid.specs.Plan.{columns_at, rows_at, function_columns_at, function_rows_at, function_offset, function_total, cell_total, cell_place, cell_number, function_place, function_number, CellInside, FunctionInside, across_at, up_at, supported}
use Rattle.grid.specs.Range.{InRange}
use Rattle.grid.specs.Side.{first_over}
use Rattle.grid.proofs.Laws.{cell_number_lt, cell_place_number, function_inside, function_number_lt, function_number_place, function_place_number}
use Rattle.grid.proofs.Numbering.{level_ends}
use Rattle.grid.proofs.Sides.{across_in, up_in, across_firsts, up_firsts, first_lt}
use Rattle.grid.proofs.First.{supported_under, under_supported}
use Rattle.windows.specs.Windows.{back, in_rows, window_at, window_least, RowsIn, LevelIn}
use Rattle.windows.specs.Level.{wide, high, ValueRoom, least_value, ValueTable}
use Rattle.windows.proofs.Slides.{back_le, back_ge}

abbrev at : ℕ → ℕ → ℕ → Place
at k y x = record { level = k; row = y; column = x }

module _ (p : Plan) (range : InRange p) (values : List ℕ) (k : ℕ) (l : k < p.levels) where
  abbrev from : ℕ
  from = function_offset p k

  abbrev part : List ℕ
  part = mid_of from (length values - from) values

  abbrev FW : ℕ
  FW = function_columns_at p k

  abbrev FH : ℕ
  FH = function_rows_at p k

  -- ---- one cell

  module _ (y x : ℕ) (yl : y < rows_at p k) (xl : x < columns_at p k) where
    abbrev j : ℕ
    j = first_over (up_at p k) y + p.degree_up

    abbrev i : ℕ
    i = first_over (across_at p k) x + p.degree_across

    abbrev c : ℕ
    c = cell_number p (at k y x)

    inside : CellInside p (at k y x)
    inside = record { level< = l; row< = yl; column< = xl }

    b : c < cell_total p
    b = cell_number_lt p range (at k y x) inside

    place : cell_place p c ≡ at k y x
    place = cell_place_number p range (at k y x) inside

    top : window_at (in_rows part FW) FW FH p.degree_across p.degree_up j i ≤ 2
    unfolding window_at
    top = least_top 2 _ _

    abbrev value : ℕ → ℕ
    value f = cond (supported p f c) (get_or values f 0) 2

    abbrev row_least : ℕ → ℕ
    row_least r = least 2 (p.degree_across + 1) (back FW i (in_rows part FW r))

    value_le : (f : ℕ) → f < function_total p → T (supported p f c) → window_at (in_rows part FW) FW FH p.degree_across p.degree_up j i ≤ get_or values f 0
    unfolding window_at number
    value_le f m t =
        let u = rw place at (supported_under p range f c b t) in
        let e : (function_place p f).level ≡ k = u.level in
        let n = function_inside p range f m in
        let r : (function_place p f).row < FH = rw e at n.row< in
        let s : (function_place p f).column < FW = rw e at n.column< in
        let q : from + (function_place p f).row * FW + (function_place p f).column ≡ f = rw e at (function_number_place p range f m) in
        let v : get_or part ((function_place p f).row * FW + (function_place p f).column) 0 ≡ get_or values f 0 = part_at from values _ ∙ ap (λ z. get_or values z 0) (omega arith) in
        let rows = u.rows in
        let columns = u.columns in
        rw (← v) (le_trans (back_le FH p.degree_up j row_least (function_place p f).row r (omega (arith, rows.to)) (omega (arith, rows.from)))
        (back_le FW p.degree_across i (in_rows part FW (function_place p f).row) (function_place p f).column s (omega (arith, columns.to)) (omega (arith, columns.from))))

    value_ge : least_value p values c ≤ window_at (in_rows part FW) FW FH p.degree_across p.degree_up j i
    unfolding window_at least_value number
    value_ge = back_ge FH p.degree_up j row_least (least 2 (function_total p) value) (least_top 2 _ _) (λ r ra rb rc. back_ge FW p.degree_across i (in_rows part FW r) (least 2 (function_total p) value) (least_top 2 _ _) (λ s sa sb sc.
        let n : FunctionInside p (at k r s) = record { level< = l; row< = ra; column< = sa } in
        let f : ℕ = function_number p (at k r s) in
        let m = function_number_lt p range (at k r s) n in
        let t : T (supported p (function_number p (at k r s)) c) = under_supported p range (function_number p (at k r s)) c b
        (rw (place, function_place_number p range (at k r s) n) (record { level = refl; columns = record { from = omega arith; to = omega arith }; rows = record { from = omega arith; to = omega arith } })) in
        let v : get_or part (r * FW + s) 0 ≡ get_or values (function_number p (at k r s)) 0 = part_at from values _ ∙ ap (λ z. get_or values z 0) (omega arith) in
        let w : cond (supported p (function_number p (at k r s)) c) (get_or values (function_number p (at k r s)) 0) 2 ≡ get_or values (function_number p (at k r s)) 0 = rw (T_true (supported p (function_number p (at k r s)) c) t) in
        rw v (rw w at (least_le 2 (function_total p) value (function_number p (at k r s)) m))))

    value_is : window_at (in_rows part FW) FW FH p.degree_across p.degree_up j i ≡ least_value p values c
    unfolding least_value
    value_is = le_antisymm
        (least_ge 2 (function_total p) _ _ top (λ f m. cases (supported p f c)
        (λ t. rw (T_true (supported p f c) t) (value_le f m t))
        (λ t. rw (T_false (supported p f c) (not_e (supported p f c) t)) top)))
        value_ge

  -- ---- the table

  columns_are : FW + p.degree_across ≡ wide p k (2 * p.degree_across)
  columns_are = omega (arith, across_firsts p k)

  rows_are : FH + p.degree_up ≡ high p k (2 * p.degree_up)
  rows_are = omega (arith, up_firsts p k)

  pub values_in : {columns rows here n m : ℕ} → columns ≡ FW → rows ≡ FH → here ≡ from → length values ≡ function_total p → ValueRoom p m → ValueRoom p n
      → LevelIn m n columns rows p.degree_across p.degree_up × RowsIn (length values - here) n columns rows p.degree_across × (here ≤ length values)
  values_in {columns} {rows} {here} {n} {m} ec er eh s x y =
      let o = level_ends (function_columns_at p) (function_rows_at p) k p.levels l in
      let a : (FH + p.degree_up) * (FW + p.degree_across) ≤ m = rw (columns_are, rows_are) (x.enough k l) in
      let b : (FH + p.degree_up) * (FW + p.degree_across) ≤ n = rw (columns_are, rows_are) (y.enough k l) in
      let ca = (across_in p range k l).cells≥ in
      let ra = (up_in p range k l).cells≥ in
      rw (ec, er, eh) (
        record {
          columns≥ = omega arith;
          rows≥ = omega arith;
          across≥ = range.across≥;
          up≥ = range.up≥;
          scratch≤ = omega (arith, mul-le-mul_right (FW + p.degree_across) (le-add_right FH p.degree_up));
          out≤ = b;
        },
        record {
          from≤ = omega arith;
          out≤ = omega (arith, mul-le-mul_right (FW + p.degree_across) (le-add_right FH p.degree_up));
          rows≥ = omega arith;
        },
        omega arith,
      )

  pub value_table : {columns rows here : ℕ} (found start : List ℕ) → columns ≡ FW → rows ≡ FH → here ≡ from → ValueRoom p (length start)
      → found ≡ filled 0 ((rows + p.degree_up) * (columns + p.degree_across)) (window_least (in_rows (mid_of here (length values - here) values) columns) columns rows p.degree_across p.degree_up) start
      → ValueTable p values found k
  unfolding filled window_least
  value_table found start ec er eh room e =
      let q = rw (ec, er, eh) at e in
      let room' = room.enough k l in
      let size : (FH + p.degree_up) * (FW + p.degree_across) ≤ length start = rw (columns_are, rows_are) room' in
      record {
        long = rw (ap length q ∙ filled_length 0 _ _ start) room';
        made = λ y x yl xl.
            let m : i y x yl xl < FW + p.degree_across = omega (arith, across_firsts p k, first_lt (across_at p k) (across_in p range k l) x xl) in
            let n : j y x yl xl < FH + p.degree_up = omega (arith, up_firsts p k, first_lt (up_at p k) (up_in p range k l) y yl) in
            let t : j y x yl xl * (FW + p.degree_across) + i y x yl xl < (FH + p.degree_up) * (FW + p.degree_across) = omega (arith, mul-le-mul_right (FW + p.degree_across) n) in
            ap (λ w. get_or found (j y x yl xl * w + i y x yl xl) 0) (sym columns_are)
            ∙ (ap (λ z. get_or z (j y x yl xl * (FW + p.degree_across) + i y x yl xl) 0) q
            ∙ (mapped_at _ start (j y x yl xl * (FW + p.degree_across) + i y x yl xl) (omega arith)
            ∙ rw (run_in 0 ((FH + p.degree_up) * (FW + p.degree_across)) (j y x yl xl * (FW + p.degree_across) + i y x yl xl) (omega arith) (omega arith), digits_div (j y x yl xl) m, digits_mod (j y x yl xl) m)
            (value_is y x yl xl)));
      }
