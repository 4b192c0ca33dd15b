-- A flat surface: where all functions of a mesh just opened have one height, every point has it. Assumes nothing.
use mathlib.Core.Path.{◌≡◌, sym, ap, ◌∙◌}
use mathlib.Core.Bool.{true, false, cond}
use mathlib.Core.List.{List}
use Prim.Native.Nat.{ℕ, ◌+◌, ◌-◌, ◌*◌, ◌^◌, ◌≤◌, ◌<◌}
use native.Mathlib.Nat.{lt_of_le_of_lt, mul-le-mul, one-le-pow, zero-add, add-sub_of_le}
use native.Mathlib.Omega.{arith}
use lib.Dec.{T, eqb, ltb, ltb→lt, le→leb, lit<, lit≤}
use lib.IntN.{ℤ, pos, nat_abs, ◌*ℤ◌, +ℤ_idr}
use lib.ListN.{length, get_or}
use lib.Pow.{pow_mono}
use borrow.Author.Tests.{ltb-false, lt-ltb, le-ltb}
use Rattle.facts.specs.Bounded.{sum}
use Rattle.facts.proofs.Bounded.{every_i}
use Rattle.facts.proofs.Numbers.{get_d_tabulate, bit}
use Rattle.facts.proofs.Tests.{implies_i, T_true, true_T}
use Rattle.exact.specs.Dyadic.{dyadic}
use Rattle.exact.specs.Sums.{sumℤ}
use Rattle.exact.proofs.Dyadic.{dyadic_widen}
use Rattle.exact.proofs.Sums.{sum_split, sum_same, sum_zero, sum_times}
use Rattle.facts.proofs.Sums as sums
use Rattle.grid.specs.declared.Plan.{Plan}
use Rattle.grid.specs.Bounds.{most_cells}
use Rattle.grid.specs.Plan.{in_range, too_large, cell_total, function_columns_at, function_rows_at, function_offset, function_total, function_place, function_level}
use Rattle.grid.specs.Range.{InRange}
use Rattle.grid.proofs.Laws.{in_range_lem, function_inside, function_number_place}
use Rattle.grid.proofs.Levels.{offset_zero, offset_next, offset_mono}
use Rattle.mesh.specs.Mesh.{active, fresh_cells, fresh_functions}
use Rattle.mesh.proofs.Fresh.{fresh_checked}
use Rattle.tables.specs.Entries.{fresh_byte}
use Rattle.tables.proofs.Calls.{first_level}
use Rattle.heights.specs.Height.{At}
use Rattle.heights.specs.Heights.{on_mesh, value_at, one_at, product_of, height_sum, places, inexact, low, all_low, answer, number_of, height_of, low_on, product_at}
use Rattle.heights.specs.Demands.{Flat}
use Rattle.heights.specs.Steps.{Point}
use Rattle.heights.proofs.Points.{millimetre}
use Rattle.heights.proofs.Refusals.{few, point, refuse_none, answered}
use Rattle.heights.proofs.Values.{value_one}

module _ (p : Plan) (range : InRange p) (small : cell_total p ≤ most_cells) (exact : inexact p ≡ false) (heights : List ℤ) (h : ℤ) (x y : ℕ)
    (sized : length heights ≡ function_total p) (low-h : nat_abs h ≤ 65536) (flat-h : (f : ℕ) → f < function_offset p 1 → get_or heights f (pos 0) ≡ h) (on : T (on_mesh p x y)) where
  abbrev functions : List ℕ
  functions = fresh_functions p

  s : Point p x y
  s = point p range (few p exact) x y on

  -- a function of the mesh is active just where it is of level 0, one of the first
  active_is : (f : ℕ) → f < function_total p → active functions f ≡ ltb f (function_offset p 1)
  unfolding active fresh_functions fresh_byte
  active_is f b =
      ap (λ n. eqb n 1) (get_d_tabulate (function_total p) (λ f. cond (eqb (function_level p f) 0) 1 0) f 0 b
      ∙ sym (first_level (function_columns_at p) (function_rows_at p) p.levels f (function_inside p range f b) (function_number_place p range f b)))
      ∙ bit (ltb f (function_offset p 1))

  all_low_lem : all_low p functions heights ≡ true
  unfolding all_low low low_on
  all_low_lem = T_true _ (every_i (function_total p) _ (λ f b. implies_i (active functions f) _ (λ a.
      let l = ltb→lt f (function_offset p 1) (rw (active_is f b) at a) in
      le→leb (nat_abs (get_or heights f (pos 0))) (65536 * 16 ^ function_level p f) (rw (flat-h f l) (omega (arith, one-le-pow (function_level p f) 16 (lit≤ tt)))))))

  first_le : function_offset p 1 ≤ function_total p
  first_le = offset_mono (function_columns_at p) (function_rows_at p) 1 p.levels range.levels≥

  -- a function of level 0, and of a finer one
  first : (f : ℕ) → f < function_offset p 1 → product_at p functions heights x y f ≡ h *ℤ pos (value_at p x y (function_place p f))
  unfolding product_of
  first f l = rw (active_is f (omega (arith, first_le)), lt-ltb f (function_offset p 1) l, flat-h f l)

  finer : (k : ℕ) → k < function_total p - function_offset p 1 → product_at p functions heights x y (function_offset p 1 + k) ≡ pos 0
  unfolding product_of
  finer k l = rw (active_is (function_offset p 1 + k) (omega arith), le-ltb (function_offset p 1 + k) (function_offset p 1) (omega arith))

  one : sum (function_offset p 1) (λ f. value_at p x y (function_place p f)) ≡ 2 ^ places p.levels
  one =
      let z = offset_zero (function_columns_at p) (function_rows_at p) in
      let e : function_offset p 1 ≡ function_rows_at p 0 * function_columns_at p 0 = omega (arith, offset_next (function_columns_at p) (function_rows_at p) 0) in
      let m : 16 ^ 0 * one_at p 0 ≡ one_at p 0 = omega arith in
      ap (λ n. sum n (λ f. value_at p x y (function_place p f))) e
      ∙ sums.sum_same (function_rows_at p 0 * function_columns_at p 0) _ _ (λ i l. ap (λ n. value_at p x y (function_place p n)) (omega arith))
      ∙ value_one p x y s 0 range.levels≥
      ∙ sym m
      ∙ millimetre p 0 range.levels≥

  sum_is : height_sum p functions heights x y ≡ h *ℤ pos (2 ^ places p.levels)
  unfolding height_sum product_of
  sum_is =
      ap (λ n. sumℤ n (product_at p functions heights x y)) (sym (add-sub_of_le first_le))
      ∙ sum_split (function_offset p 1) (function_total p - function_offset p 1) (product_at p functions heights x y)
      ∙ rw (sum_zero (function_total p - function_offset p 1) (λ k. product_at p functions heights x y (function_offset p 1 + k)) finer, +ℤ_idr)
      (sum_same (function_offset p 1) _ (λ f. h *ℤ pos (value_at p x y (function_place p f))) first ∙ sum_times (function_offset p 1) h _ ∙ ap (λ n. h *ℤ pos n) one)

  same_float : dyadic (places p.levels) (height_sum p functions heights x y) ≡ dyadic 0 h
  same_float =
      let n : 10 + 4 * p.levels ≤ 26 = omega (arith, s.levels≤) in
      rw sum_is
      (ap (λ z. dyadic z (h *ℤ pos (2 ^ places p.levels))) (sym (zero-add (places p.levels)))
      ∙ sym (dyadic_widen 0 (places p.levels) h (omega arith) (lt_of_le_of_lt (mul-le-mul low-h (pow_mono n)) (lit< tt))))

  flat_at : answer p (fresh_cells p) functions heights x y ≡ At (dyadic 0 h)
  flat_at =
      sym (answered p (fresh_cells p) functions heights x y (fresh_checked p range small) (sym (refuse_none p functions heights sized exact all_low_lem)) (T_true _ on) (sym same_float))

pub flat : (p : Plan) → in_range p ≡ true → too_large p ≡ false → inexact p ≡ false → Flat p
unfolding too_large
flat p r t e heights h x y sized low-h flat-h on =
    let a = flat_at p (in_range_lem p (true_T _ r)) (ltb-false most_cells (cell_total p) t) e heights h x y sized low-h flat-h on in
    (ap number_of a, ap height_of a)
