-- One turn of each loop: a product, a row, a level more, with nothing rounded away. Assumes nothing.
use mathlib.Core.Path.{◌≡◌, refl, ap, ◌∙◌, subst}
use mathlib.Core.List.{List}
use Prim.Native.Nat.{ℕ, zero, suc, ◌+◌, ◌*◌, ◌^◌, ◌≤◌, ◌<◌, zero-le}
use native.Mathlib.Nat.{lt_of_le_of_lt, mul-le-mul_right, zero-lt-suc}
use native.Mathlib.Numerals.{add-one}
use native.Mathlib.Omega.{arith}
use lib.Dec.{lit<}
use lib.IntN.{ℤ, pos, nat_abs, ◌+ℤ◌, ◌*ℤ◌, +ℤ_idr}
use lib.Ieee.{Float, of_bits, binary64, add, mul, of_int}
use lib.ListN.{get_or}
use lib.Signed.{mag}
use mir.Syntax.{w32}
use mir.Val.{to_z, of_z}
use mir.ValLaws.{to_z-of_z}
use borrow.Author.Tests.{eq-eqb, ne_eqb}
use Rattle.exact.specs.Dyadic.{dyadic, Exact}
use Rattle.exact.specs.Sums.{sumℤ}
use Rattle.exact.proofs.Dyadic.{cast, dyadic_exact, abs_mul, scale, times, plus, definite}
use Rattle.exact.proofs.Sums.{abs_add, sum_next, sum_split}
use Rattle.grid.specs.declared.Plan.{Plan}
use Rattle.grid.specs.Plan.{function_columns_at, function_rows_at, function_offset}
use Rattle.grid.proofs.Levels.{offset_zero, offset_next}
use Rattle.mesh.specs.Mesh.{active}
use Rattle.splines.specs.declared.LocalValues.{LocalValues}
use Rattle.splines.specs.Local.{piece_of}
use Rattle.heights.specs.Heights.{product_of, height_sum, places, product_at}
use Rattle.heights.specs.Steps.{OnSurface, level_part, row_sum, most, Unit, Row, Rows}
use Rattle.heights.proofs.Surface.{part_size, rows_part_size, level_size}

-- an element of an `&[i32]`, as a read leaves it
pub element : (h : ℤ) → mag h < 2 ^ 31 → to_z w32 (of_z w32 h) ≡ h
element h m = to_z-of_z w32 h (record { sfits = m })

-- ---- a product

places≤ : {levels : ℕ} → levels ≤ 4 → places levels ≤ 1021
places≤ l = omega arith

exact_at : {i j : ℕ} {z : ℤ} {x : Float} → i ≡ j → Exact i z x → Exact j z x
exact_at {z = z} {x = x} e q = subst (λ i. Exact i z x) e q

pub product_exact : (levels : ℕ) (h : ℤ) (v : ℕ) {unit : Float} → Unit levels unit → nat_abs h < 2 ^ 53 → v < 2 ^ 53 → nat_abs h * v ≤ most
    → Exact (places levels) (h *ℤ pos v) (mul binary64 (of_int binary64 h) (mul binary64 (of_int binary64 (pos v)) unit))
product_exact levels h v u a b m =
    rw (u.is, cast h a, cast (pos v) b)
    (exact_at {i = 0 + (0 + (places levels))} (omega arith)
    (times {y = h} {z = pos v} (omega (arith, u.levels≤)) (lt_of_le_of_lt m (lit< tt)) (dyadic_exact 0 h)
    (scale {y = pos v} (places levels) (omega (arith, u.levels≤)) b (dyadic_exact 0 (pos v)))))

-- ---- the unit

part : of_bits binary64 0x3fb0_0000_0000_0000 ≡ dyadic 4 (pos 1)
unfolding of_bits dyadic
part = refl

pub sixteenth : {unit : Float} (levels : ℕ) → levels < 4 → unit ≡ dyadic (places levels) (pos 1)
    → mul binary64 unit (of_bits binary64 0x3fb0_0000_0000_0000) ≡ dyadic (10 + 4 * (levels + 1)) (pos 1)
sixteenth levels l e =
    let n : places levels + 4 ≡ 10 + 4 * (levels + 1) = omega arith in
    rw (e, part) (definite (places levels + 4) (pos 1) (zero-lt-suc 0) (scale {y = pos 1} 4 (omega arith) (lit< tt) (dyadic_exact (places levels) (pos 1)))
    ∙ ap (λ z. dyadic z (pos 1)) n)

-- ---- a row, function by function

module _ {functions : List ℕ} {heights : List ℤ} where
  module _ {first v levels j : ℕ} {across : LocalValues} (row : Row functions heights first across v) (few : levels ≤ 4) (l : j ≤ across.degree) where
    abbrev term : ℕ → ℤ
    term i = product_of functions heights (first + i) (piece_of across i * v)

    pub active_size : get_or functions (first + j) 0 ≡ 1 → nat_abs (get_or heights (first + j) (pos 0)) * (piece_of across j * v) ≤ most
    unfolding active product_of
    active_size a =
        let t = row.small j l in
        rw (eq-eqb _ _ a, abs_mul (get_or heights (first + j) (pos 0)) (pos (piece_of across j * v))) at t

    pub turn_active : {x sum : Float} → get_or functions (first + j) 0 ≡ 1 → sum ≡ dyadic (places levels) (sumℤ j term)
        → Exact (places levels) (get_or heights (first + j) (pos 0) *ℤ pos (piece_of across j * v)) x
        → add binary64 sum x ≡ dyadic (places levels) (sumℤ (j + 1) term)
    turn_active {x} a e q =
        let t : term j ≡ get_or heights (first + j) (pos 0) *ℤ pos (piece_of across j * v) = unfold product_of active in rw (eq-eqb _ _ a) in
        rw (e, sum_next j term)
        (plus (places levels) (sumℤ j term) (term j) (places≤ few)
        (lt_of_le_of_lt (subst (λ z. nat_abs z ≤ 3 * most) (sum_next j term) (part_size row (j + 1) (omega arith))) (lit< tt)) (rw t q))

    pub turn_idle : {sum : Float} → (get_or functions (first + j) 0 ≡ 1 → ⊥) → sum ≡ dyadic (places levels) (sumℤ j term) → sum ≡ dyadic (places levels) (sumℤ (j + 1) term)
    turn_idle a e =
        let t : term j ≡ pos 0 = unfold product_of active in rw (ne_eqb _ _ a) in
        rw (e, sum_next j term, t, +ℤ_idr)

  module _ {first w levels i : ℕ} {across up : LocalValues} (rows : Rows functions heights first w across up) (few : levels ≤ 4) (l : i ≤ up.degree) where
    abbrev row_term : ℕ → ℤ
    row_term n = row_sum functions heights (first + n * w) across (piece_of up n)

    pub turn_row : {x sum : Float} → sum ≡ dyadic (places levels) (sumℤ i row_term) → x ≡ dyadic (places levels) (row_term i)
        → add binary64 sum x ≡ dyadic (places levels) (sumℤ (i + 1) row_term)
    turn_row e q =
        rw (e, q, sum_next i row_term)
        (plus (places levels) (sumℤ i row_term) (row_term i) (places≤ few)
        (lt_of_le_of_lt (subst (λ z. nat_abs z ≤ 9 * most) (sum_next i row_term) (rows_part_size rows (i + 1) (omega arith))) (lit< tt)) (dyadic_exact _ (row_term i)))

-- ---- the levels

module _ {p : Plan} {functions : List ℕ} {heights : List ℤ} {x y : ℕ} (s : OnSurface p functions heights x y) where
  -- the functions of the levels below k
  abbrev pub up_to : ℕ → ℤ
  up_to k = sumℤ (function_offset p k) (product_at p functions heights x y)

  up_next : (k : ℕ) → up_to (k + 1) ≡ up_to k +ℤ level_part p functions heights x y k
  unfolding level_part
  up_next k = rw (offset_next (function_columns_at p) (function_rows_at p) k) (sum_split (function_offset p k) _ (product_at p functions heights x y))

  up_none : up_to 0 ≡ pos 0
  unfolding sumℤ
  up_none = rw (offset_zero (function_columns_at p) (function_rows_at p))

  pub up_size : (k : ℕ) → k ≤ p.levels → nat_abs (up_to k) ≤ k * (9 * most)
  up_size zero l = rw up_none zero-le
  up_size (suc k) l =
      let e : nat_abs (up_to (k + 1)) ≤ nat_abs (up_to k) + nat_abs (level_part p functions heights x y k) = rw (up_next k) (abs_add (up_to k) (level_part p functions heights x y k)) in
      rw (← add-one k) (omega (arith, e, up_size k (omega arith), level_size p functions heights x y s k (omega arith)))

  -- a sum of nothing is +0.0
  pub start_level : of_bits binary64 0 ≡ dyadic (places p.levels) (up_to 0)
  unfolding of_bits dyadic
  start_level = rw up_none refl

  pub turn_level : {k : ℕ} {z sum : Float} → k < p.levels → sum ≡ dyadic (places p.levels) (up_to k) → z ≡ dyadic (places p.levels) (level_part p functions heights x y k)
      → add binary64 sum z ≡ dyadic (places p.levels) (up_to (k + 1))
  turn_level {k} l e q =
      let n : k + 1 ≤ 4 = omega (arith, s.point.levels≤) in
      rw (e, q, up_next k)
      (plus (places p.levels) (up_to k) (level_part p functions heights x y k) (places≤ s.point.levels≤)
      (lt_of_le_of_lt (subst (λ z. nat_abs z ≤ (k + 1) * (9 * most)) (up_next k) (up_size (k + 1) (omega arith))) (lt_of_le_of_lt (mul-le-mul_right (9 * most) n) (lit< tt)))
      (dyadic_exact (places p.levels) (level_part p functions heights x y k)))

  pub up_all : up_to p.levels ≡ height_sum p functions heights x y
  unfolding height_sum
  up_all = refl
