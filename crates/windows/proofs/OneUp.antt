-- Rows of the level before k, on the columns of k: the bytes that are put down, and the windows over them. Assumes nothing.
use mathlib.Core.Path.{◌≡◌, ap, subst, ◌∙◌}
use mathlib.Core.Bool.{cond}
use mathlib.Core.List.{List}
use Prim.Native.Nat.{ℕ, pred, ◌+◌, ◌-◌, ◌*◌, ◌/◌, ◌%◌, ◌≤◌, ◌<◌}
use native.Mathlib.Nat.{mul-le-mul_right, add-mul-div_right, div-lt_iff_lt-mul}
use native.Mathlib.Omega.{arith}
use lib.ListN.{length, get_or}
use borrow.Rule.Slice.PartMut.{mid_of}
use Rattle.facts.specs.Mapped.{in_run, filled}
use Rattle.facts.proofs.Least.{least_same}
use Rattle.facts.proofs.Mapped.{run_in, part_at, mapped_at}
use Rattle.grid.specs.declared.Plan.{Plan}
use Rattle.grid.specs.declared.Side.{Side}
use Rattle.grid.specs.Numbering.{number}
use Rattle.grid.specs.Plan.{ratio, columns_at, rows_at, cell_offset, cell_total, across_at, up_at, ancestor}
use Rattle.grid.specs.Range.{InRange}
use Rattle.grid.specs.Side.{first_over, firsts}
use Rattle.grid.proofs.Direction.{grown_more}
use Rattle.grid.proofs.Laws.{ratio_pos}
use Rattle.grid.proofs.Generations.{ancestor_one}
use Rattle.grid.proofs.Numbering.{level_ends}
use Rattle.grid.proofs.Sides.{across_in, up_in}
use Rattle.windows.specs.Windows.{in_rows, window_least}
use Rattle.windows.specs.Level.{least_over, placed, wide}
use Rattle.windows.specs.Near.{RepeatIn, repeated, above_byte, near_across, near_up, near_least, near_leasts}
use Rattle.windows.proofs.Levels.{at_placed}

-- only what the columns have counts
over_same : (s : Side) (d i : ℕ) (g h : ℕ → ℕ) → ((x : ℕ) → x < s.cells → g x ≡ h x) → least_over s d i g ≡ least_over s d i h
unfolding least_over
over_same s d i g h e = least_same 2 s.cells _ _ (λ x l. ap (λ (n : ℕ). cond (in_run (first_over s x) (d + 1) i) n 2) (e x l))

module _ (p : Plan) (range : InRange p) (k : ℕ) (z : 1 ≤ k) (l : k < p.levels) where
  abbrev C : ℕ
  C = columns_at p k

  abbrev R : ℕ
  R = rows_at p (k - 1)

  before : pred k ≡ k - 1
  before = omega arith

  columns_are : columns_at p k ≡ columns_at p (k - 1) * ratio p
  columns_are = subst (λ (n : ℕ). columns_at p k ≡ columns_at p n * ratio p) before (grown_more (ratio p) (ratio_pos p) p.columns k z)

  pub rows_are : rows_at p k ≡ rows_at p (k - 1) * ratio p
  rows_are = subst (λ (n : ℕ). rows_at p k ≡ rows_at p n * ratio p) before (grown_more (ratio p) (ratio_pos p) p.rows k z)

  ends : cell_offset p (k - 1) + R * columns_at p (k - 1) ≤ cell_total p
  ends = level_ends (columns_at p) (rows_at p) (k - 1) p.levels (omega arith)

  quotient : (y x : ℕ) → (y * C + x) / ratio p ≡ y * columns_at p (k - 1) + ancestor p 1 x
  quotient y x =
      let e : y * C + x ≡ x + y * columns_at p (k - 1) * ratio p = ap (λ (n : ℕ). y * n + x) columns_are ∙ omega arith in
      ap (λ (n : ℕ). n / ratio p) e ∙ (add-mul-div_right x (y * columns_at p (k - 1)) (ratio_pos p) ∙ omega (arith, ancestor_one p x))

  up_one : (t : ℕ) → t < R * C → ancestor p 1 t < R * columns_at p (k - 1)
  up_one t m =
      let e : R * C ≡ R * columns_at p (k - 1) * ratio p = ap (λ (n : ℕ). R * n) columns_are ∙ omega arith in
      rw (ancestor_one p t) ((div-lt_iff_lt-mul (ratio_pos p)).1 (subst (λ (n : ℕ). t < n) e m))

  -- there are bytes to repeat
  pub repeat_in : {here n : ℕ} (size room : ℕ) → here ≡ cell_offset p (k - 1) → n ≡ R * C → cell_total p ≤ size → R * C ≤ room → RepeatIn p n (size - here) room × (here ≤ size)
  repeat_in size room e f s r = rw (e, f) (record { out≤ = r; from< = λ t m. omega (arith, up_one t m, ends) }, omega (arith, ends))

  -- what stands in row y and column x
  module _ (cells from start : List ℕ) {here n : ℕ} (eh : here ≡ cell_offset p (k - 1)) (en : n ≡ R * C)
      (e : from ≡ filled 0 n (repeated p (mid_of here (length cells - here) cells)) start) (r : R * C ≤ length start) where
    row_byte : (y x : ℕ) → y < R → x < C → in_rows from C y x ≡ above_byte p cells k y x
    unfolding filled repeated above_byte number
    row_byte y x a b =
        let m = mul-le-mul_right C a in
        let q : (y * C + x) / ratio p ≡ y * columns_at p (k - 1) + ancestor p 1 x = quotient y x in
        ap (λ w. get_or w (y * C + x) 0) e
        ∙ (mapped_at _ start (y * C + x) (omega arith)
        ∙ rw (run_in 0 n (y * C + x) (omega arith) (omega arith), eh, ancestor_one p (y * C + x), q)
        (part_at (cell_offset p (k - 1)) cells (y * columns_at p (k - 1) + ancestor p 1 x) ∙ ap (λ (m : ℕ). get_or cells m 0) (omega arith)))

    -- the windows over them
    pub near_windows : {columns high : ℕ} → columns ≡ firsts (across_at p k) → high ≡ firsts (up_at p k) → (t : ℕ)
        → window_least (placed (across_at p k) (up_at p k) (ratio p) R from) columns high (near_across p) (near_up p) t ≡ near_leasts p cells k t
    unfolding window_least near_leasts near_least
    near_windows ec er t =
        let fit : R * ratio p ≤ rows_at p k = rw rows_are (omega arith) in
        rw (ec, er)
        (at_placed (across_at p k) (across_in p range k l) (up_at p k) (up_in p range k l) (ratio p) R (ratio_pos p) fit from (near_across p) (near_up p) _ _
        ∙ least_same 2 R _ _ (λ y m. ap (λ (w : ℕ). cond (in_run (first_over (up_at p k) (y * ratio p)) (near_up p + 1) (t / wide p k (near_across p))) w 2) (over_same (across_at p k) (near_across p) (t % wide p k (near_across p)) _ _ (λ x h. row_byte y x m h))))
