-- Cells at the places of their first functions: runs of columns put into a row, and rows into a table of 2. Assumes nothing.
use mathlib.Core.Path.{◌≡◌, refl, sym, ap, subst, ◌∙◌}
use mathlib.Core.Bool.{true, false, cond}
use mathlib.Core.List.{List}
use Prim.Native.Nat.{ℕ, zero, suc, min, ◌+◌, ◌-◌, ◌*◌, ◌/◌, ◌%◌, ◌≤◌, ◌<◌}
use native.Mathlib.Nat.{le_antisymm, le_refl, min-eq_left, min-eq_right, mul-le-mul_right, div-add-mod'}
use native.Mathlib.Omega.{arith}
use lib.Arith.{digits_div, digits_mod}
use lib.Dec.{T, eqb, eqb→eq}
use lib.ListN.{length, get_or}
use borrow.Rule.Slice.PartMut.{put_mid, mid_of}
use Rattle.facts.specs.Least.{least}
use Rattle.facts.specs.Mapped.{in_run, mapped, filled}
use Rattle.facts.proofs.Least.{least_top, least_ge}
use Rattle.facts.proofs.Mapped.{run_in, run_before, run_after, run_e, part_at, mapped_length, mapped_at, mapped_is, mapped_more, mapped_part, filled_part}
use Rattle.facts.proofs.Tests.{cases, differ}
use Rattle.grid.specs.declared.Side.{Side}
use Rattle.grid.specs.Side.{first_over, firsts, Sized, SideIn, Run}
use Rattle.grid.proofs.Knots.{first_rises}
use Rattle.grid.proofs.Sides.{first_lt}
use Rattle.windows.specs.Windows.{always, lowered, in_rows, row_slid}
use Rattle.windows.specs.Level.{least_over, placed_row, placed, Twos}

-- ---- a row: the columns below x, each at its first function

module _ (s : Side) (from : List ℕ) where
  unfoldable pub row_to : ℕ → ℕ → ℕ
  row_to x i = least 2 x (λ y. cond (in_run (first_over s y) 1 i) (get_or from y 0) 2)

  pub row_all : (i : ℕ) → row_to s.cells i ≡ placed_row s (λ x. get_or from x 0) i
  unfolding row_to placed_row least_over
  row_all i = refl

  pub row_none : (out : List ℕ) (n : ℕ) → Twos n out → out ≡ filled 0 n (row_to 0) out
  unfolding filled row_to least
  row_none out n twos = mapped_is _ out out refl (λ i l. run_e 0 n i
      (λ u. absurd (omega arith))
      (λ u w. rw (run_in 0 n i u w) (twos i (omega arith)))
      (λ u. rw (run_after 0 n i u)))

  -- one column more: at its place, and nowhere else
  row_here : (x i : ℕ) → first_over s x ≡ i → row_to (suc x) i ≡ min (row_to x i) (get_or from x 0)
  unfolding row_to least
  row_here x i e = rw (run_in (first_over s x) 1 i (omega arith) (omega arith))

  row_off : (x i : ℕ) → in_run (first_over s x) 1 i ≡ false → row_to (suc x) i ≡ row_to x i
  unfolding row_to least
  row_off x i e = rw e (min-eq_left (least_top 2 x _))

  -- a run of them
  module _ (x end : ℕ) (run : Run s x end) where
    abbrev at : ℕ
    at = first_over s x

    -- what a run of k columns makes of the entry at i
    abbrev lower_run : ℕ → ℕ → ℕ
    lower_run k i = cond (in_run at k i) (min (row_to x i) (get_or from (x + (i - at)) 0)) (row_to x i)

    next_place : (k : ℕ) → x + k < end → first_over s (x + k) ≡ at + k
    next_place k l = let e : x + k - x ≡ k = omega arith in run.smooth (x + k) (omega arith) l ∙ ap (λ z. at + z) e

    steps : (k : ℕ) → x + k ≤ end → (i : ℕ) → row_to (x + k) i ≡ lower_run k i
    steps zero l i =
        let e : x + 0 ≡ x = omega arith in
        rw e (cases (eqb i at)
        (λ t. rw (run_after at 0 i (omega (arith, eqb→eq i at t))))
        (λ t. run_e at 0 i (λ u. rw (run_before at 0 i u)) (λ u w. absurd (omega arith)) (λ u. rw (run_after at 0 i u))))
    steps (suc k) l i =
        let e : x + suc k ≡ suc (x + k) = omega arith in
        let f = next_place k (omega arith) in
        rw e (run_e at k i
        (λ u. row_off (x + k) i (run_before (first_over s (x + k)) 1 i (omega arith)) ∙ (steps k (omega arith) i ∙ rw (run_before at k i u, run_before at (suc k) i u)))
        (λ u w. row_off (x + k) i (run_before (first_over s (x + k)) 1 i (omega arith)) ∙ (steps k (omega arith) i ∙ rw (run_in at k i u w, run_in at (suc k) i u (omega arith))))
        (λ u. cases (eqb i (at + k))
        (λ t.
        let q : i ≡ at + k = eqb→eq i (at + k) t in
        let h : x + (i - at) ≡ x + k = omega arith in
        row_here (x + k) i (f ∙ sym q)
        ∙ rw (run_in at (suc k) i (omega arith) (omega arith), h) (ap (λ z. min z (get_or from (x + k) 0)) (steps k (omega arith) i ∙ rw (run_after at k i u))))
        (λ t.
        let d = differ i (at + k) t in
        row_off (x + k) i (run_after (first_over s (x + k)) 1 i (omega arith)) ∙ (steps k (omega arith) i ∙ rw (run_after at k i u, run_after at (suc k) i (omega arith))))))

    -- through both parts
    pub row_next : (out ys : List ℕ) (n : ℕ) → ys ≡ filled 0 n (row_to x) out → at + (end - x) ≤ n → at ≤ length ys
        → put_mid at (length ys - at) ys (lowered (end - x) (mid_of x (length from - x) from) (mid_of at (length ys - at) ys)) ≡ filled 0 n (row_to end) out
    unfolding lowered filled
    row_next out ys n e l b =
        mapped_part at _ (λ i v. cond (in_run at m i) (min v (get_or from (x + (i - at)) 0)) v) ys b
        (λ i v u. rw (run_before at m i u))
        (λ j v c. run_e 0 m j
        (λ u. absurd (omega arith))
        (λ u w. let h : at + j - at ≡ j = omega arith in rw (run_in 0 m j u w, run_in at m (at + j) (omega arith) (omega arith), h, part_at x from j))
        (λ u. rw (run_after 0 m j u, run_after at m (at + j) (omega arith))))
        ∙ (ap (mapped _) e ∙ mapped_more _ _ _ out (λ i v. run_e 0 n i
        (λ u. absurd (omega arith))
        (λ u w. rw (run_in 0 n i u w, done i))
        (λ u. rw (run_after 0 n i u, run_after at m i (omega arith)))))
      where
        m : ℕ
        m = end - x

        done : (i : ℕ) → row_to end i ≡ cond (in_run at (end - x) i) (min (row_to x i) (get_or from (x + (i - at)) 0)) (row_to x i)
        done i =
            let some = run.some in
            let q : x + (end - x) ≡ end = omega arith in
            rw q at (steps (end - x) (omega arith) i)

-- a run's places are among those of first functions
pub run_ends : (s : Side) → SideIn s → (x end : ℕ) → Run s x end → first_over s x + (end - x) ≤ firsts s
run_ends s r x end run =
    let some = run.some in
    let within = run.within in
    omega (arith, first_lt s r (end - 1) (omega arith), run.smooth (end - 1) (omega arith) (omega arith))

-- ---- a table: the rows below y, each at its place: where the first function over row y · step is

module _ (across up : Side) (step : ℕ) (from : List ℕ) (more : ℕ) where
  abbrev W : ℕ
  W = firsts across

  abbrev width : ℕ
  width = firsts across + more

  -- what stands in row j and column i of the table
  unfoldable pub rows_to : ℕ → ℕ → ℕ → ℕ
  rows_to y j i = least 2 y (λ r. cond (in_run (first_over up (r * step)) 1 j) (placed_row across (in_rows from across.cells r) i) 2)

  unfoldable pub table_to : ℕ → ℕ → ℕ
  table_to y t = cond (in_run 0 W (t % width)) (rows_to y (t / width) (t % width)) 2

  -- a row through its part
  pub row_part : (first y i : ℕ) → first ≡ y * across.cells
      → placed_row across (λ x. get_or (mid_of first (length from - first) from) x 0) i ≡ placed_row across (in_rows from across.cells y) i
  row_part first y i e = ap (λ g. placed_row across g i) (λ k x. (part_at first from x ∙ ap (λ z. get_or from (z + x) 0) e) k)

  table_none : (t : ℕ) → table_to 0 t ≡ 2
  unfolding table_to rows_to least
  table_none t = run_e 0 W (t % width) (λ u. absurd (omega arith)) (λ u w. rw (run_in 0 W (t % width) u w)) (λ u. rw (run_after 0 W (t % width) u))

  pub table_start : (n : ℕ) (out ys : List ℕ) → ys ≡ filled 0 n (always 2) out → ys ≡ filled 0 n (table_to 0) out
  unfolding filled always
  table_start n out ys e = e ∙ mapped_is _ out _ (mapped_length _ out) (λ i l. mapped_at _ out i l ∙ run_e 0 n i
      (λ u. absurd (omega arith))
      (λ u w. rw (run_in 0 n i u w, table_none i))
      (λ u. rw (run_after 0 n i u)))

  pub table_all : (rows t : ℕ) → table_to rows t ≡ row_slid (placed across up step rows from) W more 1 t
  unfolding table_to rows_to row_slid placed least
  table_all rows t =
      let z : t % width - 0 ≡ t % width = omega arith in
      run_e 0 W (t % width)
      (λ u. absurd (omega arith))
      (λ u w. rw (run_in 0 W (t % width) u w, z) (sym (min-eq_right (least_top 2 rows _))))
      (λ u. rw (run_after 0 W (t % width) u))

  module _ (sized : Sized up) (one : 1 ≤ step) where
    -- earlier rows stand before it
    rises : (r y : ℕ) → r < y → first_over up r < first_over up y
    rises r zero l = absurd (omega arith)
    rises r (suc y) l = cases (eqb r y)
        (λ t. let e : r ≡ y = eqb→eq r y t in rw e (first_rises up sized y))
        (λ t. let d = differ r y t in omega (arith, rises r y (omega arith), first_rises up sized y))

    earlier : (r y : ℕ) → r < y → first_over up (r * step) < first_over up (y * step)
    earlier r y l = rises (r * step) (y * step) (omega (arith, mul-le-mul_right step l))

    fresh : (y i : ℕ) → rows_to y (first_over up (y * step)) i ≡ 2
    unfolding rows_to
    fresh y i = le_antisymm (least_top 2 y _) (least_ge 2 y _ 2 (le_refl 2) (λ r l. rw (run_after (first_over up (r * step)) 1 (first_over up (y * step)) (omega (arith, earlier r y l))) (le_refl 2)))

    rows_here : (y i : ℕ) → rows_to (suc y) (first_over up (y * step)) i ≡ placed_row across (in_rows from across.cells y) i
    unfolding rows_to least placed_row least_over
    rows_here y i = rw (run_in (first_over up (y * step)) 1 (first_over up (y * step)) (omega arith) (omega arith)) (ap (λ z. min z (placed_row across (in_rows from across.cells y) i)) (fresh y i) ∙ min-eq_right (least_top 2 across.cells _))

    rows_off : (y j i : ℕ) → in_run (first_over up (y * step)) 1 j ≡ false → rows_to (suc y) j i ≡ rows_to y j i
    unfolding rows_to least
    rows_off y j i e = rw e (min-eq_left (least_top 2 y _))

    module _ (y : ℕ) (w : 0 < width) where
      abbrev here : ℕ
      here = first_over up (y * step) * width

      -- where the row stands
      place_row : (i : ℕ) → i < width → (here + i) / width ≡ first_over up (y * step)
      place_row i l = digits_div (first_over up (y * step)) l

      place_column : (i : ℕ) → i < width → (here + i) % width ≡ i
      place_column i l = digits_mod (first_over up (y * step)) l

      pub table_fresh : (i : ℕ) → i < W → table_to y (here + i) ≡ 2
      unfolding table_to
      table_fresh i l = rw (place_row i (omega arith), place_column i (omega arith), run_in 0 W i (omega arith) (omega arith)) (fresh y i)

      table_here : (i : ℕ) → i < W → placed_row across (in_rows from across.cells y) i ≡ table_to (suc y) (here + i)
      unfolding table_to
      table_here i l = sym (rw (place_row i (omega arith), place_column i (omega arith), run_in 0 W i (omega arith) (omega arith)) (rows_here y i))

      table_off : (t : ℕ) → in_run here W t ≡ false → table_to (suc y) t ≡ table_to y t
      unfolding table_to
      table_off t e = run_e 0 W (t % width)
          (λ u. absurd (omega arith))
          (λ u v. rw (run_in 0 W (t % width) u v) (rows_off y (t / width) (t % width) (run_e (first_over up (y * step)) 1 (t / width)
          (λ a. run_before (first_over up (y * step)) 1 (t / width) a)
          (λ a b.
          let q : t / width ≡ first_over up (y * step) = omega arith in
          let d : here + t % width ≡ t = ap (λ z. z * width + t % width) (sym q) ∙ div-add-mod' t width in
          absurd (differs (sym (run_in here W t (omega arith) (omega arith)) ∙ e)))
          (λ a. run_after (first_over up (y * step)) 1 (t / width) a))))
          (λ u. rw (run_after 0 W (t % width) u))
        where
          differs : true ≡ false → ⊥
          differs e = subst T e tt

      pub table_next : (n : ℕ) (out ys zs : List ℕ) → ys ≡ filled 0 n (table_to y) out → here + W ≤ n → here ≤ length ys
          → zs ≡ filled 0 W (placed_row across (in_rows from across.cells y)) (mid_of here (length ys - here) ys)
          → put_mid here (length ys - here) ys zs ≡ filled 0 n (table_to (suc y)) out
      unfolding filled
      table_next n out ys zs e l b q =
          ap (put_mid here (length ys - here) ys) q
          ∙ (filled_part here W (table_to (suc y)) (placed_row across (in_rows from across.cells y)) ys b table_here
          ∙ (ap (filled here W (table_to (suc y))) e ∙ mapped_more _ _ _ out (λ i v. run_e 0 n i
          (λ u. absurd (omega arith))
          (λ u c. run_e here W i
          (λ a. rw (run_before here W i a, run_in 0 n i u c) (sym (table_off i (run_before here W i a))))
          (λ a d. rw (run_in here W i a d, run_in 0 n i u c))
          (λ a. rw (run_after here W i a, run_in 0 n i u c) (sym (table_off i (run_after here W i a)))))
          (λ u. rw (run_after 0 n i u, run_after here W i (omega arith))))))
