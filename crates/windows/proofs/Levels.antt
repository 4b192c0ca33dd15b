-- The windows of a level's cells are those of their first functions' places. Assumes nothing.
use mathlib.Core.Path.{◌≡◌, ap, ◌∙◌}
use mathlib.Core.Bool.{cond}
use mathlib.Core.List.{List}
use Prim.Native.Nat.{ℕ, ◌+◌, ◌-◌, ◌*◌, ◌≤◌, ◌<◌}
use native.Mathlib.Nat.{le_antisymm, le_trans, le-add_right, mul-le-mul_right}
use native.Mathlib.Omega.{arith}
use lib.ListN.{length, get_or}
use borrow.Rule.Slice.PartMut.{mid_of}
use Rattle.facts.specs.Least.{least}
use Rattle.facts.specs.Mapped.{in_run, filled}
use Rattle.facts.proofs.Least.{least_same, least_le, least_top, least_ge}
use Rattle.facts.proofs.Mapped.{run_in, run_before, run_after, run_e, part_at, mapped_at}
use Rattle.grid.specs.declared.Plan.{Plan}
use Rattle.grid.specs.declared.Side.{Side}
use Rattle.grid.specs.Numbering.{number}
use Rattle.grid.specs.Plan.{columns_at, rows_at, cell_offset, cell_total, cell_number, across_at, up_at}
use Rattle.grid.specs.Range.{InRange}
use Rattle.grid.specs.Side.{SideIn, first_over, firsts}
use Rattle.grid.proofs.Numbering.{level_ends}
use Rattle.grid.proofs.Sides.{across_in, up_in, first_lt}
use Rattle.windows.specs.Windows.{back, in_rows, window_at, window_least, LevelIn}
use Rattle.windows.specs.Level.{least_over, placed_row, placed, PlaceIn, least_under, level_least, wide, high, LevelRoom}
use Rattle.windows.proofs.Slides.{back_le, back_ge}

-- ---- one direction

module _ (s : Side) (d i : ℕ) (g : ℕ → ℕ) where
  pub over_le : (x : ℕ) → x < s.cells → first_over s x ≤ i → i ≤ first_over s x + d → least_over s d i g ≤ g x
  unfolding least_over
  over_le x l u v =
      let r : cond (in_run (first_over s x) (d + 1) i) (g x) 2 ≡ g x = rw (run_in (first_over s x) (d + 1) i u (omega arith)) in
      rw r at (least_le 2 s.cells (λ x. cond (in_run (first_over s x) (d + 1) i) (g x) 2) x l)

  pub over_ge : (v : ℕ) → v ≤ 2 → ((x : ℕ) → x < s.cells → first_over s x ≤ i → i ≤ first_over s x + d → v ≤ g x) → v ≤ least_over s d i g
  unfolding least_over
  over_ge v t h = least_ge 2 _ _ v t (λ x l. run_e (first_over s x) (d + 1) i
      (λ u. rw (run_before (first_over s x) (d + 1) i u) t)
      (λ u w. rw (run_in (first_over s x) (d + 1) i u w) (h x l u (omega arith)))
      (λ u. rw (run_after (first_over s x) (d + 1) i u) t))

  pub over_top : least_over s d i g ≤ 2
  unfolding least_over
  over_top = least_top 2 _ _

-- ---- both: the least byte is below that of each cell there, and above what is below all

module _ (p : Plan) (cells : List ℕ) (k across up j i : ℕ) where
  abbrev at : ℕ → ℕ → ℕ
  at y x = cell_number p (record { level = k; row = y; column = x })

  pub under_top : least_under p cells k across up j i ≤ 2
  unfolding least_under
  under_top = over_top _ _ _ _

  pub under_le : (y x : ℕ) → y < rows_at p k → x < columns_at p k → first_over (up_at p k) y ≤ j → j ≤ first_over (up_at p k) y + up
      → first_over (across_at p k) x ≤ i → i ≤ first_over (across_at p k) x + across → least_under p cells k across up j i ≤ get_or cells (at y x) 0
  unfolding least_under
  under_le y x l m a b c d = le_trans (over_le (up_at p k) up j _ y l a b) (over_le (across_at p k) across i (λ x. get_or cells (at y x) 0) x m c d)

  pub under_ge : (v : ℕ) → v ≤ 2
      → ((y x : ℕ) → y < rows_at p k → x < columns_at p k → first_over (up_at p k) y ≤ j → j ≤ first_over (up_at p k) y + up → first_over (across_at p k) x ≤ i
      → i ≤ first_over (across_at p k) x + across → v ≤ get_or cells (at y x) 0)
      → v ≤ least_under p cells k across up j i
  unfolding least_under
  under_ge v t h = over_ge (up_at p k) up j _ v t (λ y l a b. over_ge (across_at p k) across i _ v t (λ x m c d. h y x l m a b c d))

-- ---- windows over cells that are placed

-- rows at the places of every step-th row of `up`: a window has those whose places are in it
module _ (across-side : Side) (ci : SideIn across-side) (up-side : Side) (ri : SideIn up-side) (step rows : ℕ) (one : 1 ≤ step) (fit : rows * step ≤ up-side.cells) (from : List ℕ) (across up j i : ℕ) where
  abbrev rowed : ℕ → ℕ → ℕ
  rowed y = in_rows from across-side.cells y

  abbrev spot : ℕ → ℕ
  spot y = first_over up-side (y * step)

  abbrev pub least_placed : ℕ
  least_placed = least 2 rows (λ y. cond (in_run (spot y) (up + 1) j) (least_over across-side across i (rowed y)) 2)

  spot_lt : (y : ℕ) → y < rows → spot y < firsts up-side
  spot_lt y l = first_lt up-side ri (y * step) (omega (arith, mul-le-mul_right step l))

  placed_le : (y x : ℕ) → y < rows → x < across-side.cells → placed across-side up-side step rows from (spot y) (first_over across-side x) ≤ rowed y x
  unfolding placed placed_row
  placed_le y x l m =
      let r : cond (in_run (spot y) 1 (spot y)) (least_over across-side 0 (first_over across-side x) (rowed y)) 2 ≡ least_over across-side 0 (first_over across-side x) (rowed y) =
      rw (run_in (spot y) 1 (spot y) (omega arith) (omega arith)) in
      le_trans (rw r at (least_le 2 rows (λ z. cond (in_run (spot z) 1 (spot y)) (least_over across-side 0 (first_over across-side x) (rowed z)) 2) y l))
      (over_le across-side 0 (first_over across-side x) (rowed y) x m (omega arith) (omega arith))

  least_in : (y : ℕ) → y < rows → spot y ≤ j → j ≤ spot y + up → least_placed ≤ least_over across-side across i (rowed y)
  least_in y l u v =
      let r : cond (in_run (spot y) (up + 1) j) (least_over across-side across i (rowed y)) 2 ≡ least_over across-side across i (rowed y) = rw (run_in (spot y) (up + 1) j u (omega arith)) in
      rw r at (least_le 2 rows (λ z. cond (in_run (spot z) (up + 1) j) (least_over across-side across i (rowed z)) 2) y l)

  below_placed : (z w : ℕ) → z ≤ j → j ≤ z + up → w ≤ i → i ≤ w + across → least_placed ≤ placed across-side up-side step rows from z w
  unfolding placed placed_row
  below_placed z w b c e f = least_ge 2 rows _ _ (least_top 2 _ _) (λ y l. run_e (spot y) 1 z
      (λ u. rw (run_before (spot y) 1 z u) (least_top 2 _ _))
      (λ u v. rw (run_in (spot y) 1 z u v) (over_ge across-side 0 w (rowed y) least_placed (least_top 2 _ _) (λ x q r s.
      le_trans (least_in y l (omega arith) (omega arith)) (over_le across-side across i (rowed y) x q (omega arith) (omega arith)))))
      (λ u. rw (run_after (spot y) 1 z u) (least_top 2 _ _)))

  pub at_placed : window_at (placed across-side up-side step rows from) (firsts across-side) (firsts up-side) across up j i ≡ least_placed
  unfolding window_at
  at_placed = le_antisymm
      (least_ge 2 rows _ _ (least_top 2 _ _) (λ y l. run_e (spot y) (up + 1) j
      (λ u. rw (run_before (spot y) (up + 1) j u) (least_top 2 _ _))
      (λ u v. rw (run_in (spot y) (up + 1) j u v) (over_ge across-side across i (rowed y) _ (least_top 2 _ _) (λ x m e f.
      le_trans (back_le (firsts up-side) up j (λ z. least 2 (across + 1) (back (firsts across-side) i (placed across-side up-side step rows from z))) (spot y) (spot_lt y l) u (omega arith))
      (le_trans (back_le (firsts across-side) across i (placed across-side up-side step rows from (spot y)) (first_over across-side x) (first_lt across-side ci x m) e f) (placed_le y x l m)))))
      (λ u. rw (run_after (spot y) (up + 1) j u) (least_top 2 _ _))))
      (back_ge (firsts up-side) up j _ least_placed (least_top 2 _ _) (λ z a b c. back_ge (firsts across-side) across i _ least_placed (least_top 2 _ _) (λ w d e f. below_placed z w b c e f)))

module _ (p : Plan) (range : InRange p) (cells : List ℕ) (k : ℕ) (l : k < p.levels) (across up : ℕ) where
  abbrev part : List ℕ
  part = mid_of (cell_offset p k) (length cells - cell_offset p k) cells

  abbrev cols : Side
  cols = across_at p k

  abbrev rows : Side
  rows = up_at p k

  -- the byte of a cell of the level
  byte_is_lem : (y x : ℕ) → in_rows part (columns_at p k) y x ≡ get_or cells (at p cells k across up 0 0 y x) 0
  unfolding number
  byte_is_lem y x = part_at (cell_offset p k) cells (y * columns_at p k + x) ∙ ap (λ m. get_or cells m 0) (omega arith)

  at_under : (j i : ℕ) → window_at (placed cols rows 1 (rows_at p k) part) (firsts cols) (firsts rows) across up j i ≡ least_under p cells k across up j i
  unfolding least_under least_over
  at_under j i =
      let r : rows_at p k * 1 ≤ rows_at p k = omega arith in
      at_placed cols (across_in p range k l) rows (up_in p range k l) 1 (rows_at p k) (omega arith) r part across up j i
      ∙ least_same 2 (rows_at p k) _ _ (λ y m.
      let e : y * 1 ≡ y = omega arith in
      rw e (ap (λ (g : ℕ → ℕ). cond (in_run (first_over rows y) (up + 1) j) (least_over cols across i g) 2) (λ n x. byte_is_lem y x n)))

  module _ {columns high here : ℕ} (c : columns ≡ firsts cols) (r : high ≡ firsts rows) (h : here ≡ cell_offset p k) where
    pub level_least_lem : (t : ℕ) → window_least (placed cols rows 1 (rows_at p k) (mid_of here (length cells - here) cells)) columns high across up t ≡ level_least p cells k across up t
    unfolding window_least level_least
    level_least_lem t = rw (c, r, h) (at_under _ _)

  pub level_in : {room place : ℕ} → LevelRoom p k (length cells) room place across up → LevelIn room place (firsts cols) (firsts rows) across up
  level_in x =
      let o = x.out≤ in
      let s = x.scratch≤ in
      record {
        columns≥ = omega (arith, first_lt cols (across_in p range k l) 0 (across_in p range k l).cells≥);
        rows≥ = omega (arith, first_lt rows (up_in p range k l) 0 (up_in p range k l).cells≥);
        across≥ = x.across≥;
        up≥ = x.up≥;
        scratch≤ = omega (arith, mul-le-mul_right (firsts cols + across) (le-add_right (firsts rows) up));
        out≤ = o;
      }

  pub place_in : {place here : ℕ} → here ≡ cell_offset p k → cell_total p ≤ length cells → high p k up * wide p k across ≤ place
      → PlaceIn cols rows 1 (rows_at p k) (length cells - here) place across × (here ≤ length cells)
  place_in e t o =
      let b = level_ends (columns_at p) (rows_at p) k p.levels l in
      rw e (
        record {
          across_in = across_in p range k l;
          up_in = up_in p range k l;
          step≥ = omega arith;
          rows≤ = omega arith;
          from≤ = omega arith;
          out≤ = omega (arith, mul-le-mul_right (firsts cols + across) (le-add_right (firsts rows) up));
        },
        omega arith,
      )

-- the bytes of the table
module _ (p : Plan) (cells found start : List ℕ) (k across up : ℕ) (e : found ≡ filled 0 (high p k up * wide p k across) (level_least p cells k across up) start)
    (s : high p k up * wide p k across ≤ length start) where
  pub level_entry : (t : ℕ) → t < high p k up * wide p k across → get_or found t 0 ≡ level_least p cells k across up t
  unfolding filled
  level_entry t l = ap (λ z. get_or z t 0) e ∙ (mapped_at _ start t (omega arith) ∙ rw (run_in 0 (high p k up * wide p k across) t (omega arith) (omega arith)))
