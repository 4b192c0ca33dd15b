-- What the least bytes of a level say of a function's support: each is below the bytes of the cells there, and above what is below them
-- all. Assumes nothing.
use mathlib.Core.Path.{◌≡◌, refl, ap}
use mathlib.Core.Bool.{Bool, ◌&&◌}
use mathlib.Core.List.{List}
use Prim.Native.Nat.{ℕ, ◌+◌, ◌*◌, ◌≤◌, ◌<◌}
use native.Mathlib.Nat.{le_refl}
use native.Mathlib.Omega.{arith}
use lib.Dec.{T, eqb, eqb→eq}
use lib.ListN.{get_or}
use Rattle.facts.specs.Bounded.{some}
use Rattle.facts.proofs.Tests.{and_i, and_l, and_r, cases, same, not_i, not_e, eqb_of, differ}
use Rattle.facts.proofs.Bounded.{some_i, some_e}
use Rattle.grid.specs.declared.Plan.{Plan}
use Rattle.grid.specs.declared.Place.{Place}
use Rattle.grid.specs.Plan.{function_rows_at, function_columns_at, function_offset, cell_total, function_total, cell_place, cell_number, function_place, CellInside, supported}
use Rattle.grid.specs.Range.{InRange}
use Rattle.grid.proofs.Laws.{cell_inside, cell_number_lt, cell_number_place, cell_place_number, function_inside}
use Rattle.grid.proofs.Numbering.{level_ends, place_rest}
use Rattle.grid.proofs.Sides.{across_firsts, up_firsts}
use Rattle.grid.proofs.First.{supported_under, under_supported}
use Rattle.windows.specs.Level.{least_under, level_least, wide, high}
use Rattle.windows.proofs.Levels.{under_le, under_ge}

abbrev at : ℕ → ℕ → ℕ → Place
at k y x = record { level = k; row = y; column = x }

module _ (p : Plan) (range : InRange p) (cells : List ℕ) where
  -- of the window that ends at the function's own place
  module _ (f : ℕ) (b : f < function_total p) where
    abbrev x : Place
    x = function_place p f

    abbrev pub least_support : ℕ
    least_support = least_under p cells x.level p.degree_across p.degree_up x.row x.column

    pub support_le : (c : ℕ) → c < cell_total p → T (supported p f c) → least_support ≤ get_or cells c 0
    support_le c l t =
        let y : Place = cell_place p c in
        let u = supported_under p range f c l t in
        let i = cell_inside p range c l in
        let e = cell_number_place p range c l in
        rw u.level
        (rw e at (under_le p cells (cell_place p c).level p.degree_across p.degree_up x.row x.column (cell_place p c).row (cell_place p c).column i.row< i.column< u.rows.from u.rows.to u.columns.from u.columns.to))

    pub support_ge : (v : ℕ) → v ≤ 2 → ((c : ℕ) → c < cell_total p → T (supported p f c) → v ≤ get_or cells c 0) → v ≤ least_support
    support_ge v t h = under_ge p cells x.level p.degree_across p.degree_up x.row x.column v t (λ y z l m a b' c d.
        let i : CellInside p (at x.level y z) = record { level< = (function_inside p range f b).level<; row< = l; column< = m } in
        h (cell_number p (at x.level y z)) (cell_number_lt p range (at x.level y z) i)
        (under_supported p range f (cell_number p (at x.level y z)) (cell_number_lt p range (at x.level y z) i)
        (rw (cell_place_number p range (at x.level y z) i) (record { level = refl; columns = record { from = c; to = d }; rows = record { from = a; to = b' } }))))

    -- some byte of the support is 1, where none is 0
    pub support_one : ((c : ℕ) → c < cell_total p → 1 ≤ get_or cells c 0) → eqb least_support 1 ≡ some (cell_total p) (λ c. supported p f c && eqb (get_or cells c 0) 1)
    support_one h = same _ _
        (λ t. cases ones (λ u. u) (λ u.
        absurd (let two : 2 ≤ least_support = support_ge 2 (le_refl 2) (λ c l s.
        let n = differ (get_or cells c 0) 1 (not_i (eqb (get_or cells c 0) 1) (λ v. not_e ones u (some_i (cell_total p) _ c l (and_i (supported p f c) (eqb (get_or cells c 0) 1) s v)))) in
        omega (arith, h c l, n)) in
        omega (arith, eqb→eq least_support 1 t))))
        (λ t.
        let w = some_e (cell_total p) _ t in
        let low = support_le w.0 w.1 (and_l (supported p f w.0) _ w.2) in
        let one = eqb→eq (get_or cells w.0 0) 1 (and_r (supported p f w.0) _ w.2) in
        let high = support_ge 1 (omega arith) (λ c l s. h c l) in
        eqb_of least_support 1 (omega arith))
      where
        ones : Bool
        ones = some (cell_total p) (λ c. supported p f c && eqb (get_or cells c 0) 1)

  -- the table of the windows of the degrees has a byte for each function of the level
  module _ (k : ℕ) (l : k < p.levels) where
    pub part_size : high p k p.degree_up * wide p k p.degree_across ≡ function_rows_at p k * function_columns_at p k
    part_size = rw (across_firsts p k, up_firsts p k)

    pub part_ends : function_offset p k + function_rows_at p k * function_columns_at p k ≤ function_total p
    part_ends = level_ends (function_columns_at p) (function_rows_at p) k p.levels l

    pub level_support : (j : ℕ) (m : j < function_rows_at p k * function_columns_at p k)
        → level_least p cells k p.degree_across p.degree_up j ≡ least_support (function_offset p k + j) (omega (arith, part_ends))
    unfolding level_least
    level_support j m =
        rw (across_firsts p k)
        (ap (λ (x : Place). least_under p cells x.level p.degree_across p.degree_up x.row x.column)
        (place_rest (function_columns_at p) (function_rows_at p) p.levels (function_offset p k + j) k j l (omega arith) m))
