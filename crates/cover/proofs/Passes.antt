-- One level of each pass, with the numbers that the plan's methods gave. Assumes nothing.
use mathlib.Core.Path.{◌≡◌, sym, ap, ◌∙◌}
use mathlib.Core.List.{List}
use Prim.Native.Nat.{ℕ, ◌+◌, ◌-◌, ◌*◌, ◌≤◌, ◌<◌}
use native.Mathlib.Omega.{arith}
use lib.ListN.{length}
use borrow.Rule.Slice.PartMut.{put_mid, mid_of}
use Rattle.facts.specs.Mapped.{filled}
use Rattle.facts.proofs.Mapped.{filled_none, filled_more, filled_part}
use Rattle.facts.proofs.Ranges.{mid_len}
use Rattle.grid.specs.declared.Plan.{Plan}
use Rattle.grid.specs.declared.Side.{Side}
use Rattle.grid.specs.Numbering.{offset}
use Rattle.grid.specs.Range.{InRange}
use Rattle.grid.specs.Plan.{columns_at, rows_at, function_columns_at, function_rows_at, cell_offset, function_offset, cell_total, function_total, across_at, up_at}
use Rattle.grid.proofs.Sides.{across_in, up_in}
use Rattle.windows.specs.Level.{level_least, wide, high, LevelRoom, least_value, ValueTable}
use Rattle.windows.proofs.Under.{part_size, part_ends}
use Rattle.cover.specs.Level.{picked, level_read, ReadIn}
use Rattle.cover.specs.Cover.{coarsenable_byte, NonZero}
use Rattle.grid.proofs.Numbering.{level_ends}
use Rattle.grid.proofs.Levels.{offset_zero, offset_next}
use Rattle.cover.proofs.Levels.{cells_in, picked_at, read_at}

-- the level's functions
module _ (p : Plan) (range : InRange p) (k : ℕ) (l : k < p.levels) where
  pub coarsenable_pass : {at n : ℕ} (functions reactivables found start out zs : List ℕ) → at ≡ function_offset p k → n ≡ function_rows_at p k * function_columns_at p k
      → NonZero p reactivables → function_total p ≤ length start → length out ≡ function_total p
      → found ≡ filled 0 (high p k p.degree_up * wide p k p.degree_across) (level_least p reactivables k p.degree_across p.degree_up) start
      → zs ≡ filled 0 n (picked (mid_of at (length functions - at) functions) found) (mid_of at (length out - at) out)
      → put_mid at (length out - at) out zs ≡ filled (function_offset p k) (function_rows_at p k * function_columns_at p k) (coarsenable_byte p functions reactivables) out
  coarsenable_pass functions reactivables found start out zs ea en kinds room e made z =
      rw ea (ap (put_mid (function_offset p k) (length out - function_offset p k) out) (rw (ea, en) at z)
      ∙ filled_part (function_offset p k) (function_rows_at p k * function_columns_at p k) (coarsenable_byte p functions reactivables) _ out (omega (arith, part_ends p range reactivables k l))
      (picked_at p range k l functions reactivables found start kinds room made))

  pub level_room : {n m : ℕ} (reactivables : List ℕ) → NonZero p reactivables → function_total p ≤ n → function_total p ≤ m → LevelRoom p k (length reactivables) n m p.degree_across p.degree_up
  level_room reactivables kinds x y =
      let ends = part_ends p range reactivables k l in
      let size = part_size p range reactivables k l in
      record {
        range = range;
        level< = l;
        across≥ = range.across≥;
        up≥ = range.up≥;
        cells≤ = omega (arith, kinds.size);
        scratch≤ = rw size (omega arith);
        out≤ = rw size (omega arith);
      }

  -- where the level's functions end
  pub functions_fit : {columns rows at : ℕ} → columns ≡ function_columns_at p k → rows ≡ function_rows_at p k → at ≡ function_offset p k → at + rows * columns ≤ function_total p
  functions_fit ec er ea = rw (ec, er, ea) (level_ends (function_columns_at p) (function_rows_at p) k p.levels l)

  pub read_in : {across up : Side} {here : ℕ} (values table out : List ℕ) → across ≡ across_at p k → up ≡ up_at p k → here ≡ cell_offset p k → ValueTable p values table k → length out ≡ cell_total p
      → ReadIn (length table) (length (mid_of here (length out - here) out)) across up × (here ≤ length out)
  read_in values table out ec er eh t e =
      let b = cells_in p range k l in
      rw (ec, er, eh) (
        record {
          columns = across_in p range k l;
          rows = up_in p range k l;
          table≤ = t.long;
          out≤ = omega (arith, mid_len (cell_offset p k) out);
        },
        omega arith,
      )

  pub cover_pass : {across up : Side} {here : ℕ} (values table out zs : List ℕ) → across ≡ across_at p k → up ≡ up_at p k → here ≡ cell_offset p k → ValueTable p values table k → length out ≡ cell_total p
      → zs ≡ filled 0 (up.cells * across.cells) (level_read across up table) (mid_of here (length out - here) out)
      → put_mid here (length out - here) out zs ≡ filled (cell_offset p k) (rows_at p k * columns_at p k) (least_value p values) out
  cover_pass values table out zs ec er eh t e z =
      rw eh (ap (put_mid (cell_offset p k) (length out - cell_offset p k) out) (rw (ec, er, eh) at z)
      ∙ filled_part (cell_offset p k) (rows_at p k * columns_at p k) (least_value p values) _ out (omega (arith, cells_in p range k l)) (read_at p range k l values table t))

-- ---- level after level

module _ (w h : ℕ → ℕ) (f : ℕ → ℕ) (xs : List ℕ) where
  pub levels_none : xs ≡ filled 0 (offset w h 0) f xs
  levels_none = rw (offset_zero w h) (filled_none 0 f xs)

  pub levels_more : (k : ℕ) (ys zs : List ℕ) → ys ≡ filled 0 (offset w h k) f xs → zs ≡ filled (offset w h k) (h k * w k) f ys → zs ≡ filled 0 (offset w h (k + 1)) f xs
  levels_more k ys zs e q =
      q ∙ (ap (filled (offset w h k) (h k * w k) f) e
      ∙ (filled_more 0 (offset w h k) (offset w h k) (h k * w k) f xs (omega arith) ∙ ap (λ n. filled 0 n f xs) (sym (offset_next w h k))))
