-- The window at a function's place is its support, and the least byte there its label. Assumes nothing.
use mathlib.Core.Path.{◌≡◌, sym, ap, ◌∙◌}
use lib.Dec.{eqb}
use mathlib.Core.List.{List}
use Prim.Native.Nat.{ℕ, ◌+◌, ◌-◌, ◌*◌, ◌≤◌, ◌<◌}
use native.Mathlib.Omega.{arith}
use lib.ListN.{length, get_or}
use borrow.Rule.Slice.PartMut.{put_mid, mid_of}
use Rattle.facts.specs.Mapped.{filled}
use Rattle.facts.specs.Ranges.{Written}
use Rattle.facts.proofs.Tests.{true_T}
use Rattle.facts.proofs.Bounded.{every_e, every_same}
use Rattle.facts.proofs.Mapped.{run_in, mapped_at, filled_length}
use Rattle.facts.proofs.Numbers.{get_d_tabulate}
use Rattle.facts.proofs.Ranges.{mid_len, written_same, written_part}
use Rattle.grid.specs.declared.Plan.{Plan}
use Rattle.grid.specs.Plan.{function_columns_at, function_rows_at, function_offset, cell_total, function_total}
use Rattle.mesh.specs.Mesh.{is_mesh, cell_fits, label_of, labels, is_labelled}
use Rattle.mesh.proofs.Bridge.{fits_e}
use Rattle.mesh.proofs.Label.{label}
use Rattle.nesting.specs.Table.{MeshTable}
use Rattle.grid.proofs.Levels.{offset_next}
use Rattle.windows.specs.Level.{level_least, wide, high, LevelRoom}
use Rattle.windows.proofs.Levels.{under_top}
use Rattle.windows.proofs.Under.{support_le, support_ge, part_size, part_ends, level_support}
use Rattle.compare.specs.Agree.{agree}
use Rattle.compare.proofs.Agree.{agree_all}

filled_written : {n : ℕ} {f : ℕ → ℕ} {xs ys : List ℕ} → ys ≡ filled 0 n f xs → n ≤ length xs → Written xs ys 0 n f
unfolding filled
filled_written {n} {f} {xs} {ys} e l = record {
  size = ap length e ∙ filled_length 0 n f xs;
  kept = λ i m. absurd (omega arith);
  made = λ i m u. ap (λ z. get_or z i 0) e ∙ (mapped_at _ xs i (omega arith) ∙ rw (run_in 0 n i (omega arith) (omega arith)));
}

module _ (p : Plan) (cells : List ℕ) (table : MeshTable p cells) (level : ℕ) (l : level < p.levels) where
  small : (n : ℕ) → n < cell_total p → get_or cells n 0 ≤ 2
  unfolding is_mesh
  small n b = (fits_e p cells n (every_e (cell_total p) (cell_fits p cells) (true_T _ table.mesh) n b)).byte

  level_label : (j : ℕ) → j < function_rows_at p level * function_columns_at p level → level_least p cells level p.degree_across p.degree_up j ≡ label_of p cells (function_offset p level + j)
  level_label j m =
      let range = table.sized.range in
      let b : function_offset p level + j < function_total p = omega (arith, part_ends p range cells level l) in
      level_support p range cells level l j m
      ∙ sym (label p (function_offset p level + j) cells small _ (under_top p cells _ _ _ _ _) (support_le p range cells (function_offset p level + j) b) (support_ge p range cells (function_offset p level + j) b))

  -- what the windows of the level write through its part of the table
  pub level_written : {o : ℕ} (out ys : List ℕ) → o ≡ function_offset p level → length out ≡ function_total p
      → ys ≡ filled 0 (high p level p.degree_up * wide p level p.degree_across) (level_least p cells level p.degree_across p.degree_up) (mid_of o (length out - o) out)
      → Written out (put_mid o (length out - o) out ys) (function_offset p level) (function_offset p (level + 1)) (label_of p cells)
  level_written {o} out ys q s h =
      let k = part_ends p table.sized.range cells level l in
      rw (q, offset_next (function_columns_at p) (function_rows_at p) level)
      (written_part out ys (function_offset p level) (function_rows_at p level * function_columns_at p level) (label_of p cells) (omega arith)
      (written_same _ _ (λ i m n. level_label i n)
      (filled_written (rw (q, part_size p table.sized.range cells level l) at h) (omega (arith, mid_len (function_offset p level) out)))))

  -- the tables hold the level
  pub level_room : {o : ℕ} (out scratch : List ℕ) → o ≡ function_offset p level → length out ≡ function_total p → function_total p ≤ length scratch
      → LevelRoom p level (length cells) (length scratch) (length out - o) p.degree_across p.degree_up × (o ≤ length out)
  level_room out scratch q s t =
      let k = part_ends p table.sized.range cells level l in
      let z = table.sized.size in
      rw q (
        record {
          range = table.sized.range;
          level< = l;
          across≥ = table.sized.range.across≥;
          up≥ = table.sized.range.up≥;
          cells≤ = omega arith;
          scratch≤ = rw (part_size p table.sized.range cells level l) (omega arith);
          out≤ = rw (part_size p table.sized.range cells level l) (omega arith);
        },
        omega arith,
      )

-- ---- refusal 6

-- the table agrees with the labels that were made
pub agree_labels : (p : Plan) (cells functions made : List ℕ) → made ≡ labels p cells → length functions ≡ function_total p
    → agree 0 (length functions) functions made ≡ is_labelled p cells functions
unfolding is_labelled labels
agree_labels p cells functions made e s =
    agree_all functions made (length functions)
    ∙ rw (s, e) (every_same (function_total p) _ _ (λ i l. ap (eqb (get_or functions i 0)) (get_d_tabulate _ _ i 0 l)))
