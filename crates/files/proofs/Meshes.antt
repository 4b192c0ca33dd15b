-- Meshes and their files: the refined cells of a mesh can be written and give its table again, and what reading accepts is a mesh that
-- lists just the cells that were read. Assumes nothing.
use mathlib.Core.Path.{◌≡◌, refl, sym, ap, ◌∙◌, fun_ext}
use mathlib.Core.List.{List, [], ◌∷◌}
use Prim.Native.Nat.{ℕ, ◌≤◌}
use native.Mathlib.Omega.{arith}
use lib.Dec.{T, eqb, eqb→eq, ltb, ltb→lt, lt→ltb}
use lib.ListN.{length}
use borrow.Author.Tests.{le-ltb, ne_eqb}
use Rattle.facts.specs.Numbers.{elem, all, listed}
use Rattle.facts.proofs.Tests.{same, T_true, eqb_of}
use Rattle.facts.proofs.Bounded.{every_i}
use Rattle.facts.proofs.Numbers.{all_e, all_i, listed→, →listed}
use Rattle.facts.proofs.Turns.{listed_short}
use Rattle.grid.specs.declared.Plan.{Plan}
use Rattle.grid.specs.Bounds.{most_cells}
use Rattle.grid.specs.Plan.{in_range, too_large, cell_total, function_total}
use Rattle.grid.specs.Range.{InRange}
use Rattle.grid.proofs.Laws.{range_test, cells_some}
use Rattle.mesh.specs.Mesh.{refined, is_mesh, is_admissible, is_labelled, table_of, labels, refusal3, refusal6, check}
use Rattle.mesh.proofs.Bridge.{Good, check_good, good_inside, is_mesh_lem, is_admissible_lem, chain, pass, passed, length_table_of, length_labels, get_d_labels, refined_table_of}
use Rattle.listing.specs.Cells.{refined_below}
use Rattle.listing.proofs.Cells.{refined_rising}
use Rattle.files.specs.File.{file_of, encode_file, got_file, decode_file, rebuilt, refusal13, read_refusal}
use Rattle.files.proofs.Rising.{rises, listed_elem}
use Rattle.files.proofs.Coding.{head_small, corners_small, Writable, file_whole, file_only, file_rising}

-- ---- refusals 1 to 3

-- they see no more of the tables than their lengths
pub same_lengths : (p : Plan) (cs fs cs' fs' : List ℕ) → length cs ≡ length cs' → length fs ≡ length fs' → refusal3 p cs fs ≡ refusal3 p cs' fs'
unfolding refusal3
same_lengths p cs fs cs' fs' a b = rw (a, b) refl

-- a plan has cells, so no tables at all are too few
pub no_tables : (p : Plan) → InRange p → cell_total p ≤ most_cells → refusal3 p [] [] ≡ 3
unfolding refusal3 too_large
no_tables p r s =
    rw (
      T_true (in_range p) (range_test p r),
      le-ltb most_cells (cell_total p) s,
      ne_eqb 0 (cell_total p) (λ e. let w : ⊥ = omega (arith, cells_some p r) in w),
    ) refl

-- ---- a mesh has a file

module _ (p : Plan) (cs fs : List ℕ) (e : check p cs fs ≡ 0) where
  good : Good p cs
  good = (check_good p cs fs e).0

  -- its refined cells
  abbrev pub cells : List ℕ
  cells = listed (cell_total p) (refined cs)

  writable : Writable p cells
  unfolding refined_below
  writable =
      let G = good in
      record {
        head = head_small p (length cells) G.range (omega (arith, listed_short (refined cs) (cell_total p)));
        rising = (refined_rising cs (cell_total p) (omega arith)).0;
        corners = corners_small p G.range;
      }

  pub file_read : decode_file (file_of p cs) ≡ got_file p cells []
  unfolding file_of
  file_read = file_whole writable

  -- they give its table again
  pub same_table : rebuilt p cells ≡ cs
  unfolding rebuilt
  same_table =
      ap (table_of p) (fun_ext (λ c. same _ _ (λ t. (listed→ (cell_total p) (refined cs) c t).1)
      (λ t. →listed (cell_total p) (refined cs) c (good_inside p cs good c t) t)))
      ∙ sym good.is

  below : T (all (λ c. ltb c (cell_total p)) cells)
  below = all_i (λ c. ltb c (cell_total p)) cells (λ c t. lt→ltb c (cell_total p) (listed→ (cell_total p) (refined cs) c t).0)

  pub passes13 : refusal13 p cells [] ≡ 0
  unfolding refusal13
  passes13 =
      rw (
        T_true (all (λ c. ltb c (cell_total p)) cells) below,
        same_table,
        T_true (is_mesh p cs) (is_mesh_lem p cs good),
        T_true (is_admissible p cs) (is_admissible_lem p cs good),
      ) refl

  pub unsized : refusal3 p [] [] ≡ 3
  unsized = no_tables p good.range good.small

-- ---- what reading accepts

nothing : (l : List ℕ) → length l ≡ 0 → l ≡ []
nothing [] e = refl
nothing (x ∷ l) e = absurd (omega arith)

module _ (p : Plan) (cells rest cs fs : List ℕ) (e : read_refusal p cells rest cs fs ≡ 0) where
  record Rebuildable : Type 0 where
    pub tables : refusal3 p cs fs ≡ 0
    pub below : T (all (λ c. ltb c (cell_total p)) cells)
    pub mesh : T (is_mesh p (rebuilt p cells))
    pub admissible : T (is_admissible p (rebuilt p cells))
    pub whole : rest ≡ []

  rebuildable : Rebuildable
  unfolding read_refusal refusal13
  rebuildable =
      let (r3, r13) = chain (refusal3 p cs fs) (refusal13 p cells rest) e in
      let (b, e1) = pass (all (λ c. ltb c (cell_total p)) cells) 3 _ r13 in
      let (m, e2) = pass (is_mesh p (rebuilt p cells)) 3 _ e1 in
      let (a, e3) = pass (is_admissible p (rebuilt p cells)) 4 _ e2 in
      let (w, e4) = pass (eqb (length rest) 0) 12 0 e3 in
      record { tables = r3; below = b; mesh = m; admissible = a; whole = nothing rest (eqb→eq (length rest) 0 w) }

  -- a mesh
  pub rebuilt_checked : check p (rebuilt p cells) (labels p (rebuilt p cells)) ≡ 0
  unfolding check refusal6 is_labelled rebuilt
  rebuilt_checked =
      let k = rebuildable in
      let q = passed p cs fs k.tables in
      let t : List ℕ = rebuilt p cells in
      rw (
        same_lengths p t (labels p t) cs fs (length_table_of p (λ c. elem c cells) ∙ sym q.cells) (length_labels p t ∙ sym q.functions),
        k.tables,
        T_true (is_mesh p t) k.mesh,
        T_true (is_admissible p t) k.admissible,
        T_true (is_labelled p t (labels p t)) (every_i (function_total p) _ (λ f i. eqb_of _ _ (get_d_labels p t f i))),
      ) refl

  -- whose file the bytes are
  pub rebuilt_only : (s : List ℕ) → decode_file s ≡ got_file p cells rest → s ≡ file_of p (rebuilt p cells)
  unfolding file_of rebuilt
  rebuilt_only s d =
      let k = rebuildable in
      let r : InRange p = (passed p cs fs k.tables).range in
      let f : refined (table_of p (λ c. elem c cells)) ≡ (λ c. elem c cells) =
      refined_table_of p r (λ c. elem c cells) (λ c t. ltb→lt c (cell_total p) (all_e (λ c. ltb c (cell_total p)) cells c k.below t)) in
      let l : listed (cell_total p) (refined (table_of p (λ c. elem c cells))) ≡ cells =
      ap (listed (cell_total p)) f ∙ listed_elem (cell_total p) cells (rises (file_rising s p cells rest d)) k.below in
      file_only s p cells (d ∙ ap (got_file p cells) k.whole) ∙ ap (encode_file p) (sym l)
