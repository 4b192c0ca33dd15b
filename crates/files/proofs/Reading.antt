-- What follows when a file is judged: the table that its cells give, refusals 4, 5 and 13, and the outcome. Assumes nothing.
use mathlib.Core.Path.{◌≡◌, refl, sym, ap, ◌∙◌, fun_ext}
use mathlib.Core.Bool.{Bool, true, false}
use mathlib.Core.List.{List}
use mathlib.Core.Logic.{◌≢◌, ◌⊎◌, inl, inr}
use Prim.Native.Nat.{ℕ, ◌≤◌, ◌<◌}
use native.Mathlib.Omega.{arith}
use lib.Dec.{T, ltb, eqb, eqb→eq, ltb→lt}
use lib.ListN.{length, drop, length-drop}
use borrow.Author.Tests.{eq-eqb, ne_eqb}
use Rattle.refusals.specs.Numbers.{number}
use Rattle.refusals.specs.declared.Refusal.{Refusal}
use Rattle.refusals.specs.declared.Refusal.TheVariants.{PlanOutOfRange, TooManyCells, TableLength, NotAMesh, NotAdmissible, WrongFunctionByte, MarkOutOfRange, MarkOfWrongKind, MarkOfLastLevel, CellListTooShort, FunctionListTooShort, MalformedFile, TrailingBytes, PlanWithoutHeights, PointOrHeightOutOfRange, TooManyCellsToProject, CarriedHeightOutOfRange, DraftOpen, NoDraft, RefinedCellNotWanted}
use Rattle.facts.specs.Numbers.{elem, all}
use Rattle.facts.proofs.Tests.{cases, same, not_e, T_true, T_false, eqb_of}
use Rattle.facts.proofs.Numbers.{all_e}
use Rattle.grid.specs.declared.Plan.{Plan}
use Rattle.grid.specs.Plan.{cell_total}
use Rattle.grid.proofs.Laws.{cells_some}
use Rattle.mesh.specs.Mesh.{refined, is_mesh, is_admissible, table_of, labels, refusal3}
use Rattle.mesh.proofs.Bridge.{length_table_of, pass, passed}
use Rattle.nesting.specs.Table.{MeshTable}
use Rattle.facts.specs.Numbers.{Clear}
use Rattle.codec.specs.Numbers.{decode_rising}
use Rattle.codec.proofs.Lists.{rising_canonical}
use Rattle.listing.specs.Judged.{last_of}
use Rattle.listing.specs.Cells.{marked, marked_by}
use Rattle.listing.proofs.Judging.{ends_good, last_all, all_last}
use Rattle.listing.proofs.Tables.{marked_yes, marked_no}
use Rattle.files.specs.declared.Outline.{Outline}
use Rattle.files.specs.File.{bad_file, decode_file, rebuilt, refusal13, read_refusal, no_plan, answered_plan, ReadOutcome, read_file, read_mesh}
use Rattle.files.specs.Steps.{numbers_of, cells_of, GoodFile, table_refusal}

pub rebuilt_size : (p : Plan) (cells : List ℕ) → length (rebuilt p cells) ≡ cell_total p
unfolding rebuilt
rebuilt_size p cells = length_table_of p (λ c. elem c cells)

-- ---- which plan is answered

-- none with refusals 1 and 2
pub answered_none : (r : Refusal) (p : Plan) → (r ≡ PlanOutOfRange) ⊎ (r ≡ TooManyCells) → answered_plan (number r) p ≡ no_plan
unfolding answered_plan
answered_none r p (inl e) = rw e refl
answered_none r p (inr e) = rw e refl

-- the file's with the others
pub answered_some : (r : Refusal) (p : Plan) → r ≢ PlanOutOfRange → r ≢ TooManyCells → answered_plan (number r) p ≡ p
unfolding answered_plan
answered_some PlanOutOfRange p a b = absurd (a refl)
answered_some TooManyCells p a b = absurd (b refl)
answered_some TableLength p a b = refl
answered_some NotAMesh p a b = refl
answered_some NotAdmissible p a b = refl
answered_some WrongFunctionByte p a b = refl
answered_some MarkOutOfRange p a b = refl
answered_some MarkOfWrongKind p a b = refl
answered_some MarkOfLastLevel p a b = refl
answered_some CellListTooShort p a b = refl
answered_some FunctionListTooShort p a b = refl
answered_some MalformedFile p a b = refl
answered_some TrailingBytes p a b = refl
answered_some PlanWithoutHeights p a b = refl
answered_some PointOrHeightOutOfRange p a b = refl
answered_some TooManyCellsToProject p a b = refl
answered_some CarriedHeightOutOfRange p a b = refl
answered_some DraftOpen p a b = refl
answered_some NoDraft p a b = refl
answered_some RefinedCellNotWanted p a b = refl

-- a refusal of a file that is judged
abbrev pub refused_with : Plan → List ℕ → List ℕ → ℕ → ReadOutcome
refused_with p cs fs n = record { answer = record { number = n; plan = answered_plan n p }; cells = cs; functions = fs }

-- ---- refusal 12

pub read_bad : (s cs fs : List ℕ) (q : Plan) → decode_file s ≡ bad_file → q ≡ no_plan
    → ◌≡◌ {A = ReadOutcome} (record { answer = record { number = 12; plan = q }; cells = cs; functions = fs }) (read_mesh s cs fs)
unfolding read_mesh read_file
read_bad s cs fs q e n = rw (e, n) refl

-- ---- refusals 4, 5 and 13 of a table

module _ (p : Plan) (table : List ℕ) (whole : Bool) where
  pub with_13 : is_mesh p table ≡ true → is_admissible p table ≡ true → whole ≡ false → 13 ≡ table_refusal p table whole
  unfolding table_refusal
  with_13 a b w = rw (a, b, w) refl

  pub with_none : is_mesh p table ≡ true → is_admissible p table ≡ true → whole ≡ true → 0 ≡ table_refusal p table whole
  unfolding table_refusal
  with_none a b w = rw (a, b, w) refl

-- ---- the rebuilt table

module _ {s : List ℕ} {h : Outline} (g : GoodFile s h) where
  -- the listed cells, all below t where the last is
  cells_below : (t : ℕ) → h.last < t → T (all (λ c. ltb c t) (cells_of s h))
  unfolding cells_of numbers_of
  cells_below t l = ends_good 0 h.last (decode_rising h.count (drop h.first s)) g.behind g.cells (λ cs e q.
      rw e (last_all (rising_canonical h.count (drop h.first s) cs g.behind e).rises t (rw q l)))

  last_is : last_of 0 (cells_of s h) ≡ h.last
  unfolding cells_of numbers_of
  last_is = ends_good 0 h.last (decode_rising h.count (drop h.first s)) g.behind g.cells (λ cs e q. rw e q)

  module _ (p : Plan) (t : List ℕ) {new : List ℕ} (l : h.last < length t) (z : Clear t) (e : new ≡ marked_by (decode_rising h.count (drop h.first s)) t) where
    new_is : new ≡ marked (cells_of s h) t
    unfolding cells_of numbers_of marked_by
    new_is = ends_good 0 h.last (decode_rising h.count (drop h.first s)) g.behind g.cells (λ cs q _. e ∙ rw q refl)

    refined_is : (c : ℕ) → refined new c ≡ elem c (cells_of s h)
    unfolding refined
    refined_is c = rw new_is (cases (elem c (cells_of s h))
        (λ y. let i : c < length t = ltb→lt c (length t) (all_e (λ c. ltb c (length t)) (cells_of s h) c (cells_below (length t) l) y) in
        rw (marked_yes (cells_of s h) t c i y) (sym (T_true (elem c (cells_of s h)) y)))
        (λ n. let f : (T (elem c (cells_of s h)) → ⊥) = not_e (elem c (cells_of s h)) n in
        rw (marked_no (cells_of s h) t c f, z c) (sym (T_false (elem c (cells_of s h)) f))))

    pub rebuilt_is : table_of p (refined new) ≡ rebuilt p (cells_of s h)
    unfolding rebuilt
    rebuilt_is = ap (table_of p) (fun_ext refined_is)

  -- ---- the outcome

  -- refusals 1 to 3
  pub read_early : (cs fs : List ℕ) {n : ℕ} → n ≡ refusal3 h.plan cs fs → n ≢ 0 → refused_with h.plan cs fs n ≡ read_mesh s cs fs
  unfolding read_mesh read_file read_refusal
  read_early cs fs {n} e z = rw (g.file, ← e, ne_eqb n 0 z, ne_eqb n 0 z) refl

  module _ (cs fs : List ℕ) (e : refusal3 h.plan cs fs ≡ 0) where
    abbrev p : Plan
    p = h.plan

    -- with refusals 1 to 3 behind, what is left decides
    late : (n : ℕ) → refusal13 p (cells_of s h) (drop h.end s) ≡ n → read_refusal p (cells_of s h) (drop h.end s) cs fs ≡ n
    unfolding read_refusal
    late n q = rw (eq-eqb (refusal3 p cs fs) 0 e, q) refl

    refused_with_lem : (n : ℕ) → refusal13 p (cells_of s h) (drop h.end s) ≡ n → eqb n 0 ≡ false → refused_with p cs fs n ≡ read_mesh s cs fs
    unfolding read_mesh read_file
    refused_with_lem n q z = rw (g.file, late n q, z) refl

    done : refusal13 p (cells_of s h) (drop h.end s) ≡ 0
        → ◌≡◌ {A = ReadOutcome} (record { answer = record { number = 0; plan = p }; cells = rebuilt p (cells_of s h); functions = labels p (rebuilt p (cells_of s h)) }) (read_mesh s cs fs)
    unfolding read_mesh read_file
    done q = rw (g.file, late 0 q) refl

    -- 4 for a cell of T or more
    pub read_beyond : cell_total p ≤ h.last → refused_with p cs fs 4 ≡ read_mesh s cs fs
    unfolding refusal13
    read_beyond b =
        let f : all (λ c. ltb c (cell_total p)) (cells_of s h) ≡ false = T_false (all (λ c. ltb c (cell_total p)) (cells_of s h)) (λ a.
        absurd (omega (arith, all_last 0 (cells_of s h) (cell_total p) (cells_some p (passed p cs fs e).range) a, last_is))) in
        refused_with_lem 4 (rw f refl) refl

    module _ (l : h.last < cell_total p) {n : ℕ} (r : n ≡ table_refusal p (rebuilt p (cells_of s h)) (eqb h.end (length s))) where
      whole_is : eqb (length (drop h.end s)) 0 ≡ eqb h.end (length s)
      whole_is = same (eqb (length (drop h.end s)) 0) (eqb h.end (length s))
          (λ t. eqb_of h.end (length s) (omega (arith, length-drop h.end s, eqb→eq (length (drop h.end s)) 0 t, g.inside)))
          (λ t. eqb_of (length (drop h.end s)) 0 (omega (arith, length-drop h.end s, eqb→eq h.end (length s) t)))

      refusal_is : refusal13 p (cells_of s h) (drop h.end s) ≡ n
      unfolding refusal13 table_refusal
      refusal_is = rw (T_true (all (λ c. ltb c (cell_total p)) (cells_of s h)) (cells_below (cell_total p) l), whole_is) (sym r)

      now_mesh : n ≡ 0 → is_mesh p (rebuilt p (cells_of s h)) ≡ true
      unfolding table_refusal
      now_mesh z = T_true (is_mesh p (rebuilt p (cells_of s h))) (pass (is_mesh p (rebuilt p (cells_of s h))) 3 _ (sym r ∙ z)).0

      pub mesh_table : n ≡ 0 → (table : List ℕ) → table ≡ rebuilt p (cells_of s h) → MeshTable p table
      mesh_table z table q =
          record { sized = record { range = (passed p cs fs e).range; size = ap length q ∙ rebuilt_size p (cells_of s h) }; mesh = ap (is_mesh p) q ∙ now_mesh z }

      pub read_refused : n ≢ 0 → refused_with p cs fs n ≡ read_mesh s cs fs
      read_refused z = refused_with_lem n refusal_is (ne_eqb n 0 z)

      pub read_done : n ≡ 0 → (cells functions : List ℕ) → cells ≡ rebuilt p (cells_of s h) → functions ≡ labels p cells
          → ◌≡◌ {A = ReadOutcome} (record { answer = record { number = 0; plan = answered_plan 0 p }; cells = cells; functions = functions }) (read_mesh s cs fs)
      unfolding answered_plan
      read_done z cells functions a b = rw (b, a) (done (refusal_is ∙ z))
