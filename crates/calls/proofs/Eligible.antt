-- Marks that are judged by a table of the numbers that a mark may be. Assumes nothing.
use mathlib.Core.Path.{◌≡◌, refl, sym, ap, ◌∙◌}
use mathlib.Core.Bool.{Bool, true, false, ◌&&◌, cond}
use mathlib.Core.List.{List}
use Prim.Native.Nat.{ℕ, ◌-◌, ◌≤◌, ◌<◌}
use native.Mathlib.Omega.{arith}
use lib.Dec.{eqb, ltb, leb, ltb→lt, leb→le}
use lib.ListN.{length, get_or}
use Rattle.facts.specs.Bounded.{some}
use Rattle.facts.specs.Numbers.{first, tabulate, stored}
use Rattle.facts.proofs.Tests.{T_false, cases, not_e}
use Rattle.facts.proofs.Bounded.{some_same}
use Rattle.facts.proofs.Numbers.{first_zero, length_tabulate, get_d_tabulate, stored_is}
use Rattle.facts.proofs.Turns.{first_same}
use Rattle.grid.specs.declared.Plan.{Plan}
use Rattle.grid.specs.Plan.{cell_total, function_total, cell_offset, function_offset, supported}
use Rattle.grid.specs.Range.{InRange}
use Rattle.mesh.specs.Mesh.{active, deactivated, reactivable}
use Rattle.outcomes.specs.Calls.{Direction, refine, coarsen, By, cells, functions, total, eligible, is_too_deep, mark_refusal}
use Rattle.outcomes.proofs.Marks.{fits_e}
use Rattle.marks.specs.Marks.{verdict, MarksBelow}
use Rattle.nesting.specs.Reactivable.{reactivable_byte}
use Rattle.cover.specs.Cover.{coarsenable_byte, NonZero}
use Rattle.calls.specs.Parts.{Eligible}
use Rattle.grid.proofs.LastLevel.{cell_last, function_last}

-- ---- refusals 7, 8, 9 by a table of kinds and the first number that is too deep

module _ {d : Direction} {by : By} {p : Plan} {cs fs kinds : List ℕ} {deep : ℕ} (K : Eligible d by p cs fs deep kinds) where
  verdict_is : (x : ℕ) → verdict kinds deep x ≡ mark_refusal d by p cs fs x
  unfolding verdict mark_refusal
  verdict_is x = cases (ltb x (total by p))
      (λ t. rw (K.sized, K.kind x (ltb→lt _ _ t), K.depth x (ltb→lt _ _ t)) refl)
      (λ t. rw (K.sized, T_false (ltb x (total by p)) (not_e (ltb x (total by p)) t)) refl)

  pub judged_is : (marks : List ℕ) → first (verdict kinds deep) marks ≡ first (mark_refusal d by p cs fs) marks
  judged_is marks = first_same (verdict kinds deep) (mark_refusal d by p cs fs) marks verdict_is

  -- marks that pass are numbers of the table
  pub marks_below : (marks : List ℕ) → first (mark_refusal d by p cs fs) marks ≡ 0 → MarksBelow (length kinds) marks
  marks_below marks z = rw K.sized (record { inside = λ x m. (fits_e d by p cs fs x (first_zero (mark_refusal d by p cs fs) marks z x m)).inside })

-- ---- refining: the table itself has byte 1 where a cell (a function) is active, and the last level begins at its offset

module _ (p : Plan) (range : InRange p) (cs fs : List ℕ) where
  pub refine_eligible_cells : length cs ≡ cell_total p → Eligible refine cells p cs fs (cell_offset p (p.levels - 1)) cs
  unfolding eligible is_too_deep active
  refine_eligible_cells l = record { sized = l; kind = λ x i. refl; depth = λ x i. sym (cell_last p range x i) }

  pub refine_eligible_functions : length fs ≡ function_total p → Eligible refine functions p cs fs (function_offset p (p.levels - 1)) fs
  unfolding eligible is_too_deep active
  refine_eligible_functions l = record { sized = l; kind = λ x i. refl; depth = λ x i. sym (function_last p range x i) }

-- ---- coarsening: a table of the numbers of the right kind, and none is too deep

none_deep : (by : By) (p : Plan) (x : ℕ) → x < total by p → leb (total by p) x ≡ is_too_deep coarsen by p x
unfolding is_too_deep
none_deep by p x i = T_false (leb (total by p) x) (λ t. absurd (omega (arith, leb→le (total by p) x t)))

one_or_two : (b : Bool) → eqb (cond b 1 2) 1 ≡ b
one_or_two true = refl
one_or_two false = refl

not_zero : (b : Bool) → 1 ≤ cond b 1 2
not_zero true = omega arith
not_zero false = omega arith

module _ (p : Plan) (cs : List ℕ) where
  -- the bytes of the reactivable cells
  abbrev bytes : List ℕ
  bytes = tabulate (cell_total p) (reactivable_byte p cs)

  byte_is_lem : (c : ℕ) → c < cell_total p → get_or bytes c 0 ≡ cond (reactivable p cs c) 1 2
  unfolding reactivable_byte
  byte_is_lem c i = get_d_tabulate (cell_total p) (reactivable_byte p cs) c 0 i

  pub coarsen_eligible_cells : (fs : List ℕ) → Eligible coarsen cells p cs fs (cell_total p) bytes
  unfolding eligible
  coarsen_eligible_cells fs = record {
    sized = length_tabulate (cell_total p) (reactivable_byte p cs);
    kind = λ x i. ap (λ n. eqb n 1) (byte_is_lem x i) ∙ one_or_two (reactivable p cs x);
    depth = none_deep cells p;
  }

  pub reactivable_bytes : {table : List ℕ} → table ≡ bytes → NonZero p table
  reactivable_bytes e = rw e (record { size = length_tabulate (cell_total p) (reactivable_byte p cs); some = λ c i. rw (byte_is_lem c i) (not_zero (reactivable p cs c)) })

  pub coarsen_eligible_functions : (fs : List ℕ) {table : List ℕ} → table ≡ bytes → Eligible coarsen functions p cs fs (function_total p) (tabulate (function_total p) (coarsenable_byte p fs table))
  unfolding eligible coarsenable_byte stored
  coarsen_eligible_functions fs {table} e = record {
    sized = length_tabulate (function_total p) (coarsenable_byte p fs table);
    kind = λ x i.
        stored_is (function_total p) (λ f. deactivated fs f && some (cell_total p) (λ c. supported p f c && eqb (get_or table c 0) 1)) x i
        ∙ ap (λ b. deactivated fs x && b) (some_same (cell_total p) _ _ (λ c b. ap (λ u. supported p x c && u) (ap (λ t. eqb (get_or t c 0) 1) e ∙ ap (λ n. eqb n 1) (byte_is_lem c b) ∙ one_or_two (reactivable p cs c))));
    depth = none_deep functions p;
  }

-- ---- with equal parts

pub kinds_are : {d e : Direction} {by : By} {p : Plan} {cs fs kinds table : List ℕ} {n m : ℕ} → e ≡ d → m ≡ n → table ≡ kinds
    → Eligible d by p cs fs n kinds → Eligible e by p cs fs m table
kinds_are a b c K = rw (a, b, c) K
