-- Flags at the cells that the marks mean. Assumes nothing.
use mathlib.Core.Path.{◌≡◌, refl, sym, ap, ◌∙◌, subst}
use mathlib.Core.Bool.{Bool, true, false, not, ◌&&◌, cond, and_comm}
use mathlib.Core.List.{List}
use Prim.Native.Nat.{ℕ, ◌<◌}
use native.Mathlib.Omega.{arith}
use lib.Dec.{T, eqb, eqb→eq}
use lib.ListN.{length, get_or}
use Rattle.facts.specs.Numbers.{elem, tabulate, stored}
use Rattle.facts.proofs.Tests.{T_true, T_false, cases, not_e, and_l, and_r}
use Rattle.facts.proofs.Bounded.{some_e}
use Rattle.facts.proofs.Numbers.{length_tabulate, get_d_tabulate, stored_is}
use Rattle.grid.specs.declared.Plan.{Plan}
use Rattle.grid.specs.Plan.{cell_total, function_total, supported}
use Rattle.mesh.specs.Mesh.{active, refined, deactivated, label_of, check}
use Rattle.mesh.proofs.Bridge.{check_good, get_d_labels, deactivated_e}
use Rattle.outcomes.specs.Calls.{Direction, refine, coarsen, By, cells, functions, eligible, under_marked, under_kept, selected}
use Rattle.closure.specs.Walk.{flagged}
use Rattle.marks.specs.Marks.{weighed, common_at}
use Rattle.windows.specs.Level.{least_value}
use Rattle.cover.proofs.Meaning.{under_marked_alone}
use Rattle.calls.specs.Parts.{Eligible, Kept, Flags}

-- ---- by cells, the marks themselves

one : (b : Bool) (n : ℕ) → eqb (cond b 1 (cond (eqb n 2) 0 2)) 1 ≡ b
one true n = refl
one false n = cases (eqb n 2) (λ t. rw (T_true (eqb n 2) t) refl) (λ t. rw (T_false (eqb n 2) (not_e (eqb n 2) t)) refl)

pub cells_flags : (d : Direction) (p : Plan) (cs fs marks flags : List ℕ) → flags ≡ weighed (cell_total p) cs marks
    → (c : ℕ) → c < cell_total p → flagged flags c ≡ selected d cells p cs fs marks c
unfolding selected flagged
cells_flags d p cs fs marks flags e c i =
    ap (λ t. eqb (get_or t c 0) 1) e ∙ ap (λ n. eqb n 1) (get_d_tabulate (cell_total p) (λ x. cond (elem x marks) 1 (cond (eqb (get_or cs x 0) 2) 0 2)) c 0 i)
    ∙ one (elem c marks) (get_or cs c 0)

-- ---- by functions, the cells of the right kind under a marked one and under no other deactivated one

-- two tables have byte 1
pub kept : {d : Direction} {p : Plan} {cs table kinds flags : List ℕ} {n : ℕ} → length table ≡ cell_total p → ((fs : List ℕ) → Eligible d cells p cs fs n kinds)
    → flags ≡ tabulate (length table) (common_at table kinds) → Kept d p cs table flags
unfolding flagged stored
kept {p = p} {table = table} {kinds = kinds} s K e = record {
  sized = ap length e ∙ length_tabulate (length table) (common_at table kinds) ∙ s;
  says = λ fs c i.
      ap (λ t. eqb (get_or t c 0) 1) e
      ∙ stored_is (length table) (λ x. eqb (get_or table x 0) 1 && eqb (get_or kinds x 0) 1) c (omega arith)
      ∙ ap (λ b. eqb (get_or table c 0) 1 && b) ((K fs).kind c i);
}

-- no active cell is under a deactivated function
module _ (p : Plan) (cs fs marks : List ℕ) (k : check p cs fs ≡ 0) (c : ℕ) (i : c < cell_total p) where
  not_kept : T (active cs c) → under_kept p fs marks c ≡ false
  unfolding under_kept active refined
  not_kept a = T_false (under_kept p fs marks c) (λ t.
      let w = some_e (function_total p) (λ f. not (elem f marks) && (deactivated fs f && supported p f c)) t in
      let f = w.0 in
      let g = and_r (not (elem f marks)) _ w.2 in
      let e : get_or fs f 0 ≡ label_of p cs f = ap (λ t. get_or t f 0) (check_good p cs fs k).1 ∙ get_d_labels p cs f w.1 in
      let r = deactivated_e p cs f (subst (λ n. T (eqb n 2)) e (and_l (eqb (get_or fs f 0) 2) _ g)) c i (and_r (eqb (get_or fs f 0) 2) _ g) in
      let z : ◌≡◌ {A = ℕ} 1 2 = sym (eqb→eq (get_or cs c 0) 1 a) ∙ eqb→eq (get_or cs c 0) 2 r in absurd (omega arith))

  and_tt : (b : Bool) → b && not false ≡ b
  and_tt true = refl
  and_tt false = refl

  means : (d : Direction) → eligible d cells p cs fs c && (under_marked p marks c && not (under_kept p fs marks c)) ≡ selected d functions p cs fs marks c
  unfolding eligible selected
  means refine = cases (active cs c)
      (λ t. rw (not_kept t) (ap (λ b. active cs c && b) (and_tt (under_marked p marks c))))
      (λ t. rw (T_false (active cs c) (not_e (active cs c) t)) refl)
  means coarsen = refl

pub functions_flags : (d : Direction) (p : Plan) (cs fs marks values over flags : List ℕ) → check p cs fs ≡ 0
    → values ≡ weighed (function_total p) fs marks → over ≡ tabulate (cell_total p) (least_value p values) → Kept d p cs over flags
    → (c : ℕ) → c < cell_total p → flagged flags c ≡ selected d functions p cs fs marks c
functions_flags d p cs fs marks values over flags k ev eo K c i =
    K.says fs c i
    ∙ and_comm (eqb (get_or over c 0) 1) (eligible d cells p cs fs c)
    ∙ ap (λ b. eligible d cells p cs fs c && b)
    (ap (λ t. eqb (get_or t c 0) 1) eo ∙ ap (λ n. eqb n 1) (get_d_tabulate (cell_total p) (least_value p values) c 0 i)
    ∙ ap (λ v. eqb (least_value p v c) 1) ev ∙ under_marked_alone p fs marks c)
    ∙ means p cs fs marks k c i d

-- with equal parts
pub flags_are : {d : Direction} {by way : By} {p : Plan} {cs fs marks flags : List ℕ} {n : ℕ} → way ≡ by
    → Flags d by p cs fs marks n flags → Flags d way p cs fs marks n flags
flags_are a F = rw a F
