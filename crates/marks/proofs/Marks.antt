-- The flags after one more mark. Assumes nothing.
use mathlib.Core.Path.{◌≡◌, refl, sym, ap, ◌∙◌}
use mathlib.Core.Bool.{Bool, true, false, ◌||◌, cond}
use mathlib.Core.List.{List}
use Prim.Native.Nat.{ℕ, ◌+◌, ◌<◌}
use lib.Dec.{eqb}
use lib.ListN.{length, get_or, take, set}
use Rattle.facts.specs.Numbers.{elem, tabulate}
use Rattle.facts.proofs.Numbers.{tabulate_is, tabulate_same, get_d_tabulate}
use Rattle.facts.proofs.Turns.{set_tabulate, elem_at, elem_none, elem_more}
use Rattle.marks.specs.Marks.{MarksBelow, with_marks, unmarked_at, weighed}

module _ (marks table : List ℕ) where
  -- no mark is flagged at the start
  pub flagged_none : table ≡ with_marks (length table) (take 0 marks) table
  flagged_none = tabulate_is (length table) (λ x. cond (elem x (take 0 marks)) 1 (get_or table x 0)) table refl (λ x l. sym (ap (λ b. cond b 1 (get_or table x 0)) (elem_none marks x)))

  one_more : (a b : Bool) (n : ℕ) → cond b 1 (cond a 1 n) ≡ cond (a || b) 1 n
  one_more true true n = refl
  one_more true false n = refl
  one_more false true n = refl
  one_more false false n = refl

  pub flagged_more : (n i : ℕ) → i < length marks → set (with_marks n (take i marks) table) (get_or marks i 0) 1 ≡ with_marks n (take (i + 1) marks) table
  flagged_more n i h =
      set_tabulate n (λ x. cond (elem x (take i marks)) 1 (get_or table x 0)) (get_or marks i 0) 1
      ∙ tabulate_same n _ _ (λ x l. one_more (elem x (take i marks)) (eqb x (get_or marks i 0)) (get_or table x 0) ∙ sym (ap (λ b. cond b 1 (get_or table x 0)) (elem_more marks i x h)))

pub mark_inside : {n : ℕ} {marks : List ℕ} → MarksBelow n marks → (i : ℕ) → i < length marks → get_or marks i 0 < n
mark_inside {n} {marks} M i h = M.inside (get_or marks i 0) (elem_at marks i h)

-- the marks flagged in a table of what the others weigh
pub weighed_is : (n : ℕ) (marks table others : List ℕ) → others ≡ tabulate n (unmarked_at table) → with_marks n marks others ≡ weighed n table marks
weighed_is n marks table others e = tabulate_same n _ _ (λ x l. ap (λ b. cond (elem x marks) 1 b) (ap (λ t. get_or t x 0) e ∙ get_d_tabulate n (unmarked_at table) x 0 l))
