-- Refusals 7, 8 and 9 of one mark (document 01, "The refusal table"), and tables made number by number. Definitions only.
use Rattle.std.specs.Prelude.{not, ◌&&◌, cond, List, ℕ, ◌<◌, T, eqb, leb, ltb, length, get_or}
use Rattle.facts.specs.Numbers.{elem, tabulate}

-- 7: the mark is T (or F) or more; 8: it is not of the kind its call names, which has byte 1 in kinds; 9: it is of level L-1, whose
-- numbers start at deep
unfoldable pub verdict : List ℕ → ℕ → ℕ → ℕ
verdict kinds deep x =
    cond (not (ltb x (length kinds))) 7
    (cond (not (eqb (get_or kinds x 0) 1)) 8
    (cond (leb deep x) 9 0))

-- every mark is a number below n
pub record MarksBelow (n : ℕ) (marks : List ℕ) : Type 0 where
  pub inside : (x : ℕ) → T (elem x marks) → x < n

-- 1 at the marks, and the bytes of a table elsewhere
abbrev pub with_marks : ℕ → List ℕ → List ℕ → List ℕ
with_marks n marks table = tabulate n (λ x. cond (elem x marks) 1 (get_or table x 0))

-- what weighs a number that is not marked: 0 where its byte is 2 (refined, deactivated), 2 any other
abbrev pub unmarked : ℕ → ℕ
unmarked byte = cond (eqb byte 2) 0 2

abbrev pub unmarked_at : List ℕ → ℕ → ℕ
unmarked_at table x = unmarked (get_or table x 0)

-- what each number of a table weighs: 1 where it is marked
abbrev pub weighed : ℕ → List ℕ → List ℕ → List ℕ
weighed n table marks = tabulate n (λ x. cond (elem x marks) 1 (cond (eqb (get_or table x 0) 2) 0 2))

-- 1 where both are 1
abbrev pub common : ℕ → ℕ → ℕ
common a b = cond (eqb a 1 && eqb b 1) 1 0

abbrev pub common_at : List ℕ → List ℕ → ℕ → ℕ
common_at flags table x = common (get_or flags x 0) (get_or table x 0)
