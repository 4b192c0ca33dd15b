-- Worked examples of the definitions, computed. The first lines and answers are those of document 01. Assumes nothing.
use Prim.Native.Nat.{ℕ, zero, suc}
use Prim.Native.String.{String}
use mathlib.Core.Bool.{Bool, true, false, ◌&&◌}
use mathlib.Core.List.{List, [], ◌∷◌, ◌++◌}
use lib.Dec.{T, eqb}
use Rattle.lines.specs.Text.{bytes}
use Rattle.lines.specs.declared.Kind.{Kind}
use Rattle.lines.specs.declared.Kind.TheVariants.{Unreadable, Wall, Split, Join, SplitFunctions, JoinFunctions}
use Rattle.lines.specs.Reading.{parts, lines_of, is_digit, all_digits, value_after, is_number, all_numbers, same, kind_of, meaning_of, meaning}
use Rattle.lines.specs.Writing.{last_digits, digits, spaced, items, answer}

data Row : Type 0 where
  reads : List ℕ → Kind → List ℕ → Row
  unreadable : List ℕ → Row
  writes : ℕ → List ℕ → List ℕ → String → Row
  cuts : String → List String → Row

abbrev code : Kind → ℕ
code Unreadable = 0
code Wall = 1
code Split = 2
code Join = 3
code SplitFunctions = 4
code JoinFunctions = 5

abbrev texts : List (List ℕ) → List String → Bool
texts [] [] = true
texts [] (t ∷ ts) = false
texts (l ∷ ls) [] = false
texts (l ∷ ls) (t ∷ ts) = same l (bytes t) && texts ls ts

abbrev holds : Row → Bool
holds (reads line kind numbers) = eqb (code (meaning line).kind) (code kind) && same (meaning line).numbers numbers
holds (unreadable line) = eqb (code (meaning line).kind) 0 && same (meaning line).numbers []
holds (writes n cells functions text) = same (answer n cells functions) (bytes text)
holds (cuts input lines) = texts (lines_of (bytes input)) lines

abbrev every : List Row → Bool
every [] = true
every (r ∷ rs) = holds r && every rs

-- a word with n marks, each 7
abbrev sevens : ℕ → List ℕ
sevens zero = []
sevens (suc n) = 7 ∷ sevens n

abbrev marks : ℕ → List ℕ
marks zero = []
marks (suc n) = bytes " 7" ++ marks n

table : List Row
table =
    reads (bytes "wall 3 1 3 1 1 2") Wall (3 ∷ 1 ∷ 3 ∷ 1 ∷ 1 ∷ 2 ∷ []) ∷
    reads (bytes "wall 3 1 3 2 2 0 2 0") Wall (3 ∷ 1 ∷ 3 ∷ 2 ∷ 2 ∷ 0 ∷ 2 ∷ 0 ∷ []) ∷
    reads (bytes "split 0") Split (0 ∷ []) ∷
    reads (bytes "split 3") Split (3 ∷ []) ∷
    reads (bytes "join 1") Join (1 ∷ []) ∷
    reads (bytes "split") Split [] ∷
    reads (bytes "fsplit 1 5") SplitFunctions (1 ∷ 5 ∷ []) ∷
    reads (bytes "fjoin 0 1 4 5") JoinFunctions (0 ∷ 1 ∷ 4 ∷ 5 ∷ []) ∷
    reads (bytes "join 007 00000000000000000012") Join (7 ∷ 12 ∷ []) ∷
    reads (bytes "split 4294967295 0") Split (4294967295 ∷ 0 ∷ []) ∷
    reads (bytes "fsplit" ++ marks 64) SplitFunctions (sevens 64) ∷
    unreadable (bytes "") ∷
    unreadable (bytes "shift 0") ∷
    unreadable (bytes "Wall 3 1 3 1 1 2") ∷
    unreadable (bytes "splits 0") ∷
    unreadable (bytes "split  0") ∷
    unreadable (bytes "split 0 ") ∷
    unreadable (bytes " split 0") ∷
    unreadable (bytes "split 4294967296") ∷
    unreadable (bytes "split 99999999999999999999") ∷
    unreadable (bytes "wall 3 1 3 1 1") ∷
    unreadable (bytes "wall 3 1 3 1 1 2 0") ∷
    unreadable (bytes "wall 3 1 3 1 1 2 0 0 0") ∷
    unreadable (bytes "wall") ∷
    unreadable (bytes "fsplit" ++ marks 65) ∷
    unreadable (bytes "split -1") ∷
    unreadable (bytes "split 1x") ∷
    unreadable (bytes "split 0\r") ∷
    unreadable (bytes "split\t0") ∷
    writes 0 [] [] "0;;\n" ∷
    writes 0 (0 ∷ []) (0 ∷ 4 ∷ []) "0;0;0 4\n" ∷
    writes 0 (1 ∷ 3 ∷ []) (1 ∷ 5 ∷ 8 ∷ []) "0;1 3;1 5 8\n" ∷
    writes 11 (10 ∷ 4294967295 ∷ []) (100 ∷ []) "11;10 4294967295;100\n" ∷
    cuts "" [] ∷
    cuts "split 0\njoin" ("split 0" ∷ "join" ∷ []) ∷
    cuts "split 0\njoin\n" ("split 0" ∷ "join" ∷ []) ∷
    cuts "\n\nsplit" ("" ∷ "" ∷ "split" ∷ []) ∷
    []

examples : T (every table)
unfolding table parts is_digit all_digits value_after is_number all_numbers same kind_of meaning_of last_digits digits spaced items answer
examples = tt
