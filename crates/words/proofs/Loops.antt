-- What the loops over whole words do in a turn. Assumes nothing.
use mathlib.Core.Path.{◌≡◌, ◌∙◌}
use mathlib.Core.List.{List, [], ◌∷◌}
use native.Mathlib.Nat.{lt_of_le_of_lt}
use native.Mathlib.Omega.{arith}
use Prim.Native.Nat.{ℕ, zero, suc, ◌+◌, ◌^◌, ◌≤◌, ◌<◌}
use lib.Bits.{and_le_l}
use lib.Count.{ones, ones-le}
use lib.ListN.{length, get_or}
use Rattle.std.specs.Prelude.{fold, sum_by}
use Rattle.facts.specs.Bounded.{sum}
use Rattle.planes.specs.Bits.{active_ones, ones_at}

-- ---- a chain adds from the first word on

front : (n : ℕ) (f : ℕ → ℕ) → sum (suc n) f ≡ f 0 + sum n (λ k. f (suc k))
unfolding sum
front zero f = omega arith
front (suc n) f = omega (arith, front n f)

added : (f : ℕ → ℕ) (xs : List ℕ) (a : ℕ) → fold (λ a x. a + f x) a xs ≡ a + sum (length xs) (λ i. f (get_or xs i 0))
unfolding sum
added f [] a = omega arith
added f (x ∷ xs) a = added f xs (a + f x) ∙ omega (arith, front (length xs) (λ i. f (get_or (x ∷ xs) i 0)))

pub ones_are : (xs : List ℕ) → sum_by ones xs ≡ sum (length xs) (ones_at xs)
unfolding ones_at
ones_are xs = added ones xs 0 ∙ omega arith

-- ---- a word has 64 ones at most

pub active_few : (P R : List ℕ) (w : ℕ) → get_or P w 0 < 2 ^ 64 → active_ones P R w ≤ 64
unfolding active_ones
active_few P R w l = ones-le 64 _ (lt_of_le_of_lt (and_le_l _ _) l)
