-- A table whose entries are made from what stood there: some are replaced. Definitions only.
use Rattle.std.specs.Prelude.{Bool, ◌&&◌, cond, List, ℕ, ◌+◌, leb, ltb, length, get_or}
use Rattle.facts.specs.Numbers.{tabulate}

-- i is one of the n numbers from a on
unfoldable pub in_run : ℕ → ℕ → ℕ → Bool
in_run a n i = leb a i && ltb i (a + n)

-- g of each entry's number and of what stands there
unfoldable pub mapped : (ℕ → ℕ → ℕ) → List ℕ → List ℕ
mapped g xs = tabulate (length xs) (λ i. g i (get_or xs i 0))

-- the n entries from a on are f's, the others stay
unfoldable pub filled : ℕ → ℕ → (ℕ → ℕ) → List ℕ → List ℕ
filled a n f xs = mapped (λ i x. cond (in_run a n i) (f i) x) xs
