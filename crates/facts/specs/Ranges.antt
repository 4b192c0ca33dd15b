-- Parts of a range of numbers, and of a table: what a loop has passed over, and what it has written. Definitions only.
use Rattle.std.specs.Prelude.{◌≡◌, Bool, List, ℕ, ◌+◌, ◌≤◌, ◌<◌, length, get_or}
use Rattle.facts.specs.Bounded.{every}

-- the test passes at each of the n numbers from a on
unfoldable pub every_from : ℕ → ℕ → (ℕ → Bool) → Bool
every_from a n p = every n (λ k. p (a + k))

-- of a table, the entries from a up to, not including, b are f's, and those before them are as they were
pub record Written (before after : List ℕ) (a b : ℕ) (f : ℕ → ℕ) : Type 0 where
  pub size : length after ≡ length before
  pub kept : (i : ℕ) → i < a → get_or after i 0 ≡ get_or before i 0
  pub made : (i : ℕ) → a ≤ i → i < b → get_or after i 0 ≡ f i
