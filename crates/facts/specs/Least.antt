-- The smallest of a function's values at the numbers below a bound. Definitions only.
use Rattle.std.specs.Prelude.{ℕ, zero, suc, min}

-- the smallest of top and f at the numbers below n
unfoldable pub least : ℕ → ℕ → (ℕ → ℕ) → ℕ
least top zero f = top
least top (suc n) f = min (least top n f) (f n)
