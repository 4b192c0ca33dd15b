-- Two tables that agree on a range of numbers. Definitions only.
use Rattle.std.specs.Prelude.{Bool, List, ℕ, ◌-◌, eqb, get_or}
use Rattle.facts.specs.Ranges.{every_from}

-- they have the same byte at each number from `from` up to, not including, `to`
unfoldable pub agree : ℕ → ℕ → List ℕ → List ℕ → Bool
agree from to a b = every_from from (to - from) (λ i. eqb (get_or a i 0) (get_or b i 0))
