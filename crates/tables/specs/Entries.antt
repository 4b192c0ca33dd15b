-- Entries of a table that are counted or written without a plan. Definitions only.
use Rattle.std.specs.Prelude.{Bool, cond, List, ℕ, ltb, eqb, get_or}

unfoldable pub byte_is : List ℕ → ℕ → ℕ → Bool
byte_is table byte i = eqb (get_or table i 0) byte

-- "level 0 cells and functions 1, the rest 0"
unfoldable pub fresh_byte : ℕ → ℕ → ℕ
fresh_byte first i = cond (ltb i first) 1 0
