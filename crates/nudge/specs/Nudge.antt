-- Document 02, Req 07: one height is changed. Definitions only.
use Rattle.std.specs.Prelude.{List, ℕ, ℤ, pos, ◌+ℤ◌, set, get_or}

-- "one .. height rises or falls by d mm": that of function f, by d of its level's units, of which 16 ^ k make a millimetre on level k; it
-- falls where d is negative
unfoldable pub nudged : ℕ → ℤ → List ℤ → List ℤ
nudged f d heights = set heights f (get_or heights f (pos 0) +ℤ d)
