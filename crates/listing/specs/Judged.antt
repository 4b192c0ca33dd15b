-- Listed cells judged without memory: the last one and the bytes behind it. Definitions only.
use Rattle.std.specs.Prelude.{◌≡◌, cond, List, [], ◌∷◌, ℕ, zero, suc, ◌+◌, ◌≤◌, ◌<◌, eqb, length, drop, Option, None, Some}
use Rattle.codec.specs.Numbers.{Decoded, bad, got, Many, bad_many, got_many, decode_number, decode_rising}
use Rattle.listing.specs.declared.End.{End}

pub data Ends : Type 0 where
  bad_ends : Ends
  ends : ℕ → List ℕ → Ends

-- the last of some cells behind p
unfoldable pub last_of : ℕ → List ℕ → ℕ
last_of p [] = p
last_of p (c ∷ cs) = last_of c cs

unfoldable pub ends_of : ℕ → Many → Ends
ends_of p bad_many = bad_ends
ends_of p (got_many cs s) = ends (last_of p cs) s

unfoldable pub onward_ends : Decoded → (ℕ → List ℕ → Ends) → Ends
onward_ends bad f = bad_ends
onward_ends (got n s) f = f n s

-- k differences behind p
unfoldable pub judge_behind : ℕ → ℕ → List ℕ → Ends
judge_behind zero p s = ends p s
judge_behind (suc k) p s = onward_ends (decode_number s) (λ d r. cond (eqb d 0) bad_ends (judge_behind k (p + d) r))

-- so many cells stand in the bytes s from a place on; `last` is the last of them, 0 where there is none
pub record CellsFound (s : List ℕ) (at count : ℕ) (e : End) : Type 0 where
  pub reads : ends_of 0 (decode_rising count (drop at s)) ≡ ends e.last (drop e.at s)
  pub inside : e.at ≤ length s

abbrev pub ReadsCells : List ℕ → ℕ → ℕ → Option End → Type 0
ReadsCells s at count None = decode_rising count (drop at s) ≡ bad_many
ReadsCells s at count (Some e) = CellsFound s at count e

-- cells that stand in the bytes from a place on, and the last is below a table's length
pub record Markable (s : List ℕ) (at count size : ℕ) : Type 0 where
  pub last : ℕ
  pub rest : List ℕ
  pub reads : ends_of 0 (decode_rising count (drop at s)) ≡ ends last rest
  pub below : last < size
