-- Document 02, Req 01: "Each number is written in groups of seven bits, lowest group first, the high bit set on all but the last, in the
-- shortest form and at most three groups". A number, a list of numbers, and a rising list as its first number and differences, as bytes
-- and back. Definitions only.
use Rattle.std.specs.Prelude.{cond, List, [], ◌∷◌, ◌++◌, ℕ, zero, suc, ◌+◌, ◌-◌, ◌*◌, ◌/◌, ◌%◌, ltb, eqb}

-- ---- one number

-- "the high bit set on all but the last": a number in at most k groups
unfoldable pub encode_groups : ℕ → ℕ → List ℕ
encode_groups zero n = []
encode_groups (suc k) n = cond (ltb n 128) (n ∷ []) ((128 + n % 128) ∷ encode_groups k (n / 128))

unfoldable pub encode_number : ℕ → List ℕ
encode_number n = encode_groups 3 n

-- a number that was read and the bytes behind it; or bytes that are no number: cut off, too long or not shortest
pub data Decoded : Type 0 where
  bad : Decoded
  got : ℕ → List ℕ → Decoded

-- a group of seven bits below a number: where that is 0, the form was not the shortest
unfoldable pub above : ℕ → Decoded → Decoded
above low bad = bad
above low (got n s) = cond (eqb n 0) bad (got (low + 128 * n) s)

-- a number in at most k groups; what is no byte is bad
unfoldable pub decode_groups : ℕ → List ℕ → Decoded
decode_groups zero s = bad
decode_groups (suc k) [] = bad
decode_groups (suc k) (b ∷ s) = cond (ltb b 128) (got b s) (cond (ltb b 256) (above (b - 128) (decode_groups k s)) bad)

unfoldable pub decode_number : List ℕ → Decoded
decode_number s = decode_groups 3 s

-- ---- a list of numbers

-- numbers that were read and the bytes behind them
pub data Many : Type 0 where
  bad_many : Many
  got_many : List ℕ → List ℕ → Many

unfoldable pub encode_numbers : List ℕ → List ℕ
encode_numbers [] = []
encode_numbers (n ∷ ns) = encode_number n ++ encode_numbers ns

-- one more in front
unfoldable pub front : ℕ → Many → Many
front n bad_many = bad_many
front n (got_many ns s) = got_many (n ∷ ns) s

-- go on with the number and what is behind it
unfoldable pub onward : Decoded → (ℕ → List ℕ → Many) → Many
onward bad f = bad_many
onward (got n s) f = f n s

-- k numbers
unfoldable pub decode_numbers : ℕ → List ℕ → Many
decode_numbers zero s = got_many [] s
decode_numbers (suc k) s = onward (decode_number s) (λ n r. front n (decode_numbers k r))

-- ---- a rising list as its first and the differences

-- "each difference from the one before": those behind p
unfoldable pub encode_behind : ℕ → List ℕ → List ℕ
encode_behind p [] = []
encode_behind p (c ∷ cs) = encode_number (c - p) ++ encode_behind c cs

unfoldable pub encode_rising : List ℕ → List ℕ
encode_rising [] = []
encode_rising (c ∷ cs) = encode_number c ++ encode_behind c cs

-- k differences behind p; "a zero difference" is bad
unfoldable pub decode_behind : ℕ → ℕ → List ℕ → Many
decode_behind zero p s = got_many [] s
decode_behind (suc k) p s = onward (decode_number s) (λ d r. cond (eqb d 0) bad_many (front (p + d) (decode_behind k (p + d) r)))

-- k numbers in rising order
unfoldable pub decode_rising : ℕ → List ℕ → Many
decode_rising zero s = got_many [] s
decode_rising (suc k) s = onward (decode_number s) (λ c r. front c (decode_behind k c r))
