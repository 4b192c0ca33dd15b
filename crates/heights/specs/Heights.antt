-- Document 02, Req 03: the height at a point. Definitions only.
use Rattle.std.specs.Prelude.{Bool, not, ◌&&◌, ◌||◌, cond, List, ℕ, ◌+◌, ◌-◌, ◌*◌, ◌^◌, eqb, leb, ltb, ℤ, pos, nat_abs, ◌*ℤ◌, Float, length, get_or}
use Rattle.facts.specs.Bounded.{implies, every}
use Rattle.exact.specs.Dyadic.{dyadic}
use Rattle.exact.specs.Sums.{sumℤ}
use Rattle.grid.specs.declared.Plan.{Plan}
use Rattle.grid.specs.declared.Place.{Place}
use Rattle.grid.specs.Plan.{ratio, columns_at, rows_at, across_at, up_at, function_total, function_place, function_level}
use Rattle.splines.specs.Values.{value_on}
use Rattle.mesh.specs.Mesh.{active, check}
use Rattle.heights.specs.Height.{Height}
use Rattle.heights.specs.declared.HeightAnswer.{HeightAnswer}
use Rattle.heights.specs.Height.{At, Refused}

-- ---- points: "whole eighths of a last-level cell, from 0 to the far edge inclusive"

-- how many of them make a cell of level k
unfoldable pub eighths : Plan → ℕ → ℕ
eighths p k = 8 * ratio p ^ (p.levels - 1 - k)

unfoldable pub on_mesh : Plan → ℕ → ℕ → Bool
on_mesh p x y = leb x (columns_at p (p.levels - 1) * 8) && leb y (rows_at p (p.levels - 1) * 8)

-- ---- the sum

-- the B-spline value at the point of the function at a place: the product of both directions' values, of which `one_at` make 1
unfoldable pub value_at : Plan → ℕ → ℕ → Place → ℕ
value_at p x y f =
    value_on (across_at p f.level) (eighths p f.level) f.column x * value_on (up_at p f.level) (eighths p f.level) f.row y

unfoldable pub one_at : Plan → ℕ → ℕ
one_at p k = 2 * eighths p k * eighths p k * (2 * eighths p k * eighths p k)

-- "height times B-spline value" of function f, where its value is v; "Inactive functions' heights are ignored"
unfoldable pub product_of : List ℕ → List ℤ → ℕ → ℕ → ℤ
product_of functions heights f v = cond (active functions f) (get_or heights f (pos 0) *ℤ pos v) (pos 0)

abbrev pub product_at : Plan → List ℕ → List ℤ → ℕ → ℕ → ℕ → ℤ
product_at p functions heights x y f = product_of functions heights f (value_at p x y (function_place p f))

-- "the sum over active functions"
unfoldable pub height_sum : Plan → List ℕ → List ℤ → ℕ → ℕ → ℤ
height_sum p functions heights x y = sumℤ (function_total p) (product_at p functions heights x y)

-- "at level k the unit is 16^-k mm": 16 ^ k * one_at p k of a product's parts make a millimetre. Of L levels that is 2 ^ places L on each
-- (`Demands`, millimetre), so the products are summed as they are
abbrev pub places : ℕ → ℕ
places L = 10 + 4 * L

-- ---- the refusals that concern heights

-- "14 if a degree exceeds 2 or L exceeds 4"
unfoldable pub inexact : Plan → Bool
inexact p = ltb 2 p.degree_across || (ltb 2 p.degree_up || ltb 4 p.levels)

-- at most 65,536 mm either way, on level k
unfoldable pub low : ℕ → ℤ → Bool
low k h = leb (nat_abs h) (65536 * 16 ^ k)

-- "an active height exceeds 65,536 mm either way" is its opposite: of function f, on level k
unfoldable pub low_on : ℕ → List ℕ → List ℤ → ℕ → Bool
low_on k functions heights f = implies (active functions f) (low k (get_or heights f (pos 0)))

abbrev pub low_at : Plan → List ℕ → List ℤ → ℕ → Bool
low_at p functions heights f = low_on (function_level p f) functions heights f

unfoldable pub all_low : Plan → List ℕ → List ℤ → Bool
all_low p functions heights = every (function_total p) (low_at p functions heights)

-- "with 3 if the heights number other than F, 14 .., and 15 if .. an active height exceeds 65,536 mm either way"
unfoldable pub heights_refusal : Plan → List ℕ → List ℤ → ℕ
heights_refusal p functions heights =
    cond (not (eqb (length heights) (function_total p))) 3
    (cond (inexact p) 14
    (cond (not (all_low p functions heights)) 15 0))

-- ---- the answer

-- "It refuses, after 1 to 6," with those, "and 15 if the point lies beyond the wall"
unfoldable pub refusal : Plan → List ℕ → List ℕ → List ℤ → ℕ → ℕ → ℕ
refusal p cells functions heights x y =
    cond (not (eqb (check p cells functions) 0)) (check p cells functions)
    (cond (not (eqb (heights_refusal p functions heights) 0)) (heights_refusal p functions heights)
    (cond (on_mesh p x y) 0 15))

-- "either the height in millimetres or a refusal number"; the height is the sum itself, not a float near it
unfoldable pub answer : Plan → List ℕ → List ℕ → List ℤ → ℕ → ℕ → Height
answer p cells functions heights x y =
    cond (eqb (refusal p cells functions heights x y) 0)
    (At (dyadic (places p.levels) (height_sum p functions heights x y)))
    (Refused (refusal p cells functions heights x y))

-- an answer's number, 0 for a height, and its height, 0 with a refusal
abbrev pub number_of : Height → ℕ
number_of (At h) = 0
number_of (Refused n) = n

abbrev pub height_of : Height → Float
height_of (At h) = h
height_of (Refused n) = dyadic 0 (pos 0)

-- both, as C gets them
abbrev pub flattened : Height → HeightAnswer
flattened a = record { number = number_of a; height = height_of a }
