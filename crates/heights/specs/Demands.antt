-- What is claimed of the height at a point. Definitions only.
use Rattle.std.specs.Prelude.{◌≡◌, Bool, true, false, not, ◌&&◌, cond, List, ℕ, suc, ◌+◌, ◌*◌, ◌^◌, ◌≤◌, ◌<◌, T, eqb, ltb, ℤ, pos, nat_abs, ◌-ℤ◌, length, get_or}
use Rattle.std.specs.Float.{binary64}
use Rattle.std.specs.Float.Ieee.{sub}
use Rattle.std.specs.Float.Ieee.Exact.{HasValue}
use Rattle.facts.specs.Bounded.{sum}
use Rattle.exact.specs.Dyadic.{negative, dyadic}
use Rattle.grid.specs.declared.Plan.{Plan}
use Rattle.grid.specs.declared.Place.{Place}
use Rattle.grid.specs.Plan.{between, in_range, too_large, across_at, up_at, function_columns_at, function_rows_at, function_offset, cell_total, function_total, cell_place, function_place, cell_level, function_level, supported}
use Rattle.mesh.specs.Mesh.{active, fresh_cells, fresh_functions}
use Rattle.splines.specs.Values.{is_inside}
use Rattle.heights.specs.Height.{Height}
use Rattle.heights.specs.Height.{At, Refused}
use Rattle.heights.specs.Heights.{eighths, on_mesh, value_at, one_at, height_sum, places, inexact, refusal, answer, number_of, height_of}

-- ---- the answer

module _ (p : Plan) (cells functions : List ℕ) (heights : List ℤ) (x y : ℕ) where
  abbrev pub said : Height
  said = answer p cells functions heights x y

  abbrev pub total : ℤ
  total = height_sum p functions heights x y

  pub record Answered : Type 0 where
    -- its number is the refusal's, 0 where there is a height
    pub number : number_of said ≡ refusal p cells functions heights x y
    -- "no bit of the sum is rounded away": the float's value is the sum over 2 ^ places, and that has at most 53 bits
    pub value : number_of said ≡ 0 → HasValue (height_of said) (negative total) (nat_abs total) (2 ^ places p.levels)
    pub bits : number_of said ≡ 0 → nat_abs total < 2 ^ 53
    -- no refusal has the number 0, so number and height tell which case of the enum is answered
    pub told : said ≡ cond (eqb (number_of said) 0) (At (height_of said)) (Refused (number_of said))

-- "Inactive functions' heights are ignored", by every answer and refusal
abbrev pub Ignored : Type 0
Ignored =
    (p : Plan) (cells functions : List ℕ) (heights others : List ℤ) (x y : ℕ) → length others ≡ length heights
    → ((f : ℕ) → T (active functions f) → get_or others f (pos 0) ≡ get_or heights f (pos 0))
    → answer p cells functions others x y ≡ answer p cells functions heights x y

-- two answers of one plan may be subtracted as floats, whatever else differs: nothing is rounded away
abbrev pub Subtracted : Type 0
Subtracted =
    (p : Plan) (cells functions : List ℕ) (heights : List ℤ) (x y : ℕ) (cells' functions' : List ℕ) (heights' : List ℤ) (x' y' : ℕ)
    → let one = answer p cells functions heights x y in
    let other = answer p cells' functions' heights' x' y' in
    number_of one ≡ 0 → number_of other ≡ 0
    → sub binary64 (height_of other) (height_of one)
    ≡ dyadic (places p.levels) (height_sum p functions' heights' x' y' -ℤ height_sum p functions heights x y)

-- ---- the functions' values

-- the point lies in cell c or on its edge
unfoldable pub touches : Plan → ℕ → ℕ → ℕ → Bool
touches p x y c =
    let at = cell_place p c in
    let h = eighths p at.level in
    between (at.column * h) (suc at.column * h) x && between (at.row * h) (suc at.row * h) y

-- a cell of level k that the point touches
pub record Touched (p : Plan) (x y k : ℕ) : Type 0 where
  pub cell : ℕ
  pub cell< : cell < cell_total p
  pub level : cell_level p cell ≡ k
  pub touched : T (touches p x y cell)

-- the point lies inside the support of the function at a place, in both directions
unfoldable pub inside_at : Plan → ℕ → ℕ → Place → Bool
inside_at p x y f =
    is_inside (across_at p f.level) (eighths p f.level) f.column x && is_inside (up_at p f.level) (eighths p f.level) f.row y

pub record Valued (p : Plan) (x y : ℕ) : Type 0 where
  -- on every level the same number of a product's parts makes a millimetre
  pub millimetre : (k : ℕ) → k < p.levels → 16 ^ k * one_at p k ≡ 2 ^ places p.levels
  -- no value is above 1, and the values of a level make 1
  pub most : (f : ℕ) → f < function_total p → value_at p x y (function_place p f) ≤ one_at p (function_level p f)
  pub one : (k : ℕ) → k < p.levels
      → sum (function_rows_at p k * function_columns_at p k) (λ i. value_at p x y (function_place p (function_offset p k + i))) ≡ one_at p k
  -- every point touches a cell of each level
  pub somewhere : (k : ℕ) → k < p.levels → Touched p x y k
  -- a function is 0 where the point touches a cell of its level outside its support: on the support's edges too, but for the mesh's own
  pub outside : (f c : ℕ) → f < function_total p → c < cell_total p → cell_level p c ≡ function_level p f → T (touches p x y c) → T (not (supported p f c))
      → value_at p x y (function_place p f) ≡ 0
  -- it is not 0 inside its support, and only there
  pub inside : (f : ℕ) → f < function_total p → ltb 0 (value_at p x y (function_place p f)) ≡ inside_at p x y (function_place p f)

-- ---- a flat surface: all functions of a mesh just opened have the height h

abbrev pub Flat : Plan → Type 0
Flat p =
    (heights : List ℤ) (h : ℤ) (x y : ℕ) → length heights ≡ function_total p → nat_abs h ≤ 65536
    → ((f : ℕ) → f < function_offset p 1 → get_or heights f (pos 0) ≡ h)
    → T (on_mesh p x y)
    → let a = answer p (fresh_cells p) (fresh_functions p) heights x y in (number_of a ≡ 0) × (height_of a ≡ dyadic 0 h)

pub record Demands : Type 0 where
  pub answered : (p : Plan) (cells functions : List ℕ) (heights : List ℤ) (x y : ℕ) → Answered p cells functions heights x y
  pub ignored : Ignored
  pub subtracted : Subtracted
  -- of every plan that is not refused, with degrees and levels that heights allow
  pub valued : (p : Plan) → in_range p ≡ true → inexact p ≡ false → (x y : ℕ) → T (on_mesh p x y) → Valued p x y
  pub flat : (p : Plan) → in_range p ≡ true → too_large p ≡ false → inexact p ≡ false → Flat p
