-- What the steps of carrying have: a row of children, a function's pass, the functions from one number on. Definitions only.
use Rattle.std.specs.Prelude.{cond, false, List, ◌≡◌, ℕ, zero, suc, ◌+◌, ◌-◌, ◌*◌, ◌/◌, ◌%◌, ◌^◌, ◌≤◌, ◌<◌, T, eqb, leb, ℤ, pos, nat_abs, ◌+ℤ◌, ◌*ℤ◌, length}
use Rattle.grid.specs.declared.Plan.{Plan}
use Rattle.grid.specs.Plan.{across_at, up_at, cell_total, function_offset, function_total, function_level}
use Rattle.grid.specs.Range.{InRange}
use Rattle.mesh.specs.Mesh.{refined, deactivated, is_mesh}
use Rattle.twoscale.specs.declared.Children.{Children}
use Rattle.twoscale.specs.Passing.{quarters_of}
use Rattle.twoscale.specs.Claims.{TwoScale}
use Rattle.heights.specs.Heights.{heights_refusal}
use Rattle.carry.specs.Carry.{share, heights_of, at, pass_on, carried, only_active}

-- the largest number of 31 bits, which a height of 32 bits with its sign has
abbrev pub most : ℕ
most = 2147483647

-- the most functions of a plan that heights allow: 16 columns and rows, degrees 2, four levels, a corner on every inner line
abbrev pub most_heights : ℕ
most_heights = 31076

-- ---- a row of children

-- children of one direction: few columns or rows, and no child gets more than the whole
pub record Few (a : Children) : Type 0 where
  pub last≤ : a.last ≤ 2097
  pub quarters≤ : (j : ℕ) → quarters_of a j ≤ 4

-- of function g the quarters, where the row's functions begin at `begin`
unfoldable pub row_quarters : ℕ → Children → ℕ → ℕ
row_quarters begin a g = cond (leb begin g) (quarters_of a (g - begin)) 0

-- each child gets its quarters of h
unfoldable pub row_passed : ℕ → Children → ℤ → List ℤ → List ℤ
row_passed begin a h heights = heights_of (length heights) (λ g. at heights g +ℤ h *ℤ pos (row_quarters begin a g))

-- the row lies in the table, and no height leaves 32 bits
pub record RowRoom (begin : ℕ) (a : Children) (h : ℤ) (heights : List ℤ) : Type 0 where
  pub few : Few a
  pub within : begin + a.last < length heights
  pub small : (j : ℕ) → nat_abs (at heights (begin + j)) + nat_abs h * quarters_of a j ≤ most

-- ---- rows of children: their level begins at `offset` and has `width` functions to a row

-- of function g the sixteenths
unfoldable pub block_sixteenths : ℕ → ℕ → Children → Children → ℕ → ℕ
block_sixteenths offset width up across g =
    cond (leb offset g) (quarters_of up ((g - offset) / width) * quarters_of across ((g - offset) % width)) 0

-- each child gets its sixteenths of the height of f, which keeps none
unfoldable pub block_passed : ℕ → ℕ → ℕ → Children → Children → List ℤ → List ℤ
block_passed f offset width up across heights =
    heights_of (length heights) (λ g. cond (eqb g f) (pos 0) (at heights g +ℤ at heights f *ℤ pos (block_sixteenths offset width up across g)))

-- the rows lie in the table, after f, and no height leaves 32 bits
pub record BlockRoom (f offset width : ℕ) (up across : Children) (heights : List ℤ) : Type 0 where
  pub behind : f < offset
  pub up_few : Few up
  pub across_few : Few across
  pub narrow : across.last < width
  pub within : offset + up.last * width + width ≤ length heights
  pub times : nat_abs (at heights f) * 16 ≤ most
  pub small : (g : ℕ) → nat_abs (at heights g) + nat_abs (at heights f) * block_sixteenths offset width up across g ≤ most

-- ---- one function after another

-- those from `from` on, n of them, have passed theirs on
unfoldable pub carried_from : Plan → List ℕ → ℕ → ℕ → List ℤ → List ℤ
carried_from p functions from zero heights = heights
carried_from p functions from (suc n) heights =
    let before = carried_from p functions from n heights in
    cond (deactivated functions (from + n)) (pass_on p (from + n) before) before

-- a plan that heights allow
pub record Allowed (p : Plan) : Type 0 where
  pub range : InRange p
  pub across≤ : p.degree_across ≤ 2
  pub up≤ : p.degree_up ≤ 2
  pub levels≤ : p.levels ≤ 4

-- heights to start from: one for each function, none above 65,536 mm
pub record Started (p : Plan) (heights : List ℤ) : Type 0 where
  pub allowed : Allowed p
  pub sized : length heights ≡ function_total p
  pub low : (g : ℕ) → nat_abs (at heights g) ≤ 65536 * 16 ^ function_level p g

-- heights on their way: the functions below n have passed theirs on
pub record Underway (p : Plan) (functions : List ℕ) (n : ℕ) (heights : List ℤ) : Type 0 where
  pub start : List ℤ
  pub started : Started p start
  pub sized : length functions ≡ function_total p
  pub is : heights ≡ carried p functions n start

-- function f may pass its height on: it has a next level, and no height leaves 32 bits
pub record Passing (p : Plan) (f : ℕ) (heights : List ℤ) : Type 0 where
  pub allowed : Allowed p
  pub function< : f < function_total p
  pub level< : suc (function_level p f) < p.levels
  pub sized : length heights ≡ function_total p
  pub times : nat_abs (at heights f) * 16 ≤ most
  pub small : (g : ℕ) → g < function_total p → nat_abs (at heights g) + nat_abs (at heights f) * share p f g ≤ most

-- no function of the last level is deactivated
abbrev pub NoneLast : Plan → List ℕ → Type 0
NoneLast p functions = (f : ℕ) → function_offset p (p.levels - 1) ≤ f → deactivated functions f ≡ false

-- ---- what keeps the shape

-- formula 2 holds between each level of the plan and the next, in both directions
pub record Scales (p : Plan) : Type 0 where
  pub across : (k : ℕ) → suc k < p.levels → TwoScale (across_at p k) (across_at p (suc k))
  pub up : (k : ℕ) → suc k < p.levels → TwoScale (up_at p k) (up_at p (suc k))

-- what a refinement does to the cells: both tables are meshes, and what was refined still is
pub record Grows (p : Plan) (cs cs' : List ℕ) : Type 0 where
  pub before : T (is_mesh p cs)
  pub after : T (is_mesh p cs')
  pub stays : (c : ℕ) → c < cell_total p → T (refined cs c) → T (refined cs' c)

-- ---- the heights of a refinement

-- those of the active functions, as the deactivated ones of the new functions pass them on
unfoldable pub carried_on : Plan → List ℕ → List ℕ → List ℤ → List ℤ
carried_on p old new heights = carried p new (function_total p) (only_active old heights)

-- heights that are not refused, new functions that may pass them on, and room for as many heights
pub record Carriable (p : Plan) (old new : List ℕ) (heights room : List ℤ) : Type 0 where
  pub range : InRange p
  pub allowed : heights_refusal p old heights ≡ 0
  pub old_are : length old ≡ function_total p
  pub new_are : length new ≡ function_total p
  pub room_is : length room ≡ function_total p
  pub none_last : NoneLast p new
