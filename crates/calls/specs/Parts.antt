-- What the parts of a call ask and give. The calls themselves cite crate outcomes alone. Definitions only.
use Rattle.std.specs.Prelude.{◌≡◌, ◌&&◌, List, ℕ, ◌<◌, eqb, leb, length, get_or}
use Rattle.facts.specs.Numbers.{first}
use Rattle.grid.specs.declared.Plan.{Plan}
use Rattle.grid.specs.Plan.{cell_total, function_total}
use Rattle.nesting.specs.Table.{MeshTable}
use Rattle.outcomes.specs.Calls.{Direction, refine, coarsen, By, cells, functions, total, eligible, is_too_deep, mark_refusal, selected, base, smallest}
use Rattle.closure.specs.Walk.{flagged}
use Rattle.closure.specs.Ready.{Ready}
use Rattle.calls.specs.declared.Direction as code
use Rattle.calls.specs.declared.Direction.TheVariants.{Refine, Coarsen}
use Rattle.calls.specs.declared.By as code_by
use Rattle.calls.specs.declared.By.TheVariants.{Cells, Functions}

-- what the code's enums stand for
abbrev pub direction_of : code.Direction → Direction
direction_of Refine = refine
direction_of Coarsen = coarsen

abbrev pub by_of : code_by.By → By
by_of Cells = cells
by_of Functions = functions

-- byte 1 at the numbers that a mark may be, and the first that is too deep
pub record Eligible (d : Direction) (by : By) (p : Plan) (cs fs : List ℕ) (deep : ℕ) (kinds : List ℕ) : Type 0 where
  pub sized : length kinds ≡ total by p
  pub kind : (x : ℕ) → x < total by p → eqb (get_or kinds x 0) 1 ≡ eligible d by p cs fs x
  pub depth : (x : ℕ) → x < total by p → leb deep x ≡ is_too_deep d by p x

-- of the cells that a mark may be, those with byte 1 in a table are flagged
pub record Kept (d : Direction) (p : Plan) (cs table flags : List ℕ) : Type 0 where
  pub sized : length flags ≡ cell_total p
  pub says : (fs : List ℕ) (c : ℕ) → c < cell_total p → flagged flags c ≡ eqb (get_or table c 0) 1 && eligible d cells p cs fs c

-- a byte for each cell; a byte for each function
pub record Scratch (p : Plan) (flags values : List ℕ) : Type 0 where
  pub flags_are : length flags ≡ cell_total p
  pub values_are : length values ≡ function_total p

-- the first refusal of a mark, n, and where there is none flags for the cells that the marks mean
pub record Flags (d : Direction) (by : By) (p : Plan) (cs fs marks : List ℕ) (n : ℕ) (flags : List ℕ) : Type 0 where
  pub number : n ≡ first (mark_refusal d by p cs fs) marks
  pub sized : length flags ≡ cell_total p
  pub says : n ≡ 0 → (c : ℕ) → c < cell_total p → flagged flags c ≡ selected d by p cs fs marks c

-- the smallest admissible mesh with the flagged cells refined, or without them
abbrev pub renewed : Direction → Plan → List ℕ → List ℕ → List ℕ
renewed d p cs flags = smallest p (base d cs (flagged flags))

-- the flags may be applied to the tables, and there is room for the new labels
pub record Applicable (d : Direction) (p : Plan) (cs fs flags room : List ℕ) : Type 0 where
  pub ready : Ready d p cs flags
  pub mesh : MeshTable p (renewed d p cs flags)
  pub functions_are : length fs ≡ function_total p
  pub room_is : length room ≡ function_total p
