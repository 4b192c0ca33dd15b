-- What the contracts of this crate cite beside the definitions of crate outcomes. Definitions only.
use Rattle.std.specs.Prelude.{◌≡◌, List, ℕ, ◌≤◌, length}
use Rattle.grid.specs.declared.Plan.{Plan}
use Rattle.grid.specs.Plan.{cell_total, function_total}
use Rattle.outcomes.specs.Calls.{changed, written}
use Rattle.outcomes.specs.Meets.{Lent}
use Rattle.grid.specs.Bounds.{most_cells, most_functions}

-- the numbers from `from` up to, not including, `to`, in an old and a new table of one length
pub record Block (old new : List ℕ) (from to : ℕ) : Type 0 where
  pub same : length old ≡ length new
  pub rises : from ≤ to
  pub inside : to ≤ length old

-- an old and a new table of one length, and a list that has room for the numbers that changed
pub record ListRoom (old new list : List ℕ) : Type 0 where
  pub same : length old ≡ length new
  pub small : length old ≤ most_functions
  pub room : length (changed (length old) old new) ≤ length list

-- the list begins with the n numbers below `from` that changed
pub record ListedTo (from : ℕ) (old new : List ℕ) (n : ℕ) (list : List ℕ) : Type 0 where
  pub count : n ≡ length (changed from old new)
  pub begins : list ≡ written (changed from old new) list

-- the function table of a plan and room for its new labels: F bytes each
pub record Rooms (p : Plan) (functions made : List ℕ) : Type 0 where
  pub functions_are : length functions ≡ function_total p
  pub made_is : length made ≡ function_total p
  pub cells_small : cell_total p ≤ most_cells

-- a table took over the new bytes, and its list the numbers that changed, n of them
pub record Taken (table list : Lent) (new : List ℕ) (n : ℕ) : Type 0 where
  pub count : n ≡ length (changed (length table.entry.now) table.entry.now new)
  pub bytes : table.exit.now ≡ new
  pub listed : list.exit.now ≡ written (changed (length table.entry.now) table.entry.now new) list.entry.now
