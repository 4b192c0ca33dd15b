-- What the parts of a call on planes leave in a room of bytes. Definitions only.
use Rattle.std.specs.Prelude.{◌≡◌, ◌++◌, ℕ, drop}
use Rattle.outcomes.specs.declared.Answer.{Answer}
use Rattle.outcomes.specs.Calls.{Outcome}
use Rattle.outcomes.specs.Meets.{Lent}

-- a call on the cells that a room begins with: the outcome o, with its cells before what stood after the n cells of before
pub record InRoom (o : Outcome) (n : ℕ) (r : Answer) (bytes functions cell_list function_list : Lent) : Type 0 where
  pub answer : r ≡ o.answer
  pub cells : bytes.exit.now ≡ o.cells ++ drop n bytes.entry.now
  pub labels : functions.exit.now ≡ o.functions
  pub cell_numbers : cell_list.exit.now ≡ o.cell_list
  pub function_numbers : function_list.exit.now ≡ o.function_list
