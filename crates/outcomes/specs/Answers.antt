-- What C gets of a call: 0 and the lengths, or a refusal and zeros. Definitions only.
use Rattle.std.specs.Prelude.{Result, Ok, Err, ℕ}
use Rattle.refusals.specs.declared.Refusal.{Refusal}
use Rattle.refusals.specs.Numbers.{number}
use Rattle.outcomes.specs.declared.Changes.{Changes}
use Rattle.outcomes.specs.declared.Answer.{Answer}

abbrev pub answer_of : Result Changes Refusal → Answer
answer_of (Ok c) = record { number = 0; cells = c.cells; functions = c.functions }
answer_of (Err r) = record { number = number r; cells = 0; functions = 0 }

-- the same of the first step of a call, which answers how many cells changed
abbrev pub settled_of : Result ℕ Refusal → Answer
settled_of (Ok n) = record { number = 0; cells = n; functions = 0 }
settled_of (Err r) = record { number = number r; cells = 0; functions = 0 }
