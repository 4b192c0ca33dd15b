-- What C gets of the call: 0 and the counts, or a refusal and zeros. Definitions only.
use Rattle.std.specs.Prelude.{Result, Ok, Err}
use Rattle.refusals.specs.declared.Refusal.{Refusal}
use Rattle.refusals.specs.Numbers.{number}
use Rattle.rounds.specs.declared.Rounds.{Rounds}
use Rattle.rounds.specs.declared.RoundsAnswer.{RoundsAnswer}

abbrev pub rounds_answer_of : Result Rounds Refusal → RoundsAnswer
rounds_answer_of (Ok c) = record { number = 0; marks = c.marks; rounds = c.rounds }
rounds_answer_of (Err r) = record { number = number r; marks = 0; rounds = 0 }
