-- What C gets of reading and writing: 0 and the plan or the length, or a refusal. Definitions only.
use Rattle.std.specs.Prelude.{Result, Ok, Err, ℕ}
use Rattle.refusals.specs.declared.Refusal.{Refusal}
use Rattle.refusals.specs.Numbers.{number, number_of}
use Rattle.grid.specs.declared.Plan.{Plan}
use Rattle.files.specs.declared.ReadRefusal.{ReadRefusal}
use Rattle.files.specs.declared.ReadAnswer.{ReadAnswer}
use Rattle.files.specs.declared.WriteAnswer.{WriteAnswer}
use Rattle.files.specs.File.{answered_plan}

abbrev pub read_answer_of : Result Plan ReadRefusal → ReadAnswer
read_answer_of (Ok p) = record { number = 0; plan = p }
read_answer_of (Err r) = record { number = number r.refusal; plan = r.plan }

-- of a file that is judged, whose plan is known
abbrev pub judged_answer_of : {A : Type 0} → Plan → Result A Refusal → ReadAnswer
judged_answer_of p r = record { number = number_of r; plan = answered_plan (number_of r) p }

abbrev pub write_answer_of : Result ℕ Refusal → WriteAnswer
write_answer_of (Ok n) = record { number = 0; length = n }
write_answer_of (Err r) = record { number = number r; length = 0 }
