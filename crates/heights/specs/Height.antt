-- What asking for a height answers: "either the height in millimetres or a refusal number" (document 02, Req 03). Definitions only.
use Rattle.std.specs.Prelude.{Result, Ok, Err, ℕ, Float}
use Rattle.refusals.specs.declared.Refusal.{Refusal}
use Rattle.refusals.specs.Numbers.{number}

pub data Height : Type 0 where
  At : Float → Height
  Refused : ℕ → Height

-- what the code answers
abbrev pub told : Result Float Refusal → Height
told (Ok h) = At h
told (Err r) = Refused (number r)
