-- What C gets of count: 0 and the counts, or a refusal and zeros. Definitions only.
use Rattle.std.specs.Prelude.{Result, Ok, Err}
use Rattle.refusals.specs.declared.Refusal.{Refusal}
use Rattle.refusals.specs.Numbers.{number}
use Rattle.mesh.specs.declared.Counts.{Counts}
use Rattle.mesh.specs.declared.Count.{Count}

abbrev pub count_of : Result Counts Refusal → Count
count_of (Ok c) = record { number = 0; active = c.active; refined = c.refined; functions = c.functions; area = c.area }
count_of (Err r) = record { number = number r; active = 0; refined = 0; functions = 0; area = 0 }
