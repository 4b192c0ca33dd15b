-- How what the code holds and writes stands for the states and replies of Session.antt. Definitions only.
use Rattle.std.specs.Prelude.{◌≡◌, List, ℕ, ◌<◌, Option, None, Some, take}
use Rattle.lines.specs.Text.{Counts}
use Rattle.script.specs.Session.{State, no_wall, wall, Reply}
use Rattle.script.specs.declared.hand.Hand.{Hand}
use Rattle.script.specs.declared.done.Done.{Done}

-- the state that a hand stands for, with the lent tables; their bytes past the wall's lengths mean nothing
abbrev pub held : Option Hand → List ℕ → List ℕ → State
held None cs fs = no_wall
held (Some h) cs fs = wall h.plan (take h.cells cs) (take h.functions fs)

-- a whole text at the start of the buffer, which had room for it
pub record Said (text : List ℕ) (count : ℕ) (out : List ℕ) : Type 0 where
  pub bytes : take count out ≡ text
  pub some : 0 < count
  pub inside : Counts count out

-- a reply: what is in hand, with the tables, and what stands in the buffer
pub record Replied (r : Reply) (done : Done) (cs fs out : List ℕ) : Type 0 where
  pub state : held done.hand cs fs ≡ r.state
  pub said : Said r.printed done.count out
