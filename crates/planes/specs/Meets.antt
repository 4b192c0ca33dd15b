-- How the contracts of the calls on planes are said: an answer, and what the lent slices hold at exit. Definitions only.
use Rattle.std.specs.Prelude.{◌≡◌, List, ℕ}
use Rattle.outcomes.specs.declared.Answer.{Answer}
use Rattle.outcomes.specs.Meets.{Lent, Seen}
use Rattle.planes.specs.Planes.{OpenedPlanes, PlanesOutcome, PlanesMade, CellsMade}

abbrev pub left_by_open : ℕ → Lent → Lent → Lent → OpenedPlanes
left_by_open r present refined functions = record { number = r; present = present.exit.now; refined = refined.exit.now; functions = functions.exit.now }

abbrev pub left_on_planes : Answer → Lent → Lent → Lent → Lent → Lent → PlanesOutcome
left_on_planes r present refined functions cell_list function_list = record {
  answer = r;
  present = present.exit.now;
  refined = refined.exit.now;
  functions = functions.exit.now;
  cell_list = cell_list.exit.now;
  function_list = function_list.exit.now;
}

-- the outcome is what the call, a definition, makes of what the function finds
abbrev pub MeetsOnPlanes : (List ℕ → List ℕ → List ℕ → List ℕ → List ℕ → List ℕ → PlanesOutcome) → Answer → Lent → Lent → Lent → Seen → Lent → Lent → Type 0
MeetsOnPlanes call r present refined functions marks cell_list function_list =
    left_on_planes r present refined functions cell_list function_list
    ≡ call present.entry.now refined.entry.now functions.entry.now marks.entry.now cell_list.entry.now function_list.entry.now

abbrev pub left_by_pack : ℕ → Lent → Lent → PlanesMade
left_by_pack r present refined = record { number = r; present = present.exit.now; refined = refined.exit.now }

abbrev pub left_by_unpack : ℕ → Lent → CellsMade
left_by_unpack r cells = record { number = r; cells = cells.exit.now }
