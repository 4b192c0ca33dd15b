-- What the contracts of the parts cite. Definitions only.
use Rattle.std.specs.Prelude.{Result, Ok, Err, not, List, ℕ, ◌≤◌, T, ℤ}
use Rattle.std.specs.Float.Ieee.{is_nan}
use Rattle.refusals.specs.declared.Refusal.{Refusal}
use Rattle.refusals.specs.Numbers.{number}
use Rattle.grid.specs.declared.Plan.{Plan}
use Rattle.grid.specs.Plan.{cell_total}
use Rattle.grid.specs.Range.{InRange}
use Rattle.heights.specs.Heights.{on_mesh}
use Rattle.heights.specs.Steps.{OnSurface}
use Rattle.projector.specs.declared.Corner.{Corner}
use Rattle.projector.specs.declared.CornersAnswer.{CornersAnswer}
use Rattle.projector.specs.Projector.{most_projected, CornersOutcome}
use Rattle.std.specs.Borrow.{MutBor}
use denote.Triple.Both.{Both}

-- what C gets of the call: 0 and how many corners were written, or a refusal and 0
abbrev pub answered : Result ℕ Refusal → CornersAnswer
answered (Ok n) = record { number = 0; corners = n }
answered (Err r) = record { number = number r; corners = 0 }

-- an answer, and what the lent words hold at exit
abbrev pub left_by_corners : CornersAnswer → Both (MutBor (List ℕ)) (MutBor (List ℕ)) → CornersOutcome
left_by_corners r out = record { answer = r; out = out.exit.now }

-- none of a corner's floats is a NaN, so each has bits of its own
pub record Numbers (c : Corner) : Type 0 where
  pub across : T (not (is_nan c.across))
  pub up : T (not (is_nan c.up))
  pub height : T (not (is_nan c.height))

-- what the refusals but 10 leave: a small plan, and heights that are taken at every point of the mesh
pub record Ready (p : Plan) (functions : List ℕ) (heights : List ℤ) : Type 0 where
  pub range : InRange p
  pub small : cell_total p ≤ most_projected
  pub surface : (x y : ℕ) → T (on_mesh p x y) → OnSurface p functions heights x y
