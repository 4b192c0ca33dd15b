-- Document 02, Req 06: the corners of the active cells, for the projector. Here a corner is one of a cell; the corners of a plan (Req 05) are
-- lines. Definitions only.
use Rattle.std.specs.Prelude.{cond, ℕ, ◌+◌, ◌-◌, ◌*◌, eqb, ltb, ℤ, pos, Float, length, drop}
use mathlib.Core.List.{List, [], ◌∷◌, ◌++◌, flat_map}
use Rattle.std.specs.Float.{binary64}
use Rattle.std.specs.Float.Ieee.{to_bits}
use Rattle.facts.specs.Numbers.{listed}
use Rattle.exact.specs.Dyadic.{dyadic}
use Rattle.grid.specs.declared.Plan.{Plan}
use Rattle.grid.specs.declared.Place.{Place}
use Rattle.grid.specs.Plan.{ratio, grown, cell_total, plan_refusal_or, cell_place}
use Rattle.mesh.specs.Mesh.{active, check}
use Rattle.heights.specs.Heights.{height_sum, places, heights_refusal}
use Rattle.projector.specs.declared.Corner.{Corner}
use Rattle.projector.specs.declared.CornersAnswer.{CornersAnswer}

-- "Its memory allows 1,024 cells of all levels"
abbrev pub most_projected : ℕ
most_projected = 1024

-- ---- corners

-- line x of level k, the one before column (or row) x, counted "in last-level cells"
unfoldable pub line_at : Plan → ℕ → ℕ → ℕ
line_at p k x = grown (ratio p) x (p.levels - 1 - k)

module _ (p : Plan) (functions : List ℕ) (heights : List ℤ) where
  -- "Each corner is across, up and height, as three floats, the first two in last-level cells, the height as Req 03 has it", whose points
  -- are eighths of these
  unfoldable pub corner_at : ℕ → ℕ → Corner
  corner_at x y = record {
    across = dyadic 0 (pos x);
    up = dyadic 0 (pos y);
    height = dyadic (places p.levels) (height_sum p functions heights (x * 8) (y * 8));
  }

  -- of the cell at a place, the corner on its left (0) or right (1) line, and on its lower (0) or upper (1) one
  unfoldable pub corner_of : Place → ℕ → ℕ → Corner
  corner_of c right upper = corner_at (line_at p c.level (c.column + right)) (line_at p c.level (c.row + upper))

  -- "four corners, lower left, lower right, upper left, upper right"
  unfoldable pub corners_of : Place → List Corner
  corners_of c = corner_of c 0 0 ∷ corner_of c 1 0 ∷ corner_of c 0 1 ∷ corner_of c 1 1 ∷ []

  -- "For each active cell in rising order"
  unfoldable pub corners : List ℕ → List Corner
  corners cells = flat_map (λ c. corners_of (cell_place p c)) (listed (cell_total p) (active cells))

-- "as three floats"
abbrev pub three_floats : Corner → List Float
three_floats c = c.across ∷ c.up ∷ c.height ∷ []

-- "floats of 64 bits": each is put as the word that IEEE 754 gives it
abbrev pub three_words : Corner → List ℕ
three_words c = to_bits binary64 c.across ∷ to_bits binary64 c.up ∷ to_bits binary64 c.height ∷ []

abbrev pub words_of : List Corner → List ℕ
words_of = flat_map three_words

-- ---- refusals

-- "It refuses 16 where T exceeds 1,024, directly after 2"
unfoldable pub plan_refusal : Plan → ℕ
plan_refusal p = plan_refusal_or p (cond (ltb most_projected (cell_total p)) 16 0)

-- then what is left of check's 1 to 6
unfoldable pub mesh_refusal : Plan → List ℕ → List ℕ → ℕ
mesh_refusal p cells functions = cond (eqb (plan_refusal p) 0) (check p cells functions) (plan_refusal p)

-- then Req 03's "refusals", of which 15 has no point to judge
unfoldable pub refusal : Plan → List ℕ → List ℕ → List ℤ → ℕ
refusal p cells functions heights =
    cond (eqb (mesh_refusal p cells functions) 0) (heights_refusal p functions heights) (mesh_refusal p cells functions)

-- ---- the call

pub record CornersOutcome : Type 0 where
  pub answer : CornersAnswer
  pub out : List ℕ

-- a refusal answers its number, with no corner
unfoldable pub refused : ℕ → List ℕ → CornersOutcome
refused n out = record { answer = record { number = n; corners = 0 }; out = out }

-- "They fill lent floats .. the answer is a number and how many corners were written", "where the lent output is too short for all corners,
-- 10, last"; the words past them keep their bits
unfoldable pub filled : List Corner → List ℕ → CornersOutcome
filled all out =
    let words = words_of all in
    cond (ltb (length out) (length words)) (refused 10 out)
    (record { answer = record { number = 0; corners = length all }; out = words ++ drop (length words) out })

-- plan, tables, heights and lent words to number, corners and words
unfoldable pub project : Plan → List ℕ → List ℕ → List ℤ → List ℕ → CornersOutcome
project p cells functions heights out =
    let n = refusal p cells functions heights in
    cond (eqb n 0) (filled (corners p functions heights cells) out) (refused n out)
