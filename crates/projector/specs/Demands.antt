-- What is claimed of the corners that the projector gets. Definitions only.
use Rattle.std.specs.Prelude.{◌≡◌, ◌≢◌, true, false, List, map, ℕ, ◌+◌, ◌*◌, ◌≤◌, ◌<◌, T, ℤ, length, take, drop}
use Rattle.std.specs.Float.{binary64}
use Rattle.std.specs.Float.Ieee.{of_bits}
use Rattle.std.specs.Float.Ieee.Exact.{HasValue}
use Rattle.grid.specs.declared.Plan.{Plan}
use Rattle.grid.specs.declared.Place.{Place}
use Rattle.grid.specs.Plan.{in_range, too_large, cell_total, cell_place}
use Rattle.mesh.specs.Mesh.{active, tally, count}
use Rattle.heights.specs.Height.{Height}
use Rattle.heights.specs.Heights.{answer, number_of, height_of}
use Rattle.projector.specs.declared.Corner.{Corner}
use Rattle.projector.specs.declared.CornersAnswer.{CornersAnswer}
use Rattle.projector.specs.Projector.{most_projected, line_at, corner_of, three_floats, three_words, project}

module _ (p : Plan) (cells functions : List ℕ) (heights : List ℤ) where
  -- a corner of the cell at a place, and what Req 03 answers at that point
  module _ (c : Place) (a b : ℕ) where
    abbrev pub corner : Corner
    corner = corner_of p functions heights c a b

    abbrev pub answer_there : Height
    answer_there = answer p cells functions heights (line_at p c.level (c.column + a) * 8) (line_at p c.level (c.row + b) * 8)

    -- its floats are whole numbers of last-level cells, and the height that is answered
    pub record Sound : Type 0 where
      pub across : HasValue corner.across false (line_at p c.level (c.column + a)) 1
      pub up : HasValue corner.up false (line_at p c.level (c.row + b)) 1
      pub answered : number_of answer_there ≡ 0
      pub height : corner.height ≡ height_of answer_there
      -- a program that reads the corner's words as floats gets them
      pub floats : map (of_bits binary64) (three_words corner) ≡ three_floats corner

  module _ (lent : List ℕ) where
    abbrev pub given : CornersAnswer
    given = (project p cells functions heights lent).answer

    abbrev pub left : List ℕ
    left = (project p cells functions heights lent).out

    pub record Projected : Type 0 where
      -- 16 as soon as the plan is in order, whatever the tables, heights and output; and only where T is above 1,024
      pub large : in_range p ≡ true → too_large p ≡ false → most_projected < cell_total p → given.number ≡ 16
      pub small : cell_total p ≤ most_projected → given.number ≢ 16
      -- room for 1,024 cells is never too little
      pub enough : 12 * most_projected ≤ length lent → given.number ≢ 10
      -- a refusal writes nothing, and past the corners nothing is ever written: every word keeps its bits, those of a NaN too
      pub kept : given.number ≢ 0 → (given.corners ≡ 0) × (left ≡ lent)
      pub size : length left ≡ length lent
      pub past : drop (3 * given.corners) left ≡ drop (3 * given.corners) lent
      -- four corners for each active cell
      pub four : given.number ≡ 0 → given.corners ≡ 4 * (count p cells functions).active
      -- where n active cells stand before the active cell c, its corner on the right line (a is 1) or the left (0), the upper (b is 1) or
      -- the lower (0), stands at 12 n + 6 b + 3 a
      pub stands : given.number ≡ 0 → (c : ℕ) → c < cell_total p → T (active cells c) → (a b : ℕ) → a ≤ 1 → b ≤ 1
          → take 3 (drop (12 * tally c (active cells) + 6 * b + 3 * a) left) ≡ three_words (corner_of p functions heights (cell_place p c) a b)
      pub sound : given.number ≡ 0 → (c : ℕ) → c < cell_total p → (a b : ℕ) → a ≤ 1 → b ≤ 1 → Sound (cell_place p c) a b

abbrev pub Demands : Type 0
Demands = (p : Plan) (cells functions : List ℕ) (heights : List ℤ) (lent : List ℕ) → Projected p cells functions heights lent
