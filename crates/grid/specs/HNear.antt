-- The grading rule before Req 12: document 01's, "the neighbourhood for the standard basis in Buffa and Giannelli's papers on admissible
-- meshes". The literature calls it the H-neighbourhood, and that of Req 12, for truncated functions, the T-neighbourhood. No call uses it.
-- It is here for "Old graded walls pass" (crate mesh, HAdmissible.antt). Definitions only.
use Rattle.std.specs.Prelude.{Bool, not, ◌&&◌, ℕ, ◌+◌, ◌-◌, ltb, eqb}
use Rattle.grid.specs.declared.Plan.{Plan}
use Rattle.grid.specs.declared.Place.{Place}
use Rattle.grid.specs.Plan.{cell_total, cell_place, ancestor, common_at}

-- "let a split cell have level j with j-m+1 at least 0. Every cell of level j-m+1" that is "covered by a common function of that level",
-- across and up, with "its ancestor there .. Those cells are its neighbourhood": the cell at c is in that of the cell at q
unfoldable pub h_near_at : Plan → Place → Place → Bool
h_near_at p q c =
    not (eqb p.class 0)
    && (eqb (q.level + 1) (c.level + p.class)
    && common_at p c (ancestor p (p.class - 1) q.row) (ancestor p (p.class - 1) q.column))

unfoldable pub h_near : Plan → ℕ → ℕ → Bool
h_near p q c = ltb c (cell_total p) && h_near_at p (cell_place p q) (cell_place p c)
