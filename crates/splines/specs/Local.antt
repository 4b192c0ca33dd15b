-- The functions over one cell, by where a point lies in it: what code computes. That these are the values of the recursion is a law
-- (proofs/Sides.antt). Definitions only.
use Rattle.std.specs.Prelude.{Bool, cond, ℕ, suc, ◌-◌, ◌*◌, eqb, ltb}
use Rattle.grid.specs.declared.Side.{Side}
use Rattle.grid.specs.Knots.{times}
use Rattle.splines.specs.declared.LocalValues.{LocalValues}
use Rattle.splines.specs.Values.{cell_of}

-- the knot on line j is taken more than once: both ends are, and at degree 2 the corners
abbrev pub full : (ℕ → ℕ) → ℕ → Bool
full m j = ltb 1 (m j)

-- the first of the functions over a cell, v parts before the cell's second line, and the last, v parts behind its first: of degree p (1 or
-- 2), h parts to a cell; l: the line on the other side is full
unfoldable pub outer : ℕ → Bool → ℕ → ℕ → ℕ
outer p l h v = cond (eqb p 1) (2 * h * v) (cond l (2 * (v * v)) (v * v))

-- the functions over the cell of the point x. Together they make 1, so the one between the first and the last is the rest
unfoldable pub local_of : Side → ℕ → ℕ → LocalValues
local_of s h x =
    let c = cell_of h s.cells x in
    let low = outer s.degree (full (times s) c) h (suc c * h - x) in
    let high = outer s.degree (full (times s) (suc c)) h (x - c * h) in
    record { degree = s.degree; cell = c; low = low; middle = 2 * h * h - low - high; high = high }

-- the value of function j of those over the cell, counted from the first
unfoldable pub piece_of : LocalValues → ℕ → ℕ
piece_of a j = cond (eqb j 0) a.low (cond (eqb j a.degree) a.high a.middle)
