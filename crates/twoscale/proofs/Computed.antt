-- Coefficients computed from their definition: for each function of a side its quarters in all functions of the next level. Assumes nothing.
use mathlib.Core.List.{List, [], ◌∷◌}
use mathlib.Core.Path.{◌≡◌, refl}
use Prim.Native.Nat.{ℕ, zero, suc, ◌*◌}
use Rattle.facts.specs.Numbers.{tabulate}
use Rattle.grid.specs.declared.Side.{Side}
use Rattle.grid.specs.Knots.{is_set, is_corner, corners_to, times, knot_from, knot, beyond, functions}
use Rattle.splines.specs.Values.{rise, fall, box, basis, scale, cell_of}
use Rattle.twoscale.specs.TwoScale.{coefficient, quarters}

-- so many columns of level 0, of a degree, with corners; on a level where u columns stand on one of these
abbrev pub side : ℕ → ℕ → ℕ → ℕ → Side
side n p corners u = record { cells = n * u; degree = p; base = n; unit = u; corners = corners }

-- the rows of its matrix
unfoldable pub rows : ℕ → (ℕ → List ℕ) → List (List ℕ)
rows zero f = []
rows (suc n) f = f 0 ∷ rows n (λ i. f (suc i))

abbrev pub matrix : ℕ → ℕ → ℕ → List (List ℕ)
matrix n p corners =
    let s = side n p corners 1 in
    let s' = side n p corners 2 in
    rows (functions s) (λ i. tabulate (functions s') (quarters s s' i))

-- degree 1: halves beside a function's own line, and an open end on the mesh's edge
pub hats :
    matrix 2 1 0
    ≡ (4 ∷ 2 ∷ 0 ∷ 0 ∷ 0 ∷ [])
    ∷ (0 ∷ 2 ∷ 4 ∷ 2 ∷ 0 ∷ [])
    ∷ (0 ∷ 0 ∷ 0 ∷ 2 ∷ 4 ∷ [])
    ∷ []
unfolding tabulate rows is_set is_corner corners_to times knot_from knot beyond functions rise fall box basis scale cell_of coefficient quarters
hats = refl

-- degree 2: 1/4, 3/4, 3/4, 1/4 inside; 1 and 1/2 where the mesh ends
pub parabolas :
    matrix 4 2 0
    ≡ (4 ∷ 2 ∷ 0 ∷ 0 ∷ 0 ∷ 0 ∷ 0 ∷ 0 ∷ 0 ∷ 0 ∷ [])
    ∷ (0 ∷ 2 ∷ 3 ∷ 1 ∷ 0 ∷ 0 ∷ 0 ∷ 0 ∷ 0 ∷ 0 ∷ [])
    ∷ (0 ∷ 0 ∷ 1 ∷ 3 ∷ 3 ∷ 1 ∷ 0 ∷ 0 ∷ 0 ∷ 0 ∷ [])
    ∷ (0 ∷ 0 ∷ 0 ∷ 0 ∷ 1 ∷ 3 ∷ 3 ∷ 1 ∷ 0 ∷ 0 ∷ [])
    ∷ (0 ∷ 0 ∷ 0 ∷ 0 ∷ 0 ∷ 0 ∷ 1 ∷ 3 ∷ 2 ∷ 0 ∷ [])
    ∷ (0 ∷ 0 ∷ 0 ∷ 0 ∷ 0 ∷ 0 ∷ 0 ∷ 0 ∷ 2 ∷ 4 ∷ [])
    ∷ []
unfolding tabulate rows is_set is_corner corners_to times knot_from knot beyond functions rise fall box basis scale cell_of coefficient quarters
parabolas = refl

-- degree 2, three columns with a corner between the first two: the function on the corner gives its middle child all
pub cornered :
    matrix 3 2 2
    ≡ (4 ∷ 2 ∷ 0 ∷ 0 ∷ 0 ∷ 0 ∷ 0 ∷ 0 ∷ 0 ∷ [])
    ∷ (0 ∷ 2 ∷ 2 ∷ 0 ∷ 0 ∷ 0 ∷ 0 ∷ 0 ∷ 0 ∷ [])
    ∷ (0 ∷ 0 ∷ 2 ∷ 4 ∷ 2 ∷ 0 ∷ 0 ∷ 0 ∷ 0 ∷ [])
    ∷ (0 ∷ 0 ∷ 0 ∷ 0 ∷ 2 ∷ 3 ∷ 1 ∷ 0 ∷ 0 ∷ [])
    ∷ (0 ∷ 0 ∷ 0 ∷ 0 ∷ 0 ∷ 1 ∷ 3 ∷ 2 ∷ 0 ∷ [])
    ∷ (0 ∷ 0 ∷ 0 ∷ 0 ∷ 0 ∷ 0 ∷ 0 ∷ 2 ∷ 4 ∷ [])
    ∷ []
unfolding tabulate rows is_set is_corner corners_to times knot_from knot beyond functions rise fall box basis scale cell_of coefficient quarters
cornered = refl
