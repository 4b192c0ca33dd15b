-- Document 02, Req 08: heights that a refinement ("split") carries. Definitions only.
use Rattle.std.specs.Prelude.{cond, List, [], ◌∷◌, ℕ, zero, suc, ◌*◌, eqb, ℤ, pos, ◌+ℤ◌, ◌*ℤ◌, length, get_or}
use Rattle.grid.specs.declared.Plan.{Plan}
use Rattle.grid.specs.declared.Place.{Place}
use Rattle.grid.specs.Plan.{across_at, up_at, function_total, function_place}
use Rattle.mesh.specs.Mesh.{active, deactivated}
use Rattle.twoscale.specs.TwoScale.{quarters}

-- ---- "the two-scale coefficients (formula 2 of document 000)"

-- how much of the function at g is in the function at f, in sixteenths: the product of both directions' quarters, where g is of the next
-- level
unfoldable pub sixteenths : Plan → Place → Place → ℕ
sixteenths p f g =
    cond (eqb g.level (suc f.level))
    (quarters (across_at p f.level) (across_at p g.level) f.column g.column * quarters (up_at p f.level) (up_at p g.level) f.row g.row)
    0

abbrev pub share : Plan → ℕ → ℕ → ℕ
share p f g = sixteenths p (function_place p f) (function_place p g)

-- ---- heights

-- a list of n heights
unfoldable pub heights_of : ℕ → (ℕ → ℤ) → List ℤ
heights_of zero h = []
heights_of (suc n) h = h 0 ∷ heights_of n (λ i. h (suc i))

abbrev pub at : List ℤ → ℕ → ℤ
at heights f = get_or heights f (pos 0)

-- function f "passes its height to its children", and keeps none. "at level k the unit is 16^-k mm" (Req 03), so sixteenths of a height are
-- whole heights of the next level
unfoldable pub pass_on : Plan → ℕ → List ℤ → List ℤ
pass_on p f heights =
    heights_of (function_total p) (λ g. cond (eqb g f) (pos 0) (at heights g +ℤ at heights f *ℤ pos (share p f g)))

-- "level by level, coarsest first, through children deactivated earlier or by the same split": functions are numbered level by level, so in
-- the order of their numbers. The functions below n have passed theirs on, if they are deactivated afterwards, as the table says
unfoldable pub carried : Plan → List ℕ → ℕ → List ℤ → List ℤ
carried p functions zero heights = heights
carried p functions (suc f) heights =
    let before = carried p functions f heights in
    cond (deactivated functions f) (pass_on p f before) before

-- the heights of the active functions, 0 for the others
unfoldable pub only_active : List ℕ → List ℤ → List ℤ
only_active functions heights = heights_of (length heights) (λ f. cond (active functions f) (at heights f) (pos 0))

-- "A function not active before starts from height 0, and one not active afterwards ends at 0": from the functions before to those
-- afterwards
unfoldable pub carry : Plan → List ℕ → List ℕ → List ℤ → List ℤ
carry p old new heights = only_active new (carried p new (function_total p) (only_active old heights))
