-- Refusals of one mark, computed from their definition. Assumes nothing.
use mathlib.Core.Path.{◌≡◌, refl}
use mathlib.Core.List.{[], ◌∷◌, map}
use Rattle.marks.specs.Marks.{verdict}

-- Of four numbers 0 and 2 are of the kind that the call names, and 2 and 3 are of the last level: 0 is taken, 1 is of another kind, 2 is
-- of the last level alone, 3 is both, and then 8 comes first; 4 is no number at all.
pub verdicts : map (verdict (1 ∷ 0 ∷ 1 ∷ 0 ∷ []) 2) (0 ∷ 1 ∷ 2 ∷ 3 ∷ 4 ∷ []) ≡ 0 ∷ 8 ∷ 9 ∷ 8 ∷ 7 ∷ []
unfolding verdict
verdicts = refl
