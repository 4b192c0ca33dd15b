-- `once`, computed: each number stays where it stands first. Assumes nothing.
use mathlib.Core.Path.{◌≡◌, refl}
use mathlib.Core.List.{[], ◌∷◌}
use Rattle.facts.specs.Numbers.{elem}
use Rattle.theorems.specs.Main.{unseen, once}

pub each_once : once (2 ∷ 0 ∷ 2 ∷ 1 ∷ 0 ∷ []) ≡ 2 ∷ 0 ∷ 1 ∷ []
unfolding unseen elem
each_once = refl
