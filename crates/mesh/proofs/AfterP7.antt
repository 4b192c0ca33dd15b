-- Document 01, "Mistakes that look plausible": "after P7 function 0 is deactivated and its child 8 is not active". Computed; checked
-- before the proofs that go by the text of the definitions. Assumes nothing.
use mathlib.Core.Path.{◌≡◌, refl}
use mathlib.Core.List.{[], ◌∷◌}
use Rattle.facts.specs.Bounded.{some, every}
use Rattle.facts.specs.Numbers.{elem, tabulate}
use Rattle.grid.specs.declared.Plan.{Plan}
use Rattle.grid.specs.Numbering.{offset, number, level_of, place_on, place}
use Rattle.grid.specs.Plan.{ratio, grown, above, parent, supported_at, supported}
use Rattle.grid.specs.Knots.{is_set, is_corner, corners_to, times, knot_from, knot, beyond, functions, covers}
use Rattle.mesh.specs.Mesh.{absent, active, refined, table_of, label_of}

abbrev pub W2 : Plan
W2 = record { columns = 3; rows = 1; levels = 3; degree_across = 1; degree_up = 1; class = 2; corners_across = 0; corners_up = 0 }

-- the labels of functions 0 and 8 of W2 with cells 0 and 3 refined
pub after_P7 : (let cells = table_of W2 (λ c. elem c (0 ∷ 3 ∷ [])) in label_of W2 cells 0 ∷ label_of W2 cells 8 ∷ []) ≡ 2 ∷ 2 ∷ []
unfolding some every elem tabulate offset number level_of place_on place ratio grown above parent is_set is_corner corners_to times knot_from knot beyond functions covers supported_at supported absent active refined table_of label_of
after_P7 = refl
