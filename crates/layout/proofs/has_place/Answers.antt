-- `layout::has_place` meets its contract: rows and columns are looked at where there is the level. Assumes nothing.
use mathlib.Core.Path.{refl, sym, ◌∙◌}
use Rattle.layout.specs.Layout.{has_place}
use Rattle.layout.proofs.Found.{level_said}
use Rattle.layout.proofs.has_place.Goals as goal
use Rattle.layout.proofs.has_place.Goals.{then-has_level, else-has_level}

pub rows_at-requires : goal.rows_at-requires
rows_at-requires c = let (r, l) = level_said c.args.plan c.has_level.ensures c.if-has_level.true in record { in_range = r; level_lt_levels = l }

pub columns_at-requires : goal.columns_at-requires
columns_at-requires c = elim c.if-has_level.branch [
  | then-has_level w ↦ let (r, l) = level_said c.args.plan c.has_level.ensures w.if-has_level.true in record { in_range = r; level_lt_levels = l }
  | else-has_level w ↦ cc
]

pub returns-then-place-rows_at : goal.returns-then-place-rows_at
unfolding has_place
returns-then-place-rows_at c = elim c.if-has_level.branch [
  | then-has_level w ↦ let e = rw w.rows_at.ensures at w.value-is in rw (c.columns_at.ensures, sym c.has_level.ensures ∙ w.if-has_level.true, sym e ∙ c.if-place-rows_at.true) refl
  | else-has_level w ↦ cc
]

pub returns-else-place-rows_at : goal.returns-else-place-rows_at
unfolding has_place
returns-else-place-rows_at c = elim c.if-has_level.branch [
  | then-has_level w ↦ let e = rw w.rows_at.ensures at w.value-is in rw (sym c.has_level.ensures ∙ w.if-has_level.true, sym e ∙ c.if-place-rows_at.false) c.if-place-rows_at.false
  | else-has_level w ↦ rw (sym c.has_level.ensures ∙ w.if-has_level.false) c.if-place-rows_at.false
]
