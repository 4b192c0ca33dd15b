-- `windows::least_near` meets its contract: the byte lies the degrees after the first functions of the ancestor. Assumes nothing.
use mathlib.Core.Bool.{true, false}
use mathlib.Core.Path.{◌≡◌, refl, sym, ap, ◌∙◌}
use Prim.Native.Nat.{ℕ, ◌+◌, ◌*◌, ◌<◌}
use native.Mathlib.Omega.{arith}
use lib.ListN.{length, get_or}
use Rattle.facts.proofs.Tests.{true_T}
use Rattle.grid.specs.declared.Place.{Place}
use Rattle.grid.specs.declared.Side.{Side}
use Rattle.grid.specs.Plan.{CellInside, across_at, up_at}
use Rattle.grid.specs.Range.{HasNeighbourhood}
use Rattle.grid.specs.Side.{first_over, firsts}
use Rattle.grid.specs.Spans.{ancestor_of}
use Rattle.grid.proofs.Sides.{across_in, up_in}
use Rattle.windows.specs.Near.{has_near, near_index, near_byte}
use Rattle.windows.proofs.Near.{has_fact, above_in, index_fits}
use Rattle.windows.proofs.least_near.Goals as goal
use Rattle.windows.proofs.least_near.Goals.{After-ancestor_of-above, After-struct_known-then-has_near-2-1, Then-has_near}

test : (c : Then-has_near) → let a = c.args in has_near a.plan a.place.level ≡ true
test c = sym c.has_near.ensures ∙ c.if-has_near.true

has : (c : Then-has_near) → let a = c.args in HasNeighbourhood a.plan a.place.level
has c = has_fact _ _ (true_T _ (test c))

pub ancestor_of-above-requires : goal.ancestor_of-above-requires
ancestor_of-above-requires c = record { in_range = c.requires.in_range; has_neighbourhood = has (goal.at.ancestor_of-above-requires c).Then-has_near }

test_1 : (c : After-ancestor_of-above) → let a = c.args in has_near a.plan a.place.level ≡ true
test_1 c = sym c.has_near.ensures ∙ c.if-has_near.true

has_1 : (c : After-ancestor_of-above) → let a = c.args in HasNeighbourhood a.plan a.place.level
has_1 c = has_fact _ _ (true_T _ (test_1 c))

-- the ancestor is a cell
inside : (c : After-ancestor_of-above) → CellInside c.args.plan c.ancestor_of-above.result
inside c = let s = c in rw c.ancestor_of-above.ensures (above_in s.args.plan s.requires.in_range s.args.place s.requires.cell_inside.0 (has_1 c))

pub across_at-across-requires : goal.across_at-across-requires
across_at-across-requires c = record { in_range = c.requires.in_range; level_lt_levels = (inside (goal.at.across_at-across-requires c).After-ancestor_of-above).level< }

pub up_at-up-requires : goal.up_at-up-requires
up_at-up-requires c = record { in_range = c.requires.in_range; level_lt_levels = (inside (goal.at.up_at-up-requires c).After-ancestor_of-above).level< }

pub first_over-requires : goal.first_over-requires
first_over-requires c = let o = c in
    let s = o in
    rw c.up_at-up.ensures (record { side_in = up_in s.args.plan s.requires.in_range _ (inside (goal.at.first_over-requires c).After-ancestor_of-above).level<; x_lt_cells = (inside (goal.at.first_over-requires c).After-ancestor_of-above).row< })

pub first_over-requires-then-has_near : goal.first_over-requires-then-has_near
first_over-requires-then-has_near c = let o = c in
    let s = o in
    rw c.across_at-across.ensures (record { side_in = across_in s.args.plan s.requires.in_range _ (inside (goal.at.first_over-requires-then-has_near c).After-ancestor_of-above).level<; x_lt_cells = (inside (goal.at.first_over-requires-then-has_near c).After-ancestor_of-above).column< })

pub firsts-requires : goal.firsts-requires
firsts-requires c = let o = c in
    let s = o in
    rw c.across_at-across.ensures (across_in s.args.plan s.requires.in_range _ (inside (goal.at.firsts-requires c).After-ancestor_of-above).level<)

-- the byte that is read
index : (c : After-struct_known-then-has_near-2-1) → let a = c.args in
    (c.first_over.result + a.plan.degree_up) * (c.firsts.result + 2 * a.plan.degree_across) + (c.first_over-then-has_near.result + a.plan.degree_across) ≡ near_index a.plan (ancestor_of a.plan a.place)
unfolding near_index
index c = let o = c in
    let a = o.args in
    let p = a.plan in
    let row : c.first_over.result ≡ first_over (up_at p (ancestor_of p a.place).level) (ancestor_of p a.place).row =
    c.first_over.ensures ∙ (ap (λ (s : Side). first_over s o.ancestor_of-above.result.row) c.up_at-up.ensures ∙ ap (λ (y : Place). first_over (up_at p y.level) y.row) o.ancestor_of-above.ensures) in
    let column : c.first_over-then-has_near.result ≡ first_over (across_at p (ancestor_of p a.place).level) (ancestor_of p a.place).column =
    c.first_over-then-has_near.ensures ∙ (ap (λ (s : Side). first_over s o.ancestor_of-above.result.column) c.across_at-across.ensures ∙ ap (λ (y : Place). first_over (across_at p y.level) y.column) o.ancestor_of-above.ensures) in
    let width : c.firsts.result ≡ firsts (across_at p (ancestor_of p a.place).level) =
    c.firsts.ensures ∙ (ap firsts c.across_at-across.ensures ∙ ap (λ (y : Place). firsts (across_at p y.level)) o.ancestor_of-above.ensures) in
    λ i. (row i + p.degree_up) * (width i + 2 * p.degree_across) + (column i + p.degree_across)

test_2 : (c : After-struct_known-then-has_near-2-1) → let a = c.args in has_near a.plan a.place.level ≡ true
test_2 c = sym c.has_near.ensures ∙ c.if-has_near.true

has_2 : (c : After-struct_known-then-has_near-2-1) → let a = c.args in HasNeighbourhood a.plan a.place.level
has_2 c = has_fact _ _ (true_T _ (test_2 c))

fits : (c : After-struct_known-then-has_near-2-1) → let a = c.args in
    (c.first_over.result + a.plan.degree_up) * (c.firsts.result + 2 * a.plan.degree_across) + (c.first_over-then-has_near.result + a.plan.degree_across) < length a.near.now
fits c = let s = c in rw (index c) (index_fits s.args.plan s.requires.in_range s.args.place s.requires.cell_inside.0 (has_2 c) s.requires.cell_inside.1 s.requires.near_room)

pub overflow_mul-result : goal.overflow_mul-result
overflow_mul-result c = omega (arith, fits (goal.at.overflow_mul-result c).After-struct_known-then-has_near-2-1)

pub overflow_add-result : goal.overflow_add-result
overflow_add-result c = omega (arith, fits (goal.at.overflow_add-result c).After-struct_known-then-has_near-2-1)

pub bounds-near-row : goal.bounds-near-row
bounds-near-row c = fits (goal.at.bounds-near-row c).After-struct_known-then-has_near-2-1

pub returns-then-has_near : goal.returns-then-has_near
unfolding near_byte
returns-then-has_near c = let s = c in
    rw (test (goal.at.returns-then-has_near c).Then-has_near) (ap (λ (i : ℕ). get_or s.args.near.now i 0) (index (goal.at.returns-then-has_near c).After-struct_known-then-has_near-2-1))

pub returns-else-has_near : goal.returns-else-has_near
unfolding near_byte
returns-else-has_near c = let a = c.args in
    let e : has_near a.plan a.place.level ≡ false = sym c.has_near.ensures ∙ c.if-has_near.false in
    rw e refl
