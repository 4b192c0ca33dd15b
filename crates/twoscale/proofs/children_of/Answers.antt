-- `children_of` meets its contract. Assumes nothing.
-- the knots that are found
use mathlib.Core.Path.{◌≡◌, refl, ap, ◌∙◌}
use Prim.Native.Nat.{◌+◌, ◌≤◌}
use native.Mathlib.Omega.{arith}
use Rattle.grid.specs.Knots.{knot_on}
use Rattle.grid.proofs.Sides.{functions_small}
use Rattle.twoscale.specs.Passing.{children_of}
use Rattle.twoscale.proofs.Steps.{Spread, spread}
use Rattle.twoscale.proofs.children_of.Goals as goal
use Rattle.twoscale.proofs.children_of.Goals.{After-knot-first, After-knot-last, After-knot-last_but_one, After-knot-second}

first_is : (c : After-knot-first) → c.knot-first.result ≡ knot_on c.args.side c.args.i
first_is c = c.knot-first.ensures ∙ ap (knot_on c.args.side) (omega arith)

second_is : (c : After-knot-second) → c.knot-second.result ≡ knot_on c.args.side (c.args.i + 1)
second_is c = c.knot-second.ensures ∙ ap (knot_on c.args.side) (omega arith)

last_but_one_is : (c : After-knot-last_but_one) → c.knot-last_but_one.result ≡ knot_on c.args.side (c.args.i + c.args.side.degree)
last_but_one_is c = c.knot-last_but_one.ensures ∙ ap (knot_on c.args.side) (omega arith)

last_is : (c : After-knot-last) → c.knot-last.result ≡ knot_on c.args.side (c.args.i + c.args.side.degree + 1)
last_is c = c.knot-last.ensures ∙ ap (knot_on c.args.side) (omega arith)

-- how far they are apart, and that the numbers are small
apart : (s : After-knot-first) → Spread s.args.side s.requires.side_in.0.sized s.args.i
apart s = spread s.args.side s.requires.side_in.0.sized s.args.i s.requires.i_bound s.requires.side_in.1

small : (s : After-knot-first) → s.args.i + s.args.side.degree ≤ 2099
small s = omega (arith, s.requires.i_bound, s.requires.side_in.1, functions_small s.args.side s.requires.side_in.0)

pub overflow_add-i : goal.overflow_add-i
overflow_add-i c = omega (arith, small (goal.at.overflow_add-i c).After-knot-first)

pub overflow_add-i-2 : goal.overflow_add-i-2
overflow_add-i-2 c = omega (arith, small (goal.at.overflow_add-i-2 c).After-knot-first)

pub overflow_add-i-3 : goal.overflow_add-i-3
overflow_add-i-3 c = omega (arith, small (goal.at.overflow_add-i-3 c).After-knot-first)

pub overflow_add-i-4 : goal.overflow_add-i-4
overflow_add-i-4 c = omega (arith, small (goal.at.overflow_add-i-4 c).After-knot-first)

pub overflow_add-result : goal.overflow_add-result
overflow_add-result c = omega (arith, small (goal.at.overflow_add-result c).After-knot-first, first_is (goal.at.overflow_add-result c).After-knot-first, (apart (goal.at.overflow_add-result c).After-knot-first).first≤, c.requires.side_in.0.cells≤)

pub overflow_add-result-2 : goal.overflow_add-result-2
overflow_add-result-2 c = omega (arith, small (goal.at.overflow_add-result-2 c).After-knot-first, last_is (goal.at.overflow_add-result-2 c).After-knot-last, (apart (goal.at.overflow_add-result-2 c).After-knot-first).within, c.requires.side_in.0.cells≤)

pub overflow_sub-last_but_one : goal.overflow_sub-last_but_one
overflow_sub-last_but_one c = omega (arith, first_is (goal.at.overflow_sub-last_but_one c).After-knot-first, last_but_one_is (goal.at.overflow_sub-last_but_one c).After-knot-last_but_one, (apart (goal.at.overflow_sub-last_but_one c).After-knot-first).low)

pub end_quarters-requires : goal.end_quarters-requires
end_quarters-requires c = omega (arith, first_is (goal.at.end_quarters-requires c).After-knot-first, last_but_one_is (goal.at.end_quarters-requires c).After-knot-last_but_one, (apart (goal.at.end_quarters-requires c).After-knot-first).low≤)

pub overflow_sub-last : goal.overflow_sub-last
overflow_sub-last c = omega (arith, second_is (goal.at.overflow_sub-last c).After-knot-second, last_is (goal.at.overflow_sub-last c).After-knot-last, (apart (goal.at.overflow_sub-last c).After-knot-first).high)

pub end_quarters-requires-2 : goal.end_quarters-requires-2
end_quarters-requires-2 c = omega (arith, second_is (goal.at.end_quarters-requires-2 c).After-knot-second, last_is (goal.at.end_quarters-requires-2 c).After-knot-last, (apart (goal.at.end_quarters-requires-2 c).After-knot-first).high≤)

pub returns : goal.returns
unfolding children_of
returns c = rw (c.end_quarters-2.ensures, c.middle_quarters.ensures, c.end_quarters.ensures, last_is (goal.at.returns c).After-knot-last, last_but_one_is (goal.at.returns c).After-knot-last_but_one, second_is (goal.at.returns c).After-knot-second, first_is (goal.at.returns c).After-knot-first) refl
