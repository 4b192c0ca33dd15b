-- What is claimed of corners (document 02, Req 05): of one direction of any level of a plan in range. proofs/Results.antt proves it.
-- Definitions only.
use Rattle.std.specs.Prelude.{◌≡◌, ◌&&◌, ℕ, suc, min, ◌+◌, ◌-◌, ◌≤◌, ◌<◌, T, leb, ltb}
use Rattle.facts.specs.Bounded.{some, sum}
use Rattle.grid.specs.declared.Side.{Side}
use Rattle.grid.specs.Knots.{is_set, times, knot_on, functions, covers, apart, together, first_over}

-- knots say all, with corners or without
pub record ByKnots (s : Side) : Type 0 where
  -- the functions are the knots' count less p + 1
  pub count : functions s + (s.degree + 1) ≡ sum (suc s.cells) (times s)
  -- "supports follow from the knots": a function covers the columns between its first and its last
  pub support : (i x : ℕ) → covers s i x ≡ leb (knot_on s i) x && ltb x (knot_on s (i + s.degree + 1))
  -- columns are near each other where they are "covered by a common function of that level"
  pub common : (x y : ℕ) → x < s.cells → y < s.cells → together s x y ≡ some (functions s) (λ i. covers s i x && covers s i y)
  -- and then, in document 01's words, they differ by at most p: corners make no neighbourhood larger
  pub nearer : (x y : ℕ) → x < s.cells → y < s.cells → T (together s x y) → T (apart s.degree x y)
  -- in closed form: the functions over a column are p + 1, from the first on
  pub over : (i x : ℕ) → x < s.cells → covers s i x ≡ leb (first_over s x) i && leb i (first_over s x + s.degree)

-- without corners all is as document 01 has it
pub record Smooth (s : Side) : Type 0 where
  -- "With n columns, a level has n + p functions across"
  pub count : functions s ≡ s.cells + s.degree
  -- "function i covers columns max(0, i-p) to min(n-1, i)"
  pub support : (i x : ℕ) → covers s i x ≡ leb (i - s.degree) x && leb x (min (s.cells - 1) i)
  -- "differs by at most p"
  pub near : (x y : ℕ) → together s x y ≡ apart s.degree x y
  pub first : (x : ℕ) → first_over s x ≡ x

-- no bit outside 1 to n-1 is set
pub record OnlyInner (n bits : ℕ) : Type 0 where
  pub inner : (k : ℕ) → T (is_set bits k) → (1 ≤ k) × (k < n)
