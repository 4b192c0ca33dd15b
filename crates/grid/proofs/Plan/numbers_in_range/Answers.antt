-- `Plan::numbers_in_range` meets its contract: one test for each part of the definition. Assumes nothing.
use mathlib.Core.Path.{◌≡◌}
use mathlib.Core.Bool.{Bool, false, ◌&&◌, ◌||◌, cond}
use Prim.Native.Nat.{ℕ}
use native.Mathlib.Omega.{arith}
use lib.Dec.{eqb, leb}
use Rattle.std.proofs.lemmas.Bool.Decides.{nat_tests}
use Rattle.std.specs.Ordering.{nat_cmp, is_lt, is_le}
use Rattle.grid.specs.declared.Plan.{Plan}
use Rattle.grid.specs.Plan.{between, numbers_in_range}
use Rattle.grid.proofs.Plan.numbers_in_range.Goals as goal

le_leb : (a b : ℕ) → is_le (nat_cmp a b) ≡ leb a b
le_leb a b = grind (arith, nat_tests)

-- what a range says of a number
ranged : {a b lo hi : ℕ} {spent r : Bool} (x : ℕ) → r ≡ (is_le (nat_cmp a x) && cond spent (is_lt (nat_cmp x b)) (is_le (nat_cmp x b)))
    → a ≡ lo → b ≡ hi → spent ≡ false → r ≡ between lo hi x
unfolding between
ranged {lo = lo} {hi = hi} x v s e z = rw (v, s, e, z, le_leb lo x, le_leb x hi)

-- the definition's tests from left to right
tests : (p : Plan) → ((((between 1 16 p.columns && between 1 16 p.rows) && between 1 8 p.levels) && between 1 4 p.degree_across) && between 1 4 p.degree_up)
    && (eqb p.class 0 || between 2 8 p.class) ≡ numbers_in_range p
unfolding numbers_in_range
tests p = grind arith

pub returns : goal.returns
returns c = rw (
  ranged c.args.self.columns c.contains.ensures.value c.new.ensures.start c.new.ensures.end c.new.ensures.exhausted,
  ranged c.args.self.rows c.contains-2.ensures.value c.new-2.ensures.start c.new-2.ensures.end c.new-2.ensures.exhausted,
  ranged c.args.self.levels c.contains-3.ensures.value c.new-3.ensures.start c.new-3.ensures.end c.new-3.ensures.exhausted,
  ranged c.args.self.degree_across c.contains-4.ensures.value c.new-4.ensures.start c.new-4.ensures.end c.new-4.ensures.exhausted,
  ranged c.args.self.degree_up c.contains-5.ensures.value c.new-5.ensures.start c.new-5.ensures.end c.new-5.ensures.exhausted,
  ranged c.args.self.class c.contains-6.ensures.value c.new-6.ensures.start c.new-6.ensures.end c.new-6.ensures.exhausted,
) (tests c.args.self)
