-- What is claimed of shares, and of heights on their way. Definitions only.
use Rattle.std.specs.Prelude.{◌≡◌, List, ℕ, suc, ◌*◌, ◌^◌, ◌≤◌, ◌<◌, T, ℤ, nat_abs}
use Rattle.facts.specs.Bounded.{sum}
use Rattle.grid.specs.declared.Plan.{Plan}
use Rattle.grid.specs.Plan.{function_total, function_place, function_level}
use Rattle.heights.specs.Heights.{on_mesh, value_at}
use Rattle.carry.specs.Carry.{share, at, carried}
use Rattle.carry.specs.Steps.{Allowed, Started}

pub record Demands : Type 0 where
  -- formula 2 across and up, at every point: a function is the sum of the functions of the next level, each times its share
  pub formula : (p : Plan) → Allowed p → (x y f : ℕ) → T (on_mesh p x y) → f < function_total p → suc (function_level p f) < p.levels
      → value_at p x y (function_place p f) ≡ sum (function_total p) (λ g. share p f g * value_at p x y (function_place p g))
  -- all shares in a function make 1; on level 0 there are none
  pub one : (p : Plan) → Allowed p → (g : ℕ) → g < function_total p → 1 ≤ function_level p g → sum (function_total p) (λ f. share p f g) ≡ 16
  -- heights that start from at most 65,536 mm have on level k at most k + 1 times as much on their way, whichever functions pass theirs on:
  -- on the last of four levels 2 ^ 30 units
  pub small : (p : Plan) (functions : List ℕ) (heights : List ℤ) → Started p heights
      → (n g : ℕ) → n ≤ function_total p → g < function_total p → nat_abs (at (carried p functions n heights) g) ≤ suc (function_level p g) * (65536 * 16 ^ function_level p g)
