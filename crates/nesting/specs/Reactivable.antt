-- Which cells are reactivable, by parents: each refined cell is, until a child of it is found that is not active. Definitions only.
use Rattle.std.specs.Prelude.{◌&&◌, cond, List, ℕ, ltb, eqb}
use Rattle.facts.specs.Bounded.{implies}
use Rattle.facts.specs.Ranges.{every_from}
use Rattle.grid.specs.declared.Plan.{Plan}
use Rattle.grid.specs.Plan.{parent}
use Rattle.mesh.specs.Mesh.{active, refined, reactivable}

-- 1 for "a split cell whose four children are active", 2 for any other
unfoldable pub reactivable_byte : Plan → List ℕ → ℕ → ℕ
reactivable_byte p cells c = cond (reactivable p cells c) 1 2

-- `kept` for a refined cell, 2 for any other
unfoldable pub refined_byte : List ℕ → ℕ → ℕ → ℕ
refined_byte cells kept c = cond (refined cells c) kept 2

-- 1 for a refined cell before `end`, 2 for any other
unfoldable pub inner_byte : List ℕ → ℕ → ℕ → ℕ
inner_byte cells end c = cond (refined cells c && ltb c end) 1 2

-- the byte of the cell c, or 2 where one of the n cells from a on is a child of c and not active
unfoldable pub ruled_out : Plan → List ℕ → ℕ → ℕ → ℕ → ℕ → ℕ
ruled_out p cells a n c byte = cond (every_from a n (λ d. implies (eqb (parent p d) c) (active cells d))) byte 2
