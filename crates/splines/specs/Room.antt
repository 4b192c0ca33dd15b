-- What keeps the whole numbers of code small. Definitions only.
use Rattle.std.specs.Prelude.{ℕ, ◌≤◌}
use Rattle.grid.specs.declared.Side.{Side}
use Rattle.grid.specs.Side.{SideIn}

pub record InRoom (s : Side) (h : ℕ) : Type 0 where
  pub side : SideIn s
  pub parts≤ : h ≤ 64
