-- `windows::slide` meets its contract. Assumes nothing.
use mathlib.Core.Path.{◌≡◌}
use mathlib.Core.List.{List}
use Prim.Native.Nat.{ℕ, ◌+◌, ◌*◌}
use Rattle.facts.specs.Mapped.{filled}
use Rattle.windows.specs.Windows.{slid}
use Rattle.windows.proofs.slide.Given as goal

abbrev pub invariant-loop-d : goal.invariant-loop-d
invariant-loop-d l = (xs : List ℕ) → l.initial.out ≡ filled 0 (l.n + l.times * l.step) (slid l.from l.n l.step 2) xs → l.out ≡ filled 0 (l.n + l.times * l.step) (slid l.from l.n l.step (l.d + 1)) xs
