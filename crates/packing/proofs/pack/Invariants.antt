-- `packing::pack` meets its contract. The invariant: the words so far. Assumes nothing.
use mathlib.Core.Path.{◌≡◌}
use Rattle.facts.specs.Mapped.{filled}
use Rattle.mesh.specs.Mesh.{refined as isRefined}
use Rattle.planes.specs.Bits.{word_at, is_present}
use Rattle.packing.proofs.pack.Given as goal

abbrev pub invariant-loop-w : goal.invariant-loop-w
invariant-loop-w l = record {
  present : l.present ≡ filled 0 l.w (word_at (is_present l.bytes)) l.initial.present;
  refined : l.refined ≡ filled 0 l.w (word_at (isRefined l.bytes)) l.initial.refined;
}
