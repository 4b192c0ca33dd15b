-- `packing::pack_word` meets its contract. The invariant: the bits of the cells passed. Assumes nothing.
use mathlib.Core.Path.{◌≡◌}
use Prim.Native.Nat.{◌+◌, ◌-◌, ◌*◌}
use Rattle.mesh.specs.Mesh.{refined as isRefined}
use Rattle.planes.specs.Bits.{word_from, is_present}
use Rattle.packing.proofs.pack_word.Given as goal

abbrev pub invariant-loop-four : goal.invariant-loop-four
invariant-loop-four l = record {
  present : l.present ≡ word_from (64 - 4 * l.four) (l.at + 4 * l.four) (is_present l.bytes);
  refined : l.refined ≡ word_from (64 - 4 * l.four) (l.at + 4 * l.four) (isRefined l.bytes);
}
