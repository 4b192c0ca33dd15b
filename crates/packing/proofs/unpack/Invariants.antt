-- `packing::unpack` meets its contract. The invariant: the bytes of the words so far. Assumes nothing.
use mathlib.Core.Path.{◌≡◌}
use Prim.Native.Nat.{◌*◌}
use Rattle.facts.specs.Mapped.{filled}
use Rattle.planes.specs.Bits.{byte_of}
use Rattle.packing.proofs.unpack.Given as goal

abbrev pub invariant-loop-w : goal.invariant-loop-w
invariant-loop-w l = l.bytes ≡ filled 0 (64 * l.w) (byte_of l.present l.refined) l.initial.bytes
