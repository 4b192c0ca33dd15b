-- `packing::unpack_word` meets its contract. The invariant: the bytes so far, and what is left of both words. Assumes nothing.
use mathlib.Core.Path.{◌≡◌}
use Prim.Native.Nat.{◌*◌, ◌/◌, ◌^◌}
use Rattle.facts.specs.Mapped.{filled}
use Rattle.packing.specs.Packing.{word_byte}
use Rattle.packing.proofs.unpack_word.Given as goal

abbrev pub invariant-loop-four : goal.invariant-loop-four
invariant-loop-four l = record {
  present : l.p ≡ l.present / 2 ^ (4 * l.four);
  refined : l.r ≡ l.refined / 2 ^ (4 * l.four);
  bytes : l.part ≡ filled 0 (4 * l.four) (word_byte l.present l.refined) l.initial.part;
}
