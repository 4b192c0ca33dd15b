-- `packing::unpack` meets its contract. The invariant: the bytes of the words so far. Assumes nothing.
use mathlib.Core.Path.{◌≡◌, ◌∙◌}
use Prim.Native.Nat.{◌+◌, ◌*◌}
use native.Mathlib.Omega.{arith}
use lib.ListN.{length}
use Rattle.facts.proofs.Mapped.{filled_none, filled_all, fill_part}
use Rattle.facts.proofs.Ranges.{mid_len}
use Rattle.planes.specs.Bits.{bytes_of}
use Rattle.packing.proofs.Loops.{word_byte_lem}
use Rattle.packing.proofs.Four.{spreads}
use Rattle.packing.proofs.unpack.Goals as goal

pub loop-w-init : goal.loop-w-init
loop-w-init c = filled_none 0 _ _

pub unpack_word-requires : goal.unpack_word-requires
unpack_word-requires c = record { in_bounds = omega (arith, mid_len (64 * c.loop-w.w) c.loop-w.bytes); spreads = spreads }

pub loop-w-preserved : goal.loop-w-preserved
loop-w-preserved c = let l = c.loop-w in
    let next : 64 * (l.w + 1) ≡ 64 * l.w + 64 = omega arith in
    rw next (fill_part _ (64 * l.w) _ _ l.invariant 64 _ _ (omega arith) c.unpack_word.ensures (word_byte_lem c.args.present.now c.args.refined.now c.requires.within l.w))

pub returns : goal.returns
unfolding bytes_of
returns c = let q : c.loop-w.w ≡ length c.args.present.now = omega arith in
    c.loop-w.invariant ∙ rw q (filled_all _ _ _ c.requires.refined_len.1)
