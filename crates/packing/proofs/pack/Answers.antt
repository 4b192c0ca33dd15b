-- `packing::pack` meets its contract. The invariant: the words so far. Assumes nothing.
use mathlib.Core.Path.{◌≡◌, refl, ◌∙◌}
use native.Mathlib.Omega.{arith}
use lib.ListN.{length}
use Rattle.facts.proofs.Mapped.{filled_none, filled_all, fill_next}
use Rattle.planes.specs.Bits.{word_at, plane_of, is_present}
use Rattle.packing.proofs.Packed.{packs}
use Rattle.packing.proofs.pack.Goals as goal

pub loop-w-init : goal.loop-w-init
loop-w-init c = record { present = filled_none 0 _ _; refined = filled_none 0 _ _ }

pub pack_word-pair-requires : goal.pack_word-pair-requires
pack_word-pair-requires c = record { at_in_bounds = (omega arith, c.requires.small); packs = packs }

pub loop-w-preserved : goal.loop-w-preserved
unfolding word_at
loop-w-preserved c = let l = c.loop-w in
    let r = c.pack_word-pair.ensures in record {
      present = fill_next _ _ _ _ l.invariant.present _ (omega arith) r.0;
      refined = fill_next _ _ _ _ l.invariant.refined _ (omega arith) r.1;
    }

pub returns : goal.returns
unfolding plane_of
returns c = let l = c.loop-w in
    let q : l.w ≡ length c.args.present.now = omega arith in
    (l.invariant.present ∙ rw q (filled_all _ (word_at (is_present c.args.bytes.now)) c.args.present.now refl), l.invariant.refined ∙ rw q (filled_all _ _ _ c.requires.refined_len.0))
