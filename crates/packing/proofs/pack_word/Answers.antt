-- `packing::pack_word` meets its contract. The invariant: the bits of the cells passed. Assumes nothing.
use mathlib.Core.Path.{refl}
use native.Mathlib.Omega.{arith}
use Rattle.planes.specs.Bits.{word_from}
use Rattle.packing.proofs.Loops.{word_room, word_turn, packed_present, packed_refined, packed_small}
use Rattle.packing.proofs.pack_word.Goals as goal

pub loop-four-init : goal.loop-four-init
unfolding word_from
loop-four-init c = record { present = refl; refined = refl }

pub overflow_mul-present : goal.overflow_mul-present
overflow_mul-present c = omega (arith, word_room _ _ _ _ c.loop-four-test.true c.loop-four.auto.four c.loop-four.invariant.present)

pub overflow_add-present : goal.overflow_add-present
overflow_add-present c = omega (arith, word_room _ _ _ _ c.loop-four-test.true c.loop-four.auto.four c.loop-four.invariant.present)

pub overflow_mul-refined : goal.overflow_mul-refined
overflow_mul-refined c = omega (arith, word_room _ _ _ _ c.loop-four-test.true c.loop-four.auto.four c.loop-four.invariant.refined)

pub overflow_add-refined : goal.overflow_add-refined
overflow_add-refined c = omega (arith, word_room _ _ _ _ c.loop-four-test.true c.loop-four.auto.four c.loop-four.invariant.refined, packed_small _ _ _ c.bits_at-bits.ensures)

pub loop-four-preserved : goal.loop-four-preserved
loop-four-preserved c = let l = c.loop-four in
    let e = c.bits_at-bits.ensures in record {
      present = word_turn _ _ l.four _ c.loop-four-test.true l.auto.four l.invariant.present _ (packed_present _ _ _ e);
      refined = word_turn _ _ l.four _ c.loop-four-test.true l.auto.four l.invariant.refined _ (packed_refined _ _ _ e);
    }
