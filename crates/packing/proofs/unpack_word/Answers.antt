-- `packing::unpack_word` meets its contract. The invariant: the bytes so far, and what is left of both words. Assumes nothing.
use mathlib.Core.Path.{◌≡◌, sym, ap, ap₂, ◌∙◌}
use Prim.Native.Nat.{ℕ, ◌+◌, ◌*◌, ◌/◌, ◌%◌}
use native.Mathlib.Nat.{div-one}
use native.Mathlib.Omega.{arith}
use lib.Pow.{shr-shr}
use Rattle.facts.proofs.Mapped.{filled_none}
use Rattle.packing.specs.Packing.{word_byte}
use Rattle.packing.proofs.Four.{byte_0, byte_1, byte_2, byte_3, digit_at, fill_four}
use Rattle.packing.proofs.unpack_word.Goals as goal

pub loop-four-init : goal.loop-four-init
loop-four-init c = record { present = sym (div-one _); refined = sym (div-one _); bytes = filled_none 0 _ _ }

pub loop-four-preserved : goal.loop-four-preserved
loop-four-preserved c = let l = c.loop-four in
    let a = c.args in
    let z = c.spread_cells-bytes.ensures in
    let w = digit_at a.present a.refined (4 * l.four) l.p l.r l.invariant.present l.invariant.refined in
    let zero : 4 * l.four + 0 ≡ 4 * l.four = omega arith in
    let next : 4 * (l.four + 1) ≡ 4 * l.four + 4 = omega arith in
    let first = c.byte_of.ensures ∙ (byte_0 l.p l.r _ z ∙ (ap₂ (λ (x y : ℕ). x % 2 + y % 2) (sym (div-one l.p)) (sym (div-one l.r)) ∙ (w 0 ∙ ap (word_byte a.present a.refined) zero))) in
    rw next (record {
      present = ap (λ (x : ℕ). x / 16) l.invariant.present ∙ shr-shr a.present (4 * l.four) 4;
      refined = ap (λ (x : ℕ). x / 16) l.invariant.refined ∙ shr-shr a.refined (4 * l.four) 4;
      bytes = fill_four (word_byte a.present a.refined) (4 * l.four) _ l.part l.invariant.bytes _ _ _ _ (omega arith) first
          (c.byte_of-in-loop-four.ensures ∙ (byte_1 l.p l.r _ z ∙ w 1))
          (c.byte_of-in-loop-four-2.ensures ∙ (byte_2 l.p l.r _ z ∙ w 2))
          (c.byte_of-in-loop-four-3.ensures ∙ (byte_3 l.p l.r _ z ∙ w 3));
    })
