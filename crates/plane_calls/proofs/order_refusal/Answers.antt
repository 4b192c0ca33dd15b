-- `order_refusal` meets its contract. Assumes nothing.
use mathlib.Core.Path.{refl, sym, ap, ◌∙◌}
use Prim.Native.Nat.{ℕ}
use Rattle.planes.specs.Bits.{words_for, in_order}
use Rattle.planes.proofs.Refusals.{sized_of, order_right, order_wrong}
use Rattle.plane_calls.proofs.order_refusal.Goals as goal

pub cell_total-requires : goal.cell_total-requires
cell_total-requires c = (sized_of _ _ _ c.requires).range

pub in_order-requires : goal.in_order-requires
in_order-requires c = let k = sized_of _ _ _ c.requires in
    let e = ap words_for (sym c.cell_total.ensures) in (k.present ∙ e, k.refined ∙ e)

pub returns-then-not-in_order : goal.returns-then-not-in_order
returns-then-not-in_order c = order_wrong _ _ _ 0 refl (ap (λ (n : ℕ). in_order n c.args.present.now c.args.refined.now) (sym c.cell_total.ensures) ∙ (sym c.in_order.ensures ∙ c.if-not-in_order.true))

pub returns : goal.returns
returns c = order_right _ _ _ 0 refl (ap (λ (n : ℕ). in_order n c.args.present.now c.args.refined.now) (sym c.cell_total.ensures) ∙ (sym c.in_order.ensures ∙ c.if-not-in_order.false))
