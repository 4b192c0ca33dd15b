-- `cells_refusal` meets its contract: the planes first. Assumes nothing.
use mathlib.Core.Path.{sym, ap, ◌∙◌}
use mathlib.Core.Bool.{not, cond}
use Prim.Native.Nat.{ℕ}
use lib.Dec.{eqb}
use lib.ListN.{length}
use Rattle.refusals.proofs.Refused.{refused, handed_on}
use Rattle.planes.specs.Planes.{cells_refusal}
use Rattle.planes.proofs.Refusals.{more_refused, more_length, sized_of}
use Rattle.plane_calls.proofs.cells_refusal.Goals as goal

pub returns-in_err-planes_refusal : goal.returns-in_err-planes_refusal
unfolding cells_refusal
returns-in_err-planes_refusal c = rw (handed_on _ c.from_residual.ensures.1) (more_refused _ _ _ c.in_err-planes_refusal.ensures (refused c.in_err-planes_refusal.field-0.0))

pub cell_total-requires : goal.cell_total-requires
cell_total-requires c = (sized_of _ _ _ (sym c.in_ok-planes_refusal.ensures)).range

pub returns : goal.returns
unfolding cells_refusal
returns c = c.length_refusal.ensures ∙ (ap (λ (n : ℕ). cond (not (eqb (length c.args.cells.now) n)) 3 0) c.cell_total.ensures ∙ sym (more_length _ _ _ (sym c.in_ok-planes_refusal.ensures)))
