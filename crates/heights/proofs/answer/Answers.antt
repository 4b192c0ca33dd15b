-- `answer` meets its contract: check, the heights, the point. Assumes nothing.
use mathlib.Core.Path.{sym, ◌∙◌}
use Rattle.refusals.proofs.Refused.{refused, handed_on}
use Rattle.mesh.proofs.Bridge.{check_passed}
use Rattle.heights.proofs.Refusals.{refused_check, refused_heights, refused_point, answered, on_surface}
use Rattle.heights.proofs.answer.Goals as goal

pub returns-in_err-check : goal.returns-in_err-check
returns-in_err-check c = rw (handed_on _ c.from_residual.ensures.1) (refused_check _ _ _ _ _ _ c.in_err-check.ensures (refused c.in_err-check.field-0.0))

pub refusal-requires : goal.refusal-requires
refusal-requires c = let k = check_passed _ _ _ (sym c.in_ok-check.ensures) in (k.range, k.functions)

pub returns-in_err-refusal : goal.returns-in_err-refusal
returns-in_err-refusal c = rw (handed_on _ c.from_residual-in_err-refusal.ensures.1)
    (refused_heights _ _ _ _ _ _ (sym c.in_ok-check.ensures) c.in_err-refusal.ensures (refused c.in_err-refusal.field-0.0))

pub on_mesh-requires : goal.on_mesh-requires
on_mesh-requires c = (check_passed _ _ _ (sym c.in_ok-check.ensures)).range

pub height_at-requires : goal.height_at-requires
height_at-requires c = on_surface _ _ _ _ _ _ (sym c.in_ok-check.ensures) (sym c.in_ok-refusal.ensures) (sym c.on_mesh.ensures ∙ c.if-not-on_mesh.false)

pub returns-then-not-on_mesh : goal.returns-then-not-on_mesh
returns-then-not-on_mesh c = refused_point _ _ _ _ _ _ (sym c.in_ok-check.ensures) (sym c.in_ok-refusal.ensures) (sym c.on_mesh.ensures ∙ c.if-not-on_mesh.true)

pub returns : goal.returns
returns c = answered _ _ _ _ _ _ (sym c.in_ok-check.ensures) (sym c.in_ok-refusal.ensures) (sym c.on_mesh.ensures ∙ c.if-not-on_mesh.false) c.height_at.ensures
