-- `drop` meets its contract. Assumes nothing.
use mathlib.Core.Path.{◌≡◌, sym}
use Rattle.std.proofs.Common.{rules}
use Rattle.refusals.proofs.Refused.{refused, handed_on}
use Rattle.drafts.specs.Drafts.{no_draft}
use Rattle.drafting.proofs.Whole.{drops_not, drops}
use Rattle.drafting.proofs.drop.Goals as goal

pub returns-in_err-refusal19 : goal.returns-in_err-refusal19
returns-in_err-refusal19 c = let e = c.in_err-refusal19 in
    rw (handed_on _ c.from_residual.ensures.1) (drops_not _ _ _ _ _ e.ensures (refused e.field-0.0))

pub returns : goal.returns
returns c = let z : c.default.result ≡ no_draft = search rules in
    drops _ _ _ _ _ (sym c.in_ok-refusal19.ensures) z
