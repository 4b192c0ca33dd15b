-- `open_mesh` meets its contract. Assumes nothing.
use mathlib.Core.Path.{◌≡◌, sym}
use borrow.Author.Tests.{ne_eqb}
use Rattle.std.proofs.Common.{rules}
use Rattle.refusals.proofs.Refused.{refused, handed_on}
use Rattle.drafts.specs.Drafts.{no_draft, draft_after_open}
use Rattle.drafting.proofs.open_mesh.Goals as goal

pub returns-in_err-open-clause-draft : goal.returns-in_err-open-clause-draft
unfolding draft_after_open
returns-in_err-open-clause-draft c d = let e = c.in_err-open in
    rw (handed_on _ c.from_residual.ensures.1) (rw (sym e.ensures.number, ne_eqb _ _ (refused e.field-0.0)))

pub returns-clause-draft : goal.returns-clause-draft
unfolding draft_after_open
returns-clause-draft c d = let z : c.default.result ≡ no_draft = search rules in rw (sym c.in_ok-open.ensures.number) z
