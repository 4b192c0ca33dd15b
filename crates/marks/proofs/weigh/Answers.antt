-- `weigh` meets its contract: the marks are flagged in a table of what the others weigh. Assumes nothing.
use mathlib.Core.Path.{ap, ◌∙◌}
use Prim.Native.Nat.{ℕ}
use lib.ListN.{length}
use Rattle.facts.proofs.Numbers.{length_tabulate}
use Rattle.marks.specs.Marks.{with_marks}
use Rattle.marks.proofs.Marks.{weighed_is}
use Rattle.marks.proofs.weigh.Goals as goal

pub returns : goal.returns
returns c = let a = c.args in
    c.flag.ensures
    ∙ ap (λ (n : ℕ). with_marks n a.marks.now c.unmarked.new.out) (ap length c.unmarked.ensures ∙ length_tabulate _ _)
    ∙ weighed_is (length a.out.now) a.marks.now a.table.now _ c.unmarked.ensures
