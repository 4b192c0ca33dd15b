-- `nesting::all_fit` meets its contract. The invariant: the cells so far fit. Assumes nothing.
use mathlib.Core.Path.{refl, ap, ◌∙◌}
use mathlib.Core.Bool.{◌&&◌}
use Rattle.nesting.specs.Nested.{byte_fits, cell_byte_fits}
use Rattle.facts.proofs.Rows.{from_zero, from_next}
use Rattle.nesting.proofs.Rows.{part_at}
use Rattle.nesting.proofs.all_fit.Goals as goal

pub loop-cell-init : goal.loop-cell-init
loop-cell-init c = from_zero _ _ _ refl

pub loop-cell-preserved : goal.loop-cell-preserved
unfolding cell_byte_fits
loop-cell-preserved c = let a = c.args in
    let l = c.loop-cell in
    let e = c.byte_fits-ok.ensures ∙ ap (byte_fits a.most a.present) (part_at a.at a.n a.cells.now l.cell-index c.loop-cell-test.true) in
    (λ j. l.invariant j && e j) ∙ from_next a.at (cell_byte_fits a.cells.now a.most a.present) l.cell-index
