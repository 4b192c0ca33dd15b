-- `labelled` meets its contract: the labels that are made are those that the cells fix. Assumes nothing.
use mathlib.Core.Path.{◌∙◌}
use Rattle.labels.proofs.SupportLaws.{agree_labels}
use Rattle.labels.proofs.labelled.Goals as goal

pub returns : goal.returns
returns c = let s = c in
    c.same.ensures ∙ agree_labels s.args.plan s.args.cells.now s.args.functions.now _ c.write_labels.ensures s.requires.functions_len.0
