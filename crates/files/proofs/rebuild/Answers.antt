-- `rebuild` meets its contract. Assumes nothing.
use mathlib.Core.Path.{◌∙◌}
use Rattle.files.proofs.Reading.{rebuilt_is}
use Rattle.files.proofs.rebuild.Goals as goal

pub returns : goal.returns
returns c = c.complete.ensures ∙ rebuilt_is c.requires.good_file _ _ c.requires.last_in_bounds c.requires.clear c.mark_cells.ensures
