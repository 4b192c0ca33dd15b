-- `packing::bits_at` meets its contract. Assumes nothing.
use mathlib.Core.Path.{◌∙◌}
use Rattle.packing.proofs.bits_at.Goals as goal

pub returns : goal.returns
returns c = c.from.ensures ∙ rw c.number_of-i.ensures.1 (c.requires.packs c.args.bytes.now c.args.at c.requires.at_in_bounds.1)
