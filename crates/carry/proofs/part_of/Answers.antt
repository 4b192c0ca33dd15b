-- `part_of` meets its contract. Assumes nothing.
use lib.IntN.{pos, ◌*ℤ◌}
use Rattle.carry.proofs.Words.{fits, read_small, product, product_small}
use Rattle.carry.proofs.part_of.Goals as goal

pub overflow_mul-result : goal.overflow_mul-result
overflow_mul-result c = let h = c.args.height in let n = c.args.quarters in rw (product h n c.ranges.height c.requires.0) (fits (h *ℤ pos n) (product_small h n c.requires.1))

pub returns : goal.returns
returns c = let h = c.args.height in let n = c.args.quarters in rw (product h n c.ranges.height c.requires.0) (read_small (h *ℤ pos n) (product_small h n c.requires.1))
