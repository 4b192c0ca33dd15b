-- `byte` meets its contract. Assumes nothing.
use mathlib.Core.Path.{refl}
use Rattle.facts.proofs.Writing.{written_byte}
use Rattle.lines.proofs.Writer.byte.Goals as goal

pub returns-clause-writes : goal.returns-clause-writes
returns-clause-writes c = record { end = refl; bytes = written_byte c.args.self.now.out.now c.args.self.now.at c.args.byte c.requires }
