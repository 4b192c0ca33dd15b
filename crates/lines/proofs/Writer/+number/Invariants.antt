-- The measure is the number.
use Rattle.lines.proofs.Writer.+number.Given as goal

abbrev pub decreases-number : goal.decreases-number
decreases-number l = l.number
