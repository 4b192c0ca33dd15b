-- `read_number` meets its contract: the digits that are left, with the value so far, say what the field is. Assumes nothing.
use mathlib.Core.Path.{◌≡◌}
use lib.ListN.{drop}
use Rattle.lines.proofs.Texts.{scan}
use Rattle.lines.proofs.read_number.Given as goal

abbrev pub invariant-loop-byte : goal.invariant-loop-byte
invariant-loop-byte l = scan 0 l.text ≡ scan l.value (drop l.byte-index l.text)
