-- `line_end` meets its contract: it is `find` at line feeds. Assumes nothing.
use Rattle.lines.proofs.Texts.{ends_line}
use Rattle.lines.proofs.line_end.Goals as goal

pub returns : goal.returns
returns c = ends_line _ _ _ c.find.ensures
