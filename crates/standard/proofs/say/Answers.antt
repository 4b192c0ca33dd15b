-- `say` meets its contract: what it prints is the answer that is due, and what is printed grows by it. Assumes nothing.
use Rattle.standard.proofs.Printed.{next_printed}
use Rattle.standard.proofs.say.Goals as goal

pub returns-clause-answers_value_2 : goal.returns-clause-answers_value_2
returns-clause-answers_value_2 g c = next_printed c.args.input.now c.args.handed.answers c.args.text.now c.requires.due
