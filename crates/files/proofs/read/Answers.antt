-- `read` meets its contract. Assumes nothing.
use mathlib.Core.Path.{◌≡◌}
use Rattle.std.proofs.Common.{rules}
use Rattle.files.specs.File.{no_plan, answered_plan}
use Rattle.files.proofs.Reading.{read_bad}
use Rattle.files.proofs.read.Goals as goal

pub returns-in_default : goal.returns-in_default
returns-in_default c = let a = c.args in
    let z : c.default.result ≡ no_plan = search rules in
    read_bad a.file.now a.cells.now a.functions.now c.default.result c.in_default.ensures z

pub returns-in-Ok : goal.returns-in-Ok
unfolding answered_plan
returns-in-Ok c = c.in-Ok.ensures
