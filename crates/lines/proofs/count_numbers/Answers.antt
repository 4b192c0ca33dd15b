-- `count_numbers` meets its contract: the fields that are left decide, and the count is of those before them. Assumes nothing.
use mathlib.Core.Path.{◌≡◌, ap, ◌∙◌}
use native.Mathlib.Omega.{arith}
use lib.ListN.{length, drop}
use mathlib.Core.List.{[]}
use Rattle.lines.specs.Reading.{all_numbers}
use Rattle.lines.specs.Steps.{fields_behind}
use Rattle.lines.proofs.Fields.{fields_end, next_length, next_none, next_good, none_good}
use Rattle.lines.proofs.count_numbers.Goals as goal

pub returns-in_err-field : goal.returns-in_err-field
returns-in_err-field c = let at = c.loop-at in
    let r = c.read_field-field in
    rw c.from_residual.ensures (at.invariant.1 ∙ next_none c.args.line.now at.at r.result (omega arith) r.ensures c.in_err-field.was)

pub loop-at-preserved : goal.loop-at-preserved
loop-at-preserved c = let line = c.args.line.now in
    let at = c.loop-at in
    let r = c.read_field-field in
    (omega arith, at.invariant.1 ∙ next_good line at.at r.result (omega arith) r.ensures _ c.in_ok-field.was, omega (arith, next_length line at.at r.result (omega arith) r.ensures))

pub returns : goal.returns
returns c = let line = c.args.line.now in
    let at = c.loop-at in
    let z : fields_behind (drop at.at line) ≡ [] = fields_end line at.at (omega arith) in
    (at.invariant.1 ∙ ap all_numbers z ∙ none_good, omega (arith, at.invariant.2, ap length z))
