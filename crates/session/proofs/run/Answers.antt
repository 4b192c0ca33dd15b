-- `run` meets its contract: each turn hands over the answer to its line, and at the end none is left. Assumes nothing.
use Rattle.std.proofs.Common.{arith, rules, subst, sym, ◌∙◌}
use Rattle.std.specs.Io.KnownBytes.{Appends}
use Rattle.std.proofs.KnownBytes.{Appends-trans}
use Rattle.standard.proofs.Printed.{all_handed, none_written, front_written}
use Rattle.session.proofs.Turns.{starts, due, turn, ends, on_err}
use Rattle.session.proofs.run.Goals as goal

pub loop-at-init : goal.loop-at-init
loop-at-init g c = record {
  left = starts _ _ c.requires c.nothing-handed.ensures;
  few = omega arith;
  written = none_written _ c.args.input.now _ c.nothing-handed.ensures;
  none_failed = search rules;
}

pub say-requires-clause-due : goal.say-requires-clause-due
say-requires-clause-due g c =
    due _ _ _ _ _ c.loop-at.invariant.left c.loop-at-test.true c.line_end-end.ensures _ _ _ _ c.step-done.ensures

pub returns-in_err-handed-clause-left : goal.returns-in_err-handed-clause-left
returns-in_err-handed-clause-left g c =
    let answer = due _ _ _ _ _ c.loop-at.invariant.left c.loop-at-test.true c.line_end-end.ensures _ _ _ _ c.step-done.ensures in
    on_err _ (front_written _ _ _ _ _ _ answer c.loop-at.invariant.written c.in_err-handed.ensures.left)

pub loop-at-preserved : goal.loop-at-preserved
loop-at-preserved g c = record {
  left = turn _ _ _ _ _ c.loop-at.invariant.left c.loop-at-test.true c.line_end-end.ensures _ _ _ _ c.step-done.ensures _ _ c.in_ok-handed.ensures.answers_value (search rules);
  few = omega (arith, c.in_ok-handed.ensures.answers_value);
  written = subst (Appends _ _) (sym c.in_ok-handed.ensures.answers_value_2) (Appends-trans _ _ _ _ _ c.loop-at.invariant.written c.in_ok-handed.ensures.written);
  none_failed = c.in_ok-handed.ensures.none_failed ∙ c.loop-at.invariant.none_failed;
}

pub returns-clause-handed : goal.returns-clause-handed
returns-clause-handed g c = all_handed _ _ (ends _ _ _ _ c.loop-at.invariant.left (omega arith))

pub returns-clause-written : goal.returns-clause-written
returns-clause-written g c =
    let all = all_handed _ _ (ends _ _ _ _ c.loop-at.invariant.left (omega arith)) in
    subst (Appends _ _) all.bytes c.loop-at.invariant.written
