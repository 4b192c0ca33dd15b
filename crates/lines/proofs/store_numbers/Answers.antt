-- `store_numbers` meets its contract: the numbers before the fields that are left stand at the start of the list. Assumes nothing.
use mathlib.Core.Path.{sym, ap, ◌∙◌}
use native.Mathlib.Omega.{arith}
use lib.ListN.{length-set, take}
use mathlib.Core.List.{List, ◌++◌}
use Prim.Native.Nat.{ℕ}
use Rattle.lines.proofs.Fields.{fields_inside, next_length, next_some, next_good, next_value, stored_more}
use Rattle.lines.proofs.store_numbers.Goals as goal

pub unwrap-requires : goal.unwrap-requires
unwrap-requires c = let line = c.args.line.now in
    let l = c.loop-number in
    let r = c.read_field-field in
    next_some line l.at r.result (fields_inside line l.at (omega arith)) r.ensures l.invariant.0

pub loop-number-preserved : goal.loop-number-preserved
loop-number-preserved c = let line = c.args.line.now in
    let l = c.loop-number in
    let r = c.read_field-field in
    let u = c.unwrap in
    let h = fields_inside line l.at (omega arith) in (
      sym (next_good line l.at r.result h r.ensures u.result u.ensures) ∙ l.invariant.0,
      rw length-set (omega (arith, next_length line l.at r.result h r.ensures)),
      stored_more l.numbers _ l.number-index u.result _ (omega arith)
          (ap (λ (x : List ℕ). take l.number-index l.numbers ++ x) (sym (next_value line l.at r.result h r.ensures u.result u.ensures)) ∙ l.invariant.2),
    )
