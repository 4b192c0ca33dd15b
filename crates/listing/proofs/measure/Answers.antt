-- `measure` meets its contract. Assumes nothing.
use mathlib.Core.Path.{◌≡◌, sym, ap, ◌∙◌}
use Prim.Native.Nat.{ℕ, ◌-◌}
use native.Mathlib.Omega.{arith}
use lib.ListN.{length}
use Rattle.listing.specs.Cells.{refined_below, refined_bytes}
use Rattle.codec.proofs.Numbers.{short}
use Rattle.listing.proofs.Cells.{refined_none, refined_no, count_yes, bytes_none, bytes_no, last_none, last_yes, last_no, length_more}
use Rattle.listing.proofs.measure.Goals as goal
use Rattle.listing.proofs.measure.Goals.{then-entry-eq2, else-entry-eq2}

pub loop-i-init : goal.loop-i-init
loop-i-init c = let t = c.args.table.now in
    (omega arith, omega arith, ap length (sym (bytes_none t)), sym (last_none t), ap length (sym (refined_none t)), omega arith)

pub overflow_add-bytes : goal.overflow_add-bytes
overflow_add-bytes c = omega (arith, short (c.loop-i.i - c.loop-i.last), c.size-bytes.ensures)

pub loop-i-preserved : goal.loop-i-preserved
loop-i-preserved c = let t = c.args.table.now in
    let at = c.loop-i in
    elim c.if-entry-eq2.branch [
      | then-entry-eq2 w ↦ (
        omega (arith, w.last-is),
        omega (arith, w.size-bytes.ensures, w.bytes-is, short (at.i - at.last)),
        omega (arith, w.size-bytes.ensures, w.bytes-is, length_more t at.i at.last w.if-entry-eq2.true at.invariant.3),
        w.last-is ∙ sym (last_yes t at.i w.if-entry-eq2.true),
        omega (arith, w.count-is, at.invariant.4, count_yes t at.i w.if-entry-eq2.true),
        omega (arith, w.count-is),
      )
      | else-entry-eq2 w ↦ (
        omega (arith, w.last-is),
        omega (arith, w.bytes-is),
        w.bytes-is ∙ at.invariant.2 ∙ ap length (sym (bytes_no t at.i w.if-entry-eq2.false)),
        w.last-is ∙ at.invariant.3 ∙ sym (last_no t at.i w.if-entry-eq2.false),
        w.count-is ∙ at.invariant.4 ∙ ap length (sym (refined_no t at.i w.if-entry-eq2.false)),
        omega (arith, w.count-is),
      )
    ]

pub returns : goal.returns
returns c = let t = c.args.table.now in
    let at = c.loop-i in
    let e : at.i ≡ length t = omega arith in
    record { count = at.invariant.4 ∙ ap (λ (x : ℕ). length (refined_below t x)) e; bytes = at.invariant.2 ∙ ap (λ (x : ℕ). length (refined_bytes t x)) e; few = omega (arith, at.invariant.1) }
