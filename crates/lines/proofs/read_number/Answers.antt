-- `read_number` meets its contract: the digits that are left, with the value so far, say what the field is. Assumes nothing.
use mathlib.Core.Path.{◌≡◌, sym, ◌∙◌}
use Prim.Native.Nat.{◌+◌, ◌-◌, ◌*◌}
use native.Mathlib.Omega.{arith}
use lib.ListN.{length, get_or}
use borrow.Author.Tests.{eqb-true, eqb-false}
use Rattle.lines.proofs.Texts.{digit_told, scan_end, scan_stop, scan_large, scan_next, number_scan, no_scan, no_number}
use Rattle.lines.proofs.read_number.Goals as goal

pub returns-then-is_empty : goal.returns-then-is_empty
returns-then-is_empty c = let text = c.args.text.now in no_number text (eqb-true (length text) 0 (sym c.if-is_empty.ensures))

pub returns-then-not-is_ascii_digit : goal.returns-then-not-is_ascii_digit
returns-then-not-is_ascii_digit c = let text = c.args.text.now in
    let l = c.loop-byte in
    no_scan text l.byte-index l.value (omega arith) l.invariant (scan_stop l.value text l.byte-index (omega arith) (digit_told _ c.if-not-is_ascii_digit.ensures.value))

pub returns-in_err-checked_mul : goal.returns-in_err-checked_mul
returns-in_err-checked_mul c = let text = c.args.text.now in
    let l = c.loop-byte in
    c.from_residual.ensures
    ∙ no_scan text l.byte-index l.value (omega arith) l.invariant
    (scan_large l.value text l.byte-index (omega arith) (digit_told _ c.if-not-is_ascii_digit.ensures.value) (omega (arith, c.in_err-checked_mul.ensures)))

pub returns-in_err-value : goal.returns-in_err-value
returns-in_err-value c = let text = c.args.text.now in
    let l = c.loop-byte in
    c.from_residual-in_err-value.ensures
    ∙ no_scan text l.byte-index l.value (omega arith) l.invariant
    (scan_large l.value text l.byte-index (omega arith) (digit_told _ c.if-not-is_ascii_digit.ensures.value) (omega (arith, c.in_ok-checked_mul.ensures, c.in_err-value.ensures)))

pub loop-byte-preserved : goal.loop-byte-preserved
loop-byte-preserved c = let text = c.args.text.now in
    let l = c.loop-byte in
    let e : c.in_ok-value.value ≡ l.value * 10 + (get_or text l.byte-index 0 - 48) = omega (arith, c.in_ok-checked_mul.ensures, c.in_ok-value.ensures) in
    rw e (l.invariant ∙ scan_next l.value text l.byte-index (omega arith) (digit_told _ c.if-not-is_ascii_digit.ensures.value) (omega (arith, e)))

pub returns : goal.returns
returns c = let text = c.args.text.now in
    let l = c.loop-byte in
    sym (number_scan text (eqb-false (length text) 0 (sym c.if-is_empty.ensures)) ∙ l.invariant ∙ scan_end l.value text l.byte-index (omega arith))
