-- `read` meets its contract: at each answer the groups passed say what the number is. Assumes nothing.
use native.Mathlib.Omega.{arith}
use Prim.Native.Nat.{◌≤◌, ◌<◌}
use Rattle.std.proofs.lemmas.Bool.Decides.{nat_tests}
use Rattle.codec.proofs.Groups.{read_none, read_one, read_cut, read_long, read_two, read_cut_2, read_three, read_other}
use Rattle.codec.proofs.read.Goals as goal

pub returns-in_err-low : goal.returns-in_err-low
returns-in_err-low c = rw c.from_residual.ensures (read_none c.args.s.now c.args.at c.in_err-low.ensures)

pub returns-then-low-lt128 : goal.returns-then-low-lt128
returns-then-low-lt128 c = read_one c.in_ok-low.ensures c.if-low-lt128.true

pub returns-in_err-mid : goal.returns-in_err-mid
returns-in_err-mid c = rw c.from_residual-in_err-mid.ensures (read_cut c.in_ok-low.ensures (omega arith) c.in_err-mid.ensures)

pub returns-then-mid-eq0 : goal.returns-then-mid-eq0
returns-then-mid-eq0 c = read_long c.in_ok-low.ensures (omega arith) c.in_ok-mid.ensures c.if-mid-eq0.true

pub returns-then-mid-lt128 : goal.returns-then-mid-lt128
returns-then-mid-lt128 c = read_two c.in_ok-low.ensures (omega arith) c.in_ok-mid.ensures c.if-mid-eq0.false c.if-mid-lt128.true

pub returns-in_err-high : goal.returns-in_err-high
returns-in_err-high c = rw c.from_residual-in_err-high.ensures (read_cut_2 c.in_ok-low.ensures (omega arith) c.in_ok-mid.ensures (omega arith) c.in_err-high.ensures)

pub returns-then-contains : goal.returns-then-contains
returns-then-contains c =
    let h = c.in_ok-high.high in
    let low : 1 ≤ h = grind (arith, nat_tests, c.contains.ensures.value, c.if-contains.true) in
    let above : h < 128 = grind (arith, nat_tests, c.contains.ensures.value, c.if-contains.true) in
    read_three c.in_ok-low.ensures (omega arith) c.in_ok-mid.ensures (omega arith) c.in_ok-high.ensures (λ e. omega arith) above

pub returns : goal.returns
returns c =
    let h = c.in_ok-high.high in
    let out : 1 ≤ h → 128 ≤ h = λ l. grind (arith, nat_tests, c.contains.ensures.value, c.if-contains.false) in
    read_other c.in_ok-low.ensures (omega arith) c.in_ok-mid.ensures (omega arith) c.in_ok-high.ensures out
