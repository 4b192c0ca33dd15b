-- `write` meets its contract: its stores are those of the number's bytes. Assumes nothing.
use mathlib.Core.Path.{refl}
use Prim.Native.Nat.{◌+◌, ◌/◌, ◌%◌}
use native.Mathlib.Omega.{arith}
use Rattle.facts.proofs.Writing.{writes, two_stores, three_stores}
use Rattle.codec.proofs.Groups.{bytes_one, bytes_two, bytes_three}
use Rattle.codec.proofs.write.Goals as goal

pub returns-then-n-lt128 : goal.returns-then-n-lt128
returns-then-n-lt128 c = let e = bytes_one c.args.n c.if-n-lt128.true in
    writes c.args.out.now c.args.at _ _ _ e c.requires.n_in_bounds refl

pub returns-then-n-lt16384 : goal.returns-then-n-lt16384
returns-then-n-lt16384 c = let e = bytes_two c.args.n (omega arith) c.if-n-lt16384.true in
    let a = c.args in
    rw (← two_stores a.out.now a.at (128 + a.n % 128) (a.n / 128)) (writes a.out.now a.at _ _ _ e c.requires.n_in_bounds refl)

pub returns : goal.returns
returns c = let e = bytes_three c.args.n (omega arith) (omega arith) in
    let a = c.args in
    rw (← three_stores a.out.now a.at (128 + a.n % 128) (128 + a.n / 128 % 128) (a.n / 16384)) (writes a.out.now a.at _ _ _ e c.requires.n_in_bounds refl)
