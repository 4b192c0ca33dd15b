-- `size_all` meets its contract: what is counted and what is left are all the bytes. Assumes nothing.
use mathlib.Core.Path.{◌≡◌, refl}
use native.Mathlib.Omega.{arith}
use lib.ListN.{length, get_or, drop}
use Rattle.codec.specs.Numbers.{encode_numbers}
use Rattle.codec.proofs.Numbers.{short}
use Rattle.codec.proofs.Lists.{numbers_longer, numbers_end, small_at_lem}
use Rattle.codec.proofs.size_all.Goals as goal

pub size-bytes-requires : goal.size-bytes-requires
size-bytes-requires c = small_at_lem c.requires.small c.loop-n.n-index (omega arith)

pub overflow_add-bytes : goal.overflow_add-bytes
overflow_add-bytes c = omega (arith, c.size-bytes.ensures, short (get_or c.args.numbers.now c.loop-n.n-index 0), c.requires.numbers_len_bound)

pub loop-n-preserved : goal.loop-n-preserved
loop-n-preserved c = let l = c.args.numbers.now in
    let at = c.loop-n in
    let n = numbers_longer l at.n-index (omega arith) in
    (omega (arith, n, c.size-bytes.ensures), omega (arith, c.size-bytes.ensures, short (get_or l at.n-index 0)))

pub returns : goal.returns
returns c = let at = c.loop-n in
    let l = c.args.numbers.now in
    let e : length (encode_numbers (drop at.n-index l)) ≡ 0 = rw (numbers_end l at.n-index (omega arith)) refl in
    omega (arith, at.invariant.0)
