-- `write_all` meets its contract: whoever writes what is left has written all the numbers. Assumes nothing.
use native.Mathlib.Omega.{arith}
use Rattle.facts.proofs.Writing.{writes_none, writes_more}
use Rattle.codec.proofs.Lists.{numbers_next, numbers_longer, numbers_end, small_at_lem}
use Rattle.codec.proofs.write_all.Goals as goal

pub write-at-requires-clause-n_lt_number_limit : goal.write-at-requires-clause-n_lt_number_limit
write-at-requires-clause-n_lt_number_limit c = small_at_lem c.requires.small c.loop-n.n-index (omega arith)

pub write-at-requires-clause-n_in_bounds : goal.write-at-requires-clause-n_in_bounds
write-at-requires-clause-n_in_bounds c = omega (arith, numbers_longer c.args.numbers.now c.loop-n.n-index (omega arith), c.loop-n.invariant.0)

pub loop-n-preserved : goal.loop-n-preserved
loop-n-preserved c = let l = c.args.numbers.now in
    let at = c.loop-n in
    let w = c.write-at in
    let n = numbers_longer l at.n-index (omega arith) in (
      omega (arith, n, w.ensures.end, w.auto.out, at.invariant.0),
      λ f new v. at.invariant.1 f new (rw (numbers_next l at.n-index (omega arith)) (writes_more (omega (arith, n, at.invariant.0)) w.ensures v)),
    )

pub returns : goal.returns
returns c = let at = c.loop-n in
    at.invariant.1 _ _ (rw (numbers_end c.args.numbers.now at.n-index (omega arith)) (writes_none at.out at.at))
