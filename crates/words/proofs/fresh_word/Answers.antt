-- `words::fresh_word` meets its contract. Assumes nothing.
use Prim.Native.Nat.{◌≤◌}
use native.Mathlib.Omega.{arith}
use Rattle.words.proofs.First.{shift_some, word_none, word_full, word_part}
use Rattle.words.proofs.fresh_word.Goals as goal

pub returns-in_default : goal.returns-in_default
returns-in_default c = let n : ¬ (c.args.at ≤ c.args.first) = c.in_default.ensures in word_none _ _ (omega (arith, n))

pub returns-then-left-ge64 : goal.returns-then-left-ge64
returns-then-left-ge64 c = word_full _ _ (omega (arith, c.in-Some.ensures.1))

pub overflow_sub-result : goal.overflow_sub-result
overflow_sub-result c = shift_some _ c.if-left-ge64.false

pub returns : goal.returns
returns c = let e = c.in-Some.ensures.1 in rw e (word_part _ _ (omega (arith, e)))
