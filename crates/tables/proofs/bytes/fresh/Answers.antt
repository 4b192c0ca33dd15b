-- `tables::bytes::fresh` meets its contract. The first level, and the part behind it. Assumes nothing.
use mathlib.Core.Path.{◌≡◌, sym, ap, ◌∙◌}
use mathlib.Core.List.{List, ◌++◌}
use Prim.Native.Nat.{ℕ, ◌+◌, ◌-◌, ◌≤◌}
use native.Mathlib.Omega.{arith}
use lib.ListN.{length, get_or, take, drop, replicate, length-append, length-drop, length-replicate, get_or-replicate, get_or-append}
use lib.Seq.{length-take-le}
use borrow.Author.Tests.{lt-ltb, le-ltb}
use Rattle.facts.specs.Ranges.{Written}
use Rattle.facts.proofs.Ranges.{mid_len, written_same, written_more, written_part}
use Rattle.tables.specs.Entries.{fresh_byte}
use Rattle.tables.proofs.bytes.fresh.Goals as goal

-- what `fill` leaves
filled : (xs ys : List ℕ) (m v : ℕ) → m ≡ length xs → ys ≡ replicate (length xs) v → Written xs ys 0 m (λ i. v)
filled xs ys m v l e = record {
  size = ap length e ∙ length-replicate (length xs) v;
  kept = λ i h. absurd (omega arith);
  made = λ i h k. ap (λ (z : List ℕ). get_or z i 0) e ∙ get_or-replicate (length xs) i v 0 (omega arith);
}

-- what was written through the front of a table
front : (t a : List ℕ) (n : ℕ) (f : ℕ → ℕ) → n ≤ length t → Written (take n t) a 0 n f → Written t (a ++ drop n t) 0 n f
front t a n f h w = let l : length a ≡ n = w.size ∙ length-take-le n t h in record {
  size = simp (length-append, length-drop) (omega arith);
  kept = λ i m. absurd (omega arith);
  made = λ i m k. get_or-append a (drop n t) 0 i (omega arith) ∙ w.made i m k;
}

pub returns : goal.returns
unfolding fresh_byte
returns c = let n = c.args.first in let t = c.args.table.now in let u = c.fill.new.self ++ drop n t in
    let one = written_same (λ i. 1) (fresh_byte n) (λ i l m. rw (lt-ltb i n m))
    (front t c.fill.new.self n (λ i. 1) c.requires (filled (take n t) c.fill.new.self n 1 (sym (length-take-le n t c.requires)) (c.fill.ensures.after (λ y e. e)))) in
    let e : n + (length u - n) ≡ length t = omega (arith, one.size, c.requires) in
    let rest = written_part u c.fill-2.new.self n (length u - n) (fresh_byte n) (omega (arith, one.size, c.requires))
    (written_same (λ i. 0) (λ j. fresh_byte n (n + j)) (λ i l m. rw (le-ltb (n + i) n (omega arith)))
    (filled _ c.fill-2.new.self (length u - n) 0 (sym (mid_len n u)) (c.fill-2.ensures.after (λ y e. e)))) in
    rw (← e) (written_more (omega arith) one rest)
