-- `tables::bytes::tally` meets its contract: the sum of the tests is the tally. Assumes nothing.
use mathlib.Core.Path.{◌≡◌, refl, ◌∙◌}
use mathlib.Core.Bool.{cond}
use mathlib.Core.List.{List}
use Prim.Native.Nat.{ℕ, zero, suc, ◌≤◌, ◌<◌}
use native.Mathlib.Numerals.{add-one}
use native.Mathlib.Omega.{arith}
use lib.Dec.{eqb}
use lib.ListN.{length, take}
use lib.Seq.{take_all}
use borrow.Author.Rules.{rules}
use borrow.Author.Tests.{tests}
use Rattle.std.specs.List.{sum_by}
use Rattle.std.proofs.lemmas.List.Sums.{count_by-le-length, sum_by_more}
use Rattle.std.proofs.lemmas.Iterator.{YieldsList-from_slice, YieldsList-from_map}
use Rattle.std.proofs.lemmas.Iterator.Consumers.{fits_by_from_yields_list}
use Rattle.facts.specs.Bounded.{sum}
use Rattle.mesh.specs.Mesh.{tally}
use Rattle.tables.specs.Entries.{byte_is}
use Rattle.tables.proofs.bytes.tally.Goals as goal

-- 1 for a byte that is counted
abbrev is : ℕ → ℕ → ℕ
is byte x = cond (eqb x byte) 1 0

so_far : (t : List ℕ) (byte n : ℕ) → n ≤ length t → sum_by (is byte) (take n t) ≡ tally n (byte_is t byte)
unfolding tally sum byte_is
so_far t byte zero h = refl
so_far t byte (suc n) h = let l : n < length t = omega arith in
    rw (← add-one n) (sum_by_more (is byte) t n 0 l ∙ rw (so_far t byte n (omega arith)) refl)

counted : (t : List ℕ) (byte : ℕ) → sum_by (is byte) t ≡ tally (length t) (byte_is t byte)
counted t byte = let e : take (length t) t ≡ t = take_all (length t) t (omega arith) in rw e at (so_far t byte (length t) (omega arith))

pub sum-requires-clause-fits : goal.sum-requires-clause-fits
sum-requires-clause-fits c = fits_by_from_yields_list (is c.args.byte) c.args.table.now _ _ (YieldsList-from_map _ (is c.args.byte) (YieldsList-from_slice c.args.table.now cc) c.map.ensures.closure (λ x r q k. search (rules, tests)))
    (omega (arith, count_by-le-length (λ x. eqb x c.args.byte) c.args.table.now, c.requires))

pub returns : goal.returns
returns c = let e : c.sum.result ≡ sum_by (is c.args.byte) c.args.table.now = search rules in e ∙ counted c.args.table.now c.args.byte
