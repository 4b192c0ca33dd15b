-- The input's limit, shown on inputs of line feeds alone: each of the first 16,384 is answered, and no other. Assumes nothing.
use mathlib.Core.Path.{◌≡◌, refl, sym, ap, ◌∙◌}
use mathlib.Core.List.{List}
use Prim.Native.Nat.{ℕ, zero, suc, ◌+◌}
use lib.ListN.{length, take, replicate, length-replicate, replicate-append-replicate}
use lib.Seq.{take_at}
use Rattle.lines.specs.Reading.{parts, lines_of, same, kind_of, meaning_of}
use Rattle.script.specs.Session.{no_wall, step_of, replies_from, replies}

-- n line feeds
abbrev pub feeds : ℕ → List ℕ
feeds n = replicate n 10

take_feeds : (k m : ℕ) → take k (feeds (k + m)) ≡ feeds k
take_feeds k m = ap (take k) (sym (replicate-append-replicate k m 10)) ∙ take_at (feeds k) (feeds m) k (length-replicate k 10)

answered : (k : ℕ) → length (replies_from no_wall (lines_of (feeds k))) ≡ k
unfolding parts replies_from step_of meaning_of kind_of same
answered zero = refl
answered (suc k) = ap suc (answered k)

pub limit : (m : ℕ) → length (replies (feeds (16384 + m))) ≡ 16384
unfolding replies
limit m = ap (λ (x : List ℕ). length (replies_from no_wall (lines_of x))) (take_feeds 16384 m) ∙ answered 16384
