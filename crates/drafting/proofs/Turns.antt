-- One more mark written after those of a draft. Assumes nothing.
use mathlib.Core.Path.{◌≡◌, sym, ap, ◌∙◌}
use mathlib.Core.List.{List, [], ◌∷◌}
use Prim.Native.Nat.{ℕ, ◌+◌, ◌≤◌, ◌<◌}
use native.Mathlib.Numerals.{add-one}
use native.Mathlib.Omega.{arith}
use lib.ListN.{length, get_or, take, set}
use lib.Seq.{take-suc, take_all, length-take-le}
use Rattle.facts.specs.Writing.{written_at}
use Rattle.facts.proofs.Writing.{written_none, written_byte, written_more, length_written}

module _ (out marks : List ℕ) (at : ℕ) (room : at + length marks ≤ length out) where
  pub none_yet : out ≡ written_at out at (take 0 marks)
  none_yet = sym (written_none out at)

  pub one_more : (i : ℕ) → i < length marks → {list : List ℕ} → list ≡ written_at out at (take i marks)
      → set list (at + i) (get_or marks i 0) ≡ written_at out at (take (i + 1) marks)
  one_more i l {list} e =
      let n : length (take i marks) ≡ i = length-take-le i marks (omega arith) in
      let h : at + length (take i marks) ≤ length out = omega arith in
      let s : length (written_at out at (take i marks)) ≡ length out = length_written out at (take i marks) h in
      let q : at + i ≡ at + length (take i marks) = omega arith in
      ap (λ (x : List ℕ). set x (at + i) (get_or marks i 0)) e
      ∙ ap (λ (j : ℕ). set (written_at out at (take i marks)) j (get_or marks i 0)) q
      ∙ written_byte (written_at out at (take i marks)) (at + length (take i marks)) (get_or marks i 0) (omega arith)
      ∙ written_more out at (take i marks) h (get_or marks i 0 ∷ [])
      ∙ ap (written_at out at) (sym (rw add-one (take-suc marks i 0 l)))

  pub all_there : (i : ℕ) → length marks ≤ i → {list : List ℕ} → list ≡ written_at out at (take i marks) → list ≡ written_at out at marks
  all_there i l e = e ∙ ap (written_at out at) (take_all i marks l)
