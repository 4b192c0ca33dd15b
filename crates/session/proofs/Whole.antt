-- What `read` took is the first 16,384 bytes of the input, or all of it, so what is printed is the session of these. Assumes nothing.
use Rattle.std.proofs.Common.{◌≡◌, ℕ, ◌≤◌, ◌<◌, List, [], ◌++◌, Bool, true, false, None, Some, IfSome, arith, length, take, refl, sym, ap, subst, ◌∙◌, append-nil, take_all, take_at}
use lib.Dec.{ltb}
use borrow.Author.Tests.{ltb-true, ltb-false}
use Rattle.std.specs.declared.option.Option.{Option}
use Rattle.std.specs.Io.KnownBytes.{Consumes, IsAtEnd}
use Rattle.script.specs.Bounds.{input_bytes}
use Rattle.script.specs.Session.{session}
use Rattle.session.specs.Program.{printed_of}

taken : (all rest bytes : List ℕ) (n : ℕ) → n ≤ input_bytes → n ≡ length bytes → all ≡ bytes ++ rest → (n < input_bytes → rest ≡ []) → take input_bytes all ≡ bytes
taken all rest bytes n h l e end = ap (take input_bytes) e ∙ go (ltb n input_bytes) refl
  where
    go : (b : Bool) → ltb n input_bytes ≡ b → take input_bytes (bytes ++ rest) ≡ bytes
    go true t = ap (λ (z : List ℕ). take input_bytes (bytes ++ z)) (end (ltb-true n input_bytes t)) ∙ ap (take input_bytes) (append-nil bytes) ∙ take_all input_bytes bytes (omega arith)
    go false t = let f = ltb-false n input_bytes t in take_at bytes rest input_bytes (omega arith)

pub first_taken : (x y : Option (List ℕ)) (bytes : List ℕ) (n : ℕ) (P : List ℕ → Type 0) → n ≤ input_bytes → n ≡ length bytes → Consumes x y bytes
    → (n < input_bytes → IsAtEnd y) → P (session bytes) → IfSome x (λ all. P (printed_of all))
first_taken None y bytes n P h l e end p = tt
first_taken (Some all) None bytes n P h l e end p = absurd e
first_taken (Some all) (Some rest) bytes n P h l e end p = subst (λ (z : List ℕ). P (session z)) (sym (taken all rest bytes n h l e end)) p
