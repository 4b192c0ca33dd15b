-- What is handed to standard output, put together: each text that is due lengthens what was handed over before, and when the last
-- line is answered that is the whole session. Assumes nothing.
use mathlib.Core.Path.{◌≡◌, refl, sym, ap, ap₂, subst, ◌∙◌}
use mathlib.Core.List.{List, [], ◌∷◌, ◌++◌, append_assoc, append-nil}
use Prim.Native.Nat.{ℕ, ◌+◌, ◌≤◌}
use native.Mathlib.Numerals.{add-one}
use native.Mathlib.Omega.{arith}
use lib.ListN.{length, get_or, take}
use lib.Seq.{take-suc, take-length, take-add, take-append-le}
use Rattle.std.proofs.Common.{drop, length-append, take-append-drop, take_at, drop_at}
use Rattle.std.specs.declared.option.Option.{Option}
use Rattle.std.specs.Io.KnownBytes.{Appends}
use Rattle.std.proofs.KnownBytes.{Appends-nil, Appends-trans}
use Rattle.script.specs.Session.{replies, joined, session}
use Rattle.standard.specs.Answers.{Due, printed, AllHanded}
use Rattle.standard.specs.Bytes.{AppendsFront}

joined_append : (xs ys : List (List ℕ)) → joined (xs ++ ys) ≡ joined xs ++ joined ys
unfolding joined
joined_append [] ys = refl
joined_append (x ∷ xs) ys = ap (λ (z : List ℕ). x ++ z) (joined_append xs ys) ∙ sym (append_assoc x (joined xs) (joined ys))

joined_one : (x : List ℕ) → joined (x ∷ []) ≡ x
unfolding joined
joined_one x = append-nil x

-- before the first answer
pub none_printed : (input : List ℕ) → printed input 0 ≡ []
unfolding joined
none_printed input = refl

-- what is due is the answer to line n, whichever way round that is said
due_is : {input : List ℕ} {n : ℕ} {text : List ℕ} → Due input n text → get_or (replies input) n [] ≡ text
due_is d = cc

pub next_printed : (input : List ℕ) (n : ℕ) (text : List ℕ) → Due input n text → printed input (n + 1) ≡ printed input n ++ text
next_printed input n text d =
    ap (λ (k : ℕ). printed input k) (add-one n)
    ∙ ap joined (take-suc (replies input) n [] d.place)
    ∙ joined_append (take n (replies input)) (get_or (replies input) n [] ∷ [])
    ∙ ap (λ (z : List ℕ). printed input n ++ z) (joined_one (get_or (replies input) n []) ∙ due_is d)

-- m is one answer more than n, and what is printed then grows by the text
pub one_more : (input : List ℕ) (n m : ℕ) (text : List ℕ) → Due input n text → m ≡ n + 1
    → (m ≡ n + 1) × (printed input m ≡ printed input n ++ text)
one_more input n m text d e = (e, ap (λ (k : ℕ). printed input k) e ∙ next_printed input n text d)

pub all_handed : (input : List ℕ) (n : ℕ) → n ≡ length (replies input) → AllHanded input n
unfolding session
all_handed input n e = record { count = e; bytes = ap (λ (k : ℕ). printed input k) e ∙ ap joined (take-length (replies input)) }

-- ---- what stands in the output

pub none_written : (x : Option (List ℕ)) (input : List ℕ) (n : ℕ) → n ≡ 0 → Appends x x (printed input n)
none_written x input n e = subst (Appends x x) (sym (ap (λ (k : ℕ). printed input k) e ∙ none_printed input)) (Appends-nil x)

-- the answer that is due is the session's next part
session_parts : (input : List ℕ) (n : ℕ) (text : List ℕ) → Due input n text
    → session input ≡ (printed input n ++ text) ++ joined (drop (n + 1) (replies input))
unfolding session
session_parts input n text d =
    ap joined (sym (take-append-drop (n + 1) (replies input)))
    ∙ joined_append (take (n + 1) (replies input)) (drop (n + 1) (replies input))
    ∙ ap (λ (z : List ℕ). z ++ joined (drop (n + 1) (replies input))) (next_printed input n text d)

-- a front of the answer that is due, after the answers before it, is a front of the session
front_parts : (a b c : List ℕ) (k : ℕ) → k ≤ length b → a ++ take k b ≡ take (length a + k) ((a ++ b) ++ c)
front_parts a b c k h =
    ap (λ (z : List ℕ). a ++ z) (sym (take-append-le k b c h))
    ∙ ap₂ (λ (y z : List ℕ). y ++ take k z) (sym (take_at a (b ++ c) (length a) refl)) (sym (drop_at a (b ++ c) (length a) refl))
    ∙ sym (take-add (length a) k (a ++ (b ++ c)))
    ∙ ap (take (length a + k)) (sym (append_assoc a b c))

pub front_written : (x y z : Option (List ℕ)) (input : List ℕ) (n : ℕ) (text : List ℕ) → Due input n text
    → Appends x y (printed input n) → AppendsFront y z text → AppendsFront x z (session input)
front_written x y z input n text d p q =
    let k = q.0 in
    let parts = session_parts input n text d in
    let rest = joined (drop (n + 1) (replies input)) in
    let inside : length (printed input n) + k ≤ length (session input) =
    omega (arith, q.1, ap length parts, length-append (printed input n ++ text) rest, length-append (printed input n) text) in
    let front = front_parts (printed input n) text rest k q.1 ∙ ap (take (length (printed input n) + k)) (sym parts) in
    (length (printed input n) + k, inside, subst (Appends x z) front (Appends-trans x y z _ _ p q.2))
