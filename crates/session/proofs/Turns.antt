-- One turn of the session's loop, and its end. Assumes nothing.
use mathlib.Core.Path.{◌≡◌, refl, sym, ap, ◌∙◌}
use mathlib.Core.Bool.{Bool, true, false}
use mathlib.Core.List.{List, [], ◌∷◌}
use Prim.Native.Nat.{ℕ, ◌+◌, ◌-◌, ◌≤◌, ◌<◌}
use native.Mathlib.Numerals.{add-one}
use native.Mathlib.Omega.{arith}
use lib.Dec.{ltb}
use lib.ListN.{length, get_or, take, drop, length-drop, drop_of_length-le}
use lib.Seq.{take_all, drop-cons}
use borrow.Author.Tests.{ltb-true, ltb-false}
use Rattle.std.proofs.Common.{Result, Ok, Err, OnErr}
use Rattle.lines.specs.Reading.{parts, lines_of, EndsLine}
use Rattle.script.specs.Session.{State, no_wall, Reply, step_of, replies_from, replies}
use Rattle.script.specs.declared.done.Done.{Done}
use Rattle.script.specs.Steps.{held, Replied}
use Rattle.standard.specs.Answers.{Due}
use Rattle.session.specs.Program.{Left}
use Rattle.script.specs.Bounds.{input_bytes}

-- what is left has a first text
module _ (xs : List (List ℕ)) (n : ℕ) (y : List ℕ) (ys : List (List ℕ)) (e : drop n xs ≡ y ∷ ys) where
  first_place : n < length xs
  first_place = go (ltb n (length xs)) refl
    where
      go : (b : Bool) → ltb n (length xs) ≡ b → n < length xs
      go true t = ltb-true n (length xs) t
      go false t =
          absurd (let z : length (y ∷ ys) ≡ 0 = sym (ap length e) ∙ ap length (drop_of_length-le xs (ltb-false n (length xs) t)) in let w : ⊥ = omega arith in w)

  first_is : (get_or xs n [] ∷ drop (n + 1) xs) ≡ y ∷ ys
  first_is = rw add-one (sym (drop-cons xs n [] first_place) ∙ e)

  first_text : get_or xs n [] ≡ y
  first_text = let f = first_is in cc

  first_rest : drop (n + 1) xs ≡ ys
  first_rest = let f = first_is in cc

pub starts : (input : List ℕ) (n : ℕ) → length input ≤ input_bytes → n ≡ 0 → Left input n 0 no_wall
unfolding replies
starts input n l z = rw z (record { answered = omega arith; left = rw (take_all input_bytes input l) refl })

module _ (input : List ℕ) (n at r : ℕ) (s : State) (l : Left input n at s) (i : at < length input) (e : EndsLine input at r) where
  abbrev turned : Reply
  turned = step_of s (take (r - at) (drop at input))

  next : drop n (replies input) ≡ turned.printed ∷ replies_from turned.state (lines_of (drop (r + 1) input))
  unfolding replies_from
  next = l.left ∙ rw (e.line i) refl

  module _ (done : Done) (cs fs out : List ℕ) (w : Replied turned done cs fs out) where
    pub due : Due input n (take done.count out)
    due = record { place = first_place (replies input) n _ _ next; printed = first_text (replies input) n _ _ next ∙ sym w.said.bytes }

    pub turn : (m a : ℕ) → m ≡ n + 1 → a ≡ r + 1 → Left input m a (held done.hand cs fs)
    turn m a z y = rw (z, y) (record {
      answered = omega (arith, first_place (replies input) n _ _ next);
      left = first_rest (replies input) n _ _ next ∙ ap (λ (x : State). replies_from x (lines_of (drop (r + 1) input))) (sym w.state);
    })

pub ends : (input : List ℕ) (n at : ℕ) (s : State) → Left input n at s → length input ≤ at → n ≡ length (replies input)
unfolding replies_from parts
ends input n at s l h =
    let z : drop n (replies input) ≡ [] = l.left ∙ rw (drop_of_length-le input h) refl in
    omega (arith, l.answered, ap length z, length-drop n (replies input))

pub on_err : {T E P : Type 0} (r : Result T E) → P → OnErr r P
on_err (Ok x) p = tt
on_err (Err e) p = p
