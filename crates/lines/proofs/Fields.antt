-- Laws of the fields of a line, by which it is counted and stored. Assumes nothing.
use mathlib.Core.Path.{◌≡◌, refl, sym, ap, ◌∙◌}
use mathlib.Core.Bool.{Bool, true, false, cond, ◌&&◌, and-true}
use mathlib.Core.List.{List, [], ◌∷◌, ◌++◌, map}
use Prim.Native.Nat.{ℕ, ◌+◌, ◌≤◌, ◌<◌}
use native.Mathlib.Numerals.{add-one}
use native.Mathlib.Omega.{arith}
use lib.Dec.{eqb, ltb, eqb→eq}
use lib.ListN.{length, set, take, drop, drop_of_length-le, length-map, length-append}
use lib.Seq.{drop-cons, drop-drop, take-suc-set, append_snoc}
use Rattle.std.specs.Prelude.{Option, Some, None, IsSome}
use Rattle.lines.specs.declared.Kind.{Kind}
use Rattle.lines.specs.declared.Kind.TheVariants.{Unreadable, Wall, Split, Join, SplitFunctions, JoinFunctions}
use Rattle.lines.specs.declared.Field.{Field}
use borrow.Author.Tests.{le-leb, lt-leb, leb-true, ltb-true, ltb-false}
use Rattle.facts.proofs.Tests.{or_e, true_T}
use Rattle.lines.specs.Reading.{up_to, fields_of, value_of, is_number, number_of, all_numbers, kind_of, fits, no_meaning, meaning_of, meaning, meaning_in, Reads}
use Rattle.lines.specs.Steps.{fields_behind, ReadsField}
use Rattle.lines.proofs.Output.{counts}
use Rattle.lines.proofs.Texts.{fields_cut, take_up_to, and-false}

-- ---- what a field that was read says

number_is : (f : List ℕ) (v : ℕ) → number_of f ≡ Some v → (is_number f ≡ true) × (value_of f ≡ v)
number_is f v e = go (is_number f) refl
  where
    go : (b : Bool) → is_number f ≡ b → (is_number f ≡ true) × (value_of f ≡ v)
    go true t = (t, let g : Some (value_of f) ≡ Some v = rw t at e in cc)
    go false t = absurd (let g : None ≡ Some v = rw t at e in cc)

number_not : (f : List ℕ) → number_of f ≡ None → is_number f ≡ false
number_not f e = go (is_number f) refl
  where
    go : (b : Bool) → is_number f ≡ b → is_number f ≡ false
    go true t = absurd (let g : Some (value_of f) ≡ None = rw t at e in cc)
    go false t = t

-- ---- the fields from a space on

pub fields_end : (s : List ℕ) (at : ℕ) → length s ≤ at → fields_behind (drop at s) ≡ []
fields_end s at h = rw (drop_of_length-le s h) refl

pub fields_inside : (s : List ℕ) (at : ℕ) → 0 < length (fields_behind (drop at s)) → at < length s
fields_inside s at h = go (ltb at (length s)) refl
  where
    go : (b : Bool) → ltb at (length s) ≡ b → at < length s
    go true e = ltb-true at (length s) e
    go false e = absurd (omega (arith, ap length (fields_end s at (ltb-false at (length s) e))))

module _ (s : List ℕ) (at : ℕ) (r : Field) (h : at < length s) (f : ReadsField s at r) where
  pub next_field : fields_behind (drop at s) ≡ up_to 32 (drop (at + 1) s) ∷ fields_behind (drop r.end s)
  next_field =
      ap fields_behind (drop-cons s at 0 h)
      ∙ ap (λ (x : ℕ). fields_of (drop x s)) (sym (add-one at))
      ∙ fields_cut (drop (at + 1) s)
      ∙ ap (λ (x : List ℕ). up_to 32 (drop (at + 1) s) ∷ fields_behind x) (drop-drop (length (up_to 32 (drop (at + 1) s))) (at + 1) s)
      ∙ ap (λ (x : ℕ). up_to 32 (drop (at + 1) s) ∷ fields_behind (drop x s)) (sym f.end)

  pub next_length : length (fields_behind (drop at s)) ≡ length (fields_behind (drop r.end s)) + 1
  next_length = ap length next_field ∙ sym (add-one _)

  pub next_none : r.number ≡ None → all_numbers (fields_behind (drop at s)) ≡ false
  unfolding all_numbers
  next_none e = ap all_numbers next_field ∙ rw (number_not _ (sym f.number ∙ e)) refl

  pub next_some : all_numbers (fields_behind (drop at s)) ≡ true → IsSome r.number
  next_some g = go r.number refl
    where
      go : (x : Option ℕ) → r.number ≡ x → IsSome x
      go None e = absurd (let w : true ≡ false = sym g ∙ next_none e in cc)
      go (Some v) e = refl

  module _ (v : ℕ) (e : r.number ≡ Some v) where
    pub next_good : all_numbers (fields_behind (drop at s)) ≡ all_numbers (fields_behind (drop r.end s))
    unfolding all_numbers
    next_good = ap all_numbers next_field ∙ rw (number_is _ v (sym f.number ∙ e)).0 refl

    pub next_value : map value_of (fields_behind (drop at s)) ≡ v ∷ map value_of (fields_behind (drop r.end s))
    next_value = ap (map value_of) next_field ∙ ap (λ (x : ℕ). x ∷ map value_of (fields_behind (drop r.end s))) (number_is _ v (sym f.number ∙ e)).1

-- ---- counting

pub none_good : all_numbers [] ≡ true
unfolding all_numbers
none_good = refl

-- ---- storing: the first i numbers are there, and the others are still to come

pub stored_more : (ns more : List ℕ) (i v : ℕ) (all : List ℕ) → i < length ns → take i ns ++ (v ∷ more) ≡ all → take (i + 1) (set ns i v) ++ more ≡ all
stored_more ns more i v all h t = rw (add-one, take-suc-set ns i v h, append_snoc) t

-- ---- the whole line

pub fits_room : (k : Kind) (n : ℕ) → fits k n ≡ true → n ≤ 64
fits_room Unreadable n e = absurd cc
fits_room Wall n e = or_e (eqb n 6) _ (true_T _ e) (λ t. omega (arith, eqb→eq n 6 t)) (λ t. omega (arith, eqb→eq n 8 t))
fits_room Split n e = leb-true n 64 e
fits_room Join n e = leb-true n 64 e
fits_room SplitFunctions n e = leb-true n 64 e
fits_room JoinFunctions n e = leb-true n 64 e

-- a line whose first field ends at e
module _ (s : List ℕ) (e : ℕ) (k : Kind) (he : e ≡ 0 + length (up_to 32 s)) (hk : k ≡ kind_of (take e s)) where
  abbrev others : List (List ℕ)
  others = fields_behind (drop e s)

  fields_at : fields_of s ≡ take e s ∷ others
  fields_at =
      let l : e ≡ length (up_to 32 s) = omega arith in
      rw l (fields_cut s ∙ ap (λ (x : List ℕ). x ∷ fields_behind (drop (length (up_to 32 s)) s)) (sym (take_up_to 32 s)))

  meant : meaning s ≡ cond (fits k (length others) && all_numbers others) (record { kind = k; numbers = map value_of others }) no_meaning
  unfolding meaning_of
  meant = ap meaning_of fields_at ∙ rw (← hk) refl

  module _ (old : List ℕ) (room : 64 ≤ length old) where
    nothing : meaning s ≡ no_meaning → Reads s old (record { kind = Unreadable; count = 0 }) old
    nothing e =
        let m : meaning_in (length old) s ≡ no_meaning = rw (le-leb 64 (length old) room) e in
        record { kind = rw m refl; count = rw m refl; buffer = rw m refl; inside = counts 0 old (omega arith) }

    pub line_bad : all_numbers others ≡ false → Reads s old (record { kind = Unreadable; count = 0 }) old
    line_bad b = nothing (meant ∙ rw (b, and-false (fits k (length others))) refl)

    module _ (n : ℕ) (good : (all_numbers others ≡ true) × (n ≡ length others)) where
      pub line_not : fits k n ≡ false → Reads s old (record { kind = Unreadable; count = 0 }) old
      line_not t = nothing (meant ∙ rw (good.0, and-true (fits k (length others)), ← good.1, t) refl)

      pub line_read : (new : List ℕ) → fits k n ≡ true → new ≡ map value_of others ++ drop n old → Reads s old (record { kind = k; count = n }) new
      line_read new t b =
          let m : meaning_in (length old) s ≡ record { kind = k; numbers = map value_of others } =
          rw (le-leb 64 (length old) room) (meant ∙ rw (good.0, and-true (fits k (length others)), ← good.1, t) refl) in
          let l : length (map value_of others) ≡ n = length-map others value_of ∙ sym good.1 in
          record {
            kind = rw m refl;
            count = rw m (sym l);
            buffer = rw m (rw l b);
            inside = counts n new (omega (arith, ap length b, length-append (map value_of others) (drop n old), l));
          }

pub no_room : (s old : List ℕ) → length old < 64 → Reads s old (record { kind = Unreadable; count = 0 }) old
no_room s old h =
    let m : meaning_in (length old) s ≡ no_meaning = rw (lt-leb 64 (length old) h) refl in
    record { kind = rw m refl; count = rw m refl; buffer = rw m refl; inside = counts 0 old (omega arith) }
