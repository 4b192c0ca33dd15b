-- What `print` has written after a turn is a longer front of the text.
use Rattle.std.proofs.Common.{◌≡◌, ℕ, ◌≤◌, List, arith, ◌-◌, ◌+◌, ◌++◌, ◌∙◌, length, take, drop, sym, ap, subst, take_all, drop-drop, length-drop}
use lib.Seq.{take-add}
use Rattle.std.specs.Io.KnownBytes.{Appends}
use Rattle.std.proofs.KnownBytes.{Appends-trans}
use Rattle.standard.proofs.print.Goals as goal

-- n more bytes of the text are written, and the rest is shorter by these
record Shorter (text rest new : List ℕ) (n : ℕ) : Type 0 where
  inside : length new ≤ length text
  behind : new ≡ drop (length text - length new) text
  written : take (length text - length rest) text ++ take n rest ≡ take (length text - length new) text

shorter : (text rest : List ℕ) (n : ℕ) → length rest ≤ length text → rest ≡ drop (length text - length rest) text → n ≤ length rest
    → Shorter text rest (take (length rest - n) (drop n rest)) n
shorter text rest n inside behind fits =
    let before = length text - length rest in
    let new = take (length rest - n) (drop n rest) in
    let whole : new ≡ drop n rest = take_all (length rest - n) (drop n rest) (omega (arith, length-drop n rest)) in
    let long : length new ≡ length rest - n = ap length whole ∙ length-drop n rest in
    let after : before + n ≡ length text - length new = omega arith in
    record {
      inside = omega arith;
      behind = whole ∙ ap (drop n) behind ∙ drop-drop n before text ∙ ap (λ k. drop k text) after;
      written = ap (λ (l : List ℕ). take before text ++ take n l) behind ∙ sym (take-add before n text) ∙ ap (λ k. take k text) after;
    }

-- the loop goes on by the count m, which is the one that the write answered
pub loop-rest-preserved : goal.loop-rest-preserved
loop-rest-preserved g c =
    let rest = c.loop-rest.rest.now in
    let same : (m : ℕ) → m ≡ c.in_ok-n.n → Shorter c.args.text.now rest (take (length rest - m) (drop m rest)) c.in_ok-n.n =
    λ m e. rw e (shorter c.args.text.now rest c.in_ok-n.n c.loop-rest.invariant.inside c.loop-rest.invariant.behind c.in_ok-n.ensures.bound) in
    record {
      behind = (same _ (omega arith)).behind;
      inside = (same _ (omega arith)).inside;
      none_failed = c.in_ok-n.ensures.none ∙ c.loop-rest.invariant.none_failed;
      written = subst (Appends _ _) (same _ (omega arith)).written (Appends-trans _ _ _ _ _ c.loop-rest.invariant.written c.in_ok-n.ensures.bytes);
    }
