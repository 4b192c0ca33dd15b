-- `read_field` meets its contract: the field is the part up to the next space. Assumes nothing.
use mathlib.Core.Path.{◌≡◌, ap, ◌∙◌}
use Prim.Native.Nat.{ℕ, ◌+◌, ◌-◌}
use native.Mathlib.Omega.{arith}
use lib.ListN.{length, take, drop}
use Rattle.lines.specs.Reading.{up_to, number_of}
use Rattle.lines.proofs.Texts.{take_up_to, up_to_inside}
use Rattle.lines.proofs.read_field.Goals as goal

pub slice_bounds-read_number-end : goal.slice_bounds-read_number-end
slice_bounds-read_number-end c = omega (arith, up_to_inside 32 c.args.line.now (c.args.at + 1) (omega (arith, c.requires)))

pub returns : goal.returns
returns c = let a = c.args in
    let line = a.line.now in
    let e : c.find-end.result ≡ a.at + 1 + length (up_to 32 (drop (a.at + 1) line)) = c.find-end.ensures in
    let n : c.find-end.result - (a.at + 1) ≡ length (up_to 32 (drop (a.at + 1) line)) = omega (arith, e) in
    record {
      number = c.read_number-number.ensures ∙ ap number_of (ap (λ (x : ℕ). take x (drop (a.at + 1) line)) n ∙ take_up_to 32 (drop (a.at + 1) line));
      end = e;
      inside = omega (arith, e, up_to_inside 32 line (a.at + 1) (omega (arith, c.requires)));
    }
