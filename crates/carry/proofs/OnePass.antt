-- What the heights are when a function has passed its own on. Assumes nothing.
use mathlib.Core.Path.{◌≡◌, ◌∙◌}
use mathlib.Core.Logic.{◌≢◌}
use mathlib.Core.Bool.{cond}
use mathlib.Core.List.{List}
use Prim.Native.Nat.{ℕ, ◌<◌}
use lib.Dec.{eqb, eqb_refl, eqb→eq}
use lib.IntN.{ℤ, pos, ◌+ℤ◌, ◌*ℤ◌}
use lib.ListN.{length}
use Rattle.facts.proofs.Tests.{T_true, T_false}
use Rattle.grid.specs.declared.Plan.{Plan}
use Rattle.grid.specs.Plan.{function_total}
use Rattle.carry.specs.Carry.{share, at, pass_on}
use Rattle.carry.proofs.Lists.{heights_length, heights_at}

pub passed_length : (p : Plan) (f : ℕ) (hs : List ℤ) → length (pass_on p f hs) ≡ function_total p
unfolding pass_on
passed_length p f hs = heights_length (function_total p) _

pub passed_at : (p : Plan) (f : ℕ) (hs : List ℤ) (g : ℕ) → g < function_total p
    → at (pass_on p f hs) g ≡ cond (eqb g f) (pos 0) (at hs g +ℤ at hs f *ℤ pos (share p f g))
unfolding pass_on
passed_at p f hs g l = heights_at (function_total p) (λ g. cond (eqb g f) (pos 0) (at hs g +ℤ at hs f *ℤ pos (share p f g))) g l

-- its own
pub passed_own : (p : Plan) (f : ℕ) (hs : List ℤ) → f < function_total p → at (pass_on p f hs) f ≡ pos 0
passed_own p f hs l = passed_at p f hs f l ∙ rw (T_true (eqb f f) (eqb_refl f))

-- and another's
pub passed_other : (p : Plan) (f : ℕ) (hs : List ℤ) (g : ℕ) → g < function_total p → g ≢ f → at (pass_on p f hs) g ≡ at hs g +ℤ at hs f *ℤ pos (share p f g)
passed_other p f hs g l n = passed_at p f hs g l ∙ rw (T_false (eqb g f) (λ t. n (eqb→eq g f t)))
