-- The lengths that a call answers lie within the lists that were lent to it. Assumes nothing.
use mathlib.Core.Path.{◌≡◌, sym, subst}
use mathlib.Core.List.{List}
use Prim.Native.Nat.{ℕ, ◌≤◌}
use native.Mathlib.Omega.{arith}
use Rattle.std.specs.Prelude.{Result, Ok, Err, IfOk}
use lib.ListN.{length, drop, length-append}
use Rattle.refusals.specs.declared.Refusal.{Refusal}
use Rattle.grid.specs.declared.Plan.{Plan}
use Rattle.grid.specs.Plan.{cell_total, function_total}
use Rattle.outcomes.specs.declared.Changes.{Changes}
use Rattle.outcomes.specs.Answers.{answer_of}
use Rattle.outcomes.specs.Calls.{Direction, By, changed, written, Outcome, refused, outcome}
use Rattle.outcomes.proofs.Results.{Made, refusal_of, accepted_as, accepted, made as made_by}
use Rattle.outcomes.specs.Meets.{outcome_of}

-- what a caller that reads the lists is asked
abbrev pub Within : Outcome → Type 0
Within o = (o.answer.cells ≤ length o.cell_list) × (o.answer.functions ≤ length o.function_list)

written_room : (xs list : List ℕ) → length xs ≤ length (written xs list)
unfolding written
written_room xs list = omega (arith, length-append xs (drop (length xs) list))

within : (d : Direction) (by : By) (p : Plan) (cs fs marks cl fl : List ℕ) (o : Outcome) → Made d by p cs fs marks cl fl o → Within o
unfolding refused accepted
within d by p cs fs marks cl fl o (refusal_of n e) = subst Within (sym e) (omega arith, omega arith)
within d by p cs fs marks cl fl o (accepted_as cs' fs' ec ef z a b e) =
    subst Within (sym e) (written_room (changed (cell_total p) cs cs') cl, written_room (changed (function_total p) fs fs') fl)

-- of a call's answer and lists, which are its outcome
pub answered : (d : Direction) (by : By) (p : Plan) (cs fs marks cl fl : List ℕ) (r : Result Changes Refusal) (cs' fs' cl' fl' : List ℕ)
    → outcome_of (answer_of r) cs' fs' cl' fl' ≡ outcome d by p cs fs marks cl fl
    → IfOk r (λ changes. (changes.cells ≤ length cl') × (changes.functions ≤ length fl'))
answered d by p cs fs marks cl fl (Ok changes) cs' fs' cl' fl' e =
    subst Within (sym e) (within d by p cs fs marks cl fl _ (made_by d by p cs fs marks cl fl))
answered d by p cs fs marks cl fl (Err refusal) cs' fs' cl' fl' e = tt
