-- What was lent may be longer than a session's walls and answers: what stands behind does not count. Assumes nothing.
use mathlib.Core.Path.{◌≡◌, refl, subst, ◌∙◌}
use mathlib.Core.List.{List, ◌++◌}
use Prim.Native.Nat.{ℕ}
use native.Mathlib.Omega.{arith}
use lib.ListN.{length, take, length-append}
use Rattle.std.proofs.lemmas.List.{take-take, take-append-le}
use Rattle.std.specs.Prelude.{MatchOption}
use Rattle.std.proofs.Common.{Some, None}
use Rattle.std.specs.declared.option.Option.{Option}
use Rattle.script.specs.Session.{Reply}
use Rattle.script.specs.declared.hand.Hand.{Hand}
use Rattle.script.specs.declared.done.Done.{Done}
use Rattle.script.specs.Steps.{held, Replied}
use Rattle.script.specs.Bounds.{wall_cells, wall_functions}
use Rattle.script.proofs.Replies.{wall_same}

-- what an `Option` that was unwrapped says of its value
pub unwrapped : {A : Type 0} (o : Option A) (y : A) (P : Type 0) (Q : A → Type 0) → MatchOption o P Q → o ≡ Some y → Q y
unwrapped o y P Q m e = subst (λ x. MatchOption x P Q) e m

-- the fronts of both tables are the state that the tables are
pub held_fronts : (hand : Option Hand) (cs fs front first : List ℕ) → front ≡ take wall_cells cs → first ≡ take wall_functions fs
    → held hand front first ≡ held hand cs fs
held_fronts None cs fs front first e f = refl
held_fronts (Some h) cs fs front first e f =
    rw (e, f) (wall_same h.plan (take-take h.cells wall_cells cs h.cells_bound) (take-take h.functions wall_functions fs h.functions_bound))

module _ (cs fs more rest : List ℕ) (a : length cs ≡ wall_cells) (b : length fs ≡ wall_functions) where
  held_longer : (hand : Option Hand) → held hand (cs ++ more) (fs ++ rest) ≡ held hand cs fs
  held_longer None = refl
  held_longer (Some h) = wall_same h.plan (take-append-le h.cells cs more (omega (arith, h.cells_bound))) (take-append-le h.functions fs rest (omega (arith, h.functions_bound)))

  pub replied_longer : (r : Reply) (done : Done) (out behind : List ℕ) → Replied r done cs fs out → Replied r done (cs ++ more) (fs ++ rest) (out ++ behind)
  replied_longer r done out behind w =
      let same = take-append-le done.count out behind w.said.inside.0 in
      record {
        state = held_longer done.hand ∙ w.state;
        said = record {
          bytes = same ∙ w.said.bytes;
          some = w.said.some;
          inside = (omega (arith, w.said.inside.0, length-append out behind), rw same w.said.inside.1);
        };
      }
