-- What a call makes of the wall in hand, and what a line that was read asks, is what Session.antt of `script` says. Assumes nothing.
use mathlib.Core.Path.{◌≡◌, refl, sym, ap, ◌∙◌}
use mathlib.Core.Bool.{Bool, true, false, cond}
use mathlib.Core.List.{List, ◌++◌}
use Prim.Native.Nat.{ℕ, ◌≤◌}
use lib.Dec.{eqb, ltb}
use lib.ListN.{length, take, drop, length-replicate}
use lib.Seq.{take_at}
use Rattle.std.proofs.Common.{Some, None}
use borrow.Author.Tests.{le-leb}
use Rattle.grid.specs.declared.Plan.{Plan}
use Rattle.grid.specs.Plan.{cell_total, function_total}
use Rattle.outcomes.specs.Calls.{Direction, coarsen, By, functions, changed, Outcome, refused, settle, refusal, outcome}
use Rattle.outcomes.proofs.Results.{written_take}
use Rattle.lines.specs.declared.Kind.{Kind}
use Rattle.lines.specs.declared.Kind.TheVariants.{Unreadable, Wall, Split, Join, SplitFunctions, JoinFunctions}
use Rattle.lines.specs.declared.Line.{Line}
use Rattle.lines.specs.Reading.{Meaning, meaning, meaning_in, Reads}
use Rattle.lines.specs.Writing.{question}
use Rattle.script.specs.Session.{State, no_wall, blank, shown, calling, obey, step_of}
use Rattle.script.specs.declared.hand.Hand.{Hand}
use Rattle.script.specs.declared.done.Done.{Done}
use Rattle.script.specs.Steps.{held, Said, Replied}
use Rattle.script.proofs.Replies.{said_as, wall_same, held_front}
use Rattle.replies.specs.Steps.{direction_of, by_of, Answered}

-- ---- a call: what it makes of the tables and prints does not hang on what the lent lists held

abbrev Alike : Outcome → Outcome → Type 0
Alike o q = (o.cells ≡ q.cells) × (o.functions ≡ q.functions) × (shown o ≡ shown q)

alike_cond : (b : Bool) (x x' y y' : Outcome) → Alike x x' → Alike y y' → Alike (cond b x y) (cond b x' y')
alike_cond true x x' y y' h g = h
alike_cond false x x' y y' h g = g

refused_alike : (n : ℕ) (cs fs cl fl cl' fl' : List ℕ) → Alike (refused n cs fs cl fl) (refused n cs fs cl' fl')
unfolding refused
refused_alike n cs fs cl fl cl' fl' = (refl, refl, refl)

settle_alike : (p : Plan) (cs fs cl fl cl' fl' cs' fs' : List ℕ) → length cl ≡ length cl' → length fl ≡ length fl'
    → Alike (settle p cs fs cl fl cs' fs') (settle p cs fs cl' fl' cs' fs')
unfolding settle
settle_alike p cs fs cl fl cl' fl' cs' fs' a b =
    let dc = changed (cell_total p) cs cs' in
    let df = changed (function_total p) fs fs' in
    rw (a, b)
    (alike_cond (ltb (length cl') (length dc)) _ _ _ _ (refused_alike 10 cs fs cl fl cl' fl')
    (alike_cond (ltb (length fl') (length df)) _ _ _ _ (refused_alike 11 cs fs cl fl cl' fl')
    (refl, refl, rw (written_take dc cl, written_take dc cl', written_take df fl, written_take df fl') refl)))

pub alike : (d : Direction) (by : By) (p : Plan) (cs fs marks cl fl cl' fl' : List ℕ) → length cl ≡ length cl' → length fl ≡ length fl'
    → Alike (outcome d by p cs fs marks cl fl) (outcome d by p cs fs marks cl' fl')
unfolding outcome
alike d by p cs fs marks cl fl cl' fl' a b =
    alike_cond (eqb (refusal d by p cs fs marks) 0) _ _ _ _
    (settle_alike p cs fs cl fl cl' fl' _ _ a b)
    (refused_alike (refusal d by p cs fs marks) cs fs cl fl cl' fl')

-- ---- mark lines

-- a mark line before any wall
pub called_none : (d : Direction) (by : By) (marks : List ℕ) (done : Done) (cs fs out : List ℕ)
    → done.hand ≡ None → Said question done.count out → Replied (calling d by no_wall marks) done cs fs out
unfolding calling
called_none d by marks done cs fs out e s = record { state = rw e refl; said = s }

-- a mark line on the wall in hand: the call had the parts of the tables and lists that are the wall's
pub called : (d : Direction) (by : By) (marks : List ℕ) (h : Hand) (done : Done) (cs fs cl fl cs' fs' out : List ℕ) → done.hand ≡ Some h
    → length (take h.cells cl) ≡ h.cells → length (take h.functions fl) ≡ h.functions
    → length cs' ≡ h.cells → length fs' ≡ h.functions
    → Answered (outcome d by h.plan (take h.cells cs) (take h.functions fs) marks (take h.cells cl) (take h.functions fl)) done.count cs' fs' out
    → Replied (calling d by (held (Some h) cs fs) marks) done (cs' ++ drop h.cells cs) (fs' ++ drop h.functions fs) out
unfolding calling
called d by marks h done cs fs cl fl cs' fs' out e a b ac af w =
    let p = h.plan in
    let same = alike d by p (take h.cells cs) (take h.functions fs) marks (take h.cells cl) (take h.functions fl) (blank (cell_total p)) (blank (function_total p))
    (a ∙ h.all_cells ∙ sym (length-replicate (cell_total p) 0)) (b ∙ h.all_functions ∙ sym (length-replicate (function_total p) 0)) in
    record {
      state = rw e (held_front h cs' fs' (drop h.cells cs) (drop h.functions fs) ac af ∙ wall_same p (w.cells ∙ same.0) (w.functions ∙ same.1));
      said = said_as w.said same.2;
    }

-- ---- kinds

-- what `obey` of `script`, by which the code's clauses speak, makes of a line with marks: the call that its kind asks for
pub marked : (k : Kind) (s : State) (ns : List ℕ) → (k ≡ Unreadable → ⊥) → (k ≡ Wall → ⊥) → obey k s ns ≡ calling (direction_of k) (by_of k) s ns
marked Unreadable s ns h g = absurd (h refl)
marked Wall s ns h g = absurd (g refl)
marked Split s ns h g = refl
marked Join s ns h g = refl
marked SplitFunctions s ns h g = refl
marked JoinFunctions s ns h g = refl

pub coarsens : (k : Kind) → (k ≡ Split → ⊥) → (k ≡ SplitFunctions → ⊥) → coarsen ≡ direction_of k
coarsens Unreadable h g = refl
coarsens Wall h g = refl
coarsens Split h g = absurd (h refl)
coarsens Join h g = refl
coarsens SplitFunctions h g = absurd (g refl)
coarsens JoinFunctions h g = refl

pub by_functions : (k : Kind) → (k ≡ Split → ⊥) → (k ≡ Join → ⊥) → functions ≡ by_of k
by_functions Unreadable h g = refl
by_functions Wall h g = refl
by_functions Split h g = absurd (h refl)
by_functions Join h g = absurd (g refl)
by_functions SplitFunctions h g = refl
by_functions JoinFunctions h g = refl

-- ---- a line that was read

module _ (s old : List ℕ) (line : Line) (new : List ℕ) (room : 64 ≤ length old) (r : Reads s old line new) where
  selected : meaning_in (length old) s ≡ meaning s
  selected = rw (le-leb 64 (length old) room) refl

  pub read_numbers : take line.count new ≡ (meaning s).numbers
  read_numbers =
      let c : line.count ≡ length (meaning s).numbers = r.count ∙ ap (λ (m : Meaning). length m.numbers) selected in
      let b : new ≡ (meaning s).numbers ++ drop (length (meaning s).numbers) old = r.buffer ∙ ap (λ (m : Meaning). m.numbers ++ drop (length m.numbers) old) selected in
      ap (take line.count) b ∙ take_at (meaning s).numbers (drop (length (meaning s).numbers) old) line.count (sym c)

  pub read_kind : line.kind ≡ (meaning s).kind
  read_kind = r.kind ∙ ap (λ (m : Meaning). m.kind) selected

  pub read_step : (t : State) → obey line.kind t (take line.count new) ≡ step_of t s
  unfolding step_of
  read_step t = rw (read_numbers, read_kind) refl
