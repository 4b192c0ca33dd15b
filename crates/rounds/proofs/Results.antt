-- What is claimed of the rounds holds. Assumes nothing.
use mathlib.Core.Path.{◌≡◌, refl, sym, ap, ◌∙◌}
use mathlib.Core.Bool.{Bool, true, false, not, ◌&&◌, cond, beq}
use mathlib.Core.List.{List, [], ◌∷◌, map, flatten}
use Prim.Native.Nat.{ℕ, zero, suc, ◌+◌, ◌-◌, ◌<◌}
use native.Mathlib.Omega.{arith}
use lib.Dec.{T, eqb}
use lib.ListN.{length}
use Rattle.facts.specs.Bounded.{sum}
use Rattle.facts.specs.Numbers.{listed}
use Rattle.facts.proofs.Tests.{and_l, and_r, not_e, T_false}
use Rattle.facts.proofs.Bounded.{some_e}
use Rattle.facts.proofs.Numbers.{get_d_tabulate}
use Rattle.facts.proofs.Counting.{listed_next}
use Rattle.grid.specs.declared.Plan.{Plan}
use Rattle.grid.specs.Plan.{cell_total, cell_level}
use Rattle.mesh.specs.Mesh.{refined, check, fresh_cells, fresh_functions, tally, count}
use Rattle.mesh.proofs.Fresh.{fresh_checked}
use Rattle.mesh.proofs.Bridge.{Good, check_good}
use Rattle.outcomes.specs.Calls.{Outcome, changed}
use Rattle.outcomes.specs.Runs.{Tables, LentLists, Call, Entry, result, after, entry, leaving, keeping, final, final_of, log, log_of}
use Rattle.outcomes.proofs.UndoByCells.{undone_by_cells_lem}
use Rattle.refining.specs.Seasons.{plain, direction_of}
use Rattle.drafts.specs.declared.Draft.{Draft}
use Rattle.drafts.specs.Drafts.{is_open}
use Rattle.drafts.specs.Seasons.{State, leave, keep, final_state, state_log}
use Rattle.drafts.specs.Seasons as drafts
use Rattle.drafts.proofs.Refusals.{change_not_open}
use Rattle.rounds.specs.Rounds.{in_turn, rounds, losing}
use Rattle.rounds.specs.Demands.{missing, with_draft, today, LongFor, run, Reached, Leading, Demands}
use Rattle.rounds.proofs.InTurn.{turn_same}
use Rattle.rounds.proofs.Levels.{none_below}
use Rattle.rounds.proofs.Reached.{accepted, names, leads}
use Rattle.rounds.proofs.Refusals.{not_losing, nothing, is_20, gives_20}
use Rattle.rounds.proofs.Cut.{cut}
use Rattle.rounds.proofs.Whole.{within, all_are, marks_are}

-- ---- with a draft that is not open, a run is the run without

module _ (p : Plan) (d : Draft) (dl : List ℕ) (e : is_open d dl ≡ false) where
  abbrev at : Tables → State
  at t = record { tables = t; draft = d; list = dl }

  same_outcome : (t : Tables) (a : Call) → drafts.changed p (at t) (plain a) ≡ result p t a
  unfolding drafts.changed result
  same_outcome t a = change_not_open a.direction a.by p t.cells t.functions d dl a.marks a.room.cells a.room.functions e

  same_leave : (t : Tables) (a : Call) → leave p (at t) (with_draft a) ≡ at (after p t a)
  unfolding leave after
  same_leave t a = ap (λ (o : Outcome). at (leaving o)) (same_outcome t a)

  same_keep : (t : Tables) (a : Call) → keep p (at t) (with_draft a) ≡ entry p t a ∷ []
  unfolding keep entry direction_of
  same_keep t a = ap (λ (o : Outcome). keeping a.direction o ∷ []) (same_outcome t a)

  same_final : (calls : List Call) (t : Tables) → final_state p (at t) (map with_draft calls) ≡ at (final p t calls)
  unfolding final_of
  same_final [] t = refl
  same_final (a ∷ rest) t = ap (λ (s : State). final_state p s (map with_draft rest)) (same_leave t a) ∙ same_final rest (after p t a)

  same_log : (calls : List Call) (t : Tables) → state_log p (at t) (map with_draft calls) ≡ log p t calls
  unfolding log_of
  same_log [] t = refl
  same_log (a ∷ rest) t = rw (same_keep t a, same_leave t a) (ap (λ (es : List Entry). entry p t a ∷ es) (same_log rest (after p t a)))

-- ---- how many marks there are

one_more : (a b : Bool) → (T a → T b) → cond a 1 0 + cond (not (beq a b)) 1 0 ≡ cond b 1 0
one_more true true h = refl
one_more true false h = absurd (h tt)
one_more false true h = refl
one_more false false h = refl

tally_grown : (u v : ℕ → Bool) → ((c : ℕ) → T (u c) → T (v c)) → (n : ℕ) → tally n u + length (listed n (λ c. not (beq (u c) (v c)))) ≡ tally n v
unfolding tally sum listed
tally_grown u v h zero = refl
tally_grown u v h (suc n) = omega (arith, tally_grown u v h n, listed_next n (λ c. not (beq (u c) (v c))), one_more (u n) (v n) (h n))

-- ---- all claims

refined_count : (p : Plan) (cs fs : List ℕ) → check p cs fs ≡ 0 → (count p cs fs).refined ≡ tally (cell_total p) (refined cs)
unfolding count
refined_count p cs fs a = rw a refl

module _ (p : Plan) (cs fs ws wf : List ℕ) (a : check p cs fs ≡ 0) (b : check p ws wf ≡ 0) (n : losing p cs ws ≡ false) where
  abbrev G : Good p cs
  G = (check_good p cs fs a).0

  abbrev W : Good p ws
  W = (check_good p ws wf b).0

  marks : (count p cs fs).refined + length (flatten (rounds p (today p cs fs ws wf) ws)) ≡ (count p ws wf).refined
  unfolding changed
  marks = rw (refined_count p cs fs a, refined_count p ws wf b, marks_are p cs fs ws wf a b n)
      (tally_grown (refined cs) (refined ws) (within p cs fs ws wf a b n) (cell_total p))

  module _ (rooms : ℕ → LentLists) (L : (k : ℕ) → k < p.levels - 1 → LongFor p cs fs ws wf k (rooms k)) where
    reached : Reached p cs fs ws wf (log p (today p cs fs ws wf) (run p cs fs ws wf rooms)) (final p (today p cs fs ws wf) (run p cs fs ws wf rooms))
    reached = record {
      accepted = accepted p cs fs ws wf G (check_good p cs fs a).1 W (not_losing p cs ws n) rooms L;
      named = names p cs fs ws wf G (check_good p cs fs a).1 W (not_losing p cs ws n) rooms L;
      wanted = leads p cs fs ws wf G (check_good p cs fs a).1 W (not_losing p cs ws n) rooms L ∙ ap (λ (f : List ℕ). record { cells = ws; functions = f }) (sym (check_good p ws wf b).1);
      undone = λ back. undone_by_cells_lem p _ _ back a;
    }

    no_draft_lem : (d : Draft) (dl : List ℕ) → is_open d dl ≡ false
        → let s : State = record { tables = today p cs fs ws wf; draft = d; list = dl } in
        Reached p cs fs ws wf (state_log p s (map with_draft (run p cs fs ws wf rooms))) (final_state p s (map with_draft (run p cs fs ws wf rooms))).tables
    no_draft_lem d dl e = rw (same_log p d dl e (run p cs fs ws wf rooms) (today p cs fs ws wf), same_final p d dl e (run p cs fs ws wf rooms) (today p cs fs ws wf)) reached

  leading : Leading p cs fs ws wf
  leading = record {
    closed = all_are p cs fs ws wf a b n;
    marks = marks;
    reached = reached;
    no_draft = no_draft_lem;
  }

-- no cell of a mesh as opened is refined
not_two : (b : Bool) → eqb (cond b 1 0) 2 ≡ false
not_two true = refl
not_two false = refl

none_refined : (p : Plan) (c : ℕ) → c < cell_total p → refined (fresh_cells p) c ≡ false
unfolding refined fresh_cells
none_refined p c i = rw (get_d_tabulate (cell_total p) (λ c. cond (eqb (cell_level p c) 0) 1 0) c 0 i) (not_two (eqb (cell_level p c) 0))

none_lost_fresh : (p : Plan) (ws : List ℕ) → losing p (fresh_cells p) ws ≡ false
unfolding losing
none_lost_fresh p ws = T_false _ (λ t. let (c, i, u) = some_e (cell_total p) (λ c. refined (fresh_cells p) c && not (refined ws c)) t in
    let r = and_l (refined (fresh_cells p) c) _ u in rw (none_refined p c i) at r)

opened : (p : Plan) (ws wf : List ℕ) → check p ws wf ≡ 0 → Leading p (fresh_cells p) (fresh_functions p) ws wf
opened p ws wf b =
    let W = (check_good p ws wf b).0 in
    leading p (fresh_cells p) (fresh_functions p) ws wf (fresh_checked p W.range W.small) b (none_lost_fresh p ws)

-- no cell is lost from a mesh to itself, and none is missing
none_lost : (p : Plan) (cs : List ℕ) → losing p cs cs ≡ false
unfolding losing
none_lost p cs = T_false _ (λ t. let (c, i, u) = some_e (cell_total p) (λ c. refined cs c && not (refined cs c)) t in not_e (refined cs c) (and_r (refined cs c) _ u) (and_l (refined cs c) _ u))

none_missing : (p : Plan) (cs : List ℕ) (k : ℕ) → missing p cs cs k ≡ []
unfolding missing
none_missing p cs k = none_below (λ c. eqb (cell_level p c) k && (refined cs c && not (refined cs c))) (cell_total p) (λ c _ t.
    let u = and_r (eqb (cell_level p c) k) (refined cs c && not (refined cs c)) t in not_e (refined cs c) (and_r (refined cs c) _ u) (and_l (refined cs c) _ u))

still : (p : Plan) (cs fs : List ℕ) → check p cs fs ≡ 0 → rounds p (record { cells = cs; functions = fs }) cs ≡ in_turn (λ k. []) 0 (p.levels - 1)
still p cs fs a = (leading p cs fs cs fs a a (none_lost p cs)).closed ∙ turn_same (missing p cs cs) (λ k. []) (p.levels - 1) 0 (λ k _ _. none_missing p cs k)

pub demands : Demands
demands = record {
  leading = leading;
  opened = opened;
  cut = cut;
  still = still;
  twenty = λ p cs fs ws wf ml ll a b. (is_20 p cs fs ws wf ml ll a b, gives_20 p cs fs ws wf ml ll a b);
  nothing = nothing;
}
