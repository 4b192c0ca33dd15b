-- The whole call: each refusal, and what is written. Assumes nothing.
use mathlib.Core.Path.{◌≡◌, refl, sym, ap, ◌∙◌}
use mathlib.Core.Bool.{Bool, true, false, or-true}
use mathlib.Core.List.{List, [], map, flatten}
use mathlib.Core.Logic.{◌≢◌}
use Prim.Native.Nat.{ℕ, ◌-◌, ◌≤◌, ◌<◌}
use native.Mathlib.Omega.{arith}
use lib.Dec.{T, ltb}
use lib.ListN.{length}
use borrow.Author.Tests.{le-ltb, lt-ltb, ltb-false}
use Rattle.facts.specs.Bounded.{some}
use Rattle.facts.specs.Numbers.{tabulate}
use Rattle.grid.specs.declared.Plan.{Plan}
use Rattle.grid.specs.Plan.{columns_at, rows_at, cell_offset, cell_total}
use Rattle.grid.proofs.Levels.{offset_zero}
use Rattle.mesh.specs.Mesh.{refined, check}
use Rattle.mesh.proofs.Bridge.{Good, check_good, good_inside}
use Rattle.outcomes.specs.Calls.{changed}
use Rattle.changes.proofs.Changes.{changed_none}
use Rattle.rounds.specs.declared.RoundsAnswer.{RoundsAnswer}
use Rattle.rounds.specs.Rounds.{in_turn, rounds, losing, RoundsOutcome, refused, filled, find_rounds}
use Rattle.rounds.specs.Demands.{missing}
use Rattle.rounds.specs.Steps.{lost_at, Listable, missing_on, ListedLevels}
use Rattle.rounds.proofs.Levels.{flatten_is, last_none, lengths_are}
use Rattle.rounds.proofs.InTurn.{turn_length}
use Rattle.rounds.proofs.Reached.{rounds_are}
use Rattle.rounds.proofs.Refusals.{not_losing, find_today, find_wanted, find_losing, find_filled}

-- ---- the rounds as lists, where no cell is lost

module _ (p : Plan) (cs fs ws wf : List ℕ) (a : check p cs fs ≡ 0) (b : check p ws wf ≡ 0) (n : losing p cs ws ≡ false) where
  abbrev pub all : List (List ℕ)
  all = rounds p (record { cells = cs; functions = fs }) ws

  abbrev G : Good p cs
  G = (check_good p cs fs a).0

  abbrev W : Good p ws
  W = (check_good p ws wf b).0

  pub within : (c : ℕ) → T (refined cs c) → T (refined ws c)
  within c r = not_losing p cs ws n c (good_inside p cs G c r) r

  pub all_are : all ≡ in_turn (missing p cs ws) 0 (p.levels - 1)
  all_are = rounds_are p cs fs ws wf G (check_good p cs fs a).1 W (not_losing p cs ws n)

  pub count_is : length all ≡ p.levels - 1
  count_is = ap length all_are ∙ turn_length (missing p cs ws) (p.levels - 1) 0

  pub lengths_all : map length all ≡ tabulate (p.levels - 1) (missing_on p cs ws)
  lengths_all = ap (map length) all_are ∙ lengths_are p cs ws (p.levels - 1)

  -- their marks are the cells that differ below the last level, and on it none does
  pub marks_all : flatten all ≡ changed (cell_offset p (p.levels - 1)) cs ws
  marks_all =
      let z : changed (cell_offset p 0) cs ws ≡ [] = ap (λ (j : ℕ). changed j cs ws) (offset_zero (columns_at p) (rows_at p)) ∙ changed_none cs ws in
      ap flatten all_are ∙ (rw z at (flatten_is p G.range cs ws within (good_inside p ws W) (p.levels - 1) 0 (omega arith))) ∙ ap (λ (j : ℕ). changed (cell_offset p j) cs ws) (omega arith)

  pub marks_are : flatten all ≡ changed (cell_total p) cs ws
  marks_are = marks_all ∙ sym (last_none p G.range cs ws within (good_inside p ws W) (p.levels - 1) (omega (arith, G.range.levels≥))
      (λ c r. omega (arith, W.mesh.shallow c (good_inside p ws W c r) r)))

-- ---- the call

pub same_size : (p : Plan) (cs fs ws wf : List ℕ) → check p cs fs ≡ 0 → check p ws wf ≡ 0 → length cs ≡ length ws
same_size p cs fs ws wf a b = (check_good p cs fs a).0.sized ∙ sym (check_good p ws wf b).0.sized

-- an answer with both lists
abbrev outcome_of : RoundsAnswer → List ℕ → List ℕ → RoundsOutcome
outcome_of r ml ll = record { answer = r; marks = ml; lengths = ll }

module _ (p : Plan) (cs fs ws wf ml ll : List ℕ) where
  abbrev whole : RoundsOutcome
  whole = find_rounds p cs fs ws wf ml ll

  -- a refusal, which leaves both lists
  abbrev left : ℕ → RoundsOutcome
  left n = outcome_of (record { number = n; marks = 0; rounds = 0 }) ml ll

  left_is : (n : ℕ) → left n ≡ refused n ml ll
  unfolding refused
  left_is n = refl

  pub today_refused : {n : ℕ} → n ≡ check p cs fs → n ≢ 0 → left n ≡ whole
  today_refused {n} q z = left_is n ∙ ap (λ m. refused m ml ll) q ∙ sym (find_today p cs fs ws wf ml ll (λ w. z (q ∙ w)))

  module _ (a : check p cs fs ≡ 0) where
    pub wanted_refused : {n : ℕ} → n ≡ check p ws wf → n ≢ 0 → left n ≡ whole
    wanted_refused {n} q z = left_is n ∙ ap (λ m. refused m ml ll) q ∙ sym (find_wanted p cs fs ws wf ml ll a (λ w. z (q ∙ w)))

    module _ (b : check p ws wf ≡ 0) where
      sized : length cs ≡ cell_total p
      sized = (check_good p cs fs a).0.sized

      lost_is : {l : Bool} → l ≡ some (length cs) (lost_at cs ws) → losing p cs ws ≡ l
      unfolding losing refined
      lost_is e = ap (λ n. some n (lost_at cs ws)) (sym sized) ∙ sym e

      pub losing_refused : true ≡ some (length cs) (lost_at cs ws) → left 20 ≡ whole
      losing_refused q = left_is 20 ∙ sym (find_losing p cs fs ws wf ml ll a b (lost_is q))

      module _ (q : false ≡ some (length cs) (lost_at cs ws)) where
        kept : losing p cs ws ≡ false
        kept = lost_is q

        abbrev rs : List (List ℕ)
        rs = all p cs fs ws wf a b kept

        filled_is : whole ≡ filled rs ml ll
        filled_is = find_filled p cs fs ws wf ml ll a b kept

        -- how many marks there are, as the code counts them
        marks_count : length (changed (length cs) cs ws) ≡ length (flatten rs)
        marks_count = ap (λ n. length (changed n cs ws)) sized ∙ ap length (sym (marks_are p cs fs ws wf a b kept))

        pub marks_short : true ≡ ltb (length ml) (length (changed (length cs) cs ws)) → left 10 ≡ whole
        unfolding filled
        marks_short e =
            let k : ltb (length ml) (length (flatten rs)) ≡ true = ap (ltb (length ml)) (sym marks_count) ∙ sym e in
            left_is 10 ∙ sym (filled_is ∙ (rw k refl))

        pub lengths_short : length ll < p.levels - 1 → left 10 ≡ whole
        unfolding filled
        lengths_short t =
            let k : ltb (length ll) (length rs) ≡ true = lt-ltb (length ll) (length rs) (omega (arith, count_is p cs fs ws wf a b kept)) in
            left_is 10 ∙ sym (filled_is ∙ (rw (k, or-true (ltb (length ml) (length (flatten rs)))) refl))

        module _ (e : false ≡ ltb (length ml) (length (changed (length cs) cs ws))) (u : p.levels - 1 ≤ length ll) where
          enough : length (changed (length cs) cs ws) ≤ length ml
          enough = ltb-false (length ml) _ (sym e)

          pub listable : Listable p cs ws ml ll
          listable =
              let W = (check_good p ws wf b).0 in
              record {
                range = W.range;
                small = W.small;
                cells_are = sized;
                wanted_are = W.sized;
                within = within p cs fs ws wf a b kept;
                inside = good_inside p ws W;
                room = omega (arith, ap (λ n. length (changed n cs ws)) sized, enough);
                levels≤ = u;
              }

          pub ends : {n : ℕ} {ml' ll' : List ℕ} → ListedLevels p cs ws ml ll (p.levels - 1) n ml' ll' → outcome_of (record { number = 0; marks = n; rounds = p.levels - 1 }) ml' ll' ≡ whole
          unfolding filled
          ends {n} {ml'} {ll'} H =
              let c = count_is p cs fs ws wf a b kept in
              let k : ltb (length ml) (length (flatten rs)) ≡ false = le-ltb (length ml) (length (flatten rs)) (omega (arith, marks_count, enough)) in
              let m : ltb (length ll) (length rs) ≡ false = le-ltb (length ll) (length rs) (omega (arith, c)) in
              sym (filled_is ∙ (rw (k, m, c, marks_all p cs fs ws wf a b kept, lengths_all p cs fs ws wf a b kept, H.count, H.marks, H.lengths) refl))
