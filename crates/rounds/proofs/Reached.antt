-- The rounds, made one after another, are accepted, name what they mark, and lead to the wanted mesh. Assumes nothing.
use mathlib.Core.Path.{◌≡◌, refl, sym, ap, ap₂, ◌∙◌, subst}
use mathlib.Core.List.{List, ◌∷◌, map}
use Prim.Native.Nat.{ℕ, zero, suc, ◌+◌, ◌-◌, ◌≤◌, ◌<◌}
use native.Mathlib.Nat.{add-zero}
use native.Mathlib.Omega.{arith}
use lib.Dec.{T}
use lib.ListN.{length}
use Rattle.grid.specs.declared.Plan.{Plan}
use Rattle.grid.specs.Plan.{cell_total, function_total}
use Rattle.mesh.specs.Mesh.{refined, table_of, labels}
use Rattle.mesh.proofs.Bridge.{Good, good_inside}
use Rattle.outcomes.specs.Calls.{changed}
use Rattle.outcomes.specs.Runs.{Tables, LentLists, Call, Entry, after, entry, final, final_of, log, log_of}
use Rattle.outcomes.proofs.Marks.{inside_ext}
use Rattle.rounds.specs.Rounds.{as_call, by_round, round, in_turn, rounds}
use Rattle.rounds.specs.Demands.{missing, LongFor, run}
use Rattle.rounds.proofs.InTurn.{turn_same, turn_map}
use Rattle.rounds.proofs.Then.{Then, then_first, by_last, round_is, new as newCellsOf, then_new, after_new, number_new, cells_new, after_ample}

-- two meshes with the same refined cells are the same table
same_table : (p : Plan) (u v : List ℕ) → Good p u → Good p v → ((c : ℕ) → c < cell_total p → refined u c ≡ refined v c) → u ≡ v
same_table p u v G H h = G.is ∙ ap (table_of p) (inside_ext (cell_total p) (refined u) (refined v) (good_inside p u G) (good_inside p v H) h) ∙ sym H.is

module _ (p : Plan) (cs fs ws wf : List ℕ) (G : Good p cs) (F : fs ≡ labels p cs) (W : Good p ws)
    (within : (c : ℕ) → c < cell_total p → T (refined cs c) → T (refined ws c)) where
  abbrev t₀ : Tables
  t₀ = record { cells = cs; functions = fs }

  abbrev by : ℕ → Tables
  by = by_round p t₀ ws

  abbrev marks : ℕ → List ℕ
  marks = round p t₀ ws

  then_by : (k : ℕ) → k < p.levels → Then p cs ws G W within k (by k)
  unfolding by_round
  then_by zero l = then_first p cs ws G W within F
  then_by (suc k) l =
      let N = then_by k (omega arith) in
      subst (Then p cs ws G W within (suc k)) (sym (after_ample p cs ws G W within k (by k) N (omega arith))) (then_new p cs ws G W within k (by k) N (omega arith))

  -- round k has what is missing on level k
  pub rounds_are : rounds p t₀ ws ≡ in_turn (missing p cs ws) 0 (p.levels - 1)
  unfolding rounds
  rounds_are = turn_same marks (missing p cs ws) (p.levels - 1) 0 (λ k _ l. round_is p cs ws G W within k (by k) (then_by k (omega arith)))

  -- after the last of them the mesh is the wanted one
  pub at_end : (k : ℕ) → k + 1 ≡ p.levels → by k ≡ record { cells = ws; functions = labels p ws }
  at_end k e =
      let N = then_by k (omega arith) in
      let q : (by k).cells ≡ ws = same_table p (by k).cells ws N.good W (λ c i. N.has c i ∙ by_last p cs ws G W within k e c i) in
      ap₂ (λ u v. record { cells = u; functions = v }) q (N.labelled ∙ ap (labels p) q)

  -- one round, with lists that are long enough
  module _ (k : ℕ) (l : k + 1 < p.levels) (room : LentLists) (L : LongFor p cs fs ws wf k room) where
    N : Then p cs ws G W within k (by k)
    N = then_by k (omega arith)

    abbrev new : Tables
    new = record { cells = newCellsOf p cs ws G W within k (by k) N l; functions = labels p (newCellsOf p cs ws G W within k (by k) N l) }

    next : by (suc k) ≡ new
    unfolding by_round
    next = after_ample p cs ws G W within k (by k) N l

    few : length (changed (function_total p) (by k).functions new.functions) ≤ length room.functions
    few = subst (λ (u : Tables). length (changed (function_total p) (by k).functions u.functions) ≤ length room.functions) next L.functions

    pub made : after p (by k) (as_call (marks k) room) ≡ by (suc k)
    made = after_new p cs ws G W within k (by k) N l room L.cells few ∙ sym next

    pub numbered : (entry p (by k) (as_call (marks k) room)).number ≡ 0
    numbered = number_new p cs ws G W within k (by k) N l room L.cells few

    pub named : (entry p (by k) (as_call (marks k) room)).cells ≡ marks k
    named = cells_new p cs ws G W within k (by k) N l room L.cells few

  -- all of them, one after another
  module _ (rooms : ℕ → LentLists) (L : (k : ℕ) → k < p.levels - 1 → LongFor p cs fs ws wf k (rooms k)) where
    abbrev call : ℕ → Call
    call k = as_call (marks k) (rooms k)

    ends : (n k : ℕ) → k + n + 1 ≡ p.levels → final p (by k) (in_turn call k n) ≡ by (k + n)
    unfolding final_of in_turn
    ends zero k e = ap by (sym (add-zero k))
    ends (suc n) k e =
        let q : suc k + n ≡ k + suc n = omega arith in
        ap (λ (u : Tables). final p u (in_turn call (suc k) n)) (made k (omega arith) (rooms k) (L k (omega arith))) ∙ ends n (suc k) (omega arith) ∙ ap by q

    keeps : (n k : ℕ) → k + n + 1 ≡ p.levels → log p (by k) (in_turn call k n) ≡ in_turn (λ i. entry p (by i) (call i)) k n
    unfolding log_of in_turn
    keeps zero k e = refl
    keeps (suc n) k e = ap (λ (es : List Entry). entry p (by k) (call k) ∷ es)
        (ap (λ (u : Tables). log p u (in_turn call (suc k) n)) (made k (omega arith) (rooms k) (L k (omega arith))) ∙ keeps n (suc k) (omega arith))

    abbrev kept : List Entry
    kept = log p t₀ (run p cs fs ws wf rooms)

    kept_are : kept ≡ in_turn (λ i. entry p (by i) (call i)) 0 (p.levels - 1)
    unfolding by_round
    kept_are = keeps (p.levels - 1) 0 (omega (arith, G.range.levels≥))

    pub accepted : map (λ e. e.number) kept ≡ in_turn (λ k. 0) 0 (p.levels - 1)
    accepted = rw kept_are (turn_map (λ e. e.number) (λ i. entry p (by i) (call i)) (p.levels - 1) 0
        ∙ turn_same (λ i. (entry p (by i) (call i)).number) (λ i. 0) (p.levels - 1) 0 (λ i _ l. numbered i (omega arith) (rooms i) (L i (omega arith))))

    pub names : map (λ e. e.cells) kept ≡ rounds p t₀ ws
    unfolding rounds
    names = rw kept_are (turn_map (λ e. e.cells) (λ i. entry p (by i) (call i)) (p.levels - 1) 0
        ∙ turn_same (λ i. (entry p (by i) (call i)).cells) marks (p.levels - 1) 0 (λ i _ l. named i (omega arith) (rooms i) (L i (omega arith))))

    pub leads : final p t₀ (run p cs fs ws wf rooms) ≡ record { cells = ws; functions = labels p ws }
    unfolding by_round
    leads = ends (p.levels - 1) 0 (omega (arith, G.range.levels≥)) ∙ at_end (0 + (p.levels - 1)) (omega (arith, G.range.levels≥))
