-- What is claimed of the rounds from a mesh to a wanted one. Definitions only.
use Rattle.std.specs.Prelude.{false, not, ◌&&◌, ◌≢◌, ◌≡◌, ℕ, suc, ◌+◌, ◌-◌, ◌≤◌, ◌<◌, T, eqb, length, take, drop}
use mathlib.Core.List.{List, [], ◌∷◌, map, flatten}
use Rattle.facts.specs.Numbers.{listed}
use Rattle.grid.specs.declared.Plan.{Plan}
use Rattle.grid.specs.Plan.{cell_total, function_total, cell_level}
use Rattle.mesh.specs.Mesh.{refined, check, fresh_cells, fresh_functions, count}
use Rattle.outcomes.specs.Calls.{cells, changed}
use Rattle.outcomes.specs.Runs.{Tables, LentLists, Call, Entry, final, log, backwards, LongEnough, WalkedBack}
use Rattle.refining.specs.Seasons.{plain}
use Rattle.drafts.specs.declared.Draft.{Draft}
use Rattle.drafts.specs.Drafts.{is_open}
use Rattle.drafts.specs.Seasons.{State, DraftCall, changing, final_state, state_log}
use Rattle.rounds.specs.Rounds.{as_call, by_round, round, in_turn, rounds, losing, refused, find_rounds}

-- the wanted refined cells of level k that are not refined today: what the code lists
unfoldable pub missing : Plan → List ℕ → List ℕ → ℕ → List ℕ
missing p cs ws k = listed (cell_total p) (λ c. eqb (cell_level p c) k && (refined ws c && not (refined cs c)))

-- a list cut into parts of these lengths
unfoldable pub cut_by : List ℕ → List ℕ → List (List ℕ)
cut_by [] list = []
cut_by (n ∷ ns) list = take n list ∷ cut_by ns (drop n list)

-- a call in its form with a draft
abbrev pub with_draft : Call → DraftCall
with_draft a = changing (plain a)

-- today's mesh and the wanted one
module _ (p : Plan) (cs fs ws wf : List ℕ) where
  abbrev pub today : Tables
  today = record { cells = cs; functions = fs }

  -- "with lists long enough", of round k: an entry for each mark, and one for each function that becomes deactivated
  pub record LongFor (k : ℕ) (room : LentLists) : Type 0 where
    pub cells : length (round p today ws k) ≤ length room.cells
    pub functions : length (changed (function_total p) (by_round p today ws k).functions (by_round p today ws (suc k)).functions) ≤ length room.functions

  -- "Each round, as a split by cells", where `rooms k` are the lists that are lent to round k
  abbrev pub run : (ℕ → LentLists) → List Call
  run rooms = in_turn (λ k. as_call (round p today ws k) (rooms k)) 0 (p.levels - 1)

  -- what is claimed of a run of the rounds that keeps these entries and leaves these tables
  pub record Reached (entries : List Entry) (left : Tables) : Type 0 where
    -- "is accepted"
    pub accepted : map (λ e. e.number) entries ≡ in_turn (λ k. 0) 0 (p.levels - 1)
    -- and names the marks of its round and no other cell
    pub named : map (λ e. e.cells) entries ≡ rounds p today ws
    -- "and after all of them the tables are the wanted ones"
    pub wanted : left ≡ record { cells = ws; functions = wf }
    -- given back by the lists that were kept, they are today's
    pub undone : (back : List LentLists) → LongEnough (backwards entries) back → WalkedBack cells p today left entries back

  pub record Leading : Type 0 where
    -- round k has the wanted refined cells of level k that are not refined today
    pub closed : rounds p today ws ≡ in_turn (missing p cs ws) 0 (p.levels - 1)
    -- how many marks there are
    pub marks : (count p cs fs).refined + length (flatten (rounds p today ws)) ≡ (count p ws wf).refined
    -- the rounds made one after another, without a draft
    pub reached : (rooms : ℕ → LentLists) → ((k : ℕ) → k < p.levels - 1 → LongFor k (rooms k))
        → Reached (log p today (run rooms)) (final p today (run rooms))
    -- and in the form with a draft, "no draft open"
    pub no_draft : (rooms : ℕ → LentLists) → ((k : ℕ) → k < p.levels - 1 → LongFor k (rooms k)) → (d : Draft) (dl : List ℕ) → is_open d dl ≡ false
        → let s : State = record { tables = today; draft = d; list = dl } in
        Reached (state_log p s (map with_draft (run rooms))) (final_state p s (map with_draft (run rooms))).tables

pub record Demands : Type 0 where
  -- where both meshes pass 1 to 6 and no cell is lost
  pub leading : (p : Plan) (cs fs ws wf : List ℕ) → check p cs fs ≡ 0 → check p ws wf ≡ 0 → losing p cs ws ≡ false → Leading p cs fs ws wf
  -- so every mesh is reached from the mesh as opened
  pub opened : (p : Plan) (ws wf : List ℕ) → check p ws wf ≡ 0 → Leading p (fresh_cells p) (fresh_functions p) ws wf
  -- what an accepted call wrote, cut by the lengths, are the rounds
  pub cut : (p : Plan) (cs fs ws wf ml ll : List ℕ) → let o = find_rounds p cs fs ws wf ml ll in o.answer.number ≡ 0
      → cut_by (take o.answer.rounds o.lengths) (take o.answer.marks o.marks) ≡ rounds p (record { cells = cs; functions = fs }) ws
  -- from a mesh to itself all rounds are empty
  pub still : (p : Plan) (cs fs : List ℕ) → check p cs fs ≡ 0 → rounds p (record { cells = cs; functions = fs }) cs ≡ in_turn (λ k. []) 0 (p.levels - 1)
  -- 20 "exactly when a cell split today is not split in the wanted wall"
  pub twenty : (p : Plan) (cs fs ws wf ml ll : List ℕ) → check p cs fs ≡ 0 → check p ws wf ≡ 0
      → ((find_rounds p cs fs ws wf ml ll).answer.number ≡ 20 → (c : ℕ) × (c < cell_total p) × T (refined cs c) × T (not (refined ws c)))
      × ((c : ℕ) → c < cell_total p → T (refined cs c) → T (not (refined ws c)) → (find_rounds p cs fs ws wf ml ll).answer.number ≡ 20)
  -- a refusal keeps both lists
  pub nothing : (p : Plan) (cs fs ws wf ml ll : List ℕ) → (find_rounds p cs fs ws wf ml ll).answer.number ≢ 0
      → find_rounds p cs fs ws wf ml ll ≡ refused (find_rounds p cs fs ws wf ml ll).answer.number ml ll
