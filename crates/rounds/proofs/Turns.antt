-- One more turn of the loops. Assumes nothing.
use mathlib.Core.Path.{◌≡◌, refl, sym, ap, ◌∙◌}
use mathlib.Core.Bool.{Bool, false, ◌||◌}
use mathlib.Core.List.{List, [], ◌++◌}
use Prim.Native.Nat.{ℕ, suc, ◌+◌, ◌-◌, ◌≤◌, ◌<◌}
use native.Mathlib.Numerals.{add-one}
use native.Mathlib.Omega.{arith}
use lib.ListN.{length, get_or, drop, set, length-append}
use lib.Seq.{drop-cons, set_at, append_snoc}
use Rattle.facts.specs.Bounded.{some}
use Rattle.facts.specs.Numbers.{tabulate}
use Rattle.facts.proofs.Numbers.{length_tabulate}
use Rattle.grid.specs.declared.Plan.{Plan}
use Rattle.grid.specs.Plan.{columns_at, rows_at, cell_offset, cell_total}
use Rattle.grid.specs.Bounds.{most_cells}
use Rattle.grid.proofs.Levels.{offset_zero, offset_mono}
use Rattle.outcomes.specs.Calls.{changed, written}
use Rattle.changes.specs.Changes.{Block, ListRoom, ListedTo}
use Rattle.changes.proofs.Changes.{changed_none, changed_short, block_listed, block_more}
use Rattle.rounds.specs.Demands.{missing}
use Rattle.rounds.specs.Steps.{Listable, missing_on, ListedLevels}
use Rattle.rounds.proofs.Levels.{changed_next}

pub some_none : (p : ℕ → Bool) → some 0 p ≡ false
unfolding some
some_none p = refl

pub some_more : (i : ℕ) (p : ℕ → Bool) → some (i + 1) p ≡ p i || some i p
unfolding some
some_more i p = rw (add-one i)

-- one more entry of f is written after those that are there
tabulate_write : (f : ℕ → ℕ) (ls ls₀ : List ℕ) (k v : ℕ) → ls ≡ written (tabulate k f) ls₀ → k < length ls₀ → v ≡ f k → set ls k v ≡ written (tabulate (k + 1) f) ls₀
unfolding written tabulate
tabulate_write f ls ls₀ k v e l q =
    let n : length (tabulate k f) ≡ k = length_tabulate k f in
    let m : length (tabulate (k + 1) f) ≡ k + 1 = length_tabulate (k + 1) f in
    rw (m, q)
    (ap (λ (x : List ℕ). set x k (f k)) (e ∙ ap (λ (j : ℕ). tabulate k f ++ drop j ls₀) n ∙ ap (λ (x : List ℕ). tabulate k f ++ x) (drop-cons ls₀ k 0 l))
    ∙ set_at (tabulate k f) (get_or ls₀ k 0) (drop (suc k) ls₀) (f k) k n
    ∙ sym (append_snoc (tabulate k f) (f k) (drop (suc k) ls₀))
    ∙ ap (λ (j : ℕ). tabulate j f ++ drop j ls₀) (sym (add-one k)))

module _ {p : Plan} {cs ws ml ll : List ℕ} (L : Listable p cs ws ml ll) where
  pub start : ListedLevels p cs ws ml ll 0 0 ml ll
  unfolding written tabulate
  start =
      let z : changed (cell_offset p 0) cs ws ≡ [] = ap (λ (j : ℕ). changed j cs ws) (offset_zero (columns_at p) (rows_at p)) ∙ changed_none cs ws in
      record { count = ap length (sym z); marks = rw z refl; lengths = refl }

  -- a level ends inside the table
  to_in : (k : ℕ) → k < p.levels → cell_offset p (k + 1) ≤ cell_total p
  to_in k l = offset_mono (columns_at p) (rows_at p) (k + 1) p.levels (omega arith)

  pub block : (k : ℕ) → k < p.levels → {from to : ℕ} → from ≡ cell_offset p k → to ≡ cell_offset p (k + 1) → Block cs ws from to
  block k l f t = rw (f, t) (record { same = L.cells_are ∙ sym L.wanted_are; rises = offset_mono (columns_at p) (rows_at p) k (k + 1) (omega arith); inside = omega (arith, to_in k l, L.cells_are) })

  pub list_room : {ml' : List ℕ} → length ml' ≡ length ml → ListRoom cs ws ml'
  list_room {ml'} e = record {
    same = L.cells_are ∙ sym L.wanted_are;
    small = omega (arith, L.cells_are, L.small);
    room = rw L.cells_are (omega (arith, L.room));
  }

  module _ {k n : ℕ} {ml' ll' : List ℕ} (H : ListedLevels p cs ws ml ll k n ml' ll') where
    pub listed_to : {from : ℕ} → from ≡ cell_offset p k → ListedTo from cs ws n ml'
    listed_to f = rw f (block_listed cs ws ml (cell_offset p k) H.marks H.count)

    -- there are no more of them than cells
    pub few : k ≤ p.levels → n ≤ most_cells
    few l = omega (arith, H.count, changed_short cs ws (cell_offset p k), offset_mono (columns_at p) (rows_at p) k p.levels l, L.small)

    module _ (l : k < p.levels) {m : ℕ} (e : m ≡ length (changed (cell_offset p (k + 1)) cs ws)) where
      -- n numbers, and those of the level
      pub one_level : n + missing_on p cs ws k ≡ m
      one_level = omega (arith, H.count, e, ap length (changed_next p L.range cs ws L.within L.inside k l), length-append (changed (cell_offset p k) cs ws) (missing p cs ws k))

      pub few_next : m ≤ most_cells
      few_next = omega (arith, e, changed_short cs ws (cell_offset p (k + 1)), to_in k l, L.small)

      pub next : {ml'' : List ℕ} → ml'' ≡ written (changed (cell_offset p (k + 1)) cs ws) ml' → k < length ll → {v : ℕ} → v ≡ m - n → ListedLevels p cs ws ml ll (k + 1) m ml'' (set ll' k v)
      next d r {v} q = record {
        count = e;
        marks = block_more cs ws ml (cell_offset p k) H.marks (cell_offset p (k + 1)) (offset_mono (columns_at p) (rows_at p) k (k + 1) (omega arith)) d;
        lengths = tabulate_write (missing_on p cs ws) ll' ll k v H.lengths r (omega (arith, one_level));
      }
