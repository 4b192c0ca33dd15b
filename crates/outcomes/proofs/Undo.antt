-- How a call is taken back, with the kept cell list or the kept function list as marks: what must be known of the change it
-- made, and that this is enough. Assumes nothing.
use mathlib.Core.Path.{◌≡◌, refl, sym, ap, ap₂, ◌∙◌, subst}
use mathlib.Core.Bool.{Bool, true, false, not, ◌&&◌, beq, or-false, and-true}
use mathlib.Core.List.{List, [], ◌∷◌}
use Prim.Native.Nat.{ℕ, zero, suc, ◌≤◌, ◌<◌}
use lib.Dec.{T, ltb, lt→ltb}
use lib.ListN.{length}
use Rattle.facts.specs.Numbers.{elem, listed}
use Rattle.facts.proofs.Tests.{and_l, and_r, T_true, T_false}
use Rattle.facts.proofs.Bounded.{some_e}
use Rattle.facts.proofs.Numbers.{elem_listed, listed_same}
use Rattle.hierarchy.specs.Hierarchy.{Cells, closure}
use Rattle.hierarchy.proofs.Closure.{closure_in, closure_same}
use Rattle.grid.specs.declared.Plan.{Plan}
use Rattle.grid.specs.Plan.{cell_total, function_total, supported, hierarchy}
use Rattle.grid.proofs.Laws.{lawful}
use Rattle.mesh.specs.Mesh.{active, refined, reactivable, table_of, labels, check}
use Rattle.mesh.proofs.Bridge.{Good, check_good, good_check, good_inside}
use Rattle.outcomes.specs.Calls.{Direction, refine, coarsen, By, cells, functions, under_marked, selected, changed, Outcome, refused, new_cells, outcome}
use Rattle.outcomes.specs.Runs.{Tables, LentLists, Call, Entry, leaving, keeping, result, after, entry, opposite, taking, taken}
use Rattle.outcomes.proofs.Sets.{put, beq_sym}
use Rattle.outcomes.proofs.Marks.{Fits, refusal_e, refusal_i, inside_ext, closure_same_below}
use Rattle.outcomes.proofs.Results.{new_is, new_good, accepted, Made, refusal_of, accepted_as, made, outcome_accepted, written_take}
use Rattle.outcomes.proofs.Runs.{Back, Undoes, spoken}

-- ---- changes

changed_sym : (n : ℕ) (o w : List ℕ) → changed n w o ≡ changed n o w
unfolding changed
changed_sym n o w = listed_same n _ _ (λ x _. ap not (beq_sym (refined w x) (refined o x)))

not_changed : (b : Bool) → not (beq b b) ≡ false
not_changed true = refl
not_changed false = refl

listed_none : (n : ℕ) (o : List ℕ) → listed n (λ x. not (beq (refined o x) (refined o x))) ≡ []
unfolding listed
listed_none zero o = refl
listed_none (suc n) o = rw (not_changed (refined o n), listed_none n o) refl

pub changed_none : (n : ℕ) (o : List ℕ) → changed n o o ≡ []
unfolding changed
changed_none n o = listed_none n o

pub elem_changed : (n : ℕ) (o w : List ℕ) (c : ℕ) → c < n → elem c (changed n o w) ≡ not (beq (refined o c) (refined w c))
unfolding changed
elem_changed n o w c i = elem_listed n (λ x. not (beq (refined o x) (refined w x))) c ∙ ap (λ b. b && not (beq (refined o c) (refined w c))) (T_true (ltb c n) (lt→ltb c n i))

-- ---- the call that takes back the change from cs to cs', with marks by cells or by functions

module _ (by : By) (d : Direction) (p : Plan) (cs cs' : List ℕ) (G : Good p cs) (N : Good p cs') where
  -- the list that is kept of a change and is given back as marks
  abbrev pub kept : By → List ℕ
  kept cells = changed (cell_total p) cs cs'
  kept functions = changed (function_total p) (labels p cs) (labels p cs')

  -- what must be known of the change
  pub record Undoable : Type 0 where
    pub fit : (x : ℕ) → T (elem x (kept by)) → Fits (opposite d) by p cs' (labels p cs') x
    pub back : (c : ℕ) → c < cell_total p
        → closure (hierarchy p) (put (opposite d) (refined cs') (selected (opposite d) by p cs' (labels p cs') (kept by))) c ≡ refined cs c

  module _ (U : Undoable) where
    old_again : new_cells (opposite d) by p cs' (labels p cs') (kept by) ≡ cs
    old_again =
        new_is (opposite d) by p cs' (labels p cs') (kept by) N U.fit
        ∙ ap (table_of p) (inside_ext (cell_total p) _ (refined cs) (closure_in (hierarchy p) (lawful p G.range) _) (good_inside p cs G) U.back)
        ∙ sym G.is

    pub taken_back : (rc rf : List ℕ) → length (kept cells) ≤ length rc → length (kept functions) ≤ length rf
        → outcome (opposite d) by p cs' (labels p cs') (kept by) rc rf ≡ accepted p cs' (labels p cs') rc rf cs (labels p cs)
    taken_back rc rf a b =
        outcome_accepted (opposite d) by p cs' (labels p cs') (kept by) rc rf
        (refusal_i (opposite d) by p cs' (labels p cs') (kept by) (good_check p cs' N) U.fit)
        (rw (old_again, changed_sym (cell_total p) cs cs') a)
        (rw (old_again, changed_sym (function_total p) (labels p cs) (labels p cs')) b)
        ∙ ap (λ u. accepted p cs' (labels p cs') rc rf u (labels p u)) old_again

-- ---- one call of a run, with the outcome o: what it turned the cells into, and that this can be taken back

pub record Turn (by : By) (p : Plan) (t : Tables) (d : Direction) (o : Outcome) : Type 0 where
  pub new : List ℕ
  pub good : Good p t.cells
  pub good' : Good p new
  pub labelled : t.functions ≡ labels p t.cells
  pub left : leaving o ≡ record { cells = new; functions = labels p new }
  pub named : (keeping d o).cells ≡ changed (cell_total p) t.cells new
  pub named' : (keeping d o).functions ≡ changed (function_total p) t.functions (labels p new)
  pub undoable : Undoable by d p t.cells new good good'

-- a refused call turns nothing, and no marks at all mean nothing
module _ (by : By) (d : Direction) (p : Plan) (cs : List ℕ) (G : Good p cs) where
  none_kept : (b : By) → kept by d p cs cs G G b ≡ []
  none_kept cells = changed_none (cell_total p) cs
  none_kept functions = changed_none (function_total p) (labels p cs)

  put_none : (e : Direction) (X : Cells) (c : ℕ) → (T (X c) → ⊥) → put e (refined cs) X c ≡ refined cs c
  put_none refine X c h = rw (T_false (X c) h) (or-false (refined cs c))
  put_none coarsen X c h = rw (T_false (X c) h) (and-true (refined cs c))

  under_none : (c : ℕ) → T (under_marked p [] c) → ⊥
  unfolding under_marked elem
  under_none c t = (some_e (function_total p) (λ f. elem f [] && supported p f c) t).2

  selected_none : (e : Direction) (b : By) (fs : List ℕ) (c : ℕ) → T (selected e b p cs fs [] c) → ⊥
  unfolding selected elem
  selected_none e cells fs c t = t
  selected_none refine functions fs c t = under_none c (and_r (active cs c) _ t)
  selected_none coarsen functions fs c t = under_none c (and_l (under_marked p [] c) _ (and_r (reactivable p cs c) _ t))

  nothing : Undoable by d p cs cs G G
  nothing = record {
    fit = λ x t. absurd (unfold elem in rw (none_kept by) at t);
    back = λ c i.
        ap (λ X. X c) (closure_same_below p _ (refined cs) (λ x _. put_none (opposite d) _ x (rw (none_kept by) (selected_none (opposite d) by (labels p cs) x))))
        ∙ closure_same (hierarchy p) (lawful p G.range) (refined cs) G.admissible c i;
  }

-- ---- from outcomes to what a run keeps

module _ (p : Plan) (d : Direction) where
  keeping_refused : (n : ℕ) (cs fs cl fl : List ℕ) → keeping d (refused n cs fs cl fl) ≡ record { direction = d; number = n; cells = []; functions = [] }
  unfolding refused
  keeping_refused n cs fs cl fl = refl

  leaving_refused : (n : ℕ) (cs fs cl fl : List ℕ) → leaving (refused n cs fs cl fl) ≡ record { cells = cs; functions = fs }
  unfolding refused
  leaving_refused n cs fs cl fl = refl

  keeping_accepted : (cs fs cl fl cs' fs' : List ℕ) → keeping d (accepted p cs fs cl fl cs' fs')
      ≡ record { direction = d; number = 0; cells = changed (cell_total p) cs cs'; functions = changed (function_total p) fs fs' }
  unfolding accepted
  keeping_accepted cs fs cl fl cs' fs' = λ i. record {
    direction = d;
    number = 0;
    cells = written_take (changed (cell_total p) cs cs') cl i;
    functions = written_take (changed (function_total p) fs fs') fl i;
  }

  leaving_accepted : (cs fs cl fl cs' fs' : List ℕ) → leaving (accepted p cs fs cl fl cs' fs') ≡ record { cells = cs'; functions = fs' }
  unfolding accepted
  leaving_accepted cs fs cl fl cs' fs' = refl

  -- whatever refuses a call, and with whatever number
  pub turn_refused : (by : By) (t : Tables) → check p t.cells t.functions ≡ 0 → (n : ℕ) (cl fl : List ℕ) {o : Outcome} → o ≡ refused n t.cells t.functions cl fl → Turn by p t d o
  turn_refused by t k n cl fl {o} e =
      let (G, l) = check_good p t.cells t.functions k in
      let E = ap (keeping d) e ∙ keeping_refused n _ _ _ _ in
      record {
        new = t.cells;
        good = G;
        good' = G;
        labelled = l;
        left = ap leaving e ∙ leaving_refused n _ _ _ _ ∙ ap (λ f. record { cells = t.cells; functions = f }) l;
        named = ap (λ e. e.cells) E ∙ sym (changed_none (cell_total p) t.cells);
        named' = ap (λ e. e.functions) E ∙ sym (changed_none (function_total p) t.functions) ∙ ap (changed (function_total p) t.functions) l;
        undoable = nothing by d p t.cells G;
      }

module _ (p : Plan) (t : Tables) (a : Call) where
  -- what the accepted call turns the cells into can be taken back
  abbrev pub Taking : By → Type 0
  Taking by = (G : Good p t.cells) (fit : (x : ℕ) → T (elem x a.marks) → Fits a.direction a.by p t.cells t.functions x)
      → t.functions ≡ labels p t.cells
      → Undoable by a.direction p t.cells (new_cells a.direction a.by p t.cells t.functions a.marks) G
      (new_good a.direction a.by p t.cells t.functions a.marks G fit)

  turn_of : (by : By) → Taking by → check p t.cells t.functions ≡ 0 → (o : Outcome)
      → Made a.direction a.by p t.cells t.functions a.marks a.room.cells a.room.functions o → Turn by p t a.direction o
  turn_of by u k o (refusal_of n e) = turn_refused p a.direction by t k (suc n) _ _ e
  turn_of by u k o (accepted_as cs' fs' ec ef z x y e) =
      let (G, l) = check_good p t.cells t.functions k in
      let fit = (refusal_e a.direction a.by p t.cells t.functions a.marks z).1 in
      let new : List ℕ = new_cells a.direction a.by p t.cells t.functions a.marks in
      let q = e ∙ ap₂ (accepted p t.cells t.functions a.room.cells a.room.functions) ec (ef ∙ ap (labels p) ec) in
      let E = ap (keeping a.direction) q ∙ keeping_accepted p a.direction _ _ _ _ new (labels p new) in
      record {
        new = new;
        good = G;
        good' = new_good a.direction a.by p t.cells t.functions a.marks G fit;
        labelled = l;
        left = ap leaving q ∙ leaving_accepted p a.direction _ _ _ _ new (labels p new);
        named = ap (λ e. e.cells) E;
        named' = ap (λ e. e.functions) E;
        undoable = u G fit l;
      }

  pub turn : (by : By) → Taking by → check p t.cells t.functions ≡ 0 → Turn by p t a.direction (result p t a)
  unfolding result
  turn by u k = turn_of by u k (result p t a) (made a.direction a.by p t.cells t.functions a.marks a.room.cells a.room.functions)

  -- the tables afterwards: as they were, or the new ones
  pub data After : Type 0 where
    as_before : after p t a ≡ t → After
    as_made : ((x : ℕ) → T (elem x a.marks) → Fits a.direction a.by p t.cells t.functions x)
        → after p t a ≡ record { cells = new_cells a.direction a.by p t.cells t.functions a.marks; functions = labels p (new_cells a.direction a.by p t.cells t.functions a.marks) }
        → After

  after_made : (o : Outcome) → result p t a ≡ o
      → Made a.direction a.by p t.cells t.functions a.marks a.room.cells a.room.functions o → After
  unfolding after
  after_made o r (refusal_of n e) = as_before (ap leaving (r ∙ e) ∙ leaving_refused p a.direction (suc n) _ _ _ _)
  after_made o r (accepted_as cs' fs' ec ef z x y e) =
      as_made (refusal_e a.direction a.by p t.cells t.functions a.marks z).1
      (ap leaving (r ∙ e) ∙ leaving_accepted p a.direction _ _ _ _ cs' fs' ∙ ap₂ (λ u v. record { cells = u; functions = v }) ec (ef ∙ ap (labels p) ec))

  pub after_is : After
  unfolding result
  after_is = after_made (result p t a) refl (made a.direction a.by p t.cells t.functions a.marks a.room.cells a.room.functions)

-- ---- back

module _ (by : By) (p : Plan) (t : Tables) (d : Direction) (o : Outcome) (K : Turn by p t d o) where
  abbrev e : Entry
  e = keeping d o

  abbrev t' : Tables
  t' = record { cells = K.new; functions = labels p K.new }

  abbrev list : By → List ℕ
  list = kept by d p t.cells K.new K.good K.good'

  named_functions : e.functions ≡ list functions
  named_functions = K.named' ∙ ap (λ f. changed (function_total p) f (labels p K.new)) K.labelled

  taking_is : (b : By) (room : LentLists) → taking b e room ≡ record { direction = opposite d; by = b; marks = list b; room = room }
  unfolding taking
  taking_is cells room = ap (λ m. record { direction = opposite d; by = cells; marks = m; room = room }) K.named
  taking_is functions room = ap (λ m. record { direction = opposite d; by = functions; marks = m; room = room }) named_functions

  same_tables_lem : record { cells = t.cells; functions = labels p t.cells } ≡ t
  same_tables_lem = ap (λ f. record { cells = t.cells; functions = f }) (sym K.labelled)

  module _ (room : LentLists) (x : length e.cells ≤ length room.cells) (y : length e.functions ≤ length room.functions) where
    abbrev b : Call
    b = record { direction = opposite d; by = by; marks = list by; room = room }

    back_result : result p t' b ≡ accepted p K.new (labels p K.new) room.cells room.functions t.cells (labels p t.cells)
    unfolding result
    back_result =
        taken_back by d p t.cells K.new K.good K.good' K.undoable room.cells room.functions
        (subst (λ l. length l ≤ length room.cells) K.named x) (subst (λ l. length l ≤ length room.functions) named_functions y)

    back_named : entry p t' b ≡ taken e
    unfolding taken entry
    back_named =
        ap (keeping (opposite d)) back_result ∙ keeping_accepted p (opposite d) _ _ _ _ _ _
        ∙ ap₂ (λ c f. record { direction = opposite d; number = 0; cells = c; functions = f })
        (changed_sym (cell_total p) t.cells K.new ∙ sym K.named)
        (changed_sym (function_total p) (labels p t.cells) (labels p K.new) ∙ sym named_functions)

    back_left : after p t' b ≡ t
    unfolding after
    back_left = ap leaving back_result ∙ leaving_accepted p (opposite d) _ _ _ _ _ _ ∙ same_tables_lem

  pub turn_back : Back by p t (leaving o) e
  turn_back = record {
    named = λ room x y. ap₂ (entry p) K.left (taking_is by room) ∙ back_named room x y;
    restored = λ room x y. ap₂ (after p) K.left (taking_is by room) ∙ back_left room x y;
  }

  pub turn_checked : check p o.cells o.functions ≡ 0
  turn_checked = ap (λ (s : Tables). check p s.cells s.functions) K.left ∙ good_check p K.new K.good'

-- ---- of one of the four calls

module _ (by : By) (p : Plan) (t : Tables) (a : Call) (K : Turn by p t a.direction (result p t a)) where
  pub call_undoes : Undoes by p t (after p t a) (entry p t a ∷ [])
  unfolding after entry
  call_undoes = spoken (turn_back by p t a.direction (result p t a) K)

  pub call_checked : check p (after p t a).cells (after p t a).functions ≡ 0
  unfolding after
  call_checked = turn_checked by p t a.direction (result p t a) K
