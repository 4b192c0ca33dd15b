-- A draft that is opened, and what is called until it is closed or dropped. Assumes nothing.
use mathlib.Core.Path.{◌≡◌, refl, sym, ap, ap₂, ◌∙◌, subst}
use mathlib.Core.Bool.{Bool, true, false, not, ◌&&◌, cond}
use mathlib.Core.List.{List, [], ◌∷◌, ◌++◌, append-nil, append_assoc}
use Prim.Native.Nat.{ℕ, ◌+◌, ◌≤◌}
use native.Mathlib.Omega.{arith}
use lib.Dec.{eqb, leb, le→leb, eqb-suc-zero}
use lib.ListN.{length, take, drop, length-append}
use lib.Seq.{length-take-le, take_at}
use Rattle.facts.specs.Numbers.{first}
use Rattle.facts.specs.Writing.{written_at}
use Rattle.facts.proofs.Tests.{and_i, and_l, T_true, true_T}
use Rattle.facts.proofs.Writing.{length_written}
use Rattle.grid.specs.declared.Plan.{Plan}
use Rattle.mesh.specs.Mesh.{check}
use Rattle.mesh.proofs.Bridge.{chain}
use Rattle.outcomes.specs.Calls.{refine, cells, mark_refusal, refused, outcome}
use Rattle.outcomes.specs.Runs.{Tables, final_of}
use Rattle.refining.specs.Seasons.{SeasonCall}
use Rattle.drafts.specs.Drafts.{is_open, no_draft, marks_of, refusal19, open_draft, drop_draft, Added, Closed}
use Rattle.drafts.specs.Seasons.{State, DraftCall, changing, opening, adding, dropping, added, leave, final_state, Meanwhile, ended, changes, opens, adds, new_marks, collected}
use Rattle.drafts.specs.Demands.{Passes, opened, full, Filled}
use Rattle.drafts.proofs.Refusals.{open_18, none_18, open_19, AddCase, taken, left_out, add_case}
use Rattle.drafts.proofs.Seasons.{changed_open}
use Rattle.drafts.proofs.Kept.{close_yes}

-- ---- marks that are not refused

-- judged against these tables
abbrev Judged : Plan → Tables → List ℕ → Type 0
Judged p t marks = first (mark_refusal refine cells p t.cells t.functions) marks ≡ 0

first_both : (f : ℕ → ℕ) (xs ys : List ℕ) → first f xs ≡ 0 → first f ys ≡ 0 → first f (xs ++ ys) ≡ 0
unfolding first
first_both f [] ys a b = b
first_both f (x ∷ xs) ys a b = let (z, r) = chain (f x) (first f xs) a in rw z (first_both f xs ys r b)

-- ---- one call while a draft is open

module _ (p : Plan) (s : State) where
  -- it leaves s', and the draft has the marks `new` more
  record Grown (s' : State) (new : List ℕ) : Type 0 where
    still : s'.tables ≡ s.tables
    remains : is_open s'.draft s'.list ≡ true
    marks : marks_of s'.draft s'.list ≡ marks_of s.draft s.list ++ new
    judged : Judged p s.tables new

  abbrev Grew : DraftCall → Type 0
  Grew a = Grown (leave p s a) (new_marks p s a)

  -- marks written after those that are there
  module _ (m : List ℕ) (l : s.draft.marks + length m ≤ length s.list) where
    open_more : is_open s.draft s.list ≡ true → is_open (record { «open» = s.draft.«open»; marks = s.draft.marks + length m }) (written_at s.list s.draft.marks m) ≡ true
    unfolding is_open
    open_more o =
        let k : Bool = not (eqb s.draft.«open» 0) in
        T_true _ (and_i k _ (and_l k (leb s.draft.marks (length s.list)) (true_T (k && leb s.draft.marks (length s.list)) o))
        (le→leb (s.draft.marks + length m) (length (written_at s.list s.draft.marks m)) (omega (arith, length_written s.list s.draft.marks m l))))

    take_more : take (s.draft.marks + length m) (written_at s.list s.draft.marks m) ≡ take s.draft.marks s.list ++ m
    unfolding written_at
    take_more =
        let x : List ℕ = take s.draft.marks s.list in
        let n : ℕ = s.draft.marks + length m in
        let q : length (x ++ m) ≡ n = length-append x m ∙ ap (λ (k : ℕ). k + length m) (length-take-le s.draft.marks s.list (omega arith)) in
        ap (take n) (sym (append_assoc x m (drop n s.list))) ∙ take_at (x ++ m) (drop n s.list) n q

  module _ (k : Passes p s) (o : is_open s.draft s.list ≡ true) where
    same : {s' : State} → s' ≡ s → Grown s' []
    unfolding first
    same e = record { still = ap (λ (s : State). s.tables) e; remains = rw e o; marks = rw e (sym (append-nil (marks_of s.draft s.list))); judged = refl }

    grew_changing : (a : SeasonCall) → Grew (changing a)
    unfolding leave new_marks refused
    grew_changing a = let (cl, fl, e) = changed_open p s k o a in same (rw e refl)

    grew_opening : Grew opening
    unfolding leave new_marks open_draft
    grew_opening = same (rw (open_18 p s.tables.cells s.tables.functions s.draft s.list k o) refl)

    grew_adding : (m : List ℕ) → Grew (adding m)
    unfolding leave added new_marks first
    grew_adding m = go (add_case p s.tables.cells s.tables.functions s.draft s.list m)
      where
        go : {r : Added} → AddCase p s.tables.cells s.tables.functions s.draft s.list m r
            → Grown (record { tables = s.tables; draft = r.answer.draft; list = r.list }) (cond (eqb r.answer.number 0) m [])
        go (taken l q j e) = rw e (record { still = refl; remains = open_more m l q; marks = take_more m l; judged = j })
        go (left_out n e) = rw e (record { still = refl; remains = o; marks = rw (eqb-suc-zero n) (sym (append-nil (marks_of s.draft s.list))); judged = rw (eqb-suc-zero n) refl })

-- ---- any of them, one after another

record Kept (p : Plan) (s : State) (calls : List DraftCall) : Type 0 where
  still : (final_state p s calls).tables ≡ s.tables
  remains : is_open (final_state p s calls).draft (final_state p s calls).list ≡ true
  marks : marks_of (final_state p s calls).draft (final_state p s calls).list ≡ marks_of s.draft s.list ++ collected p s calls
  judged : Judged p s.tables (collected p s calls)

one_more : (p : Plan) (s : State) (a : DraftCall) (rest : List DraftCall) → Grew p s a → Kept p (leave p s a) rest → Kept p s (a ∷ rest)
unfolding final_of collected
one_more p s a rest g f = record {
  still = f.still ∙ g.still;
  remains = f.remains;
  marks =
      f.marks ∙ ap (λ (x : List ℕ). x ++ collected p (leave p s a) rest) g.marks
      ∙ append_assoc (marks_of s.draft s.list) (new_marks p s a) (collected p (leave p s a) rest);
  judged =
      first_both (mark_refusal refine cells p s.tables.cells s.tables.functions) (new_marks p s a) (collected p (leave p s a) rest) g.judged
      (subst (λ t. Judged p t (collected p (leave p s a) rest)) g.still f.judged);
}

-- the tables pass after it, since they are those of before
passes : (p : Plan) (s : State) (a : DraftCall) → Passes p s → Grew p s a → Passes p (leave p s a)
passes p s a k g = subst (λ (t : Tables). check p t.cells t.functions ≡ 0) (sym g.still) k

kept : (p : Plan) {calls : List DraftCall} (s : State) → Passes p s → is_open s.draft s.list ≡ true → Meanwhile calls → Kept p s calls
unfolding final_of collected first
kept p s k o ended = record { still = refl; remains = o; marks = sym (append-nil (marks_of s.draft s.list)); judged = refl }
kept p s k o (changes {a = a} {rest = rest} m) = let g = grew_changing p s k o a in one_more p s (changing a) rest g (kept p (leave p s (changing a)) (passes p s (changing a) k g) g.remains m)
kept p s k o (opens {rest = rest} m) = let g = grew_opening p s k o in one_more p s opening rest g (kept p (leave p s opening) (passes p s opening k g) g.remains m)
kept p s k o (adds {marks = x} {rest = rest} m) = let g = grew_adding p s k o x in one_more p s (adding x) rest g (kept p (leave p s (adding x)) (passes p s (adding x) k g) g.remains m)

-- ---- from opening on

module _ (p : Plan) (s : State) (calls : List DraftCall) (k : Passes p s) (o : is_open s.draft s.list ≡ false) (m : Meanwhile calls) where
  abbrev start : State
  start = opened p s calls

  abbrev last : State
  last = full p s calls

  start_is : start ≡ record { tables = s.tables; draft = record { «open» = 1; marks = 0 }; list = s.list }
  unfolding leave open_draft
  start_is = rw (none_18 p s.tables.cells s.tables.functions s.draft s.list k o) refl

  start_open : is_open start.draft start.list ≡ true
  unfolding is_open
  start_open = rw start_is (T_true (leb 0 (length s.list)) (le→leb 0 (length s.list) (omega arith)))

  whole : Kept p start calls
  whole = kept p start (subst (Passes p) (sym start_is) k) start_open m

  same_tables_lem : last.tables ≡ s.tables
  same_tables_lem = whole.still ∙ ap (λ (s : State). s.tables) start_is

  last_passes : Passes p last
  last_passes = subst (λ (t : Tables). check p t.cells t.functions ≡ 0) (sym same_tables_lem) k

  last_refusal : refusal19 p last.tables.cells last.tables.functions last.draft last.list ≡ 0
  last_refusal = open_19 p last.tables.cells last.tables.functions last.draft last.list last_passes whole.remains

  has : marks_of last.draft last.list ≡ collected p start calls
  has = whole.marks ∙ ap (λ (s : State). marks_of s.draft s.list ++ collected p start calls) start_is

  drops : leave p last dropping ≡ record { tables = s.tables; draft = no_draft; list = last.list }
  unfolding leave drop_draft
  drops = rw last_refusal (ap (λ (t : Tables). record { tables = t; draft = no_draft; list = last.list }) same_tables_lem)

  pub filled : Filled p s calls
  filled = record {
    still = same_tables_lem;
    remains = true_T _ whole.remains;
    marks = has;
    judged = subst (λ t. Judged p t (collected p start calls)) (ap (λ (s : State). s.tables) start_is) whole.judged;
    as_one = λ room.
        ap (λ (c : Closed). c.outcome) (close_yes p last room last_refusal)
        ∙ ap₂ (λ (u : Tables) m. outcome refine cells p u.cells u.functions m room.cells room.functions) same_tables_lem has;
    dropped = drops;
  }
