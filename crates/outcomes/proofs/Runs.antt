-- A whole run is undone where each of its calls is: one induction, for marks by cells and by functions, and for calls of any kind.
-- Assumes nothing.
use mathlib.Core.Bool.{true}
use mathlib.Core.Path.{◌≡◌, refl, sym, ap, ap₂, subst, ◌∙◌}
use mathlib.Core.List.{List, [], ◌∷◌, ◌++◌}
use Prim.Native.Nat.{◌≤◌}
use lib.Dec.{T}
use lib.ListN.{length}
use Rattle.grid.specs.declared.Plan.{Plan}
use Rattle.outcomes.specs.Calls.{By}
use Rattle.outcomes.specs.Runs.{Tables, LentLists, Call, Entry, final_of, log_of, after, entry, final, log, backwards, taking, undo, LongEnough, none, more, taken, all_taken, WalkedBack}

module _ (p : Plan) where
  final_append : (x y : List Call) (t : Tables) → final p t (x ++ y) ≡ final p (final p t x) y
  unfolding final_of
  final_append [] y t = refl
  final_append (a ∷ x) y t = final_append x y (after p t a)

  log_append : (x y : List Call) (t : Tables) → log p t (x ++ y) ≡ log p t x ++ log p (final p t x) y
  unfolding log_of final_of
  log_append [] y t = refl
  log_append (a ∷ x) y t = ap (λ l. entry p t a ∷ l) (log_append x y (after p t a))

all_taken_append : (x y : List Entry) → all_taken (x ++ y) ≡ all_taken x ++ all_taken y
unfolding all_taken
all_taken_append [] y = refl
all_taken_append (e ∷ x) y = ap (λ l. taken e ∷ l) (all_taken_append x y)

-- rooms for a log with one entry more
record Last (x : List Entry) (e : Entry) (rooms : List LentLists) : Type 0 where
  firsts : List LentLists
  room : LentLists
  whole : rooms ≡ firsts ++ (room ∷ [])
  enough : LongEnough x firsts
  cells≤ : length e.cells ≤ length room.cells
  functions≤ : length e.functions ≤ length room.functions

last_of : (x : List Entry) (e : Entry) {rooms : List LentLists} → LongEnough (x ++ (e ∷ [])) rooms → Last x e rooms
last_of [] e (more {room = room} a b none) = record { firsts = []; room = room; whole = refl; enough = none; cells≤ = a; functions≤ = b }
last_of (d ∷ x) e (more {room = room} a b l) =
    let k = last_of x e l in
    record { firsts = room ∷ k.firsts; room = k.room; whole = ap (λ r. room ∷ r) k.whole; enough = more a b k.enough; cells≤ = k.cells≤; functions≤ = k.functions≤ }

undo_append : (by : By) {x : List Entry} (y : List Entry) {firsts : List LentLists} (rest : List LentLists) → LongEnough x firsts
    → undo by (x ++ y) (firsts ++ rest) ≡ undo by x firsts ++ undo by y rest
unfolding undo
undo_append by y rest none = refl
undo_append by y rest (more {e = e} {room = room} a b l) = ap (λ c. taking by e room ∷ c) (undo_append by y rest l)

-- the call that takes e back, which was kept on the way from t to t', with any lists that are long enough, is accepted, names the same, and
-- restores the tables
pub record Back (by : By) (p : Plan) (t t' : Tables) (e : Entry) : Type 0 where
  pub named : (room : LentLists) → length e.cells ≤ length room.cells → length e.functions ≤ length room.functions
      → entry p t' (taking by e room) ≡ taken e
  pub restored : (room : LentLists) → length e.cells ≤ length room.cells → length e.functions ≤ length room.functions
      → after p t' (taking by e room) ≡ t

-- what is kept of one call takes it back: nothing, where the tables stay
pub data Undoes (by : By) (p : Plan) (t t' : Tables) : List Entry → Type 0 where
  silent : t' ≡ t → Undoes by p t t' []
  spoken : {e : Entry} → Back by p t t' e → Undoes by p t t' (e ∷ [])

-- a call, and what follows it
module _ (by : By) (p : Plan) {t t' t'' : Tables} {rest : List Entry}
    (later : (rooms : List LentLists) → LongEnough (backwards rest) rooms → WalkedBack by p t' t'' rest rooms) where
  one_more : {k : List Entry} → Undoes by p t t' k → (rooms : List LentLists) → LongEnough (backwards (k ++ rest)) rooms → WalkedBack by p t t'' (k ++ rest) rooms
  unfolding final_of log_of backwards undo all_taken
  one_more (silent q) rooms l = subst (λ s. WalkedBack by p s t'' rest rooms) q (later rooms l)
  one_more (spoken {e = e} b) rooms l =
      let B : List Entry = backwards rest in
      let k = last_of B e l in
      let u : WalkedBack by p t' t'' rest k.firsts = later k.firsts k.enough in
      let x : List Call = undo by B k.firsts in
      let y : List Call = taking by e k.room ∷ [] in
      let q : undo by (B ++ (e ∷ [])) rooms ≡ x ++ y = ap (undo by (B ++ (e ∷ []))) k.whole ∙ undo_append by (e ∷ []) (k.room ∷ []) k.enough in
      record {
        named =
            ap (log p t'') q ∙ log_append p x y t''
            ∙ ap₂ ◌++◌ u.named (ap (λ s. log p s y) u.restored ∙ ap (λ z. z ∷ []) (b.named k.room k.cells≤ k.functions≤))
            ∙ sym (all_taken_append B (e ∷ []));
        restored = ap (final p t'') q ∙ final_append p x y t'' ∙ ap (λ s. final p s y) u.restored ∙ b.restored k.room k.cells≤ k.functions≤;
      }

-- each call of the run passes
pub data Each {A : Type 0} (fits : A → Type 0) : List A → Type 0 where
  done : Each fits []
  next : {a : A} {rest : List A} → fits a → Each fits rest → Each fits (a ∷ rest)

pub every_call : {A : Type 0} (run : List A) → Each (λ _. T true) run
every_call [] = done
every_call (a ∷ rest) = next tt (every_call rest)

-- Where an invariant is kept by each call, and what is kept of the call takes it back, every run is undone
module _ {S A : Type 0} (tables : S → Tables) (leave : S → A → S) (keep : S → A → List Entry) (by : By) (p : Plan) (inv : S → Type 0) (fits : A → Type 0)
    (stays : (s : S) (a : A) → inv s → fits a → inv (leave s a))
    (undoes : (s : S) (a : A) → inv s → fits a → Undoes by p (tables s) (tables (leave s a)) (keep s a)) where
  pub run_undone : (run : List A) (s : S) (rooms : List LentLists) → inv s → Each fits run → LongEnough (backwards (log_of leave keep s run)) rooms
      → WalkedBack by p (tables s) (tables (final_of leave s run)) (log_of leave keep s run) rooms
  unfolding final_of log_of backwards undo all_taken
  run_undone [] s rooms i done none = record { named = refl; restored = refl }
  run_undone (a ∷ rest) s rooms i (next f fs) l =
      one_more by p (λ rooms l. run_undone rest (leave s a) rooms (stays s a i f) fs l) (undoes s a i f) rooms l
