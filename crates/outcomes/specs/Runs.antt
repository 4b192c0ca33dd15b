-- Document 01, "The walk back": a run of calls, its log, and the undo of a whole run. Definitions only.
use Rattle.std.specs.Prelude.{Bool, ◌&&◌, List, [], ◌∷◌, ◌++◌, ◌≡◌, ℕ, ◌≤◌, length, take}
use Rattle.facts.specs.Bounded.{implies, some, every}
use Rattle.grid.specs.declared.Plan.{Plan}
use Rattle.grid.specs.Plan.{cell_total, function_total, supported}
use Rattle.mesh.specs.Mesh.{refined, deactivated}
use Rattle.outcomes.specs.Calls.{Direction, refine, coarsen, By, Outcome, outcome}
use Rattle.outcomes.specs.Calls as calls

-- both tables, as a call finds or leaves them
pub record Tables : Type 0 where
  pub cells : List ℕ
  pub functions : List ℕ

-- the lists that are lent to a call, of any length and content
pub record LentLists : Type 0 where
  pub cells : List ℕ
  pub functions : List ℕ

pub record Call : Type 0 where
  pub direction : Direction
  pub by : By
  pub marks : List ℕ
  pub room : LentLists

-- what is kept of a call: its answer's number and "its two lists, copied, cut to the answered lengths"
pub record Entry : Type 0 where
  pub direction : Direction
  pub number : ℕ
  pub cells : List ℕ
  pub functions : List ℕ

-- the tables as a call with this outcome leaves them, "refused or not"
abbrev pub leaving : Outcome → Tables
leaving o = record { cells = o.cells; functions = o.functions }

-- and what is kept of it
abbrev pub keeping : Direction → Outcome → Entry
keeping d o = record {
  direction = d;
  number = o.answer.number;
  cells = take o.answer.cells o.cell_list;
  functions = take o.answer.functions o.function_list;
}

-- ---- runs of calls of any kind A, on anything S that has tables: `leave` is what a call leaves, `keep` what is kept of it, an entry, or
-- none where it is no split and no join

-- "each later one finds them as the call before left them"
unfoldable pub final_of : {S A : Type 0} → (S → A → S) → S → List A → S
final_of leave s [] = s
final_of leave s (a ∷ rest) = final_of leave (leave s a) rest

unfoldable pub log_of : {S A : Type 0} → (S → A → S) → (S → A → List Entry) → S → List A → List Entry
log_of leave keep s [] = []
log_of leave keep s (a ∷ rest) = keep s a ++ log_of leave keep (leave s a) rest

-- ---- runs of the four calls

module _ (p : Plan) where
  unfoldable pub result : Tables → Call → Outcome
  result t a = outcome a.direction a.by p t.cells t.functions a.marks a.room.cells a.room.functions

  unfoldable pub after : Tables → Call → Tables
  after t a = leaving (result t a)

  unfoldable pub entry : Tables → Call → Entry
  entry t a = keeping a.direction (result t a)

  abbrev pub final : Tables → List Call → Tables
  final = final_of after

  abbrev pub log : Tables → List Call → List Entry
  log = log_of after (λ t a. entry t a ∷ [])

-- "from the last to the first"
unfoldable pub backwards : List Entry → List Entry
backwards [] = []
backwards (e ∷ es) = backwards es ++ (e ∷ [])

-- "The opposite of either split is join by cells; that of either join is split by cells"
abbrev pub opposite : Direction → Direction
opposite refine = coarsen
opposite coarsen = refine

-- the call that takes back what e keeps, by the kind of its marks: "the copied cell list of each is the marks of its opposite";
-- by functions "the marks are then the copied function lists"
unfoldable pub taking : By → Entry → LentLists → Call
taking calls.cells e room = record { direction = opposite e.direction; by = calls.cells; marks = e.cells; room = room }
taking calls.functions e room = record { direction = opposite e.direction; by = calls.functions; marks = e.functions; room = room }

-- the undo of a log, last call first; `rooms` are the lists lent to its calls, in their order
unfoldable pub undo : By → List Entry → List LentLists → List Call
undo by [] rooms = []
undo by (e ∷ es) [] = []
undo by (e ∷ es) (room ∷ rooms) = taking by e room ∷ undo by es rooms

-- "Lists are long enough when each has at least as many entries as the copy of the same kind from the call taken back"
pub data LongEnough : List Entry → List LentLists → Type 0 where
  none : LongEnough [] []
  more : {e : Entry} {room : LentLists} {es : List Entry} {rooms : List LentLists}
      → length e.cells ≤ length room.cells → length e.functions ≤ length room.functions
      → LongEnough es rooms → LongEnough (e ∷ es) (room ∷ rooms)

-- what is kept of the call that takes e back: accepted, with the same lists
unfoldable pub taken : Entry → Entry
taken e = record { direction = opposite e.direction; number = 0; cells = e.cells; functions = e.functions }

unfoldable pub all_taken : List Entry → List Entry
all_taken [] = []
all_taken (e ∷ es) = taken e ∷ all_taken es

-- "Then every opposite call answers 0, its cell list and function list, cut to their lengths, equal the copies from the call it
-- takes back, and at the end every byte of both tables is what it was before the run"
-- said of what was kept on the way from the tables t to the tables t'
pub record WalkedBack (by : By) (p : Plan) (t t' : Tables) (entries : List Entry) (rooms : List LentLists) : Type 0 where
  pub named : log p t' (undo by (backwards entries) rooms) ≡ all_taken (backwards entries)
  pub restored : final p t' (undo by (backwards entries) rooms) ≡ t

abbrev pub Undone : By → Plan → Tables → List Call → List LentLists → Type 0
Undone by p t run rooms = WalkedBack by p t (final p t run) (log p t run) rooms

-- "a first wall in which each split cell lies in the support of a deactivated function of its own level": the premise of the undo
-- by functions
unfoldable pub covered : Plan → List ℕ → List ℕ → Bool
covered p cs fs =
    every (cell_total p) (λ c. implies (refined cs c) (some (function_total p) (λ f. deactivated fs f && supported p f c)))

-- "runs of splits by functions alone": each call of the run is one, with any marks and any room
pub data RefinesByFunctions : List Call → Type 0 where
  end : RefinesByFunctions []
  and : {marks : List ℕ} {room : LentLists} {rest : List Call}
      → RefinesByFunctions rest → RefinesByFunctions (record { direction = refine; by = calls.functions; marks = marks; room = room } ∷ rest)
