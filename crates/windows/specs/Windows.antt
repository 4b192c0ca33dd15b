-- The least bytes of windows. Definitions only.
use Rattle.std.specs.Prelude.{cond, List, ◌≡◌, ℕ, min, ◌+◌, ◌-◌, ◌*◌, ◌/◌, ◌%◌, ◌≤◌, get_or}
use Rattle.facts.specs.Least.{least}
use Rattle.facts.specs.Mapped.{in_run, mapped, filled}

-- one value everywhere
unfoldable pub always : ℕ → ℕ → ℕ
always v i = v

-- the first n entries lowered to those of `from`
unfoldable pub lowered : ℕ → List ℕ → List ℕ → List ℕ
lowered n from xs = mapped (λ i x. cond (in_run 0 n i) (min x (get_or from i 0)) x) xs

-- the least of 2 and the entries of both at i
unfoldable pub least_of : List ℕ → List ℕ → ℕ → ℕ
least_of a b i = min (min 2 (get_or a i 0)) (get_or b i 0)

-- what stands o places before t, of the first n entries; 2 where nothing does
unfoldable pub moved : List ℕ → ℕ → ℕ → ℕ → ℕ
moved from n o t = cond (in_run o n t) (get_or from (t - o) 0) 2

-- the least of the entries at t, t - step, .., as many as `count`
unfoldable pub slid : List ℕ → ℕ → ℕ → ℕ → ℕ → ℕ
slid from n step count t = least 2 count (λ d. moved from n (d * step) t)

pub record SlideIn (size room n step times : ℕ) : Type 0 where
  pub times≥ : 1 ≤ times
  pub step≤ : step ≤ n
  pub from≤ : n ≤ size
  pub out≤ : n + times * step ≤ room

-- the byte in row y and column x of a table with so many columns
abbrev pub in_rows : List ℕ → ℕ → ℕ → ℕ → ℕ
in_rows from columns y x = get_or from (y * columns + x) 0

-- the same of each row, where `across` more columns stand after those of a row; `byte` has the bytes by row and column
unfoldable pub row_slid : (ℕ → ℕ → ℕ) → ℕ → ℕ → ℕ → ℕ → ℕ
row_slid byte columns across count t =
    least 2 count (λ d. cond (in_run d columns (t % (columns + across))) (byte (t / (columns + across)) (t % (columns + across) - d)) 2)

pub record RowsIn (size room columns rows across : ℕ) : Type 0 where
  pub from≤ : rows * columns ≤ size
  pub out≤ : rows * (columns + across) ≤ room
  pub rows≥ : 1 ≤ rows

-- what stands d places before i, of the n numbers of g; 2 where nothing does
abbrev pub back : ℕ → ℕ → (ℕ → ℕ) → ℕ → ℕ
back n i g d = cond (in_run d n i) (g (i - d)) 2

-- the least byte of the window that ends in row j and column i
unfoldable pub window_at : (ℕ → ℕ → ℕ) → ℕ → ℕ → ℕ → ℕ → ℕ → ℕ → ℕ
window_at byte columns rows across up j i = least 2 (up + 1) (back rows j (λ y. least 2 (across + 1) (back columns i (byte y))))

-- the same at t
unfoldable pub window_least : (ℕ → ℕ → ℕ) → ℕ → ℕ → ℕ → ℕ → ℕ → ℕ
window_least byte columns rows across up t = window_at byte columns rows across up (t / (columns + across)) (t % (columns + across))

-- what windows make of a table of rows that stand apart: of any bytes and whatever stood there before
abbrev pub Windowed : List ℕ → List ℕ → ℕ → ℕ → ℕ → ℕ → Type 0
Windowed spread out columns rows across up =
    (byte : ℕ → ℕ → ℕ) (start : List ℕ) → spread ≡ filled 0 (rows * (columns + across)) (row_slid byte columns across 1) start
    → out ≡ filled 0 ((rows + up) * (columns + across)) (window_least byte columns rows across up) start

pub record LevelIn (room place columns rows across up : ℕ) : Type 0 where
  pub columns≥ : 1 ≤ columns
  pub rows≥ : 1 ≤ rows
  pub across≥ : 1 ≤ across
  pub up≥ : 1 ≤ up
  pub scratch≤ : rows * (columns + across) ≤ room
  pub out≤ : (rows + up) * (columns + across) ≤ place
