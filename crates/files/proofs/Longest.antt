-- How long a file can be: no mesh has one of more than 5,470 bytes, and one mesh has as many. Assumes nothing.
use mathlib.Core.Path.{◌≡◌, refl, sym, ap, subst}
use mathlib.Core.List.{List, ◌++◌, append-nil}
use Prim.Native.Nat.{ℕ, zero, suc, ◌+◌, ◌-◌, ◌*◌, ◌%◌, ◌^◌, ◌≤◌, ◌<◌}
use native.Mathlib.Nat.{pow-suc, pow-le-pow_right, mul-le-mul, le_refl}
use native.Mathlib.Numerals.{add-one}
use native.Mathlib.Omega.{arith}
use lib.Dec.{T, eqb→eq, ltb, ltb→lt, lt→ltb, lit≤, nltb→le}
use lib.ListN.{length, get_or, length-append}
use lib.Pow.{pow_mono}
use Rattle.facts.specs.Numbers.{listed}
use Rattle.facts.proofs.Tests.{cases}
use Rattle.facts.proofs.Turns.{listed_short}
use Rattle.hierarchy.specs.Hierarchy.{Cells}
use Rattle.hierarchy.proofs.Sets.{Inside, MeshSet, Admissible}
use Rattle.grid.specs.declared.Plan.{Plan}
use Rattle.grid.specs.Numbering.{offset}
use Rattle.grid.specs.Plan.{ratio, grown, columns_at, rows_at, cell_offset, cell_total, cell_place, cell_number, CellInside, cell_level, parent, hierarchy}
use Rattle.grid.specs.Bounds.{most_cells}
use Rattle.grid.specs.Range.{InRange}
use Rattle.grid.proofs.Laws.{cell_inside, cell_number_place, parent_lt, parent_level, near_places}
use Rattle.grid.proofs.Levels.{level_before, level_from}
use Rattle.grid.proofs.Totals.{cells_closed}
use Rattle.mesh.specs.Mesh.{refined, table_of, labels, check}
use Rattle.mesh.proofs.Bridge.{Good, is_mesh_lem, check_good, good_table, good_check, refined_table_of}
use Rattle.codec.specs.Numbers.{encode_groups, encode_number, encode_numbers, encode_behind, encode_rising}
use Rattle.codec.specs.Fitting.{number_limit, Behind, last, next, Rising, empty, first}
use Rattle.codec.proofs.Numbers.{short}
use Rattle.codec.proofs.Groups.{bytes_one, bytes_two}
use Rattle.listing.specs.Judged.{last_of}
use Rattle.listing.specs.Cells.{refined_below, refined_bytes}
use Rattle.listing.proofs.Cells.{refined_none, count_yes, bytes_none, bytes_yes, last_yes, refined_rising}
use Rattle.files.specs.Bounds.{most_file_bytes}
use Rattle.files.specs.File.{head_numbers, no_corners, encode_corners, encode_file, file_of}
use Rattle.files.proofs.Coarse.{coarser, listed_coarser}
use Rattle.files.proofs.CornerNumbers.{corner_bytes, corners_within, corners_short}

-- ---- the bytes of a number

one_byte : (n : ℕ) → n < 128 → length (encode_number n) ≡ 1
one_byte n h = ap length (bytes_one n h)

two_bytes : (n : ℕ) → n < 16384 → length (encode_number n) ≤ 2
two_bytes n h = cases (ltb n 128)
    (λ t. omega (arith, one_byte n (ltb→lt n 128 t)))
    (λ t. omega (arith, ap length (bytes_two n (nltb→le n 128 t) h)))

-- a difference takes no more bytes than it skips cells
difference_short : (n : ℕ) → 1 ≤ n → length (encode_number n) ≤ n
difference_short n h = cases (ltb n 128)
    (λ t. omega (arith, one_byte n (ltb→lt n 128 t)))
    (λ t. omega (arith, short n, nltb→le n 128 t))

number_short : (n : ℕ) → length (encode_number n) ≤ n + 1
number_short zero = omega (arith, one_byte 0 (lit≤ tt))
number_short (suc n) = omega (arith, difference_short (suc n) (omega arith))

-- ---- rising cells take at most as many bytes as there are numbers up to the last

behind_short : {p : ℕ} {cs : List ℕ} → Behind p cs → length (encode_behind p cs) + p ≤ last_of p cs
unfolding encode_behind last_of
behind_short last = omega arith
behind_short (next {p} {c} {cs} l d hs) =
    omega (arith, length-append (encode_number (c - p)) (encode_behind c cs), difference_short (c - p) (omega arith), behind_short hs)

rising_short : {cs : List ℕ} {n : ℕ} → Rising cs → ((length cs ≡ 0 → ⊥) → last_of 0 cs < n) → length (encode_rising cs) ≤ n
unfolding encode_rising last_of
rising_short empty h = omega arith
rising_short (first {c} {cs} d hs) h =
    omega (arith, length-append (encode_number c) (encode_behind c cs), number_short c, behind_short hs, h (λ e. omega arith))

cells_short : (table : List ℕ) (n : ℕ) → n ≤ number_limit → length (refined_bytes table n) ≤ n
unfolding refined_bytes
cells_short table n h = let (r, l) = refined_rising table n h in rising_short r l

-- ---- three quarters of the cells are of the last level

-- each level has four times the cells of the one before
fourfold : (p : Plan) (k : ℕ) → cell_offset p (suc k) ≡ 4 * cell_offset p k + p.columns * p.rows
fourfold p k =
    let e : 3 * cell_offset p (suc k) + p.columns * p.rows ≡ p.columns * p.rows * (4 ^ k * 4) = rw pow-suc at (cells_closed p (suc k)) in
    omega (arith, cells_closed p k)

-- of a plan that is not too large, with n columns times rows and k + 1 levels: how many cells c the first k can have
data Sized (n c : ℕ) : Type 0 where
  wide : c ≤ 5456 → Sized n c
  narrow : n ≤ 4 → c ≤ 5460 → Sized n c
  single : n ≤ 1 → c ≤ 5461 → Sized n c

sized : (k n c : ℕ) → k ≤ 7 → 3 * c + n ≡ n * 4 ^ k → 4 * c + n ≤ most_cells → Sized n c
sized k n c h e m =
    cases (ltb k 5) (λ t. shallow (ltb→lt k 5 t)) (λ f.
    cases (ltb k 6) (λ t. let q = at 5 (omega (arith, nltb→le k 5 f, ltb→lt k 6 t)) in let l : n ≤ 16 = omega arith in wide (omega arith)) (λ g.
    cases (ltb k 7) (λ t. let q = at 6 (omega (arith, nltb→le k 6 g, ltb→lt k 7 t)) in narrow (omega arith) (omega arith)) (λ i.
    let q = at 7 (omega (arith, nltb→le k 7 i)) in single (omega arith) (omega arith))))
  where
    shallow : k < 5 → Sized n c
    shallow l = let q : 4 ^ k ≤ 4 ^ 4 = pow-le-pow_right (lit≤ tt) {i = k} {j = 4} (omega arith) in wide (omega (arith, mul-le-mul (le_refl n) q))

    at : (j : ℕ) → k ≡ j → 3 * c + n ≡ n * 4 ^ j
    at j q = rw q at e

-- ---- the corners: the more cells, the fewer bytes

-- no bit from n on is set
bits_one : (n bits : ℕ) → n ≤ 4 → bits < 2 ^ n → length (encode_number bits) ≡ 1
bits_one n bits h l = let m : 2 ^ n ≤ 2 ^ 4 = pow_mono h in one_byte bits (omega arith)

-- nor bit 0
bits_none : (n bits : ℕ) → n ≤ 1 → bits < 2 ^ n → bits % 2 ≡ 0 → bits ≡ 0
bits_none n bits h l e = let m : 2 ^ n ≤ 2 ^ 1 = pow_mono h in omega arith

no_bytes : (a b : ℕ) → a ≡ 0 → b ≡ 0 → length (encode_corners a b) ≡ 0
unfolding encode_corners no_corners
no_bytes a b x y = rw (x, y) refl

module _ (p : Plan) (range : InRange p) (small : cell_total p ≤ most_cells) where
  columns≤ : p.columns ≤ p.columns * p.rows
  columns≤ = omega (arith, mul-le-mul (le_refl p.columns) range.rows≥)

  rows≤ : p.rows ≤ p.columns * p.rows
  rows≤ = omega (arith, mul-le-mul range.columns≥ (le_refl p.rows))

  -- a byte for each cell before the last level, and the corners
  pub cells_and_corners : coarser p + length (corner_bytes p) ≤ 5462
  cells_and_corners = go (sized (p.levels - 1) (p.columns * p.rows) (coarser p) (omega arith) (cells_closed p (p.levels - 1)) total)
    where
      total : 4 * coarser p + p.columns * p.rows ≤ most_cells
      total = let e : suc (p.levels - 1) ≡ p.levels = omega (arith, range.levels≥) in omega (arith, rw e at (fourfold p (p.levels - 1)))

      go : Sized (p.columns * p.rows) (coarser p) → coarser p + length (corner_bytes p) ≤ 5462
      go (wide c) = omega (arith, corners_short p.corners_across p.corners_up)
      go (narrow n c) = omega (
        arith,
        corners_within p.corners_across p.corners_up,
        bits_one p.columns p.corners_across (omega (arith, columns≤)) range.corners_across<,
        bits_one p.rows p.corners_up (omega (arith, rows≤)) range.corners_up<,
      )
      go (single n c) = omega (
        arith,
        no_bytes p.corners_across p.corners_up
            (bits_none p.columns p.corners_across (omega (arith, columns≤)) range.corners_across< range.even_across)
            (bits_none p.rows p.corners_up (omega (arith, rows≤)) range.corners_up< range.even_up),
      )

-- ---- the whole file

-- the plan's numbers take a byte each
head_bytes : (p : Plan) (count : ℕ) → InRange p → length (encode_numbers (head_numbers p count)) ≡ 6 + length (encode_number count)
unfolding encode_numbers
head_bytes p count range = rw (
  bytes_one p.columns (omega arith),
  bytes_one p.rows (omega arith),
  bytes_one p.levels (omega arith),
  bytes_one p.degree_across (omega arith),
  bytes_one p.degree_up (omega arith),
  bytes_one p.class (omega arith),
  append-nil (encode_number count),
) (omega arith)

-- where no cell from n on is refined
file_parts : (p : Plan) (table : List ℕ) (n : ℕ) → InRange p → listed (cell_total p) (refined table) ≡ listed n (refined table)
    → length (file_of p table)
    ≡ 6 + (length (encode_number (length (refined_below table n))) + length (refined_bytes table n) + length (corner_bytes p))
unfolding file_of encode_file refined_below refined_bytes
file_parts p table n range e =
    let ls = listed n (refined table) in
    rw e (omega (
      arith,
      length-append (encode_numbers (head_numbers p (length ls))) (encode_rising ls ++ corner_bytes p),
      length-append (encode_rising ls) (corner_bytes p),
      head_bytes p (length ls) range,
    ))

pub file_short : (p : Plan) (cs fs : List ℕ) → check p cs fs ≡ 0 → length (file_of p cs) ≤ most_file_bytes
unfolding refined_below
file_short p cs fs e =
    let G = (check_good p cs fs e).0 in
    let small = cells_and_corners p G.range G.small in
    let n = length (refined_below cs (coarser p)) in
    let k : n ≤ coarser p = listed_short (refined cs) (coarser p) in
    omega (
      arith,
      file_parts p cs (coarser p) G.range (listed_coarser p cs G.range (is_mesh_lem p cs G)),
      two_bytes n (omega arith),
      cells_short cs (coarser p) (omega arith),
    )

-- ---- and it is reached: a mesh of 4 columns, 1 row and 7 levels with a corner and all cells refined that can be

-- where the first cells are refined, each takes one byte: 0 the first, and then differences of 1
module _ (table : List ℕ) where
  abbrev AllBelow : ℕ → Type 0
  AllBelow n = (i : ℕ) → i < n → get_or table i 0 ≡ 2

  all_counted : (n : ℕ) → AllBelow n → length (refined_below table n) ≡ n
  all_counted zero h = ap length (refined_none table)
  all_counted (suc i) h = rw (← add-one i) (omega (arith, count_yes table i (h i (omega arith)), all_counted i (λ k l. h k (omega arith))))

  step_one : (n : ℕ) → AllBelow n → n - last_of 0 (refined_below table n) < 128
  step_one zero h = omega arith
  step_one (suc i) h = rw (← add-one i) (omega (arith, last_yes table i (h i (omega arith))))

  all_bytes : (n : ℕ) → AllBelow n → length (refined_bytes table n) ≡ n
  all_bytes zero h = ap length (bytes_none table)
  all_bytes (suc i) h =
      let below : AllBelow i = λ k l. h k (omega arith) in
      let step = i - last_of 0 (refined_below table i) in
      rw (← add-one i) (omega (
        arith,
        ap length (bytes_yes table i (h i (omega arith))),
        length-append (refined_bytes table i) (encode_number step),
        one_byte step (step_one i below),
        all_bytes i below,
      ))

abbrev pub cornered : Plan
cornered = record { columns = 4; rows = 1; levels = 7; degree_across = 1; degree_up = 1; class = 0; corners_across = 2; corners_up = 0 }

-- the cells of the levels before the last
abbrev pub coarse : Cells
coarse c = ltb c 5460

cornered_total : cell_total cornered ≡ 21844
unfolding offset grown ratio
cornered_total = refl

cornered_coarser : coarser cornered ≡ 5460
unfolding offset grown ratio
cornered_coarser = refl

cornered_range : InRange cornered
cornered_range = omega arith

-- they are those of a level below 6
module _ (c : ℕ) (i : c < cell_total cornered) where
  abbrev inside : CellInside cornered (cell_place cornered c)
  inside = cell_inside cornered cornered_range c i

  abbrev is : cell_number cornered (cell_place cornered c) ≡ c
  is = cell_number_place cornered cornered_range c i

  coarse_level : T (coarse c) → cell_level cornered c < 6
  coarse_level t = level_before (columns_at cornered) (rows_at cornered) 7 c inside is 6 (omega (arith, cornered_coarser, ltb→lt c 5460 t))

  level_coarse : cell_level cornered c < 6 → T (coarse c)
  level_coarse l = cases (ltb c 5460) (λ t. t) (λ t.
      let m = level_from (columns_at cornered) (rows_at cornered) 7 c inside is 6 (omega (arith, cornered_coarser, nltb→le c 5460 t)) in
      absurd (omega arith))

coarse_inside : Inside (hierarchy cornered) coarse
coarse_inside c t = omega (arith, cornered_total, ltb→lt c 5460 t)

coarse_mesh : MeshSet (hierarchy cornered) coarse
coarse_mesh = record {
  closed = λ c i t l. level_coarse (parent cornered c) (parent_lt cornered cornered_range c i l)
      (omega (arith, parent_level cornered cornered_range c i l, coarse_level c i t));
  shallow = λ c i t. omega (arith, coarse_level c i t);
}

-- class 0 has no neighbourhoods
coarse_admissible : Admissible (hierarchy cornered) coarse
coarse_admissible q c i t n = absurd ((near_places cornered cornered_range q c n).graded refl)

abbrev pub cornered_cells : List ℕ
cornered_cells = table_of cornered coarse

cornered_good : Good cornered cornered_cells
cornered_good = good_table cornered cornered_range coarse coarse_inside (omega (arith, cornered_total)) coarse_mesh coarse_admissible

byte_two : (table : List ℕ) (c : ℕ) → T (refined table c) → get_or table c 0 ≡ 2
unfolding refined
byte_two table c t = eqb→eq (get_or table c 0) 2 t

coarse_byte : (c : ℕ) → c < coarser cornered → get_or cornered_cells c 0 ≡ 2
coarse_byte c l =
    let t : T (coarse c) = lt→ltb c 5460 (omega (arith, cornered_coarser)) in
    byte_two cornered_cells c (subst (λ S. T (S c)) (sym (refined_table_of cornered cornered_range coarse coarse_inside)) t)

corner_bytes_lem : length (encode_corners 2 0) ≡ 2
unfolding encode_corners no_corners encode_numbers encode_number encode_groups
corner_bytes_lem = refl

pub longest : (check cornered cornered_cells (labels cornered cornered_cells) ≡ 0) × (length (file_of cornered cornered_cells) ≡ most_file_bytes)
longest =
    let cs = cornered_cells in
    let n = coarser cornered in
    let two : length (encode_number 5460) ≡ 2 = ap length (bytes_two 5460 (lit≤ tt) (lit≤ tt)) in
    let count : length (encode_number (length (refined_below cs n))) ≡ 2 = rw (all_counted cs n coarse_byte, cornered_coarser) two in
    let below = listed_coarser cornered cs cornered_range (is_mesh_lem cornered cs cornered_good) in
    let bytes = file_parts cornered cs n cornered_range below in
    (good_check cornered cs cornered_good, omega (arith, all_bytes cs n coarse_byte, cornered_coarser, corner_bytes_lem))
