-- Document 02, Req 11, worked by hand: calls on planes as rows of one table under one theorem that the checker computes. What is expected is
-- written out. Assumes nothing.
use mathlib.Core.Bool.{Bool, true, ◌&&◌, ◌||◌, cond}
use mathlib.Core.List.{List, [], ◌∷◌, ◌++◌}
use Prim.Native.Nat.{ℕ, ◌-◌}
use lib.Count.{ones, ones_in}
use lib.Dec.{T, eqb}
use lib.ListN.{length, replicate, set}
use Rattle.facts.specs.Bounded.{some, every, sum}
use Rattle.facts.specs.Ranges.{every_from}
use Rattle.facts.specs.Numbers.{elem, all, listed, tabulate, stored, first}
use Rattle.hierarchy.specs.Hierarchy.{reach, needs, closure}
use Rattle.grid.specs.declared.Plan.{Plan}
use Rattle.grid.specs.Numbering.{offset, number, level_of, place_on, place}
use Rattle.grid.specs.Knots.{is_set, is_corner, corners_to, times, knot_from, knot, beyond, functions as functionCount, covers, apart, together}
use Rattle.grid.specs.Plan.{between, numbers_in_range, corners_in_range, in_range, too_large, plan_refusal, ratio, grown, above, below, parent, child, last_level, supported_at, supported, ancestor, common_at, near_at, near, function_total}
use Rattle.mesh.specs.declared.Count.{Count}
use Rattle.mesh.specs.Mesh.{absent, active, refined, reactivable, children, cell_fits, is_mesh, is_admissible, table_of, label_of, labels, is_labelled, refusal6, check, fresh_cells, fresh_functions, open_mesh, tally, area_of, count}
use Rattle.mesh.specs.Mesh.{refusal3 as byteRefusal3}
use Rattle.outcomes.specs.Calls.{Direction, refine, coarsen, By, cells, functions, eligible, is_too_deep, mark_refusal, under_marked, under_kept, selected, base, smallest, changed, written, refused, settle, new_cells, refusal, outcome}
use Rattle.outcomes.proofs.Examples.{same, named, lent, plan, W0, W2, fresh, refining}
use Rattle.planes.specs.Bits.{bit, in_plane, words_for, byte_of, bytes_of, word_from, word_at, plane_of, is_present, present_of, refined_of, small_at, are_small, no_spare, within, in_order, active_ones, ones_at}
use Rattle.planes.specs.Planes.{planes_length, sized, size_refusal, refusal3, order_refusal, refusal4, open_planes, check_planes, count_planes, PlanesOutcome, held, refused_planes, on_planes, cells_refusal, pack_refusal, packed, unpack_refusal, unpacked}

-- ---- rows

-- what a call finds: the planes of present and of refined cells, and the functions
pub record Found : Type 0 where
  pub plan : Plan
  pub present : List ℕ
  pub refined : List ℕ
  pub functions : List ℕ

pub data Row : Type 0 where
  -- each plane has so many words
  words : Plan → ℕ → Row
  -- open answers this number and leaves these planes, and with 0 the functions of a fresh mesh
  opens : Found → ℕ → List ℕ → List ℕ → Row
  -- check answers this number, and count with it zeros
  checks : Found → ℕ → Row
  -- count answers this many active and refined cells, active functions, and area
  counts : Found → ℕ → ℕ → ℕ → ℕ → Row
  -- the words of the active cells have so many ones, and those of the refined cells so many
  ones_of : Found → ℕ → ℕ → Row
  -- a call with these marks and lists of so many entries 7 answers these lists, and leaves these planes and these functions deactivated
  changes : Direction → By → Found → List ℕ → ℕ → ℕ → List ℕ → List ℕ → List ℕ → List ℕ → List ℕ → Row
  -- or is refused with this number, and leaves all as it was
  refuses : Direction → By → Found → List ℕ → ℕ → ℕ → ℕ → Row
  -- cells to planes that held these words: the number, and what the planes hold then
  packs : Plan → List ℕ → List ℕ → List ℕ → ℕ → List ℕ → List ℕ → Row
  -- planes to cells that held these bytes
  unpacks : Plan → List ℕ → List ℕ → List ℕ → ℕ → List ℕ → Row

-- ---- what a row says

abbrev pub ran : Direction → By → Found → List ℕ → ℕ → ℕ → PlanesOutcome
ran d by f marks n m = on_planes (named d by) f.plan f.present f.refined f.functions marks (lent n) (lent m)

abbrev pub counted : Found → Count
counted f = count_planes f.plan f.present f.refined f.functions

abbrev pub numbers : Count → List ℕ
numbers c = c.number ∷ c.active ∷ c.refined ∷ c.functions ∷ c.area ∷ []

abbrev pub holds : Row → Bool
holds (words p n) = eqb (planes_length p) n
holds (opens f n P R) =
    let o = open_planes f.plan f.present f.refined f.functions in
    eqb o.number n
    && (same o.present P && (same o.refined R && same o.functions (cond (eqb n 0) (fresh f.plan).functions f.functions)))
holds (checks f n) = eqb (check_planes f.plan f.present f.refined f.functions) n && (eqb n 0 || same (numbers (counted f)) (n ∷ 0 ∷ 0 ∷ 0 ∷ 0 ∷ []))
holds (counts f a r g x) = same (numbers (counted f)) (0 ∷ a ∷ r ∷ g ∷ x ∷ [])
holds (ones_of f a r) = eqb (sum (length f.present) (active_ones f.present f.refined)) a && eqb (sum (length f.refined) (ones_at f.refined)) r
holds (changes d by f marks n m cs fs P R off) =
    let o = ran d by f marks n m in
    same (o.answer.number ∷ o.answer.cells ∷ o.answer.functions ∷ []) (0 ∷ length cs ∷ length fs ∷ [])
    && (same o.cell_list (cs ++ lent (n - length cs))
    && (same o.function_list (fs ++ lent (m - length fs))
    && (same o.present P && (same o.refined R && same (listed (function_total f.plan) (refined o.functions)) off))))
holds (refuses d by f marks n m k) =
    let o = ran d by f marks n m in
    same (o.answer.number ∷ o.answer.cells ∷ o.answer.functions ∷ []) (k ∷ 0 ∷ 0 ∷ [])
    && (same o.cell_list (lent n)
    && (same o.function_list (lent m) && (same o.present f.present && (same o.refined f.refined && same o.functions f.functions))))
holds (packs p cs P R n P' R') = let o = packed p cs P R in eqb o.number n && (same o.present P' && same o.refined R')
holds (unpacks p P R cs n cs') = let o = unpacked p P R cs in eqb o.number n && same o.cells cs'

-- what stands in a `let` is computed only where it is asked for
abbrev pub all_hold : List Row → Bool
all_hold [] = true
all_hold (r ∷ rs) = let rest = all_hold rs in holds r && rest

-- ---- the table

abbrev found : Plan → List ℕ → List ℕ → List ℕ → Found
found p P R fs = record { plan = p; present = P; refined = R; functions = fs }

-- one level of a by b cells
abbrev one : ℕ → ℕ → Plan
one a b = plan a b 1 1 1 0

-- a word of ones
abbrev full : ℕ
full = 0xffff_ffff_ffff_ffff

-- 80 cells on two levels: 16, and 8 by 8 from 16 on
abbrev B : Plan
B = plan 4 4 2 1 1 0

-- 65 cells on two levels: 13, and 26 by 2 from 13 on
abbrev E : Plan
E = plan 13 1 2 1 1 0

-- 10 cells on two levels: two, and 4 by 2 from 2 on
abbrev S : Plan
S = plan 2 1 2 1 1 0

-- W0 and W2 just opened, and with 0 refined: 3, 4, 9 and 10 are present too
abbrev begun : Plan → Found
begun p = found p (7 ∷ []) (0 ∷ []) (fresh p).functions

abbrev split0 : Plan → Found
split0 p = found p (0x61f ∷ []) (1 ∷ []) (refining p (0 ∷ [])).functions

-- P7: with 0 and 3 refined, 15, 16, 27 and 28 are present as well
abbrev P7 : Found
P7 = found W2 (0x1801_861f ∷ []) (9 ∷ []) (refining W2 (0 ∷ 3 ∷ [])).functions

-- with 0, 1 and 4 refined, 5, 6, 11 and 12 are present, and 17, 18, 29 and 30. Cell 4 needs cell 1
abbrev needing : Found
needing = found W2 (0x6006_1e7f ∷ []) (0x13 ∷ []) (refining W2 (0 ∷ 1 ∷ 4 ∷ [])).functions

-- B with 0 and 15 refined: 16, 17, 24 and 25 are present, and 70, 71, 78 and 79, which are bits 6, 7, 14 and 15 of the second word
abbrev corners : Found
corners = found B (0x303_ffff ∷ 0xc0c0 ∷ []) (0x8001 ∷ 0 ∷ []) (refining B (0 ∷ 15 ∷ [])).functions

pub table : List Row
table =
    words W0 1
    ∷ words (one 8 8) 1
    ∷ words (one 5 13) 2
    ∷ words (plan 16 16 4 1 1 0) 340
    ∷ words (plan 1 1 8 1 1 0) 342
    ∷ words (plan 0 1 3 1 1 0) 0
    ∷ words (plan 16 16 5 1 1 0) 0
    -- open clears what was there, spare bits too: T = 63, 64 and 65
    ∷ opens (found W0 (full ∷ []) (full ∷ []) (replicate 94 9)) 0 (7 ∷ []) (0 ∷ [])
    ∷ opens (found (one 7 9) (full ∷ []) (full ∷ []) (replicate 80 9)) 0 (0x7fff_ffff_ffff_ffff ∷ []) (0 ∷ [])
    ∷ opens (found (one 8 8) (0 ∷ []) (full ∷ []) (replicate 81 9)) 0 (full ∷ []) (0 ∷ [])
    ∷ opens (found (one 5 13) (0 ∷ full ∷ []) (full ∷ full ∷ []) (replicate 84 9)) 0 (full ∷ 1 ∷ []) (0 ∷ 0 ∷ [])
    ∷ opens (found (plan 0 1 3 1 1 0) (9 ∷ []) (8 ∷ []) (9 ∷ [])) 1 (9 ∷ []) (8 ∷ [])
    ∷ opens (found (plan 16 16 5 1 1 0) (9 ∷ []) (8 ∷ []) (9 ∷ [])) 2 (9 ∷ []) (8 ∷ [])
    ∷ opens (found W0 (9 ∷ 9 ∷ []) (8 ∷ []) (replicate 94 9)) 3 (9 ∷ 9 ∷ []) (8 ∷ [])
    ∷ opens (found W0 (9 ∷ []) [] (replicate 94 9)) 3 (9 ∷ []) []
    ∷ opens (found W0 (9 ∷ []) (8 ∷ []) (replicate 93 9)) 3 (9 ∷ []) (8 ∷ [])
    -- 1, 2 and 3, before a refined cell that is absent, a spare bit in either plane and in both
    ∷ checks (begun W0) 0
    ∷ checks (found (plan 0 1 3 1 1 0) (7 ∷ []) (8 ∷ []) (fresh W0).functions) 1
    ∷ checks (found (plan 16 16 5 1 1 0) (7 ∷ []) (8 ∷ []) (fresh W0).functions) 2
    ∷ checks (found W0 (7 ∷ 0 ∷ []) (8 ∷ []) (fresh W0).functions) 3
    ∷ checks (found W0 (7 ∷ []) [] (fresh W0).functions) 3
    ∷ checks (found W0 (7 ∷ []) (8 ∷ []) (replicate 93 1)) 3
    ∷ checks (found W0 (7 ∷ []) (8 ∷ []) (fresh W0).functions) 4
    ∷ checks (found W0 (0x8000_0000_0000_0007 ∷ []) (0 ∷ []) (fresh W0).functions) 4
    ∷ checks (found W0 (7 ∷ []) (0x8000_0000_0000_0000 ∷ []) (fresh W0).functions) 4
    ∷ checks (found W0 (0x8000_0000_0000_0007 ∷ []) (0x8000_0000_0000_0000 ∷ []) (fresh W0).functions) 4
    -- then what check says of the bytes: cell 1 absent; 0 and 4 refined, 1 active; a function's byte
    ∷ checks (found W0 (5 ∷ []) (0 ∷ []) (fresh W0).functions) 4
    ∷ checks (found W2 (0x6006_061f ∷ []) (0x11 ∷ []) (fresh W0).functions) 5
    ∷ checks (found W0 (7 ∷ []) (0 ∷ []) (set (fresh W0).functions 0 2)) 6
    ∷ counts (begun W0) 3 0 8 48
    ∷ counts (split0 W0) 6 1 12 48
    ∷ counts (found (one 5 13) (full ∷ 1 ∷ []) (0 ∷ 0 ∷ []) (replicate 84 1)) 65 0 84 65
    ∷ counts corners 22 2 31 64
    -- by ones, of words that are small enough to be computed
    ∷ ones_of (begun W0) 3 0
    ∷ ones_of (split0 W0) 6 1
    ∷ ones_of (found S (0xcf ∷ 6 ∷ []) (1 ∷ 4 ∷ []) []) 6 2
    -- P1; P7's second split, and 3 joined again; a marked cell that another needs stays refined, and not where that one is marked too; P3
    -- and P6
    ∷ changes refine cells (begun W0) (0 ∷ []) 2 3 (0 ∷ []) (0 ∷ 4 ∷ []) (0x61f ∷ []) (1 ∷ []) (0 ∷ 4 ∷ [])
    ∷ changes refine cells (split0 W2) (3 ∷ []) 3 4 (3 ∷ []) (8 ∷ []) (0x1801_861f ∷ []) (9 ∷ []) (0 ∷ 4 ∷ 8 ∷ [])
    ∷ changes coarsen cells P7 (3 ∷ []) 2 3 (3 ∷ []) (8 ∷ []) (0x61f ∷ []) (1 ∷ []) (0 ∷ 4 ∷ [])
    ∷ changes coarsen cells needing (1 ∷ []) 0 0 [] [] (0x6006_1e7f ∷ []) (0x13 ∷ []) (0 ∷ 1 ∷ 4 ∷ 5 ∷ [])
    ∷ changes coarsen cells needing (1 ∷ 4 ∷ []) 2 3 (1 ∷ 4 ∷ []) (1 ∷ 5 ∷ []) (0x61f ∷ []) (1 ∷ []) (0 ∷ 4 ∷ [])
    ∷ changes refine functions (begun W0) (1 ∷ []) 2 4 (0 ∷ 1 ∷ []) (0 ∷ 1 ∷ 4 ∷ 5 ∷ []) (0x1e7f ∷ []) (3 ∷ []) (0 ∷ 1 ∷ 4 ∷ 5 ∷ [])
    ∷ changes coarsen functions (found W0 (0x1e7f ∷ []) (3 ∷ []) (refining W0 (0 ∷ 1 ∷ [])).functions) (0 ∷ 1 ∷ 4 ∷ 5 ∷ []) 2 4 (0 ∷ 1 ∷ []) (0 ∷ 1 ∷ 4 ∷ 5 ∷ []) (7 ∷ []) (0 ∷ []) []
    -- planes of two words
    ∷ changes refine cells (found B (0xffff ∷ 0 ∷ []) (0 ∷ 0 ∷ []) (fresh B).functions) (15 ∷ 0 ∷ []) 3 3 (0 ∷ 15 ∷ []) (0 ∷ 24 ∷ []) (0x303_ffff ∷ 0xc0c0 ∷ []) (0x8001 ∷ 0 ∷ []) (0 ∷ 24 ∷ [])
    -- at a word's edge: of the children of 12, which are 37, 38, 63 and 64, the last is the first bit of the second word
    ∷ changes refine cells (found E (0x1fff ∷ 0 ∷ []) (0 ∷ 0 ∷ []) (fresh E).functions) (12 ∷ []) 2 3 (12 ∷ []) (13 ∷ 27 ∷ []) (0x8000_0060_0000_1fff ∷ 1 ∷ []) (0x1000 ∷ 0 ∷ []) (13 ∷ 27 ∷ [])
    -- refused for the planes, for what they hold, for a mark, for the lists
    ∷ refuses refine cells (found W0 (7 ∷ []) (8 ∷ []) (replicate 93 1)) (63 ∷ []) 0 0 3
    ∷ refuses refine cells (found W0 (0x8000_0000_0000_0007 ∷ []) (0 ∷ []) (fresh W0).functions) (63 ∷ []) 0 0 4
    ∷ refuses coarsen cells (found W0 (7 ∷ []) (0 ∷ []) (set (fresh W0).functions 0 2)) (63 ∷ []) 0 0 6
    ∷ refuses refine cells (begun W0) (0 ∷ 63 ∷ []) 2 3 7
    ∷ refuses refine cells (begun W0) (0 ∷ 3 ∷ []) 2 3 8
    -- P8, P9 and P10
    ∷ refuses coarsen cells P7 (1 ∷ []) 2 3 8
    ∷ refuses coarsen cells P7 (0 ∷ []) 2 3 8
    ∷ refuses coarsen cells P7 (1 ∷ 3 ∷ []) 2 3 8
    ∷ refuses refine functions (found (one 1 1) (1 ∷ []) (0 ∷ []) (replicate 4 1)) (0 ∷ []) 1 1 9
    ∷ refuses refine cells (begun W0) (0 ∷ []) 0 3 10
    ∷ refuses refine cells (begun W0) (0 ∷ []) 1 1 11
    -- cells to planes, a mesh or not; byte 3; planes of two words
    ∷ packs S (2 ∷ 1 ∷ 1 ∷ 1 ∷ 0 ∷ 0 ∷ 1 ∷ 1 ∷ 0 ∷ 0 ∷ []) (full ∷ []) (full ∷ []) 0 (0xcf ∷ []) (1 ∷ [])
    ∷ packs S (0 ∷ 2 ∷ 0 ∷ 0 ∷ 0 ∷ 0 ∷ 0 ∷ 0 ∷ 0 ∷ 1 ∷ []) (9 ∷ []) (9 ∷ []) 0 (0x202 ∷ []) (2 ∷ [])
    ∷ packs S (2 ∷ 1 ∷ 1 ∷ 1 ∷ 0 ∷ 0 ∷ 1 ∷ 1 ∷ 0 ∷ 3 ∷ []) (9 ∷ []) (8 ∷ []) 4 (9 ∷ []) (8 ∷ [])
    ∷ packs S (2 ∷ 1 ∷ 1 ∷ 1 ∷ 0 ∷ 0 ∷ 1 ∷ 1 ∷ 0 ∷ 3 ∷ []) (9 ∷ 9 ∷ []) (8 ∷ []) 3 (9 ∷ 9 ∷ []) (8 ∷ [])
    -- planes to cells; a spare bit, cell 4 refined and absent; nine bytes
    ∷ unpacks S (0xcf ∷ []) (1 ∷ []) (replicate 10 9) 0 (2 ∷ 1 ∷ 1 ∷ 1 ∷ 0 ∷ 0 ∷ 1 ∷ 1 ∷ 0 ∷ 0 ∷ [])
    ∷ unpacks S (0x202 ∷ []) (2 ∷ []) (replicate 10 9) 0 (0 ∷ 2 ∷ 0 ∷ 0 ∷ 0 ∷ 0 ∷ 0 ∷ 0 ∷ 0 ∷ 1 ∷ [])
    ∷ unpacks S (0x4cf ∷ []) (1 ∷ []) (replicate 10 9) 4 (replicate 10 9)
    ∷ unpacks S (0xcf ∷ []) (0x11 ∷ []) (replicate 10 9) 4 (replicate 10 9)
    ∷ unpacks S (0x4cf ∷ []) (1 ∷ []) (replicate 9 9) 3 (replicate 9 9)
    ∷ []

pub worked : T (all_hold table)
unfolding table some every sum every_from elem all listed tabulate stored first reach needs closure offset number level_of place_on place between numbers_in_range corners_in_range in_range too_large plan_refusal ratio grown last_level above below parent child is_set is_corner corners_to times knot_from knot beyond functionCount covers apart together supported_at supported ancestor common_at near_at near absent active refined reactivable children cell_fits is_mesh is_admissible table_of label_of labels is_labelled byteRefusal3 refusal6 check fresh_cells fresh_functions open_mesh tally area_of count eligible is_too_deep mark_refusal under_marked under_kept selected base smallest changed written refused settle new_cells refusal outcome bit in_plane words_for byte_of bytes_of word_from word_at plane_of is_present present_of refined_of small_at are_small no_spare within in_order active_ones ones_at planes_length sized size_refusal refusal3 order_refusal refusal4 open_planes check_planes count_planes held refused_planes on_planes cells_refusal pack_refusal packed unpack_refusal unpacked ones ones_in
worked = tt
