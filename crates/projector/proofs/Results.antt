-- What is claimed of the corners holds. Assumes nothing.
use mathlib.Core.Path.{◌≡◌, refl, sym, ap, ◌∙◌}
use mathlib.Core.Logic.{◌≢◌}
use mathlib.Core.Bool.{Bool, true, false, not, ◌&&◌, cond}
use mathlib.Core.List.{List, ◌++◌, append_assoc, flat_map}
use Prim.Native.Nat.{ℕ, zero, suc, ◌+◌, ◌*◌, ◌^◌, ◌≤◌, ◌<◌, zero-le}
use native.Mathlib.Nat.{lt_of_le_of_lt}
use native.Mathlib.Omega.{arith}
use lib.Dec.{T, eqb, ltb, eqb-suc-zero, ltb→lt, nltb→le, lit<}
use lib.IntN.{ℤ, pos, nat_abs}
use lib.ListN.{length, take, drop, length-append, length-drop}
use lib.Seq.{drop-drop, drop_at}
use Rattle.facts.proofs.Tests.{differ, T_true}
use Rattle.exact.proofs.Dyadic.{dyadic_value, read_back}
use Rattle.grid.specs.declared.Plan.{Plan}
use Rattle.grid.specs.Plan.{in_range, too_large, cell_total, function_total, cell_place}
use Rattle.grid.proofs.Laws.{cell_inside}
use Rattle.mesh.specs.Mesh.{active, is_mesh, is_admissible, is_labelled, refusal3, refusal6, check, tally, count}
use Rattle.mesh.proofs.Bridge.{chain}
use Rattle.heights.specs.Heights.{on_mesh, height_sum, places, inexact, all_low, heights_refusal, number_of, height_of}
use Rattle.heights.proofs.Refusals.{answered}
use Rattle.heights.proofs.Results as claims
use Rattle.projector.specs.declared.Corner.{Corner}
use Rattle.projector.specs.Projector.{most_projected, line_at, corner_at, corner_of, corners_of, corners, three_words, words_of, plan_refusal, mesh_refusal, refusal, CornersOutcome, refused, filled, project}
use Rattle.projector.specs.Demands.{Sound, Projected, Demands, given}
use Rattle.projector.proofs.Places.{on_lines}
use Rattle.projector.proofs.Words.{words_length, listed_tally, corners_length, words_count, tally_small, words_below, words_from, twelve}
use Rattle.projector.proofs.Refusals.{three, plan_16, passed, accepted}

-- ---- the outcome by its refusal, n, and by whether the room is too little

module _ (cs : List Corner) (lent : List ℕ) where
  abbrev outcome : ℕ → Bool → CornersOutcome
  outcome n few =
      let words = words_of cs in
      cond (eqb n 0)
      (cond few (refused 10 lent) (record { answer = record { number = 0; corners = length cs }; out = words ++ drop (length words) lent }))
      (refused n lent)

  abbrev few : Bool
  few = ltb (length lent) (length (words_of cs))

  outcome_kept : (n : ℕ) (b : Bool) → (outcome n b).answer.number ≢ 0 → ((outcome n b).answer.corners ≡ 0) × ((outcome n b).out ≡ lent)
  unfolding refused
  outcome_kept zero true h = (refl, refl)
  outcome_kept zero false h = absurd (h refl)
  outcome_kept (suc n) b h = rw (eqb-suc-zero n) (refl, refl)

  outcome_taken : (n : ℕ) (b : Bool) → (outcome n b).answer.number ≡ 0 → (n ≡ 0) × (b ≡ false)
  unfolding refused
  outcome_taken zero false e = (refl, refl)
  outcome_taken zero true e = absurd (omega arith)
  outcome_taken (suc n) b e = absurd (let z : suc n ≡ 0 = rw (eqb-suc-zero n) at e in omega arith)

  outcome_number : (n : ℕ) (b : Bool) (P : ℕ → Type 0) → P 0 → P n → (b ≡ true → n ≡ 0 → P 10) → P (outcome n b).answer.number
  unfolding refused
  outcome_number zero true P z h t = t refl refl
  outcome_number zero false P z h t = z
  outcome_number (suc n) b P z h t = rw (eqb-suc-zero n) h

  fits : few ≡ false → length (words_of cs) ≤ length lent
  fits q = nltb→le (length lent) (length (words_of cs)) (rw q tt)

  outcome_size : (n : ℕ) (b : Bool) → few ≡ b → length (outcome n b).out ≡ length lent
  unfolding refused
  outcome_size zero true q = refl
  outcome_size zero false q = length-append (words_of cs) (drop (length (words_of cs)) lent) ∙ omega (arith, length-drop (length (words_of cs)) lent, fits q)
  outcome_size (suc n) b q = rw (eqb-suc-zero n) refl

  outcome_past : (n : ℕ) (b : Bool) → drop (3 * (outcome n b).answer.corners) (outcome n b).out ≡ drop (3 * (outcome n b).answer.corners) lent
  unfolding refused
  outcome_past zero true = refl
  outcome_past zero false = rw (← words_length cs) (drop_at (words_of cs) (drop (length (words_of cs)) lent) (length (words_of cs)) refl)
  outcome_past (suc n) b = rw (eqb-suc-zero n) refl

-- ---- which numbers a refusal may have

chain_all : (P : ℕ → Type 0) (a b : ℕ) → P a → P b → P (cond (eqb a 0) b a)
chain_all P zero b x y = y
chain_all P (suc a) b x y = rw (eqb-suc-zero a) x

-- not k
abbrev other : ℕ → ℕ → Type 0
other k n = T (not (eqb n k))

module _ (P : ℕ → Type 0) (p : Plan) where
  plan_number : P 0 → P 1 → P 2 → (most_projected < cell_total p → P 16) → P (plan_refusal p)
  unfolding plan_refusal
  plan_number a b c d = go (in_range p) (too_large p) (ltb most_projected (cell_total p)) refl
    where
      go : (x y z : Bool) → ltb most_projected (cell_total p) ≡ z → P (cond (not x) 1 (cond y 2 (cond z 16 0)))
      go false y z q = b
      go true true z q = c
      go true false true q = d (ltb→lt most_projected (cell_total p) (rw q tt))
      go true false false q = a

  check_number : (cells functions : List ℕ) → P 0 → P 1 → P 2 → P 3 → P 4 → P 5 → P 6 → P (check p cells functions)
  unfolding check refusal3 refusal6
  check_number cells functions a b c d e f g =
      go (in_range p) (too_large p) (eqb (length cells) (cell_total p) && eqb (length functions) (function_total p)) (is_mesh p cells) (is_admissible p cells) (is_labelled p cells functions)
    where
      go : (x y z u v w : Bool) → P (cond (eqb (three x y z) 0) (cond (not u) 4 (cond (not v) 5 (cond (not w) 6 0))) (three x y z))
      go false y z u v w = b
      go true true z u v w = c
      go true false false u v w = d
      go true false true false v w = e
      go true false true true false w = f
      go true false true true true false = g
      go true false true true true true = a

  heights_number : (functions : List ℕ) (heights : List ℤ) → P 0 → P 3 → P 14 → P 15 → P (heights_refusal p functions heights)
  unfolding heights_refusal
  heights_number functions heights a b c d = go (eqb (length heights) (function_total p)) (inexact p) (all_low p functions heights)
    where
      go : (x y z : Bool) → P (cond (not x) 3 (cond y 14 (cond (not z) 15 0)))
      go false y z = b
      go true true z = c
      go true false false = d
      go true false true = a

-- ---- all of it

module _ (p : Plan) (cells functions : List ℕ) (heights : List ℤ) (lent : List ℕ) where
  abbrev cs : List Corner
  cs = corners p functions heights cells

  abbrev n : ℕ
  n = refusal p cells functions heights

  -- the numbers that the refusals in order have
  numbers : (P : ℕ → Type 0) → P 0 → P 1 → P 2 → P 3 → P 4 → P 5 → P 6 → P 14 → P 15 → (most_projected < cell_total p → P 16) → P n
  unfolding refusal mesh_refusal
  numbers P a b c d e f g h i j =
      chain_all P (mesh_refusal p cells functions) (heights_refusal p functions heights)
      (chain_all P (plan_refusal p) (check p cells functions) (plan_number P p a b c j) (check_number P p cells functions a b c d e f g))
      (heights_number P p functions heights a d h i)

  -- ---- accepted

  -- what an accepted call had to pass
  pub record Taken : Type 0 where
    pub mesh : mesh_refusal p cells functions ≡ 0
    pub judged : heights_refusal p functions heights ≡ 0
    pub roomy : few cs lent ≡ false

  taken : (given p cells functions heights lent).number ≡ 0 → Taken
  unfolding project filled refusal
  taken e =
      let (z, b) = outcome_taken cs lent n (few cs lent) e in
      let (m, j) = chain (mesh_refusal p cells functions) (heights_refusal p functions heights) z in
      record { mesh = m; judged = j; roomy = b }

  written : Taken → project p cells functions heights lent ≡ record { answer = record { number = 0; corners = length cs }; out = words_of cs ++ drop (length (words_of cs)) lent }
  unfolding filled
  written t = sym (accepted p cells functions heights lent t.mesh t.judged (rw t.roomy refl))

  active_count : check p cells functions ≡ 0 → (count p cells functions).active ≡ tally (cell_total p) (active cells)
  unfolding count
  active_count e = rw e refl

  -- ---- where a corner stands

  module _ (c : ℕ) (below : c < cell_total p) (yes : active cells c ≡ true) where
    abbrev words_there : List ℕ
    words_there = words_of (corners_of p functions heights (cell_place p c))

    -- the cell's words, and what follows
    behind : Taken → (more : List ℕ) × (drop (12 * tally c (active cells)) (project p cells functions heights lent).out ≡ words_there ++ more)
    behind t =
        let (rest, e) = words_from p functions heights cells c below yes in
        let before = words_below p functions heights cells c in
        let others = words_of (flat_map (λ (d : ℕ). corners_of p functions heights (cell_place p d)) rest) in
        let tail = drop (length (words_of cs)) lent in
        let out : (project p cells functions heights lent).out ≡ words_of cs ++ tail = ap (λ (o : CornersOutcome). o.out) (written t) in
        let len : length before ≡ 12 * tally c (active cells) = twelve p functions heights cells c ∙ rw (listed_tally c (active cells)) refl in (
          others ++ tail,
          ap (drop (12 * tally c (active cells))) (out ∙ ap (λ (l : List ℕ). l ++ tail) e ∙ append_assoc before (words_there ++ others) tail ∙ ap (λ (l : List ℕ). before ++ l) (append_assoc words_there others tail))
              ∙ drop_at before (words_there ++ (others ++ tail)) (12 * tally c (active cells)) len,
        )

    among : (a b : ℕ) → a ≤ 1 → b ≤ 1 → (more : List ℕ) → take 3 (drop (6 * b + 3 * a) (words_there ++ more)) ≡ three_words (corner_of p functions heights (cell_place p c) a b)
    unfolding corners_of flat_map
    among zero zero g h more = refl
    among (suc zero) zero g h more = refl
    among zero (suc zero) g h more = refl
    among (suc zero) (suc zero) g h more = refl
    among (suc (suc a)) b g h more = absurd (omega arith)
    among zero (suc (suc b)) g h more = absurd (omega arith)
    among (suc zero) (suc (suc b)) g h more = absurd (omega arith)

    stands : Taken → (a b : ℕ) → a ≤ 1 → b ≤ 1
        → take 3 (drop (12 * tally c (active cells) + 6 * b + 3 * a) (project p cells functions heights lent).out) ≡ three_words (corner_of p functions heights (cell_place p c) a b)
    stands t a b g h =
        let (more, e) = behind t in
        let s : 12 * tally c (active cells) + 6 * b + 3 * a ≡ 12 * tally c (active cells) + (6 * b + 3 * a) = omega arith in
        ap (λ (m : ℕ). take 3 (drop m (project p cells functions heights lent).out)) s
        ∙ ap (take 3) (sym (drop-drop (6 * b + 3 * a) (12 * tally c (active cells)) (project p cells functions heights lent).out))
        ∙ ap (λ (l : List ℕ). take 3 (drop (6 * b + 3 * a) l)) e
        ∙ among a b g h more

  -- ---- what it is

  sound : Taken → (c : ℕ) → c < cell_total p → (a b : ℕ) → a ≤ 1 → b ≤ 1 → Sound p cells functions heights (cell_place p c) a b
  unfolding corner_of corner_at
  sound t c l a b g h =
      let k = passed p cells functions t.mesh in
      let at = cell_place p c in
      let o = on_lines p at k.range (cell_inside p k.range c l) g h in
      let x = line_at p at.level (at.column + a) in
      let y = line_at p at.level (at.row + b) in
      let is = sym (answered p cells functions heights (x * 8) (y * 8) k.checked t.judged (T_true (on_mesh p (x * 8) (y * 8)) o.inside) refl) in
      let few : nat_abs (height_sum p functions heights (x * 8) (y * 8)) < 2 ^ 53 = (claims.answered p cells functions heights (x * 8) (y * 8)).bits (ap number_of is) in
      record {
        across = dyadic_value 0 (pos x);
        up = dyadic_value 0 (pos y);
        answered = ap number_of is;
        height = sym (ap height_of is);
        floats = rw (read_back 0 (pos x) zero-le (lt_of_le_of_lt o.across≤ (lit< tt)), read_back 0 (pos y) zero-le (lt_of_le_of_lt o.up≤ (lit< tt)), read_back (places p.levels) (height_sum p functions heights (x * 8) (y * 8)) (omega (arith, k.range.levels≤)) few) refl;
      }

  room : 12 * most_projected ≤ length lent → n ≡ 0 → few cs lent ≡ true → ⊥
  unfolding refusal
  room h z f =
      let l = ltb→lt (length lent) (length (words_of cs)) (rw f tt) in
      omega (arith, words_count p functions heights cells, tally_small (cell_total p) (active cells), (passed p cells functions (chain (mesh_refusal p cells functions) _ z).0).small≤, l, h)

  -- ---- the number

  refusal_16 : in_range p ≡ true → too_large p ≡ false → most_projected < cell_total p → n ≡ 16
  unfolding refusal mesh_refusal
  refusal_16 a b l = rw (plan_16 p a b l) refl

  number_16 : n ≡ 16 → (given p cells functions heights lent).number ≡ 16
  unfolding project filled refused
  number_16 e = ap (λ (m : ℕ). (outcome cs lent m (few cs lent)).answer.number) e

  not_16 : cell_total p ≤ most_projected → (given p cells functions heights lent).number ≢ 16
  unfolding project filled
  not_16 l =
      differ _ 16 (outcome_number cs lent n (few cs lent) (other 16) tt (numbers (other 16) tt tt tt tt tt tt tt tt tt (λ g. absurd (omega (arith, g, l)))) (λ f z. tt))

  not_10 : 12 * most_projected ≤ length lent → (given p cells functions heights lent).number ≢ 10
  unfolding project filled
  not_10 l =
      differ _ 10 (outcome_number cs lent n (few cs lent) (other 10) tt (numbers (other 10) tt tt tt tt tt tt tt tt tt (λ g. tt)) (λ f z. absurd (room l z f)))

  projected : Projected p cells functions heights lent
  unfolding project filled
  projected = record {
    large = λ a b l. number_16 (refusal_16 a b l);
    small = not_16;
    enough = not_10;
    kept = outcome_kept cs lent n (few cs lent);
    size = outcome_size cs lent n (few cs lent) refl;
    past = outcome_past cs lent n (few cs lent);
    four = λ e. let t = taken e in ap (λ (o : CornersOutcome). o.answer.corners) (written t) ∙ corners_length p functions heights cells ∙ ap (λ (m : ℕ). 4 * m) (sym (active_count (passed p cells functions t.mesh).checked));
    stands = λ e c l u. stands c l (T_true (active cells c) u) (taken e);
    sound = λ e. sound (taken e);
  }

pub demands : Demands
demands = projected
