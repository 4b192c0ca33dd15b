-- Children that are not active rule their parents out, row by row; what is left are the reactivable cells. Assumes nothing.
use mathlib.Core.Path.{◌≡◌, refl, sym, ap, ◌∙◌, subst}
use mathlib.Core.Bool.{Bool, true, false, not, ◌&&◌, cond, and-true}
use mathlib.Core.List.{List}
use Prim.Native.Nat.{ℕ, suc, ◌+◌, ◌-◌, ◌*◌, ◌≤◌, ◌<◌}
use native.Mathlib.Omega.{arith}
use lib.Dec.{T, eqb, ltb, eqb→eq, ltb→lt, lt→ltb, nltb→le}
use lib.ListN.{length, get_or, set, length-set}
use lib.Seq.{get_or-set_same, get_or-set_other}
use borrow.Author.Tests.{ne_eqb}
use Rattle.facts.specs.Bounded.{implies}
use Rattle.facts.specs.Numbers.{tabulate}
use Rattle.facts.specs.Ranges.{every_from}
use Rattle.facts.specs.Mapped.{mapped, filled}
use Rattle.facts.proofs.Tests.{cases, same, differ, eqb_of, not_i, T_true, implies_i, implies_e}
use Rattle.facts.proofs.Ranges.{from_i, from_e, from_none, from_same}
use Rattle.facts.proofs.Numbers.{length_tabulate, get_d_tabulate, tabulate_is}
use Rattle.facts.proofs.Mapped.{mapped_length, mapped_at, mapped_is, mapped_more, filled_none, filled_set, filled_same, filled_more, filled_all}
use Rattle.grid.specs.declared.Plan.{Plan}
use Rattle.grid.specs.Plan.{columns_at, rows_at, cell_offset, cell_total, cell_level, last_level, parent, child}
use Rattle.grid.specs.Range.{InRange}
use Rattle.grid.proofs.Levels.{level_before, level_from}
use Rattle.grid.proofs.Laws.{cell_inside, cell_number_place, parent_level, is_child, child_lt, child_level, parent_of_child}
use Rattle.mesh.specs.Mesh.{active, refined, children, reactivable}
use Rattle.mesh.proofs.Bridge.{children_e, children_i}
use Rattle.nesting.specs.Reactivable.{reactivable_byte, refined_byte, inner_byte, ruled_out}
use Rattle.facts.proofs.Rows.{from_join, from_next}
use Rattle.nesting.proofs.Rows.{first_before, level_more}

both : (a b : Bool) (x : ℕ) → cond b (cond a x 2) 2 ≡ cond (a && b) x 2
both true b x = refl
both false true x = refl
both false false x = refl

-- a loop that fills a table from some entry on
module _ (from i : ℕ) (f : ℕ → ℕ) (xs : List ℕ) where
  pub filled_next : {ys : List ℕ} {v : ℕ} → from ≤ i → i < length ys → ys ≡ filled from (i - from) f xs → v ≡ f i → set ys i v ≡ filled from (i + 1 - from) f xs
  filled_next {ys} {v} l m e q =
      let n : i + 1 - from ≡ i - from + 1 = omega arith in
      filled_set i v f ys m q ∙ (ap (filled i 1 f) e ∙ (filled_more from (i - from) i 1 f xs (omega arith) ∙ ap (λ k. filled from k f xs) (sym n)))

pub filled_start : (from : ℕ) (f : ℕ → ℕ) (xs : List ℕ) → xs ≡ filled from (from - from) f xs
filled_start from f xs = let z : from - from ≡ 0 = omega arith in filled_none from f xs ∙ ap (λ n. filled from n f xs) (sym z)

-- the bytes before `end`, and those from there on
inner : (r b : Bool) → T b → ◌≡◌ {A = ℕ} (cond r 1 2) (cond (r && b) 1 2)
inner r true t = rw (and-true r)
inner r false t = absurd t

outer : (r b : Bool) → (T b → ⊥) → ◌≡◌ {A = ℕ} (cond r 2 2) (cond (r && b) 1 2)
outer r true f = absurd (f tt)
outer true false f = refl
outer false false f = refl

pub inner_bytes : (cells : List ℕ) (n end : ℕ) (xs : List ℕ) {ys zs : List ℕ} → end ≤ n → length xs ≡ n → ys ≡ filled 0 (end - 0) (refined_byte cells 1) xs
    → zs ≡ filled end (n - end) (refined_byte cells 2) ys → zs ≡ tabulate n (inner_byte cells end)
unfolding refined_byte inner_byte
inner_bytes cells n end xs l size e f =
    let z : end - 0 ≡ end = omega arith in
    let q : end + (n - end) ≡ n = omega arith in
    let y = e ∙ (ap (λ m. filled 0 m (refined_byte cells 1) xs) z ∙ filled_same 0 end _ (inner_byte cells end) xs (λ i a b. inner (refined cells i) (ltb i end) (lt→ltb i end (omega arith)))) in
    f ∙ (filled_same end (n - end) _ (inner_byte cells end) _ (λ i a b. outer (refined cells i) (ltb i end) (λ t. absurd (omega (arith, ltb→lt i end t))))
    ∙ (ap (filled end (n - end) (inner_byte cells end)) y ∙ (filled_more 0 end end (n - end) (inner_byte cells end) xs (omega arith)
    ∙ (ap (λ m. filled 0 m (inner_byte cells end) xs) q ∙ filled_all n (inner_byte cells end) xs size))))

-- what children leave of a byte, one by one
module _ (cells : List ℕ) (a : ℕ) where
  pub left_none : (byte : ℕ) → byte ≡ cond (every_from a 0 (active cells)) byte 2
  left_none byte = rw (from_none a (active cells))

  pub left_more : (n byte : ℕ) {left r : ℕ} → left ≡ cond (every_from a n (active cells)) byte 2 → r ≡ cond (eqb (get_or cells (a + n) 0) 1) left 2
      → r ≡ cond (every_from a (n + 1) (active cells)) byte 2
  unfolding active
  left_more n byte e q = q ∙ (ap (λ x. cond (eqb (get_or cells (a + n) 0) 1) x 2) e ∙ (both (every_from a n (active cells)) (active cells (a + n)) byte ∙ ap (λ t. cond t byte 2) (from_next a (active cells) n)))

module _ (p : Plan) (cells : List ℕ) where
  abbrev allows : ℕ → ℕ → Bool
  allows c d = implies (eqb (parent p d) c) (active cells d)

  pub ruled_none : (a n : ℕ) (xs : List ℕ) → n ≡ 0 → xs ≡ mapped (ruled_out p cells a n) xs
  unfolding ruled_out
  ruled_none a n xs z = mapped_is _ xs xs refl (λ c l. rw (z, from_none a (allows c)))

  ruled_more : (a m b n : ℕ) (xs : List ℕ) → b ≡ a + m → mapped (ruled_out p cells b n) (mapped (ruled_out p cells a m) xs) ≡ mapped (ruled_out p cells a (m + n)) xs
  unfolding ruled_out
  ruled_more a m b n xs e = mapped_more _ _ _ xs (λ c x.
      both (every_from a m (allows c)) (every_from b n (allows c)) x ∙ ap (λ t. cond t x 2) (from_join a (allows c) m n b e))

  -- the n children from d on of one cell
  ruled_set : (d n up : ℕ) (xs : List ℕ) → up < length xs → ((e : ℕ) → d ≤ e → e < d + n → parent p e ≡ up)
      → set xs up (cond (every_from d n (active cells)) (get_or xs up 0) 2) ≡ mapped (ruled_out p cells d n) xs
  unfolding ruled_out
  ruled_set d n up xs l h = mapped_is _ xs _ (length-set xs up _) (λ c m. cases (eqb up c)
      (λ t. let q : up ≡ c = eqb→eq up c t in
      let s : every_from d n (active cells) ≡ every_from d n (allows c) = from_same d n _ _ (λ e from to. rw (h e from to, T_true (eqb up c) t)) in
      rw (← s, ← q) (get_or-set_same xs up _ 0 l))
      (λ t. let s : every_from d n (allows c) ≡ true = T_true _ (from_i d n (allows c) (λ e from to. rw (h e from to, ne_eqb up c (differ up c t)) tt)) in
      rw s (get_or-set_other xs up c _ 0 (λ q. differ up c t (sym q)))))

  -- a row's children, parent by parent, and a level's, row by row
  ruled_join : (a m b n : ℕ) (ys : List ℕ) {xs zs : List ℕ} → b ≡ a + m → xs ≡ mapped (ruled_out p cells a m) ys → zs ≡ mapped (ruled_out p cells b n) xs → zs ≡ mapped (ruled_out p cells a (m + n)) ys
  ruled_join a m b n ys q e f = f ∙ (ap (mapped (ruled_out p cells b n)) e ∙ ruled_more a m b n ys q)

  pub ruled_rows : (a w row at : ℕ) (ys : List ℕ) {n : ℕ} {xs zs : List ℕ} → at ≡ a + row * w → n ≡ w → xs ≡ mapped (ruled_out p cells a (row * w)) ys → zs ≡ mapped (ruled_out p cells at n) xs
      → zs ≡ mapped (ruled_out p cells a ((row + 1) * w)) ys
  ruled_rows a w row at ys q en e f =
      let u : (row + 1) * w ≡ row * w + w = omega arith in
      rw u (ruled_join a (row * w) at w ys q e (rw en at f))

  pub ruled_next : (a s x at up : ℕ) (ys : List ℕ) {n byte : ℕ} {xs : List ℕ} → at ≡ a + x * s → n ≡ s → xs ≡ mapped (ruled_out p cells a (x * s)) ys → up < length xs
      → ((e : ℕ) → a + x * s ≤ e → e < a + x * s + s → parent p e ≡ up) → byte ≡ cond (every_from at n (active cells)) (get_or xs up 0) 2
      → set xs up byte ≡ mapped (ruled_out p cells a ((x + 1) * s)) ys
  ruled_next a s x at up ys {xs = xs} ea en e l h eb = ruled_rows a s x (a + x * s) ys refl refl e (ap (set xs up) (rw (ea, en) at eb) ∙ ruled_set (a + x * s) s up xs l h)

  -- the levels below the first, one by one
  pub ruled_levels : (k : ℕ) (ys : List ℕ) {xs zs : List ℕ} → xs ≡ mapped (ruled_out p cells (cell_offset p 1) (cell_offset p (k + 1) - cell_offset p 1)) ys
      → zs ≡ mapped (ruled_out p cells (cell_offset p (k + 1)) (rows_at p (k + 1) * columns_at p (k + 1))) xs
      → zs ≡ mapped (ruled_out p cells (cell_offset p 1) (cell_offset p (k + 1 + 1) - cell_offset p 1)) ys
  ruled_levels k ys e f = rw (level_more p k) (ruled_join (cell_offset p 1) _ (cell_offset p (k + 1)) _ ys (omega (arith, first_before p k)) e f)

-- 1 where nothing ruled the cell out
left : (r n y : Bool) → ◌≡◌ {A = ℕ} (cond y (cond (r && n) 1 2) 2) (cond (r && (n && y)) 1 2)
left true true y = refl
left true false true = refl
left true false false = refl
left false n true = refl
left false n false = refl

module _ (p : Plan) (range : InRange p) (cells : List ℕ) where
  abbrev last : ℕ
  last = p.levels - 1

  module _ (c : ℕ) (i : c < cell_total p) where
    -- the cells of the last level are those from its offset on
    inner_is : ltb c (cell_offset p last) ≡ not (last_level p (cell_level p c))
    unfolding last_level
    inner_is =
        let on = cell_inside p range c i in
        let is = cell_number_place p range c i in
        same _ _
        (λ t. not_i (eqb (cell_level p c + 1) p.levels) (λ e. omega (arith, range.levels≥, level_before _ _ p.levels c on is last (ltb→lt _ _ t), eqb→eq (cell_level p c + 1) p.levels e)))
        (λ t. cases (ltb c (cell_offset p last)) (λ u. u) (λ u. absurd (differ (cell_level p c + 1) p.levels t (omega (arith, on.level<, level_from _ _ p.levels c on is last (nltb→le _ _ u))))))

    -- the children are the cells from level 1 on that have it for a parent
    abbrev all : Bool
    all = every_from (cell_offset p 1) (cell_total p - cell_offset p 1) (allows p cells c)

    all_children : all ≡ children p c (active cells)
    all_children = same _ _ down up
      where
        down : T all → T (children p c (active cells))
        down t = children_i p c (active cells) (cell_inside p range c i).level< (λ l a b ha hb.
            let d : ℕ = child p c a b in
            let j : d < cell_total p = child_lt p range c a b i l ha hb in
            let f : cell_level p d ≡ suc (cell_level p c) = child_level p range c a b i l ha hb in
            let from : cell_offset p 1 ≤ d = cases (ltb d (cell_offset p 1))
            (λ u. absurd (omega (arith, level_before _ _ p.levels d (cell_inside p range d j) (cell_number_place p range d j) 1 (ltb→lt _ _ u)))) (nltb→le _ _) in
            implies_e (eqb (parent p d) c) (active cells d) (from_e (cell_offset p 1) (cell_total p - cell_offset p 1) (allows p cells c) t d from (omega arith)) (eqb_of _ _ (parent_of_child p range c a b i l ha hb)))

        up : T (children p c (active cells)) → T all
        up t = from_i (cell_offset p 1) (cell_total p - cell_offset p 1) (allows p cells c) (λ d l m. implies_i (eqb (parent p d) c) (active cells d) (λ q.
            let j : d < cell_total p = omega arith in
            let z : 1 ≤ cell_level p d = level_from _ _ p.levels d (cell_inside p range d j) (cell_number_place p range d j) 1 l in
            let e : parent p d ≡ c = eqb→eq _ _ q in
            let (a, b, ha, hb, is) = is_child p range d j z in
            let n : suc (cell_level p (parent p d)) < p.levels = omega (arith, parent_level p range d j z, (cell_inside p range d j).level<) in
            let k : suc (cell_level p c) < p.levels = rw e at n in
            subst (λ x. T (active cells x)) (ap (λ x. child p x a b) (sym e) ∙ is) (children_e p c (active cells) t k a b ha hb)))

  pub all_ruled : (xs : List ℕ) → xs ≡ mapped (ruled_out p cells (cell_offset p 1) (cell_total p - cell_offset p 1)) (tabulate (cell_total p) (inner_byte cells (cell_offset p last)))
      → xs ≡ tabulate (cell_total p) (reactivable_byte p cells)
  unfolding ruled_out inner_byte reactivable_byte reactivable
  all_ruled xs e =
      let start : List ℕ = tabulate (cell_total p) (inner_byte cells (cell_offset p last)) in
      let long : length start ≡ cell_total p = length_tabulate (cell_total p) (inner_byte cells (cell_offset p last)) in
      e ∙ tabulate_is (cell_total p) _ _ (mapped_length _ start ∙ long) (λ c i. mapped_at _ start c (omega arith)
      ∙ (ap (λ x. cond (all c i) x 2) (get_d_tabulate (cell_total p) (inner_byte cells (cell_offset p last)) c 0 i)
      ∙ (left (refined cells c) (ltb c (cell_offset p last)) (all c i)
      ∙ (λ j. cond (refined cells c && (inner_is c i j && all_children c i j)) 1 2))))
