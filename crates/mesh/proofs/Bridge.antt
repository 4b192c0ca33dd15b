-- From tables to sets of cells and back: what check 0 says of the refined cells, and that the table of such a set passes check.
-- Through these laws the theory of hierarchies speaks of tables. Assumes nothing.
use mathlib.Core.Path.{◌≡◌, refl, sym, ap, ◌∙◌, subst, fun_ext}
use mathlib.Core.Bool.{Bool, true, false, not, ◌&&◌, ◌||◌, cond}
use mathlib.Core.List.{List}
use Prim.Native.Nat.{ℕ, zero, suc, ◌+◌, ◌≤◌, ◌<◌}
use native.Mathlib.Omega.{arith}
use lib.Dec.{T, eqb, eqb→eq, leb, leb→le, le→leb, ltb, ltb→lt, nltb→le, eqb-suc-zero}
use lib.ListN.{length, get_or, get_or-eq_default}
use Rattle.facts.specs.Bounded.{implies, some, every}
use Rattle.facts.proofs.Tests.{and_i, and_l, and_r, or_l, or_r, or_e, not_i, not_e, cases, same, positive, differ, eqb_of, T_true, T_false, implies_i, implies_e}
use Rattle.facts.proofs.Bounded.{every_i, every_e, some_i, some_e}
use Rattle.facts.proofs.Numbers.{length_tabulate, get_d_tabulate, tabulate_is, get_d_some}
use Rattle.hierarchy.specs.Hierarchy.{Cells}
use Rattle.hierarchy.proofs.Sets as sets
use Rattle.hierarchy.proofs.Sets.{Inside, MeshSet, Admissible}
use Rattle.hierarchy.proofs.Undo as undo
use Rattle.grid.specs.declared.Plan.{Plan}
use Rattle.grid.specs.Plan.{in_range, ratio, too_large, cell_total, function_total, cell_level, last_level, parent, child, supported, near, hierarchy}
use Rattle.grid.specs.Range.{InRange}
use Rattle.grid.proofs.Laws.{in_range_lem, range_test, cell_inside, parent_lt, parent_level, is_child, child_lt, child_level, parent_of_child, near_in}
use Rattle.mesh.specs.Mesh.{absent, active, refined, deactivated, children, cell_fits, is_mesh, is_admissible, reactivable, table_of, label_of, labels, is_labelled, refusal3, refusal6, check}
use Rattle.grid.specs.Bounds.{most_cells}

-- ---- children

module _ (p : Plan) (c : ℕ) (test : ℕ → Bool) where
  abbrev rows : ℕ → Bool
  rows a = every (ratio p) (λ b. test (child p c a b))

  pub children_e : T (children p c test) → suc (cell_level p c) < p.levels → (a b : ℕ) → a < ratio p → b < ratio p → T (test (child p c a b))
  unfolding children last_level
  children_e t l a b ha hb =
      or_e (eqb (cell_level p c + 1) p.levels) (every (ratio p) rows) t (λ e. absurd (omega (arith, eqb→eq (cell_level p c + 1) p.levels e)))
      (λ u. every_e (ratio p) (λ b. test (child p c a b)) (every_e (ratio p) rows u a ha) b hb)

  pub children_i : cell_level p c < p.levels
      → (suc (cell_level p c) < p.levels → (a b : ℕ) → a < ratio p → b < ratio p → T (test (child p c a b))) → T (children p c test)
  unfolding children last_level
  children_i i f = cases (eqb (cell_level p c + 1) p.levels)
      (λ e. or_l (eqb (cell_level p c + 1) p.levels) (every (ratio p) rows) e)
      (λ e. or_r (eqb (cell_level p c + 1) p.levels) (every (ratio p) rows)
      (every_i (ratio p) rows (λ a ha. every_i (ratio p) (λ b. test (child p c a b)) (λ b hb.
      f (omega (arith, differ (cell_level p c + 1) p.levels e)) a b ha hb))))

-- ---- what is asked of one cell, as facts

module _ (p : Plan) (cs : List ℕ) (c : ℕ) where
  abbrev f1 : Bool
  f1 = leb (get_or cs c 0) 2

  abbrev f2 : Bool
  f2 = implies (eqb (cell_level p c) 0) (not (absent cs c))

  abbrev f3 : Bool
  f3 = cond (refined cs c) (children p c (λ d. not (absent cs d))) (children p c (absent cs))

  abbrev f4 : Bool
  f4 = implies (last_level p (cell_level p c)) (not (refined cs c))

  -- a child is present just where the cell is refined
  pub record CellFits : Type 0 where
    pub byte : get_or cs c 0 ≤ 2
    pub first : cell_level p c ≡ 0 → T (not (absent cs c))
    pub below : suc (cell_level p c) < p.levels → (a b : ℕ) → a < ratio p → b < ratio p → not (absent cs (child p c a b)) ≡ refined cs c
    pub shallow : T (refined cs c) → cell_level p c + 1 ≡ p.levels → ⊥

  child_is : T f3 → suc (cell_level p c) < p.levels → (a b : ℕ) → a < ratio p → b < ratio p → not (absent cs (child p c a b)) ≡ refined cs c
  child_is t l a b ha hb = cases (refined cs c)
      (λ r. let e = T_true (refined cs c) r in
      rw e (T_true _ (children_e p c (λ d. not (absent cs d)) (rw e at t) l a b ha hb)))
      (λ r. let e = T_false (refined cs c) (not_e (refined cs c) r) in
      rw e (ap not (T_true (absent cs (child p c a b)) (children_e p c (absent cs) (rw e at t) l a b ha hb))))

  pub fits_e : T (cell_fits p cs c) → CellFits
  unfolding cell_fits last_level
  fits_e t =
      let u : T (f2 && (f3 && f4)) = and_r f1 (f2 && (f3 && f4)) t in
      let v : T (f3 && f4) = and_r f2 (f3 && f4) u in
      record {
        byte = leb→le (get_or cs c 0) 2 (and_l f1 (f2 && (f3 && f4)) t);
        first = λ z. implies_e (eqb (cell_level p c) 0) (not (absent cs c)) (and_l f2 (f3 && f4) u) (eqb_of _ _ z);
        below = child_is (and_l f3 f4 v);
        shallow = λ r e. not_e (refined cs c) (implies_e (eqb (cell_level p c + 1) p.levels) (not (refined cs c)) (and_r f3 f4 v) (eqb_of _ _ e)) r;
      }

  child_of_lem : cell_level p c < p.levels → CellFits → T f3
  child_of_lem i k = cases (refined cs c)
      (λ r. let e = T_true (refined cs c) r in
      rw e (children_i p c (λ d. not (absent cs d)) i (λ l a b ha hb. subst T (sym (k.below l a b ha hb)) r)))
      (λ r. let e = T_false (refined cs c) (not_e (refined cs c) r) in
      rw e (children_i p c (absent cs) i (λ l a b ha hb. cases (absent cs (child p c a b)) (λ t. t) (λ n.
      absurd (not_e (refined cs c) r (subst T (k.below l a b ha hb) n))))))

  pub fits_i : cell_level p c < p.levels → CellFits → T (cell_fits p cs c)
  unfolding cell_fits last_level
  fits_i i k = and_i f1 (f2 && (f3 && f4)) (le→leb (get_or cs c 0) 2 k.byte)
      (and_i f2 (f3 && f4) (implies_i (eqb (cell_level p c) 0) (not (absent cs c)) (λ z. k.first (eqb→eq (cell_level p c) 0 z)))
      (and_i f3 f4 (child_of_lem i k)
      (implies_i (eqb (cell_level p c + 1) p.levels) (not (refined cs c)) (λ e. not_i (refined cs c) (λ r. k.shallow r (eqb→eq _ _ e))))))

pub mesh_fits : (p : Plan) (cs : List ℕ) → T (is_mesh p cs) → (c : ℕ) → c < cell_total p → CellFits p cs c
unfolding is_mesh
mesh_fits p cs t c i = fits_e p cs c (every_e (cell_total p) (cell_fits p cs) t c i)

-- ---- a table of mesh cells, said of its refined set

byte_is_lem : (b : ℕ) (x : Bool) → b ≤ 2 → not (eqb b 0) ≡ x → b ≡ cond (eqb b 2) 2 (cond x 1 0)
byte_is_lem zero x h e = rw (← e)
byte_is_lem (suc zero) x h e = rw (← e)
byte_is_lem (suc (suc zero)) x h e = refl
byte_is_lem (suc (suc (suc n))) x h e = absurd (omega arith)

pub byte_two : (s x : Bool) → eqb (cond s 2 (cond x 1 0)) 2 ≡ s
byte_two true x = refl
byte_two false true = refl
byte_two false false = refl

byte_one : (s x : Bool) → eqb (cond s 2 (cond x 1 0)) 1 ≡ not s && x
byte_one true x = refl
byte_one false true = refl
byte_one false false = refl

byte_zero : (s x : Bool) → (T s → T x) → not (eqb (cond s 2 (cond x 1 0)) 0) ≡ x
byte_zero true true f = refl
byte_zero true false f = absurd (f tt)
byte_zero false true f = refl
byte_zero false false f = refl

byte_le : (s x : Bool) → cond s 2 (cond x 1 0) ≤ 2
byte_le true x = omega arith
byte_le false true = omega arith
byte_le false false = omega arith

-- a cell of level 0, or with its parent in S
abbrev pub rooted : Plan → Cells → ℕ → Bool
rooted p S c = eqb (cell_level p c) 0 || S (parent p c)

pub length_table_of : (p : Plan) (S : Cells) → length (table_of p S) ≡ cell_total p
unfolding table_of
length_table_of p S = length_tabulate (cell_total p) (λ c. cond (S c) 2 (cond (rooted p S c) 1 0))

-- what check says of the cells
pub record Good (p : Plan) (cs : List ℕ) : Type 0 where
  pub range : InRange p
  pub small : cell_total p ≤ most_cells
  pub sized : length cs ≡ cell_total p
  pub mesh : MeshSet (hierarchy p) (refined cs)
  pub admissible : Admissible (hierarchy p) (refined cs)
  pub is : cs ≡ table_of p (refined cs)

module _ (p : Plan) (range : InRange p) where
  module _ (cs : List ℕ) (fit : (c : ℕ) → c < cell_total p → CellFits p cs c) where
    -- a cell is present just where it is rooted
    present_is : (c : ℕ) → c < cell_total p → not (absent cs c) ≡ rooted p (refined cs) c
    present_is c i = cases (eqb (cell_level p c) 0)
        (λ z. rw (T_true (eqb (cell_level p c) 0) z) (T_true (not (absent cs c)) ((fit c i).first (eqb→eq (cell_level p c) 0 z))))
        (λ z. let l : 1 ≤ cell_level p c = positive (cell_level p c) z in
        let (a, b, ha, hb, e) = is_child p range c i l in
        let k : suc (cell_level p (parent p c)) < p.levels = omega (arith, parent_level p range c i l, (cell_inside p range c i).level<) in
        rw (T_false (eqb (cell_level p c) 0) (not_e (eqb (cell_level p c) 0) z))
        (ap (λ d. not (absent cs d)) (sym e) ∙ (fit (parent p c) (parent_lt p range c i l)).below k a b ha hb))

    pub fit_is : length cs ≡ cell_total p → cs ≡ table_of p (refined cs)
    unfolding table_of
    fit_is s = tabulate_is (cell_total p) _ cs s (λ c i. unfold refined in byte_is_lem (get_or cs c 0) (rooted p (refined cs) c) (fit c i).byte (unfold absent in present_is c i))

    pub fit_mesh : MeshSet (hierarchy p) (refined cs)
    unfolding refined absent
    fit_mesh = record {
      closed = λ c i r l.
          let two : get_or cs c 0 ≡ 2 = eqb→eq (get_or cs c 0) 2 r in
          let n : T (not (absent cs c)) = rw two tt in
          or_e (eqb (cell_level p c) 0) (refined cs (parent p c)) (subst T (present_is c i) n) (λ z. absurd (omega (arith, eqb→eq (cell_level p c) 0 z))) (λ u. u);
      shallow = λ c i r. omega (arith, (cell_inside p range c i).level<, (fit c i).shallow r);
    }

  module _ (S : Cells) (I : Inside (hierarchy p) S) where
    get_d_table_of : (c : ℕ) → c < cell_total p → get_or (table_of p S) c 0 ≡ cond (S c) 2 (cond (rooted p S c) 1 0)
    unfolding table_of
    get_d_table_of c i = get_d_tabulate (cell_total p) (λ c. cond (S c) 2 (cond (rooted p S c) 1 0)) c 0 i

    pub refined_table_of : refined (table_of p S) ≡ S
    unfolding refined
    refined_table_of = fun_ext (λ c. cases (ltb c (cell_total p))
        (λ h. rw (get_d_table_of c (ltb→lt c (cell_total p) h)) (byte_two (S c) (rooted p S c)))
        (λ h. let l : length (table_of p S) ≤ c = omega (arith, nltb→le c (cell_total p) h, length_table_of p S) in
        rw (get_or-eq_default (table_of p S) 0 l) (same false (S c) (λ u. absurd u) (λ s. absurd (omega (arith, nltb→le c (cell_total p) h, I c s))))))

    pub good_table : cell_total p ≤ most_cells → MeshSet (hierarchy p) S → Admissible (hierarchy p) S → Good p (table_of p S)
    good_table s m a = record {
      range = range;
      small = s;
      sized = length_table_of p S;
      mesh = rw refined_table_of m;
      admissible = rw refined_table_of a;
      is = rw refined_table_of refl;
    }

-- ---- the byte at a cell of a good table

module _ (p : Plan) (cs : List ℕ) (G : Good p cs) where
  pub byte_of_lem : (c : ℕ) → c < cell_total p → get_or cs c 0 ≡ cond (refined cs c) 2 (cond (rooted p (refined cs) c) 1 0)
  unfolding table_of
  byte_of_lem c i = ap (λ u. get_or u c 0) G.is ∙ get_d_tabulate (cell_total p) (λ c. cond (refined cs c) 2 (cond (rooted p (refined cs) c) 1 0)) c 0 i

  pub byte_at_most : (c : ℕ) → c < cell_total p → get_or cs c 0 ≤ 2
  byte_at_most c i = rw (byte_of_lem c i) (byte_le (refined cs c) (rooted p (refined cs) c))

  pub good_inside : Inside (hierarchy p) (refined cs)
  unfolding refined
  good_inside c s = omega (arith, get_d_some cs c (λ e. absurd (rw e at s)), G.sized)

  pub rooted_of : (c : ℕ) → c < cell_total p → T (refined cs c) → T (rooted p (refined cs) c)
  rooted_of c i s = cases (eqb (cell_level p c) 0)
      (λ z. or_l (eqb (cell_level p c) 0) (refined cs (parent p c)) z)
      (λ z. or_r (eqb (cell_level p c) 0) (refined cs (parent p c)) (G.mesh.closed c i s (positive (cell_level p c) z)))

  -- "active" by its byte and of the set
  pub active_is : (c : ℕ) → c < cell_total p → active cs c ≡ sets.active (hierarchy p) (refined cs) c
  unfolding active sets.active
  active_is c i = rw (byte_of_lem c i) (byte_one (refined cs c) (rooted p (refined cs) c))

  pub present_of_lem : (c : ℕ) → c < cell_total p → not (absent cs c) ≡ rooted p (refined cs) c
  unfolding absent
  present_of_lem c i = rw (byte_of_lem c i) (byte_zero (refined cs c) (rooted p (refined cs) c) (rooted_of c i))

  -- "joinable" by the bytes of the children and of the set
  pub apart_bytes : (c : ℕ) → T (active cs c) → T (refined cs c) → ⊥
  unfolding active refined
  apart_bytes c a r = omega (arith, eqb→eq (get_or cs c 0) 1 a, eqb→eq (get_or cs c 0) 2 r)

  module _ (c : ℕ) (i : c < cell_total p) where
    abbrev last : Bool
    last = last_level p (cell_level p c)

    reactivable→ : T (reactivable p cs c) → T (sets.reactivable (hierarchy p) (refined cs) c)
    unfolding reactivable
    reactivable→ t =
        let s : T (refined cs c) = and_l (refined cs c) _ t in
        let u : T (children p c (active cs)) = and_r (not last) _ (and_r (refined cs c) (not last && children p c (active cs)) t) in
        let k : suc (cell_level p c) < p.levels = omega (arith, G.mesh.shallow c i s) in
        undo.→reactivable (hierarchy p) (refined cs) c s (λ d j l e r.
        let (a, b, ha, hb, q) = is_child p G.range d j l in
        let v : T (active cs (child p c a b)) = children_e p c (active cs) u k a b ha hb in
        apart_bytes d (subst (λ x. T (active cs x)) (ap (λ x. child p x a b) (sym e) ∙ q) v) r)

    reactivable← : T (sets.reactivable (hierarchy p) (refined cs) c) → T (reactivable p cs c)
    unfolding reactivable last_level
    reactivable← t =
        let s : T (refined cs c) = undo.reactivable_in (hierarchy p) (refined cs) c t in
        let k : suc (cell_level p c) < p.levels = omega (arith, G.mesh.shallow c i s) in
        let n : T (not (eqb (cell_level p c + 1) p.levels)) = not_i (eqb (cell_level p c + 1) p.levels) (λ e. absurd (omega (arith, eqb→eq (cell_level p c + 1) p.levels e))) in
        let u : T (children p c (active cs)) = children_i p c (active cs) (omega arith) (λ l a b ha hb.
        let d : ℕ = child p c a b in
        let j : d < cell_total p = child_lt p G.range c a b i l ha hb in
        let e : parent p d ≡ c = parent_of_child p G.range c a b i l ha hb in
        let f : cell_level p d ≡ suc (cell_level p c) = child_level p G.range c a b i l ha hb in
        subst T (sym (active_is d j)) (undo.→active (hierarchy p) (refined cs) d
        (undo.reactivable_leaf (hierarchy p) (refined cs) c t d j (omega arith) e) (λ _. subst (λ x. T (refined cs x)) (sym e) s))) in
        and_i (refined cs c) _ s (and_i (not (eqb (cell_level p c + 1) p.levels)) (children p c (active cs)) n u)

    pub reactivable_is : reactivable p cs c ≡ sets.reactivable (hierarchy p) (refined cs) c
    reactivable_is = same _ _ reactivable→ reactivable←

  good_fits : (c : ℕ) → c < cell_total p → CellFits p cs c
  good_fits c i = record {
    byte = byte_at_most c i;
    first = λ z. subst T (sym (present_of_lem c i)) (or_l (eqb (cell_level p c) 0) _ (eqb_of _ _ z));
    below = λ l a b ha hb.
        let d : ℕ = child p c a b in
        let e : parent p d ≡ c = parent_of_child p G.range c a b i l ha hb in
        let f : cell_level p d ≡ suc (cell_level p c) = child_level p G.range c a b i l ha hb in
        let z : eqb (cell_level p d) 0 ≡ false = T_false (eqb (cell_level p d) 0) (λ t. absurd (omega (arith, eqb→eq (cell_level p d) 0 t))) in
        present_of_lem d (child_lt p G.range c a b i l ha hb) ∙ ap (λ x. x || refined cs (parent p d)) z ∙ ap (refined cs) e;
    shallow = λ r e. absurd (omega (arith, G.mesh.shallow c i r));
  }

-- ---- the tests of a good table, and back

pub admissible_of : (p : Plan) → InRange p → (u : List ℕ) → T (is_admissible p u) → Admissible (hierarchy p) (refined u)
unfolding is_admissible
admissible_of p range u t q c i r n =
    implies_e (near p q c) (refined u c)
    (every_e (cell_total p) (λ c. implies (near p q c) (refined u c))
    (implies_e (refined u q) _ (every_e (cell_total p) (λ q. implies (refined u q) (every (cell_total p) (λ c. implies (near p q c) (refined u c)))) t q i) r)
    c (near_in p range q c n)) n

module _ (p : Plan) (cs : List ℕ) (G : Good p cs) where
  pub is_mesh_lem : T (is_mesh p cs)
  unfolding is_mesh
  is_mesh_lem = every_i (cell_total p) (cell_fits p cs) (λ c i. fits_i p cs c (cell_inside p G.range c i).level< (good_fits p cs G c i))

  pub is_admissible_lem : T (is_admissible p cs)
  unfolding is_admissible
  is_admissible_lem = every_i (cell_total p) _ (λ q i. implies_i (refined cs q) _ (λ r.
      every_i (cell_total p) _ (λ c j. implies_i (near p q c) (refined cs c) (G.admissible q c i r))))

-- ---- check

-- a chain of refusals that ends in 0 passes each
pub chain : (a b : ℕ) → cond (eqb a 0) b a ≡ 0 → (a ≡ 0) × (b ≡ 0)
chain zero b e = (refl, e)
chain (suc a) b e = absurd (let z : suc a ≡ 0 = rw (eqb-suc-zero a) at e in omega arith)

pub pass : (b : Bool) (n x : ℕ) → cond (not b) (suc n) x ≡ 0 → T b × (x ≡ 0)
pass true n x e = (tt, e)
pass false n x e = absurd (omega arith)

pub stop : (b : Bool) (n x : ℕ) → cond b (suc n) x ≡ 0 → (T b → ⊥) × (x ≡ 0)
stop true n x e = absurd (omega arith)
stop false n x e = (λ t. t, e)

module _ (p : Plan) (cs fs : List ℕ) where
  -- what refusals 1 to 3 leave
  pub record Passed : Type 0 where
    pub range : InRange p
    pub small : cell_total p ≤ most_cells
    pub cells : length cs ≡ cell_total p
    pub functions : length fs ≡ function_total p

  -- and what 4 to 6 leave
  pub record Checked : Type 0 where
    pub passed : Passed
    pub mesh : T (is_mesh p cs)
    pub admissible : T (is_admissible p cs)
    pub labelled : T (is_labelled p cs fs)

  pub passed : refusal3 p cs fs ≡ 0 → Passed
  unfolding refusal3 too_large
  passed e =
      let (t1, e1) = pass (in_range p) 0 _ e in
      let (t2, e2) = stop (too_large p) 1 _ e1 in
      let (t3, e3) = pass (eqb (length cs) (cell_total p) && eqb (length fs) (function_total p)) 2 0 e2 in
      record {
        range = in_range_lem p t1;
        small = nltb→le most_cells (cell_total p) (not_i (ltb most_cells (cell_total p)) t2);
        cells = eqb→eq _ _ (and_l (eqb (length cs) (cell_total p)) (eqb (length fs) (function_total p)) t3);
        functions = eqb→eq _ _ (and_r (eqb (length cs) (cell_total p)) (eqb (length fs) (function_total p)) t3);
      }

  checked : check p cs fs ≡ 0 → Checked
  unfolding check refusal6
  checked e =
      let (r3, r6) = chain (refusal3 p cs fs) (refusal6 p cs fs) e in
      let (t4, e4) = pass (is_mesh p cs) 3 _ r6 in
      let (t5, e5) = pass (is_admissible p cs) 4 _ e4 in
      let (t6, e6) = pass (is_labelled p cs fs) 5 0 e5 in
      record { passed = passed r3; mesh = t4; admissible = t5; labelled = t6 }

  pub check_passed : check p cs fs ≡ 0 → Passed
  check_passed e = (checked e).passed

  pub unchecked : Checked → check p cs fs ≡ 0
  unfolding check refusal3 refusal6 too_large
  unchecked k =
      rw (
        T_true (in_range p) (range_test p k.passed.range),
        T_false (ltb most_cells (cell_total p)) (λ t. absurd (omega (arith, ltb→lt most_cells (cell_total p) t, k.passed.small))),
        T_true (eqb (length cs) (cell_total p)) (eqb_of _ _ k.passed.cells),
        T_true (eqb (length fs) (function_total p)) (eqb_of _ _ k.passed.functions),
        T_true (is_mesh p cs) k.mesh,
        T_true (is_admissible p cs) k.admissible,
        T_true (is_labelled p cs fs) k.labelled,
      ) refl

  -- check answers 0 just where the cells are good and the functions have the labels that they fix
  pub check_good : check p cs fs ≡ 0 → Good p cs × (fs ≡ labels p cs)
  unfolding is_labelled labels
  check_good e =
      let k = checked e in
      let s = k.passed in
      let fit = mesh_fits p cs k.mesh in (
        record {
          range = s.range;
          small = s.small;
          sized = s.cells;
          mesh = fit_mesh p s.range cs fit;
          admissible = admissible_of p s.range cs k.admissible;
          is = fit_is p s.range cs fit s.cells;
        },
        tabulate_is (function_total p) (label_of p cs) fs s.functions
            (λ f i. eqb→eq _ _ (every_e (function_total p) (λ f. eqb (get_or fs f 0) (label_of p cs f)) k.labelled f i)),
      )

pub length_labels : (p : Plan) (cs : List ℕ) → length (labels p cs) ≡ function_total p
unfolding labels
length_labels p cs = length_tabulate (function_total p) (label_of p cs)

pub get_d_labels : (p : Plan) (cs : List ℕ) (f : ℕ) → f < function_total p → get_or (labels p cs) f 0 ≡ label_of p cs f
unfolding labels
get_d_labels p cs f i = get_d_tabulate (function_total p) (label_of p cs) f 0 i

pub good_check : (p : Plan) (cs : List ℕ) → Good p cs → check p cs (labels p cs) ≡ 0
unfolding is_labelled
good_check p cs G = unchecked p cs (labels p cs) (record {
  passed = record { range = G.range; small = G.small; cells = G.sized; functions = length_labels p cs };
  mesh = is_mesh_lem p cs G;
  admissible = is_admissible_lem p cs G;
  labelled = every_i (function_total p) _ (λ f i. eqb_of _ _ (get_d_labels p cs f i));
})

-- ---- deactivated functions

pub refined_not_absent : (cs : List ℕ) (c : ℕ) → T (absent cs c) → T (refined cs c) → ⊥
unfolding absent refined
refined_not_absent cs c a r = omega (arith, eqb→eq (get_or cs c 0) 0 a, eqb→eq (get_or cs c 0) 2 r)

module _ (p : Plan) (cs : List ℕ) (f : ℕ) where
  abbrev some_absent : Bool
  some_absent = some (cell_total p) (λ c. supported p f c && absent cs c)

  abbrev all_refined : Bool
  all_refined = every (cell_total p) (λ c. implies (supported p f c) (refined cs c))

  two : (a b : Bool) → (T b → T a → ⊥) → eqb (cond a 0 (cond b 2 1)) 2 ≡ b
  two true true h = absurd (h tt tt)
  two true false h = refl
  two false true h = refl
  two false false h = refl

  -- a function is deactivated just where all cells of its support are refined
  pub deactivated_is : eqb (label_of p cs f) 2 ≡ every (cell_total p) (λ c. implies (supported p f c) (refined cs c))
  unfolding label_of
  deactivated_is = two some_absent all_refined (λ b a.
      let (c, i, u) = some_e (cell_total p) (λ c. supported p f c && absent cs c) a in
      refined_not_absent cs c (and_r (supported p f c) (absent cs c) u)
      (implies_e (supported p f c) (refined cs c) (every_e (cell_total p) (λ c. implies (supported p f c) (refined cs c)) b c i) (and_l (supported p f c) _ u)))

  pub deactivated_e : T (eqb (label_of p cs f) 2) → (c : ℕ) → c < cell_total p → T (supported p f c) → T (refined cs c)
  deactivated_e t c i s = implies_e (supported p f c) (refined cs c) (every_e (cell_total p) (λ c. implies (supported p f c) (refined cs c)) (subst T deactivated_is t) c i) s

  pub deactivated_i : ((c : ℕ) → c < cell_total p → T (supported p f c) → T (refined cs c)) → T (eqb (label_of p cs f) 2)
  deactivated_i h = subst T (sym deactivated_is) (every_i (cell_total p) _ (λ c i. implies_i (supported p f c) (refined cs c) (h c i)))

  -- and passive where one of them is absent
  pub passive_i : (c : ℕ) → c < cell_total p → T (supported p f c) → T (absent cs c) → label_of p cs f ≡ 0
  unfolding label_of
  passive_i c i s a = rw (T_true some_absent (some_i (cell_total p) (λ c. supported p f c && absent cs c) c i (and_i (supported p f c) (absent cs c) s a))) refl

  -- and one or the other where none is
  pub present_i : ((c : ℕ) → c < cell_total p → T (supported p f c) → T (not (absent cs c))) → (1 ≤ label_of p cs f) × (label_of p cs f ≤ 2)
  unfolding label_of
  present_i h = present_label some_absent all_refined (λ a.
      let (c, i, u) = some_e (cell_total p) (λ c. supported p f c && absent cs c) a in
      not_e (absent cs c) (h c i (and_l (supported p f c) _ u)) (and_r (supported p f c) (absent cs c) u))
    where
      present_label : (a b : Bool) → (T a → ⊥) → (1 ≤ cond a 0 (cond b 2 1)) × (cond a 0 (cond b 2 1) ≤ 2)
      present_label true b n = absurd (n tt)
      present_label false true n = (omega arith, omega arith)
      present_label false false n = (omega arith, omega arith)

-- deactivated functions only grow with the refined cells
pub deactivated_grow : (p : Plan) (old new : List ℕ) → ((c : ℕ) → c < cell_total p → T (refined old c) → T (refined new c))
    → (f : ℕ) → f < function_total p → T (deactivated (labels p old) f) → T (deactivated (labels p new) f)
unfolding refined
deactivated_grow p old new h f i t =
    subst (λ n. T (eqb n 2)) (sym (get_d_labels p new f i))
    (deactivated_i p new f (λ c j s. h c j (deactivated_e p old f (subst (λ n. T (eqb n 2)) (get_d_labels p old f i) t) c j s)))
