-- The passes: from the table of a set to the table of its closure. Assumes nothing.
use mathlib.Core.Path.{◌≡◌, refl, sym, ap, subst, ◌∙◌}
use mathlib.Core.Logic.{◌≢◌}
use mathlib.Core.Bool.{Bool, true, false, not, ◌&&◌, ◌||◌, or-false}
use mathlib.Core.List.{List}
use Prim.Native.Nat.{ℕ, ◌+◌, ◌-◌, ◌<◌}
use native.Mathlib.Omega.{arith}
use lib.Dec.{T, eqb, eqb→eq, eqb_refl}
use Rattle.facts.proofs.Tests.{and_i, and_l, and_r, or_l, or_r, or_e, not_i, not_e, cases, same, differ, T_true, T_false}
use Rattle.hierarchy.specs.Hierarchy.{Hierarchy, Cells, closure}
use Rattle.hierarchy.proofs.Sets.{Lawful, ◌∪◌, ◌∖◌, MeshSet, Admissible, Within, active, reactivable}
use Rattle.hierarchy.proofs.Closure.{closure_has, closure_admissible, closure_least}
use Rattle.hierarchy.proofs.Undo.{refine_mesh, refine_keeps, refine_parent, coarsen_mesh, coarsen_within, coarsen_parent, reactivable_leaf, reactivable_in}
use Rattle.grid.specs.declared.Plan.{Plan}
use Rattle.grid.specs.declared.Place.{Place}
use Rattle.grid.specs.Plan.{ratio, cell_total, cell_level, cell_place, parent, near, hierarchy}
use Rattle.grid.specs.Range.{InRange}
use Rattle.grid.specs.Spans.{in_rectangle}
use Rattle.grid.proofs.Direction.{grown_pos}
use Rattle.grid.proofs.Laws.{ratio_pos, lawful, cell_inside, cell_number_place, parent_lt}
use Rattle.grid.proofs.Spans.{rectangle_test}
use Rattle.grid.proofs.Rectangles.{RectangleIn}
use Rattle.mesh.specs.Mesh.{table_of}
use Rattle.closure.specs.declared.Pass.{Pass}
use Rattle.closure.specs.declared.Pass.TheVariants.{Refine, Activate, Close}
use Rattle.closure.specs.Walk.{refine_after, flagged, settled, close_cell, visit, level_cells, pass_level, pass}
use Rattle.closure.proofs.Writing.{refined_is, table_same, rewritten}
use Rattle.closure.proofs.Growing.{Allowed, Between, Grows, Walks, walks_none, walks_sweep, walks_is, walks_has, walks_up, grows_none, grows_up}
use Rattle.closure.proofs.Walking.{Met, over_walks, after_walks, close_walks}

-- ---- what has grown from A, within the closure of B, has B and is admissible is the closure of B

module _ (H : Hierarchy) (L : Lawful H) (A B R : Cells) {l : ℕ} (g : Grows H (closure H B) l A R)
    (has : Within H B R) (old : (q c : ℕ) → q < H.size → T (A q) → T (H.near q c) → T (R c)) where
  grown_admissible : Admissible H R
  grown_admissible q c i t m = cases (A q) (λ a. old q c i a m) (λ a. g.near q c i t (not_e (A q) a) m)

  grown_is : (c : ℕ) → c < H.size → R c ≡ closure H B c
  grown_is c i = same _ _ (g.high c i) (closure_least H L B R grown_admissible has c)

-- ---- the cells of a level

level_rectangle : (p : Plan) → InRange p → (k : ℕ) → k < p.levels → RectangleIn p (level_cells p k)
level_rectangle p range k l = record {
  level< = l;
  rows = record { some = grown_pos (ratio p) (ratio_pos p) p.rows k range.rows≥; within = omega arith };
  columns = record { some = grown_pos (ratio p) (ratio_pos p) p.columns k range.columns≥; within = omega arith };
}

in_level : (p : Plan) → InRange p → (c : ℕ) → c < cell_total p → T (in_rectangle (level_cells p (cell_level p c)) (cell_place p c))
in_level p range c i =
    let n = cell_inside p range c i in
    rectangle_test _ _ (record { level = refl; columns = record { from = omega arith; to = n.column< }; rows = record { from = omega arith; to = n.row< } })

-- ---- a pass is a walk, if each visit is one from the sets that a level is entered with

module _ (p : Plan) (range : InRange p) (flags : List ℕ) (H : Hierarchy) (table : Cells → List ℕ) (A K : Cells) (w : Pass) (E : ℕ → ℕ → Type 0)
    (visits : (S : Cells) → Between H A K S → (c : ℕ) → c < cell_total p → Walks H table S K p.levels (visit w p flags (settled p (table S)) (cell_place p c)) (E c)) where
  level_walks : (k : ℕ) → k < p.levels → Walks H table A K p.levels (pass_level w p flags k) (Met p (level_cells p k) E)
  unfolding pass_level
  level_walks k l S b =
      let r = over_walks p range H table S K p.levels (visit w p flags (settled p (table S))) (level_cells p k) (level_rectangle p range k l) E
      (λ c i t. visits S b c i) S (record { low = λ c i t. t; high = b.high }) in
      record { set = r.set; made = r.made; grows = r.grows; has = r.has }

  pass_walks : Walks H table A K p.levels (pass w p flags) (λ d. (c : ℕ) × (c < cell_total p) × (cell_level p c + 1 < p.levels) × E c d)
  unfolding pass
  pass_walks = walks_has H table A K p.levels _ _ _
      (λ d m. let l = m.2 in (cell_level p m.0, omega arith, omega arith, (m.0, m.1, in_level p range m.0 m.1, m.3)))
      (walks_sweep H table A K p.levels (pass_level w p flags) (λ k. Met p (level_cells p k) E) 0 (p.levels - 1) (λ k a b. level_walks k (omega arith)))

module _ (p : Plan) (range : InRange p) (flags : List ℕ) where
  abbrev H : Hierarchy
  H = hierarchy p

  abbrev M : Cells
  M = flagged flags

  allowed_more : {A K S : Cells} → Allowed H A K → Between H A K S → Allowed H S K
  allowed_more may b = record {
    has = b.high;
    near = may.near;
    rooted = λ c i t l. b.low (parent p c) (parent_lt p range c i l) (may.rooted c i t l);
    shallow = may.shallow;
  }

  -- ---- refining

  module _ (S : Cells) (G : Admissible H S) (W : MeshSet H S)
      (may : (c : ℕ) → c < cell_total p → T (M c) → T (active H S c) × (cell_level p c + 1 < p.levels)) where
    abbrev K : Cells
    K = closure H (S ∪ M)

    refine_allowed : Allowed H S K
    refine_allowed = record {
      has = refine_keeps H (lawful p range) S M G W may;
      near = closure_admissible H (lawful p range) (S ∪ M);
      rooted = λ c i t l. refine_parent H (lawful p range) S M G W may c t l;
      shallow = (refine_mesh H (lawful p range) S M G W may).shallow;
    }

    -- each flagged cell is refined in its turn
    refine_visit : (X : Cells) → Between H S K X → (c : ℕ) → c < cell_total p
        → Walks H (table_of p) X K p.levels (visit Refine p flags (settled p (table_of p X)) (cell_place p c)) (λ d. (d ≡ c) × T (M c))
    unfolding visit
    refine_visit X b c i = cases (flagged flags c)
        (λ t. let k : T (K c) = closure_has H (lawful p range) (S ∪ M) c i (or_r (S c) (M c) t) in
        let a = allowed_more refine_allowed b in
        let f : List ℕ → List ℕ = close_cell (settled p (table_of p X)) p (cell_place p c) in
        walks_is H (table_of p) X K _ _ (refine_after f p (cell_place p c)) _ (λ u. rw (cell_number_place p range c i, T_true (flagged flags c) t) refl)
        (walks_has H (table_of p) X K _ _ _ _ (λ d e. e.0)
        (walks_up H (table_of p) X K _ _ _ _ (cell_inside p range c i).level<
        (after_walks p range X K a c i k f (close_walks p range X K a c i k)))))
        (λ t. walks_is H (table_of p) X K _ _ (λ u. u) _ (λ u. rw (cell_number_place p range c i, T_false (flagged flags c) (not_e (flagged flags c) t)) refl)
        (walks_none H (table_of p) X K _ _ (λ d e. not_e (flagged flags c) t e.1)))

    pub refine_pass : pass Refine p flags (table_of p S) ≡ table_of p (closure H (S ∪ M))
    refine_pass =
        let r = pass_walks p range flags H (table_of p) S K Refine (λ c d. (d ≡ c) × T (M c)) refine_visit S (record { low = λ c i t. t; high = refine_allowed.has }) in
        r.made ∙ table_same p range r.set K (grown_is H (lawful p range) S (S ∪ M) r.set r.grows
        (λ c i t. or_e (S c) (M c) t (r.grows.keeps c) (λ m. r.has c (c, i, (may c i m).1, (refl, m))))
        (λ q c i t n. r.grows.keeps c (G q c i t n)))

  -- ---- coarsening: the flagged cells are made active; then the neighbourhood of each refined cell is refined again

  module _ (S : Cells) (G : Admissible H S) (W : MeshSet H S) (may : (c : ℕ) → c < cell_total p → T (M c) → T (reactivable H S c)) where
    -- S without the flagged cells among D, those that were visited
    abbrev left : Cells → Cells
    left D c = S c && not (M c && D c)

    abbrev plus : Cells → ℕ → Cells
    plus D c d = D d || eqb d c

    left_other : (D : Cells) (c d : ℕ) → d ≢ c → left D d ≡ left (plus D c) d
    left_other D c d n = ap (λ (x : Bool). S d && not (M d && x)) (sym (ap (λ (x : Bool). D d || x) (T_false (eqb d c) (λ t. n (eqb→eq d c t))) ∙ or-false (D d)))

    left_none : (D D' : Cells) (c : ℕ) → (T (M c) → ⊥) → left D c ≡ left D' c
    left_none D D' c f = rw (T_false (M c) f) refl

    left_has : (D : Cells) (c : ℕ) → T ((S ∖ M) c) → T (left D c)
    left_has D c t =
        and_i (S c) _ (and_l (S c) (not (M c)) t) (not_i (M c && D c) (λ u. not_e (M c) (and_r (S c) (not (M c)) t) (and_l (M c) (D c) u)))

    active_visit : (D : Cells) (test : Place → Bool) (c : ℕ) → c < cell_total p → visit Activate p flags test (cell_place p c) (table_of p (left D)) ≡ table_of p (left (plus D c))
    unfolding visit
    active_visit D test c i = cases (flagged flags c)
        (λ t. let r : T (reactivable H S c) = may c i t in
        let s : T (S c) = reactivable_in H S c r in
        let out : left (plus D c) c ≡ false = T_false _ (λ u. not_e (M c && plus D c c) (and_r (S c) _ u) (and_i (M c) (plus D c c) t (or_r (D c) (eqb c c) (eqb_refl c)))) in
        let e = rewritten p range c i (left D) (left (plus D c))
        (λ d j k. left_other D c d k)
        (λ d j l q u. reactivable_leaf H S c r d j l q (and_l (S d) _ u))
        (λ l. left_has D (parent p c) (coarsen_parent H (lawful p range) S M G W may c i s l)) in
        rw (cell_number_place p range c i, T_true (flagged flags c) t) (rw out at e))
        (λ t. rw (cell_number_place p range c i, T_false (flagged flags c) (not_e (flagged flags c) t))
        (table_same p range (left D) (left (plus D c)) (λ d j. cases (eqb d c)
        (λ e. left_none D (plus D c) d (λ u. not_e (flagged flags c) t (subst (λ (x : ℕ). T (M x)) (eqb→eq d c e) u)))
        (λ e. left_other D c d (differ d c e)))))

    -- the visited cells are a set that grows, without neighbourhoods
    abbrev flat : Hierarchy
    flat = record { size = cell_total p; depth = p.levels; level = cell_level p; parent = parent p; near = λ q c. false }

    abbrev none : Cells
    none c = false

    abbrev all : Cells
    all c = true

    active_walks : (X : Cells) → Between flat none all X → (c : ℕ) → c < cell_total p
        → Walks flat (λ D. table_of p (left D)) X all p.levels (visit Activate p flags (settled p (table_of p (left X))) (cell_place p c)) (λ d. d ≡ c)
    active_walks X b c i D b' = record {
      set = plus D c;
      made = active_visit D _ c i;
      grows = record {
        keeps = λ d t. or_l (D d) (eqb d c) t;
        high = λ d j t. tt;
        near = λ q d j t n m. absurd m;
        level = λ q j t n. (cell_inside p range q j).level<;
      };
      has = λ d e. rw e (or_r (D c) (eqb c c) (eqb_refl c));
    }

    pub active_pass : pass Activate p flags (table_of p S) ≡ table_of p (S ∖ M)
    active_pass =
        let r = pass_walks p range flags flat (λ D. table_of p (left D)) none all Activate (λ c d. d ≡ c) active_walks none (record { low = λ c i t. t; high = λ c i t. tt }) in
        ap (pass Activate p flags) (table_same p range S (left none) (λ c i. sym (spare (S c) (M c))))
        ∙ (r.made ∙ table_same p range (left r.set) (S ∖ M) (λ c i. cases (flagged flags c)
        (λ m. let v : T (r.set c) = r.has c (c, i, W.shallow c i (reactivable_in H S c (may c i m)), refl) in
        rw (T_true (r.set c) v, T_true (flagged flags c) m) refl)
        (λ m. rw (T_false (flagged flags c) (not_e (flagged flags c) m)) refl)))
      where
        spare : (s m : Bool) → s && not (m && false) ≡ s
        spare true true = refl
        spare true false = refl
        spare false m = refl

    close_allowed : Allowed H (S ∖ M) (closure H (S ∖ M))
    close_allowed = record {
      has = closure_has H (lawful p range) (S ∖ M);
      near = closure_admissible H (lawful p range) (S ∖ M);
      rooted = λ c i t l. coarsen_parent H (lawful p range) S M G W may c i (coarsen_within H (lawful p range) S M G W may c t) l;
      shallow = (coarsen_mesh H (lawful p range) S M G W may).shallow;
    }

    -- each refined cell's neighbourhood is walked in its turn
    close_visit : (X : Cells) → Between H (S ∖ M) (closure H (S ∖ M)) X → (c : ℕ) → c < cell_total p
        → Walks H (table_of p) X (closure H (S ∖ M)) p.levels (visit Close p flags (settled p (table_of p X)) (cell_place p c)) (λ d. T ((S ∖ M) c) × T (near p c d))
    unfolding visit
    close_visit X b c i Y b' = cases (Y c)
        (λ t. let w = close_walks p range X (closure H (S ∖ M)) (allowed_more close_allowed b) c i (b'.high c i t) Y b' in
        let l = (cell_inside p range c i).level< in
        record {
          set = w.set;
          made = rw (cell_number_place p range c i, refined_is p Y c i, T_true (Y c) t) w.made;
          grows = grows_up H (closure H (S ∖ M)) (omega arith) w.grows;
          has = λ d e. w.has d e.1;
        })
        (λ t. record {
          set = Y;
          made = rw (cell_number_place p range c i, refined_is p Y c i, T_false (Y c) (not_e (Y c) t)) refl;
          grows = grows_none H (closure H (S ∖ M)) _ Y b'.high;
          has = λ d e. absurd (not_e (Y c) t (b'.low c i (b.low c i e.0)));
        })

    pub close_pass : pass Close p flags (table_of p (S ∖ M)) ≡ table_of p (closure H (S ∖ M))
    close_pass =
        let r = pass_walks p range flags H (table_of p) (S ∖ M) (closure H (S ∖ M)) Close (λ c d. T ((S ∖ M) c) × T (near p c d)) close_visit (S ∖ M) (record { low = λ c i t. t; high = close_allowed.has }) in
        r.made ∙ table_same p range r.set (closure H (S ∖ M)) (grown_is H (lawful p range) (S ∖ M) (S ∖ M) r.set r.grows
        (λ c i t. r.grows.keeps c t)
        (λ q c i t n. r.has c (q, i, W.shallow q i (and_l (S q) _ t), (t, n))))
