-- The labels of a mesh are those of the published hierarchical basis: the function table is 1, 2 or 0 exactly where definition 2 of
-- document 000 has the function active, deactivated or passive. Assumes nothing.
use Prim.Native.Nat.{ℕ, zero, suc, ◌<◌, ◌≤◌}
use native.Mathlib.Nat.{eq-or-lt_of_le, le_of_suc-le-suc, le_refl}
use native.Mathlib.Omega.{arith}
use mathlib.Core.Bool.{Bool, true, false, not, ◌&&◌, cond}
use mathlib.Core.List.{List}
use mathlib.Core.Logic.Iff
use mathlib.Core.Logic.{◌↔◌, ⊎_elim}
use mathlib.Core.Path.{◌≡◌, refl, ap, ◌∙◌}
use lib.Dec.{T, eqb, eqb→eq}
use lib.ListN.{get_or}
use Rattle.facts.specs.Bounded.{implies, some, every}
use Rattle.facts.proofs.Tests.{and_i, and_l, and_r, or_l, or_r, or_e, cases, not_i, not_e, same, eqb_of, implies_i, implies_e}
use Rattle.facts.proofs.Bounded.{some_i, some_e, every_i, every_e}
use Rattle.grid.specs.declared.Plan.{Plan}
use Rattle.grid.specs.Plan.{cell_total, function_total, cell_number, function_level, supported}
use Rattle.grid.specs.Range.{InRange}
use Rattle.grid.proofs.Laws.{function_inside}
use Rattle.mesh.specs.Mesh.{absent, refined, is_mesh, label_of, check}
use Rattle.mesh.proofs.Bridge.{check_good, get_d_labels, is_mesh_lem}
use Rattle.basis.specs.Basis.{finest, cell_over, in_region, inside_region, member, active_function, deactivated_function, passive_function, Empty, Subdomains, Published}
use Rattle.basis.proofs.Points.{Point}
use Rattle.basis.proofs.Regions.{region_present, region_refined, region_shrinks, region_empty, inside_i, inside_within, never_inside, inside_cells, cells_inside}

-- ---- a label by two tests: the support lies in the region of its level, and in the next

abbrev byte : Bool → Bool → ℕ
byte i n = cond (not i) 0 (cond n 2 1)

label_one : (i n : Bool) → (byte i n ≡ 1) ↔ (T i × (¬ T n))
label_one true true = (λ e. absurd (omega arith), λ t. absurd (t.1 tt))
label_one true false = (λ e. (tt, λ t. t), λ t. refl)
label_one false n = (λ e. absurd (omega arith), λ t. absurd t.0)

label_two : (i n : Bool) → (byte i n ≡ 2) ↔ (T i × T n)
label_two true true = (λ e. (tt, tt), λ t. refl)
label_two true false = (λ e. absurd (omega arith), λ t. absurd t.1)
label_two false n = (λ e. absurd (omega arith), λ t. absurd t.0)

label_zero : (i n : Bool) → (byte i n ≡ 0) ↔ (¬ T i)
label_zero true true = (λ e. absurd (omega arith), λ t. absurd (t tt))
label_zero true false = (λ e. absurd (omega arith), λ t. absurd (t tt))
label_zero false n = (λ e t. t, λ t. refl)

label_most : (i n : Bool) → byte i n ≤ 2
label_most true true = omega arith
label_most true false = omega arith
label_most false n = omega arith

module _ (p : Plan) (range : InRange p) (cells : List ℕ) (mesh : T (is_mesh p cells)) where
  finest_suc : suc (finest p) ≡ p.levels
  unfolding finest
  finest_suc = omega (arith, range.levels≥)

  pub subdomains : Subdomains p cells
  subdomains = record {
    nested = λ k y x b l m t. region_shrinks p range cells mesh y x (record { row< = l; column< = m }) k b t;
    empty = λ y x l m t. region_empty p range cells mesh y x (record { row< = l; column< = m }) (finest p) finest_suc (rw finest_suc t);
  }

  module _ (f : ℕ) (b : f < function_total p) where
    abbrev own : ℕ
    own = function_level p f

    own_lt : own < p.levels
    own_lt = (function_inside p range f b).level<

    abbrev inside : ℕ → Bool
    inside k = inside_region p cells f k

    -- ---- the label

    abbrev holed : Bool
    holed = some (cell_total p) (λ c. supported p f c && absent cells c)

    abbrev whole : Bool
    whole = every (cell_total p) (λ c. implies (supported p f c) (refined cells c))

    present_cells : T (inside own) → (c : ℕ) → c < cell_total p → T (supported p f c) → T (not (absent cells c))
    present_cells = inside_cells p range cells mesh f b own (λ c. not (absent cells c)) (λ y x pt. region_present p range cells mesh y x pt own own_lt)

    cells_present : ((c : ℕ) → c < cell_total p → T (supported p f c) → T (not (absent cells c))) → T (inside own)
    cells_present = cells_inside p range cells mesh f b own (λ c. not (absent cells c)) (λ y x pt. region_present p range cells mesh y x pt own own_lt)

    holed_is : holed ≡ not (inside own)
    holed_is = same holed (not (inside own))
        (λ t. not_i (inside own) (λ i. let w = some_e _ _ t in
        not_e (absent cells w.0) (present_cells i w.0 w.1 (and_l (supported p f w.0) _ w.2)) (and_r (supported p f w.0) _ w.2)))
        (λ n. cases holed (λ t. t) (λ h. absurd (not_e (inside own) n (cells_present (λ c l s.
        not_i (absent cells c) (λ a. not_e holed h (some_i (cell_total p) _ c l (and_i (supported p f c) (absent cells c) s a))))))))

    whole_is : whole ≡ inside (suc own)
    whole_is = same whole (inside (suc own))
        (λ t. cells_inside p range cells mesh f b (suc own) (refined cells) told (λ c l s. implies_e (supported p f c) _ (every_e (cell_total p) _ t c l) s))
        (λ t. every_i (cell_total p) _ (λ c l. implies_i (supported p f c) _ (inside_cells p range cells mesh f b (suc own) (refined cells) told t c l)))
      where
        told : (y x : ℕ) → Point p y x → in_region p cells (suc own) y x ≡ refined cells (cell_number p (cell_over p own y x))
        told y x pt = region_refined p range cells mesh y x pt own

    label_is : label_of p cells f ≡ byte (inside own) (inside (suc own))
    unfolding label_of
    label_is = rw (holed_is, whole_is)

    -- ---- membership

    -- no function is in H before its level
    member_low : (k : ℕ) → k < own → ¬ T (member p cells k f)
    unfolding member
    member_low zero l t = omega (arith, eqb→eq own 0 t)
    member_low (suc k) l t = or_e (member p cells k f && not (inside (suc k))) (eqb own (suc k) && inside (suc k)) t
        (λ u. member_low k (omega arith) (and_l (member p cells k f) _ u))
        (λ u. omega (arith, eqb→eq own (suc k) (and_l (eqb own (suc k)) _ u)))

    member_at : (k : ℕ) → own ≡ k → T (member p cells k f) ↔ T (inside k)
    unfolding member in_region
    member_at zero e = (λ t. inside_i p range cells mesh f b 0 (λ y x pt s. tt), λ t. eqb_of own 0 e)
    member_at (suc k) e = (
      λ t. or_e (member p cells k f && not (inside (suc k))) (eqb own (suc k) && inside (suc k)) t
          (λ u. absurd (member_low k (omega arith) (and_l (member p cells k f) _ u)))
          (λ u. and_r (eqb own (suc k)) _ u),
      λ t. or_r (member p cells k f && not (inside (suc k))) _ (and_i (eqb own (suc k)) _ (eqb_of own (suc k) e) t),
    )

    -- past its level a function is only kept or dropped
    member_keep : (k : ℕ) → own ≤ k → T (member p cells (suc k) f) ↔ (T (member p cells k f) × (¬ T (inside (suc k))))
    unfolding member
    member_keep k l = (
      λ t. or_e (member p cells k f && not (inside (suc k))) (eqb own (suc k) && inside (suc k)) t
          (λ u. (and_l (member p cells k f) _ u, not_e (inside (suc k)) (and_r (member p cells k f) _ u)))
          (λ u. absurd (omega (arith, eqb→eq own (suc k) (and_l (eqb own (suc k)) _ u)))),
      λ t. or_l (member p cells k f && not (inside (suc k))) _ (and_i (member p cells k f) _ t.0 (not_i (inside (suc k)) t.1)),
    )

    member_own : T (member p cells own f) ↔ T (inside own)
    member_own = member_at own refl

    member_next : T (member p cells (suc own) f) ↔ (T (inside own) × (¬ T (inside (suc own))))
    member_next =
        let keep = member_keep own (le_refl own) in
        (λ t. (member_own.0 (keep.0 t).0, (keep.0 t).1), λ t. keep.1 (member_own.1 t.0, t.1))

    -- past its level it is in H where it was added and not dropped at once
    member_past : (k : ℕ) → own < k → k ≤ p.levels → T (member p cells k f) ↔ (T (inside own) × (¬ T (inside (suc own))))
    member_past zero l m = absurd (omega arith)
    member_past (suc k) l m = ⊎_elim (λ e. rw (← e) member_next)
        (λ h. let keep = member_keep k (le_of_suc-le-suc l) in let past = member_past k h (omega arith) in
        (λ t. past.0 (keep.0 t).0, λ t. keep.1 (past.1 t, λ n. t.1 (inside_within p range cells mesh f b own k (le_of_suc-le-suc l) m n))))
        (eq-or-lt_of_le (le_of_suc-le-suc l))

    member_last : T (member p cells (finest p) f) ↔ (T (inside own) × (¬ T (inside (suc own))))
    member_last = ⊎_elim
        (λ e. (
          λ t. (rw e ((member_at (finest p) e).0 t), never_inside p range cells mesh f b (suc own) (λ y x pt. region_empty p range cells mesh y x pt own (ap suc e ∙ finest_suc))),
          λ t. (member_at (finest p) e).1 (rw e at t.0),
        ))
        (λ h. member_past (finest p) h (omega (arith, finest_suc)))
        (eq-or-lt_of_le {n = own} {m = finest p} (omega (arith, finest_suc, own_lt)))

    -- where Ω_(k+1) is empty, H_(k+1) is H_k
    member_same : (k : ℕ) → (¬ T (inside (suc k))) → T (member p cells k f) ↔ T (member p cells (suc k) f)
    unfolding member
    member_same k h = (
      λ t. or_l (member p cells k f && not (inside (suc k))) _ (and_i (member p cells k f) _ t (not_i (inside (suc k)) h)),
      λ t. or_e (member p cells k f && not (inside (suc k))) (eqb own (suc k) && inside (suc k)) t
          (λ u. and_l (member p cells k f) _ u) (λ u. absurd (h (and_r (eqb own (suc k)) _ u))),
    )

    module _ (n : ℕ) (e : Empty p cells (suc n)) where
      member_stays : (k : ℕ) → n ≤ k → k < p.levels → T (member p cells n f) ↔ T (member p cells k f)
      member_stays zero l m = let z : n ≡ 0 = omega arith in rw z Iff.rfl
      member_stays (suc k) l m = ⊎_elim (λ z. rw z Iff.rfl)
          (λ h. Iff.trans (member_stays k (le_of_suc-le-suc h) (omega arith)) (member_same k (λ t.
          never_inside p range cells mesh f b (suc n) (λ y x pt. e y x pt.row< pt.column<)
          (inside_within p range cells mesh f b n k (le_of_suc-le-suc h) (omega arith) t))))
          (eq-or-lt_of_le l)

      -- whatever depth one gives the regions, H is the same
      pub any_depth : n < p.levels → T (member p cells n f) ↔ T (active_function p cells f)
      unfolding active_function
      any_depth l = member_stays (finest p) (omega (arith, finest_suc)) (omega (arith, finest_suc))

    -- ---- the three kinds

    active_is : T (active_function p cells f) ↔ (T (inside own) × (¬ T (inside (suc own))))
    unfolding active_function
    active_is = member_last

    deactivated_is : T (deactivated_function p cells f) ↔ (T (inside own) × T (inside (suc own)))
    unfolding deactivated_function
    deactivated_is = (
      λ t. let i = member_own.0 (and_l (member p cells own f) _ t) in (
        i,
        cases (inside (suc own)) (λ n. n) (λ n.
            absurd (not_e (member p cells (suc own) f) (and_r (member p cells own f) _ t) (member_next.1 (i, not_e (inside (suc own)) n)))),
      ),
      λ t. and_i (member p cells own f) _ (member_own.1 t.0) (not_i (member p cells (suc own) f) (λ m. (member_next.0 m).1 t.1)),
    )

    passive_is : T (passive_function p cells f) ↔ (¬ T (inside own))
    unfolding passive_function
    passive_is =
        (λ t i. not_e (member p cells own f) t (member_own.1 i), λ n. not_i (member p cells own f) (λ m. n (member_own.0 m)))

    pub published : Published p cells f (label_of p cells f)
    published = record {
      active = rw label_is (Iff.trans (label_one (inside own) (inside (suc own))) (Iff.symm active_is));
      deactivated = rw label_is (Iff.trans (label_two (inside own) (inside (suc own))) (Iff.symm deactivated_is));
      passive = rw label_is (Iff.trans (label_zero (inside own) (inside (suc own))) (Iff.symm passive_is));
      no_other = rw label_is (label_most (inside own) (inside (suc own)));
    }

-- of tables that check passes
pub checked_published : (p : Plan) (cells functions : List ℕ) → check p cells functions ≡ 0
    → (f : ℕ) → f < function_total p → Published p cells f (get_or functions f 0)
checked_published p cells functions k f b =
    let (G, l) = check_good p cells functions k in
    rw (l, get_d_labels p cells f b) (published p G.range cells (is_mesh_lem p cells G) f b)
