-- Lists of numbers: what `elem`, `all`, `listed`, `tabulate` and `first` say. Assumes nothing.
use mathlib.Core.Path.{◌≡◌, refl, sym, ap, ◌∙◌}
use mathlib.Core.Logic.{◌≢◌}
use mathlib.Core.Bool.{Bool, true, false, ◌&&◌, ◌||◌, cond, or_assoc, or-false, and-true, and-false}
use mathlib.Core.List.{List, [], ◌∷◌, ◌++◌, append-nil}
use Prim.Native.Nat.{ℕ, zero, suc, ◌<◌}
use native.Mathlib.Nat.{not-suc-le-zero, le_refl}
use native.Mathlib.Omega.{arith}
use lib.Dec.{T, eqb, eqb→eq, eqb_refl, ltb, ltb→lt, lt→ltb, nltb→le}
use lib.ListN.{length, get_or, length-append, get_or-append, get_or-eq_default}
use lib.Seq.{get_or_at, ext_get_or}
use Rattle.facts.specs.Numbers.{elem, all, listed, rising, tabulate, stored, first}
use Rattle.facts.proofs.Tests.{and_i, and_l, and_r, or_l, or_r, or_e, cases, same, differ, eqb_of, T_true, T_false}

-- ---- all and elem

pub all_e : (p : ℕ → Bool) (xs : List ℕ) (c : ℕ) → T (all p xs) → T (elem c xs) → T (p c)
unfolding all elem
all_e p [] c a e = absurd e
all_e p (x ∷ xs) c a e =
    or_e (eqb c x) (elem c xs) e (λ q. rw (eqb→eq c x q) (and_l (p x) (all p xs) a)) (λ m. all_e p xs c (and_r (p x) (all p xs) a) m)

pub all_i : (p : ℕ → Bool) (xs : List ℕ) → ((c : ℕ) → T (elem c xs) → T (p c)) → T (all p xs)
unfolding all elem
all_i p [] h = tt
all_i p (x ∷ xs) h =
    and_i (p x) (all p xs) (h x (or_l (eqb x x) (elem x xs) (eqb_refl x))) (all_i p xs (λ c m. h c (or_r (eqb c x) (elem c xs) m)))

pub elem_append : (c : ℕ) (xs ys : List ℕ) → elem c (xs ++ ys) ≡ elem c xs || elem c ys
unfolding elem
elem_append c [] ys = refl
elem_append c (x ∷ xs) ys = rw (elem_append c xs ys, or_assoc (eqb c x) (elem c xs) (elem c ys))

elem_one : (c n : ℕ) (b : Bool) → elem c (cond b (n ∷ []) []) ≡ eqb c n && b
unfolding elem
elem_one c n true = simp (or-false, and-true)
elem_one c n false = simp and-false

-- ---- listed

elem_listed_suc : (n : ℕ) (p : ℕ → Bool) (c : ℕ) → elem c (listed (suc n) p) ≡ elem c (listed n p) || eqb c n && p n
unfolding listed
elem_listed_suc n p c = rw (elem_append c (listed n p) (cond (p n) (n ∷ []) []), elem_one c n (p n))

pub listed→ : (n : ℕ) (p : ℕ → Bool) (c : ℕ) → T (elem c (listed n p)) → (c < n) × T (p c)
listed→ zero p c t = absurd (unfold listed elem in t)
listed→ (suc n) p c t =
    or_e (elem c (listed n p)) (eqb c n && p n) (rw (elem_listed_suc n p c) at t)
    (λ u. let r = listed→ n p c u in (omega (arith, r.0), r.1))
    (λ u. let e : c ≡ n = eqb→eq c n (search and_l) in (omega arith, rw e (and_r (eqb c n) (p n) u)))

pub →listed : (n : ℕ) (p : ℕ → Bool) (c : ℕ) → c < n → T (p c) → T (elem c (listed n p))
→listed zero p c h t = absurd (not-suc-le-zero h)
→listed (suc n) p c h t = rw (elem_listed_suc n p c)
    (cases (eqb c n) (λ e. let q : T (p n) = rw (eqb→eq c n e) at t in search (or_r, and_i))
    (λ e. or_l (elem c (listed n p)) (eqb c n && p n) (→listed n p c (omega (arith, differ c n e)) t)))

pub elem_listed : (n : ℕ) (p : ℕ → Bool) (c : ℕ) → elem c (listed n p) ≡ ltb c n && p c
elem_listed n p c = same _ _ (λ t. let r = listed→ n p c t in and_i (ltb c n) (p c) (lt→ltb c n r.0) r.1)
    (λ t. →listed n p c (ltb→lt c n (search and_l)) (and_r (ltb c n) (p c) t))

all_snoc : (p : ℕ → Bool) (xs : List ℕ) (n : ℕ) → T (all p xs) → T (p n) → T (all p (xs ++ (n ∷ [])))
unfolding all
all_snoc p [] n a t = rw (and-true (p n)) t
all_snoc p (x ∷ xs) n a t = and_i (p x) (all p (xs ++ (n ∷ []))) (search and_l) (all_snoc p xs n (and_r (p x) (all p xs) a) t)

rising_snoc : (xs : List ℕ) (n : ℕ) → T (rising xs) → T (all (λ y. ltb y n) xs) → T (rising (xs ++ (n ∷ [])))
unfolding rising all
rising_snoc [] n r a = tt
rising_snoc (x ∷ xs) n r a =
    let k : T (rising (xs ++ (n ∷ []))) = rising_snoc xs n (search and_r) (search and_r) in
    let h : T (all (λ y. ltb x y) (xs ++ (n ∷ []))) = all_snoc (λ y. ltb x y) xs n (search and_l) (search and_l) in
    search and_i

pub listed_rising : (n : ℕ) (p : ℕ → Bool) → T (rising (listed n p))
unfolding listed
listed_rising zero p = unfold rising in tt
listed_rising (suc n) p = go (p n) (listed_rising n p)
  where
    go : (b : Bool) → T (rising (listed n p)) → T (rising (listed n p ++ cond b (n ∷ []) []))
    go true r = rising_snoc (listed n p) n r (all_i _ _ (λ c t. lt→ltb c n (listed→ n p c t).0))
    go false r = rw (append-nil (listed n p)) r

-- ---- tabulate

pub length_tabulate : (n : ℕ) (f : ℕ → ℕ) → length (tabulate n f) ≡ n
unfolding tabulate
length_tabulate zero f = refl
length_tabulate (suc n) f = omega (arith, length-append (tabulate n f) (f n ∷ []), length_tabulate n f)

pub get_d_tabulate : (n : ℕ) (f : ℕ → ℕ) (i d : ℕ) → i < n → get_or (tabulate n f) i d ≡ f i
unfolding tabulate
get_d_tabulate zero f i d h = absurd (not-suc-le-zero h)
get_d_tabulate (suc n) f i d h =
    cases (eqb i n)
    (λ e. let q : length (tabulate n f) ≡ i = length_tabulate n f ∙ sym (eqb→eq i n e) in
    get_or_at (tabulate n f) (f n) [] d i q ∙ ap f (sym (eqb→eq i n e)))
    (λ e. let l : i < n = omega (arith, differ i n e) in
    get_or-append (tabulate n f) (f n ∷ []) d i (omega (arith, length_tabulate n f)) ∙ get_d_tabulate n f i d l)

pub tabulate_same : (n : ℕ) (f g : ℕ → ℕ) → ((i : ℕ) → i < n → f i ≡ g i) → tabulate n f ≡ tabulate n g
unfolding tabulate
tabulate_same zero f g h = refl
tabulate_same (suc n) f g h = rw (h n (le_refl (suc n)), tabulate_same n f g (λ i l. h i (omega arith)))

-- a list is the table of its entries
pub tabulate_is : (n : ℕ) (f : ℕ → ℕ) (xs : List ℕ) → length xs ≡ n → ((i : ℕ) → i < n → get_or xs i 0 ≡ f i) → xs ≡ tabulate n f
tabulate_is n f xs e h = ext_get_or 0 xs (tabulate n f) (omega (arith, length_tabulate n f)) (λ i l.
    h i (omega arith) ∙ sym (get_d_tabulate n f i 0 (omega arith)))

pub listed_same : (n : ℕ) (p q : ℕ → Bool) → ((i : ℕ) → i < n → p i ≡ q i) → listed n p ≡ listed n q
unfolding listed
listed_same zero p q h = refl
listed_same (suc n) p q h = rw (h n (le_refl (suc n)), listed_same n p q (λ i l. h i (omega arith)))

-- what is not 0 stands in the list
pub get_d_some : (xs : List ℕ) (i : ℕ) → get_or xs i 0 ≢ 0 → i < length xs
get_d_some xs i n = cases (ltb i (length xs)) (ltb→lt i (length xs)) (λ h. absurd (n (get_or-eq_default xs 0 (nltb→le i (length xs) h))))

-- ---- stored

pub bit : (b : Bool) → eqb (cond b 1 0) 1 ≡ b
bit true = refl
bit false = refl

pub stored_is : (n : ℕ) (X : ℕ → Bool) (c : ℕ) → c < n → stored n X c ≡ X c
unfolding stored
stored_is n X c h = rw (get_d_tabulate n (λ c. cond (X c) 1 0) c 0 h) (bit (X c))

pub stored_inside : (n : ℕ) (X : ℕ → Bool) (c : ℕ) → T (stored n X c) → c < n
unfolding stored
stored_inside n X c t =
    let xs = tabulate n (λ c. cond (X c) 1 0) in
    omega (arith, get_d_some xs c (λ e. absurd (rw e at t)), length_tabulate n (λ c. cond (X c) 1 0))

-- ---- first

-- where no number of the list stops, each has 0
pub first_zero : (f : ℕ → ℕ) (xs : List ℕ) → first f xs ≡ 0 → (c : ℕ) → T (elem c xs) → f c ≡ 0
unfolding first elem
first_zero f [] e c t = absurd t
first_zero f (x ∷ xs) e c t = cases (eqb (f x) 0)
    (λ z. or_e (eqb c x) (elem c xs) t (λ q. ap f (eqb→eq c x q) ∙ eqb→eq (f x) 0 z) (first_zero f xs (rw (T_true (eqb (f x) 0) z) at e) c))
    (λ z. absurd (differ (f x) 0 z (rw (T_false (eqb (f x) 0) (λ t. differ (f x) 0 z (eqb→eq (f x) 0 t))) at e)))

pub first_none : (f : ℕ → ℕ) (xs : List ℕ) → ((c : ℕ) → T (elem c xs) → f c ≡ 0) → first f xs ≡ 0
unfolding first elem
first_none f [] h = refl
first_none f (x ∷ xs) h =
    let z : f x ≡ 0 = h x (or_l (eqb x x) (elem x xs) (eqb_refl x)) in
    rw (T_true (eqb (f x) 0) (eqb_of (f x) 0 z)) (first_none f xs (λ c m. h c (or_r (eqb c x) (elem c xs) m)))
