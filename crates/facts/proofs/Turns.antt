-- One more turn of a loop: `listed`, `tabulate`, `elem` and `first` with one more number, and a list that is written from the front.
-- Assumes nothing.
use mathlib.Core.Path.{◌≡◌, refl, sym, ap, subst, ◌∙◌}
use mathlib.Core.Bool.{Bool, true, false, ◌||◌, cond, or-false}
use mathlib.Core.List.{List, [], ◌∷◌, ◌++◌, append-nil}
use Prim.Native.Nat.{ℕ, zero, suc, min, ◌+◌, ◌-◌, ◌≤◌, ◌<◌}
use native.Mathlib.Nat.{le_of_eq, le_trans, le_of_suc-le-suc, not-suc-le-zero, add-zero, add-sub_of_le}
use native.Mathlib.Numerals.{add-one}
use native.Mathlib.Omega.{arith}
use lib.Dec.{T, eqb, eqb→eq, eqb_refl}
use lib.ListN.{length, get_or, take, drop, set, length-append, length-set, drop_of_length-le}
use lib.Seq.{take-suc, take-suc-set, take_all, drop-cons, set_at, append_snoc, get_or-set_same, get_or-set_other}
use borrow.Author.Tests.{eq-eqb, ne_eqb}
use Rattle.facts.specs.Numbers.{elem, listed, tabulate, first}
use Rattle.facts.proofs.Tests.{cases, differ, or_l, or_r, T_true, true_T}
use Rattle.facts.proofs.Numbers.{elem_append, length_tabulate, get_d_tabulate, tabulate_is}

-- ---- a copy from the front

pub copy_more : (to from : List ℕ) (i : ℕ) → length to ≡ length from → i < length from → take i to ≡ take i from
    → take (i + 1) (set to i (get_or from i 0)) ≡ take (i + 1) from
copy_more to from i e l h =
    let m : i < length to = omega arith in
    rw (add-one, take-suc-set to i (get_or from i 0) m, take-suc from i 0 l, h)

pub copy_all : (to from : List ℕ) (i : ℕ) → length to ≡ length from → length from ≤ i → take i to ≡ take i from → to ≡ from
copy_all to from i e l h = sym (take_all i to (omega arith)) ∙ h ∙ take_all i from l

-- ---- tabulate

-- a list whose first i entries are those of f, with one more written
pub tabulate_none : (xs : List ℕ) (f : ℕ → ℕ) → take 0 xs ≡ tabulate 0 f
unfolding tabulate
tabulate_none xs f = refl

pub tabulate_more : (xs : List ℕ) (f : ℕ → ℕ) (i v : ℕ) → i < length xs → v ≡ f i → take i xs ≡ tabulate i f
    → take (i + 1) (set xs i v) ≡ tabulate (i + 1) f
unfolding tabulate
tabulate_more xs f i v l e h = rw (add-one, take-suc-set xs i v l, h, e)

pub tabulate_all : (xs : List ℕ) (f : ℕ → ℕ) (n i : ℕ) → length xs ≡ n → i ≤ n → n ≤ i → take i xs ≡ tabulate i f → xs ≡ tabulate n f
tabulate_all xs f n i e l m h =
    let q : i ≡ n = omega arith in
    sym (take_all i xs (omega arith)) ∙ h ∙ ap (λ (k : ℕ). tabulate k f) q

pub set_tabulate : (n : ℕ) (f : ℕ → ℕ) (i v : ℕ) → set (tabulate n f) i v ≡ tabulate n (λ x. cond (eqb x i) v (f x))
set_tabulate n f i v =
    tabulate_is n (λ x. cond (eqb x i) v (f x)) (set (tabulate n f) i v) (length-set (tabulate n f) i v ∙ length_tabulate n f) (λ x l. cases (eqb x i)
    (λ t. rw (T_true (eqb x i) t, eqb→eq x i t) (get_or-set_same (tabulate n f) i v 0 (omega (arith, length_tabulate n f, eqb→eq x i t))))
    (λ t. rw (ne_eqb x i (differ x i t)) (get_or-set_other (tabulate n f) i x v 0 (differ x i t) ∙ get_d_tabulate n f x 0 l)))

-- ---- listed

module _ (p : ℕ → Bool) where
  pub listed_none : listed 0 p ≡ []
  unfolding listed
  listed_none = refl

  pub listed_yes : (i : ℕ) → p i ≡ true → listed (i + 1) p ≡ listed i p ++ (i ∷ [])
  unfolding listed
  listed_yes i e = rw (add-one, e)

  pub listed_no : (i : ℕ) → p i ≡ false → listed (i + 1) p ≡ listed i p
  unfolding listed
  listed_no i e = rw (add-one, e) (append-nil (listed i p))

  pub listed_longer : (i : ℕ) → p i ≡ true → length (listed (i + 1) p) ≡ length (listed i p) + 1
  listed_longer i e = ap length (listed_yes i e) ∙ length-append (listed i p) (i ∷ [])

  step : (i : ℕ) → length (listed i p) ≤ length (listed (i + 1) p)
  step i = go (p i) refl
    where
      go : (b : Bool) → p i ≡ b → length (listed i p) ≤ length (listed (i + 1) p)
      go true e = omega (arith, listed_longer i e)
      go false e = le_of_eq (ap length (sym (listed_no i e)))

  up : (i d : ℕ) → length (listed i p) ≤ length (listed (i + d) p)
  up i zero = le_of_eq (ap (λ (j : ℕ). length (listed j p)) (sym (add-zero i)))
  up i (suc d) =
      let e : i + suc d ≡ i + d + 1 = omega arith in
      rw e (le_trans (up i d) (step (i + d)))

  pub listed_le : (i m : ℕ) → i ≤ m → length (listed i p) ≤ length (listed m p)
  listed_le i m h = subst (λ (j : ℕ). length (listed i p) ≤ length (listed j p)) (add-sub_of_le h) (up i (m - i))

  -- where all that pass lie from lo to below hi, there are no more of them than that
  pub listed_between : (lo hi n : ℕ) → ((i : ℕ) → i < n → T (p i) → (lo ≤ i) × (i < hi)) → length (listed n p) ≤ min n hi - lo
  listed_between lo hi zero h = omega (arith, ap length listed_none)
  listed_between lo hi (suc n) h = rw add-one at (go (p n) refl (listed_between lo hi n (λ i l. h i (omega arith))))
    where
      go : (b : Bool) → p n ≡ b → length (listed n p) ≤ min n hi - lo → length (listed (n + 1) p) ≤ min (n + 1) hi - lo
      go true e r = let (from, to) = h n (omega arith) (true_T (p n) e) in omega (arith, listed_longer n e)
      go false e r = omega (arith, ap length (listed_no n e))

  pub listed_short : (n : ℕ) → length (listed n p) ≤ n
  listed_short n = omega (arith, listed_between 0 n n (λ i l t. (omega arith, l)))

  -- one more number is written behind those that are there
  pub listed_write : (ls ls₀ : List ℕ) (n i : ℕ) → n ≡ length (listed i p) → ls ≡ listed i p ++ drop n ls₀ → n < length ls₀
      → p i ≡ true → set ls n i ≡ listed (i + 1) p ++ drop (n + 1) ls₀
  listed_write ls ls₀ n i en el l e =
      ap (λ (x : List ℕ). set x n i) (el ∙ ap (λ (x : List ℕ). listed i p ++ x) (drop-cons ls₀ n 0 l))
      ∙ set_at (listed i p) (get_or ls₀ n 0) (drop (suc n) ls₀) i n (sym en)
      ∙ sym (append_snoc (listed i p) i (drop (suc n) ls₀))
      ∙ ap (λ (x : List ℕ). x ++ drop (suc n) ls₀) (sym (listed_yes i e))
      ∙ ap (λ (j : ℕ). listed (i + 1) p ++ drop j ls₀) (sym (add-one n))

-- ---- elem

-- the entry at an index is one of the list
pub elem_at : (xs : List ℕ) (i : ℕ) → i < length xs → T (elem (get_or xs i 0) xs)
unfolding elem
elem_at [] i h = absurd (not-suc-le-zero h)
elem_at (x ∷ xs) zero h = or_l (eqb x x) (elem x xs) (eqb_refl x)
elem_at (x ∷ xs) (suc i) h = or_r (eqb (get_or xs i 0) x) (elem (get_or xs i 0) xs) (elem_at xs i (le_of_suc-le-suc h))

pub elem_none : (xs : List ℕ) (x : ℕ) → elem x (take 0 xs) ≡ false
unfolding elem
elem_none xs x = refl

pub elem_more : (xs : List ℕ) (i x : ℕ) → i < length xs → elem x (take (i + 1) xs) ≡ elem x (take i xs) || eqb x (get_or xs i 0)
unfolding elem
elem_more xs i x h = rw (add-one, take-suc xs i 0 h, elem_append x (take i xs) (get_or xs i 0 ∷ []), or-false (eqb x (get_or xs i 0)))

-- ---- first

module _ (f : ℕ → ℕ) where
  pub first_end : (xs : List ℕ) (i : ℕ) → length xs ≤ i → first f (drop i xs) ≡ 0
  unfolding first
  first_end xs i h = rw (drop_of_length-le xs h)

  pub first_skip : (xs : List ℕ) (i : ℕ) → i < length xs → f (get_or xs i 0) ≡ 0 → first f (drop i xs) ≡ first f (drop (i + 1) xs)
  unfolding first
  first_skip xs i h z = rw (drop-cons xs i 0 h, eq-eqb _ _ z, add-one)

  pub first_stop : (xs : List ℕ) (i : ℕ) → i < length xs → (f (get_or xs i 0) ≡ 0 → ⊥) → first f (drop i xs) ≡ f (get_or xs i 0)
  unfolding first
  first_stop xs i h z = rw (drop-cons xs i 0 h, ne_eqb _ _ z)

pub first_same : (f g : ℕ → ℕ) (xs : List ℕ) → ((x : ℕ) → f x ≡ g x) → first f xs ≡ first g xs
unfolding first
first_same f g [] h = refl
first_same f g (x ∷ xs) h = rw (h x, first_same f g xs h)
