-- A rising list is fixed by its numbers: those below n that it has, in rising order, are the list. Assumes nothing.
use mathlib.Core.Path.{◌≡◌, refl, sym, ap₂}
use mathlib.Core.List.{List, [], ◌∷◌}
use Prim.Native.Nat.{ℕ, ◌<◌}
use native.Mathlib.Omega.{arith}
use lib.Dec.{T, eqb, eqb→eq, eqb_refl, ltb, ltb→lt, lt→ltb}
use Rattle.facts.specs.Numbers.{elem, all, listed, rising}
use Rattle.facts.proofs.Tests.{and_i, and_l, and_r, or_l, or_r, or_e}
use Rattle.facts.proofs.Numbers.{all_e, all_i, listed→, →listed, listed_rising}
use Rattle.codec.specs.Fitting.{Behind, last, next, Rising, empty, first}

-- ---- two rising lists with the same numbers

-- the numbers of xs are among those of ys
abbrev Among : List ℕ → List ℕ → Type 0
Among xs ys = (c : ℕ) → T (elem c xs) → T (elem c ys)

here : (x : ℕ) (xs : List ℕ) → T (elem x (x ∷ xs))
unfolding elem
here x xs = or_l (eqb x x) (elem x xs) (eqb_refl x)

above : (x : ℕ) (xs : List ℕ) (c : ℕ) → T (rising (x ∷ xs)) → T (elem c xs) → x < c
unfolding rising
above x xs c r m = ltb→lt x c (all_e (λ y. ltb x y) xs c (and_l (all (λ y. ltb x y) xs) (rising xs) r) m)

module _ (x y : ℕ) (xs ys : List ℕ) where
  heads : T (rising (x ∷ xs)) → T (rising (y ∷ ys)) → T (elem x (y ∷ ys)) → T (elem y (x ∷ xs)) → x ≡ y
  unfolding elem
  heads r s f g =
      or_e (eqb x y) (elem x ys) f (eqb→eq x y) (λ a.
      or_e (eqb y x) (elem y xs) g (λ e. sym (eqb→eq y x e)) (λ b. absurd (omega (arith, above y ys x s a, above x xs y r b))))

  tails : x ≡ y → T (rising (x ∷ xs)) → Among (x ∷ xs) (y ∷ ys) → Among xs ys
  unfolding elem
  tails e r f c m =
      or_e (eqb c y) (elem c ys) (f c (or_r (eqb c x) (elem c xs) m)) (λ q. absurd (omega (arith, eqb→eq c y q, above x xs c r m))) (λ t. t)

pub rising_same : (xs ys : List ℕ) → T (rising xs) → T (rising ys) → Among xs ys → Among ys xs → xs ≡ ys
unfolding rising
rising_same [] [] r s f g = refl
rising_same [] (y ∷ ys) r s f g = absurd (unfold elem in g y (here y ys))
rising_same (x ∷ xs) [] r s f g = absurd (unfold elem in f x (here x xs))
rising_same (x ∷ xs) (y ∷ ys) r s f g =
    let e : x ≡ y = heads x y xs ys r s (f x (here x xs)) (g y (here y ys)) in
    ap₂ (λ (a : ℕ) (l : List ℕ). a ∷ l) e
    (rising_same xs ys (and_r (all (λ c. ltb x c) xs) (rising xs) r) (and_r (all (λ c. ltb y c) ys) (rising ys) s)
    (tails x y xs ys e r f) (tails y x ys xs (sym e) s g))

-- ---- what is read from a file rises

behind_rises : {p : ℕ} {cs : List ℕ} → Behind p cs → T (rising (p ∷ cs))
unfolding rising all
behind_rises last = tt
behind_rises (next {p} {c} {cs} h d hs) =
    let r : T (rising (c ∷ cs)) = behind_rises hs in
    and_i (all (λ y. ltb p y) (c ∷ cs)) (rising (c ∷ cs))
    (and_i (ltb p c) (all (λ y. ltb p y) cs) (lt→ltb p c h) (all_i (λ y. ltb p y) cs (λ y m. lt→ltb p y (omega (arith, above c cs y r m))))) r

pub rises : {cs : List ℕ} → Rising cs → T (rising cs)
unfolding rising
rises empty = tt
rises (first d hs) = behind_rises hs

-- ---- the list of its numbers

pub listed_elem : (n : ℕ) (cs : List ℕ) → T (rising cs) → T (all (λ c. ltb c n) cs) → listed n (λ c. elem c cs) ≡ cs
listed_elem n cs r a =
    rising_same (listed n (λ c. elem c cs)) cs (listed_rising n (λ c. elem c cs)) r
    (λ c m. (listed→ n (λ c. elem c cs) c m).1)
    (λ c m. →listed n (λ c. elem c cs) c (ltb→lt c n (all_e (λ c. ltb c n) cs c a m)) m)
