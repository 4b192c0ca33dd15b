-- Lists of numbers. Definitions only.
use Rattle.std.specs.Prelude.{Bool, true, false, ◌&&◌, ◌||◌, cond, List, [], ◌∷◌, ◌++◌, ◌≡◌, ℕ, zero, suc, eqb, ltb, get_or}

-- the list has the number
unfoldable pub elem : ℕ → List ℕ → Bool
elem c [] = false
elem c (x ∷ xs) = eqb c x || elem c xs

-- the test passes at each number of the list
unfoldable pub all : (ℕ → Bool) → List ℕ → Bool
all p [] = true
all p (x ∷ xs) = p x && all p xs

-- the numbers below n that pass, in rising order
unfoldable pub listed : ℕ → (ℕ → Bool) → List ℕ
listed zero p = []
listed (suc n) p = listed n p ++ cond (p n) (n ∷ []) []

-- each number is below those behind it
unfoldable pub rising : List ℕ → Bool
rising [] = true
rising (x ∷ xs) = all (λ y. ltb x y) xs && rising xs

-- a table of zeros
abbrev pub Clear : List ℕ → Type 0
Clear table = (i : ℕ) → get_or table i 0 ≡ 0

-- the list of f 0, f 1, .. with n entries
unfoldable pub tabulate : ℕ → (ℕ → ℕ) → List ℕ
tabulate zero f = []
tabulate (suc n) f = tabulate n f ++ (f n ∷ [])

-- the numbers below n of X, kept in a table, so that X is asked once for each
unfoldable pub stored : ℕ → (ℕ → Bool) → ℕ → Bool
stored n X = let t = tabulate n (λ c. cond (X c) 1 0) in λ c. eqb (get_or t c 0) 1

-- what f has for the first number of the list at which that is not 0; 0 where there is none
unfoldable pub first : (ℕ → ℕ) → List ℕ → ℕ
first f [] = 0
first f (x ∷ xs) = cond (eqb (f x) 0) (first f xs) (f x)
