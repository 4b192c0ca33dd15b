-- Lists of f k, f (k + 1) and so on. Assumes nothing.
use mathlib.Core.Path.{◌≡◌, refl, ap, ap₂, ◌∙◌}
use mathlib.Core.List.{◌∷◌, map}
use Prim.Native.Nat.{ℕ, zero, suc, ◌+◌, ◌≤◌, ◌<◌}
use native.Mathlib.Omega.{arith}
use lib.ListN.{length, get_or}
use Rattle.rounds.specs.Rounds.{in_turn}

module _ {A : Type 0} where
  pub turn_same : (f g : ℕ → A) (n k : ℕ) → ((i : ℕ) → k ≤ i → i < k + n → f i ≡ g i) → in_turn f k n ≡ in_turn g k n
  unfolding in_turn
  turn_same f g zero k h = refl
  turn_same f g (suc n) k h = ap₂ ◌∷◌ (h k (omega arith) (omega arith)) (turn_same f g n (suc k) (λ i a b. h i (omega arith) (omega arith)))

  pub turn_length : (f : ℕ → A) (n k : ℕ) → length (in_turn f k n) ≡ n
  unfolding in_turn
  turn_length f zero k = refl
  turn_length f (suc n) k = ap suc (turn_length f n (suc k))

  pub turn_map : {B : Type 0} (g : A → B) (f : ℕ → A) (n k : ℕ) → map g (in_turn f k n) ≡ in_turn (λ i. g (f i)) k n
  unfolding in_turn
  turn_map g f zero k = refl
  turn_map g f (suc n) k = ap (λ l. g (f k) ∷ l) (turn_map g f n (suc k))

pub turn_at : (f : ℕ → ℕ) (n k i : ℕ) → i < n → get_or (in_turn f k n) i 0 ≡ f (k + i)
unfolding in_turn
turn_at f zero k i l = absurd (omega arith)
turn_at f (suc n) k zero l = ap f (omega arith)
turn_at f (suc n) k (suc i) l = turn_at f n (suc k) i (omega arith) ∙ ap f (omega arith)
