-- Tests as facts: `T` of a conjunction, a disjunction, a negation. Eliminators take continuations. Assumes nothing.
use mathlib.Core.Path.{◌≡◌, refl, subst}
use mathlib.Core.Logic.{◌≢◌}
use mathlib.Core.Bool.{Bool, true, false, not, ◌&&◌, ◌||◌}
use Prim.Native.Nat.{ℕ, zero, suc, ◌≤◌}
use native.Mathlib.Omega.{arith}
use lib.Dec.{T, eqb, eqb_refl}
use Rattle.facts.specs.Bounded.{implies}

pub and_i : (a b : Bool) → T a → T b → T (a && b)
and_i true b p q = q
and_i false b p q = p

pub and_l : (a b : Bool) → T (a && b) → T a
and_l true b p = tt
and_l false b p = p

pub and_r : (a b : Bool) → T (a && b) → T b
and_r true b p = p
and_r false b p = absurd p

pub or_l : (a b : Bool) → T a → T (a || b)
or_l true b p = tt
or_l false b p = absurd p

pub or_r : (a b : Bool) → T b → T (a || b)
or_r true b p = tt
or_r false b p = p

-- the cases of a disjunction, and of a test
pub or_e : {C : Type 0} (a b : Bool) → T (a || b) → (T a → C) → (T b → C) → C
or_e true b p f g = f tt
or_e false b p f g = g p

pub cases : {C : Type 0} (b : Bool) → (T b → C) → (T (not b) → C) → C
cases true f g = f tt
cases false f g = g tt

pub not_i : (b : Bool) → (T b → ⊥) → T (not b)
not_i true f = f tt
not_i false f = tt

pub not_e : (b : Bool) → T (not b) → T b → ⊥
not_e true p q = p
not_e false p q = q

-- two tests that pass together are equal
pub same : (a b : Bool) → (T a → T b) → (T b → T a) → a ≡ b
same true true f g = refl
same true false f g = absurd (f tt)
same false true f g = absurd (g tt)
same false false f g = refl

pub differ : (a b : ℕ) → T (not (eqb a b)) → a ≢ b
differ a b e q = not_e (eqb a b) e (subst (λ j. T (eqb a j)) q (eqb_refl a))

pub T_true : (b : Bool) → T b → b ≡ true
T_true true t = refl
T_true false t = absurd t

pub true_T : (b : Bool) → b ≡ true → T b
true_T b e = rw e tt

pub T_false : (b : Bool) → (T b → ⊥) → b ≡ false
T_false true f = absurd (f tt)
T_false false f = refl

pub positive : (n : ℕ) → T (not (eqb n 0)) → 1 ≤ n
positive zero t = absurd t
positive (suc n) t = omega arith

-- a number is 0 or not
pub zero_or : {C : Type 0} (n : ℕ) → (n ≡ 0 → C) → (1 ≤ n → C) → C
zero_or zero f g = f refl
zero_or (suc n) f g = g (omega arith)

pub eqb_of : (a b : ℕ) → a ≡ b → T (eqb a b)
eqb_of a b e = rw e (eqb_refl b)

pub or_implies : (a b : Bool) → not a || b ≡ implies a b
or_implies true b = refl
or_implies false b = refl

pub implies_i : (a b : Bool) → (T a → T b) → T (implies a b)
implies_i true b f = f tt
implies_i false b f = tt

pub implies_e : (a b : Bool) → T (implies a b) → T a → T b
implies_e true b t u = t
implies_e false b t u = absurd u
