-- Which numbers and lists can be written: what the theorems and the contracts of the parts say. Definitions only.
use Rattle.std.specs.Prelude.{List, [], ◌∷◌, ℕ, ◌-◌, ◌<◌}

-- the numbers of at most three groups are those below 2^21
abbrev pub number_limit : ℕ
number_limit = 2097152

-- each number of a list
pub data Small : List ℕ → Type 0 where
  none : Small []
  more : {n : ℕ} {ns : List ℕ} → n < number_limit → Small ns → Small (n ∷ ns)

-- each is above the one before, by a number that can be written
pub data Behind : ℕ → List ℕ → Type 0 where
  last : {p : ℕ} → Behind p []
  next : {p c : ℕ} {cs : List ℕ} → p < c → c - p < number_limit → Behind c cs → Behind p (c ∷ cs)

pub data Rising : List ℕ → Type 0 where
  empty : Rising []
  first : {c : ℕ} {cs : List ℕ} → c < number_limit → Behind c cs → Rising (c ∷ cs)
