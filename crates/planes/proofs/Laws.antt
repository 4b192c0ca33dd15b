-- Planes and the bytes that they hold: each undoes the other. Assumes nothing.
use mathlib.Core.Path.{◌≡◌, refl, sym, ap, ◌∙◌}
use mathlib.Core.Bool.{Bool, true, false, not, ◌&&◌, cond}
use mathlib.Core.List.{List}
use Prim.Native.Nat.{ℕ, zero, suc, ◌+◌, ◌-◌, ◌*◌, ◌/◌, ◌%◌, ◌≤◌, ◌<◌}
use native.Mathlib.Omega.{arith}
use lib.Dec.{T, eqb, ltb, ltb→lt, nltb→le, eqb→eq, leb→le}
use lib.ListN.{length, get_or, get_or-eq_default}
use Rattle.facts.proofs.Tests.{and_i, and_l, and_r, not_e, cases, implies_i, implies_e, T_false}
use Rattle.facts.proofs.Bounded.{every_i, every_e}
use Rattle.facts.proofs.Ranges.{from_i, from_e}
use Rattle.facts.proofs.Numbers.{bit, length_tabulate, get_d_tabulate, tabulate_is, tabulate_same}
use Rattle.facts.specs.Numbers.{tabulate}
use Rattle.grid.specs.Knots.{is_set}
use Rattle.mesh.specs.Mesh.{absent, refined}
use Rattle.planes.specs.Bits.{in_plane, words_for, Words, byte_of, bytes_of, word_at, plane_of, is_present, present_of, refined_of, small_at, are_small, no_spare, within, Within, in_order, Holding}
use Rattle.planes.specs.Bits as planes
use Rattle.planes.proofs.Bits.{bit_lt, bit_of_zero, bit_is, word_bit, word_is, word_lt, word_same}

-- as many bits as cells, at least
pub words_enough : (n : ℕ) → n ≤ 64 * words_for n
unfolding words_for
words_enough n = omega arith

-- ---- one bit of a plane

pub in_plane_lem : (plane : List ℕ) (c : ℕ) → in_plane plane c ≡ eqb (planes.bit (get_or plane (c / 64) 0) (c % 64)) 1
unfolding in_plane is_set planes.bit
in_plane_lem plane c = refl

pub set_bit : (plane : List ℕ) (w k : ℕ) → k < 64 → cond (in_plane plane (64 * w + k)) 1 0 ≡ planes.bit (get_or plane w 0) k
set_bit plane w k l =
    let a : (64 * w + k) / 64 ≡ w = omega arith in
    let b : (64 * w + k) % 64 ≡ k = omega arith in
    rw (in_plane_lem plane (64 * w + k), a, b) (bit_is (planes.bit (get_or plane w 0) k) (bit_lt (get_or plane w 0) k))

pub plane_set : (words : ℕ) (test : ℕ → Bool) (c : ℕ) → c < 64 * words → in_plane (plane_of words test) c ≡ test c
unfolding plane_of word_at
plane_set words test c l =
    let e : 64 * (c / 64) + c % 64 ≡ c = omega arith in
    rw (in_plane_lem (plane_of words test) c, get_d_tabulate words (word_at test) (c / 64) 0 (omega arith), word_bit test 64 (64 * (c / 64)) (c % 64) (omega arith), e)
    (bit (test c))

pub plane_words : (words : ℕ) (test : ℕ → Bool) → Words (plane_of words test)
unfolding plane_of word_at
plane_words words test w = cases (ltb w words)
    (λ t. rw (get_d_tabulate words (word_at test) w 0 (ltb→lt w words t)) (word_lt test 64 (64 * w)))
    (λ t.
    let l : length (tabulate words (word_at test)) ≤ w = rw (length_tabulate words (word_at test)) (nltb→le w words t) in
    rw (get_or-eq_default (tabulate words (word_at test)) 0 l) (omega arith))

-- a plane is made of the tests that its bits are
pub plane_is : (words : ℕ) (test : ℕ → Bool) (plane : List ℕ) → length plane ≡ words → Words plane
    → ((c : ℕ) → c < 64 * words → test c ≡ in_plane plane c) → plane_of words test ≡ plane
unfolding plane_of word_at
plane_is words test plane e small h = sym (tabulate_is words (word_at test) plane e (λ w l.
    sym (word_is test 64 (64 * w) (get_or plane w 0) (small w) (λ k i.
    ap (λ (b : Bool). cond b 1 0) (h (64 * w + k) (omega arith)) ∙ set_bit plane w k i))))

pub plane_same : (words : ℕ) (f g : ℕ → Bool) → ((c : ℕ) → c < 64 * words → f c ≡ g c) → plane_of words f ≡ plane_of words g
unfolding plane_of word_at
plane_same words f g h = tabulate_same words (word_at f) (word_at g) (λ w l. word_same 64 (64 * w) f g (λ k i. h (64 * w + k) (omega arith)))

-- ---- in order, as facts

module _ (n : ℕ) (plane : List ℕ) where
  pub spares : T (no_spare n plane) → (c : ℕ) → n ≤ c → c < 64 * words_for n → T (not (in_plane plane c))
  unfolding no_spare
  spares t c l m = from_e n (64 * words_for n - n) _ t c l (omega (arith, words_enough n))

  pub no_spares : ((c : ℕ) → n ≤ c → c < 64 * words_for n → T (not (in_plane plane c))) → T (no_spare n plane)
  unfolding no_spare
  no_spares h = from_i n (64 * words_for n - n) _ (λ c l m. h c l (omega (arith, words_enough n)))

module _ (n : ℕ) (P R : List ℕ) where
  pub record Ordered : Type 0 where
    pub no_present : (c : ℕ) → n ≤ c → c < 64 * words_for n → T (not (in_plane P c))
    pub no_refined : (c : ℕ) → n ≤ c → c < 64 * words_for n → T (not (in_plane R c))
    pub inside : (c : ℕ) → c < n → T (in_plane R c) → T (in_plane P c)

  pub ordered : T (in_order n P R) → Ordered
  unfolding in_order within
  ordered t =
      let a = and_l (no_spare n P && no_spare n R) (within n P R) t in
      record {
        no_present = spares n P (and_l (no_spare n P) (no_spare n R) a);
        no_refined = spares n R (and_r (no_spare n P) (no_spare n R) a);
        inside = λ c l u. implies_e (in_plane R c) (in_plane P c) (every_e n _ (and_r (no_spare n P && no_spare n R) (within n P R) t) c l) u;
      }

  pub order_i : Ordered → T (in_order n P R)
  unfolding in_order within
  order_i o = and_i (no_spare n P && no_spare n R) (within n P R)
      (and_i (no_spare n P) (no_spare n R) (no_spares n P o.no_present) (no_spares n R o.no_refined))
      (every_i n _ (λ c l. implies_i (in_plane R c) (in_plane P c) (o.inside c l)))

-- a bit past the end is not set
pub past_end : (plane : List ℕ) (c : ℕ) → length plane ≤ c / 64 → T (in_plane plane c) → ⊥
past_end plane c l t = unset (get_or plane (c / 64) 0) (c % 64) (get_or-eq_default plane 0 l) (rw (in_plane_lem plane c) at t)
  where
    unset : (x k : ℕ) → x ≡ 0 → T (eqb (planes.bit x k) 1) → ⊥
    unset x k e t = rw (e, bit_of_zero k) at t

-- in order, nothing refined is absent anywhere
module _ (n : ℕ) (P R : List ℕ) (lP : length P ≡ words_for n) (lR : length R ≡ words_for n) where
  pub ordered_within : T (in_order n P R) → Within P R
  ordered_within t c u =
      let o = ordered n P R t in
      cases (ltb c n) (λ v. o.inside c (ltb→lt c n v) u) (λ v. cases (ltb c (64 * words_for n))
      (λ w. absurd (not_e (in_plane R c) (o.no_refined c (nltb→le c n v) (ltb→lt c (64 * words_for n) w)) u))
      (λ w. absurd (past_end R c (omega (arith, nltb→le c (64 * words_for n) w)) u)))

-- ---- bytes of planes

pub length_bytes : (n : ℕ) (P R : List ℕ) → length (bytes_of n P R) ≡ n
unfolding bytes_of
length_bytes n P R = length_tabulate n _

-- what a byte of two bits is
byte_present : (a b : Bool) → not (eqb (cond a (cond b 2 1) 0) 0) ≡ a
byte_present true true = refl
byte_present true false = refl
byte_present false b = refl

byte_refined : (a b : Bool) → (T b → T a) → eqb (cond a (cond b 2 1) 0) 2 ≡ b
byte_refined true true i = refl
byte_refined true false i = refl
byte_refined false true i = absurd (i tt)
byte_refined false false i = refl

byte_small : (a b : Bool) → cond a (cond b 2 1) 0 ≤ 2
byte_small true true = omega arith
byte_small true false = omega arith
byte_small false b = omega arith

pub byte_at : (n : ℕ) (P R : List ℕ) (c : ℕ) → c < n → get_or (bytes_of n P R) c 0 ≡ byte_of P R c
unfolding bytes_of
byte_at n P R c l = get_d_tabulate n (byte_of P R) c 0 l

pub byte_past : (n : ℕ) (P R : List ℕ) (c : ℕ) → n ≤ c → get_or (bytes_of n P R) c 0 ≡ 0
byte_past n P R c l = get_or-eq_default (bytes_of n P R) 0 (rw (length_bytes n P R) l)

pub bytes_small : (n : ℕ) (P R : List ℕ) (c : ℕ) → get_or (bytes_of n P R) c 0 ≤ 2
unfolding byte_of
bytes_small n P R c = cases (ltb c n)
    (λ t. rw (byte_at n P R c (ltb→lt c n t)) (byte_small (in_plane P c) (in_plane R c)))
    (λ t. rw (byte_past n P R c (nltb→le c n t)) (omega arith))

module _ (n : ℕ) (P R : List ℕ) (o : Ordered n P R) (c : ℕ) (l : c < 64 * words_for n) where
  pub present_bytes : is_present (bytes_of n P R) c ≡ in_plane P c
  unfolding is_present absent byte_of
  present_bytes = cases (ltb c n)
      (λ t. rw (byte_at n P R c (ltb→lt c n t)) (byte_present (in_plane P c) (in_plane R c)))
      (λ t. rw (byte_past n P R c (nltb→le c n t)) (sym (T_false (in_plane P c) (not_e (in_plane P c) (o.no_present c (nltb→le c n t) l)))))

  pub refined_bytes_lem : refined (bytes_of n P R) c ≡ in_plane R c
  unfolding refined byte_of
  refined_bytes_lem = cases (ltb c n)
      (λ t. rw (byte_at n P R c (ltb→lt c n t)) (byte_refined (in_plane P c) (in_plane R c) (o.inside c (ltb→lt c n t))))
      (λ t. rw (byte_past n P R c (nltb→le c n t)) (sym (T_false (in_plane R c) (not_e (in_plane R c) (o.no_refined c (nltb→le c n t) l)))))

-- planes that hold cells are the planes of their bytes
module _ (n : ℕ) (P R : List ℕ) (h : Holding n P R) where
  pub present_back_lem : present_of (bytes_of n P R) ≡ P
  unfolding present_of
  present_back_lem = rw (length_bytes n P R) (plane_is (words_for n) _ P h.present_length h.present_words (present_bytes n P R (ordered n P R h.order)))

  pub refined_back_lem : refined_of (bytes_of n P R) ≡ R
  unfolding refined_of
  refined_back_lem = rw (length_bytes n P R) (plane_is (words_for n) _ R h.refined_length h.refined_words (refined_bytes_lem n P R (ordered n P R h.order)))

-- ---- planes of bytes

byte_of_lem : (b : ℕ) → b ≤ 2 → b ≡ cond (not (eqb b 0)) (cond (eqb b 2) 2 1) 0
byte_of_lem zero l = refl
byte_of_lem (suc zero) l = refl
byte_of_lem (suc (suc zero)) l = refl
byte_of_lem (suc (suc (suc b))) l = absurd (omega arith)

module _ (cs : List ℕ) where
  pub length_present : length (present_of cs) ≡ words_for (length cs)
  unfolding present_of plane_of
  length_present = length_tabulate _ _

  pub length_refined : length (refined_of cs) ≡ words_for (length cs)
  unfolding refined_of plane_of
  length_refined = length_tabulate _ _

  pub present_words_lem : Words (present_of cs)
  unfolding present_of
  present_words_lem = plane_words (words_for (length cs)) (is_present cs)

  pub refined_words_lem : Words (refined_of cs)
  unfolding refined_of
  refined_words_lem = plane_words (words_for (length cs)) (refined cs)

  module _ (c : ℕ) (l : c < 64 * words_for (length cs)) where
    pub present_set : in_plane (present_of cs) c ≡ is_present cs c
    unfolding present_of
    present_set = plane_set (words_for (length cs)) (is_present cs) c l

    pub refined_set : in_plane (refined_of cs) c ≡ refined cs c
    unfolding refined_of
    refined_set = plane_set (words_for (length cs)) (refined cs) c l

  past : (c : ℕ) → length cs ≤ c → get_or cs c 0 ≡ 0
  past c l = get_or-eq_default cs 0 l

  pub planes_ordered : Ordered (length cs) (present_of cs) (refined_of cs)
  unfolding is_present absent refined
  planes_ordered = record {
    no_present = λ c l m. rw (present_set c m, past c l) tt;
    no_refined = λ c l m. rw (refined_set c m, past c l) tt;
    inside = λ c l t. inner c (rw (refined_set c (omega (arith, words_enough (length cs)))) at t) (omega (arith, words_enough (length cs)));
  }
    where
      inner : (c : ℕ) → T (eqb (get_or cs c 0) 2) → c < 64 * words_for (length cs) → T (in_plane (present_of cs) c)
      inner c t m = rw (present_set c m, eqb→eq (get_or cs c 0) 2 t) tt

  pub planes_in_order : T (in_order (length cs) (present_of cs) (refined_of cs))
  planes_in_order = order_i (length cs) (present_of cs) (refined_of cs) planes_ordered

  pub planes_hold : Holding (length cs) (present_of cs) (refined_of cs)
  planes_hold = record { present_words = present_words_lem; refined_words = refined_words_lem; present_length = length_present; refined_length = length_refined; order = planes_in_order }

  -- the bytes of a table's planes are the table
  pub bytes_back_lem : T (are_small cs) → bytes_of (length cs) (present_of cs) (refined_of cs) ≡ cs
  unfolding bytes_of byte_of are_small small_at
  bytes_back_lem small = sym (tabulate_is (length cs) _ cs refl (λ c l.
      let m : c < 64 * words_for (length cs) = omega (arith, words_enough (length cs)) in
      rw (present_set c m, refined_set c m) (unfold is_present absent refined in byte_of_lem (get_or cs c 0) (leb→le (get_or cs c 0) 2 (every_e (length cs) (small_at cs) small c l)))))
