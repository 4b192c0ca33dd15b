-- A plan and listed cells are read back as written, and bytes that are read with nothing left are those that are written of what they
-- gave. Assumes nothing.
use mathlib.Core.Path.{◌≡◌, refl, sym, ap, ◌∙◌}
use mathlib.Core.List.{List, [], ◌∷◌, ◌++◌, append_assoc, append-nil}
use Prim.Native.Nat.{ℕ, ◌^◌, ◌≤◌, ◌<◌}
use native.Mathlib.Omega.{arith}
use lib.ListN.{length, get_or, take}
use lib.Pow.{pow_mono}
use Rattle.grid.specs.declared.Plan.{Plan}
use Rattle.grid.specs.Range.{InRange}
use Rattle.codec.specs.Numbers.{Many, bad_many, got_many, encode_numbers, decode_numbers, encode_rising, decode_rising}
use Rattle.codec.specs.Fitting.{number_limit, Small, none, more, Rising}
use Rattle.codec.proofs.Lists.{numbers_round, rising_round, numbers_canonical, rising_canonical}
use Rattle.grid.specs.Plan.{plan_of}
use Rattle.files.specs.File.{head_numbers, encode_corners, encode_file, bad_file, got_file, decode_corners, with_corners, with_cells, with_head, decode_file}
use Rattle.files.proofs.CornerNumbers.{corner_bytes, corners_round, corners_canonical}

-- bytes that are not read give nothing
pub no_file : {C : Type 0} {p : Plan} {cells rest : List ℕ} → bad_file ≡ got_file p cells rest → C
no_file e = cc

-- ---- a head, corners and a plan

of_seven : (P : List ℕ → Type 0) → ((a b c d f g h : ℕ) → P (a ∷ b ∷ c ∷ d ∷ f ∷ g ∷ h ∷ [])) → (ns : List ℕ) → length ns ≡ 7 → P ns
of_seven P k [] e = absurd (omega arith)
of_seven P k (a ∷ []) e = absurd (omega arith)
of_seven P k (a ∷ b ∷ []) e = absurd (omega arith)
of_seven P k (a ∷ b ∷ c ∷ []) e = absurd (omega arith)
of_seven P k (a ∷ b ∷ c ∷ d ∷ []) e = absurd (omega arith)
of_seven P k (a ∷ b ∷ c ∷ d ∷ f ∷ []) e = absurd (omega arith)
of_seven P k (a ∷ b ∷ c ∷ d ∷ f ∷ g ∷ []) e = absurd (omega arith)
of_seven P k (a ∷ b ∷ c ∷ d ∷ f ∷ g ∷ h ∷ []) e = k a b c d f g h
of_seven P k (a ∷ b ∷ c ∷ d ∷ f ∷ g ∷ h ∷ i ∷ t) e = absurd (omega arith)

-- it has their numbers
record Has (ns cs : List ℕ) (p : Plan) : Type 0 where
  pub head : head_numbers p (get_or ns 6 0) ≡ ns
  pub across : p.corners_across ≡ get_or cs 0 0
  pub up : p.corners_up ≡ get_or cs 1 0

seven : (ns cs : List ℕ) → length ns ≡ 7 → Has ns cs (plan_of (take 6 ns ++ cs))
seven ns cs e = of_seven (λ ns. Has ns cs (plan_of (take 6 ns ++ cs))) (λ a b c d f g h. record { head = refl; across = refl; up = refl }) ns e

-- that of a plan in range can be written
and_more : (n : ℕ) {ns : List ℕ} → n ≤ 16 → Small ns → Small (n ∷ ns)
and_more n h s = more {n = n} (omega arith) s

pub head_small : (p : Plan) (count : ℕ) → InRange p → count < number_limit → Small (head_numbers p count)
head_small p count r h =
    and_more p.columns (omega arith) (and_more p.rows (omega arith) (and_more p.levels (omega arith)
    (and_more p.degree_across (omega arith) (and_more p.degree_up (omega arith) (and_more p.class (omega arith) (more h none))))))

-- and so can its corners
bits_small : (n bits : ℕ) → n ≤ 16 → bits < 2 ^ n → bits < number_limit
bits_small n bits h l = let m : 2 ^ n ≤ 2 ^ 16 = pow_mono h in omega arith

pub corners_fit : (p : Plan) → InRange p → (p.corners_across < number_limit) × (p.corners_up < number_limit)
corners_fit p r =
    (bits_small p.columns p.corners_across r.columns≤ r.corners_across<, bits_small p.rows p.corners_up r.rows≤ r.corners_up<)

pub corners_small : (p : Plan) → InRange p → Small (p.corners_across ∷ p.corners_up ∷ [])
corners_small p r = let (a, b) = corners_fit p r in more a (more b none)

-- ---- written, then read

-- numbers that a file can hold
pub record Writable (p : Plan) (cells : List ℕ) : Type 0 where
  pub head : Small (head_numbers p (length cells))
  pub rising : Rising cells
  pub corners : Small (p.corners_across ∷ p.corners_up ∷ [])

pub file_whole : {p : Plan} {cells : List ℕ} → Writable p cells → decode_file (encode_file p cells) ≡ got_file p cells []
unfolding decode_file encode_file with_head with_cells with_corners
file_whole {p} {cells} w =
    rw (
      numbers_round (encode_rising cells ++ corner_bytes p) w.head,
      rising_round (corner_bytes p) w.rising,
      corners_round p.corners_across p.corners_up w.corners,
    ) refl

-- ---- only what is written so is read

pub record FileOf (s : List ℕ) (p : Plan) (cells rest : List ℕ) : Type 0 where
  pub bytes : s ≡ encode_file p cells ++ rest
  pub writable : Writable p cells

-- head, cells, corners and what is left, one behind another
parts : (a b c d : List ℕ) {s r u : List ℕ} → s ≡ a ++ r → r ≡ b ++ u → u ≡ c ++ d → s ≡ (a ++ (b ++ c)) ++ d
parts a b c d x y z =
    x ∙ ap (λ (t : List ℕ). a ++ t) (y ∙ ap (λ (t : List ℕ). b ++ t) z ∙ sym (append_assoc b c d)) ∙ sym (append_assoc a (b ++ c) d)

module _ (s : List ℕ) (p : Plan) (cells rest : List ℕ) (e : decode_file s ≡ got_file p cells rest) where
  pub file_canonical : FileOf s p cells rest
  unfolding decode_file encode_file with_head with_cells with_corners
  file_canonical = on_head (decode_numbers 7 s) refl
    where
      on_corners : (ns r : List ℕ) → decode_numbers 7 s ≡ got_many ns r → (cs u : List ℕ) → decode_rising (get_or ns 6 0) r ≡ got_many cs u
          → (m : Many) → decode_corners u ≡ m → FileOf s p cells rest
      on_corners ns r a cs u q bad_many c = no_file (rw (a, q, c) at e)
      on_corners ns r a cs u q (got_many bs v) c =
          let w : got_file (plan_of (take 6 ns ++ bs)) cs v ≡ got_file p cells rest = rw (a, q, c) at e in
          let x : plan_of (take 6 ns ++ bs) ≡ p = cc in
          let y : cs ≡ cells = cc in
          let z : v ≡ rest = cc in
          let i = numbers_canonical 7 s ns r a in
          let k = rising_canonical (get_or ns 6 0) r cs u q in
          let l = corners_canonical u bs v c in
          let h = seven ns bs i.count in
          let n : head_numbers (plan_of (take 6 ns ++ bs)) (length cs) ≡ ns = ap (head_numbers (plan_of (take 6 ns ++ bs))) k.count ∙ h.head in
          rw (← x, ← y, ← z) (record {
            bytes = rw (n, h.across, h.up) (parts (encode_numbers ns) (encode_rising cs) (encode_corners (get_or bs 0 0) (get_or bs 1 0)) v i.bytes k.bytes l.bytes);
            writable = record { head = rw n i.small; rising = k.rises; corners = rw (h.across, h.up) l.small };
          })

      on_cells : (ns r : List ℕ) → decode_numbers 7 s ≡ got_many ns r → (m : Many) → decode_rising (get_or ns 6 0) r ≡ m → FileOf s p cells rest
      on_cells ns r a bad_many q = no_file (rw (a, q) at e)
      on_cells ns r a (got_many cs u) q = on_corners ns r a cs u q (decode_corners u) refl

      on_head : (m : Many) → decode_numbers 7 s ≡ m → FileOf s p cells rest
      on_head bad_many a = no_file (rw a at e)
      on_head (got_many ns r) a = on_cells ns r a (decode_rising (get_or ns 6 0) r) refl

  pub file_rising : Rising cells
  file_rising = file_canonical.writable.rising

pub file_only : (s : List ℕ) (p : Plan) (cells : List ℕ) → decode_file s ≡ got_file p cells [] → s ≡ encode_file p cells
file_only s p cells e = (file_canonical s p cells [] e).bytes ∙ append-nil (encode_file p cells)
