-- A table after listed cells are refined in it. Assumes nothing.
use mathlib.Core.Path.{◌≡◌, refl, ◌∙◌}
use mathlib.Core.Bool.{Bool, true, false}
use mathlib.Core.List.{List, [], ◌∷◌}
use Prim.Native.Nat.{ℕ, ◌<◌}
use lib.Dec.{T, eqb, eqb→eq, eqb_refl}
use lib.ListN.{length, get_or, set, length-set}
use lib.Seq.{get_or-set_same, get_or-set_other}
use borrow.Author.Tests.{eqb-true, eqb-false}
use Rattle.facts.specs.Numbers.{elem}
use Rattle.facts.proofs.Tests.{or_e, or_l, or_r}
use Rattle.listing.specs.Cells.{marked}

-- a cell that is 2 stays 2
marked_keeps : (cs t : List ℕ) (x : ℕ) → x < length t → get_or t x 0 ≡ 2 → get_or (marked cs t) x 0 ≡ 2
unfolding marked
marked_keeps [] t x h e = e
marked_keeps (c ∷ cs) t x h e = go (eqb x c) refl (marked_keeps cs (set t c 2) x (rw (length-set t c 2) h))
  where
    go : (b : Bool) → eqb x c ≡ b → (get_or (set t c 2) x 0 ≡ 2 → get_or (marked cs (set t c 2)) x 0 ≡ 2) → get_or (marked cs (set t c 2)) x 0 ≡ 2
    go true q i = i (let w : x ≡ c = eqb-true x c q in rw w (get_or-set_same t c 2 0 (rw w at h)))
    go false q i = i (get_or-set_other t c x 2 0 (eqb-false x c q) ∙ e)

pub marked_yes : (cs t : List ℕ) (x : ℕ) → x < length t → T (elem x cs) → get_or (marked cs t) x 0 ≡ 2
unfolding marked elem
marked_yes [] t x h m = absurd m
marked_yes (c ∷ cs) t x h m =
    or_e (eqb x c) (elem x cs) m
    (λ q. let w : x ≡ c = eqb→eq x c q in marked_keeps cs (set t c 2) x (rw (length-set t c 2) h) (rw w (get_or-set_same t c 2 0 (rw w at h))))
    (λ n. marked_yes cs (set t c 2) x (rw (length-set t c 2) h) n)

pub marked_no : (cs t : List ℕ) (x : ℕ) → (T (elem x cs) → ⊥) → get_or (marked cs t) x 0 ≡ get_or t x 0
unfolding marked elem
marked_no [] t x m = refl
marked_no (c ∷ cs) t x m =
    marked_no cs (set t c 2) x (λ n. m (or_r (eqb x c) (elem x cs) n))
    ∙ get_or-set_other t c x 2 0 (λ e. m (or_l (eqb x c) (elem x cs) (rw e (eqb_refl c))))
