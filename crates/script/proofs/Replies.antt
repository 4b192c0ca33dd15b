-- Laws of a session's replies: what was printed and opened is what Session.antt says. Assumes nothing.
use mathlib.Core.Path.{◌≡◌, refl, sym, ap, subst, ◌∙◌}
use mathlib.Core.Bool.{true}
use mathlib.Core.List.{List, [], ◌∷◌, ◌++◌}
use Prim.Native.Nat.{ℕ, ◌≤◌, ◌<◌}
use native.Mathlib.Omega.{arith}
use lib.Dec.{leb}
use Rattle.std.proofs.Common.{Some}
use Rattle.std.specs.declared.option.Option.{Option}
use lib.ListN.{length, take, drop, length-append, length-replicate}
use lib.Seq.{length-take-le, take_at}
use borrow.Author.Tests.{ne_eqb, lt-ltb, le-ltb, le-leb}
use Rattle.grid.specs.declared.Plan.{Plan}
use Rattle.grid.specs.Plan.{plan_refusal, cell_total, function_total}
use Rattle.mesh.specs.Mesh.{Opened, fresh_cells, fresh_functions, open_mesh}
use Rattle.tables.proofs.Calls.{refuse_plan, refuse_0}
use Rattle.lines.specs.Writing.{digits, items, answer, large, Prints}
use Rattle.script.specs.Session.{State, wall, Reply, reply, blank, opening}
use Rattle.script.specs.declared.hand.Hand.{Hand}
use Rattle.script.specs.declared.done.Done.{Done}
use Rattle.script.specs.Steps.{held, Said, Replied}
use Rattle.script.specs.Bounds.{wall_cells, wall_functions}

-- ---- printing

-- a text that had room stands whole at the start of the buffer
pub said : (n m : ℕ) {old text new : List ℕ} {r : ℕ} → Prints (leb n m) old text r new → n ≤ m → 0 < length text → Said text r new
said n m {old} {text} {new} {r} p l h =
    let e : leb n m ≡ true = le-leb n m l in
    let c : r ≡ length text = (rw e at p).count in
    let b : new ≡ text ++ drop (length text) old = (rw e at p).bytes in
    record { bytes = ap (take r) b ∙ take_at text (drop (length text) old) r (sym c); some = omega (arith, c); inside = p.inside }

pub said_as : {text line out : List ℕ} {n : ℕ} → Said text n out → text ≡ line → Said line n out
said_as {text} {line} {out} {n} s e = subst (λ (x : List ℕ). Said x n out) e s

pub replied_as : {r q : Reply} {done : Done} {cs fs out : List ℕ} → Replied r done cs fs out → r ≡ q → Replied q done cs fs out
replied_as {r} {q} {done} {cs} {fs} {out} w e = subst (λ (x : Reply). Replied x done cs fs out) e w

pub answer_some : (n : ℕ) (cs fs : List ℕ) → 0 < length (answer n cs fs)
unfolding answer
answer_some n cs fs = omega (arith, length-append (digits n) (59 ∷ items cs ++ (59 ∷ items fs ++ (10 ∷ []))))

-- ---- a wall that is opened

pub opening_refused : (s : State) (p : Plan) → (plan_refusal p ≡ 0 → ⊥) → opening s p ≡ reply s (answer (plan_refusal p) [] [])
unfolding opening open_mesh
opening_refused s p n = rw (sym (refuse_plan p (blank (cell_total p)) (blank (function_total p)) n), ne_eqb (plan_refusal p) 0 n, ne_eqb (plan_refusal p) 0 n) refl

module _ (p : Plan) (e : plan_refusal p ≡ 0) where
  pub opened : (cs fs : List ℕ) → length cs ≡ cell_total p → length fs ≡ function_total p
      → open_mesh p cs fs ≡ record { number = 0; cells = fresh_cells p; functions = fresh_functions p }
  unfolding open_mesh
  opened cs fs a b = rw (sym (refuse_0 p cs fs e a b)) refl

  blank_opened : open_mesh p (blank (cell_total p)) (blank (function_total p)) ≡ record { number = 0; cells = fresh_cells p; functions = fresh_functions p }
  blank_opened = opened (blank (cell_total p)) (blank (function_total p)) (length-replicate (cell_total p) 0) (length-replicate (function_total p) 0)

  pub opening_large : (s : State) → wall_cells < cell_total p → opening s p ≡ reply s large
  unfolding opening
  opening_large s h = rw (blank_opened, lt-ltb wall_cells (cell_total p) h) refl

  pub opening_fresh : (s : State) → cell_total p ≤ wall_cells → opening s p ≡ reply (wall p (fresh_cells p) (fresh_functions p)) (answer 0 [] [])
  unfolding opening
  opening_fresh s h = rw (blank_opened, le-ltb wall_cells (cell_total p) h) refl

-- ---- the wall in hand

pub wall_same : (p : Plan) {a b x y : List ℕ} → a ≡ b → x ≡ y → wall p a x ≡ wall p b y
wall_same p {a} {b} {x} {y} e f = ap (λ (t : List ℕ). wall p t x) e ∙ ap (λ (t : List ℕ). wall p b t) f

-- tables at the start of the lent ones
pub held_front : (h : Hand) (cs fs more rest : List ℕ) → length cs ≡ h.cells → length fs ≡ h.functions
    → held (Some h) (cs ++ more) (fs ++ rest) ≡ wall h.plan cs fs
held_front h cs fs more rest a b = wall_same h.plan (take_at cs more h.cells a) (take_at fs rest h.functions b)

-- the tables of a new wall at the start of the lent ones
pub fresh : (s : State) (h : Hand) (n : ℕ) (done : Done) (cs fs cs' fs' out : List ℕ) → done.hand ≡ Some h → plan_refusal h.plan ≡ 0
    → wall_cells ≤ length cs → wall_functions ≤ length fs
    → n ≡ (open_mesh h.plan (take h.cells cs) (take h.functions fs)).number
    → cs' ≡ (open_mesh h.plan (take h.cells cs) (take h.functions fs)).cells
    → fs' ≡ (open_mesh h.plan (take h.cells cs) (take h.functions fs)).functions
    → length cs' ≡ length (take h.cells cs) → length fs' ≡ length (take h.functions fs)
    → Said (answer n [] []) done.count out
    → Replied (opening s h.plan) done (cs' ++ drop h.cells cs) (fs' ++ drop h.functions fs) out
fresh s h n done cs fs cs' fs' out d e lc lf en ec ef kc kf w =
    let tc = length-take-le h.cells cs (omega (arith, h.cells_bound)) in
    let tf = length-take-le h.functions fs (omega (arith, h.functions_bound)) in
    let o = opened h.plan e (take h.cells cs) (take h.functions fs) (tc ∙ h.all_cells) (tf ∙ h.all_functions) in
    rw (opening_fresh h.plan e s (omega (arith, h.all_cells, h.cells_bound)))
    (record {
      state = ap (λ (x : Option Hand). held x (cs' ++ drop h.cells cs) (fs' ++ drop h.functions fs)) d ∙ held_front h cs' fs' (drop h.cells cs) (drop h.functions fs) (kc ∙ tc) (kf ∙ tf)
          ∙ wall_same h.plan (ec ∙ ap (λ (q : Opened). q.cells) o) (ef ∙ ap (λ (q : Opened). q.functions) o);
      said = subst (λ (x : ℕ). Said (answer x [] []) done.count out) (en ∙ ap (λ (q : Opened). q.number) o) w;
    })

-- a line that leaves what is in hand
pub kept : (r : Reply) (done : Done) (cs fs out text : List ℕ) → r ≡ reply (held done.hand cs fs) text → Said text done.count out → Replied r done cs fs out
kept r done cs fs out text e s = rw e (record { state = refl; said = s })
