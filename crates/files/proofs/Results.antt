-- What Req 01 asks of reading and writing, proved of `read_mesh` and `write_mesh`. Assumes nothing.
use mathlib.Core.Path.{◌≡◌, refl, sym, ap, ◌∙◌}
use mathlib.Core.Bool.{Bool, true, false, not, ◌&&◌, cond}
use mathlib.Core.List.{List, [], ◌∷◌, ◌++◌}
use mathlib.Core.Logic.{◌≢◌}
use Prim.Native.Nat.{ℕ, zero, suc, ◌≤◌}
use native.Mathlib.Omega.{arith}
use lib.Dec.{T, ltb, eqb, eqb→eq, eqb-suc-zero}
use lib.ListN.{length, drop, length-append, length-drop}
use lib.Seq.{take-append_seam, drop-append_seam}
use borrow.Author.Tests.{ltb-false, le-ltb, ne_eqb}
use Rattle.facts.specs.Numbers.{elem, all}
use Rattle.facts.proofs.Tests.{or_e, or_r}
use Rattle.grid.specs.declared.Plan.{Plan}
use Rattle.grid.specs.Plan.{in_range, too_large, cell_total, function_total}
use Rattle.mesh.specs.Mesh.{is_mesh, is_admissible, labels, refusal3, check}
use Rattle.mesh.proofs.Bridge.{check_good, check_passed, chain}
use Rattle.mesh.proofs.HAdmissible.{still_checked}
use Rattle.files.specs.File.{File, bad_file, got_file, decode_file, file_of, rebuilt, refusal13, read_refusal, no_plan, answered_plan, ReadOutcome, read_file, read_mesh, WriteOutcome, unwritten, write_text, write_mesh}
use Rattle.files.specs.Demands.{Written, Unwritten, Rebuilt, Refused, Kept, Files}
use Rattle.files.proofs.Longest.{file_short}
use Rattle.files.proofs.Meshes.{same_lengths, file_read, same_table, passes13, unsized, rebuilt_checked, rebuilt_only}

-- ---- writing

-- the text in the lent bytes
abbrev text_in : List ℕ → List ℕ → WriteOutcome
text_in text file = record { answer = record { number = 0; length = length text }; file = text ++ drop (length text) file }

module _ (p : Plan) (cs fs file : List ℕ) where
  -- a call wrote the file, or nothing
  data Wrote (o : WriteOutcome) : Type 0 where
    whole : check p cs fs ≡ 0 → length (file_of p cs) ≤ length file → o ≡ text_in (file_of p cs) file → Wrote o
    nothing : (n : ℕ) → o ≡ unwritten (suc n) file → Wrote o

  wrote : Wrote (write_mesh p cs fs file)
  unfolding write_mesh write_text
  wrote = go (check p cs fs) refl
    where
      room : (b : Bool) → check p cs fs ≡ 0 → ltb (length file) (length (file_of p cs)) ≡ b
          → Wrote (cond b (unwritten 10 file) (text_in (file_of p cs) file))
      room true e q = nothing 9 refl
      room false e q = whole e (ltb-false (length file) (length (file_of p cs)) q) refl

      go : (n : ℕ) → check p cs fs ≡ n → Wrote (cond (eqb n 0) (write_text (file_of p cs) file) (unwritten n file))
      go zero e = room (ltb (length file) (length (file_of p cs))) e refl
      go (suc n) e = rw (eqb-suc-zero n) (nothing n refl)

  module _ (o : WriteOutcome) where
    written_of : Wrote o → o.answer.number ≡ 0 → Written p cs fs file o
    written_of (whole c l e) z = rw e (record {
      checked = c;
      answered = refl;
      bytes = take-append_seam (file_of p cs) (drop (length (file_of p cs)) file);
      tail = drop-append_seam (file_of p cs) (drop (length (file_of p cs)) file);
      room = omega (arith, length-append (file_of p cs) (drop (length (file_of p cs)) file), length-drop (length (file_of p cs)) file);
    })
    written_of (nothing n e) z = absurd (unfold unwritten in let w : ⊥ = omega (arith, ap (λ o. o.answer.number) e) in w)

    unwritten_of : Wrote o → o.answer.number ≢ 0 → Unwritten file o
    unfolding unwritten
    unwritten_of (whole c l e) z = absurd (z (ap (λ o. o.answer.number) e))
    unwritten_of (nothing n e) z = rw e (record { bytes = refl; none = refl })

  -- a mesh is written where there is room
  write_is : check p cs fs ≡ 0 → length (file_of p cs) ≤ length file → write_mesh p cs fs file ≡ text_in (file_of p cs) file
  unfolding write_mesh write_text
  write_is e h = rw (e, le-ltb (length file) (length (file_of p cs)) h) refl

-- ---- reading

-- a number and a plan, with these tables
abbrev answering : ℕ → Plan → List ℕ → List ℕ → ReadOutcome
answering n p cs fs = record { answer = record { number = n; plan = p }; cells = cs; functions = fs }

-- the mesh with this cell table
abbrev giving : Plan → List ℕ → ReadOutcome
giving p table = answering 0 p table (labels p table)

-- refusals 1 to 3 by their tests
abbrev early : Bool → Bool → Bool → ℕ
early a b c = cond (not a) 1 (cond b 2 (cond (not c) 3 0))

-- the numbers that a file which can be read gets
numbered : (p : Plan) (cells rest cs fs : List ℕ) → T (elem (read_refusal p cells rest cs fs) (0 ∷ 1 ∷ 2 ∷ 3 ∷ 4 ∷ 5 ∷ 13 ∷ []))
unfolding read_refusal refusal3 refusal13 elem
numbered p cells rest cs fs =
    go (in_range p) (too_large p) (eqb (length cs) (cell_total p) && eqb (length fs) (function_total p))
    (all (λ c. ltb c (cell_total p)) cells) (is_mesh p (rebuilt p cells)) (is_admissible p (rebuilt p cells)) (eqb (length rest) 0)
  where
    go : (a b c d e f g : Bool)
        → T (elem (cond (eqb (early a b c) 0) (cond (not d) 4 (cond (not e) 4 (cond (not f) 5 (cond (not g) 13 0)))) (early a b c)) (0 ∷ 1 ∷ 2 ∷ 3 ∷ 4 ∷ 5 ∷ 13 ∷ []))
    go false b c d e f g = tt
    go true true c d e f g = tt
    go true false false d e f g = tt
    go true false true false e f g = tt
    go true false true true false f g = tt
    go true false true true true false g = tt
    go true false true true true true false = tt
    go true false true true true true true = tt

module _ (n : ℕ) (p : Plan) where
  -- the plan with 3, 4, 5 and 13
  answered : T (elem n (3 ∷ 4 ∷ 5 ∷ 13 ∷ [])) → answered_plan n p ≡ p
  unfolding answered_plan elem
  answered t = rw (ne_eqb n 1 (λ e. rw e at t), ne_eqb n 2 (λ e. rw e at t)) refl

  -- none with 1 and 2; 12 is none of these numbers
  unanswered : T (elem n (0 ∷ 1 ∷ 2 ∷ 3 ∷ 4 ∷ 5 ∷ 13 ∷ [])) → T (elem n (12 ∷ 1 ∷ 2 ∷ [])) → answered_plan n p ≡ no_plan
  unfolding answered_plan elem
  unanswered m t =
      or_e (eqb n 12) _ t (λ e. absurd (let q : n ≡ 12 = eqb→eq n 12 e in rw q at m))
      (λ u. or_e (eqb n 1) _ u (λ e. let q : n ≡ 1 = eqb→eq n 1 e in rw q refl)
      (λ v. or_e (eqb n 2) _ v (λ e. let q : n ≡ 2 = eqb→eq n 2 e in rw q refl) (λ w. absurd w)))

module _ (s cs fs : List ℕ) where
  -- bytes that cannot be read, a refusal of what they give, or a mesh
  data Read (o : ReadOutcome) : Type 0 where
    unread : decode_file s ≡ bad_file → o ≡ answering 12 no_plan cs fs → Read o
    refused_as : (p : Plan) (cells rest : List ℕ) (n : ℕ) → decode_file s ≡ got_file p cells rest
        → read_refusal p cells rest cs fs ≡ suc n → o ≡ answering (suc n) (answered_plan (suc n) p) cs fs → Read o
    accepted : (p : Plan) (cells rest : List ℕ) → decode_file s ≡ got_file p cells rest → read_refusal p cells rest cs fs ≡ 0
        → o ≡ giving p (rebuilt p cells) → Read o

  read : Read (read_mesh s cs fs)
  unfolding read_mesh read_file
  read = go (decode_file s) refl
    where
      judge : (p : Plan) (cells rest : List ℕ) → decode_file s ≡ got_file p cells rest → (n : ℕ) → read_refusal p cells rest cs fs ≡ n
          → Read (cond (eqb n 0) (giving p (rebuilt p cells)) (answering n (answered_plan n p) cs fs))
      judge p cells rest d zero e = accepted p cells rest d e refl
      judge p cells rest d (suc n) e = rw (eqb-suc-zero n) (refused_as p cells rest n d e refl)

      go : (f : File) → decode_file s ≡ f → Read (read_file f cs fs)
      go bad_file d = unread d refl
      go (got_file p cells rest) d = judge p cells rest d (read_refusal p cells rest cs fs) refl

  module _ (o : ReadOutcome) where
    rebuilt_of : Read o → o.answer.number ≡ 0 → Rebuilt s o
    rebuilt_of (unread d e) z = absurd (let w : ⊥ = omega (arith, ap (λ o. o.answer.number) e) in w)
    rebuilt_of (refused_as p cells rest n d r e) z = absurd (let w : ⊥ = omega (arith, ap (λ o. o.answer.number) e) in w)
    rebuilt_of (accepted p cells rest d r e) z = rw e (record {
      checked = rebuilt_checked p cells rest cs fs r;
      only = rebuilt_only p cells rest cs fs r s d;
    })

    refused_of : Read o → o.answer.number ≢ 0 → Refused s cs fs o
    unfolding elem
    refused_of (unread d e) z = rw e (record { cells = refl; functions = refl; number = tt; plan = λ t. absurd t; zeros = λ t. refl })
    refused_of (refused_as p cells rest n d r e) z =
        let m : T (elem (suc n) (0 ∷ 1 ∷ 2 ∷ 3 ∷ 4 ∷ 5 ∷ 13 ∷ [])) = rw r at (numbered p cells rest cs fs) in
        rw e (record {
          cells = refl;
          functions = refl;
          number = or_e (eqb (suc n) 0) _ m (λ t. absurd (rw (eqb-suc-zero n) at t)) (λ t. or_r (eqb (suc n) 12) _ t);
          plan = λ t. (cells, (rest, d ∙ ap (λ (q : Plan). got_file q cells rest) (sym (answered (suc n) p t))));
          zeros = unanswered (suc n) p m;
        })
    refused_of (accepted p cells rest d r e) z = absurd (z (ap (λ o. o.answer.number) e))

-- ---- a mesh and its file

-- what was read is written again as it stood
again : (s file : List ℕ) (o : ReadOutcome) → Rebuilt s o → length s ≤ length file
    → write_mesh o.answer.plan o.cells o.functions file ≡ text_in s file
again s file o r h =
    write_is o.answer.plan o.cells o.functions file r.checked (rw r.only at h)
    ∙ ap (λ (t : List ℕ). text_in t file) (sym r.only)

module _ (p : Plan) (cs fs : List ℕ) (e : check p cs fs ≡ 0) where
  tables : refusal3 p cs fs ≡ 0
  unfolding check
  tables = (chain (refusal3 p cs fs) _ e).0

  back : (c f : List ℕ) → length c ≡ cell_total p → length f ≡ function_total p → read_mesh (file_of p cs) c f ≡ answering 0 p cs fs
  unfolding read_mesh read_file read_refusal
  back c f a b =
      let k = check_passed p cs fs e in
      rw (
        file_read p cs fs e,
        same_lengths p c f cs fs (a ∙ sym k.cells) (b ∙ sym k.functions),
        tables,
        passes13 p cs fs e,
        same_table p cs fs e,
        ← (check_good p cs fs e).1,
      ) refl

  sized : read_mesh (file_of p cs) [] [] ≡ answering 3 p [] []
  unfolding read_mesh read_file read_refusal answered_plan
  sized = rw (file_read p cs fs e, unsized p cs fs e) refl

-- ---- all of it

kept_file : (p : Plan) (cs fs : List ℕ) → check p cs fs ≡ 0 → Kept p cs fs
kept_file p cs fs e = record { back = back p cs fs e; sized = sized p cs fs e; short = file_short p cs fs e }

pub files : Files
files = record {
  written = λ p cs fs file. written_of p cs fs file (write_mesh p cs fs file) (wrote p cs fs file);
  unwritten = λ p cs fs file. unwritten_of p cs fs file (write_mesh p cs fs file) (wrote p cs fs file);
  rebuilt = λ s cs fs. rebuilt_of s cs fs (read_mesh s cs fs) (read s cs fs);
  refused = λ s cs fs. refused_of s cs fs (read_mesh s cs fs) (read s cs fs);
  back = λ p cs fs file z cells functions a b.
      let w = written_of p cs fs file (write_mesh p cs fs file) (wrote p cs fs file) z in
      ap (λ (t : List ℕ). read_mesh t cells functions) w.bytes ∙ back p cs fs w.checked cells functions a b;
  kept = kept_file;
  kept_before = λ p cs fs e. kept_file p cs fs (still_checked p cs fs e);
  again = λ s cs fs file z h. again s file (read_mesh s cs fs) (rebuilt_of s cs fs (read_mesh s cs fs) (read s cs fs) z) h;
}
