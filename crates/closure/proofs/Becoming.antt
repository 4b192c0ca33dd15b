-- What methods make of a table, one after the other. Assumes nothing.
use mathlib.Core.Path.{◌≡◌, refl, ap, ◌∙◌}
use mathlib.Core.List.{List}
use Prim.Native.Nat.{ℕ}
use Rattle.grid.specs.declared.Plan.{Plan}
use Rattle.closure.specs.declared.Table.{Table}
use Rattle.closure.specs.Table.{Becomes}

module _ {s : Table} {f : Plan → List ℕ → List ℕ} where
  pub stays : s.cells.now ≡ f s.plan s.cells.now → Becomes s s f
  stays e = record { plan = refl; place = refl; cells = e }

  module _ {t : Table} (a : Becomes s t f) where
    pub same : {h : Plan → List ℕ → List ℕ} → f s.plan s.cells.now ≡ h s.plan s.cells.now → Becomes s t h
    same e = record { plan = a.plan; place = a.place; cells = a.cells ∙ e }

    pub both : {u : Table} {g : Plan → List ℕ → List ℕ} → Becomes t u g → Becomes s u (λ p l. g p (f p l))
    both {u} {g} b = record { plan = b.plan ∙ a.plan; place = b.place ∙ a.place; cells = b.cells ∙ (ap (λ p. g p t.cells.now) a.plan ∙ ap (g s.plan) a.cells) }

pub steps : {s t u : Table} {f g h : Plan → List ℕ → List ℕ} → Becomes s t f → Becomes t u g → g s.plan (f s.plan s.cells.now) ≡ h s.plan s.cells.now → Becomes s u h
steps a b e = same (both a b) e
