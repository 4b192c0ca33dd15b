-- What a call that an error cut short leaves of the bytes that a writer holds and a reader has left, where those are known. Definitions only.
use Rattle.std.specs.Prelude.{List, ℕ, ◌≤◌, length, take}
use Rattle.std.specs.Io.KnownBytes.{Appends, Consumes}
use Rattle.std.specs.declared.option.Option.{Option}

-- known bytes grow by a front of the text: all of it, some, or none
abbrev pub AppendsFront : Option (List ℕ) → Option (List ℕ) → List ℕ → Type 0
AppendsFront old new text = (k : ℕ) × (k ≤ length text) × Appends old new (take k text)

-- known bytes begin with a front of the buffer, and lose it
abbrev pub ConsumesFront : Option (List ℕ) → Option (List ℕ) → List ℕ → Type 0
ConsumesFront old new buffer = (k : ℕ) × (k ≤ length buffer) × Consumes old new (take k buffer)
