use Rattle.std.specs.Prelude.{ℕ}
use Rattle.printed_text.specs.declared.refused.PrintedRefused.{PrintedRefused}
use Rattle.printed_text.specs.declared.refused.PrintedRefused.TheVariants.{Departs, WantOfMemory}

-- what has to be true of the offset where the text departs; nothing where memory ran out
abbrev pub IsRefusal : PrintedRefused → (ℕ → Type 0) → Type 0
IsRefusal (Departs at) fact = fact at
IsRefusal WantOfMemory fact = Unit {0}
