-- What a call reads of a text.
use Rattle.std.specs.Prelude.{◌≡◌, List, ℕ, Option, Result, MatchResult}
use Rattle.sv_journal.specs.Output.{output_text}
use Rattle.printed_text.specs.Departs.{DepartsAt}
use Rattle.printed_text.specs.MayBePrinted.{MayBePrinted}
use Rattle.printed_text.specs.Printed.{PlainPrinted}
use Rattle.printed_text.specs.Refused.{IsRefusal}
use Rattle.printed_text.specs.declared.refused.PrintedRefused.{PrintedRefused}

-- what an output of these users tells whose text it is; or where it departs
abbrev pub ReadsText : Option (List ℕ) → List ℕ → Result PlainPrinted PrintedRefused → Type 0
ReadsText users text result =
    MatchResult result (λ printed. MayBePrinted users printed.transcripts printed.journal × (text ≡ output_text printed.transcripts printed.journal)) (λ why. IsRefusal why (DepartsAt users text))
