use Rattle.std.specs.Prelude.{List, reverse}
use Rattle.sv_journal.specs.Output.{PlainTranscript}
use Rattle.sv_rules.specs.Entries.{Entries}
use Rattle.apl_session.specs.declared.outcome.Ended.{Ended}
use Rattle.apl_session.specs.declared.outcome.Ended.TheVariants.{Whole, WantOfMemory}

-- where a run is whole, this holds of its transcripts and of its journal, the newest entry first
abbrev pub IfWhole : Ended → (List PlainTranscript → Entries → Type 0) → Type 0
IfWhole (Whole transcripts journal) P = P transcripts.items (reverse journal.items)
IfWhole WantOfMemory P = Unit {0}
