use Rattle.std.specs.Prelude.{List}
use Rattle.sv_events.specs.Entry.{PlainEntry}
use Rattle.sv_journal.specs.Output.{PlainTranscript}
use Rattle.printed_text.specs.declared.printed.PrintedTranscript.{PrintedTranscript}

-- a transcript as plain data, whatever room is left for its lines
abbrev pub plain_printed : PrintedTranscript → PlainTranscript
plain_printed transcript = record { user = transcript.user; lines = transcript.lines.items }

-- what an output tells: transcripts, and the journal with its oldest entry first
pub record PlainPrinted : Type 0 where
  pub transcripts : List PlainTranscript
  pub journal : List PlainEntry
