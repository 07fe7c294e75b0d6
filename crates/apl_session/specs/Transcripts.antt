use Rattle.sv_journal.specs.Output.{PlainTranscript}
use Rattle.apl_session.specs.declared.transcripts.Transcript.{Transcript}

-- the transcript, whatever room is left in its lists
abbrev pub plain_transcript : Transcript → PlainTranscript
plain_transcript transcript = record { user = transcript.user; lines = transcript.lines.items }
