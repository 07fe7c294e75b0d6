use Rattle.std.proofs.Common.{◌≡◌, ◌++◌, map, take}
use Rattle.std.specs.List.{All, flat_map}
use Rattle.line_text.specs.Lines.{lines_text}
use Rattle.sv_journal.specs.Output.{transcript_lines}
use Rattle.sv_journal.specs.Printable.{IsPrintableTranscript}
use Rattle.apl_session.specs.Transcripts.{plain_transcript}
use Rattle.aplsv_top.proofs.output.add_transcripts.Given as goal

abbrev pub invariant-loop-transcript : goal.invariant-loop-transcript
invariant-loop-transcript l = record {
  text : l.bytes.items ≡ l.fn.bytes.items ++ lines_text (flat_map transcript_lines (map plain_transcript (take l.transcript-index l.transcripts)));
  printable : All IsPrintableTranscript (map plain_transcript (take l.transcript-index l.transcripts));
}
