use Rattle.std.proofs.Common.{arith}
use Rattle.std.proofs.lemmas.Grind.{common_steps}
use Rattle.line_text.proofs.AllMore.{all_mapped_more}
use Rattle.sv_journal.specs.Printable.{IsPrintableTranscript}
use Rattle.apl_session.specs.Transcripts.{plain_transcript}
use Rattle.aplsv_top.proofs.output.add_transcripts.Goals as goal

pub loop-transcript-preserved : goal.loop-transcript-preserved
loop-transcript-preserved c = record {
  text = grind (arith, common_steps);
  printable = all_mapped_more IsPrintableTranscript plain_transcript c.args.transcripts.now c.loop-transcript.transcript-index c.transcript-item.result (omega arith) c.transcript-item.is c.in_ok-add_transcript.ensures.printable c.loop-transcript.invariant.printable;
}
