use Rattle.std.proofs.Common.{◌≡◌, length, take}
use Rattle.std.specs.Prelude.{sum_by}
use Rattle.aplsv_top.proofs.summaries.line_count.Given as goal

abbrev pub invariant-loop-transcript : goal.invariant-loop-transcript
invariant-loop-transcript l = l.count ≡ sum_by (λ transcript. length transcript.lines.items) (take l.transcript-index l.transcripts)
