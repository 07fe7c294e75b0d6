use Rattle.std.proofs.Common.{◌∙◌, ap, sym}
use Rattle.std.specs.Option.{option_and_then}
use Rattle.std.specs.Prelude.{option_map}
use Rattle.apl_session.specs.Transcripts.{plain_transcript}
use Rattle.aplsv_top.specs.Summary.{last_of}
use Rattle.aplsv_top.proofs.SummaryLines.{found_plain}
use Rattle.aplsv_top.proofs.summaries.last_line.Goals as goal

pub returns-in-Some : goal.returns-in-Some
returns-in-Some c =
    c.last_of.ensures
    ∙ (ap last_of c.as_slice.ensures ∙ sym (ap (option_and_then (λ transcript. last_of transcript.lines)) (found_plain c.args.transcripts.now ∙ ap (option_map plain_transcript) (sym c.in-Some.ensures))))

pub returns-in-None : goal.returns-in-None
returns-in-None c =
    sym (ap (option_and_then (λ transcript. last_of transcript.lines)) (found_plain c.args.transcripts.now ∙ ap (option_map plain_transcript) (sym c.in-None.ensures)))
