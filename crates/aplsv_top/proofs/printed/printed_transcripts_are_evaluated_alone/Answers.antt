use Rattle.aplsv_top.proofs.printed.printed_transcripts_are_evaluated_alone.Goals as goal

pub returns : goal.returns
returns c bytes text printed = c.transcripts_are_evaluated_alone.ensures printed.dealings printed.journal printed.bundle.users printed.transcripts printed.users
