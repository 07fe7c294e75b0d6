use Rattle.aplsv_replay.proofs.Ends.{ends_as}
use Rattle.aplsv_replay.proofs.driver.close.Goals as goal

pub returns-clause-whole : goal.returns-clause-whole
returns-clause-whole g c =
    ends_as g.K.Shelf.told g.K.Shelf.faults c.args.parties c.take_apart-transcripts.result c.into_journal.result c.is_whole-is_whole.result c.end_of.result c.end_of.ensures c.is_whole-is_whole.ensures c.take_apart-transcripts.ensures.transcripts c.into_journal.ensures.value c.into_journal.ensures.legal
