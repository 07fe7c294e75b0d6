use Rattle.sv_core.proofs.HistoryLemmas.{party_is}
use Rattle.sv_core.proofs.history.party_in.Goals as goal

pub returns : goal.returns
returns c = party_is c.args.entries.now c.args.place c.index-entries-place.result c.requires.from c.requires.to c.index-entries-place.is
