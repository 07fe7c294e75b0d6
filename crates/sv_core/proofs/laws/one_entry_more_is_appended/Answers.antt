use Rattle.sv_core.proofs.HistoryLemmas.{one_more_is_appended}
use Rattle.sv_core.proofs.laws.one_entry_more_is_appended.Goals as goal

pub returns : goal.returns
returns c = one_more_is_appended
