use Rattle.aux_parties.proofs.TableLemmas.{ten_or_twenty}
use Rattle.aux_parties.proofs.auxiliary.auxiliaries_are_ten_and_twenty.Goals as goal

pub returns-clause-parties : goal.returns-clause-parties
returns-clause-parties c = ten_or_twenty
