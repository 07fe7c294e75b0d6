use Rattle.aplsv_top.proofs.OneSplit.{one_split}
use Rattle.aplsv_top.proofs.laws.an_input_is_split_in_one_way.Goals as goal

pub returns : goal.returns
returns c = one_split
