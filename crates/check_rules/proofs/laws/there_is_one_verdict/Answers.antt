use Rattle.check_rules.proofs.OneVerdict.{one_verdict}
use Rattle.check_rules.proofs.laws.there_is_one_verdict.Goals as goal

pub returns : goal.returns
returns c = λ bundle text verdict other rules found also. one_verdict bundle text rules verdict other found also
