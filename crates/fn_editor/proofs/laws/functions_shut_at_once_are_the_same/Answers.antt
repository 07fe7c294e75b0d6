use Rattle.std.proofs.Common.{refl}
use Rattle.fn_editor.proofs.OpeningLaw.{shut_is_same, shut_opens}
use Rattle.fn_editor.proofs.laws.functions_shut_at_once_are_the_same.Goals as goal

pub returns-clause-opened : goal.returns-clause-opened
returns-clause-opened c = shut_opens

pub returns-clause-next_line : goal.returns-clause-next_line
returns-clause-next_line c = λ function. refl

pub returns-clause-same : goal.returns-clause-same
returns-clause-same c = shut_is_same
