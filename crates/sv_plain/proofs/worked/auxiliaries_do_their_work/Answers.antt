use Rattle.std.proofs.Common.{rules}
use Rattle.std.specs.Fmt.{digits}
use Rattle.sv_plain.proofs.worked.auxiliaries_do_their_work.Goals as goal

pub returns-clause-taken_back : goal.returns-clause-taken_back
unfolding digits
returns-clause-taken_back c = search rules

pub returns-clause-still_coupled : goal.returns-clause-still_coupled
unfolding digits
returns-clause-still_coupled c = search rules

pub returns-clause-second_control : goal.returns-clause-second_control
unfolding digits
returns-clause-second_control c = search rules

pub returns-clause-seen : goal.returns-clause-seen
unfolding digits
returns-clause-seen c = search rules

pub returns-clause-second_reply : goal.returns-clause-second_reply
unfolding digits
returns-clause-second_reply c = search rules

pub returns-clause-older : goal.returns-clause-older
unfolding digits
returns-clause-older c = search rules

pub returns-clause-meant : goal.returns-clause-meant
unfolding digits
returns-clause-meant c = search rules

pub returns-clause-clock : goal.returns-clause-clock
unfolding digits
returns-clause-clock c = search rules

pub returns-clause-text_files : goal.returns-clause-text_files
unfolding digits
returns-clause-text_files c = search rules

pub returns-clause-leave : goal.returns-clause-leave
unfolding digits
returns-clause-leave c = search rules
