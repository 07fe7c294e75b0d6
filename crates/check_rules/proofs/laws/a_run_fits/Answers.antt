use Rattle.check_rules.proofs.RunFits.{run_fits}
use Rattle.check_rules.proofs.laws.a_run_fits.Goals as goal

pub returns : goal.returns
returns c = λ bundle journal transcripts rules run. run_fits bundle rules journal transcripts run
