use Rattle.apl_execute.proofs.MergeLaw.{marks_stay, merged_found}
use Rattle.apl_execute.proofs.laws.merging_changes_the_copied_names.Goals as goal

pub returns-clause-names : goal.returns-clause-names
returns-clause-names c = merged_found

pub returns-clause-marks : goal.returns-clause-marks
returns-clause-marks c = marks_stay
