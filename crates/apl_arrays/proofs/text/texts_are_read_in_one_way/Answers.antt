use Rattle.apl_arrays.proofs.Spelling.{one_line, bad_nowhere, one_place, no_control}
use Rattle.apl_arrays.proofs.text.texts_are_read_in_one_way.Goals as goal

pub returns-clause-one_line : goal.returns-clause-one_line
returns-clause-one_line c = one_line

pub returns-clause-bad_nowhere : goal.returns-clause-bad_nowhere
returns-clause-bad_nowhere c = bad_nowhere

pub returns-clause-one_place : goal.returns-clause-one_place
returns-clause-one_place c = one_place

pub returns-clause-no_control : goal.returns-clause-no_control
returns-clause-no_control c = no_control
