use Rattle.printed_text.proofs.Steps.{nowhere, one_output}
use Rattle.printed_text.proofs.Walks.{departs_once}
use Rattle.printed_text.proofs.text.outputs_are_read_in_one_way.Goals as goal

pub returns-clause-nowhere : goal.returns-clause-nowhere
returns-clause-nowhere c = nowhere

pub returns-clause-one_place : goal.returns-clause-one_place
returns-clause-one_place c = departs_once

pub returns-clause-one_output : goal.returns-clause-one_output
returns-clause-one_output c = one_output
