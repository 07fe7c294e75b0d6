use Rattle.ws_commands.proofs.Changes.{given_unmarked, given_with_copy}
use Rattle.ws_commands.proofs.change_laws.retracted_names_are_given_up.Goals as goal

pub returns-clause-unmarked : goal.returns-clause-unmarked
returns-clause-unmarked c = given_unmarked

pub returns-clause-kept : goal.returns-clause-kept
returns-clause-kept c = given_with_copy
