use Rattle.ws_commands.proofs.Changes.{first_is_shared, next_unmarked, next_with_copy}
use Rattle.ws_commands.proofs.change_laws.retractions_follow_each_other.Goals as goal

pub returns-clause-shared : goal.returns-clause-shared
returns-clause-shared c = first_is_shared

pub returns-clause-unmarked : goal.returns-clause-unmarked
returns-clause-unmarked c = next_unmarked

pub returns-clause-kept : goal.returns-clause-kept
returns-clause-kept c = next_with_copy
