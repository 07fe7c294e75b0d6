use Rattle.ws_commands.proofs.Changes.{comes_printed, comes_unmarked, comes_with_copy}
use Rattle.ws_commands.proofs.change_laws.workspaces_may_still_come_in.Goals as goal

pub returns : goal.returns
returns c = record { unmarked = comes_unmarked; kept = comes_with_copy; printed = comes_printed }
