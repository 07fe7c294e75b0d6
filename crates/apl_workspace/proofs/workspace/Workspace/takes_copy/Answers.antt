use Rattle.std.proofs.Common.{Some}
use Rattle.apl_workspace.specs.declared.meaning.Meaning.TheVariants.{Shared}
use Rattle.apl_workspace.proofs.workspace.Workspace.takes_copy.Goals as goal

pub returns : goal.returns
returns c = c.has_room.ensures (Shared (Some c.args.value.now)) c.value_weight.ensures
