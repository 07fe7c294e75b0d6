use Rattle.std.proofs.Common.{ap}
use Rattle.apl_workspace.specs.Workspace.{PlainWorkspace}
use Rattle.ws_codec.specs.Saved.{plain_saved}
use Rattle.ws_commands.proofs.Fresh.{fresh}
use Rattle.ws_commands.proofs.copying.copy_bytes.Goals as goal

pub copy_saved-requires-clause-from : goal.copy_saved-requires-clause-from
copy_saved-requires-clause-from c = ap (λ (w : PlainWorkspace). w.frames) (fresh c.args.bytes.now (plain_saved c.in-Ok.saved) c.in-Ok.ensures)
