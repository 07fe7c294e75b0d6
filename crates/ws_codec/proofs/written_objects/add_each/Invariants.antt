use Rattle.std.proofs.Common.{◌≡◌, ◌++◌, take}
use Rattle.std.specs.List.{flat_map}
use Rattle.apl_workspace.specs.Workspace.{global_in}
use Rattle.ws_codec.specs.SavedText.{kept_bytes}
use Rattle.ws_codec.proofs.written_objects.add_each.Given as goal

abbrev pub invariant-loop-name : goal.invariant-loop-name
invariant-loop-name l = l.bytes.items ≡ l.fn.bytes.items ++ flat_map (λ name. kept_bytes name (global_in l.ws name)) (take l.name-index l.names)
