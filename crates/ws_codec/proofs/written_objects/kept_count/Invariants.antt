use Rattle.std.proofs.Common.{◌≡◌, ◌≤◌, length, take}
use Rattle.std.specs.List.{flat_map}
use Rattle.apl_workspace.specs.Workspace.{global_in}
use Rattle.ws_codec.specs.Kept.{kept}
use Rattle.ws_codec.proofs.written_objects.kept_count.Given as goal

abbrev pub invariant-loop-name : goal.invariant-loop-name
invariant-loop-name l = record {
  value : l.count ≡ length (flat_map (λ name. kept name (global_in l.ws name)) (take l.name-index l.names));
  within : l.count ≤ l.name-index;
}
