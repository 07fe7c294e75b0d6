-- Changes leave no function under way.
use Rattle.std.proofs.Common.{◌≡◌, ℕ, List, [], refl}
use Rattle.apl_workspace.specs.Workspace.{PlainWorkspace}
use Rattle.ws_commands.specs.Finish.{MayBeMade, changed}
use Rattle.ws_commands.specs.Todo.{PlainChange, clear, erase, keep, off, replace, set_id, swap}

pub none_under_way : (change : PlainChange) (w : PlainWorkspace) → w.frames ≡ [] → MayBeMade change w → (changed change w).frames ≡ []
none_under_way keep w none may = none
none_under_way clear w none may = refl
none_under_way (replace workspace name) w none may = may.comes.frames
none_under_way (swap workspace) w none may = may.comes.frames
none_under_way (erase names) w none may = none
none_under_way (set_id name) w none may = none
none_under_way off w none may = none
