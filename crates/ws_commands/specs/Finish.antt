-- What a change leaves of the workspace and its id.
use Rattle.std.specs.Prelude.{◌≡◌, ◌≤◌, ℕ, Bool, true, false, List, [], Option, Some, None, IfSome}
use Rattle.apl_workspace.specs.Workspace.{PlainWorkspace, empty_workspace, without_globals}
use Rattle.ws_commands.specs.Todo.{PlainChange, clear, erase, given_up, keep, off, replace, set_id, swap}

-- a workspace in place of another: how many glyphs were printed is kept
abbrev pub in_place_of : PlainWorkspace → PlainWorkspace → PlainWorkspace
in_place_of old new = record new { printed = old.printed }

-- the workspace after a change
abbrev pub changed : PlainChange → PlainWorkspace → PlainWorkspace
changed keep w = w
changed clear w = in_place_of w empty_workspace
changed (replace workspace name) w = in_place_of w workspace
changed (swap workspace) w = in_place_of w workspace
changed (erase names) w = without_globals w names
changed (set_id name) w = w
changed off w = w

-- the id after a change
abbrev pub changed_id : PlainChange → Option (List ℕ) → Option (List ℕ)
changed_id keep id = id
changed_id clear id = None
changed_id (replace workspace name) id = Some name
changed_id (swap workspace) id = id
changed_id (erase names) id = id
changed_id (set_id name) id = Some name
changed_id off id = id

-- the change ends the session
abbrev pub is_off : PlainChange → Bool
is_off keep = false
is_off clear = false
is_off (replace workspace name) = false
is_off (swap workspace) = false
is_off (erase names) = false
is_off (set_id name) = false
is_off off = true

-- the workspace that a change brings, where it brings one
abbrev pub workspace_brought : PlainChange → Option PlainWorkspace
workspace_brought keep = None
workspace_brought clear = None
workspace_brought (replace workspace name) = Some workspace
workspace_brought (swap workspace) = Some workspace
workspace_brought (erase names) = None
workspace_brought (set_id name) = None
workspace_brought off = None

-- a workspace may come in place of another: no function is under way in it, and it has printed no more
pub record MayComeIn (old new : PlainWorkspace) : Type 0 where
  pub frames : new.frames ≡ []
  pub printed : new.printed ≤ old.printed

-- a change may be made: the shared names that it gives up were retracted, and the workspace that it brings may come in
pub record MayBeMade (change : PlainChange) (w : PlainWorkspace) : Type 0 where
  pub retracted : given_up change w ≡ []
  pub comes : IfSome (workspace_brought change) (MayComeIn w)
