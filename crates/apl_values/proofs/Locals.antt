-- What a frame has is local.
use Rattle.std.proofs.Common.{ℕ, List, [], ◌∷◌}
use Rattle.std.specs.Prelude.{Option, Some, None, All, IfSome}
use Rattle.std.specs.Option.{option_or}
use Rattle.std.proofs.lemmas.List.Elements.{All-head, All-tail}
use Rattle.std.proofs.lemmas.Map.Views.{IfSome-lookup_from_All}
use Rattle.apl_arrays.specs.Name.{same_name}
use Rattle.apl_workspace.specs.Meaning.{IsLocal, NameTable, meaning_in}
use Rattle.apl_workspace.specs.Workspace.{innermost}
use Rattle.apl_workspace.specs.declared.meaning.Meaning.{Meaning}
use Rattle.apl_workspace.proofs.Rules.{HasLocals}

local_by : (first second : Option Meaning) → IfSome first IsLocal → IfSome second IsLocal → IfSome (option_or first second) IsLocal
local_by None second h k = k
local_by (Some m) second h k = h

pub frames_are_local : (frames : List NameTable) (name : List ℕ) → All HasLocals frames → IfSome (innermost frames name) IsLocal
frames_are_local [] name h = tt
frames_are_local (table ∷ tables) name h =
    local_by (meaning_in table name) (innermost tables name) (IfSome-lookup_from_All IsLocal (same_name name) table (All-head HasLocals table tables h)) (frames_are_local tables name (All-tail HasLocals table tables h))
