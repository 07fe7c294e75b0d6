-- Names that a command mentions.
use Rattle.std.specs.Prelude.{ℕ, List, [], ◌∷◌, ◌++◌}
use Rattle.std.specs.List.{list_any}
use Rattle.apl_arrays.specs.Name.{same_name}
use Rattle.ws_commands.specs.declared.mention.Mention.{Mention}

-- each of the names, and whether it is one of those before it, or of others that were mentioned earlier
abbrev pub mentions_behind : List (List ℕ) → List (List ℕ) → List Mention
mentions_behind earlier [] = []
mentions_behind earlier (name ∷ names) = record { name = name; repeated = list_any (same_name name) earlier } ∷ mentions_behind (earlier ++ name ∷ []) names

-- each of the names, and whether it is one of those before it
abbrev pub mentions_of : List (List ℕ) → List Mention
mentions_of names = mentions_behind [] names
