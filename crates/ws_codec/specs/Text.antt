-- Texts of saved workspaces.
use Rattle.std.specs.Prelude.{◌≡◌, ◌⊎◌, [], ℕ, List}
use Rattle.apl_workspace.specs.Meaning.{NameTable}
use Rattle.apl_workspace.specs.declared.remake.Remake.{Remake}
use Rattle.ws_codec.specs.SavedText.{first_version, second_version}
use Rattle.ws_codec.specs.Sound.{CanBeSaved}

-- bytes are the text of objects and offers that saved bytes can hold: that of version 2, or where there are no offers that of version 1
pub record IsSavedText (bytes : List ℕ) : Type 0 where
  pub table : NameTable
  pub offers : List Remake
  pub sound : CanBeSaved table offers
  pub spelled : (bytes ≡ second_version table offers) ⊎ ((bytes ≡ first_version table) × (offers ≡ []))
