-- What the types of the program say of a workspace.
use Rattle.std.specs.Prelude.{◌≡◌, ℕ, true, List, Some, None, All}
use Rattle.std.specs.List.{list_all}
use Rattle.apl_arrays.specs.Array.{IsArray, PlainArray}
use Rattle.apl_arrays.specs.Name.{is_name}
use Rattle.apl_workspace.specs.Function.{PlainFunction}
use Rattle.apl_workspace.specs.Workspace.{PlainWorkspace}
use Rattle.apl_workspace.specs.declared.meaning.Meaning.{Meaning}
use Rattle.apl_workspace.specs.declared.meaning.Meaning.TheVariants.{Nothing, Value, Function, Label, Shared}
use Rattle.apl_workspace.specs.declared.remake.Remake.{Remake}
use Rattle.ws_codec.specs.Fields.{is_code}
use Rattle.ws_codec.specs.Sound.{AreItems}

-- an array, its items numbers of 64 bits or codes of glyphs
pub record IsStorableValue (value : PlainArray) : Type 0 where
  pub array : IsArray value
  pub items : AreItems value.items

-- all glyphs of a line have codes
abbrev pub IsCoded : List ℕ → Type 0
IsCoded line = list_all is_code line ≡ true

-- the header and the lines of a function are of glyphs
pub record IsOfGlyphs (function : PlainFunction) : Type 0 where
  pub text : IsCoded function.text
  pub lines : All IsCoded function.lines

-- such a value, or such a function
abbrev pub IsStorableMeaning : Meaning → Type 0
IsStorableMeaning Nothing = Unit {0}
IsStorableMeaning (Value value) = IsStorableValue value
IsStorableMeaning (Function function) = IsOfGlyphs function
IsStorableMeaning (Label line) = Unit {0}
IsStorableMeaning (Shared None) = Unit {0}
IsStorableMeaning (Shared (Some copy)) = IsStorableValue copy

-- an offer by its names
pub record HasNames (offer : Remake) : Type 0 where
  pub local : is_name offer.local ≡ true
  pub surrogate : is_name offer.surrogate ≡ true

-- a name and what it stands for
pub record IsStorableEntry (entry : List ℕ × Meaning) : Type 0 where
  pub name : is_name entry.0 ≡ true
  pub meaning : IsStorableMeaning entry.1

-- a workspace of names, of such values and of such functions
pub record IsStorable (w : PlainWorkspace) : Type 0 where
  pub globals : All IsStorableEntry w.globals
  pub offers : All HasNames w.offers
