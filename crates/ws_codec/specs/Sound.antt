-- What saved bytes can hold: objects and offers, each of which may stand behind those before it.
use Rattle.std.specs.Prelude.{◌≡◌, ◌+◌, ◌<◌, ◌++◌, ◌∷◌, [], ℕ, true, List, Some, FitsSigned, is_none, length, nat_le}
use Rattle.std.specs.Int.{w64}
use Rattle.std.specs.List.{AllByRecursion, list_all}
use Rattle.apl_arrays.specs.Array.{PlainArray, PlainItems, numbers, chars, element_count, item_count}
use Rattle.apl_arrays.specs.Limits.{most_axes, most_line_glyphs, most_offers}
use Rattle.apl_arrays.specs.Name.{is_name}
use Rattle.apl_arrays.specs.Shape.{is_small, shape_fault}
use Rattle.apl_workspace.specs.Function.{PlainFunction}
use Rattle.apl_workspace.specs.Header.{header_of}
use Rattle.apl_workspace.specs.Limits.{most_function_lines, most_weight}
use Rattle.apl_workspace.specs.Meaning.{NameTable, table_weight}
use Rattle.apl_workspace.specs.Workspace.{is_addressee}
use Rattle.apl_workspace.specs.declared.meaning.Meaning.{Meaning}
use Rattle.apl_workspace.specs.declared.meaning.Meaning.TheVariants.{Nothing, Value, Function, Label, Shared}
use Rattle.apl_workspace.specs.declared.remake.Remake.{Remake}
use Rattle.ws_codec.specs.Fields.{is_code}
use Rattle.ws_codec.specs.Functions.{glyph_count, is_within}
use Rattle.ws_codec.specs.Objects.{is_above, last_name}
use Rattle.ws_codec.specs.Offers.{is_free}

-- each thing may stand behind those before it
abbrev pub Follow : {A : Type 0} → (List A → A → Type 0) → List A → List A → Type 0
Follow fits front [] = Unit {0}
Follow fits front (x ∷ xs) = fits front x × Follow fits (front ++ x ∷ []) xs

-- bytes
abbrev pub AreBytes : List ℕ → Type 0
AreBytes bytes = AllByRecursion (λ byte. byte < 256) bytes

-- numbers of 64 bits, or codes of glyphs
abbrev pub AreItems : PlainItems → Type 0
AreItems (numbers list) = Follow (λ front number. FitsSigned w64 number) [] list
AreItems (chars list) = list_all is_code list ≡ true

-- a variable that may stand behind objects of this weight
pub record IsVariable (weight : ℕ) (value : PlainArray) : Type 0 where
  pub rank : nat_le (length value.shape) most_axes ≡ true
  pub axes : Follow (λ front axis. is_small axis ≡ true) [] value.shape
  pub shape : is_none (shape_fault value.shape) ≡ true
  pub light : nat_le (weight + (1 + element_count value.shape)) most_weight ≡ true
  pub whole : element_count value.shape ≡ item_count value.items
  pub items : AreItems value.items

-- a header or a line that may stand behind what weighs so much
pub record IsLineOfFunction (weight : ℕ) (line : List ℕ) : Type 0 where
  pub within : is_within most_line_glyphs weight (length line) ≡ true
  pub coded : list_all is_code line ≡ true

-- a function of this name that may stand behind objects of this weight
pub record IsDefined (name : List ℕ) (weight : ℕ) (function : PlainFunction) : Type 0 where
  pub text : IsLineOfFunction (weight + 1) function.text
  pub header : header_of function.text ≡ Some function.header
  pub named : function.header.name ≡ name
  pub count : is_within most_function_lines (weight + 1 + length function.text) (length function.lines) ≡ true
  pub lines : Follow (λ front line. IsLineOfFunction (weight + 1 + length function.text + length function.lines + glyph_count front) line) [] function.lines

-- what an object of this name may be, behind objects of this weight
abbrev pub IsMeaning : List ℕ → ℕ → Meaning → Type 0
IsMeaning name weight Nothing = ⊥
IsMeaning name weight (Value value) = IsVariable weight value
IsMeaning name weight (Function function) = IsDefined name weight function
IsMeaning name weight (Label line) = ⊥
IsMeaning name weight (Shared copy) = ⊥

-- an object that may stand behind others: its name is one, and above theirs
pub record IsObject (front : NameTable) (object : List ℕ × Meaning) : Type 0 where
  pub name : is_name object.0 ≡ true
  pub above : is_above (last_name front) object.0 ≡ true
  pub meaning : IsMeaning object.0 (table_weight front) object.1

-- an offer that may stand behind others, beside these objects
pub record IsOffer (table : NameTable) (front : List Remake) (offer : Remake) : Type 0 where
  pub local : is_name offer.local ≡ true
  pub free : is_free table front offer.local ≡ true
  pub surrogate : is_name offer.surrogate ≡ true
  pub to : is_addressee offer.to ≡ true

-- objects and offers that saved bytes can hold
pub record CanBeSaved (table : NameTable) (remakes : List Remake) : Type 0 where
  pub count : length table < 4294967296
  pub objects : Follow IsObject [] table
  pub few : nat_le (length remakes) most_offers ≡ true
  pub offers : Follow (IsOffer table) [] remakes
