-- The bytes of a workspace.
use Rattle.std.specs.Prelude.{◌++◌, ◌∷◌, [], ℕ, List, codes, length}
use Rattle.std.specs.Int.{w64, cast_unsigned}
use Rattle.std.specs.List.{flat_map}
use Rattle.byteorder.specs.Endian.{big_bytes}
use Rattle.apl_arrays.specs.Array.{PlainArray, PlainItems, numbers, chars}
use Rattle.apl_workspace.specs.Function.{PlainFunction}
use Rattle.apl_workspace.specs.Meaning.{NameTable}
use Rattle.apl_workspace.specs.Workspace.{PlainWorkspace}
use Rattle.apl_workspace.specs.declared.meaning.Meaning.{Meaning}
use Rattle.apl_workspace.specs.declared.meaning.Meaning.TheVariants.{Nothing, Value, Function, Label, Shared}
use Rattle.apl_workspace.specs.declared.remake.Remake.{Remake}
use Rattle.ws_codec.specs.Kept.{kept, kept_globals}

-- a name: its length in one byte, and its codes
abbrev pub name_bytes : List ℕ → List ℕ
name_bytes name = length name ∷ name

-- a header or a line: its length in two bytes, and its codes
abbrev pub line_bytes : List ℕ → List ℕ
line_bytes line = big_bytes 2 (length line) ++ line

-- the byte of the kind: 1 for numbers, 2 for characters
abbrev pub kind_byte : PlainItems → ℕ
kind_byte (numbers list) = 1
kind_byte (chars list) = 2

-- the items: a number in eight bytes, a character as its code
abbrev pub items_bytes : PlainItems → List ℕ
items_bytes (numbers list) = flat_map (λ number. big_bytes 8 (cast_unsigned w64 number)) list
items_bytes (chars list) = list

-- a variable: its rank in one byte, each axis in four, and the items
abbrev pub array_bytes : PlainArray → List ℕ
array_bytes array = length array.shape ∷ (flat_map (big_bytes 4) array.shape ++ items_bytes array.items)

-- a function: its header, how many lines in two bytes, and the lines
abbrev pub function_bytes : PlainFunction → List ℕ
function_bytes function = line_bytes function.text ++ (big_bytes 2 (length function.lines) ++ flat_map line_bytes function.lines)

-- an object: the byte of its kind, its name and what it is; 3 is the kind of a function
abbrev pub object_bytes : List ℕ → Meaning → List ℕ
object_bytes name Nothing = []
object_bytes name (Value value) = kind_byte value.items ∷ (name_bytes name ++ array_bytes value)
object_bytes name (Function function) = 3 ∷ (name_bytes name ++ function_bytes function)
object_bytes name (Label line) = []
object_bytes name (Shared copy) = []

-- what is kept of a name, as bytes
abbrev pub kept_bytes : List ℕ → Meaning → List ℕ
kept_bytes name meaning = flat_map (λ entry. object_bytes entry.0 entry.1) (kept name meaning)

-- how many objects in four bytes, and the objects
abbrev pub objects_bytes : NameTable → List ℕ
objects_bytes table = big_bytes 4 (length table) ++ flat_map (λ entry. object_bytes entry.0 entry.1) table

-- an offer: its name here, its name for others, and for whom it is in four bytes
abbrev pub offer_bytes : Remake → List ℕ
offer_bytes offer = name_bytes offer.local ++ (name_bytes offer.surrogate ++ big_bytes 4 offer.to)

-- how many offers in one byte, and the offers
abbrev pub offers_bytes : List Remake → List ℕ
offers_bytes offers = length offers ∷ flat_map offer_bytes offers

-- the four bytes in front
abbrev pub magic : List ℕ
magic = codes "APLS"

-- the bytes of objects, version 1
abbrev pub first_version : NameTable → List ℕ
first_version table = magic ++ (1 ∷ objects_bytes table)

-- the bytes of objects and offers, version 2
abbrev pub second_version : NameTable → List Remake → List ℕ
second_version table offers = magic ++ (2 ∷ (objects_bytes table ++ offers_bytes offers))

-- the bytes of a workspace and its offers
abbrev pub saved : PlainWorkspace → List ℕ
saved w = second_version (kept_globals w.globals) w.offers

-- the bytes of version 1 of a workspace without offers
abbrev pub saved1 : PlainWorkspace → List ℕ
saved1 w = first_version (kept_globals w.globals)
