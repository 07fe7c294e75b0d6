-- Saved objects: names in their order, with what they stand for.
use Rattle.std.specs.Prelude.{◌==◌, ◌∷◌, [], ℕ, Bool, true, List, Option, Some, None, Ok, length, if◌then◌else◌}
use Rattle.std.specs.Ordering.{is_lt}
use Rattle.apl_arrays.specs.Name.{name_order}
use Rattle.apl_workspace.specs.Meaning.{NameTable, table_weight}
use Rattle.apl_workspace.specs.declared.meaning.Meaning.{Meaning}
use Rattle.apl_workspace.specs.declared.meaning.Meaning.TheVariants.{Value, Function}
use Rattle.ws_codec.specs.Fields.{read_byte, read_name, read_number}
use Rattle.ws_codec.specs.Functions.{read_function}
use Rattle.ws_codec.specs.Reading.{Reader, ◌>>=◌, read_more, keeps, required, repeated}
use Rattle.ws_codec.specs.Values.{read_char_array, read_number_array}
use Rattle.ws_codec.specs.declared.kind.ObjectKind.{ObjectKind}
use Rattle.ws_codec.specs.declared.kind.ObjectKind.TheVariants.{Numbers, Chars, Defined}
use Rattle.ws_codec.specs.declared.saved.SavedRule.TheVariants.{Kind as KindRule, Order}

-- the kind that a byte tells: 1 for a variable of numbers, 2 for one of characters, 3 for a function
abbrev pub kind_of_byte : ℕ → Option ObjectKind
kind_of_byte byte = if byte == 1 then Some Numbers else if byte == 2 then Some Chars else if byte == 3 then Some Defined else None

-- a kind
unfoldable pub read_kind : Reader ObjectKind
read_kind rest = do
  byte ← read_byte rest
  kind ← required (kind_of_byte byte.0) KindRule (length rest)
  Ok (kind, byte.1)

-- the last name of a table, where it has one
abbrev pub last_name : NameTable → Option (List ℕ)
last_name [] = None
last_name (entry ∷ []) = Some entry.0
last_name (entry ∷ next ∷ entries) = last_name (next ∷ entries)

-- the name stands above the one before it, where there is one
abbrev pub is_above : Option (List ℕ) → List ℕ → Bool
is_above None name = true
is_above (Some before) name = is_lt (name_order before name)

-- what the object of a kind and a name is, behind objects of this weight
unfoldable pub read_meaning : ObjectKind → List ℕ → ℕ → Reader (List ℕ × Meaning)
read_meaning Numbers name weight rest = read_number_array weight rest >>= λ found. Ok ((name, Value found.0), found.1)
read_meaning Chars name weight rest = read_char_array weight rest >>= λ found. Ok ((name, Value found.0), found.1)
read_meaning Defined name weight rest = read_function name weight rest >>= λ found. Ok ((name, Function found.0), found.1)

-- an object behind others: its kind, its name and what it is
unfoldable pub object_behind : NameTable → Reader (List ℕ × Meaning)
object_behind table rest = do
  kind ← read_kind rest
  name ← read_name kind.1
  above ← keeps (is_above (last_name table) name.0) Order (length kind.1)
  read_meaning kind.0 name.0 (table_weight table) name.1

-- the objects with one more
abbrev pub read_next_object : NameTable → Reader NameTable
read_next_object table rest = read_more table (object_behind table rest)

-- how many objects, and the objects
unfoldable pub read_objects : Reader NameTable
read_objects rest = do
  count ← read_number 4 rest
  repeated read_next_object count.0 [] count.1
