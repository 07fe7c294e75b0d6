-- Values that no part has taken yet, as arrays.
use Rattle.std.specs.Prelude.{List, [], ◌∷◌, Option, Some, None, IsSome, slice_get, unwrap_or}
use Rattle.apl_arrays.specs.Array.{PlainArray, chars}
use Rattle.apl_workspace.specs.Workspace.{PlainWorkspace, look}
use Rattle.apl_meaning.specs.Deeds.{value_of}
use Rattle.apl_values.specs.declared.part.Part.{Part}
use Rattle.apl_values.specs.declared.part.Part.TheVariants as part
use Rattle.apl_values.specs.declared.values.StackValue.{StackValue}
use Rattle.apl_values.specs.declared.values.StackValue.TheVariants as held

-- no characters, in the place of a value that is no array; no machine holds one
abbrev pub no_array : PlainArray
no_array = record { shape = 0 ∷ []; items = chars [] }

-- the array of a part that is a constant
abbrev pub constant_of : Option Part → Option PlainArray
constant_of None = None
constant_of (Some (part.Constant array)) = Some array
constant_of (Some (part.Other other)) = None

-- the array that a value is, if it is one: the one that was made, a constant, or the value that a name has now, a shared one its own copy
abbrev pub array_held : PlainWorkspace → List Part → StackValue → Option PlainArray
array_held w parts (held.Made array) = Some array
array_held w parts (held.Constant at) = constant_of (slice_get parts at)
array_held w parts (held.Named name) = value_of (look w name)

-- the array that a value is
abbrev pub stack_value : PlainWorkspace → List Part → StackValue → PlainArray
stack_value w parts value = unwrap_or (array_held w parts value) no_array

-- the value is an array. On an empty workspace no name has one, so there it says that the value is not a name's
abbrev pub IsStackValue : PlainWorkspace → List Part → StackValue → Type 0
IsStackValue w parts value = IsSome (array_held w parts value)

-- a value that is a name's has one
abbrev pub NameHasValue : PlainWorkspace → StackValue → Type 0
NameHasValue w (held.Made array) = Unit {0}
NameHasValue w (held.Constant at) = Unit {0}
NameHasValue w (held.Named name) = IsSome (value_of (look w name))

-- a value before the workspace changes: one that a name has is made an array
abbrev pub settled : PlainWorkspace → StackValue → StackValue
settled w (held.Made array) = held.Made array
settled w (held.Constant at) = held.Constant at
settled w (held.Named name) = held.Made (unwrap_or (value_of (look w name)) no_array)
