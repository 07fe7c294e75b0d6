-- What names stand for, tables of names, and what they weigh.
use Rattle.std.specs.Prelude.{◌≡◌, ◌<◌, ◌≤◌, ◌+◌, ℕ, Bool, true, false, List, Option, Some, None, IfSome, fold, sum_by, unwrap_or}
use Rattle.std.specs.Option.{option_map}
use Rattle.std.specs.Map.{keys_of, lookup, remove_entry, values_of}
use Rattle.std.specs.List.Sorted.{IsStrictlySortedBy}
use Rattle.std.specs.BTreeMap.{insert_entry}
use Rattle.apl_arrays.specs.Array.{PlainArray, item_count}
use Rattle.apl_arrays.specs.declared.report.Fail.{Fail}
use Rattle.apl_arrays.specs.declared.report.Fail.TheVariants.{Report, WantOfMemory}
use Rattle.apl_arrays.specs.declared.report.Report.TheVariants.{WsFull}
use Rattle.apl_workspace.specs.Function.{IsFunction, function_weight}
use Rattle.apl_workspace.specs.Limits.{most_weight}
use Rattle.apl_arrays.specs.Name.{name_order, same_name}
use Rattle.apl_workspace.specs.declared.meaning.Meaning.{Meaning}
use Rattle.apl_workspace.specs.declared.meaning.Meaning.TheVariants.{Nothing, Value, Function, Label, Shared}

-- what a value weighs: one, and its items
abbrev pub value_weight : PlainArray → ℕ
value_weight value = 1 + item_count value.items

-- what a name weighs by what it stands for; a label, and a name without a value, weigh nothing
abbrev pub meaning_weight : Meaning → ℕ
meaning_weight Nothing = 0
meaning_weight (Value value) = value_weight value
meaning_weight (Function function) = function_weight function
meaning_weight (Label line) = 0
meaning_weight (Shared None) = 0
meaning_weight (Shared (Some value)) = value_weight value

-- it is a shared variable
abbrev pub is_shared_meaning : Meaning → Bool
is_shared_meaning Nothing = false
is_shared_meaning (Value value) = false
is_shared_meaning (Function function) = false
is_shared_meaning (Label line) = false
is_shared_meaning (Shared copy) = true

-- it is a function
abbrev pub is_function_meaning : Meaning → Bool
is_function_meaning Nothing = false
is_function_meaning (Value value) = false
is_function_meaning (Function function) = true
is_function_meaning (Label line) = false
is_function_meaning (Shared copy) = false

-- it is a variable, shared or not
abbrev pub is_variable_meaning : Meaning → Bool
is_variable_meaning Nothing = false
is_variable_meaning (Value value) = true
is_variable_meaning (Function function) = false
is_variable_meaning (Label line) = false
is_variable_meaning (Shared copy) = true

-- the own copy of the value of a shared variable
abbrev pub shared_copy : Meaning → Option PlainArray
shared_copy Nothing = None
shared_copy (Value value) = None
shared_copy (Function function) = None
shared_copy (Label line) = None
shared_copy (Shared copy) = copy

-- a function that a name stands for keeps its limits and has that name
abbrev pub IsWhole : List ℕ → Meaning → Type 0
IsWhole name Nothing = Unit {0}
IsWhole name (Value value) = Unit {0}
IsWhole name (Function function) = IsFunction function × (function.header.name ≡ name)
IsWhole name (Label line) = Unit {0}
IsWhole name (Shared copy) = Unit {0}

-- what a name stands for that has this value, or none yet
abbrev pub meaning_of : Option PlainArray → Meaning
meaning_of None = Nothing
meaning_of (Some value) = Value value

-- a global name stands for a value, for a share, or for a function of that name that keeps its limits
abbrev pub IsGlobal : List ℕ → Meaning → Type 0
IsGlobal name Nothing = ⊥
IsGlobal name (Value value) = Unit {0}
IsGlobal name (Function function) = IsFunction function × (function.header.name ≡ name)
IsGlobal name (Label line) = ⊥
IsGlobal name (Shared copy) = Unit {0}

-- a local name stands for a value, for a line, or for nothing yet
abbrev pub IsLocal : Meaning → Type 0
IsLocal Nothing = Unit {0}
IsLocal (Value value) = Unit {0}
IsLocal (Function function) = ⊥
IsLocal (Label line) = Unit {0}
IsLocal (Shared copy) = ⊥

-- names in their order, each with what it stands for
abbrev pub NameTable : Type 0
NameTable = List (List ℕ × Meaning)

-- what a name stands for in a table, where the table has it
abbrev pub meaning_in : NameTable → List ℕ → Option Meaning
meaning_in names name = lookup (same_name name) names

-- the table with a name that stands for this; all other names stay
abbrev pub with_meaning : NameTable → List ℕ → Meaning → NameTable
with_meaning names name meaning = insert_entry name_order names name meaning

-- the table without a name; all other names stay
abbrev pub without_name : NameTable → List ℕ → NameTable
without_name names name = remove_entry (same_name name) names

-- the table without these names; all other names stay
abbrev pub without_names : NameTable → List (List ℕ) → NameTable
without_names names gone = fold without_name names gone

-- a name has this value, or is not there
abbrev pub with_value_or_none : NameTable → List ℕ → Option PlainArray → NameTable
with_value_or_none names name None = without_name names name
with_value_or_none names name (Some value) = with_meaning names name (Value value)

-- the own copy of a shared name in a table
abbrev pub own_copy_in : NameTable → List ℕ → Option PlainArray
own_copy_in names name = shared_copy (unwrap_or (meaning_in names name) Nothing)

-- a name is shared in a table
abbrev pub is_shared_in : NameTable → List ℕ → Bool
is_shared_in names name = is_shared_meaning (unwrap_or (meaning_in names name) Nothing)

-- what a table weighs
abbrev pub table_weight : NameTable → ℕ
table_weight names = sum_by meaning_weight (values_of names)

-- names ascend, each once, functions are whole, and all weigh so much, which is not more than a workspace may
pub record IsTable (weight : ℕ) (names : NameTable) : Type 0 where
  pub counted : weight ≡ table_weight names
  pub within : weight ≤ most_weight
  pub ascending : IsStrictlySortedBy name_order (keys_of names)
  pub whole : (name : List ℕ) → IfSome (meaning_in names name) (IsWhole name)

-- what a name weighs in a table
abbrev pub weight_in : NameTable → List ℕ → ℕ
weight_in names name = unwrap_or (option_map meaning_weight (meaning_in names name)) 0

-- why a table was not made: it would weigh more than it may, or it may weigh so much and memory ran out
abbrev pub IsFullFor : ℕ → NameTable → Fail → Type 0
IsFullFor most names (Report report) = (report ≡ WsFull) × (most < table_weight names)
IsFullFor most names WantOfMemory = table_weight names ≤ most
