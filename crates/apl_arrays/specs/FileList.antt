use Rattle.std.specs.Prelude.{ℕ, List, [], ◌∷◌, IsTrue}
use Rattle.std.specs.Ordering.{is_lt}
use Rattle.apl_arrays.specs.Name.{name_order}
use Rattle.apl_arrays.specs.declared.file_list.File.{File}

-- a file as plain data: its name and its bytes
pub record PlainFile : Type 0 where
  pub name : List ℕ
  pub bytes : List ℕ

-- a file, whatever room is left for its bytes
abbrev pub plain_file : File → PlainFile
plain_file file = record { name = file.name; bytes = file.bytes.items }

-- the names ascend by ASCII, each once
abbrev pub IsAscending : List PlainFile → Type 0
IsAscending [] = Unit {0}
IsAscending (file ∷ []) = Unit {0}
IsAscending (file ∷ next ∷ files) = IsTrue (is_lt (name_order file.name next.name)) × IsAscending (next ∷ files)
