-- Classes of names in the order of the names.
use Rattle.std.specs.Prelude.{◌==◌, ℕ, Bool, Option, Some, None, List, [], ◌∷◌, IsTrue, find, not, if◌then◌else◌}
use Rattle.std.specs.Cmp.Lexicographic.{slice_cmp, pointwise}
use Rattle.std.specs.List.{list_all}
use Rattle.std.specs.Ordering.{is_lt, nat_cmp}
use Rattle.line_trees.specs.declared.class.Class.{Class}

-- one name comes before another, glyph by glyph
abbrev pub is_before : List ℕ → List ℕ → Bool
is_before one other = is_lt (slice_cmp nat_cmp one other)

-- the names of the classes all come before a name
abbrev pub come_before : List Class → List ℕ → Bool
come_before classes n = list_all (λ class. is_before class.name n) classes

-- the names of the classes all come behind a name
abbrev pub come_behind : List Class → List ℕ → Bool
come_behind classes n = list_all (λ class. is_before n class.name) classes

-- the names of the classes ascend, each once
abbrev pub NamesAscend : List Class → Type 0
NamesAscend [] = Unit {0}
NamesAscend (class ∷ classes) = IsTrue (come_behind classes class.name) × NamesAscend classes

-- the first of the classes whose name does not come before a name
abbrev pub first_not_before : List ℕ → List Class → Option Class
first_not_before n classes = find (λ class. not (is_before class.name n)) classes

-- how many arguments a class tells, where it has this name
abbrev pub arguments_where : List ℕ → Option Class → Option ℕ
arguments_where n None = None
arguments_where n (Some class) = if pointwise ◌==◌ class.name n then Some class.arguments else None
