-- Component files: lists of arrays, each of which is a line.
use Rattle.std.specs.Prelude.{◌≡◌, ◌-◌, ◌≤◌, ◌++◌, ◌==◌, ◌&&◌, ℕ, pos, Bool, List, [], ◌∷◌, All, Option, None, Some, drop, length, map, nat_le, nat_lt, slice_get, take, if◌then◌else◌}
use Rattle.apl_arrays.specs.Array.{PlainArray, scalar}
use Rattle.auxiliaries.specs.File.{most_file_bytes}
use Rattle.line_text.specs.Lines.{lines_text}
use Rattle.sv_text.specs.Value.{IsValue}
use Rattle.sv_text.specs.ValueText.{array_text}

-- the bytes of a file of these components: the text of each, with a line feed
abbrev pub file_bytes : List PlainArray → List ℕ
file_bytes arrays = lines_text (map array_text arrays)

-- the bytes of a file are those of these components, and no more than a file may have
pub record AreComponents (bytes : List ℕ) (arrays : List PlainArray) : Type 0 where
  pub small : length bytes ≤ most_file_bytes
  pub each : All IsValue arrays
  pub whole : bytes ≡ file_bytes arrays

-- the bytes are no component file
abbrev pub AreNoComponents : List ℕ → Type 0
AreNoComponents bytes = (arrays : List PlainArray) → ¬ AreComponents bytes arrays

-- the component of a number, from 1, where there is one
abbrev pub component : ℕ → List PlainArray → Option PlainArray
component number arrays = if number == 0 then None else slice_get arrays (number - 1)

-- what is asked of a file: the component of a number, or without a number how many there are
abbrev pub component_asked : Option ℕ → List PlainArray → Option PlainArray
component_asked None arrays = Some (scalar (pos (length arrays)))
component_asked (Some number) arrays = component number arrays

-- whether there is a component of a number
abbrev pub has_component : ℕ → List PlainArray → Bool
has_component number arrays = nat_lt 0 number && nat_le number (length arrays)

-- the components with one change: an array comes in the place of the one of a number, where there is one, or without a number it goes last
abbrev pub components_changed : Option ℕ → List PlainArray → PlainArray → Option (List PlainArray)
components_changed None arrays value = Some (arrays ++ value ∷ [])
components_changed (Some number) arrays value = if has_component number arrays then Some (take (number - 1) arrays ++ value ∷ drop number arrays) else None
