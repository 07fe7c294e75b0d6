-- How a text stands in markup, and how it is read back.
use Rattle.std.specs.Prelude.{ℕ, ◌==◌, List, [], ◌∷◌, ◌++◌, Option, Some, None, codes, if◌then◌else◌}
use Rattle.std.specs.List.{flat_map}
use Rattle.apl_arrays.specs.Glyph.{less, greater, semicolon}
use Rattle.apl_arrays.specs.Name.{same_name}

-- &
abbrev pub ampersand : ℕ
ampersand = 38

-- a glyph as it stands in a text: one that has a meaning in markup stands by its name
abbrev pub escape : ℕ → List ℕ
escape glyph =
    if glyph == ampersand then codes "&amp;"
    else (if glyph == less then codes "&lt;" else (if glyph == greater then codes "&gt;" else glyph ∷ []))

-- a text as it stands in markup
abbrev pub escaped : List ℕ → List ℕ
escaped text = flat_map escape text

-- the glyph of a name, if it is one of the three
abbrev pub named_glyph : List ℕ → List ℕ
named_glyph name =
    if same_name name (codes "amp") then ampersand ∷ []
    else (if same_name name (codes "lt") then less ∷ [] else (if same_name name (codes "gt") then greater ∷ [] else []))

-- what stands in markup, read from the front: behind & a name goes on up to ;
abbrev pub read_behind : Option (List ℕ) → List ℕ → List ℕ
read_behind name [] = []
read_behind None (glyph ∷ rest) = if glyph == ampersand then read_behind (Some []) rest else glyph ∷ read_behind None rest
read_behind (Some name) (glyph ∷ rest) =
    if glyph == semicolon then named_glyph name ++ read_behind None rest else read_behind (Some (name ++ glyph ∷ [])) rest

-- the text that stands in markup
abbrev pub read_back : List ℕ → List ℕ
read_back markup = read_behind None markup
