-- Markup, tag by tag.
use Rattle.std.specs.Prelude.{◌≡◌, ◌≢◌, ℕ, List, [], ◌∷◌, ◌++◌, All, decimal, Option, Some, None, option_and_then, if◌then◌else◌}
use Rattle.std.specs.List.{flat_map}
use Rattle.apl_arrays.specs.Glyph.{blank, equal, greater, less, slash}
use Rattle.apl_arrays.specs.Name.{same_name}
use Rattle.line_text.specs.Lines.{line_text}
use Rattle.run_picture.specs.Escape.{ampersand, escaped}

-- "
abbrev pub double_quote : ℕ
double_quote = 34

-- a name with its value
pub record Attribute : Type 0 where
  pub name : List ℕ
  pub value : List ℕ

-- a tag: one that begins what a later one finishes, one by itself, or one with a text
pub data Tag : Type 0 where
  begins : List ℕ → List Attribute → Tag
  finishes : List ℕ → Tag
  single : List ℕ → List Attribute → Tag
  worded : List ℕ → List Attribute → List ℕ → Tag

-- an attribute that is a word
abbrev pub word_of : List ℕ → List ℕ → Attribute
word_of name value = record { name = name; value = value }

-- an attribute that is a number
abbrev pub size_of : List ℕ → ℕ → Attribute
size_of name size = word_of name (decimal size)

-- an attribute, behind a blank
abbrev pub attribute_text : Attribute → List ℕ
attribute_text attribute = blank ∷ (attribute.name ++ (equal ∷ double_quote ∷ (attribute.value ++ double_quote ∷ [])))

-- the front of a tag: its name and its attributes
abbrev pub front_text : List ℕ → List Attribute → List ℕ
front_text name attributes = less ∷ (name ++ flat_map attribute_text attributes)

-- what finishes a name
abbrev pub finish_text : List ℕ → List ℕ
finish_text name = less ∷ slash ∷ (name ++ greater ∷ [])

-- a tag in a line of its own; its text stands there escaped
abbrev pub tag_text : Tag → List ℕ
tag_text (begins name attributes) = front_text name attributes ++ greater ∷ []
tag_text (finishes name) = finish_text name
tag_text (single name attributes) = front_text name attributes ++ slash ∷ greater ∷ []
tag_text (worded name attributes text) = front_text name attributes ++ (greater ∷ (escaped text ++ finish_text name))

-- tags, each in its line
abbrev pub markup : List Tag → List ℕ
markup tags = flat_map (λ tag. line_text (tag_text tag)) tags

-- the names that are left open where one is finished: the last one, and no other
abbrev pub finished : List (List ℕ) → List ℕ → Option (List (List ℕ))
finished [] name = None
finished (last ∷ open') name = if same_name last name then Some open' else None

-- the names that are open behind a tag
abbrev pub open_behind : List (List ℕ) → Tag → Option (List (List ℕ))
open_behind open' (begins name attributes) = Some (name ∷ open')
open_behind open' (finishes name) = finished open' name
open_behind open' (single name attributes) = Some open'
open_behind open' (worded name attributes text) = Some open'

-- the names that are open behind tags, one after another
abbrev pub open_behind_all : List (List ℕ) → List Tag → Option (List (List ℕ))
open_behind_all open' [] = Some open'
open_behind_all open' (tag ∷ tags) = option_and_then (λ now. open_behind_all now tags) (open_behind open' tag)

-- each tag that begins is finished, the innermost first
abbrev pub AreNested : List Tag → Type 0
AreNested tags = open_behind_all [] tags ≡ Some []

-- a value of an attribute ends at the next quote, and begins no tag and no name of a glyph
abbrev pub IsPlainValue : Attribute → Type 0
IsPlainValue attribute = All (λ code. (code ≢ double_quote) × (code ≢ less) × (code ≢ ampersand)) attribute.value

-- the attributes of a tag
abbrev pub attributes_of : Tag → List Attribute
attributes_of (begins name attributes) = attributes
attributes_of (finishes name) = []
attributes_of (single name attributes) = attributes
attributes_of (worded name attributes text) = attributes

-- the tags are nested, and their values end where they do
pub record AreWellFormed (tags : List Tag) : Type 0 where
  pub nested : AreNested tags
  pub values : All (λ tag. All IsPlainValue (attributes_of tag)) tags
