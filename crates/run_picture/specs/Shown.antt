-- What a picture shows.
use Rattle.std.specs.Prelude.{◌≡◌, ◌+◌, ℕ, List, [], ◌∷◌, codes, if◌then◌else◌}
use Rattle.std.specs.List.{flat_map}
use Rattle.apl_arrays.specs.Name.{same_name}
use Rattle.sv_events.specs.Entry.{PlainEntry}
use Rattle.run_picture.specs.Layout.{head}
use Rattle.run_picture.specs.Picture.{bottom, picture_of, scene_of, shown_line}
use Rattle.run_picture.specs.Tag.{AreWellFormed, Attribute, Tag, begins, finishes, markup, single, worded}
use Rattle.run_picture.specs.Window.{entries_in}
use Rattle.run_picture.specs.declared.window.Window.{Window}

-- the text of words that are drawn so
abbrev pub text_if : List ℕ → List Attribute → List ℕ → List (List ℕ)
text_if style_name [] text = []
text_if style_name (attribute ∷ others) text = if same_name attribute.value style_name then text ∷ [] else []

-- the text of a tag whose words are drawn so
abbrev pub text_in : List ℕ → Tag → List (List ℕ)
text_in style_name (begins name attributes) = []
text_in style_name (finishes name) = []
text_in style_name (single name attributes) = []
text_in style_name (worded name attributes text) = text_if style_name attributes text

-- the texts of all words that are drawn so, in order
abbrev pub texts_of : List ℕ → List Tag → List (List ℕ)
texts_of style_name tags = flat_map (text_in style_name) tags

-- the lines of entries at their places, which count on from this one
abbrev pub lines_from : ℕ → List PlainEntry → List (List ℕ)
lines_from place [] = []
lines_from place (e ∷ entries) = shown_line place e ∷ lines_from (place + 1) entries

-- the tags of a picture of the entries of a window
abbrev pub picture_tags : Window → List PlainEntry → List Tag
picture_tags window journal = picture_of (entries_in window journal) window (scene_of window journal) (bottom (scene_of window journal) head (entries_in window journal))

-- the bytes of the picture: a tag is a line
abbrev pub picture_text : Window → List PlainEntry → List ℕ
picture_text window journal = markup (picture_tags window journal)

-- each entry of the window stands in the tags once, in its order, and no other does
abbrev pub ShowEachOnce : Window → List PlainEntry → List Tag → Type 0
ShowEachOnce window journal tags = texts_of (codes "entry") tags ≡ lines_from window.first (entries_in window journal)

-- the bytes are those of tags that are well formed, and that show each entry once, by its line or the front of it
pub record IsPicture (window : Window) (journal : List PlainEntry) (bytes : List ℕ) : Type 0 where
  pub text : bytes ≡ picture_text window journal
  pub formed : AreWellFormed (picture_tags window journal)
  pub each : ShowEachOnce window journal (picture_tags window journal)
