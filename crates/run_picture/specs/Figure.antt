-- What is drawn, as tags.
use Rattle.std.specs.Prelude.{ℕ, ◌*◌, List, [], ◌∷◌, ◌++◌, codes, length}
use Rattle.run_picture.specs.Layout.{advance}
use Rattle.run_picture.specs.Tag.{Attribute, Tag, single, size_of, word_of, worded}

-- how a thing is drawn
abbrev pub style : List ℕ → Attribute
style name = word_of (codes "class") name

-- words from a place on, 7 pixels a glyph
abbrev pub words : List ℕ → ℕ → ℕ → List ℕ → Tag
words style_name x y text =
    worded (codes "text") (style style_name ∷ size_of (codes "x") x ∷ size_of (codes "y") y ∷ size_of (codes "textLength") (advance * length text) ∷ []) text

-- words up to a place
abbrev pub words_up_to : List ℕ → ℕ → ℕ → List ℕ → Tag
words_up_to style_name x y text = worded (codes "text") (style style_name ∷ size_of (codes "x") x ∷ size_of (codes "y") y ∷ []) text

-- a line from one point to another
abbrev pub stroke : List ℕ → ℕ → ℕ → ℕ → ℕ → Tag
stroke style_name x1 y1 x2 y2 =
    single (codes "line") (style style_name ∷ size_of (codes "x1") x1 ∷ size_of (codes "y1") y1 ∷ size_of (codes "x2") x2 ∷ size_of (codes "y2") y2 ∷ [])

-- a bar: its upper left corner, its width and its height
abbrev pub bar_at : List ℕ → ℕ → ℕ → ℕ → ℕ → Tag
bar_at style_name x y width height =
    single (codes "rect") (style style_name ∷ size_of (codes "x") x ∷ size_of (codes "y") y ∷ size_of (codes "width") width ∷ size_of (codes "height") height ∷ [])

-- a mark at a point
abbrev pub mark_at : List ℕ → List ℕ → ℕ → ℕ → Tag
mark_at style_name mark x y =
    single (codes "use") (style style_name ∷ word_of (codes "href") (codes "#" ++ mark) ∷ size_of (codes "x") x ∷ size_of (codes "y") y ∷ [])
