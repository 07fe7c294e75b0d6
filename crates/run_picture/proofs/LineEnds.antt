-- The ends of lines between lanes, as they stand in markup.
use Rattle.std.proofs.Common.{◌≡◌, [], ◌∷◌, codes, refl}
use Rattle.std.specs.Fmt.{digits}
use Rattle.run_picture.specs.Style.{line_end}
use Rattle.run_picture.specs.Tag.{Tag, single, size_of, tag_text, word_of}

-- the dot of an end
abbrev pub dot : Tag
dot = single (codes "circle") (word_of (codes "class") (codes "dot") ∷ size_of (codes "cx") 4 ∷ size_of (codes "cy") 4 ∷ size_of (codes "r") 4 ∷ [])

pub arrow_begins : codes "<marker id=\"arrow\" refX=\"8\" refY=\"4\" markerWidth=\"8\" markerHeight=\"8\" viewBox=\"0 0 8 8\" orient=\"auto\">" ≡ tag_text (line_end (codes "arrow") 8 8)
unfolding digits
arrow_begins = refl

pub dot_begins : codes "<marker id=\"dot\" refX=\"4\" refY=\"4\" markerWidth=\"4\" markerHeight=\"4\" viewBox=\"0 0 8 8\" orient=\"auto\">" ≡ tag_text (line_end (codes "dot") 4 4)
unfolding digits
dot_begins = refl

pub dot_is : codes "<circle class=\"dot\" cx=\"4\" cy=\"4\" r=\"4\"/>" ≡ tag_text dot
unfolding digits
dot_is = refl
