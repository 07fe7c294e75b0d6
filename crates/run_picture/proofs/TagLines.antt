-- The line of a tag, part by part.
use Rattle.std.proofs.Common.{◌≡◌, ◌*◌, ℕ, List, [], ◌∷◌, ◌++◌, codes, length, append_assoc, append-nil, Result, sym, ap, ◌∙◌}
use Rattle.std.specs.List.{flat_map}
use Rattle.std.specs.Result.{OnOk}
use Rattle.std.proofs.lemmas.Result.{on_ok_weaker}
use Rattle.std.proofs.lemmas.List.Concat.{flat_map-append}
use Rattle.apl_arrays.specs.Glyph.{greater}
use Rattle.line_text.specs.Lines.{line_text}
use Rattle.run_picture.specs.Escape.{escaped}
use Rattle.run_picture.specs.Figure.{bar_at, mark_at, stroke, style, words, words_up_to}
use Rattle.run_picture.specs.Tag.{Attribute, Tag, attribute_text, finish_text, front_text, markup, size_of, tag_text, word_of}

-- a front and its attributes, with more of them behind
fronts : (name : List ℕ) (attributes more : List Attribute) → front_text name attributes ++ flat_map attribute_text more ≡ front_text name (attributes ++ more)
fronts name attributes more =
    ap (λ (text : List ℕ). 60 ∷ text) (append_assoc name (flat_map attribute_text attributes) (flat_map attribute_text more)
    ∙ ap (λ (text : List ℕ). name ++ text) (sym (flat_map-append attribute_text attributes more)))

-- an attribute more
pub one_more : (line next name : List ℕ) (attributes : List Attribute) (one : Attribute) → line ≡ front_text name attributes → next ≡ line ++ attribute_text one → next ≡ front_text name (attributes ++ one ∷ [])
one_more line next name attributes one first second =
    second
    ∙ (ap (λ (text : List ℕ). text ++ attribute_text one) first
    ∙ (ap (λ (text : List ℕ). front_text name attributes ++ text) (sym (append-nil (attribute_text one)))
    ∙ fronts name attributes (one ∷ [])))

-- two attributes more
pub two_more : (line next name : List ℕ) (attributes : List Attribute) (one other : Attribute) → line ≡ front_text name attributes → next ≡ line ++ (attribute_text one ++ attribute_text other) → next ≡ front_text name (attributes ++ one ∷ other ∷ [])
two_more line next name attributes one other first second =
    second
    ∙ (ap (λ (text : List ℕ). text ++ (attribute_text one ++ attribute_text other)) first
    ∙ (ap (λ (text : List ℕ). front_text name attributes ++ (attribute_text one ++ text)) (sym (append-nil (attribute_text other)))
    ∙ fronts name attributes (one ∷ other ∷ [])))

-- a line that begins with a front
pub begun : (line next front : List ℕ) → line ≡ [] → next ≡ line ++ front → next ≡ front
begun line next front none first = first ∙ ap (λ (text : List ℕ). text ++ front) none

-- what ends it
pub ended : (line next front last : List ℕ) → line ≡ front → next ≡ line ++ last → next ≡ front ++ last
ended line next front last first second = second ∙ ap (λ (text : List ℕ). text ++ last) first

-- a tag's line
pub one_tag : (bytes next line : List ℕ) (tag : Tag) → line ≡ tag_text tag → next ≡ bytes ++ line_text line → next ≡ bytes ++ markup (tag ∷ [])
one_tag bytes next line tag is first =
    first
    ∙ (ap (λ (text : List ℕ). bytes ++ line_text text) is
    ∙ ap (λ (text : List ℕ). bytes ++ text) (sym (append-nil (line_text (tag_text tag)))))

-- a tag's line, where its adding is told
pub told_so : {T E : Type 0} (told : Result T E) (bytes next line : List ℕ) (tag : Tag) → line ≡ tag_text tag → OnOk told (next ≡ bytes ++ line_text line) → OnOk told (next ≡ bytes ++ markup (tag ∷ []))
told_so told bytes next line tag is first = on_ok_weaker told (λ (e : next ≡ bytes ++ line_text line). one_tag bytes next line tag is e) first

pub words_told : (l0 l1 l2 l3 l4 name text : List ℕ) (x y width : ℕ) → l0 ≡ [] → l1 ≡ l0 ++ front_text (codes "text") (style name ∷ []) → l2 ≡ l1 ++ (attribute_text (size_of (codes "x") x) ++ attribute_text (size_of (codes "y") y)) → width ≡ 7 * length text → l3 ≡ l2 ++ attribute_text (size_of (codes "textLength") width) → l4 ≡ l3 ++ (greater ∷ (escaped text ++ finish_text (codes "text"))) → l4 ≡ tag_text (words name x y text)
words_told l0 l1 l2 l3 l4 name text x y width e0 e1 e2 wide e3 e4 =
    let before : l2 ≡ front_text (codes "text") (style name ∷ size_of (codes "x") x ∷ size_of (codes "y") y ∷ []) = two_more l1 l2 (codes "text") (style name ∷ []) (size_of (codes "x") x) (size_of (codes "y") y) (begun l0 l1 (front_text (codes "text") (style name ∷ [])) e0 e1) e2 in
    let sized : l3 ≡ l2 ++ attribute_text (size_of (codes "textLength") (7 * length text)) = e3 ∙ ap (λ (n : ℕ). l2 ++ attribute_text (size_of (codes "textLength") n)) wide in
    let front : l3 ≡ front_text (codes "text") (style name ∷ size_of (codes "x") x ∷ size_of (codes "y") y ∷ size_of (codes "textLength") (7 * length text) ∷ []) = one_more l2 l3 (codes "text") (style name ∷ size_of (codes "x") x ∷ size_of (codes "y") y ∷ []) (size_of (codes "textLength") (7 * length text)) before sized in
    ended l3 l4 (front_text (codes "text") (style name ∷ size_of (codes "x") x ∷ size_of (codes "y") y ∷ size_of (codes "textLength") (7 * length text) ∷ [])) (greater ∷ (escaped text ++ finish_text (codes "text"))) front e4

pub words_up_to_told : (l0 l1 l2 l3 name text : List ℕ) (x y : ℕ) → l0 ≡ [] → l1 ≡ l0 ++ front_text (codes "text") (style name ∷ []) → l2 ≡ l1 ++ (attribute_text (size_of (codes "x") x) ++ attribute_text (size_of (codes "y") y)) → l3 ≡ l2 ++ (greater ∷ (escaped text ++ finish_text (codes "text"))) → l3 ≡ tag_text (words_up_to name x y text)
words_up_to_told l0 l1 l2 l3 name text x y e0 e1 e2 e3 =
    ended l2 l3 (front_text (codes "text") (style name ∷ size_of (codes "x") x ∷ size_of (codes "y") y ∷ [])) (greater ∷ (escaped text ++ finish_text (codes "text"))) (two_more l1 l2 (codes "text") (style name ∷ []) (size_of (codes "x") x) (size_of (codes "y") y) (begun l0 l1 (front_text (codes "text") (style name ∷ [])) e0 e1) e2) e3

pub stroke_told : (l0 l1 l2 l3 l4 l5 l6 name : List ℕ) (x1 y1 x2 y2 : ℕ) → l0 ≡ [] → l1 ≡ l0 ++ front_text (codes "line") (style name ∷ []) → l2 ≡ l1 ++ attribute_text (size_of (codes "x1") x1) → l3 ≡ l2 ++ attribute_text (size_of (codes "y1") y1) → l4 ≡ l3 ++ attribute_text (size_of (codes "x2") x2) → l5 ≡ l4 ++ attribute_text (size_of (codes "y2") y2) → l6 ≡ l5 ++ codes "/>" → l6 ≡ tag_text (stroke name x1 y1 x2 y2)
stroke_told l0 l1 l2 l3 l4 l5 l6 name x1 y1 x2 y2 e0 e1 e2 e3 e4 e5 e6 =
    let f1 : l1 ≡ front_text (codes "line") (style name ∷ []) = begun l0 l1 (front_text (codes "line") (style name ∷ [])) e0 e1 in
    let f2 : l2 ≡ front_text (codes "line") (style name ∷ size_of (codes "x1") x1 ∷ []) = one_more l1 l2 (codes "line") (style name ∷ []) (size_of (codes "x1") x1) f1 e2 in
    let f3 : l3 ≡ front_text (codes "line") (style name ∷ size_of (codes "x1") x1 ∷ size_of (codes "y1") y1 ∷ []) = one_more l2 l3 (codes "line") (style name ∷ size_of (codes "x1") x1 ∷ []) (size_of (codes "y1") y1) f2 e3 in
    let f4 : l4 ≡ front_text (codes "line") (style name ∷ size_of (codes "x1") x1 ∷ size_of (codes "y1") y1 ∷ size_of (codes "x2") x2 ∷ []) = one_more l3 l4 (codes "line") (style name ∷ size_of (codes "x1") x1 ∷ size_of (codes "y1") y1 ∷ []) (size_of (codes "x2") x2) f3 e4 in
    let f5 : l5 ≡ front_text (codes "line") (style name ∷ size_of (codes "x1") x1 ∷ size_of (codes "y1") y1 ∷ size_of (codes "x2") x2 ∷ size_of (codes "y2") y2 ∷ []) = one_more l4 l5 (codes "line") (style name ∷ size_of (codes "x1") x1 ∷ size_of (codes "y1") y1 ∷ size_of (codes "x2") x2 ∷ []) (size_of (codes "y2") y2) f4 e5 in
    ended l5 l6 (front_text (codes "line") (style name ∷ size_of (codes "x1") x1 ∷ size_of (codes "y1") y1 ∷ size_of (codes "x2") x2 ∷ size_of (codes "y2") y2 ∷ [])) (codes "/>") f5 e6

pub bar_told : (l0 l1 l2 l3 l4 l5 : List ℕ) (x y width height : ℕ) → l0 ≡ [] → l1 ≡ l0 ++ front_text (codes "rect") (style (codes "hold") ∷ []) → l2 ≡ l1 ++ (attribute_text (size_of (codes "x") x) ++ attribute_text (size_of (codes "y") y)) → l3 ≡ l2 ++ attribute_text (size_of (codes "width") width) → l4 ≡ l3 ++ attribute_text (size_of (codes "height") height) → l5 ≡ l4 ++ codes "/>" → l5 ≡ tag_text (bar_at (codes "hold") x y width height)
bar_told l0 l1 l2 l3 l4 l5 x y width height e0 e1 e2 e3 e4 e5 =
    let f1 : l1 ≡ front_text (codes "rect") (style (codes "hold") ∷ []) = begun l0 l1 (front_text (codes "rect") (style (codes "hold") ∷ [])) e0 e1 in
    let f2 : l2 ≡ front_text (codes "rect") (style (codes "hold") ∷ size_of (codes "x") x ∷ size_of (codes "y") y ∷ []) = two_more l1 l2 (codes "rect") (style (codes "hold") ∷ []) (size_of (codes "x") x) (size_of (codes "y") y) f1 e2 in
    let f3 : l3 ≡ front_text (codes "rect") (style (codes "hold") ∷ size_of (codes "x") x ∷ size_of (codes "y") y ∷ size_of (codes "width") width ∷ []) = one_more l2 l3 (codes "rect") (style (codes "hold") ∷ size_of (codes "x") x ∷ size_of (codes "y") y ∷ []) (size_of (codes "width") width) f2 e3 in
    let f4 : l4 ≡ front_text (codes "rect") (style (codes "hold") ∷ size_of (codes "x") x ∷ size_of (codes "y") y ∷ size_of (codes "width") width ∷ size_of (codes "height") height ∷ []) = one_more l3 l4 (codes "rect") (style (codes "hold") ∷ size_of (codes "x") x ∷ size_of (codes "y") y ∷ size_of (codes "width") width ∷ []) (size_of (codes "height") height) f3 e4 in
    ended l4 l5 (front_text (codes "rect") (style (codes "hold") ∷ size_of (codes "x") x ∷ size_of (codes "y") y ∷ size_of (codes "width") width ∷ size_of (codes "height") height ∷ [])) (codes "/>") f4 e5

pub mark_told : (l0 l1 l2 l3 l4 name mark : List ℕ) (x y : ℕ) → l0 ≡ [] → l1 ≡ l0 ++ front_text (codes "use") (style name ∷ []) → l2 ≡ l1 ++ attribute_text (word_of (codes "href") (codes "#" ++ mark)) → l3 ≡ l2 ++ (attribute_text (size_of (codes "x") x) ++ attribute_text (size_of (codes "y") y)) → l4 ≡ l3 ++ codes "/>" → l4 ≡ tag_text (mark_at name mark x y)
mark_told l0 l1 l2 l3 l4 name mark x y e0 e1 e2 e3 e4 =
    let f1 : l1 ≡ front_text (codes "use") (style name ∷ []) = begun l0 l1 (front_text (codes "use") (style name ∷ [])) e0 e1 in
    let f2 : l2 ≡ front_text (codes "use") (style name ∷ word_of (codes "href") (codes "#" ++ mark) ∷ []) = one_more l1 l2 (codes "use") (style name ∷ []) (word_of (codes "href") (codes "#" ++ mark)) f1 e2 in
    let f3 : l3 ≡ front_text (codes "use") (style name ∷ word_of (codes "href") (codes "#" ++ mark) ∷ size_of (codes "x") x ∷ size_of (codes "y") y ∷ []) = two_more l2 l3 (codes "use") (style name ∷ word_of (codes "href") (codes "#" ++ mark) ∷ []) (size_of (codes "x") x) (size_of (codes "y") y) f2 e3 in
    ended l3 l4 (front_text (codes "use") (style name ∷ word_of (codes "href") (codes "#" ++ mark) ∷ size_of (codes "x") x ∷ size_of (codes "y") y ∷ [])) (codes "/>") f3 e4
