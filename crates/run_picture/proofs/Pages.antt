-- What stands above the entries, and the lines of it.
use Rattle.std.proofs.Common.{◌≡◌, ◌<◌, ◌+◌, ◌-◌, ℕ, Bool, cond, List, [], ◌∷◌, ◌++◌, codes, decimal, Result, append_assoc, ap, refl, subst, sym, ◌∙◌}
use Rattle.std.specs.Result.{OnOk}
use Rattle.std.proofs.lemmas.Bool.{lt-ltb}
use Rattle.run_picture.specs.Figure.{stroke, words}
use Rattle.run_picture.specs.Lane.{middle_of}
use Rattle.run_picture.specs.Picture.{lane_tags, left_out_tags, page, shown_text}
use Rattle.run_picture.specs.Tag.{Tag, attribute_text, front_text, markup, size_of, tag_text, word_of}
use Rattle.run_picture.specs.declared.window.Window.{Window}
use Rattle.run_picture.proofs.Markup.{told_behind}
use Rattle.run_picture.proofs.TagLines.{begun, ended, one_more}
use Rattle.run_picture.proofs.TagsAdded.{joined, same_words, words_as}

-- the size once more, text by text
pub view_told : (l0 l1 l2 l3 l4 l5 w h : List ℕ) → l1 ≡ l0 ++ codes " viewBox=\"0 0 " → l2 ≡ l1 ++ w → l3 ≡ l2 ++ codes " " → l4 ≡ l3 ++ h → l5 ≡ l4 ++ codes "\"" → l5 ≡ l0 ++ attribute_text (word_of (codes "viewBox") (codes "0 0 " ++ (w ++ (codes " " ++ h))))
view_told l0 l1 l2 l3 l4 l5 w h e1 e2 e3 e4 e5 =
    joined l0 l1 l5 (codes " viewBox=\"0 0 ") (w ++ (codes " " ++ (h ++ codes "\""))) e1
    (joined l1 l2 l5 w (codes " " ++ (h ++ codes "\"")) e2 (joined l2 l3 l5 (codes " ") (h ++ codes "\"") e3 (joined l3 l4 l5 h (codes "\"") e4 e5)))
    ∙ ap (λ (rest : List ℕ). l0 ++ (codes " viewBox=\"0 0 " ++ rest)) (sym (append_assoc w (codes " " ++ h) (codes "\"")))

-- the line of the page, part by part
pub page_told : (l0 l1 l2 l3 l4 l5 l6 l7 : List ℕ) (width height : ℕ) → l0 ≡ [] → l1 ≡ l0 ++ (60 ∷ codes "svg") → l2 ≡ l1 ++ attribute_text (word_of (codes "xmlns") (codes "http://www.w3.org/2000/svg")) → l3 ≡ l2 ++ attribute_text (word_of (codes "xml:space") (codes "preserve")) → l4 ≡ l3 ++ attribute_text (size_of (codes "width") width) → l5 ≡ l4 ++ attribute_text (size_of (codes "height") height) → l6 ≡ l5 ++ attribute_text (word_of (codes "viewBox") (codes "0 0 " ++ (decimal width ++ (codes " " ++ decimal height)))) → l7 ≡ l6 ++ codes ">" → l7 ≡ tag_text (page width height)
page_told l0 l1 l2 l3 l4 l5 l6 l7 width height e0 e1 e2 e3 e4 e5 e6 e7 =
    let svg = codes "svg" in
    let a = word_of (codes "xmlns") (codes "http://www.w3.org/2000/svg") in
    let b = word_of (codes "xml:space") (codes "preserve") in
    let w = size_of (codes "width") width in
    let h = size_of (codes "height") height in
    let v = word_of (codes "viewBox") (codes "0 0 " ++ (decimal width ++ (codes " " ++ decimal height))) in
    let f1 : l1 ≡ front_text svg [] = begun l0 l1 (front_text svg []) e0 e1 in
    let f2 : l2 ≡ front_text svg (a ∷ []) = one_more l1 l2 svg [] a f1 e2 in
    let f3 : l3 ≡ front_text svg (a ∷ b ∷ []) = one_more l2 l3 svg (a ∷ []) b f2 e3 in
    let f4 : l4 ≡ front_text svg (a ∷ b ∷ w ∷ []) = one_more l3 l4 svg (a ∷ b ∷ []) w f3 e4 in
    let f5 : l5 ≡ front_text svg (a ∷ b ∷ w ∷ h ∷ []) = one_more l4 l5 svg (a ∷ b ∷ w ∷ []) h f4 e5 in
    let f6 : l6 ≡ front_text svg (a ∷ b ∷ w ∷ h ∷ v ∷ []) = one_more l5 l6 svg (a ∷ b ∷ w ∷ h ∷ []) v f5 e6 in
    ended l6 l7 (front_text svg (a ∷ b ∷ w ∷ h ∷ v ∷ [])) (codes ">") f6 e7

-- which entries are shown, text by text
pub shown_told : (l0 l1 l2 l3 l4 l5 l6 : List ℕ) (window : Window) (count : ℕ) → l0 ≡ [] → l1 ≡ l0 ++ codes "entries " → l2 ≡ l1 ++ decimal window.first → l3 ≡ l2 ++ codes " to " → l4 ≡ l3 ++ decimal (window.first + window.shown - 1) → l5 ≡ l4 ++ codes " of " → l6 ≡ l5 ++ decimal count → l6 ≡ shown_text window count
shown_told l0 l1 l2 l3 l4 l5 l6 window count e0 e1 e2 e3 e4 e5 e6 =
    let first = decimal window.first in
    let last = decimal (window.first + window.shown - 1) in
    let all = decimal count in
    let t4 : l6 ≡ l4 ++ (codes " of " ++ all) = joined l4 l5 l6 (codes " of ") all e5 e6 in
    let t3 : l6 ≡ l3 ++ (last ++ (codes " of " ++ all)) = joined l3 l4 l6 last (codes " of " ++ all) e4 t4 in
    let t2 : l6 ≡ l2 ++ (codes " to " ++ (last ++ (codes " of " ++ all))) = joined l2 l3 l6 (codes " to ") (last ++ (codes " of " ++ all)) e3 t3 in
    let t1 : l6 ≡ l1 ++ (first ++ (codes " to " ++ (last ++ (codes " of " ++ all)))) = joined l1 l2 l6 first (codes " to " ++ (last ++ (codes " of " ++ all))) e2 t2 in
    begun l0 l6 (shown_text window count) e0 (joined l0 l1 l6 (codes "entries ") (first ++ (codes " to " ++ (last ++ (codes " of " ++ all)))) e1 t1)

-- the line of what is left out, where some is
pub some_left : {T E : Type 0} (told : Result T E) (bytes next text : List ℕ) (left : ℕ) → 0 < left → text ≡ decimal left ++ codes " entries more are left out here" → OnOk told (next ≡ bytes ++ markup (words (codes "note") 12 36 text ∷ [])) → OnOk told (next ≡ bytes ++ markup (left_out_tags left))
some_left told bytes next text left more is first =
    let note : Tag = words (codes "note") 12 36 (decimal left ++ codes " entries more are left out here") in
    let same : note ∷ [] ≡ left_out_tags left = sym (ap (λ (b : Bool). cond b (note ∷ []) []) (lt-ltb 0 left more)) in
    subst (λ (tags : List Tag). OnOk told (next ≡ bytes ++ markup tags)) same
    (same_words told bytes next (codes "note") text (decimal left ++ codes " entries more are left out here") 12 36 is first)

-- the lane of a party
pub lane_told : {T E : Type 0} (told : Result T E) (bytes next last text lanes : List ℕ) (x party low : ℕ) → x ≡ middle_of lanes party → text ≡ decimal party → next ≡ bytes ++ markup (words (codes "lane") (x - 6) 60 text ∷ []) → OnOk told (last ≡ next ++ markup (stroke (codes "way") x 68 x low ∷ [])) → OnOk told (last ≡ bytes ++ markup (lane_tags low lanes (party ∷ [])))
lane_told told bytes next last text lanes x party low middle is first second =
    subst (λ (m : ℕ). OnOk told (last ≡ bytes ++ markup (words (codes "lane") (m - 6) 60 (decimal party) ∷ stroke (codes "way") m 68 m low ∷ []))) middle
    (told_behind told bytes next last (words (codes "lane") (x - 6) 60 (decimal party) ∷ []) (stroke (codes "way") x 68 x low ∷ []) (words_as bytes next (codes "lane") text (decimal party) (x - 6) 60 is first) second)

-- lanes of parties, and of those behind them
pub lanes_joined : (low : ℕ) (lanes parties others : List ℕ) → lane_tags low lanes (parties ++ others) ≡ lane_tags low lanes parties ++ lane_tags low lanes others
lanes_joined low lanes [] others = refl
lanes_joined low lanes (party ∷ parties) others =
    ap (λ (tags : List Tag). words (codes "lane") (middle_of lanes party - 6) 60 (decimal party) ∷ stroke (codes "way") (middle_of lanes party) 68 (middle_of lanes party) low ∷ tags) (lanes_joined low lanes parties others)

-- the page of a width and a height, and the words of a count, where these are known otherwise
pub page_as : (bytes next : List ℕ) (width other height : ℕ) → width ≡ other → next ≡ bytes ++ markup (page width height ∷ []) → next ≡ bytes ++ markup (page other height ∷ [])
page_as bytes next width other height is first = subst (λ (wide : ℕ). next ≡ bytes ++ markup (page wide height ∷ [])) is first
