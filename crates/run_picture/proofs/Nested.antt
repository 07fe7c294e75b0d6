-- The tags of a picture are nested, and their values end where they do.
use Rattle.std.proofs.Common.{◌≡◌, ◌+◌, ◌-◌, ◌*◌, ℕ, Bool, true, false, cond, ltb, List, [], ◌∷◌, ◌++◌, length, codes, append_assoc, Option, Some, None, refl, ap, ◌∙◌}
use Rattle.apl_arrays.specs.Glyph.{left_arrow, right_arrow}
use Rattle.std.specs.Fmt.{decimal, digits}
use Rattle.std.specs.List.{All, list_all}
use Rattle.std.specs.Option.{option_map_or}
use Rattle.std.proofs.lemmas.Bool.{and_parts}
use Rattle.std.proofs.lemmas.List.Elements.{All-nil, All-cons, All-append, All-from_recursion}
use Rattle.sv_events.specs.Entry.{PlainEntry}
use Rattle.sv_events.specs.Row.{answer_row}
use Rattle.sv_events.specs.declared.event.Act.{Act}
use Rattle.sv_events.specs.declared.event.Act.TheVariants.{Offer, Retract, SetControl, AskControl, AskState, AskDegree, AskParties, AskNames, Set, Use, Leave}
use Rattle.sv_events.specs.declared.event.Hold.{Hold}
use Rattle.sv_rules.specs.Entries.{is_held, kind_of}
use Rattle.run_picture.specs.Figure.{bar_at, mark_at, stroke, words, words_up_to}
use Rattle.run_picture.specs.Label.{label_of, mark_of, style_of}
use Rattle.run_picture.specs.Lane.{middle_of}
use Rattle.run_picture.specs.Layout.{foot, head, line_begin, page_width}
use Rattle.run_picture.specs.Link.{height_of, links_of}
use Rattle.run_picture.specs.Picture.{Scene, bottom, entry_tags, entry_words, fall, foot_tags, head_tags, lane_tags, left_out_tags, link_style, link_tags, page, picture_of, rows, scene_of, shown_line, shown_text, wait_tags}
use Rattle.run_picture.specs.Shown.{picture_tags}
use Rattle.run_picture.specs.Style.{figure_meanings, drawing, mark_meaning, mark_meanings, meanings}
use Rattle.run_picture.specs.Tag.{AreWellFormed, Attribute, IsPlainValue, Tag, attributes_of, finishes, open_behind_all}
use Rattle.run_picture.specs.Window.{entries_in}
use Rattle.run_picture.specs.declared.link.Link.{Link}
use Rattle.run_picture.specs.declared.window.Window.{Window}
use Rattle.run_picture.proofs.PlainValues.{digits_are_values, is_value, joined, plain_size, plain_word}

-- all that begins in these tags is finished in them, and no more

abbrev IsWhole : List Tag → Type 0
IsWhole tags = (open' : List (List ℕ)) (rest : List Tag) → open_behind_all open' (tags ++ rest) ≡ open_behind_all open' rest

whole_nil : IsWhole []
whole_nil = λ open' rest. refl

whole_append : (xs ys : List Tag) → IsWhole xs → IsWhole ys → IsWhole (xs ++ ys)
whole_append xs ys a b =
    λ open' rest. ap (open_behind_all open') (append_assoc xs ys rest) ∙ (a open' (ys ++ rest) ∙ b open' rest)

one_bar : (x y width height : ℕ) (b : Bool) → IsWhole (cond b (bar_at (codes "hold") x y width height ∷ []) [])
one_bar x y width height true = λ open' rest. refl
one_bar x y width height false = λ open' rest. refl

one_note : (x y : ℕ) (text : List ℕ) (b : Bool) → IsWhole (cond b (words (codes "note") x y text ∷ []) [])
one_note x y text true = λ open' rest. refl
one_note x y text false = λ open' rest. refl

links_whole : (lanes : List ℕ) (y : ℕ) (links : List Link) → IsWhole (link_tags lanes y links)
links_whole lanes y [] = whole_nil
links_whole lanes y (link ∷ links) = λ open' rest. links_whole lanes (y + 6) links open' rest

words_whole : (scene : Scene) (y place : ℕ) (e : PlainEntry) → IsWhole (entry_words scene y place e)
words_whole scene y place e = λ open' rest. refl

wait_whole : (scene : Scene) (y : ℕ) (e : PlainEntry) (behind : List PlainEntry) → IsWhole (wait_tags scene y e behind)
wait_whole scene y e behind =
    one_bar (middle_of scene.lanes e.party - 7) (y + 10) 14 (height_of scene.lanes scene.journal e - 10 + fall scene e.party behind) (is_held (kind_of e.answer))

entry_whole : (scene : Scene) (y place : ℕ) (e : PlainEntry) (behind : List PlainEntry) → IsWhole (entry_tags scene y place e behind)
entry_whole scene y place e behind =
    let links = link_tags scene.lanes (y + 20) (links_of scene.lanes scene.journal e) in
    let last = mark_at (style_of e) (mark_of e.act) (middle_of scene.lanes e.party) (y + 10) ∷ entry_words scene y place e in
    let whole_last : IsWhole last = λ open' rest. words_whole scene y place e open' rest in
    let whole_others : IsWhole (wait_tags scene y e behind ++ (links ++ last)) = whole_append (wait_tags scene y e behind) (links ++ last) (wait_whole scene y e behind) (whole_append links last (links_whole scene.lanes (y + 20) (links_of scene.lanes scene.journal e)) whole_last) in
    λ open' rest. whole_others open' rest

rows_whole : (scene : Scene) (y place : ℕ) (entries : List PlainEntry) → IsWhole (rows scene y place entries)
rows_whole scene y place [] = whole_nil
rows_whole scene y place (e ∷ behind) =
    whole_append (entry_tags scene y place e behind) (rows scene (y + height_of scene.lanes scene.journal e) (place + 1) behind) (entry_whole scene y place e behind) (rows_whole scene (y + height_of scene.lanes scene.journal e) (place + 1) behind)

lanes_whole : (low : ℕ) (lanes parties : List ℕ) → IsWhole (lane_tags low lanes parties)
lanes_whole low lanes [] = whole_nil
lanes_whole low lanes (party ∷ parties) = λ open' rest. lanes_whole low lanes parties open' rest

left_out_whole : (left : ℕ) → IsWhole (left_out_tags left)
left_out_whole left = one_note 12 36 (decimal left ++ codes " entries more are left out here") (ltb 0 left)

drawing_whole : IsWhole drawing
drawing_whole = λ open' rest. refl

meanings_whole : (low : ℕ) → IsWhole (meanings low)
meanings_whole low = λ open' rest. refl

picture_nested : (shown : List PlainEntry) (window : Window) (scene : Scene) (low : ℕ) → open_behind_all [] (picture_of shown window scene low) ≡ Some []
picture_nested shown window scene low =
    let lanes = lane_tags low scene.lanes scene.lanes in
    let note = words (codes "note") 12 18 (shown_text window (length scene.journal)) in
    let notes : IsWhole (note ∷ (left_out_tags window.left_out ++ lanes)) = λ open' rest. whole_append (left_out_tags window.left_out) lanes (left_out_whole window.left_out) (lanes_whole low scene.lanes scene.lanes) open' rest in
    let above : IsWhole (drawing ++ (note ∷ (left_out_tags window.left_out ++ lanes))) = whole_append drawing (note ∷ (left_out_tags window.left_out ++ lanes)) drawing_whole notes in
    let open' : List (List ℕ) = codes "svg" ∷ [] in
    above open' (rows scene head window.first shown ++ foot_tags scene.lanes low)
    ∙ (rows_whole scene head window.first shown open' (foot_tags scene.lanes low)
    ∙ meanings_whole low open' (finishes (codes "svg") ∷ []))

-- values

abbrev HasPlainValues : Tag → Type 0
HasPlainValues tag = All IsPlainValue (attributes_of tag)

abbrev HavePlainValues : List Tag → Type 0
HavePlainValues tags = All HasPlainValues tags

words_plain : (style_name : List ℕ) (x y : ℕ) (text : List ℕ) → is_value style_name ≡ true → HasPlainValues (words style_name x y text)
words_plain style_name x y text e =
    All-from_recursion IsPlainValue (attributes_of (words style_name x y text)) (plain_word (codes "class") style_name e, (plain_size (codes "x") x, (plain_size (codes "y") y, (plain_size (codes "textLength") (7 * length text), tt))))

words_up_to_plain : (style_name : List ℕ) (x y : ℕ) (text : List ℕ) → is_value style_name ≡ true → HasPlainValues (words_up_to style_name x y text)
words_up_to_plain style_name x y text e =
    All-from_recursion IsPlainValue (attributes_of (words_up_to style_name x y text)) (plain_word (codes "class") style_name e, (plain_size (codes "x") x, (plain_size (codes "y") y, tt)))

stroke_plain : (style_name : List ℕ) (x1 y1 x2 y2 : ℕ) → is_value style_name ≡ true → HasPlainValues (stroke style_name x1 y1 x2 y2)
stroke_plain style_name x1 y1 x2 y2 e =
    All-from_recursion IsPlainValue (attributes_of (stroke style_name x1 y1 x2 y2)) (plain_word (codes "class") style_name e, (plain_size (codes "x1") x1, (plain_size (codes "y1") y1, (plain_size (codes "x2") x2, (plain_size (codes "y2") y2, tt)))))

bar_plain : (style_name : List ℕ) (x y width height : ℕ) → is_value style_name ≡ true → HasPlainValues (bar_at style_name x y width height)
bar_plain style_name x y width height e =
    All-from_recursion IsPlainValue (attributes_of (bar_at style_name x y width height)) (plain_word (codes "class") style_name e, (plain_size (codes "x") x, (plain_size (codes "y") y, (plain_size (codes "width") width, (plain_size (codes "height") height, tt)))))

mark_plain : (style_name mark : List ℕ) (x y : ℕ) → is_value style_name ≡ true → is_value mark ≡ true → HasPlainValues (mark_at style_name mark x y)
mark_plain style_name mark x y e m =
    All-from_recursion IsPlainValue (attributes_of (mark_at style_name mark x y)) (plain_word (codes "class") style_name e, (plain_word (codes "href") (codes "#" ++ mark) (joined (codes "#") mark refl m), (plain_size (codes "x") x, (plain_size (codes "y") y, tt))))

one_plain : (tag : Tag) (b : Bool) → HasPlainValues tag → HavePlainValues (cond b (tag ∷ []) [])
one_plain tag true p = All-cons HasPlainValues tag [] p (All-nil HasPlainValues)
one_plain tag false p = All-nil HasPlainValues

-- how a mark, a line and an entry are drawn

mark_is_value : (act : Act) → is_value (mark_of act) ≡ true
mark_is_value (Offer to local surrogate handed) = refl
mark_is_value (Retract local) = refl
mark_is_value (SetControl local control) = refl
mark_is_value (AskControl local) = refl
mark_is_value (AskState local) = refl
mark_is_value (AskDegree local) = refl
mark_is_value AskParties = refl
mark_is_value (AskNames party) = refl
mark_is_value (Set local new) = refl
mark_is_value (Use local) = refl
mark_is_value Leave = refl

style_is_value : (act : Act) (hold : Option Hold) → is_value (option_map_or (λ hold. codes "held") hold (mark_of act)) ≡ true
style_is_value act None = mark_is_value act
style_is_value act (Some hold) = refl

link_is_value : (b : Bool) → is_value (cond b (codes "coupled") (codes "offered")) ≡ true
link_is_value true = refl
link_is_value false = refl

links_plain : (lanes : List ℕ) (y : ℕ) (links : List Link) → HavePlainValues (link_tags lanes y links)
links_plain lanes y [] = All-nil HasPlainValues
links_plain lanes y (link ∷ links) =
    All-cons HasPlainValues (stroke (link_style link) (middle_of lanes link.from) y (middle_of lanes link.to) y) (link_tags lanes (y + 6) links) (stroke_plain (link_style link) (middle_of lanes link.from) y (middle_of lanes link.to) y (link_is_value link.coupled)) (links_plain lanes (y + 6) links)

words_all_plain : (scene : Scene) (y place : ℕ) (e : PlainEntry) → HavePlainValues (entry_words scene y place e)
words_all_plain scene y place e =
    All-from_recursion HasPlainValues (entry_words scene y place e) (words_up_to_plain (codes "number") 52 (y + 14) (decimal place) refl, (words_plain (codes "label") (middle_of scene.lanes e.party + 11) (y + 14) (label_of e) refl, (words_plain (codes "entry") (line_begin (length scene.lanes)) (y + 14) (shown_line place e) refl, tt)))

entry_plain : (scene : Scene) (y place : ℕ) (e : PlainEntry) (behind : List PlainEntry) → HavePlainValues (entry_tags scene y place e behind)
entry_plain scene y place e behind =
    let middle = middle_of scene.lanes e.party in
    let links = link_tags scene.lanes (y + 20) (links_of scene.lanes scene.journal e) in
    let mark = mark_at (style_of e) (mark_of e.act) middle (y + 10) in
    let last = mark ∷ entry_words scene y place e in
    let bar = bar_at (codes "hold") (middle - 7) (y + 10) 14 (height_of scene.lanes scene.journal e - 10 + fall scene e.party behind) in
    All-cons HasPlainValues (stroke (codes "rule") 0 y (page_width (length scene.lanes)) y) (wait_tags scene y e behind ++ (links ++ last)) (stroke_plain (codes "rule") 0 y (page_width (length scene.lanes)) y refl) (All-append HasPlainValues (wait_tags scene y e behind) (links ++ last) (one_plain bar (is_held (kind_of e.answer)) (bar_plain (codes "hold") (middle - 7) (y + 10) 14 (height_of scene.lanes scene.journal e - 10 + fall scene e.party behind) refl)) (All-append HasPlainValues links last (links_plain scene.lanes (y + 20) (links_of scene.lanes scene.journal e)) (All-cons HasPlainValues mark (entry_words scene y place e) (mark_plain (style_of e) (mark_of e.act) middle (y + 10) (style_is_value e.act (answer_row e.answer).row.hold) (mark_is_value e.act)) (words_all_plain scene y place e))))

rows_plain : (scene : Scene) (y place : ℕ) (entries : List PlainEntry) → HavePlainValues (rows scene y place entries)
rows_plain scene y place [] = All-nil HasPlainValues
rows_plain scene y place (e ∷ behind) =
    All-append HasPlainValues (entry_tags scene y place e behind) (rows scene (y + height_of scene.lanes scene.journal e) (place + 1) behind) (entry_plain scene y place e behind) (rows_plain scene (y + height_of scene.lanes scene.journal e) (place + 1) behind)

lanes_plain : (low : ℕ) (lanes parties : List ℕ) → HavePlainValues (lane_tags low lanes parties)
lanes_plain low lanes [] = All-nil HasPlainValues
lanes_plain low lanes (party ∷ parties) =
    let name = words (codes "lane") (middle_of lanes party - 6) 60 (decimal party) in
    let way = stroke (codes "way") (middle_of lanes party) 68 (middle_of lanes party) low in
    All-cons HasPlainValues name (way ∷ lane_tags low lanes parties) (words_plain (codes "lane") (middle_of lanes party - 6) 60 (decimal party) refl) (All-cons HasPlainValues way (lane_tags low lanes parties) (stroke_plain (codes "way") (middle_of lanes party) 68 (middle_of lanes party) low refl) (lanes_plain low lanes parties))

-- all values of these tags pass
abbrev values_pass : Tag → Bool
values_pass tag = list_all (λ attribute. is_value attribute.value) (attributes_of tag)

attributes_plain : (attributes : List Attribute) → list_all (λ attribute. is_value attribute.value) attributes ≡ true → All IsPlainValue attributes
attributes_plain [] e = All-nil IsPlainValue
attributes_plain (attribute ∷ attributes) e =
    let parts = and_parts (is_value attribute.value) (list_all (λ attribute. is_value attribute.value) attributes) e in
    All-cons IsPlainValue attribute attributes (plain_word attribute.name attribute.value parts.0) (attributes_plain attributes parts.1)

tags_plain : (tags : List Tag) → list_all values_pass tags ≡ true → HavePlainValues tags
tags_plain [] e = All-nil HasPlainValues
tags_plain (tag ∷ tags) e =
    let parts = and_parts (values_pass tag) (list_all values_pass tags) e in
    All-cons HasPlainValues tag tags (attributes_plain (attributes_of tag) parts.0) (tags_plain tags parts.1)

drawing_pass : list_all values_pass drawing ≡ true
unfolding digits
drawing_pass = refl

mark_meaning_plain : (mark text : List ℕ) (y : ℕ) → is_value mark ≡ true → HavePlainValues (mark_meaning mark text y)
mark_meaning_plain mark text y m =
    All-from_recursion HasPlainValues (mark_meaning mark text y) (mark_plain mark mark 76 y m m, (words_plain (codes "note") 96 (y + 4) text refl, tt))

page_plain : (width height : ℕ) → HasPlainValues (page width height)
page_plain width height =
    let box : is_value (codes "0 0 " ++ (decimal width ++ (codes " " ++ decimal height))) ≡ true = joined (codes "0 0 ") (decimal width ++ (codes " " ++ decimal height)) refl (joined (decimal width) (codes " " ++ decimal height) (digits_are_values width) (joined (codes " ") (decimal height) refl (digits_are_values height))) in
    All-from_recursion IsPlainValue (attributes_of (page width height)) (plain_word (codes "xmlns") (codes "http://www.w3.org/2000/svg") refl, (plain_word (codes "xml:space") (codes "preserve") refl, (plain_size (codes "width") width, (plain_size (codes "height") height, (plain_word (codes "viewBox") (codes "0 0 " ++ (decimal width ++ (codes " " ++ decimal height))) box, tt)))))

marks_plain : (low : ℕ) → HavePlainValues (mark_meanings low)
marks_plain low =
    All-append HasPlainValues (mark_meaning (codes "offer") (codes "an offer") (low + 20)) (mark_meaning (codes "retract") (codes "a name is taken back") (low + 38) ++ (mark_meaning (codes "control") (codes "a control is set") (low + 56) ++ (mark_meaning (codes "question") (codes "a question") (low + 74) ++ (mark_meaning (codes "set") (codes "a set: the name" ++ left_arrow ∷ codes "the value") (low + 92) ++ (mark_meaning (codes "use") (codes "a use: the name" ++ right_arrow ∷ codes "the value") (low + 110) ++ (mark_meaning (codes "leave") (codes "a leave") (low + 128))))))) (mark_meaning_plain (codes "offer") (codes "an offer") (low + 20) refl) (All-append HasPlainValues (mark_meaning (codes "retract") (codes "a name is taken back") (low + 38)) (mark_meaning (codes "control") (codes "a control is set") (low + 56) ++ (mark_meaning (codes "question") (codes "a question") (low + 74) ++ (mark_meaning (codes "set") (codes "a set: the name" ++ left_arrow ∷ codes "the value") (low + 92) ++ (mark_meaning (codes "use") (codes "a use: the name" ++ right_arrow ∷ codes "the value") (low + 110) ++ (mark_meaning (codes "leave") (codes "a leave") (low + 128)))))) (mark_meaning_plain (codes "retract") (codes "a name is taken back") (low + 38) refl) (All-append HasPlainValues (mark_meaning (codes "control") (codes "a control is set") (low + 56)) (mark_meaning (codes "question") (codes "a question") (low + 74) ++ (mark_meaning (codes "set") (codes "a set: the name" ++ left_arrow ∷ codes "the value") (low + 92) ++ (mark_meaning (codes "use") (codes "a use: the name" ++ right_arrow ∷ codes "the value") (low + 110) ++ (mark_meaning (codes "leave") (codes "a leave") (low + 128))))) (mark_meaning_plain (codes "control") (codes "a control is set") (low + 56) refl) (All-append HasPlainValues (mark_meaning (codes "question") (codes "a question") (low + 74)) (mark_meaning (codes "set") (codes "a set: the name" ++ left_arrow ∷ codes "the value") (low + 92) ++ (mark_meaning (codes "use") (codes "a use: the name" ++ right_arrow ∷ codes "the value") (low + 110) ++ (mark_meaning (codes "leave") (codes "a leave") (low + 128)))) (mark_meaning_plain (codes "question") (codes "a question") (low + 74) refl) (All-append HasPlainValues (mark_meaning (codes "set") (codes "a set: the name" ++ left_arrow ∷ codes "the value") (low + 92)) (mark_meaning (codes "use") (codes "a use: the name" ++ right_arrow ∷ codes "the value") (low + 110) ++ (mark_meaning (codes "leave") (codes "a leave") (low + 128))) (mark_meaning_plain (codes "set") (codes "a set: the name" ++ left_arrow ∷ codes "the value") (low + 92) refl) (All-append HasPlainValues (mark_meaning (codes "use") (codes "a use: the name" ++ right_arrow ∷ codes "the value") (low + 110)) (mark_meaning (codes "leave") (codes "a leave") (low + 128)) (mark_meaning_plain (codes "use") (codes "a use: the name" ++ right_arrow ∷ codes "the value") (low + 110) refl) (mark_meaning_plain (codes "leave") (codes "a leave") (low + 128) refl))))))

figures_plain : (low : ℕ) → HavePlainValues (figure_meanings low)
figures_plain low =
    All-from_recursion HasPlainValues (figure_meanings low) ((bar_plain (codes "hold") 69 (low + 141) 14 10 refl), ((words_plain (codes "note") 96 (low + 150) (codes "hollow: refused, by which element and whose 1; the bar ends where the wait does, if here") refl), ((stroke_plain (codes "offered") 66 (low + 164) 88 (low + 164) refl), ((words_plain (codes "note") 96 (low + 168) (codes "offered to this party, where it has a lane here") refl), ((stroke_plain (codes "coupled") 66 (low + 182) 88 (low + 182) refl), ((words_plain (codes "note") 96 (low + 186) (codes "coupled, where both have lanes here; 64 lines of an entry at most") refl), ((words_plain (codes "note") 69 (low + 204) (codes "..") refl), ((words_plain (codes "note") 96 (low + 204) (codes "the text goes on, and is cut here") refl), tt))))))))

meanings_plain : (low : ℕ) → HavePlainValues (meanings low)
meanings_plain low =
    All-append HasPlainValues (mark_meanings low) (figure_meanings low) (marks_plain low) (figures_plain low)

head_plain : (window : Window) (count : ℕ) (lanes : List ℕ) (low : ℕ) → HavePlainValues (head_tags window count lanes low)
head_plain window count lanes low =
    let size = page (page_width (length lanes)) (low + foot) in
    let note = words (codes "note") 12 18 (shown_text window count) in
    let left = words (codes "note") 12 36 (decimal window.left_out ++ codes " entries more are left out here") in
    let lane = lane_tags low lanes lanes in
    All-cons HasPlainValues size (drawing ++ (note ∷ (left_out_tags window.left_out ++ lane))) (page_plain (page_width (length lanes)) (low + foot)) (All-append HasPlainValues drawing (note ∷ (left_out_tags window.left_out ++ lane)) (tags_plain drawing drawing_pass) (All-cons HasPlainValues note (left_out_tags window.left_out ++ lane) (words_plain (codes "note") 12 18 (shown_text window count) refl) (All-append HasPlainValues (left_out_tags window.left_out) lane (one_plain left (ltb 0 window.left_out) (words_plain (codes "note") 12 36 (decimal window.left_out ++ codes " entries more are left out here") refl)) (lanes_plain low lanes lanes))))

foot_plain : (lanes : List ℕ) (low : ℕ) → HavePlainValues (foot_tags lanes low)
foot_plain lanes low =
    let end = finishes (codes "svg") ∷ [] in
    All-cons HasPlainValues (stroke (codes "rule") 0 low (page_width (length lanes)) low) (meanings low ++ end) (stroke_plain (codes "rule") 0 low (page_width (length lanes)) low refl) (All-append HasPlainValues (meanings low) end (meanings_plain low) (All-cons HasPlainValues (finishes (codes "svg")) [] (All-nil IsPlainValue) (All-nil HasPlainValues)))

picture_plain : (shown : List PlainEntry) (window : Window) (scene : Scene) (low : ℕ) → HavePlainValues (picture_of shown window scene low)
picture_plain shown window scene low =
    All-append HasPlainValues (head_tags window (length scene.journal) scene.lanes low) (rows scene head window.first shown ++ foot_tags scene.lanes low) (head_plain window (length scene.journal) scene.lanes low) (All-append HasPlainValues (rows scene head window.first shown) (foot_tags scene.lanes low) (rows_plain scene head window.first shown) (foot_plain scene.lanes low))

pub well_formed : (window : Window) (journal : List PlainEntry) → AreWellFormed (picture_tags window journal)
well_formed window journal =
    let scene = scene_of window journal in
    let low = bottom scene head (entries_in window journal) in
    record {
      nested = picture_nested (entries_in window journal) window scene low;
      values = picture_plain (entries_in window journal) window scene low;
    }
