-- Entries, one below another.
use Rattle.std.proofs.Common.{◌≡◌, ◌≢◌, ◌<◌, ◌+◌, ℕ, Bool, cond, List, [], ◌∷◌, ◌++◌, map, drop, length, get_or, Result, codes, sym, ap, ◌∙◌, refl, subst, arith}
use Rattle.std.specs.Fmt.{decimal}
use Rattle.std.specs.Result.{OnOk}
use Rattle.std.proofs.lemmas.Bool.{eq-eqb, ne_eqb}
use Rattle.std.proofs.lemmas.List.{drop_more, get_or-map, length-map}
use Rattle.sv_events.specs.Entry.{PlainEntry, plain_entry}
use Rattle.sv_events.specs.declared.entry.Entry.{Entry}
use Rattle.run_picture.specs.Figure.{mark_at, words, words_up_to}
use Rattle.run_picture.specs.Label.{label_of, mark_of, style_of}
use Rattle.run_picture.specs.Lane.{middle_of}
use Rattle.run_picture.specs.Layout.{line_begin}
use Rattle.run_picture.specs.Link.{height_of, links_of}
use Rattle.run_picture.specs.Picture.{Scene, entry_tags, entry_words, fall, link_tags, rows, shown_line}
use Rattle.run_picture.specs.Scene.{figures_of}
use Rattle.run_picture.specs.Tag.{Tag, markup}
use Rattle.run_picture.specs.declared.link.Link.{Link}
use Rattle.run_picture.proofs.Markup.{added, left_behind, told_behind}

inside : (shown : List Entry) (at : ℕ) → at < length shown → at < length (map plain_entry shown)
inside shown at within = subst (λ (n : ℕ). at < n) (sym (length-map shown plain_entry)) within

-- the entry at a place, as plain data
pub entry_is : (shown : List Entry) (at : ℕ) (one : Entry) (other : PlainEntry) → at < length shown → one ≡ get_or shown at one → get_or (map plain_entry shown) at other ≡ plain_entry one
entry_is shown at one other within read = get_or-map plain_entry shown at one other within ∙ ap plain_entry (sym read)

-- the entries from a place on
entries_from : (shown : List Entry) (at : ℕ) (one : Entry) → at < length shown → one ≡ get_or shown at one → drop at (map plain_entry shown) ≡ plain_entry one ∷ drop (at + 1) (map plain_entry shown)
entries_from shown at one within read =
    drop_more (map plain_entry shown) at (plain_entry one) (inside shown at within)
    ∙ ap (λ (e : PlainEntry). e ∷ drop (at + 1) (map plain_entry shown)) (entry_is shown at one (plain_entry one) within read)

-- the entry that ends a wait
pub fall_here : (scene : Scene) (party at : ℕ) (shown : List Entry) (one : Entry) → at < length shown → one ≡ get_or shown at one → one.party ≡ party → fall scene party (drop at (map plain_entry shown)) ≡ 10
fall_here scene party at shown one within read same =
    ap (fall scene party) (entries_from shown at one within read)
    ∙ ap (λ (b : Bool). cond b 10 (height_of scene.lanes scene.journal (plain_entry one) + fall scene party (drop (at + 1) (map plain_entry shown)))) (eq-eqb one.party party same)

-- and one that doesn't
fall_behind : (scene : Scene) (party at : ℕ) (shown : List Entry) (one : Entry) → at < length shown → one ≡ get_or shown at one → one.party ≢ party → fall scene party (drop at (map plain_entry shown)) ≡ height_of scene.lanes scene.journal (plain_entry one) + fall scene party (drop (at + 1) (map plain_entry shown))
fall_behind scene party at shown one within read other =
    ap (fall scene party) (entries_from shown at one within read)
    ∙ ap (λ (b : Bool). cond b 10 (height_of scene.lanes scene.journal (plain_entry one) + fall scene party (drop (at + 1) (map plain_entry shown)))) (ne_eqb one.party party other)

-- what is made of the entries, and of them as plain data
pub same_map : (h : PlainEntry → ℕ) (shown : List Entry) → map (λ e. h (plain_entry e)) shown ≡ map h (map plain_entry shown)
same_map h [] = refl
same_map h (e ∷ shown) = ap (λ (list : List ℕ). h (plain_entry e) ∷ list) (same_map h shown)

-- the height of an entry
pub height_at : (scene : Scene) (heights : List ℕ) (shown : List Entry) (at : ℕ) (other : PlainEntry) → heights ≡ map (λ e. height_of scene.lanes scene.journal (plain_entry e)) shown → at < length shown → get_or heights at 0 ≡ height_of scene.lanes scene.journal (get_or (map plain_entry shown) at other)
height_at scene heights shown at other are within =
    ap (λ (list : List ℕ). get_or list at 0) (are ∙ same_map (λ (e : PlainEntry). height_of scene.lanes scene.journal e) shown)
    ∙ get_or-map (λ (e : PlainEntry). height_of scene.lanes scene.journal e) (map plain_entry shown) at other 0 (inside shown at within)

sums : (whole depth low high rest here : ℕ) → whole ≡ depth + here → here ≡ high + rest → low ≡ high → whole ≡ depth + low + rest
sums whole depth low high rest here first second third = omega arith

-- how far a bar goes on, one entry further
pub fall_more : (scene : Scene) (party at depth whole : ℕ) (heights : List ℕ) (shown : List Entry) (one : Entry) → at < length shown → one ≡ get_or shown at one → one.party ≢ party → heights ≡ map (λ e. height_of scene.lanes scene.journal (plain_entry e)) shown → whole ≡ depth + fall scene party (drop at (map plain_entry shown)) → whole ≡ depth + get_or heights at 0 + fall scene party (drop (at + 1) (map plain_entry shown))
fall_more scene party at depth whole heights shown one within read other are before =
    sums whole depth (get_or heights at 0) (height_of scene.lanes scene.journal (plain_entry one)) (fall scene party (drop (at + 1) (map plain_entry shown))) (fall scene party (drop at (map plain_entry shown))) before
    (fall_behind scene party at shown one within read other)
    (height_at scene heights shown at (plain_entry one) are within ∙ ap (height_of scene.lanes scene.journal) (entry_is shown at one (plain_entry one) within read))

-- one entry more is drawn
pub rows_more : (scene : Scene) (y place at after height : ℕ) (shown : List PlainEntry) (other : PlainEntry) (bytes next : List ℕ) → at < length shown → place + 1 ≡ after → height_of scene.lanes scene.journal (get_or shown at other) ≡ height → next ≡ bytes ++ markup (entry_tags scene y place (get_or shown at other) (drop (at + 1) shown)) → bytes ++ markup (rows scene y place (drop at shown)) ≡ next ++ markup (rows scene (y + height) after (drop (at + 1) shown))
rows_more scene y place at after height shown other bytes next within count high first =
    let e = get_or shown at other in
    let behind = drop (at + 1) shown in
    ap (λ (list : List PlainEntry). bytes ++ markup (rows scene y place list)) (drop_more shown at other within)
    ∙ (left_behind bytes next (entry_tags scene y place e behind) (rows scene (y + height_of scene.lanes scene.journal e) (place + 1) behind) first
    ∙ (ap (λ (low : ℕ). next ++ markup (rows scene (y + low) (place + 1) behind)) high
    ∙ ap (λ (n : ℕ). next ++ markup (rows scene (y + height) n behind)) count))

-- the texts of an entry are drawn
pub words_of_entry : {T E : Type 0} (told : Result T E) (b0 b1 b2 b3 : List ℕ) (scene : Scene) (y place : ℕ) (e : PlainEntry) (middle begin : ℕ) (label line : List ℕ) → middle ≡ middle_of scene.lanes e.party → begin ≡ line_begin (length scene.lanes) → label ≡ label_of e → line ≡ shown_line place e → b1 ≡ b0 ++ markup (words_up_to (codes "number") 52 (y + 14) (decimal place) ∷ []) → b2 ≡ b1 ++ markup (words (codes "label") (middle + 11) (y + 14) label ∷ []) → OnOk told (b3 ≡ b2 ++ markup (words (codes "entry") begin (y + 14) line ∷ [])) → OnOk told (b3 ≡ b0 ++ markup (entry_words scene y place e))
words_of_entry told b0 b1 b2 b3 scene y place e middle begin label line in_middle begins is_label is_line first second third =
    let number : Tag = words_up_to (codes "number") 52 (y + 14) (decimal place) in
    let beside : Tag = words (codes "label") (middle_of scene.lanes e.party + 11) (y + 14) (label_of e) in
    let printed : Tag = words (codes "entry") (line_begin (length scene.lanes)) (y + 14) (shown_line place e) in
    let labelled : b2 ≡ b1 ++ markup (beside ∷ []) =
    second
    ∙ (ap (λ (n : ℕ). b1 ++ markup (words (codes "label") (n + 11) (y + 14) label ∷ [])) in_middle
    ∙ ap (λ (text : List ℕ). b1 ++ markup (words (codes "label") (middle_of scene.lanes e.party + 11) (y + 14) text ∷ [])) is_label) in
    let ending : words (codes "entry") begin (y + 14) line ≡ printed =
    ap (λ (n : ℕ). words (codes "entry") n (y + 14) line) begins
    ∙ ap (λ (text : List ℕ). words (codes "entry") (line_begin (length scene.lanes)) (y + 14) text) is_line in
    told_behind told b0 b2 b3 (number ∷ beside ∷ []) (printed ∷ []) (added b0 b1 b2 (number ∷ []) (beside ∷ []) first labelled)
    (subst (λ (tag : Tag). OnOk told (b3 ≡ b2 ++ markup (tag ∷ []))) ending third)

-- the figures of an entry are drawn
pub figures_told : {T E : Type 0} (told : Result T E) (b0 b1 b2 b3 : List ℕ) (scene : Scene) (y place : ℕ) (e : PlainEntry) (links listed : List Link) (style mark : List ℕ) (middle : ℕ) → links ≡ listed → listed ≡ links_of scene.lanes scene.journal e → style ≡ style_of e → mark ≡ mark_of e.act → middle ≡ middle_of scene.lanes e.party → b1 ≡ b0 ++ markup (link_tags scene.lanes (y + 20) links) → b2 ≡ b1 ++ markup (mark_at style mark middle (y + 10) ∷ []) → OnOk told (b3 ≡ b2 ++ markup (entry_words scene y place e)) → OnOk told (b3 ≡ b0 ++ markup (figures_of scene y place e))
figures_told told b0 b1 b2 b3 scene y place e links listed style mark middle same are styled marked in_middle first second third =
    let lines : List Tag = link_tags scene.lanes (y + 20) (links_of scene.lanes scene.journal e) in
    let drawn : Tag = mark_at (style_of e) (mark_of e.act) (middle_of scene.lanes e.party) (y + 10) in
    let linked : b1 ≡ b0 ++ markup lines = first ∙ ap (λ (list : List Link). b0 ++ markup (link_tags scene.lanes (y + 20) list)) (same ∙ are) in
    let is : mark_at style mark middle (y + 10) ≡ drawn =
    ap (λ (text : List ℕ). mark_at text mark middle (y + 10)) styled
    ∙ (ap (λ (text : List ℕ). mark_at (style_of e) text middle (y + 10)) marked
    ∙ ap (λ (n : ℕ). mark_at (style_of e) (mark_of e.act) n (y + 10)) in_middle) in
    let shown : b2 ≡ b1 ++ markup (drawn ∷ []) = second ∙ ap (λ (tag : Tag). b1 ++ markup (tag ∷ [])) is in
    told_behind told b0 b1 b3 lines (drawn ∷ entry_words scene y place e) linked (told_behind told b1 b2 b3 (drawn ∷ []) (entry_words scene y place e) shown third)

-- a tag, some tags and others are drawn
pub row_told : {T E : Type 0} (told : Result T E) (b0 b1 b2 b3 : List ℕ) (rule : Tag) (wait figures : List Tag) → b1 ≡ b0 ++ markup (rule ∷ []) → b2 ≡ b1 ++ markup wait → OnOk told (b3 ≡ b2 ++ markup figures) → OnOk told (b3 ≡ b0 ++ markup (rule ∷ (wait ++ figures)))
row_told told b0 b1 b2 b3 rule wait figures first second third =
    told_behind told b0 b1 b3 (rule ∷ []) (wait ++ figures) first (told_behind told b1 b2 b3 wait figures second third)
