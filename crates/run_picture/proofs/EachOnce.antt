-- A picture shows each entry once.
use Rattle.std.proofs.Common.{◌≡◌, ◌+◌, ◌-◌, ℕ, Bool, true, false, cond, ltb, List, [], ◌∷◌, ◌++◌, append-nil, codes, length, refl, ap, ◌∙◌}
use Rattle.std.specs.Fmt.{decimal}
use Rattle.std.proofs.lemmas.List.Concat.{flat_map-append}
use Rattle.sv_events.specs.Entry.{PlainEntry}
use Rattle.sv_rules.specs.Entries.{is_held, kind_of}
use Rattle.run_picture.specs.Figure.{bar_at, mark_at, words}
use Rattle.run_picture.specs.Label.{mark_of, style_of}
use Rattle.run_picture.specs.Lane.{middle_of}
use Rattle.run_picture.specs.Layout.{head}
use Rattle.run_picture.specs.Link.{height_of, links_of}
use Rattle.run_picture.specs.Picture.{Scene, bottom, entry_tags, entry_words, fall, foot_tags, head_tags, lane_tags, left_out_tags, link_tags, rows, scene_of, shown_line, shown_text, wait_tags}
use Rattle.run_picture.specs.Shown.{ShowEachOnce, lines_from, picture_tags, texts_of}
use Rattle.run_picture.specs.Style.{drawing}
use Rattle.run_picture.specs.Tag.{Tag}
use Rattle.run_picture.specs.Window.{entries_in}
use Rattle.run_picture.specs.declared.link.Link.{Link}
use Rattle.run_picture.specs.declared.window.Window.{Window}

-- the lines of entries that stand in tags
abbrev lines_in : List Tag → List (List ℕ)
lines_in tags = texts_of (codes "entry") tags

lines_append : (xs ys : List Tag) → lines_in (xs ++ ys) ≡ lines_in xs ++ lines_in ys
lines_append xs ys = flat_map-append _ xs ys

behind_none : (xs ys : List Tag) → lines_in xs ≡ [] → lines_in (xs ++ ys) ≡ lines_in ys
behind_none xs ys none = lines_append xs ys ∙ ap (λ (lines : List (List ℕ)). lines ++ lines_in ys) none

bar_silent : (x y width height : ℕ) (b : Bool) → lines_in (cond b (bar_at (codes "hold") x y width height ∷ []) []) ≡ []
bar_silent x y width height true = refl
bar_silent x y width height false = refl

note_silent : (x y : ℕ) (text : List ℕ) (b : Bool) → lines_in (cond b (words (codes "note") x y text ∷ []) []) ≡ []
note_silent x y text true = refl
note_silent x y text false = refl

links_silent : (lanes : List ℕ) (y : ℕ) (links : List Link) → lines_in (link_tags lanes y links) ≡ []
links_silent lanes y [] = refl
links_silent lanes y (link ∷ links) = links_silent lanes (y + 6) links

lanes_silent : (low : ℕ) (lanes parties : List ℕ) → lines_in (lane_tags low lanes parties) ≡ []
lanes_silent low lanes [] = refl
lanes_silent low lanes (party ∷ parties) = lanes_silent low lanes parties

entry_line : (scene : Scene) (y place : ℕ) (e : PlainEntry) (behind : List PlainEntry) → lines_in (entry_tags scene y place e behind) ≡ shown_line place e ∷ []
entry_line scene y place e behind =
    let links = link_tags scene.lanes (y + 20) (links_of scene.lanes scene.journal e) in
    let last = mark_at (style_of e) (mark_of e.act) (middle_of scene.lanes e.party) (y + 10) ∷ entry_words scene y place e in
    behind_none (wait_tags scene y e behind) (links ++ last) (bar_silent (middle_of scene.lanes e.party - 7) (y + 10) 14 (height_of scene.lanes scene.journal e - 10 + fall scene e.party behind) (is_held (kind_of e.answer)))
    ∙ behind_none links last (links_silent scene.lanes (y + 20) (links_of scene.lanes scene.journal e))

rows_lines : (scene : Scene) (y place : ℕ) (entries : List PlainEntry) → lines_in (rows scene y place entries) ≡ lines_from place entries
rows_lines scene y place [] = refl
rows_lines scene y place (e ∷ behind) =
    let below = rows scene (y + height_of scene.lanes scene.journal e) (place + 1) behind in
    lines_append (entry_tags scene y place e behind) below
    ∙ (ap (λ (lines : List (List ℕ)). lines ++ lines_in below) (entry_line scene y place e behind)
    ∙ ap (λ (lines : List (List ℕ)). shown_line place e ∷ lines) (rows_lines scene (y + height_of scene.lanes scene.journal e) (place + 1) behind))

head_silent : (window : Window) (count : ℕ) (lanes : List ℕ) (low : ℕ) → lines_in (head_tags window count lanes low) ≡ []
head_silent window count lanes low =
    let note = words (codes "note") 12 18 (shown_text window count) in
    let lane = lane_tags low lanes lanes in
    behind_none drawing (note ∷ (left_out_tags window.left_out ++ lane)) refl
    ∙ (behind_none (left_out_tags window.left_out) lane (note_silent 12 36 (decimal window.left_out ++ codes " entries more are left out here") (ltb 0 window.left_out)) ∙ lanes_silent low lanes lanes)

foot_silent : (lanes : List ℕ) (low : ℕ) → lines_in (foot_tags lanes low) ≡ []
foot_silent lanes low = refl

append_none : (lines none : List (List ℕ)) → none ≡ [] → lines ++ none ≡ lines
append_none lines none e = ap (λ (more : List (List ℕ)). lines ++ more) e ∙ append-nil lines

pub shows_each : (window : Window) (journal : List PlainEntry) → ShowEachOnce window journal (picture_tags window journal)
shows_each window journal =
    let shown = entries_in window journal in
    let scene = scene_of window journal in
    let low = bottom scene head shown in
    let drawn = rows scene head window.first shown in
    behind_none (head_tags window (length scene.journal) scene.lanes low) (drawn ++ foot_tags scene.lanes low) (head_silent window (length scene.journal) scene.lanes low)
    ∙ (lines_append drawn (foot_tags scene.lanes low)
    ∙ (append_none (lines_in drawn) (lines_in (foot_tags scene.lanes low)) (foot_silent scene.lanes low)
    ∙ rows_lines scene head window.first shown))
