-- The picture, from its head to its foot.
use Rattle.std.proofs.Common.{◌≡◌, ◌<◌, ◌+◌, ◌-◌, ℕ, List, [], ◌∷◌, ◌++◌, codes, get_or, take, drop, map, length, Result, sym, ap, ◌∙◌}
use Rattle.std.specs.List.{sum}
use Rattle.std.specs.Result.{OnOk}
use Rattle.std.proofs.lemmas.List.{take_more, take-map, drop-map}
use Rattle.line_text.specs.Lines.{line_text}
use Rattle.sv_events.specs.Entry.{PlainEntry, plain_entry}
use Rattle.sv_events.specs.declared.entry.Entry.{Entry}
use Rattle.run_picture.specs.Figure.{stroke, words}
use Rattle.run_picture.specs.Lane.{lanes_of}
use Rattle.run_picture.specs.Layout.{page_width}
use Rattle.run_picture.specs.Link.{height_of}
use Rattle.run_picture.specs.Picture.{Scene, bottom, foot_tags, head_tags, lane_tags, left_out_tags, page, picture_of, rows, scene_of, shown_text}
use Rattle.run_picture.specs.Shown.{picture_text}
use Rattle.run_picture.specs.Style.{drawing, meanings}
use Rattle.run_picture.specs.Tag.{Tag, finishes, markup}
use Rattle.run_picture.specs.Window.{entries_in}
use Rattle.run_picture.specs.declared.window.Window.{Window}
use Rattle.run_picture.proofs.Heights.{bottom_is}
use Rattle.run_picture.proofs.Markup.{added, told_behind}
use Rattle.run_picture.proofs.Pages.{lanes_joined}
use Rattle.run_picture.proofs.TagLines.{begun}
use Rattle.run_picture.proofs.TagsAdded.{word_tag}

-- one lane more
pub lanes_more : (low at other : ℕ) (lanes bytes before after : List ℕ) → at < length lanes → before ≡ bytes ++ markup (lane_tags low lanes (take at lanes)) → after ≡ before ++ markup (lane_tags low lanes (get_or lanes at other ∷ [])) → after ≡ bytes ++ markup (lane_tags low lanes (take (at + 1) lanes))
lanes_more low at other lanes bytes before after within first second =
    added bytes before after (lane_tags low lanes (take at lanes)) (lane_tags low lanes (get_or lanes at other ∷ [])) first second
    ∙ (ap (λ (tags : List Tag). bytes ++ markup tags) (sym (lanes_joined low lanes (take at lanes) (get_or lanes at other ∷ [])))
    ∙ ap (λ (parties : List ℕ). bytes ++ markup (lane_tags low lanes parties)) (sym (take_more lanes at other within)))

-- what stands above the entries
pub head_told : {T E : Type 0} (told : Result T E) (b0 b1 b2 b3 b4 b5 text lanes : List ℕ) (window : Window) (count wide low : ℕ) → wide ≡ page_width (length lanes) → text ≡ shown_text window count → b1 ≡ b0 ++ markup (page wide (low + 216) ∷ []) → b2 ≡ b1 ++ markup drawing → b3 ≡ b2 ++ markup (words (codes "note") 12 18 text ∷ []) → b4 ≡ b3 ++ markup (left_out_tags window.left_out) → OnOk told (b5 ≡ b4 ++ markup (lane_tags low lanes lanes)) → OnOk told (b5 ≡ b0 ++ markup (head_tags window count lanes low))
head_told told b0 b1 b2 b3 b4 b5 text lanes window count wide low width shows e1 e2 e3 e4 e5 =
    let begin : Tag = page (page_width (length lanes)) (low + 216) in
    let note : Tag = words (codes "note") 12 18 (shown_text window count) in
    let left : List Tag = left_out_tags window.left_out in
    let ways : List Tag = lane_tags low lanes lanes in
    let f1 : b1 ≡ b0 ++ markup (begin ∷ []) = e1 ∙ ap (λ (n : ℕ). b0 ++ markup (page n (low + 216) ∷ [])) width in
    let f3 : b3 ≡ b2 ++ markup (note ∷ []) = e3 ∙ ap (λ (line : List ℕ). b2 ++ markup (words (codes "note") 12 18 line ∷ [])) shows in
    told_behind told b0 b1 b5 (begin ∷ []) (drawing ++ (note ∷ (left ++ ways))) f1
    (told_behind told b1 b2 b5 drawing (note ∷ (left ++ ways)) e2
    (told_behind told b2 b3 b5 (note ∷ []) (left ++ ways) f3
    (told_behind told b3 b4 b5 left ways e4 e5)))

-- the entries of a window, as plain data
pub plain_in : (window : Window) (entries : List Entry) → map plain_entry (entries_in window entries) ≡ entries_in window (map plain_entry entries)
plain_in window entries =
    sym (ap (take window.shown) (drop-map plain_entry (window.first - 1) entries) ∙ take-map plain_entry window.shown (drop (window.first - 1) entries))

-- the whole picture, with what it is drawn with
as_drawn : (b0 b1 b2 b3 b4 b5 : List ℕ) (window : Window) (shown : List PlainEntry) (scene : Scene) (low : ℕ) → b0 ≡ [] → b1 ≡ b0 ++ markup (head_tags window (length scene.journal) scene.lanes low) → b2 ≡ b1 ++ markup (rows scene 72 window.first shown) → b3 ≡ b2 ++ markup (stroke (codes "rule") 0 low (page_width (length scene.lanes)) low ∷ []) → b4 ≡ b3 ++ markup (meanings low) → b5 ≡ b4 ++ line_text (codes "</svg>") → b5 ≡ markup (picture_of shown window scene low)
as_drawn b0 b1 b2 b3 b4 b5 window shown scene low e0 e1 e2 e3 e4 e5 =
    let rule : Tag = stroke (codes "rule") 0 low (page_width (length scene.lanes)) low in
    let above : List Tag = head_tags window (length scene.journal) scene.lanes low in
    let drawn : List Tag = rows scene 72 window.first shown in
    let last : b5 ≡ b4 ++ markup (finishes (codes "svg") ∷ []) = word_tag b4 b5 (finishes (codes "svg")) e5 in
    let meant : b5 ≡ b3 ++ markup (meanings low ++ finishes (codes "svg") ∷ []) = added b3 b4 b5 (meanings low) (finishes (codes "svg") ∷ []) e4 last in
    let below : b5 ≡ b2 ++ markup (rule ∷ (meanings low ++ finishes (codes "svg") ∷ [])) = added b2 b3 b5 (rule ∷ []) (meanings low ++ finishes (codes "svg") ∷ []) e3 meant in
    let entries : b5 ≡ b1 ++ markup (drawn ++ foot_tags scene.lanes low) = added b1 b2 b5 drawn (foot_tags scene.lanes low) e2 below in
    let whole : b5 ≡ b0 ++ markup (above ++ (drawn ++ foot_tags scene.lanes low)) = added b0 b1 b5 above (drawn ++ foot_tags scene.lanes low) e1 entries in
    begun b0 b5 (markup (picture_of shown window scene low)) e0 whole

-- the picture of the entries of a window
pub picture_told : (b0 b1 b2 b3 b4 b5 : List ℕ) (window : Window) (journal shown : List PlainEntry) (lanes heights : List ℕ) (low count : ℕ) → shown ≡ entries_in window journal → lanes ≡ lanes_of shown → heights ≡ map (λ e. height_of lanes journal e) shown → low ≡ 72 + sum heights → count ≡ length journal → b0 ≡ [] → b1 ≡ b0 ++ markup (head_tags window count lanes low) → b2 ≡ b1 ++ markup (rows (record { journal = journal; lanes = lanes }) 72 window.first shown) → b3 ≡ b2 ++ markup (stroke (codes "rule") 0 low (page_width (length lanes)) low ∷ []) → b4 ≡ b3 ++ markup (meanings low) → b5 ≡ b4 ++ line_text (codes "</svg>") → b5 ≡ picture_text window journal
picture_told b0 b1 b2 b3 b4 b5 window journal shown lanes heights low count are in_lanes in_heights low_is counted e0 e1 e2 e3 e4 e5 =
    let scene : Scene = record { journal = journal; lanes = lanes } in
    let final : Scene = scene_of window journal in
    let same : scene ≡ final = ap (λ (list : List ℕ). let one : Scene = record { journal = journal; lanes = list } in one) (in_lanes ∙ ap lanes_of are) in
    let lowest : low ≡ bottom final 72 (entries_in window journal) =
    low_is
    ∙ (ap (λ (list : List ℕ). 72 + sum list) in_heights
    ∙ (sym (bottom_is scene 72 shown)
    ∙ (ap (λ (one : Scene). bottom one 72 shown) same ∙ ap (bottom final 72) are))) in
    let head : b1 ≡ b0 ++ markup (head_tags window (length journal) lanes low) = e1 ∙ ap (λ (n : ℕ). b0 ++ markup (head_tags window n lanes low)) counted in
    as_drawn b0 b1 b2 b3 b4 b5 window shown scene low e0 head e2 e3 e4 e5
    ∙ (ap (λ (list : List PlainEntry). markup (picture_of list window scene low)) are
    ∙ (ap (λ (one : Scene). markup (picture_of (entries_in window journal) window one low)) same
    ∙ ap (λ (edge : ℕ). markup (picture_of (entries_in window journal) window final edge)) lowest))
