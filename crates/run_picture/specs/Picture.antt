-- A picture of entries: the tags, from the first to the last.
use Rattle.std.specs.Prelude.{ℕ, ◌+◌, ◌-◌, ◌==◌, nat_lt, List, [], ◌∷◌, ◌++◌, codes, decimal, length, if◌then◌else◌}
use Rattle.sv_events.specs.Entry.{PlainEntry}
use Rattle.sv_journal.specs.EntryText.{entry_text}
use Rattle.sv_rules.specs.Entries.{is_held, kind_of}
use Rattle.run_picture.specs.Figure.{bar_at, mark_at, stroke, words, words_up_to}
use Rattle.run_picture.specs.Label.{cut, label_of, mark_of, style_of}
use Rattle.run_picture.specs.Lane.{lanes_of, middle_of}
use Rattle.run_picture.specs.Layout.{bar_width, foot, half_bar, head, line_begin, link_drop, link_height, mark_drop, most_of_line, page_width, text_drop}
use Rattle.run_picture.specs.Link.{height_of, links_of}
use Rattle.run_picture.specs.Style.{drawing, meanings}
use Rattle.run_picture.specs.Tag.{Tag, begins, finishes, size_of, word_of}
use Rattle.run_picture.specs.Window.{entries_in}
use Rattle.run_picture.specs.declared.link.Link.{Link}
use Rattle.run_picture.specs.declared.window.Window.{Window}

-- what each entry is drawn with: the journal with its oldest entry first, and the lanes
pub record Scene : Type 0 where
  pub journal : List PlainEntry
  pub lanes : List ℕ

-- a line between lanes: of an offer, or of a coupling
abbrev pub link_style : Link → List ℕ
link_style link = if link.coupled then codes "coupled" else codes "offered"

-- the lines of an entry, one below another
abbrev pub link_tags : List ℕ → ℕ → List Link → List Tag
link_tags lanes y [] = []
link_tags lanes y (link ∷ links) =
    stroke (link_style link) (middle_of lanes link.from) y (middle_of lanes link.to) y ∷ link_tags lanes (y + link_height) links

-- how far a bar goes on over the entries behind: to the mark of its party's next entry, or to the last entry's lower edge
abbrev pub fall : Scene → ℕ → List PlainEntry → ℕ
fall scene party [] = 0
fall scene party (e ∷ behind) = if e.party == party then mark_drop else height_of scene.lanes scene.journal e + fall scene party behind

-- the bar of an entry that is held, down to the one that ends the wait
abbrev pub wait_tags : Scene → ℕ → PlainEntry → List PlainEntry → List Tag
wait_tags scene y e behind =
    if is_held (kind_of e.answer) then
    bar_at (codes "hold") (middle_of scene.lanes e.party - half_bar) (y + mark_drop) bar_width
    (height_of scene.lanes scene.journal e - mark_drop + fall scene e.party behind)
    ∷ []
    else []

-- the line of an entry as it is printed, of 80 glyphs at most
abbrev pub shown_line : ℕ → PlainEntry → List ℕ
shown_line place e = cut most_of_line (entry_text place e)

-- the texts of an entry: its number at the margin, the text beside its mark, and its line
abbrev pub entry_words : Scene → ℕ → ℕ → PlainEntry → List Tag
entry_words scene y place e =
    words_up_to (codes "number") 52 (y + text_drop) (decimal place)
    ∷ words (codes "label") (middle_of scene.lanes e.party + 11) (y + text_drop) (label_of e)
    ∷ words (codes "entry") (line_begin (length scene.lanes)) (y + text_drop) (shown_line place e)
    ∷ []

-- an entry, in front of those behind it
abbrev pub entry_tags : Scene → ℕ → ℕ → PlainEntry → List PlainEntry → List Tag
entry_tags scene y place e behind =
    stroke (codes "rule") 0 y (page_width (length scene.lanes)) y
    ∷ (wait_tags scene y e behind
    ++ (link_tags scene.lanes (y + link_drop) (links_of scene.lanes scene.journal e)
    ++ (mark_at (style_of e) (mark_of e.act) (middle_of scene.lanes e.party) (y + mark_drop) ∷ entry_words scene y place e)))

-- entries, one below another
abbrev pub rows : Scene → ℕ → ℕ → List PlainEntry → List Tag
rows scene y place [] = []
rows scene y place (e ∷ behind) =
    entry_tags scene y place e behind ++ rows scene (y + height_of scene.lanes scene.journal e) (place + 1) behind

-- the lower edge of entries
abbrev pub bottom : Scene → ℕ → List PlainEntry → ℕ
bottom scene y [] = y
bottom scene y (e ∷ behind) = bottom scene (y + height_of scene.lanes scene.journal e) behind

-- a lane: its party, and a line down to the lower edge
abbrev pub lane_tags : ℕ → List ℕ → List ℕ → List Tag
lane_tags low lanes [] = []
lane_tags low lanes (party ∷ parties) =
    words (codes "lane") (middle_of lanes party - 6) 60 (decimal party)
    ∷ stroke (codes "way") (middle_of lanes party) 68 (middle_of lanes party) low
    ∷ lane_tags low lanes parties

-- which entries are shown, of how many
abbrev pub shown_text : Window → ℕ → List ℕ
shown_text window count =
    codes "entries "
    ++ (decimal window.first ++ (codes " to " ++ (decimal (window.first + window.shown - 1) ++ (codes " of " ++ decimal count))))

-- how many are left out, where some are
abbrev pub left_out_tags : ℕ → List Tag
left_out_tags left =
    if nat_lt 0 left then words (codes "note") 12 36 (decimal left ++ codes " entries more are left out here") ∷ [] else []

-- the whole page: its size
abbrev pub page : ℕ → ℕ → Tag
page width height =
    begins (codes "svg")
    (word_of (codes "xmlns") (codes "http://www.w3.org/2000/svg") ∷ word_of (codes "xml:space") (codes "preserve")
    ∷ size_of (codes "width") width ∷ size_of (codes "height") height
    ∷ word_of (codes "viewBox") (codes "0 0 " ++ (decimal width ++ (codes " " ++ decimal height))) ∷ [])

-- what stands above the entries: the page, how things are drawn, what is shown of how many, and the lanes
abbrev pub head_tags : Window → ℕ → List ℕ → ℕ → List Tag
head_tags window count lanes low =
    page (page_width (length lanes)) (low + foot)
    ∷ (drawing
    ++ (words (codes "note") 12 18 (shown_text window count) ∷ (left_out_tags window.left_out ++ lane_tags low lanes lanes)))

-- what stands below them: a line, what the figures mean, and the end of the page
abbrev pub foot_tags : List ℕ → ℕ → List Tag
foot_tags lanes low = stroke (codes "rule") 0 low (page_width (length lanes)) low ∷ (meanings low ++ finishes (codes "svg") ∷ [])

-- a picture of entries that are shown of a journal, down to their lower edge
abbrev pub picture_of : List PlainEntry → Window → Scene → ℕ → List Tag
picture_of shown window scene low =
    head_tags window (length scene.journal) scene.lanes low ++ (rows scene head window.first shown ++ foot_tags scene.lanes low)

-- what the entries of a window are drawn with
abbrev pub scene_of : Window → List PlainEntry → Scene
scene_of window journal = record { journal = journal; lanes = lanes_of (entries_in window journal) }
