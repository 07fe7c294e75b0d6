-- How things are drawn, in light and in dark, and what the marks mean.
use Rattle.std.specs.Prelude.{ℕ, ◌+◌, List, [], ◌∷◌, ◌++◌, codes}
use Rattle.apl_arrays.specs.Glyph.{left_arrow, right_arrow}
use Rattle.run_picture.specs.Figure.{bar_at, mark_at, stroke, words}
use Rattle.run_picture.specs.Layout.{bar_width}
use Rattle.run_picture.specs.Tag.{Tag, begins, finishes, single, size_of, word_of, worded}

-- what is drawn so in light
abbrev pub light_rules : List ℕ
light_rules =
    codes "svg{background:#fff;font:12px 'APL385 Unicode','APL386 Unicode','DejaVu Sans Mono',FreeMono,Menlo,Consolas,monospace}"
    ++ (codes "text{fill:#1a1a1a}.number,.note{fill:#666}.number{text-anchor:end}.lane{font-weight:bold}"
    ++ (codes ".rule{stroke:#000;stroke-opacity:.08}.way{stroke:#bbb}.hold{fill:#f0c36d;fill-opacity:.6;stroke:#b8860b}"
    ++ (codes ".offered{stroke:#777;stroke-dasharray:4 3;marker-end:url(#arrow)}"
    ++ (codes ".coupled{stroke:#0a7a3d;stroke-width:2;marker-start:url(#dot);marker-end:url(#dot)}.dot{fill:#0a7a3d}.arrow{fill:none;stroke:#777}"
    ++ codes "use{stroke:#1a1a1a;stroke-width:1.5;fill:#fff}use.set{fill:#c2410c;stroke:#c2410c}use.use{fill:#1d4ed8;stroke:#1d4ed8}"))))

-- what is drawn otherwise in dark
abbrev pub dark_rules : List ℕ
dark_rules =
    codes "@media(prefers-color-scheme:dark){svg{background:#16181d}text{fill:#e6e6e6}.number,.note{fill:#9aa0a6}"
    ++ (codes ".rule{stroke:#fff;stroke-opacity:.1}.way{stroke:#4b5058}.hold{fill:#7a5a12;stroke:#d9a520}.offered,.arrow{stroke:#9aa0a6}"
    ++ (codes ".coupled{stroke:#4ade80}.dot{fill:#4ade80}use{stroke:#e6e6e6;fill:#16181d}"
    ++ codes "use.set{fill:#fb923c;stroke:#fb923c}use.use{fill:#7aa2ff;stroke:#7aa2ff}}"))

-- how all is drawn
unfoldable pub style_rules : List ℕ
style_rules = light_rules ++ dark_rules

-- the shape of a mark, around its point
abbrev pub shape : List ℕ → List ℕ → Tag
shape mark path = single (codes "path") (word_of (codes "id") mark ∷ word_of (codes "d") path ∷ [])

-- an end of a line between lanes, which a shape follows
abbrev pub line_end : List ℕ → ℕ → ℕ → Tag
line_end name middle size =
    begins (codes "marker")
    (word_of (codes "id") name ∷ size_of (codes "refX") middle ∷ size_of (codes "refY") 4 ∷ size_of (codes "markerWidth") size ∷ size_of (codes "markerHeight") size
    ∷ word_of (codes "viewBox") (codes "0 0 8 8") ∷ word_of (codes "orient") (codes "auto") ∷ [])

-- the ends of lines
abbrev pub line_ends : List Tag
line_ends =
    line_end (codes "arrow") 8 8
    ∷ single (codes "path") (word_of (codes "class") (codes "arrow") ∷ word_of (codes "d") (codes "M0,0L8,4L0,8") ∷ [])
    ∷ finishes (codes "marker")
    ∷ line_end (codes "dot") 4 4
    ∷ single (codes "circle") (word_of (codes "class") (codes "dot") ∷ size_of (codes "cx") 4 ∷ size_of (codes "cy") 4 ∷ size_of (codes "r") 4 ∷ [])
    ∷ finishes (codes "marker")
    ∷ []

-- the marks
abbrev pub shapes : List Tag
shapes =
    shape (codes "offer") (codes "M-5,0A5,5 0 1 0 5,0A5,5 0 1 0 -5,0Z")
    ∷ shape (codes "retract") (codes "M-4,-4L4,4M4,-4L-4,4")
    ∷ shape (codes "control") (codes "M-4,-4H4V4H-4Z")
    ∷ shape (codes "question") (codes "M-2,0A2,2 0 1 0 2,0A2,2 0 1 0 -2,0Z")
    ∷ shape (codes "set") (codes "M-4,-5L5,0L-4,5Z")
    ∷ shape (codes "use") (codes "M4,-5L-5,0L4,5Z")
    ∷ shape (codes "leave") (codes "M-6,0H6")
    ∷ []

-- how things are drawn
abbrev pub drawing : List Tag
drawing =
    worded (codes "style") [] style_rules
    ∷ begins (codes "defs") []
    ∷ (line_ends ++ (shapes ++ finishes (codes "defs") ∷ []))

-- a line that says what a mark means
abbrev pub meaning : ℕ → List ℕ → Tag
meaning y text = words (codes "note") 96 y text

-- a mark, and what it means
abbrev pub mark_meaning : List ℕ → List ℕ → ℕ → List Tag
mark_meaning mark text y = mark_at mark mark 76 y ∷ meaning (y + 4) text ∷ []

-- what the marks mean, below the entries
abbrev pub mark_meanings : ℕ → List Tag
mark_meanings low =
    mark_meaning (codes "offer") (codes "an offer") (low + 20)
    ++ (mark_meaning (codes "retract") (codes "a name is taken back") (low + 38)
    ++ (mark_meaning (codes "control") (codes "a control is set") (low + 56)
    ++ (mark_meaning (codes "question") (codes "a question") (low + 74)
    ++ (mark_meaning (codes "set") (codes "a set: the name" ++ left_arrow ∷ codes "the value") (low + 92)
    ++ (mark_meaning (codes "use") (codes "a use: the name" ++ right_arrow ∷ codes "the value") (low + 110)
    ++ mark_meaning (codes "leave") (codes "a leave") (low + 128))))))

-- a bar, and what it means
abbrev pub wait_meaning : ℕ → List Tag
wait_meaning low =
    bar_at (codes "hold") 69 (low + 141) bar_width 10
    ∷ meaning (low + 150) (codes "hollow: refused, by which element and whose 1; the bar ends where the wait does, if here")
    ∷ []

-- lines as they stand between lanes, and what they mean
abbrev pub line_meanings : ℕ → List Tag
line_meanings low =
    stroke (codes "offered") 66 (low + 164) 88 (low + 164)
    ∷ meaning (low + 168) (codes "offered to this party, where it has a lane here")
    ∷ stroke (codes "coupled") 66 (low + 182) 88 (low + 182)
    ∷ meaning (low + 186) (codes "coupled, where both have lanes here; 64 lines of an entry at most")
    ∷ []

-- the points of a cut, and what they mean
abbrev pub cut_meaning : ℕ → List Tag
cut_meaning low =
    words (codes "note") 69 (low + 204) (codes "..") ∷ meaning (low + 204) (codes "the text goes on, and is cut here") ∷ []

-- what the other figures mean
abbrev pub figure_meanings : ℕ → List Tag
figure_meanings low = wait_meaning low ++ (line_meanings low ++ cut_meaning low)

-- what all of it means
abbrev pub meanings : ℕ → List Tag
meanings low = mark_meanings low ++ figure_meanings low
