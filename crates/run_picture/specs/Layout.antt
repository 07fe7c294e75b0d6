-- Where things stand on the page, in pixels.
use Rattle.std.specs.Prelude.{ℕ, ◌+◌, ◌-◌, ◌*◌}

-- the page in front of the lanes, for the numbers of the entries
abbrev pub margin : ℕ
margin = 64

-- a lane
abbrev pub lane_width : ℕ
lane_width = 104

-- from a lane's left edge to the middle of its marks
abbrev pub mark_inset : ℕ
mark_inset = 12

-- the page above the first entry
abbrev pub head : ℕ
head = 72

-- an entry
abbrev pub entry_height : ℕ
entry_height = 26

-- each line between lanes behind the first of its entry
abbrev pub link_height : ℕ
link_height = 6

-- from the upper edge of an entry to its mark
abbrev pub mark_drop : ℕ
mark_drop = 10

-- from the upper edge to the foot of its texts
abbrev pub text_drop : ℕ
text_drop = 14

-- from the upper edge to its first line between lanes
abbrev pub link_drop : ℕ
link_drop = 20

-- a glyph
abbrev pub advance : ℕ
advance = 7

-- the most glyphs of what stands beside a mark
abbrev pub most_beside : ℕ
most_beside = 11

-- the most glyphs of an entry's line
abbrev pub most_of_line : ℕ
most_of_line = 80

-- the most lines between lanes of one entry
abbrev pub most_links : ℕ
most_links = 64

-- half the width of a bar
abbrev pub half_bar : ℕ
half_bar = 7

-- the width of a bar
abbrev pub bar_width : ℕ
bar_width = 14

-- the page below the last entry, for what the marks mean
abbrev pub foot : ℕ
foot = 216

-- the middle of the lane with a number from 0
abbrev pub lane_middle : ℕ → ℕ
lane_middle index = margin + mark_inset + lane_width * index

-- where the entries' lines begin, behind so many lanes
abbrev pub line_begin : ℕ → ℕ
line_begin lanes = margin + lane_width * lanes + mark_inset

-- how wide the page is with so many lanes
abbrev pub page_width : ℕ → ℕ
page_width lanes = line_begin lanes + advance * most_of_line + mark_inset

-- how high an entry with so many lines between lanes is
abbrev pub height_with : ℕ → ℕ
height_with links = entry_height + link_height * (links - 1)
