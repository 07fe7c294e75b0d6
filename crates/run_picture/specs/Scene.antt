-- A scene of the code as plain data.
use Rattle.std.specs.Prelude.{◌≡◌, ◌≤◌, ◌+◌, ℕ, List, ◌∷◌, ◌++◌, All, drop, length, map, slice_index_or}
use Rattle.sv_events.specs.Answer.{done}
use Rattle.sv_events.specs.Entry.{PlainEntry, plain_entry, uncoupled}
use Rattle.sv_events.specs.declared.event.Act.TheVariants.{Leave}
use Rattle.run_picture.specs.Figure.{mark_at}
use Rattle.run_picture.specs.Label.{mark_of, style_of}
use Rattle.run_picture.specs.Lane.{middle_of}
use Rattle.run_picture.specs.Layout.{link_drop, mark_drop}
use Rattle.run_picture.specs.Link.{height_of, links_of}
use Rattle.run_picture.specs.Picture as picture
use Rattle.run_picture.specs.Picture.{entry_words, link_tags}
use Rattle.run_picture.specs.Tag.{Tag}
use Rattle.run_picture.specs.declared.row.Scene.{Scene}

-- the journal and the lanes
abbrev pub scene_in : Scene → picture.Scene
scene_in scene = record { journal = map plain_entry scene.entries.now; lanes = scene.lanes.now }

-- the entry with a number from 0
abbrev pub entry_at : Scene → ℕ → PlainEntry
entry_at scene at = slice_index_or (map plain_entry scene.shown.now) at (uncoupled 0 Leave done)

-- the entries behind it
abbrev pub behind : Scene → ℕ → List PlainEntry
behind scene at = drop (at + 1) (map plain_entry scene.shown.now)

-- the lines, the mark and the texts of an entry
abbrev pub figures_of : picture.Scene → ℕ → ℕ → PlainEntry → List Tag
figures_of scene y place e =
    link_tags scene.lanes (y + link_drop) (links_of scene.lanes scene.journal e)
    ++ (mark_at (style_of e) (mark_of e.act) (middle_of scene.lanes e.party) (y + mark_drop) ∷ entry_words scene y place e)

-- 2,000 entries at most, a lane for each at most, and their heights
pub record IsScene (scene : Scene) : Type 0 where
  pub few : length scene.shown.now ≤ 2000
  pub lanes : length scene.lanes.now ≤ 2000
  pub heights : scene.heights.now ≡ map (λ e. height_of scene.lanes.now (map plain_entry scene.entries.now) (plain_entry e)) scene.shown.now
  pub small : All (λ height. (26 ≤ height) × (height ≤ 404)) scene.heights.now
