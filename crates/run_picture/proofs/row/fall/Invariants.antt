use Rattle.std.proofs.Common.{◌≡◌, ◌≤◌, ◌+◌, ◌*◌, drop, map}
use Rattle.sv_events.specs.Entry.{plain_entry}
use Rattle.run_picture.specs.Picture.{fall}
use Rattle.run_picture.specs.Scene.{scene_in}
use Rattle.run_picture.proofs.row.fall.Given as goal

-- the entries so far are none of the party, and their heights are summed
abbrev pub invariant-loop-at : goal.invariant-loop-at
invariant-loop-at l = record {
  same : fall (scene_in l.scene) l.party (drop l.fn.from (map plain_entry l.scene.shown.now)) ≡ l.depth + fall (scene_in l.scene) l.party (drop l.at (map plain_entry l.scene.shown.now));
  small : l.depth ≤ 404 * l.at;
}
