use Rattle.std.proofs.Common.{◌≡◌, ◌≤◌, ◌+◌, ◌*◌, ◌++◌, drop, map}
use Rattle.sv_events.specs.Entry.{plain_entry}
use Rattle.run_picture.specs.Picture.{rows}
use Rattle.run_picture.specs.Scene.{scene_in}
use Rattle.run_picture.specs.Tag.{markup}
use Rattle.run_picture.proofs.row.add_rows.Given as goal

-- with the entries that are left all are drawn
abbrev pub invariant-loop-at : goal.invariant-loop-at
invariant-loop-at l = record {
  same : l.fn.bytes.items ++ markup (rows (scene_in l.scene) 72 l.first (map plain_entry l.scene.shown.now)) ≡ l.bytes.items ++ markup (rows (scene_in l.scene) l.y (l.first + l.at) (drop l.at (map plain_entry l.scene.shown.now)));
  small : l.y ≤ 72 + 404 * l.at;
}
