use Rattle.std.proofs.Common.{◌≡◌, ◌+◌, ◌*◌, ◌++◌, drop}
use Rattle.run_picture.specs.Picture.{link_tags}
use Rattle.run_picture.specs.Tag.{markup}
use Rattle.run_picture.proofs.row.add_links.Given as goal

-- with the lines that are left all are drawn
abbrev pub invariant-loop-link : goal.invariant-loop-link
invariant-loop-link l = record {
  same : l.fn.bytes.items ++ markup (link_tags l.lanes l.fn.y l.links) ≡ l.bytes.items ++ markup (link_tags l.lanes l.y (drop l.link-index l.links));
  y : l.y ≡ l.fn.y + 6 * l.link-index;
}
