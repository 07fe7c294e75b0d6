use Rattle.std.proofs.Common.{◌≡◌, ◌*◌, ◌≤◌, length, map, take}
use Rattle.std.specs.List.{flat_map}
use Rattle.line_text.specs.Lines.{lines_text}
use Rattle.bundle_text.specs.User.{plain_user}
use Rattle.bundle_text.specs.Offset.{lines_of_user}
use Rattle.bundle_text.proofs.offset.users_size.Given as goal

abbrev pub invariant-loop-user : goal.invariant-loop-user
invariant-loop-user l = record {
  size : l.size ≡ length (lines_text (flat_map lines_of_user (map plain_user (take l.user-index l.users))));
  small : l.size ≤ 30020026 * l.user-index;
}
