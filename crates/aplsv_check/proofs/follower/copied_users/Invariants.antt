use Rattle.std.proofs.Common.{◌≡◌, map, take}
use Rattle.bundle_text.specs.User.{plain_user}
use Rattle.aplsv_check.proofs.follower.copied_users.Given as goal

abbrev pub invariant-loop-user : goal.invariant-loop-user
invariant-loop-user l = map plain_user l.list.items ≡ map plain_user (take l.user-index l.users)
