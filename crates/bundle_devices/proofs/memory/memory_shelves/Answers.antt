use Rattle.std.proofs.Common.{◌∙◌, ℕ, [], List, ap, map, sym}
use Rattle.std.proofs.lemmas.List.{take_all}
use Rattle.std.proofs.lemmas.Simd.{map-map}
use Rattle.apl_io.specs.Kept.{Keeper, new_keeper}
use Rattle.bundle_text.specs.User.{PlainUser, plain_user}
use Rattle.bundle_text.specs.declared.user.BundleUser.{BundleUser}
use Rattle.bundle_devices.proofs.memory.memory_shelves.Goals as goal

abbrev empty : PlainUser → Keeper (ℕ × List ℕ)
empty user = new_keeper [] []

pub returns-clause-shelves : goal.returns-clause-shelves
returns-clause-shelves c =
    let users = c.users-users.result.now in
    c.loop-user.invariant
    ∙ ap (λ (list : List BundleUser). map (λ user. empty (plain_user user)) list) (take_all c.loop-user._user-index users c.loop-user-test.false)
    ∙ sym (map-map empty plain_user users)
    ∙ ap (map empty) c.users-users.ensures.value
