use Rattle.std.proofs.Common.{◌∙◌, [], ℕ, List, ap, subst, sym}
use Rattle.party_turns.proofs.Parts.{plain_numbers, users_are_people}
use Rattle.sv_core.specs.Core.{ArePeople, PlainCore}
use Rattle.aplsv_check.proofs.follower.Follower.new.Goals as goal

pub core_of-requires : goal.core_of-requires
core_of-requires c =
    record { people = subst ArePeople (sym (plain_numbers c.users-users.result.now c.args.bundle.now.users c.users-users.ensures.value)) (users_are_people c.args.bundle.now.users c.users-users.ensures.bundle.each) }

pub returns-clause-followed : goal.returns-clause-followed
returns-clause-followed c =
    c.begun.ensures.followed c.args.bundle.now c.users-users.ensures.bundle (c.in_ok-copies.ensures ∙ c.users-users.ensures.value)
    (record { text = c.in_ok-devices.ensures.text; clock = c.in_ok-devices.ensures.clock; shelves = c.in_ok-devices.ensures.shelves })
    (c.in_ok-core.ensures ∙ ap (λ (list : List ℕ). let core : PlainCore = record { users = list; journal = [] } in core) (plain_numbers c.users-users.result.now c.args.bundle.now.users c.users-users.ensures.value))
