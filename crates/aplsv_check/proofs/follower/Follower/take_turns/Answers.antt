use Rattle.std.proofs.Common.{◌≡◌, ◌∙◌, ℕ, Option, Some, false, ap, drop, length, refl, rules, subst, sym}
use Rattle.std.specs.List.{All}
use Rattle.std.specs.Prelude.{IfOk, IsTrue, is_some}
use Rattle.std.specs.Vec.{with_items}
use Rattle.aux_parties.specs.Auxiliaries.{auxiliary_at, is_auxiliary}
use Rattle.aux_parties.specs.declared.auxiliary.AuxiliaryRow.{AuxiliaryRow}
use Rattle.aux_parties.proofs.TableLemmas.{is_found, kind_found}
use Rattle.bundle_text.specs.Rules.{PlainBundle}
use Rattle.sv_rules.specs.Legal.{is_user}
use Rattle.aplsv_check.specs.Followed.{AreSeatsOf, IsFollowed, MadeIf}
use Rattle.aplsv_check.specs.declared.follower.Follower.{Follower}
use Rattle.aplsv_check.proofs.Begun.{people_of, seats_of_users}
use Rattle.aplsv_check.proofs.FollowerSteps.{users_took}
use Rattle.aplsv_check.proofs.follower.Follower.take_turns.Goals as goal

pub user_turns-requires-clause-users : goal.user_turns-requires-clause-users
user_turns-requires-clause-users c =
    let run = c.args.self.now in
    let some = c.requires.run in
    subst (λ list. All (λ seat. IsTrue (is_user run.core.users seat.session.user)) list) (sym c.deref_mut.ensures.value) (seats_of_users some.0 run some.1)

pub user_turns-requires-clause-people : goal.user_turns-requires-clause-people
user_turns-requires-clause-people c = let some = c.requires.run in people_of some.0 c.args.self.now some.1

pub user_turns-requires-clause-seated : goal.user_turns-requires-clause-seated
user_turns-requires-clause-seated c =
    let run = c.args.self.now in
    let some = c.requires.run in
    (some.0.users, subst (λ list. AreSeatsOf run.core.journal some.0.users list) (sym c.deref_mut.ensures.value) some.1.seats)

pub returns-in-None : goal.returns-in-None
returns-in-None c =
    let run = c.args.self.now in
    let after : Follower = record { core = c.user_turns.new.core; ten = c.args.self.now.ten; twenty = c.args.self.now.twenty; seats = with_items c.args.self.now.seats c.user_turns.new.seats } in
    let person : is_auxiliary c.args.party ≡ false = sym (is_found c.args.party) ∙ ap (λ (o : Option AuxiliaryRow). is_some o) (sym c.auxiliary_at.ensures ∙ c.in-None.is) in
    let many : length c.args.self.now.seats.items ≡ c.args.self.now.seats.len = search rules in
    users_took c.user_turns.result c.args.party run after c.deref_mut.result.now c.user_turns.new.seats (drop (length c.user_turns.new.seats) c.args.self.now.seats.items) c.args.self.now.seats.len person refl refl c.deref_mut.ensures.value many refl c.user_turns.ensures

pub returns-in-Some : goal.returns-in-Some
returns-in-Some c =
    let found : auxiliary_at c.args.party ≡ Some c.in-Some.row = sym c.auxiliary_at.ensures ∙ c.in-Some.is in
    let run = c.args.self.now in
    subst (λ (party : ℕ). IfOk c.serve.result (λ made. (bundle : PlainBundle) → IsFollowed bundle run → MadeIf bundle party run made c.serve.new.self)) (kind_found c.args.party c.in-Some.row found) c.serve.ensures
