use Rattle.std.proofs.Common.{◌≡◌, ◌≢◌, ◌<◌, ◌∷◌, ap, arith, length, List, rules, subst, tests}
use Rattle.std.specs.List.{All}
use Rattle.std.specs.Prelude.{IsTrue}
use Rattle.std.proofs.lemmas.List.Elements.{All-tail}
use Rattle.sv_rules.specs.Legal.{is_user}
use Rattle.party_turns.specs.declared.seat.UserSeat.{UserSeat}
use Rattle.aplsv_check.proofs.SeatLists.{first_takes, others_take, seat_first, seats_behind}
use Rattle.aplsv_check.proofs.turns.+user_turns.Goals as goal

pub take_turns-requires-clause-seated : goal.take_turns-requires-clause-seated
take_turns-requires-clause-seated t c =
    let is : c.args.seats.now ≡ c.in-Some.seat.now ∷ c.in-Some.others.now = search rules in
    let some = c.requires.seated in
    seat_first c.args.core.now.journal some.0 c.in-Some.seat.now c.in-Some.others.now c.args.seats.now is some.1

pub user_turns-requires : goal.user_turns-requires
user_turns-requires t c =
    let is : c.args.seats.now ≡ c.in-Some.seat.now ∷ c.in-Some.others.now = search rules in
    let seat = c.in-Some.seat.now in
    let others = c.in-Some.others.now in
    let some = c.requires.seated in
    let users =
    All-tail (λ seat. IsTrue (is_user c.args.core.now.users seat.session.user)) seat others (subst (λ list. All (λ seat. IsTrue (is_user c.args.core.now.users seat.session.user)) list) is c.requires.users) in
    let counted : length c.args.seats.now ≡ length (seat ∷ others) = ap (λ (list : List (UserSeat _)). length list) is in
    let smaller : length others < t = omega (arith, counted, c.decreases) in
    (smaller, (users, (c.requires.people, seats_behind c.args.core.now.journal some.0 seat others c.args.seats.now is some.1)))

pub returns-then-is_party : goal.returns-then-is_party
returns-then-is_party t c =
    let is : c.args.seats.now ≡ c.in-Some.seat.now ∷ c.in-Some.others.now = search rules in
    let own : c.in-Some.seat.now.session.user ≡ c.args.party = search (rules, tests) in
    first_takes c.take_turns.result c.args.party c.args.core.now c.take_turns.new.core c.in-Some.seat.now c.in-Some.others.now c.args.seats.now is c.take_turns.new.seat own c.take_turns.ensures

pub returns-else-is_party : goal.returns-else-is_party
returns-else-is_party t c =
    let is : c.args.seats.now ≡ c.in-Some.seat.now ∷ c.in-Some.others.now = search rules in
    let other : c.in-Some.seat.now.session.user ≢ c.args.party = search (rules, tests) in
    others_take c.user_turns.result c.args.party c.args.core.now c.user_turns.new.core c.in-Some.seat.now c.in-Some.others.now c.args.seats.now is c.user_turns.new.seats other c.user_turns.ensures
