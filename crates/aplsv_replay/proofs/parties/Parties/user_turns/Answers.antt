use Rattle.std.proofs.Common.{◌≡◌, ◌||◌, ◌++◌, ◌∙◌, Bool, drop, length, rules, subst, sym, take}
use Rattle.std.specs.List.{All}
use Rattle.std.specs.Prelude.{IsTrue}
use Rattle.apl_arrays.specs.Ascending.{AscendBy}
use Rattle.sv_rules.specs.Legal.{is_user}
use Rattle.aplsv_replay.specs.SeatTurns.{AreSeatTurns, has_turn}
use Rattle.party_turns.specs.SoFar.{AreSeated}
use Rattle.aplsv_replay.proofs.AllTogether.{seats_are_of_users, seats_ascend}
use Rattle.aplsv_replay.proofs.TwoTurns.{all_put_back}
use Rattle.party_turns.proofs.Sits.{as_many}
use Rattle.aplsv_replay.proofs.parties.Parties.user_turns.Goals as goal

pub seat_turns-requires-clause-users : goal.seat_turns-requires-clause-users
seat_turns-requires-clause-users g c =
    let some = c.requires.together in
    subst (λ list. All (λ seat. IsTrue (is_user c.args.self.now.core.users seat.session.user)) list) (sym c.deref_mut.ensures.value)
    (seats_are_of_users g.X.Replier.forgets g.X.Replier.replies g.Y.Replier.forgets g.Y.Replier.replies g.K.Shelf.told g.K.Shelf.faults some.bundle some.ten some.twenty some.shelves c.args.self.now some.sittings some.together)

pub seat_turns-requires-clause-people : goal.seat_turns-requires-clause-people
seat_turns-requires-clause-people g c = c.requires.together.together.people

pub seat_turns-requires-clause-ascending : goal.seat_turns-requires-clause-ascending
seat_turns-requires-clause-ascending g c =
    let some = c.requires.together in
    subst (λ list. AscendBy (λ seat. seat.session.user) list) (sym c.deref_mut.ensures.value)
    (seats_ascend g.X.Replier.forgets g.X.Replier.replies g.Y.Replier.forgets g.Y.Replier.replies g.K.Shelf.told g.K.Shelf.faults some.bundle some.ten some.twenty some.shelves c.args.self.now some.sittings some.together)

pub seat_turns-requires-clause-seated : goal.seat_turns-requires-clause-seated
seat_turns-requires-clause-seated g c =
    let some = c.requires.together in
    subst (λ list. AreSeated g.K.Shelf.told g.K.Shelf.faults c.args.self.now.core.journal list) (sym c.deref_mut.ensures.value) (record { sittings = some.sittings; here = some.together.here; seated = some.together.seated })

pub returns-clause-turns : goal.returns-clause-turns
returns-clause-turns g c =
    let p = c.args.self.now in
    let new = c.seat_turns.new.seats in
    let others = drop (length new) p.seats.items in
    let many : length p.seats.items ≡ p.seats.len = search rules in
    λ sittings here seated.
    let turned =
    subst (λ (closes : Bool). AreSeatTurns g.K.Shelf.told g.K.Shelf.faults (has_turn c.args.only) closes p.core sittings c.seat_turns.new.core new) c.closes-closes.ensures
    (c.seat_turns.ensures sittings (here ∙ sym c.deref_mut.ensures.value) seated) in
    let whole : take p.seats.len (new ++ others) ≡ new =
    all_put_back g.K.Shelf.told g.K.Shelf.faults (has_turn c.args.only) (p.ten.is_lost || p.twenty.is_lost) p.core c.seat_turns.new.core sittings new others p.seats.len turned (as_many sittings p.seats.items here ∙ many) in
    subst (λ list. AreSeatTurns g.K.Shelf.told g.K.Shelf.faults (has_turn c.args.only) (p.ten.is_lost || p.twenty.is_lost) p.core sittings c.seat_turns.new.core list) (sym whole) turned
