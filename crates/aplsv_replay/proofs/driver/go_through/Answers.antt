use Rattle.std.proofs.Common.{◌≡◌, ◌++◌, arith, length, map, refl, rules, subst, sym, vec_len}
use Rattle.auxiliaries.specs.Run.{CameTo}
use Rattle.party_turns.proofs.GivenBack.{shelves_back}
use Rattle.replay_rules.specs.Turns.{ordered, rounds}
use Rattle.aplsv_replay.proofs.AllTogether.{of_some_still, seats_ascend}
use Rattle.aplsv_replay.proofs.Ends.{comes_of, same_seats}
use Rattle.aplsv_replay.proofs.driver.go_through.Goals as goal

pub take_rounds-requires : goal.take_rounds-requires
take_rounds-requires g c = record { together = of_some_still g.X.Replier.forgets g.X.Replier.replies g.Y.Replier.forgets g.Y.Replier.replies g.K.Shelf.told g.K.Shelf.faults (ordered c.args.order.now) c.args.parties c.take_turns.new.self c.requires.together c.take_turns.ensures.turns }

pub close-requires-clause-ascending : goal.close-requires-clause-ascending
close-requires-clause-ascending g c =
    let middle = of_some_still g.X.Replier.forgets g.X.Replier.replies g.Y.Replier.forgets g.Y.Replier.replies g.K.Shelf.told g.K.Shelf.faults (ordered c.args.order.now) c.args.parties c.take_turns.new.self c.requires.together c.take_turns.ensures.turns in
    let some = of_some_still g.X.Replier.forgets g.X.Replier.replies g.Y.Replier.forgets g.Y.Replier.replies g.K.Shelf.told g.K.Shelf.faults (rounds c.take_rounds.ensures.rounds.count) c.take_turns.new.self c.take_rounds.new.self middle c.take_rounds.ensures.rounds.turns in
    seats_ascend g.X.Replier.forgets g.X.Replier.replies g.Y.Replier.forgets g.Y.Replier.replies g.K.Shelf.told g.K.Shelf.faults some.bundle some.ten some.twenty some.shelves c.take_rounds.new.self some.sittings some.together

pub close-requires-clause-room : goal.close-requires-clause-room
close-requires-clause-room g c =
    let first = c.requires.together in
    let middle = c.take_turns.ensures.turns first.bundle first.ten first.twenty first.shelves first.sittings first.together in
    let last = c.take_rounds.ensures.rounds.turns first.bundle first.ten first.twenty first.shelves middle.nows middle.together in
    let same = same_seats g.X.Replier.forgets g.X.Replier.replies g.Y.Replier.forgets g.Y.Replier.replies g.K.Shelf.told g.K.Shelf.faults first.bundle first.ten first.twenty first.shelves c.args.parties c.take_rounds.new.self first.sittings last.nows first.together last.together in
    let many : vec_len c.take_rounds.new.self.seats ≡ length c.take_rounds.new.self.seats.items = search rules in
    let before : vec_len c.args.parties.seats ≡ length c.args.parties.seats.items = search rules in
    omega (arith, same, c.requires.room)

pub returns-clause-run : goal.returns-clause-run
returns-clause-run g c =
    comes_of g.X.Replier.forgets g.X.Replier.replies g.Y.Replier.forgets g.Y.Replier.replies g.K.Shelf.told g.K.Shelf.faults c.args.order.now c.args.parties c.take_turns.new.self c.take_rounds.new.self c.args.shelves.items c.close.result.shelves.items c.close.result.ended c.close.result.ten c.close.result.twenty
    c.take_turns.ensures.turns c.take_rounds.ensures.rounds c.take_rounds.ensures.over c.close.ensures.whole c.close.ensures.ten c.close.ensures.twenty c.close.ensures.shelves

pub returns-clause-ten : goal.returns-clause-ten
returns-clause-ten g c = λ start came. subst (λ (x : g.row.X.Denot). CameTo g.X.Replier.forgets g.X.Replier.replies g.X.Replier.wants start x) (sym c.close.ensures.ten) (c.take_rounds.ensures.behind.ten start (c.take_turns.ensures.behind.ten start came)).came

pub returns-clause-twenty : goal.returns-clause-twenty
returns-clause-twenty g c = λ start came. subst (λ (y : g.row.Y.Denot). CameTo g.Y.Replier.forgets g.Y.Replier.replies g.Y.Replier.wants start y) (sym c.close.ensures.twenty) (c.take_rounds.ensures.behind.twenty start (c.take_turns.ensures.behind.twenty start came)).came

pub returns-clause-shelves : goal.returns-clause-shelves
returns-clause-shelves g c =
    let first = c.requires.together in
    let middle = c.take_turns.ensures.turns first.bundle first.ten first.twenty first.shelves first.sittings first.together in
    let last = c.take_rounds.ensures.rounds.turns first.bundle first.ten first.twenty first.shelves middle.nows middle.together in
    let same = same_seats g.X.Replier.forgets g.X.Replier.replies g.Y.Replier.forgets g.Y.Replier.replies g.K.Shelf.told g.K.Shelf.faults first.bundle first.ten first.twenty first.shelves c.args.parties c.take_rounds.new.self first.sittings last.nows first.together last.together in
    shelves_back (length c.args.parties.seats.items) c.args.parties.seats.items c.take_rounds.new.self.seats.items c.args.shelves.items (map (λ seat. seat.session.shelf) c.args.parties.seats.items ++ c.args.shelves.items) c.close.result.shelves.items refl same refl c.close.ensures.shelves
