use Rattle.std.proofs.Common.{◌∷◌, ◌++◌, ◌<◌, List, [], arith, length, subst, sym}
use Rattle.std.proofs.lemmas.Iterator.Adapters.{YieldsList-from_vec}
use Rattle.std.proofs.lemmas.Iterator.Consumers.{YieldsList-turn}
use Rattle.std.proofs.lemmas.List.{length_push}
use Rattle.party_turns.specs.declared.seat.UserSeat.{UserSeat}
use Rattle.party_turns.proofs.Filling.{AreFilled, filled_more}
use Rattle.party_turns.proofs.Rows.{front_and_rest}
use Rattle.party_turns.proofs.start.fill.Goals as goal

pub remove-shelf-requires : goal.remove-shelf-requires
remove-shelf-requires g c =
    let road = YieldsList-from_vec {s = c.into_iter-user-iterator.result} c.args.users.items (cc) (cc) in
    let place = YieldsList-turn road c.loop-user.yielded c.loop-user.user-iterator c.loop-user.yielded_by c.next.result c.next.new.self c.in-Some.user c.in-Some.is c.next.ensures.steps in
    omega (arith, place.0, c.args.users.ok.0, c.loop-user.invariant.count, c.loop-user.invariant.total, c.requires.shelves)

pub push_reserved-requires : goal.push_reserved-requires
push_reserved-requires g c =
    let road = YieldsList-from_vec {s = c.into_iter-user-iterator.result} c.args.users.items (cc) (cc) in
    let place = YieldsList-turn road c.loop-user.yielded c.loop-user.user-iterator c.loop-user.yielded_by c.next.result c.next.new.self c.in-Some.user c.in-Some.is c.next.ensures.steps in
    omega (arith, place.0, c.args.users.ok.0, c.loop-user.invariant.count, c.loop-user.invariant.places)

pub loop-user-preserved : goal.loop-user-preserved
loop-user-preserved g c =
    let loop = c.loop-user in
    let road = YieldsList-from_vec {s = c.into_iter-user-iterator.result} c.args.users.items (cc) (cc) in
    let place = YieldsList-turn road loop.yielded loop.user-iterator loop.yielded_by c.next.result c.next.new.self c.in-Some.user c.in-Some.is c.next.ensures.steps in
    let some : 0 < length loop.shelves.items = omega (arith, place.0, c.args.users.ok.0, loop.shelves.ok.0, loop.invariant.count, loop.invariant.total, c.requires.shelves) in
    let first = front_and_rest loop.shelves.items c.remove-shelf.new.self.items c.remove-shelf.result some c.remove-shelf.ensures.value c.remove-shelf.ensures.by_index.2 in
    let seat = c.new-in-loop-user.result in
    let filled = filled_more g.K.Shelf.told g.K.Shelf.faults loop.yielded loop.seats.items loop.shelves.items c.remove-shelf.new.self.items c.args.shelves.now.items c.in-Some.user seat c.new.result c.remove-shelf.result loop.invariant.filled first
    c.new.ensures.come c.new.ensures.begins c.new-in-loop-user.ensures in
    let more = length_push loop.yielded c.in-Some.user in
    record {
      filled = subst (λ (seats : List (UserSeat g.row.K.Denot)). AreFilled g.K.Shelf.told g.K.Shelf.faults (loop.yielded ++ c.in-Some.user ∷ []) seats c.remove-shelf.new.self.items c.args.shelves.now.items) (sym c.push_reserved.ensures.items) filled;
      count = omega (arith, more, loop.invariant.count, c.push_reserved.ensures.len);
      total = omega (arith, loop.invariant.total, c.push_reserved.ensures.len, c.remove-shelf.ensures.len);
      places = omega (arith, loop.invariant.places, c.push_reserved.ensures.capacity);
      room = omega (arith, loop.invariant.room, c.push_reserved.ensures.len, c.remove-shelf.ensures.len, c.remove-shelf.ensures.capacity);
    }
