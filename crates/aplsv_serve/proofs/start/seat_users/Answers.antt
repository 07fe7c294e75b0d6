use Rattle.std.proofs.Common.{◌≡◌, ◌<◌, ◌∙◌, [], List, arith, length, subst₂, sym}
use Rattle.std.proofs.lemmas.Iterator.Adapters.{YieldsList-from_vec}
use Rattle.std.proofs.lemmas.Iterator.Consumers.{YieldsList-end, YieldsList-turn}
use Rattle.std.proofs.lemmas.List.{length_push, map-id}
use Rattle.sv_events.specs.Entry.{PlainEntry}
use Rattle.sv_turn.specs.declared.seat.Seat.{Seat}
use Rattle.party_turns.proofs.Rows.{front_and_rest, none_there}
use Rattle.party_turns.specs.declared.seat.UserSeat.{UserSeat}
use Rattle.aplsv_serve.specs.Starts.{AreSeatedBehind}
use Rattle.aplsv_serve.proofs.Rows.{one_seated}
use Rattle.aplsv_serve.proofs.start.seat_users.Goals as goal

pub remove-requires : goal.remove-requires
remove-requires g c =
    let loop = c.loop-user in
    let road = YieldsList-from_vec {s = c.into_iter-user-iterator.result} c.args.users.items (cc) (cc) in
    let place = YieldsList-turn road loop.yielded loop.user-iterator loop.yielded_by c.next.result c.next.new.self c.in-Some.user c.in-Some.is c.next.ensures.steps in
    omega (arith, place.0, c.args.users.ok.0, loop.invariant.left)

pub loop-user-preserved : goal.loop-user-preserved
loop-user-preserved g c =
    let loop = c.loop-user in
    let road = YieldsList-from_vec {s = c.into_iter-user-iterator.result} c.args.users.items (cc) (cc) in
    let place = YieldsList-turn road loop.yielded loop.user-iterator loop.yielded_by c.next.result c.next.new.self c.in-Some.user c.in-Some.is c.next.ensures.steps in
    let some : 0 < length loop.seats.items = omega (arith, place.0, c.args.users.ok.0, loop.seats.ok.0, loop.invariant.left) in
    let first = front_and_rest loop.seats.items c.remove.new.self.items c.remove.result some c.remove.ensures.value c.remove.ensures.by_index.2 in
    let more = length_push loop.yielded c.in-Some.user in
    record {
      made = one_seated c.args.tasks.items loop.tasks.items c.push_reserved.new.self.items loop.yielded loop.seats.items c.remove.new.self.items c.args.seats.items c.in-Some.user c.remove.result c.new.result loop.invariant.made first c.new.ensures c.push_reserved.ensures.items;
      count = omega (arith, more, loop.invariant.count, c.push_reserved.ensures.len);
      left = omega (arith, more, loop.invariant.left, c.remove.ensures.len);
      places = omega (arith, loop.invariant.places, c.push_reserved.ensures.capacity);
    }

pub returns : goal.returns
returns g c =
    let loop = c.loop-user in
    let road = YieldsList-from_vec {s = c.into_iter-user-iterator.result} c.args.users.items (cc) (cc) in
    let end = YieldsList-end road loop.yielded loop.user-iterator loop.yielded_by c.next.result c.next.new.self c.in-None.is c.next.ensures.steps in
    let none : loop.seats.items ≡ [] = none_there loop.seats.items (omega (arith, end.1, c.args.users.ok.0, loop.seats.ok.0, loop.invariant.left)) in
    subst₂ (λ (done : List (UserSeat g.row.K.Denot)) (left : List (Seat PlainEntry)). AreSeatedBehind c.args.tasks.items done left c.args.seats.items loop.tasks.items) (sym (map-id loop.yielded) ∙ end.0) none loop.invariant.made
