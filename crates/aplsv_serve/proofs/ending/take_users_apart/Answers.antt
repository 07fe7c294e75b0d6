use Rattle.std.proofs.Common.{◌≡◌, ◌∙◌, ◌++◌, ◌∷◌, [], ap, arith, length}
use Rattle.std.proofs.lemmas.Iterator.Adapters.{YieldsList-from_vec}
use Rattle.std.proofs.lemmas.Iterator.Consumers.{YieldsList-end, YieldsList-turn}
use Rattle.std.proofs.lemmas.List.{length_push}
use Rattle.sv_events.specs.Entry.{PlainEntry}
use Rattle.sv_turn.specs.declared.seat.Seat.{Seat}
use Rattle.party_turns.specs.declared.seat.UserSeat.{UserSeat}
use Rattle.aplsv_serve.specs.declared.user_task.UserTask.{UserTask}
use Rattle.aplsv_serve.proofs.Rows.{all_taken, taken_more, user_among}
use Rattle.aplsv_serve.proofs.ending.take_users_apart.Goals as goal

pub unreachable-requires : goal.unreachable-requires
unreachable-requires g c =
    let loop = c.loop-task in
    let road = YieldsList-from_vec {s = c.into_iter-task-iterator.result} c.args.tasks.items (cc) (cc) in
    let place = YieldsList-turn road loop.yielded loop.task-iterator loop.yielded_by c.next.result c.next.new.self c.in-Some.task c.in-Some.is c.next.ensures.steps in
    let at = user_among c.args.tasks.items c.requires.tasks.0 (length loop.yielded) c.in-Some.task c.requires.tasks.1 place.0 place.1 in
    c.in_default.not-User at.0 at.1

pub push_reserved-requires-in-loop-task : goal.push_reserved-requires-in-loop-task
push_reserved-requires-in-loop-task g c =
    let loop = c.loop-task in
    let road = YieldsList-from_vec {s = c.into_iter-task-iterator.result} c.args.tasks.items (cc) (cc) in
    let place = YieldsList-turn road loop.yielded loop.task-iterator loop.yielded_by c.next.result c.next.new.self c.in-Some.task c.in-Some.is c.next.ensures.steps in
    omega (arith, place.0, c.args.tasks.ok.0, loop.invariant.seats_count, loop.invariant.seats_room)

pub loop-task-preserved : goal.loop-task-preserved
loop-task-preserved g c =
    let loop = c.loop-task in
    let road = YieldsList-from_vec {s = c.into_iter-task-iterator.result} c.args.tasks.items (cc) (cc) in
    let place = YieldsList-turn road loop.yielded loop.task-iterator loop.yielded_by c.next.result c.next.new.self c.in-Some.task c.in-Some.is c.next.ensures.steps in
    let more = length_push loop.yielded c.in-Some.task in
    let users = c.push_reserved in
    let seats = c.push_reserved-in-loop-task in
    record {
      users = λ list all.
          let at = user_among c.args.tasks.items list (length loop.yielded) c.in-Some.task all place.0 place.1 in
          let is = at.1 in
          let same : c.in-User.field-0.user ≡ at.0.user = cc in
          taken_more (λ (u : UserTask g.row.K.Denot). u.user) list (length loop.yielded) (length (loop.yielded ++ c.in-Some.task ∷ [])) at.0 c.args.users.now.items loop.users.items users.new.self.items more at.2 (loop.invariant.users list all)
          (users.ensures.items ∙ ap (λ (u : UserSeat g.row.K.Denot). loop.users.items ++ u ∷ []) same);
      seats = λ list all.
          let at = user_among c.args.tasks.items list (length loop.yielded) c.in-Some.task all place.0 place.1 in
          let is = at.1 in
          let same : c.in-User.field-0.seat ≡ at.0.seat = cc in
          taken_more (λ (u : UserTask g.row.K.Denot). u.seat) list (length loop.yielded) (length (loop.yielded ++ c.in-Some.task ∷ [])) at.0 c.args.seats.now.items loop.seats.items seats.new.self.items more at.2 (loop.invariant.seats list all)
          (seats.ensures.items ∙ ap (λ (s : Seat PlainEntry). loop.seats.items ++ s ∷ []) same);
      users_count = omega (arith, more, loop.invariant.users_count, users.ensures.len);
      users_room = omega (arith, loop.invariant.users_room, users.ensures.capacity);
      seats_count = omega (arith, more, loop.invariant.seats_count, seats.ensures.len);
      seats_room = omega (arith, loop.invariant.seats_room, seats.ensures.capacity);
    }

pub returns-clause-users : goal.returns-clause-users
returns-clause-users g c = λ list all.
    let loop = c.loop-task in
    let road = YieldsList-from_vec {s = c.into_iter-task-iterator.result} c.args.tasks.items (cc) (cc) in
    let end = YieldsList-end road loop.yielded loop.task-iterator loop.yielded_by c.next.result c.next.new.self c.in-None.is c.next.ensures.steps in
    all_taken (λ (u : UserTask g.row.K.Denot). u.user) c.args.tasks.items list (length loop.yielded) c.args.users.now.items loop.users.items all end.1 (loop.invariant.users list all)

pub returns-clause-seats : goal.returns-clause-seats
returns-clause-seats g c = λ list all.
    let loop = c.loop-task in
    let road = YieldsList-from_vec {s = c.into_iter-task-iterator.result} c.args.tasks.items (cc) (cc) in
    let end = YieldsList-end road loop.yielded loop.task-iterator loop.yielded_by c.next.result c.next.new.self c.in-None.is c.next.ensures.steps in
    all_taken (λ (u : UserTask g.row.K.Denot). u.seat) c.args.tasks.items list (length loop.yielded) c.args.seats.now.items loop.seats.items all end.1 (loop.invariant.seats list all)
