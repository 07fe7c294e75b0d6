use Rattle.std.proofs.Common.{rules, ◌<◌, ◌≤◌, All, arith, length, subst, take_all}
use Rattle.sv_events.specs.Entry.{PlainEntry}
use Rattle.sv_turn.proofs.Gathering.{all_more}
use Rattle.sv_turn.specs.Seating.{spare_of}
use Rattle.sv_turn.specs.declared.seat.Seat.{Seat}
use Rattle.aplsv_serve.proofs.Rows.{IsSameSeat, all_fresh, as_many_seats, same_after, same_parties, same_seats}
use Rattle.aplsv_serve.proofs.start.make_room.Goals as goal

pub loop-index-init : goal.loop-index-init
loop-index-init c = record { same = same_seats c.args.seats.items; room = λ k d low. absurd (omega arith) }

pub loop-index-preserved : goal.loop-index-preserved
loop-index-preserved c =
    let loop = c.loop-index in
    let new = c.reserve.new.self in
    let seat = c.reserve.ensures.seat in
    let many = as_many_seats c.args.seats.items loop.seats.items loop.invariant.same in
    let low : loop.index < length loop.seats.items = omega (arith, many, c.loop-index-test.true, c.len-index-end.ensures, c.args.seats.ok.0) in
    let room : 2 ≤ spare_of new = search rules in
    record {
      same = same_after c.args.seats.items loop.seats.items loop.index c.index_mut.result.now new loop.invariant.same
          (subst (λ (old : Seat PlainEntry). IsSameSeat old new) c.index_mut.ensures.value (record { badge = seat.0; party = seat.1; mine = seat.2 }));
      room = all_more (λ (s : Seat PlainEntry). 2 ≤ spare_of s) loop.seats.items loop.index new low loop.invariant.room room;
    }

pub returns-clause-parties : goal.returns-clause-parties
returns-clause-parties c = same_parties c.args.seats.items c.loop-index.seats.items c.loop-index.invariant.same

pub returns-clause-fresh : goal.returns-clause-fresh
returns-clause-fresh c = λ stile belongs none nothing.
    let loop = c.loop-index in
    let many = as_many_seats c.args.seats.items loop.seats.items loop.invariant.same in
    let full : length loop.seats.items ≤ loop.index = omega (arith, many, c.loop-index-test.false, c.len-index-end.ensures, c.args.seats.ok.0) in
    all_fresh stile c.args.seats.items loop.seats.items loop.invariant.same (subst (All (λ (s : Seat PlainEntry). 2 ≤ spare_of s)) (take_all loop.index loop.seats.items full) loop.invariant.room) belongs none nothing
