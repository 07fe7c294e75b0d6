use Rattle.std.proofs.Common.{rules, arith, ℕ, ◌<◌, ◌≤◌, List, ◌∷◌, [], ◌++◌, All, length, sym, ap, ◌∙◌, subst, length-set, take_all}
use lib.Seq.{map-set_same}
use Rattle.sv_turn.specs.declared.view.Account.{Account}
use Rattle.sv_turn.specs.Seating.{IsSeatAt, IsClosed, party_and_places, seat_account}
use Rattle.sv_turn.proofs.Gathering.{same_at, same_after, mapped_more, all_more}
use Rattle.sv_turn.proofs.closing.gather_all.Goals as goal

pub gather_next-requires-clause-seat : goal.gather_next-requires-clause-seat
gather_next-requires-clause-seat g c =
    let inv = c.loop-index.invariant in let i : ℕ = c.loop-index.index in let seat = c.index_mut-in-loop-index.result.now in
    let value = c.index_mut-in-loop-index.ensures.value in
    let here = same_at c.loop-index.list.items c.args.list.now.items i seat inv.8 in
    let low : i < length c.loop-index.list.items = search rules in let low' : i < length c.args.list.now.items = omega (arith, inv.9) in
    subst (IsSeatAt c.args.shared.now.table_id (g.S.History.members_of c.args.shared.now.key.state.value)) (sym (value ∙ here)) (c.requires.seats.1 i seat low')

pub loop-index-preserved : goal.loop-index-preserved
loop-index-preserved g c =
    let inv = c.loop-index.invariant in let i : ℕ = c.loop-index.index in let seat = c.index_mut-in-loop-index.result.now in
    let value = c.index_mut-in-loop-index.ensures.value in let did = c.gather_next.ensures in let done = c.gather_next.new.seat in
    let here = same_at c.loop-index.list.items c.args.list.now.items i seat inv.8 in
    let low : i < length c.loop-index.list.items = search rules in let low' : i < length c.args.list.now.items = omega (arith, inv.9) in (
      did.table ∙ inv.0,
      did.place.0,
      did.place.1,
      did.place.2,
      (let w = did.weight in let v = inv.4 in omega arith),
      did.accounts ∙ (ap (λ (xs : List (Account g.row.S-Entry.Denot)). xs ++ seat_account seat ∷ []) inv.5 ∙ mapped_more seat_account c.args.list.now.items i seat low' (value ∙ here)),
      map-set_same party_and_places c.loop-index.list.items i done seat (did.seat.1 ∙ ap party_and_places value) ∙ inv.6,
      all_more IsClosed c.loop-index.list.items i done low inv.7 did.seat.0,
      same_after c.loop-index.list.items c.args.list.now.items i done inv.8,
      length-set c.loop-index.list.items i done ∙ inv.9,
    )

pub returns-clause-closed : goal.returns-clause-closed
returns-clause-closed g c =
    let inv = c.loop-index.invariant in let full : length c.loop-index.list.items ≤ c.loop-index.index = search rules in
    subst (All IsClosed) (take_all c.loop-index.index c.loop-index.list.items full) inv.7
