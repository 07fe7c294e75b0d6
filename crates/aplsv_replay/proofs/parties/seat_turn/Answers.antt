use Rattle.std.proofs.Common.{◌≡◌, false, rules, subst, sym, tests, true, Bool}
use Rattle.aplsv_replay.specs.SeatTurns.{IsSeatTurn}
use Rattle.party_turns.specs.Sittings.{Sitting}
use Rattle.party_turns.specs.SoFar.{IsSeated}
use Rattle.party_turns.specs.declared.seat.UserSeat.{UserSeat}
use Rattle.aplsv_replay.proofs.SeatTurns.{due_turn, not_due}
use Rattle.party_turns.proofs.Sits.{sits_as}
use Rattle.aplsv_replay.proofs.parties.seat_turn.Goals as goal

pub returns-then-not-due : goal.returns-then-not-due
returns-then-not-due g c =
    let is : c.args.due ≡ false = search (rules, tests) in
    λ sitting here seated.
    subst (λ (due : Bool). IsSeatTurn g.K.Shelf.told g.K.Shelf.faults due c.args.closes c.args.core.now sitting c.args.core.now c.args.seat.now) (sym is)
    (subst (λ (seat : UserSeat g.row.K.Denot). IsSeatTurn g.K.Shelf.told g.K.Shelf.faults false c.args.closes c.args.core.now sitting c.args.core.now seat) here (not_due g.K.Shelf.told g.K.Shelf.faults c.args.closes c.args.core.now sitting seated))

pub returns : goal.returns
returns g c =
    let turn = c.take_turn.ensures in
    let is : c.args.due ≡ true = search (rules, tests) in
    λ sitting here seated.
    let same : (let s : Sitting g.row.K.Denot = record { seat = c.args.seat.now; lent = sitting.lent; exchanges = sitting.exchanges } in s) ≡ sitting = sits_as sitting c.args.seat.now here in
    let there = subst (λ (s : Sitting g.row.K.Denot). IsSeated g.K.Shelf.told g.K.Shelf.faults c.args.core.now.journal s) (sym same) seated in
    subst (λ (due : Bool). IsSeatTurn g.K.Shelf.told g.K.Shelf.faults due c.args.closes c.args.core.now sitting c.take_turn.new.core c.take_turn.new.self) (sym is)
    (subst (λ (s : Sitting g.row.K.Denot). IsSeatTurn g.K.Shelf.told g.K.Shelf.faults true c.args.closes c.args.core.now s c.take_turn.new.core c.take_turn.new.self) same
    (due_turn g.K.Shelf.told g.K.Shelf.faults c.args.closes c.args.core.now c.take_turn.new.core c.args.seat.now c.take_turn.new.self sitting.lent sitting.exchanges turn.same turn.grows turn.goes_on turn.gone turn.closed turn.lost turn.leaves there turn.turn))
