use Rattle.std.proofs.Common.{◌≡◌, ◌<◌, ◌∷◌, ◌∙◌, ℕ, Bool, List, ap, ap₂, arith, length, rules, subst, subst₂, sym}
use Rattle.std.specs.List.{All}
use Rattle.std.specs.Prelude.{IsTrue}
use Rattle.std.proofs.lemmas.List.Elements.{All-head, All-tail}
use Rattle.apl_arrays.specs.Ascending.{AscendBy}
use Rattle.sv_core.specs.Core.{ArePeople}
use Rattle.sv_rules.specs.Legal.{is_user}
use Rattle.aplsv_replay.specs.SeatTurns.{AreSeatTurns, IsSeatTurn, has_turn}
use Rattle.party_turns.specs.Seats.{seat_numbers}
use Rattle.party_turns.specs.SoFar.{IsSeated}
use Rattle.party_turns.specs.declared.seat.UserSeat.{UserSeat}
use Rattle.party_turns.proofs.Growth.{others_ascend}
use Rattle.aplsv_replay.proofs.SeatTurns.{is_empty, no_turns}
use Rattle.aplsv_replay.proofs.TwoTurns.{first_and_others, others_seated}
use Rattle.party_turns.proofs.Sits.{first_seated, first_sits, none_sits}
use Rattle.aplsv_replay.proofs.parties.+seat_turns.Goals as goal

pub seat_turn-requires-clause-user : goal.seat_turn-requires-clause-user
seat_turn-requires-clause-user g t c =
    let is : c.args.seats.now ≡ c.in-Some.seat.now ∷ c.in-Some.others.now = search rules in
    All-head (λ seat. IsTrue (is_user c.args.core.now.users seat.session.user)) c.in-Some.seat.now c.in-Some.others.now
    (subst (λ list. All (λ seat. IsTrue (is_user c.args.core.now.users seat.session.user)) list) is c.requires.users)

pub seat_turn-requires-clause-seated : goal.seat_turn-requires-clause-seated
seat_turn-requires-clause-seated g t c =
    let is : c.args.seats.now ≡ c.in-Some.seat.now ∷ c.in-Some.others.now = search rules in
    first_seated g.K.Shelf.told g.K.Shelf.faults c.args.core.now.journal c.args.seats.now c.in-Some.others.now c.in-Some.seat.now is c.requires.seated

pub seat_turns-requires : goal.seat_turns-requires
seat_turns-requires g t c κs within =
    let is : c.args.seats.now ≡ c.in-Some.seat.now ∷ c.in-Some.others.now = search rules in
    let seat = c.in-Some.seat.now in
    let others = c.in-Some.others.now in
    let h = c.requires.seated in
    let f = first_sits h.sittings seat others (h.here ∙ is) in
    let all = subst (λ list. All (IsSeated g.K.Shelf.told g.K.Shelf.faults c.args.core.now.journal) list) f.is h.seated in
    let turn = c.seat_turn.ensures f.first f.here (All-head (IsSeated g.K.Shelf.told g.K.Shelf.faults c.args.core.now.journal) f.first f.rest all) in
    let ascend = subst (λ list. AscendBy (λ seat. seat.session.user) list) is c.requires.ascending in
    let ascend_there = subst (λ list. AscendBy (λ seat. seat.session.user) list) (sym (ap₂ (λ (one : UserSeat _) (list : List (UserSeat _)). one ∷ list) f.here f.behind)) ascend in
    let users =
    All-tail (λ seat. IsTrue (is_user c.args.core.now.users seat.session.user)) seat others (subst (λ list. All (λ seat. IsTrue (is_user c.args.core.now.users seat.session.user)) list) is c.requires.users) in
    let counted : length c.args.seats.now ≡ length (seat ∷ others) = ap (λ (list : List (UserSeat _)). length list) is in
    let smaller : length others < t = omega (arith, counted, c.decreases) in (
      smaller,
      (
        within,
        (
          subst (λ (list : List ℕ). All (λ seat. IsTrue (is_user list seat.session.user)) others) (sym turn.grows.users) users,
          (
            subst ArePeople (sym turn.grows.users) c.requires.people,
            (
              others_ascend seat.session.user (seat_numbers others) ascend,
              record { sittings = f.rest; here = f.behind; seated = others_seated g.K.Shelf.told g.K.Shelf.faults c.is_due-due.result c.args.closes c.args.core.now c.seat_turn.new.core f.first c.seat_turn.new.seat f.rest ascend_there turn all },
            ),
          ),
        ),
      ),
    )

pub returns-in-None : goal.returns-in-None
returns-in-None g t c =
    let none : length c.args.seats.now ≡ 0 = search rules in
    let is = is_empty c.args.seats.now none in
    λ sittings here seated.
    let empty = none_sits sittings (here ∙ is) in
    subst₂ (λ before list. AreSeatTurns g.K.Shelf.told g.K.Shelf.faults (has_turn c.args.only) c.args.closes c.args.core.now before c.args.core.now list) (sym empty) (sym is) (no_turns g.K.Shelf.told g.K.Shelf.faults (has_turn c.args.only) c.args.closes c.args.core.now)

pub returns-in-Some : goal.returns-in-Some
returns-in-Some g t c =
    let is : c.args.seats.now ≡ c.in-Some.seat.now ∷ c.in-Some.others.now = search rules in
    let ascend = subst (λ list. AscendBy (λ seat. seat.session.user) list) is c.requires.ascending in
    λ sittings here seated.
    let f = first_sits sittings c.in-Some.seat.now c.in-Some.others.now (here ∙ is) in
    let all = subst (λ list. All (IsSeated g.K.Shelf.told g.K.Shelf.faults c.args.core.now.journal) list) f.is seated in
    let ascend_there = subst (λ list. AscendBy (λ seat. seat.session.user) list) (sym (ap₂ (λ (one : UserSeat _) (list : List (UserSeat _)). one ∷ list) f.here f.behind)) ascend in
    let made = c.seat_turn.ensures f.first f.here (All-head (IsSeated g.K.Shelf.told g.K.Shelf.faults c.args.core.now.journal) f.first f.rest all) in
    let due = c.is_due-due.ensures ∙ ap (λ (n : ℕ). has_turn c.args.only n) (c.user.ensures ∙ sym (ap (λ (s : UserSeat _). s.session.user) f.here)) in
    let turn = subst (λ (due : Bool). IsSeatTurn g.K.Shelf.told g.K.Shelf.faults due c.args.closes c.args.core.now f.first c.seat_turn.new.core c.seat_turn.new.seat) due made in
    let others = others_seated g.K.Shelf.told g.K.Shelf.faults c.is_due-due.result c.args.closes c.args.core.now c.seat_turn.new.core f.first c.seat_turn.new.seat f.rest ascend_there made all in
    subst (λ before. AreSeatTurns g.K.Shelf.told g.K.Shelf.faults (has_turn c.args.only) c.args.closes c.args.core.now before c.seat_turns.new.core (c.seat_turn.new.seat ∷ c.seat_turns.new.seats)) (sym f.is)
    (first_and_others g.K.Shelf.told g.K.Shelf.faults (has_turn c.args.only) c.args.closes c.args.core.now c.seat_turn.new.core c.seat_turns.new.core f.first c.seat_turn.new.seat f.rest c.seat_turns.new.seats ascend_there turn (c.seat_turns.ensures f.rest f.behind others))
