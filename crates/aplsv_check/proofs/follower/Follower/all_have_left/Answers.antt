use Rattle.std.proofs.Common.{◌∙◌, ℕ, List, ap, not}
use Rattle.party_turns.specs.Seats.{seat_numbers}
use Rattle.party_turns.specs.declared.seat.UserSeat.{UserSeat}
use Rattle.session_rules.specs.Auxiliaries.{some_stay}
use Rattle.aplsv_check.proofs.SeatLists.{seats_are_users}
use Rattle.aplsv_check.proofs.follower.Follower.all_have_left.Goals as goal

pub returns : goal.returns
returns c =
    let run = c.args.self.now in
    λ bundle h.
    c.all_have_left.ensures
    ∙ ap (λ (numbers : List ℕ). not (some_stay numbers c.args.self.now.core.journal)) (ap (λ (list : List (UserSeat _)). seat_numbers list) c.deref.ensures.value ∙ seats_are_users run.core.journal bundle.users run.seats.items h.seats)
