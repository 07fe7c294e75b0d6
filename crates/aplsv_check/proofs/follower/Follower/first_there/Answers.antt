use Rattle.std.proofs.Common.{◌∙◌, ℕ, List, ap, not}
use Rattle.std.specs.Prelude.{find}
use Rattle.party_turns.specs.Seats.{seat_numbers}
use Rattle.party_turns.specs.declared.seat.UserSeat.{UserSeat}
use Rattle.sv_rules.specs.Entries.{has_left}
use Rattle.aplsv_check.proofs.SeatLists.{seats_are_users}
use Rattle.aplsv_check.proofs.follower.Follower.first_there.Goals as goal

pub returns : goal.returns
returns c =
    let run = c.args.self.now in
    λ bundle h.
    c.first_of_those_there.ensures
    ∙ ap (λ (numbers : List ℕ). find (λ user. not (has_left c.args.self.now.core.journal user)) numbers) (ap (λ (list : List (UserSeat _)). seat_numbers list) c.deref.ensures.value ∙ seats_are_users run.core.journal bundle.users run.seats.items h.seats)
