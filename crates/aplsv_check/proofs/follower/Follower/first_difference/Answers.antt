use Rattle.std.proofs.Common.{List, subst, sym}
use Rattle.party_turns.specs.declared.seat.UserSeat.{UserSeat}
use Rattle.aplsv_check.specs.Followed.{AreSeatsOf}
use Rattle.aplsv_check.proofs.WhatTheySaw.{all_left}
use Rattle.aplsv_check.proofs.follower.Follower.first_difference.Goals as goal

pub returns : goal.returns
returns c =
    let run = c.args.self.now in
    λ bundle h left named.
    c.first_difference.ensures run.core.journal bundle.users (subst (λ (list : List (UserSeat _)). AreSeatsOf c.args.self.now.core.journal bundle.users list) (sym c.deref.ensures.value) h.seats) (all_left run.core.journal bundle.users left) named
