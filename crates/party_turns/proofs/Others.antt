-- What entries of others change of users: nothing.
use Rattle.std.proofs.Common.{◌≡◌, ℕ, ◌++◌, List, [], ◌∷◌, Option, sym, subst, ◌∙◌}
use Rattle.std.specs.List.{AllByRecursion}
use Rattle.apl_io.specs.Content.{Told}
use Rattle.sv_rules.specs.Entries.{Entries}
use Rattle.session_rules.specs.Shelf.{shelf_replies_in}
use Rattle.party_turns.specs.Participants.{participant_with}
use Rattle.party_turns.specs.Seats.{seat_numbers}
use Rattle.party_turns.specs.Sittings.{Sitting, seats_in}
use Rattle.party_turns.specs.SoFar.{IsSeated, SittingIsWhole, IsWholeUnlessLost, user_of}
use Rattle.party_turns.proofs.Growth.{AreOthers, has_left_stays, part_stays, so_far_stays}

module _ {K : Type 0} (told : K → Option (Told (ℕ × List ℕ))) (faults : K → ℕ) where
  -- where the entries of others follow
  pub grown_seated : (entries journal after : Entries) (sitting : Sitting K) → after ≡ entries ++ journal → AreOthers sitting.seat.session.user entries → IsSeated told faults journal sitting → IsSeated told faults after sitting
  grown_seated entries journal after sitting is others h =
      subst (λ (j : Entries). IsSeated told faults j sitting) (sym is)
      (λ stays.
      let here = h (sym (has_left_stays entries journal sitting.seat.session.user others) ∙ stays) in
      record { here = here.here; come = here.come; so_far = λ more. so_far_stays entries journal (participant_with (shelf_replies_in sitting.exchanges ++ more) sitting.seat.session) _ others (here.so_far more) })

  pub grown_whole : (entries journal after : Entries) (sitting : Sitting K) → after ≡ entries ++ journal → AreOthers sitting.seat.session.user entries → SittingIsWhole told faults journal sitting → SittingIsWhole told faults after sitting
  grown_whole entries journal after sitting is others h =
      subst (λ (j : Entries). SittingIsWhole told faults j sitting) (sym is)
      (λ left. let part = h (sym (has_left_stays entries journal sitting.seat.session.user others) ∙ left) in
      record { finished = part.finished; come = part.come; part = part_stays entries journal (user_of sitting.seat.session) sitting.exchanges _ others part.part })

  -- the same of some users
  pub all_grown_seated : (entries journal after : Entries) (sittings : List (Sitting K)) → after ≡ entries ++ journal → AllByRecursion (λ (number : ℕ). AreOthers number entries) (seat_numbers (seats_in sittings))
      → AllByRecursion (IsSeated told faults journal) sittings → AllByRecursion (IsSeated told faults after) sittings
  all_grown_seated entries journal after [] is others h = tt
  all_grown_seated entries journal after (sitting ∷ sittings) is others h = (grown_seated entries journal after sitting is others.0 h.0, all_grown_seated entries journal after sittings is others.1 h.1)

  pub all_grown_whole : (entries journal after : Entries) (sittings : List (Sitting K)) → after ≡ entries ++ journal → AllByRecursion (λ (number : ℕ). AreOthers number entries) (seat_numbers (seats_in sittings))
      → AllByRecursion (IsWholeUnlessLost told faults journal) sittings → AllByRecursion (IsWholeUnlessLost told faults after) sittings
  all_grown_whole entries journal after [] is others h = tt
  all_grown_whole entries journal after (sitting ∷ sittings) is others h = ((λ here. grown_whole entries journal after sitting is others.0 (h.0 here)), all_grown_whole entries journal after sittings is others.1 h.1)
