-- The turns of users beside a journal, one after another.
use Rattle.std.specs.Prelude.{◌≡◌, ◌⊎◌, ◌<◌, ◌+◌, ◌-◌, ◌==◌, ◌++◌, ℕ, Bool, true, false, List, Option, Some, None, All, IsTrue, map, sum_by, if◌then◌else◌}
use Rattle.sv_rules.specs.Limits.{most_entries}
use Rattle.apl_io.specs.Content.{Told}
use Rattle.sv_core.specs.Core.{PlainCore}
use Rattle.sv_rules.specs.Entries.{Entries, counted_entries, has_left}
use Rattle.sv_rules.specs.Legal.{is_still_held, is_user}
use Rattle.session_rules.specs.Run.{Dealings}
use Rattle.replay_rules.specs.Turns.{turn, turns_where}
use Rattle.party_turns.specs.Participants.{participant_of, users_of}
use Rattle.party_turns.specs.Seats.{none_lost, seat_numbers}
use Rattle.party_turns.specs.Sittings.{EndsIn, Sitting, lent_to, seats_in}
use Rattle.party_turns.specs.SoFar.{GrowsBy, IsSameSitting, IsSeated, SittingIsWhole, IsWholeUnlessLost, user_of, user_work, work_with}
use Rattle.party_turns.specs.declared.seat.UserSeat.{UserSeat}

-- it is the turn of a user: of each, or of the one with this number
abbrev pub has_turn : Option ℕ → ℕ → Bool
has_turn None user = true
has_turn (Some party) user = user == party

-- a user that stays was still held, in a run that does not close
abbrev pub IsHeld : {K : Type 0} → Bool → Bool → PlainCore → UserSeat K → Type 0
IsHeld due closes core seat = due ≡ true → has_left core.journal seat.session.user ≡ false → (closes ≡ false) × IsTrue (is_still_held core.users core.journal seat.session.user)

-- how much may still be done in a journal, and by users there
abbrev pub work_left : {K : Type 0} → Entries → List (UserSeat K) → ℕ
work_left journal seats = (most_entries - counted_entries journal) + sum_by (λ seat. user_work journal seat.session) seats

-- turns of some users add entries of theirs alone
pub record GrowsAmong (parties : List ℕ) (before after : PlainCore) : Type 0 where
  pub users : after.users ≡ before.users
  pub entries : Entries
  pub own : All (λ e. IsTrue (is_user parties e.party)) entries
  pub journal : after.journal ≡ entries ++ before.journal

module _ {K : Type 0} (told : K → Option (Told (ℕ × List ℕ))) (faults : K → ℕ) where
  -- the turn of a user, where it is due: from where it sat to where it sits
  pub record IsSeatTurn (due closes : Bool) (before : PlainCore) (sitting : Sitting K) (after : PlainCore) (seat : UserSeat K) : Type 0 where
    pub now : Sitting K
    pub here : now.seat ≡ seat
    pub same : IsSameSitting sitting now
    pub grows : GrowsBy sitting.seat.session.user before after
    pub seated : IsSeated told faults after.journal now
    pub lost : sitting.seat.is_lost ≡ true → seat.is_lost ≡ true
    pub whole : closes ≡ false → seat.is_lost ≡ false → SittingIsWhole told faults before.journal sitting → SittingIsWhole told faults after.journal now
    pub turn : closes ≡ false → seat.is_lost ≡ false → (final : Dealings) → EndsIn final now →
        (if due then turn before.users before.journal (participant_of final sitting.seat.session) else record { journal = before.journal; user = participant_of final sitting.seat.session })
        ≡ record { journal = after.journal; user = participant_of final seat.session }
    pub less : (work_with after.journal seat.session < work_with before.journal sitting.seat.session)
        ⊎ ((after ≡ before) × (seat.session ≡ sitting.seat.session) × IsHeld due closes before sitting.seat)

  -- the turns of those users that are due, in their order
  pub record AreSeatTurns (due : ℕ → Bool) (closes : Bool) (before : PlainCore) (sittings : List (Sitting K)) (after : PlainCore) (seats : List (UserSeat K)) : Type 0 where
    pub nows : List (Sitting K)
    pub here : seats_in nows ≡ seats
    pub users : map (λ seat. user_of seat.session) seats ≡ map (λ sitting. user_of sitting.seat.session) sittings
    pub lent : lent_to nows ≡ lent_to sittings
    pub began : (final : Dealings) → All (EndsIn final) nows → All (EndsIn final) sittings
    pub grows : GrowsAmong (seat_numbers (seats_in sittings)) before after
    pub seated : All (IsSeated told faults after.journal) nows
    pub lost : IsTrue (none_lost seats) → IsTrue (none_lost (seats_in sittings))
    pub whole : closes ≡ false → All (IsWholeUnlessLost told faults before.journal) sittings → All (IsWholeUnlessLost told faults after.journal) nows
    pub turns : closes ≡ false → IsTrue (none_lost seats) → (final : Dealings) → All (EndsIn final) nows →
        turns_where (λ user. due user.number) before.users before.journal (users_of final (seats_in sittings)) ≡ record { journal = after.journal; users = users_of final seats }
    pub less : (work_left after.journal seats < work_left before.journal (seats_in sittings))
        ⊎ ((after ≡ before) × (map (λ seat. seat.session) seats ≡ map (λ sitting. sitting.seat.session) sittings) × All (λ sitting. IsHeld (due sitting.seat.session.user) closes before sitting.seat) sittings)
