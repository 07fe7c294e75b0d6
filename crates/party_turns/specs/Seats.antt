-- The seats of a run at its beginning and at its end.
use Rattle.std.specs.Prelude.{ℕ, Bool, true, false, List, Option, Some, None, map, not}
use Rattle.std.specs.List.{list_all}
use Rattle.apl_arrays.specs.List.{Listed}
use Rattle.apl_io.specs.Content.{Told}
use Rattle.sv_events.specs.Entry.{PlainEntry}
use Rattle.sv_journal.specs.Output.{PlainTranscript}
use Rattle.apl_session.specs.PlainSession.{HasCome}
use Rattle.apl_session.specs.Wants.{HasHeardAll}
use Rattle.apl_session.specs.declared.outcome.Ended.{Ended}
use Rattle.apl_session.specs.declared.outcome.Ended.TheVariants as ended
use Rattle.party_turns.specs.Sittings.{Sitting}
use Rattle.party_turns.specs.SoFar.{echoed_and_printed}
use Rattle.party_turns.specs.declared.seat.UserSeat.{UserSeat}

-- what a user saw
abbrev pub transcript_of : {K : Type 0} → Sitting K → PlainTranscript
transcript_of sitting = record { user = sitting.seat.session.user; lines = echoed_and_printed sitting.exchanges sitting.seat.session }

-- a user has heard all answers, and its shelf was asked these
pub record HasPrinted {K : Type 0} (told : K → Option (Told (ℕ × List ℕ))) (faults : K → ℕ) (sitting : Sitting K) : Type 0 where
  pub heard : HasHeardAll sitting.seat.session.stage
  pub come : HasCome told faults sitting.lent sitting.exchanges sitting.seat.session

-- how a run ends where these transcripts are there, and where memory ran out for nobody or for some party
abbrev pub end_by : Option (Listed PlainTranscript) → Listed PlainEntry → Bool → Ended
end_by None journal whole = ended.WantOfMemory
end_by (Some transcripts) journal true = ended.Whole transcripts journal
end_by (Some transcripts) journal false = ended.WantOfMemory

-- the numbers of seats' users
abbrev pub seat_numbers : {K : Type 0} → List (UserSeat K) → List ℕ
seat_numbers seats = map (λ seat. seat.session.user) seats

-- memory ran out for none of these users
abbrev pub none_lost : {K : Type 0} → List (UserSeat K) → Bool
none_lost seats = list_all (λ seat. not seat.is_lost) seats
