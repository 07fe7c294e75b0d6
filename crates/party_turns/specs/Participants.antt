-- Sessions as the users of a replay.
use Rattle.std.specs.Prelude.{List, map}
use Rattle.apl_session.specs.PlainSession.{PlainSession}
use Rattle.party_turns.specs.declared.seat.UserSeat.{UserSeat}
use Rattle.replay_rules.specs.Turns.{Participant}
use Rattle.session_rules.specs.Run.{Dealings}
use Rattle.session_rules.specs.Shelf.{ShelfReply, shelf_replies_in}

-- the user of a session, with the lines and the answers of the session, to which its shelf gives these replies in the end
abbrev pub participant_with : {K : Type 0} → List ShelfReply → PlainSession K → Participant
participant_with replies session = record { number = session.user; lines = session.lines; replies = replies; answers = session.answers }

-- the same where these are all dealings in the end
abbrev pub participant_of : {K : Type 0} → Dealings → PlainSession K → Participant
participant_of final session = participant_with (shelf_replies_in (final session.user)) session

-- the users of a replay
abbrev pub users_of : {K : Type 0} → Dealings → List (UserSeat K) → List Participant
users_of final seats = map (λ seat. participant_of final seat.session) seats
