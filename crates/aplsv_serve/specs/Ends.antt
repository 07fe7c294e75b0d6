-- The end of a run on threads.
use Rattle.std.specs.Prelude.{◌≡◌, ℕ, false, List, Option, All, IsTrue, map}
use Rattle.apl_io.specs.Content.{Told}
use Rattle.sv_journal.specs.Output.{PlainTranscript}
use Rattle.sv_core.specs.Histories.{party_of_entry}
use Rattle.sv_events.specs.Entry.{PlainEntry}
use Rattle.sv_rules.specs.Entries.{Entries}
use Rattle.sv_rules.specs.Legal.{IsLegal}
use Rattle.session_rules.specs.Auxiliaries.{some_stay}
use Rattle.sv_turn.specs.Journals.{Begins, places_of}
use Rattle.sv_turn.specs.Seating.{known_of}
use Rattle.sv_turn.specs.declared.seat.Seat.{Seat}
use Rattle.party_turns.specs.Seats.{HasPrinted, none_lost, seat_numbers, transcript_of}
use Rattle.party_turns.specs.Sittings.{Sitting, seats_in}
use Rattle.aplsv_serve.specs.declared.ending.Apart.{Apart}

-- a journal has all that a seat knows, and no entry more of its party
pub record HasAllOf (journal : Entries) (seat : Seat PlainEntry) : Type 0 where
  pub begins : Begins (known_of seat) journal
  pub places : seat.mine.items ≡ places_of party_of_entry seat.party journal

-- a run whose tasks came back so is whole: memory ran out for nobody, and all users have left; its journal is legal for these users, and has all that the seats know; and the transcripts are the users', where all answers were heard
pub record EndsWhole {X Y K : Type 0} (told : K → Option (Told (ℕ × List ℕ))) (faults : K → ℕ) (users : List ℕ) (apart : Apart X Y K) (transcripts : List PlainTranscript) (journal : Entries) : Type 0 where
  pub ten_here : apart.ten.is_lost ≡ false
  pub twenty_here : apart.twenty.is_lost ≡ false
  pub users_here : IsTrue (none_lost apart.users.items)
  pub over : some_stay (seat_numbers apart.users.items) journal ≡ false
  pub legal : IsLegal users journal
  pub seats : All (HasAllOf journal) apart.seats.items
  pub printed : (sittings : List (Sitting K)) → seats_in sittings ≡ apart.users.items → All (HasPrinted told faults) sittings → transcripts ≡ map transcript_of sittings
