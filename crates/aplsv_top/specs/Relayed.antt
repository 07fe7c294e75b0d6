-- What a relay carried in a run.
use Rattle.std.specs.Prelude.{◌≡◌, ◌≤◌, ℕ, true, List, Option, length, take}
use Rattle.aux_parties.specs.Auxiliaries.{clock_party}
use Rattle.apl_io.specs.Clock.{Ticks}
use Rattle.apl_io.specs.Content.{Told}
use Rattle.aux_relay.specs.History.{AreRelayed, Reply, texts_given, texts_taken}
use Rattle.aux_relay.specs.Queues.{replies_among}
use Rattle.session_rules.specs.Auxiliaries.{events_of}
use Rattle.sv_rules.specs.Entries.{Entries}
use Rattle.aplsv_words.specs.Meaning.{Asked}
use Rattle.aplsv_top.specs.Headline.{IsOutputAs}

-- the replies that party 10 set in a journal: whose value it used last on the same name, that value, and what it set
abbrev pub relayed_in : Entries → List Reply
relayed_in journal = replies_among (events_of journal clock_party)

-- what one user took of another is a front part of what that one gave, in its order, each text once
abbrev pub ArriveInOrder : List Reply → Type 0
ArriveInOrder replies = (from to : ℕ) → (length (texts_taken from to replies) ≤ length (texts_given from to replies)) × (texts_taken from to replies ≡ take (length (texts_taken from to replies)) (texts_given from to replies))

module _ {C T K : Type 0} (ticks : C → Option Ticks) (clock_faults : C → ℕ) (text_told : T → Option (Told (List ℕ))) (text_faults : T → ℕ) (told : K → Option (Told (ℕ × List ℕ))) (faults : K → ℕ) where
  -- where a relay was asked for, each reply that is printed of party 10 is the relay's after those before it, and texts arrive in their order
  abbrev pub RelayedTextsArrive : Type 0
  RelayedTextsArrive = (asked : Asked) (clock clock_then : C) (files files_then : T) (shelves shelves_then : List K) (bytes text : List ℕ) → asked.relay ≡ true
      → (output : IsOutputAs ticks clock_faults text_told text_faults told faults asked clock clock_then files files_then shelves shelves_then bytes text) → AreRelayed (relayed_in output.journal) × ArriveInOrder (relayed_in output.journal)
