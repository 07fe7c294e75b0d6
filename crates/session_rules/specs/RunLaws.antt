-- What holds of the parts of a run.
use Rattle.std.specs.Prelude.{◌≡◌, ◌≢◌, ℕ, List, ◌∷◌, IsTrue, Option}
use Rattle.apl_arrays.specs.Array.{PlainArray}
use Rattle.apl_io.specs.Content.{KeepsPlaces, Told}
use Rattle.sv_events.specs.Entry.{PlainEntry}
use Rattle.aux_parties.specs.Auxiliaries.{party_of}
use Rattle.sv_rules.specs.Entries.{Entries}
use Rattle.sv_rules.specs.Legal.{IsLegal}
use Rattle.aux_parties.specs.declared.auxiliary.AuxiliaryKind.{AuxiliaryKind}
use Rattle.bundle_text.specs.Rules.{PlainBundle}
use Rattle.bundle_text.specs.User.{PlainUser}
use Rattle.sv_journal.specs.Output.{PlainTranscript}
use Rattle.session_rules.specs.Auxiliaries.{IsAuxiliaryPart, acts_among, some_stay}
use Rattle.session_rules.specs.Run.{AreUserParts, Dealings}
use Rattle.session_rules.specs.Shelf.{Exchange, IsShelfRun}
use Rattle.session_rules.specs.UserPart.{IsUserPart}

-- a user's part stays true when an entry of another party follows
abbrev pub OthersChangeNoUserPart : Type 0
OthersChangeNoUserPart =
    (journal : Entries) (user : PlainUser) (exchanges : List Exchange) (transcript : List (List ℕ)) (e : PlainEntry) →
    IsUserPart journal user exchanges transcript → e.party ≢ user.number → IsUserPart (e ∷ journal) user exchanges transcript

-- and so does an auxiliary's part
abbrev pub OthersChangeNoAuxiliaryPart : {S : Type 0} → (S → ℕ → S → Type 0) → (S → ℕ → PlainArray → PlainArray → S → Type 0) → Type 0
OthersChangeNoAuxiliaryPart {S = S} forgets replies =
    (users : List ℕ) (party : ℕ) (journal : Entries) (start end : S) (e : PlainEntry) →
    IsAuxiliaryPart forgets replies users party journal start end → e.party ≢ party → IsAuxiliaryPart forgets replies users party (e ∷ journal) start end

-- a journal gives each user one transcript, where the shelves give the same replies
abbrev pub PartsMakeOneTranscript : Type 0
PartsMakeOneTranscript =
    (bundle : PlainBundle) (dealings : Dealings) (journal : Entries) (transcripts others : List PlainTranscript) →
    AreUserParts dealings journal bundle.users transcripts → AreUserParts dealings journal bundle.users others → transcripts ≡ others

-- before each entry of a run some user has not left: so nothing follows the last leave, and without users there is no entry
abbrev pub NothingFollowsTheLastLeave : Type 0
NothingFollowsTheLastLeave =
    (users : List ℕ) (journal : Entries) (e : PlainEntry) → IsLegal users (e ∷ journal)
    → ((kind : AuxiliaryKind) → IsTrue (acts_among users (party_of kind) (e ∷ journal))) → IsTrue (some_stay users journal)

-- a shelf that serves a user is given no place
abbrev pub ShelvesKeepTheirPlaces : {K : Type 0} → (K → Option (Told (ℕ × List ℕ))) → (K → ℕ) → Type 0
ShelvesKeepTheirPlaces {K = K} told faults =
    (user : ℕ) (start end : K) (exchanges : List Exchange) → IsShelfRun told faults user start exchanges end → KeepsPlaces (told start) (told end)
