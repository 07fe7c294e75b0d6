-- All parties of a replay between two turns.
use Rattle.std.specs.Prelude.{◌≡◌, ◌⊎◌, ◌<◌, ◌≤◌, ◌+◌, ◌++◌, ◌&&◌, ℕ, Bool, true, false, not, List, Option, All, IsTrue, map}
use Rattle.apl_arrays.specs.Array.{PlainArray}
use Rattle.apl_arrays.specs.Ascending.{AscendBy}
use Rattle.apl_io.specs.Content.{Told}
use Rattle.bundle_text.specs.Rules.{PlainBundle}
use Rattle.sv_core.specs.Core.{ArePeople}
use Rattle.sv_events.specs.declared.work.Work.TheVariants.{Idle}
use Rattle.aux_parties.specs.Auxiliaries.{party_of}
use Rattle.sv_rules.specs.Entries.{Entries}
use Rattle.sv_rules.specs.Work.{work_of}
use Rattle.aux_parties.specs.declared.auxiliary.AuxiliaryKind.{AuxiliaryKind}
use Rattle.aux_parties.specs.declared.auxiliary.AuxiliaryKind.TheVariants.{Clock, TextFiles}
use Rattle.session_rules.specs.Auxiliaries.{some_stay}
use Rattle.session_rules.specs.Behind.{Behind, forgets_of, of_each, replies_of}
use Rattle.session_rules.specs.Run.{Dealings, user_numbers}
use Rattle.party_turns.specs.Participants.{users_of}
use Rattle.aplsv_replay.specs.SeatTurns.{work_left}
use Rattle.party_turns.specs.Seats.{none_lost}
use Rattle.party_turns.specs.Serving.{ComesOn, IsAtWork}
use Rattle.party_turns.specs.Sittings.{EndsIn, Sitting, lent_to, seats_in}
use Rattle.party_turns.specs.SoFar.{IsSeated, IsWholeUnlessLost, user_of}
use Rattle.replay_rules.specs.Turns.{Replay, auxiliary_turn, rounds}
use Rattle.party_turns.specs.declared.auxiliary.Auxiliary.{Auxiliary}
use Rattle.aplsv_replay.specs.declared.parties.Parties.{Parties}

-- memory ran out for nobody
abbrev pub none_is_lost : {X Y K : Type 0} → Parties X Y K → Bool
none_is_lost p = not p.ten.is_lost && not p.twenty.is_lost && none_lost p.seats.items

-- the parties took the turns of a replay that a function says: with the replies that the auxiliaries gave in them, in whatever dealings the users end
pub record TookTurns {X Y K : Type 0} (turns : Replay → Replay) (before after : Parties X Y K) (nows : List (Sitting K)) : Type 0 where
  pub given : ℕ → List PlainArray
  pub same : (final : Dealings) → All (EndsIn final) nows → (more : ℕ → List PlainArray) →
      turns (record { journal = before.core.journal; replies = λ party. given party ++ more party; users = users_of final before.seats.items })
      ≡ record { journal = after.core.journal; replies = more; users = users_of final after.seats.items }

-- how much may still be done
abbrev pub left_to_do : {X Y K : Type 0} → Parties X Y K → ℕ
left_to_do p = work_left p.core.journal p.seats.items

-- an auxiliary's turn leaves less to do; or memory ran out for it; or it had no work, and nothing changed
pub record LeavesLess {X Y K : Type 0} (party : ℕ) (lost : Bool) (before after : Parties X Y K) : Type 0 where
  pub most : left_to_do after ≤ left_to_do before
  pub rests : (left_to_do after < left_to_do before) ⊎ ((lost ≡ true) ⊎ ((after.core ≡ before.core) × (work_of before.core.journal party ≡ Idle)))
  pub seats : after.seats ≡ before.seats

module _ {X Y : Type 0} (forgets_ten : X → ℕ → X → Type 0) (replies_ten : X → ℕ → PlainArray → PlainArray → X → Type 0)
    (forgets_twenty : Y → ℕ → Y → Type 0) (replies_twenty : Y → ℕ → PlainArray → PlainArray → Y → Type 0) where
  -- the auxiliary of a kind in a run of a bundle, whose auxiliaries began at these states
  abbrev pub WorksAs : PlainBundle → X → Y → (kind : AuxiliaryKind) → Entries → Auxiliary (Behind X Y kind) → Type 0
  WorksAs bundle ten twenty kind journal aux =
      IsAtWork (forgets_of forgets_ten forgets_twenty kind) (replies_of replies_ten replies_twenty kind) (user_numbers bundle) (party_of kind) (of_each ten twenty kind) journal aux

-- the auxiliary of a kind
abbrev pub auxiliary_of : {X Y K : Type 0} → Parties X Y K → (kind : AuxiliaryKind) → Auxiliary (Behind X Y kind)
auxiliary_of p Clock = p.ten
auxiliary_of p TextFiles = p.twenty

module _ {X Y K : Type 0} (forgets_ten : X → ℕ → X → Type 0) (replies_ten : X → ℕ → PlainArray → PlainArray → X → Type 0)
    (forgets_twenty : Y → ℕ → Y → Type 0) (replies_twenty : Y → ℕ → PlainArray → PlainArray → Y → Type 0)
    (told : K → Option (Told (ℕ × List ℕ))) (faults : K → ℕ) where
  -- the parties of a bundle, whose auxiliaries began at these states: its users in their order, each on the shelf that it was lent, and so far, or with its part once it has left; and each auxiliary at its work. Where memory ran out for a party, nothing is said of its part
  pub record AreTogether (bundle : PlainBundle) (ten : X) (twenty : Y) (lent : List K) (p : Parties X Y K) (sittings : List (Sitting K)) : Type 0 where
    pub here : seats_in sittings ≡ p.seats.items
    pub people : ArePeople p.core.users
    pub numbers : p.core.users ≡ user_numbers bundle
    pub ascending : AscendBy (λ user. user.number) bundle.users
    pub users : map (λ seat. user_of seat.session) p.seats.items ≡ bundle.users
    pub shelves : lent_to sittings ≡ lent
    pub seated : All (IsSeated told faults p.core.journal) sittings
    pub whole : ((kind : AuxiliaryKind) → (auxiliary_of p kind).is_lost ≡ false) → All (IsWholeUnlessLost told faults p.core.journal) sittings
    pub at_work : (kind : AuxiliaryKind) → WorksAs forgets_ten replies_ten forgets_twenty replies_twenty bundle ten twenty kind p.core.journal (auxiliary_of p kind)

  -- they are those of some bundle
  pub record AreOfSomeBundle (p : Parties X Y K) : Type 0 where
    pub bundle : PlainBundle
    pub ten : X
    pub twenty : Y
    pub shelves : List K
    pub sittings : List (Sitting K)
    pub together : AreTogether bundle ten twenty shelves p sittings

  -- from where they sat, they stay those of the bundle; and where memory ran out for nobody, it had before, and they took turns
  pub record StayTogether (turns : Replay → Replay) (bundle : PlainBundle) (ten : X) (twenty : Y) (shelves : List K) (before : Parties X Y K) (sittings : List (Sitting K)) (after : Parties X Y K) : Type 0 where
    pub nows : List (Sitting K)
    pub together : AreTogether bundle ten twenty shelves after nows
    pub began : (final : Dealings) → All (EndsIn final) nows → All (EndsIn final) sittings
    pub lost : IsTrue (none_is_lost after) → IsTrue (none_is_lost before)
    pub took : IsTrue (none_is_lost after) → TookTurns turns before after nows

  -- so wherever they sat
  abbrev pub TakesTurns : (Replay → Replay) → Parties X Y K → Parties X Y K → Type 0
  TakesTurns turns before after = (bundle : PlainBundle) (ten : X) (twenty : Y) (shelves : List K) (sittings : List (Sitting K)) → AreTogether bundle ten twenty shelves before sittings → StayTogether turns bundle ten twenty shelves before sittings after

  -- the auxiliary of a kind had its turn: it was the turn of a replay, unless memory ran out, and some user stays; memory that ran out before stays so; and less is left to do, or the auxiliary can't do anything
  pub record TookAuxiliaryTurn (kind : AuxiliaryKind) (before after : Parties X Y K) : Type 0 where
    pub turn : TakesTurns (auxiliary_turn (party_of kind)) before after
    pub stay : IsTrue (some_stay after.core.users after.core.journal)
    pub lost : (other : AuxiliaryKind) → (auxiliary_of before other).is_lost ≡ true → (auxiliary_of after other).is_lost ≡ true
    pub less : LeavesLess (party_of kind) (auxiliary_of after kind).is_lost before after

  -- the parties took some rounds, and each of them left less to do
  pub record TakesRounds (before after : Parties X Y K) : Type 0 where
    pub count : ℕ
    pub less : count + left_to_do after ≤ left_to_do before
    pub turns : TakesTurns (rounds count) before after

-- what answers behind both auxiliaries goes on from wherever it had come, also where memory runs out for them
pub record BothComeOn {X Y K : Type 0} (forgets_ten : X → ℕ → X → Type 0) (replies_ten : X → ℕ → PlainArray → PlainArray → X → Type 0) (wants_ten : X → ℕ → PlainArray → X → Type 0)
    (forgets_twenty : Y → ℕ → Y → Type 0) (replies_twenty : Y → ℕ → PlainArray → PlainArray → Y → Type 0) (wants_twenty : Y → ℕ → PlainArray → Y → Type 0) (before after : Parties X Y K) : Type 0 where
  pub ten : ComesOn forgets_ten replies_ten wants_ten before.ten after.ten
  pub twenty : ComesOn forgets_twenty replies_twenty wants_twenty before.twenty after.twenty
