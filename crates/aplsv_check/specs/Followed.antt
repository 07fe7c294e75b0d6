-- A run of a bundle that is followed entry by entry: how far its parties are.
use Rattle.std.specs.Prelude.{◌≡◌, ◌<◌, ◌+◌, ◌++◌, ℕ, Bool, true, false, List, [], ◌∷◌, All, Some}
use Rattle.apl_arrays.specs.Array.{PlainArray}
use Rattle.apl_io.specs.Kept.{Keeper, Timer}
use Rattle.apl_io.specs.declared.devices.Devices.{Devices}
use Rattle.aux_parties.specs.Auxiliaries.{party_of}
use Rattle.aux_parties.specs.declared.auxiliary.AuxiliaryKind.{AuxiliaryKind}
use Rattle.aux_parties.specs.declared.auxiliary.AuxiliaryKind.TheVariants.{Clock, TextFiles}
use Rattle.auxiliaries.specs.Served.{Served}
use Rattle.bundle_text.specs.Rules.{IsBundle, PlainBundle}
use Rattle.bundle_text.specs.User.{PlainUser}
use Rattle.sv_core.specs.Core.{PlainCore}
use Rattle.sv_events.specs.Entry.{PlainEntry}
use Rattle.sv_rules.specs.Entries.{Entries, is_full, is_leave}
use Rattle.sv_rules.specs.Legal.{MayFollow}
use Rattle.session_rules.specs.Behind.{Behind}
use Rattle.session_rules.specs.Run.{user_numbers}
use Rattle.session_rules.specs.Session.{session_of}
use Rattle.session_rules.specs.Shelf.{Exchange, ShelfReply, shelf_replies_in}
use Rattle.apl_session.specs.PlainSession.{PlainSession}
use Rattle.apl_session.specs.declared.session.SessionStage.TheVariants.{Waiting}
use Rattle.party_turns.specs.Entering.{IsOneIf}
use Rattle.party_turns.specs.Sittings.{Sitting}
use Rattle.party_turns.specs.SoFar.{HasAnswered, IsIdleIf, IsSeated, SittingIsWhole, user_of, work_with}
use Rattle.party_turns.specs.declared.auxiliary.Auxiliary.{Auxiliary}
use Rattle.party_turns.specs.declared.seat.UserSeat.{UserSeat}
use Rattle.bundle_devices.specs.Devices.{clock_of, empty_shelf, shelves_of, text_store_of}
use Rattle.check_rules.specs.Fits.{EntriesFit, EntryFits, HasReplied, IsNextOf, begins, forgets, replies}
use Rattle.aplsv_check.specs.declared.follower.Follower.{Follower}

-- these exchanges are all calls of a session so far, whatever replies follow
abbrev pub HasCalled : List Exchange → PlainSession (Keeper (ℕ × List ℕ)) → Type 0
HasCalled exchanges s = (more : List ShelfReply) → (session_of s.lines s.answers (shelf_replies_in exchanges ++ more)).exchanges ≡ exchanges

-- a user in its seat: its shelf was empty when it was lent, and memory did not run out for it; while it has not left it is so far, and where it waits for an answer its session has made its calls; once it has left it has its part
pub record IsSeatOf (journal : Entries) (user : PlainUser) (seat : UserSeat (Keeper (ℕ × List ℕ))) : Type 0 where
  pub sitting : Sitting (Keeper (ℕ × List ℕ))
  pub here : sitting.seat ≡ seat
  pub same : user_of seat.session ≡ user
  pub lent : sitting.lent ≡ empty_shelf
  pub memory : seat.is_lost ≡ false
  pub seated : IsSeated (λ k. Some k.told) (λ k. k.faults) journal sitting
  pub called : seat.session.stage ≡ Waiting → HasCalled sitting.exchanges seat.session
  pub whole : SittingIsWhole (λ k. Some k.told) (λ k. k.faults) journal sitting

-- users in their seats, in their order
abbrev pub AreSeatsOf : Entries → List PlainUser → List (UserSeat (Keeper (ℕ × List ℕ))) → Type 0
AreSeatsOf journal [] [] = Unit {0}
AreSeatsOf journal [] (seat ∷ seats) = ⊥
AreSeatsOf journal (user ∷ users) [] = ⊥
AreSeatsOf journal (user ∷ users) (seat ∷ seats) = IsSeatOf journal user seat × AreSeatsOf journal users seats

-- an auxiliary of a bundle: memory did not run out for it, and what answers behind it came by its entries from where it begins to where it is
pub record IsAuxiliaryOf (bundle : PlainBundle) (kind : AuxiliaryKind) (journal : Entries) (aux : Auxiliary (Behind Timer (Served (Keeper (List ℕ))) kind)) : Type 0 where
  pub number : aux.party ≡ party_of kind
  pub memory : aux.is_lost ≡ false
  pub answered : HasAnswered (forgets kind) (replies kind) (begins bundle kind) journal aux

-- a run of a bundle was followed so far: each of its entries fits
pub record IsFollowed (bundle : PlainBundle) (run : Follower) : Type 0 where
  pub rules : IsBundle bundle
  pub users : run.core.users ≡ user_numbers bundle
  pub seats : AreSeatsOf run.core.journal bundle.users run.seats.items
  pub ten : IsAuxiliaryOf bundle Clock run.core.journal run.ten
  pub twenty : IsAuxiliaryOf bundle TextFiles run.core.journal run.twenty
  pub fit : EntriesFit bundle run.core.journal

-- these are the devices of a bundle
pub record HasDevices (bundle : PlainBundle) (devices : Devices (Keeper (List ℕ)) Timer (Keeper (ℕ × List ℕ))) : Type 0 where
  pub text : devices.text ≡ text_store_of bundle
  pub clock : devices.clock ≡ clock_of bundle
  pub shelves : devices.shelves.items ≡ shelves_of bundle

-- so of some bundle
abbrev pub IsSomeRun : Follower → Type 0
IsSomeRun run = (bundle : PlainBundle) × IsFollowed bundle run

-- an entry fits and was followed; or it does not
abbrev pub Follows : PlainBundle → Follower → PlainEntry → Bool → Follower → Type 0
Follows bundle before e true after = IsFollowed bundle after × (after.core.journal ≡ e ∷ before.core.journal)
Follows bundle before e false after = EntryFits bundle before.core.journal e → ⊥

-- an entry of a party was made, and is what the party does next; all are where it leads them
pub record MadeNext (bundle : PlainBundle) (party : ℕ) (before after : Follower) : Type 0 where
  pub entry : PlainEntry
  pub own : entry.party ≡ party
  pub users : after.core.users ≡ before.core.users
  pub journal : after.core.journal ≡ entry ∷ before.core.journal
  pub seats : AreSeatsOf after.core.journal bundle.users after.seats.items
  pub ten : IsAuxiliaryOf bundle Clock after.core.journal after.ten
  pub twenty : IsAuxiliaryOf bundle TextFiles after.core.journal after.twenty
  pub next : All (λ user. user.number ≡ party → IsNextOf (is_leave entry.act) before.core.journal user entry.act) bundle.users
  pub replied : (kind : AuxiliaryKind) → party_of kind ≡ party → HasReplied bundle kind after.core.journal

-- no entry of a party fits
abbrev pub NoneFits : PlainBundle → ℕ → Entries → Type 0
NoneFits bundle party journal = (e : PlainEntry) → e.party ≡ party → EntryFits bundle journal e → ⊥

-- an entry was made, or none of the party fits
abbrev pub MadeIf : PlainBundle → ℕ → Follower → Bool → Follower → Type 0
MadeIf bundle party before true after = MadeNext bundle party before after
MadeIf bundle party before false after = NoneFits bundle party before.core.journal

-- ---- the turn of an auxiliary

-- an auxiliary had its turn, and memory did not run out for it: it made an entry, or it has no work
pub record HasServed {X : Type 0} (forgets : X → ℕ → X → Type 0) (replies : X → ℕ → PlainArray → PlainArray → X → Type 0) (old new : Auxiliary X) (before : PlainCore) (made : Bool) (after : PlainCore) : Type 0 where
  pub party : new.party ≡ old.party
  pub memory : new.is_lost ≡ false
  pub one : IsOneIf made old.party before after
  pub answered : (start : X) → HasAnswered forgets replies start before.journal old → HasAnswered forgets replies start after.journal new
  pub idle : IsIdleIf old.party before.journal after.journal

-- ---- turns of a user

-- no entry of a user is legal and what the user does next
abbrev pub NoneIsNext : PlainUser → PlainCore → Type 0
NoneIsNext user core = (e : PlainEntry) → e.party ≡ user.number → MayFollow core.users core.journal e → IsNextOf (is_leave e.act) core.journal user e.act → ⊥

-- a user made the entry that is what it does next
pub record TurnedOn (user : PlainUser) (before after : PlainCore) (seat : UserSeat (Keeper (ℕ × List ℕ))) : Type 0 where
  pub entry : PlainEntry
  pub own : entry.party ≡ user.number
  pub users : after.users ≡ before.users
  pub journal : after.journal ≡ entry ∷ before.journal
  pub seated : IsSeatOf after.journal user seat
  pub next : IsNextOf (is_leave entry.act) before.journal user entry.act

-- a user made no entry: where the journal is full it heard so, and less is left for it to do, and else none is what it does next
pub record StoodStill (user : PlainUser) (before : PlainCore) (seat : UserSeat (Keeper (ℕ × List ℕ))) (after : PlainCore) (now : UserSeat (Keeper (ℕ × List ℕ))) : Type 0 where
  pub same : after ≡ before
  pub seated : IsSeatOf before.journal user now
  pub none : is_full before.journal ≡ false → NoneIsNext user before
  pub less : is_full before.journal ≡ true → work_with before.journal now.session < work_with before.journal seat.session

-- one turn of a user that has not left
abbrev pub TookTurn : PlainUser → PlainCore → UserSeat (Keeper (ℕ × List ℕ)) → Bool → PlainCore → UserSeat (Keeper (ℕ × List ℕ)) → Type 0
TookTurn user before seat true after now = TurnedOn user before after now
TookTurn user before seat false after now = StoodStill user before seat after now

-- some turns of a user: it made the entry that is what it does next, or it is where it was, and heard at the most that the journal is full
pub record IsWhereItWas (user : PlainUser) (before after : PlainCore) (now : UserSeat (Keeper (ℕ × List ℕ))) : Type 0 where
  pub same : after ≡ before
  pub seated : IsSeatOf before.journal user now
  pub none : is_full before.journal ≡ false → NoneIsNext user before

-- some turns of a user that has not left: an entry was made behind them, or none
abbrev pub TookTurns : PlainUser → PlainCore → Bool → PlainCore → UserSeat (Keeper (ℕ × List ℕ)) → Type 0
TookTurns user before true after now = TurnedOn user before after now
TookTurns user before false after now = IsWhereItWas user before after now

-- how much is left for a user that makes no entry
abbrev pub turns_left : Bool → PlainCore → UserSeat (Keeper (ℕ × List ℕ)) → ℕ
turns_left true core seat = 0
turns_left false core seat = 1 + work_with core.journal seat.session

-- behind them the entry was made, or none is what the user does next
abbrev pub EndedTurns : PlainUser → PlainCore → Bool → PlainCore → UserSeat (Keeper (ℕ × List ℕ)) → Type 0
EndedTurns user before true after now = TurnedOn user before after now
EndedTurns user before false after now = NoneIsNext user before

-- the one of these users that is the party made the entry that is what it does next
pub record UsersTurnedOn (party : ℕ) (users : List PlainUser) (before after : PlainCore) (seats : List (UserSeat (Keeper (ℕ × List ℕ)))) : Type 0 where
  pub entry : PlainEntry
  pub own : entry.party ≡ party
  pub users_are : after.users ≡ before.users
  pub journal : after.journal ≡ entry ∷ before.journal
  pub seated : AreSeatsOf after.journal users seats
  pub next : All (λ user. user.number ≡ party → IsNextOf (is_leave entry.act) before.journal user entry.act) users

-- none of them is the party, or no entry of it is legal and what it does next
abbrev pub NoneTurnsOn : ℕ → List PlainUser → PlainCore → Type 0
NoneTurnsOn party users core = All (λ user. user.number ≡ party → NoneIsNext user core) users

-- the turns of a party among users: one of them made the entry, or none of them makes one
abbrev pub UsersTurned : ℕ → List PlainUser → PlainCore → Bool → PlainCore → List (UserSeat (Keeper (ℕ × List ℕ))) → Type 0
UsersTurned party users before true after seats = UsersTurnedOn party users before after seats
UsersTurned party users before false after seats = NoneTurnsOn party users before
