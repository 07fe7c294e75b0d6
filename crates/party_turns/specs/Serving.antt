-- What the turn of an auxiliary does.
use Rattle.std.specs.Prelude.{◌≡◌, ℕ, false, IsTrue, List, Option, Some}
use Rattle.apl_arrays.specs.Array.{PlainArray}
use Rattle.auxiliaries.specs.Run.{CameTo, RunsTo}
use Rattle.sv_core.specs.Core.{PlainCore}
use Rattle.sv_events.specs.Work.{act_of}
use Rattle.sv_events.specs.declared.event.Act.{Act}
use Rattle.sv_rules.specs.Entries.{Entries, next_place}
use Rattle.sv_rules.specs.Legal.{IsLegal, journal_after}
use Rattle.sv_rules.specs.Work.{work_of}
use Rattle.session_rules.specs.Auxiliaries.{acts_among}
use Rattle.party_turns.specs.SoFar.{GrowsBy, HasAnswered, IsIdleIf, IsServed}
use Rattle.party_turns.specs.declared.auxiliary.Auxiliary.{Auxiliary}

-- a party makes the act of its work, with the reply where the work is one
pub record MakesWork (party : ℕ) (reply : Option PlainArray) (before after : PlainCore) : Type 0 where
  pub legal : IsLegal before.users before.journal
  pub act : Act
  pub due : act_of (work_of before.journal party) (next_place before.journal) reply ≡ Some act
  pub made : after ≡ record before { journal = journal_after before.journal party act }

-- an auxiliary took its turn: it did its work, if it had any, and what answers behind it heard what its entry says
pub record TookTurn {X : Type 0} (forgets : X → ℕ → X → Type 0) (replies : X → ℕ → PlainArray → PlainArray → X → Type 0) (old new : Auxiliary X) (before after : PlainCore) : Type 0 where
  pub grows : GrowsBy old.party before after
  pub answered : (start : X) → HasAnswered forgets replies start before.journal old → HasAnswered forgets replies start after.journal new
  pub turn : IsServed old.party before.journal after.journal
  pub idle : IsIdleIf old.party before.journal after.journal

-- an auxiliary of a run between two turns: it has this number; what answers behind it came to where it is by the auxiliary's entries, of which nothing is said once memory ran out for it; and before each of these entries some user had not left
pub record IsAtWork {S : Type 0} (forgets : S → ℕ → S → Type 0) (replies : S → ℕ → PlainArray → PlainArray → S → Type 0) (users : List ℕ) (party : ℕ) (start : S) (journal : Entries) (aux : Auxiliary S) : Type 0 where
  pub number : aux.party ≡ party
  pub answered : aux.is_lost ≡ false → HasAnswered forgets replies start journal aux
  pub among : IsTrue (acts_among users party journal)

-- what answers behind an auxiliary goes on by events, from wherever it had come by some
abbrev pub RunsOn : {S : Type 0} → (S → ℕ → S → Type 0) → (S → ℕ → PlainArray → PlainArray → S → Type 0) → S → S → Type 0
RunsOn forgets replies before after = (start : _) → RunsTo forgets replies start before → RunsTo forgets replies start after

module _ {S : Type 0} (forgets : S → ℕ → S → Type 0) (replies : S → ℕ → PlainArray → PlainArray → S → Type 0) (wants : S → ℕ → PlainArray → S → Type 0) where
  -- so it does, but that memory may run out over an answer
  abbrev pub EndsOn : S → S → Type 0
  EndsOn before after = (start : S) → RunsTo forgets replies start before → CameTo forgets replies wants start after

  -- what answers behind an auxiliary came to where it is, and by events alone where memory did not run out for the auxiliary
  pub record CameBehind (start : S) (aux : Auxiliary S) : Type 0 where
    pub came : CameTo forgets replies wants start aux.replier
    pub ran : aux.is_lost ≡ false → RunsTo forgets replies start aux.replier

  -- so from wherever it had come
  abbrev pub ComesOn : Auxiliary S → Auxiliary S → Type 0
  ComesOn before after = (start : S) → CameBehind start before → CameBehind start after
