-- What control gives: nothing that a side sent is lost but what its receiver set over.
use Rattle.std.specs.Prelude.{◌≡◌, ◌+◌, ◌<◌, ◌≤◌, ◌⊎◌, ◌↔◌, ℕ, List, [], ◌∷◌, ◌++◌, length, reverse, slice_get, Option, Some, IsTrue, if◌then◌else◌}
use Rattle.apl_arrays.specs.Array.{PlainArray}
use Rattle.sv_access.specs.declared.access.Side.{Side}
use Rattle.sv_access.specs.declared.access.Side.TheVariants.{A, B}
use Rattle.sv_access.specs.declared.access.Kind.TheVariants.{Set, Use}
use Rattle.sv_access.specs.declared.state.AccessState.TheVariants.{Quiet}
use Rattle.sv_access.specs.Access.{other_side}
use Rattle.sv_access.specs.Story.{Story, is_unseen, last_value, state_of_story}
use Rattle.sv_rules.specs.Coupling.{coupling_now}
use Rattle.sv_rules.specs.Entries.{Entries}
use Rattle.sv_rules.specs.Legal.{IsLegal}
use Rattle.sv_rules.specs.Story.{first_set}
use Rattle.sv_delivery_laws.specs.Sent.{Sent, just_sent, sent, set_by, used_by, unseen_value, values_sent, taken_out, values_remaining}
use Rattle.sv_delivery_laws.specs.Stretch.{Stretch, IsStretch, IsStretchIn, giver_of, StandsOrIsOpen, story_before, story_in, story_after, is_controlled, is_full_for}
use Rattle.sv_delivery_laws.specs.Turns.{takes_turns}

-- a side sends its unseen value at the start of a stretch, if it has one, and what it sets in it
abbrev pub SentIsUnseenAndSet : Type 0 → Type 0
SentIsUnseenAndSet V =
    (side : Side) (stretch before : Story V) → values_sent side stretch before ≡ set_by side stretch ++ unseen_value side before

-- the newest that was sent is the unseen one, and nobody has set over it so far
pub record IsUnseenStill (V : Type 0) (side : Side) (stretch before : Story V) : Type 0 where
  pub value : V
  pub older : List (Sent V)
  pub last : last_value (stretch ++ before) ≡ Some value
  pub newest : sent side stretch before ≡ just_sent value ∷ older

-- where a set of a side is unseen, it is the newest that the side sent: so this is what a set by the other side takes out
abbrev pub TheUnseenIsTheNewest : Type 0 → Type 0
TheUnseenIsTheNewest V =
    (side : Side) (stretch before : Story V) → IsTrue (is_unseen side (stretch ++ before)) → IsUnseenStill V side stretch before

-- no more than one value is unseen, and it is where a set is
abbrev pub OneIsUnseen : Type 0 → Type 0
OneIsUnseen V = (side : Side) (story : Story V) → length (unseen_value side story) ≡ (if is_unseen side story then 1 else 0)

-- the story at the end of a stretch of the journal is what the stretch added to the story at its start
abbrev pub StretchesAddToTheStory : Entries → Type 0
StretchesAddToTheStory journal =
    (stretch : Stretch) → IsStretchIn journal stretch → story_after stretch ≡ story_in stretch ++ story_before stretch

-- the coupling stands after some later entries, with this giver; and at each moment from the start of the stretch on it
-- stands, or is still to be made while the giver's offer is open
pub record StandsOrIsOpenThroughout (later : Entries) (stretch : Stretch) : Type 0 where
  pub stands : coupling_now (later ++ (stretch.entries ++ stretch.before)) stretch.coupling.a.place ≡ Some stretch.coupling
  pub giver : giver_of (later ++ (stretch.entries ++ stretch.before)) stretch.coupling ≡ stretch.giver
  pub throughout :
      (newer older : Entries) → later ++ stretch.entries ≡ newer ++ older →
      StandsOrIsOpen stretch.giver (older ++ stretch.before) stretch.coupling

-- these are the stretches of the journal
abbrev pub StretchesStandOrAreOpen : Entries → Type 0
StretchesStandOrAreOpen journal =
    (after later : Entries) (stretch : Stretch) → journal ≡ after ++ (later ++ (stretch.entries ++ stretch.before)) →
    IsStretch later stretch ↔ StandsOrIsOpenThroughout later stretch

-- the control that holds back what would lose a value of a side: elements 1 and 4 for A's, 2 and 3 for B's
abbrev pub IsHeldFor : Side → Stretch → Type 0
IsHeldFor A stretch = IsTrue (is_controlled 1 stretch) × IsTrue (is_controlled 4 stretch)
IsHeldFor B stretch = IsTrue (is_controlled 2 stretch) × IsTrue (is_controlled 3 stretch)

-- one of some values, counted from the oldest, which is number 0
abbrev pub from_the_oldest : List PlainArray → ℕ → Option PlainArray
from_the_oldest values number = slice_get (reverse values) number

-- what the other side used is what remains of what the side sent, in order and each once, but for the newest where it is
-- unseen: so each use got the one of its number, and at most one more remains; and where nothing was taken out it is all
-- that the side sent
pub record LosesNothing (side : Side) (stretch : Stretch) : Type 0 where
  pub in_order :
      values_remaining side (story_in stretch) (story_before stretch) ≡
      unseen_value side (story_after stretch) ++ used_by (other_side side) (story_in stretch)
  pub by_number :
      (number : ℕ) → number < length (used_by (other_side side) (story_in stretch)) →
      from_the_oldest (used_by (other_side side) (story_in stretch)) number ≡
      from_the_oldest (values_remaining side (story_in stretch) (story_before stretch)) number
  pub one_more :
      length (values_remaining side (story_in stretch) (story_before stretch)) ≡
      length (used_by (other_side side) (story_in stretch)) + (if is_unseen side (story_after stretch) then 1 else 0)
  pub all_sent :
      taken_out side (story_in stretch) (story_before stretch) ≡ [] →
      values_sent side (story_in stretch) (story_before stretch) ≡
      unseen_value side (story_after stretch) ++ used_by (other_side side) (story_in stretch)

-- a side loses nothing in any stretch of the journal in which control holds for it
abbrev pub LosesNothingUnderControl : Entries → Type 0
LosesNothingUnderControl journal =
    (stretch : Stretch) → IsStretchIn journal stretch → (side : Side) → IsHeldFor side stretch → LosesNothing side stretch

-- of the values of a story that a side set, of which one may have been handed in, the other side used all, in order, but
-- for the newest where it is unseen
abbrev pub IsUsedInOrder : Side → Story PlainArray → Type 0
IsUsedInOrder side story = set_by side story ≡ unseen_value side story ++ used_by (other_side side) story

-- so it is of a story that has nothing but what was known when the giver's offer opened
abbrev pub StoriesBeginInOrder : Type 0
StoriesBeginInOrder = (side giver : Side) (known : Option PlainArray) → IsUsedInOrder side (first_set giver known)

-- a feed: one side's values are used in order when the stretch begins, and the other side sets nothing in it
pub record IsFeed (side : Side) (stretch : Stretch) : Type 0 where
  pub begun : IsUsedInOrder side (story_before stretch)
  pub one_way : set_by (other_side side) (story_in stretch) ≡ []

-- a feed loses nothing, in any stretch of the journal in which control holds for its side
abbrev pub FeedsLoseNothing : Entries → Type 0
FeedsLoseNothing journal =
    (stretch : Stretch) → IsStretchIn journal stretch → (side : Side) → IsHeldFor side stretch → IsFeed side stretch →
    IsUsedInOrder side (story_after stretch)

-- the uses of both sides are held while they would come early
abbrev pub AreUsesHeld : Stretch → Type 0
AreUsesHeld stretch = IsTrue (is_controlled 3 stretch) × IsTrue (is_controlled 4 stretch)

-- requests and replies: nothing is unseen at the start; one side begins with a set and the other with a use, and both take
-- turns
pub record IsExchange (side : Side) (stretch : Stretch) : Type 0 where
  pub quiet : state_of_story (story_before stretch) ≡ Quiet
  pub asks : IsTrue (takes_turns Set side (story_in stretch))
  pub replies : IsTrue (takes_turns Use (other_side side) (story_in stretch))

-- the other side used in the stretch what a side set in it, in order, but for the newest where it is unseen: each use got
-- the set of its number
pub record EachIsUsed (side : Side) (stretch : Stretch) : Type 0 where
  pub in_order :
      set_by side (story_in stretch) ≡ unseen_value side (story_after stretch) ++ used_by (other_side side) (story_in stretch)
  pub by_number :
      (number : ℕ) → number < length (used_by (other_side side) (story_in stretch)) →
      from_the_oldest (used_by (other_side side) (story_in stretch)) number ≡ from_the_oldest (set_by side (story_in stretch)) number

-- a request has one reply, in any stretch of the journal in which uses are held
abbrev pub RequestsHaveOneReply : Entries → Type 0
RequestsHaveOneReply journal =
    (stretch : Stretch) → IsStretchIn journal stretch → AreUsesHeld stretch → (side : Side) → IsExchange side stretch →
    EachIsUsed side stretch × EachIsUsed (other_side side) stretch

-- what control gives in a journal
pub record WhatControlGives (journal : Entries) : Type 0 where
  pub loses_nothing : LosesNothingUnderControl journal
  pub feeds : FeedsLoseNothing journal
  pub requests : RequestsHaveOneReply journal

-- it does in each legal one
abbrev pub InLegalJournals : (Entries → Type 0) → Type 0
InLegalJournals holds = (users : List ℕ) (journal : Entries) → IsLegal users journal → holds journal

-- where the vector of a side is full, so is the control in force, if the side is the giver or the coupling is made: it
-- holds for both sides
abbrev pub FullVectorsHoldForBoth : Entries → Type 0
FullVectorsHoldForBoth journal =
    (stretch : Stretch) → IsStretchIn journal stretch → (full : Side) → IsTrue (is_full_for full stretch) →
    (full ≡ stretch.giver) ⊎ (stretch.coupling.at ≤ length stretch.before) → (side : Side) → IsHeldFor side stretch
