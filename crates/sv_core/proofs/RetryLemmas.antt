-- What becomes of a retry: it is full, still held, or made.
use Rattle.std.proofs.Common.{◌&&◌, ◌∙◌, ◌∷◌, ◌≡◌, Bool, List, None, Option, Some, ap, false, not, refl, sym, true, ℕ}
use Rattle.std.specs.Prelude.{if◌then◌else◌, is_some, option_map}
use Rattle.sv_events.specs.Answer.{full}
use Rattle.sv_events.specs.declared.event.Act.{Act}
use Rattle.sv_rules.specs.Entries.{Entries, is_full, is_leave}
use Rattle.sv_rules.specs.Legal.{IsLegal, MayFollow, answer_to, entry_for, is_still_held, retried}
use Rattle.sv_rules.specs.Outcome.{outcome}
use Rattle.sv_rules.specs.Refused.{awaited, still_refused, waits}
use Rattle.sv_rules.specs.Work.{is_stuck}
use Rattle.sv_story_laws.proofs.StepLemmas.{retries_may_follow}
use Rattle.sv_core.proofs.WaitingLemmas.{no_wait_to_leave, waiters_are_present}
use Rattle.sv_core.specs.Core.{ArePeople, MayMake, PlainCore, core_after}
use Rattle.sv_core.specs.Retry.{core_retried, journal_retried}

-- a core is its users and its journal
pub core_itself : (core : PlainCore) → (let c : PlainCore = record { users = core.users; journal = core.journal } in c) ≡ core
core_itself core = refl

-- the users stay at a retry
pub users_stay : (core : PlainCore) (party : ℕ) → (core_retried core party).users ≡ core.users
users_stay core party = by (is_still_held core.users core.journal party)
  where
    by : (b : Bool) → (if b then core else (let c : PlainCore = record { users = core.users; journal = journal_retried core.journal party (awaited core.journal party) } in c)).users ≡ core.users
    by true = refl
    by false = refl

-- what is there
pub some_act : (o : Option Act) → is_some o ≡ true → (act : Act) × (o ≡ Some act)
some_act None h = cc
some_act (Some act) h = (act, refl)

-- where there is room, a party is still held where it is refused and somebody can go on
still_held : (users : List ℕ) (journal : Entries) (party : ℕ) (full' : Bool) → is_full journal ≡ full' → is_still_held users journal party ≡ (not full' && is_some (still_refused journal party) && not (is_stuck users journal))
still_held users journal party full' is = ap (λ (b : Bool). not b && is_some (still_refused journal party) && not (is_stuck users journal)) is

-- by whether it is still held, what it is answered and what the core becomes
answer_by : (users : List ℕ) (journal : Entries) (party : ℕ) (b : Bool) → is_still_held users journal party ≡ b → retried users journal party ≡ (if b then None else option_map (answer_to journal party) (awaited journal party))
answer_by users journal party b is = ap (λ (h : Bool). if h then None else option_map (answer_to journal party) (awaited journal party)) is

core_by : (core : PlainCore) (party : ℕ) (b : Bool) → is_still_held core.users core.journal party ≡ b →
    core_retried core party ≡ (if b then core else (let c : PlainCore = record { users = core.users; journal = journal_retried core.journal party (awaited core.journal party) } in c))
core_by core party b is =
    ap (λ (h : Bool). if h then core else (let c : PlainCore = record { users = core.users; journal = journal_retried core.journal party (awaited core.journal party) } in c)) is

-- a full journal
pub full_again : (core : PlainCore) (party : ℕ) → is_full core.journal ≡ true → waits core.journal party ≡ true → (Some full ≡ retried core.users core.journal party) × (core ≡ core_retried core party)
full_again core party no_room waiting =
    let act = some_act (awaited core.journal party) waiting in
    let free : is_still_held core.users core.journal party ≡ false = still_held core.users core.journal party true no_room in (
      sym (answer_by core.users core.journal party false free ∙ ap (λ (o : Option Act). option_map (answer_to core.journal party) o) act.1
          ∙ ap (λ (b : Bool). Some (if b then full else (outcome core.journal party act.0).answer)) no_room),
      sym (core_by core party false free
          ∙ ap (λ (o : Option Act). let c : PlainCore = record { users = core.users; journal = journal_retried core.journal party o } in c) act.1
          ∙ ap (λ (b : Bool). let c : PlainCore = record { users = core.users; journal = if b then core.journal else entry_for core.journal party act.0 ∷ core.journal } in c) no_room
          ∙ core_itself core),
    )

-- a party that is still held
pub kept_back : (core : PlainCore) (party : ℕ) → is_full core.journal ≡ false → (is_some (still_refused core.journal party) && not (is_stuck core.users core.journal)) ≡ true →
    (None ≡ retried core.users core.journal party) × (core ≡ core_retried core party)
kept_back core party room held' =
    let still : is_still_held core.users core.journal party ≡ true = still_held core.users core.journal party false room ∙ held' in
    (sym (answer_by core.users core.journal party true still), sym (core_by core party true still))

-- a party that makes its act
pub goes_on : (core : PlainCore) (party : ℕ) (act : Act) → is_full core.journal ≡ false → (is_some (still_refused core.journal party) && not (is_stuck core.users core.journal)) ≡ false → awaited core.journal party ≡ Some act →
    (is_still_held core.users core.journal party ≡ false) × (retried core.users core.journal party ≡ Some (outcome core.journal party act).answer) × (core_retried core party ≡ core_after core party act)
goes_on core party act room free waits_for =
    let still : is_still_held core.users core.journal party ≡ false = still_held core.users core.journal party false room ∙ free in (
      still,
      answer_by core.users core.journal party false still ∙ ap (λ (o : Option Act). option_map (answer_to core.journal party) o) waits_for
          ∙ ap (λ (b : Bool). Some (if b then full else (outcome core.journal party act).answer)) room,
      core_by core party false still
          ∙ ap (λ (o : Option Act). let c : PlainCore = record { users = core.users; journal = journal_retried core.journal party o } in c) waits_for
          ∙ ap (λ (b : Bool). let c : PlainCore = record { users = core.users; journal = if b then core.journal else entry_for core.journal party act ∷ core.journal } in c) room,
    )

-- so it is not still held
pub not_held : (core : PlainCore) (party : ℕ) → is_full core.journal ≡ false → (is_some (still_refused core.journal party) && not (is_stuck core.users core.journal)) ≡ false →
    is_still_held core.users core.journal party ≡ true → ⊥
not_held core party room free held = let no : false ≡ true = sym (still_held core.users core.journal party false room ∙ free) ∙ held in cc

-- it may make its act
pub may_retry : (core : PlainCore) (party : ℕ) (act : Act) → IsLegal core.users core.journal → ArePeople core.users → is_full core.journal ≡ false →
    (is_some (still_refused core.journal party) && not (is_stuck core.users core.journal)) ≡ false → waits core.journal party ≡ true → awaited core.journal party ≡ Some act → MayMake core party act
may_retry core party act legal people room free waiting waits_for = record {
  legal = legal;
  may = may;
  stays = stays (is_leave act) refl;
}
  where
    may : MayFollow core.users core.journal (entry_for core.journal party act)
    may = retries_may_follow core.users core.journal party act (waiters_are_present core.users core.journal legal people party waiting) waits_for room (goes_on core party act room free waits_for).0

    stays : (b : Bool) → is_leave act ≡ b → not (is_leave act) ≡ true
    stays false is = ap not is
    stays true is = absurd (no_wait_to_leave core.users core.journal legal party act waits_for is)
