-- What becomes of an act that a party makes, or tries again: a full journal refuses it, or it is entered.
use Rattle.std.proofs.Common.{◌≡◌, ℕ, ◌&&◌, ◌||◌, Bool, true, false, eqb, List, [], ◌∷◌, Option, Some, None, IsTrue, if◌then◌else◌, refl, sym, ap, ◌∙◌, subst}
use Rattle.std.proofs.lemmas.Option.{none-some, same_Some}
use Rattle.std.proofs.lemmas.List.Elements.{All-cons, All-nil}
use Rattle.std.specs.Prelude.{option_map}
use Rattle.sv_events.specs.Answer.{PlainAnswer, full}
use Rattle.sv_events.specs.Entry.{PlainEntry}
use Rattle.sv_events.specs.declared.event.Act.{Act}
use Rattle.sv_rules.specs.Entries.{Entries, has_left, is_full, is_leave}
use Rattle.sv_rules.specs.Legal.{answer_to, entry_for, is_still_held, journal_after, retried}
use Rattle.sv_rules.specs.Outcome.{outcome}
use Rattle.sv_rules.specs.Refused.{awaited}
use Rattle.sv_core.specs.Core.{PlainCore}
use Rattle.sv_core.specs.Retry.{core_retried, journal_retried}
use Rattle.party_turns.specs.SoFar.{GrowsBy}

-- an entry of a party with this act and this answer was added, where there was room
pub record IsEntered (journal : Entries) (party : ℕ) (act : Act) (after : Entries) (answer : PlainAnswer) : Type 0 where
  pub room : is_full journal ≡ false
  pub e : PlainEntry
  pub own : e.party ≡ party
  pub made : e.act ≡ act
  pub given : e.answer ≡ answer
  pub added : after ≡ e ∷ journal

-- a full journal refused the act
pub record IsRefused (journal : Entries) (after : Entries) (answer : PlainAnswer) : Type 0 where
  pub limit : IsTrue (is_full journal)
  pub same : after ≡ journal
  pub given : answer ≡ full

-- what became of an act
pub data IsMade (journal : Entries) (party : ℕ) (act : Act) (after : Entries) (answer : PlainAnswer) : Type 0 where
  refusing : IsRefused journal after answer → IsMade journal party act after answer
  entering : IsEntered journal party act after answer → IsMade journal party act after answer

made_by : (journal : Entries) (party : ℕ) (act : Act) (limit : Bool) → is_full journal ≡ limit
    → IsMade journal party act (if limit then journal else entry_for journal party act ∷ journal) (if limit then full else (outcome journal party act).answer)
made_by journal party act true is = refusing (record { limit = is; same = refl; given = refl })
made_by journal party act false is = entering (record { room = is; e = entry_for journal party act; own = refl; made = refl; given = refl; added = refl })

-- an act that is made
pub made_now : (journal : Entries) (party : ℕ) (act : Act) → IsMade journal party act (journal_after journal party act) (answer_to journal party act)
made_now journal party act = made_by journal party act (is_full journal) refl

-- ---- a retry

-- the answer at a retry says that the party was not held still
retried_free : (users : List ℕ) (journal : Entries) (party : ℕ) (act : Act) (answer : PlainAnswer) (still : Bool) → is_still_held users journal party ≡ still → awaited journal party ≡ Some act
    → retried users journal party ≡ Some answer → (still ≡ false) × (answer_to journal party act ≡ answer)
retried_free users journal party act answer true is awaits got =
    absurd (none-some answer (sym (ap (λ (b : Bool). if b then None else option_map (answer_to journal party) (awaited journal party)) is) ∙ got))
retried_free users journal party act answer false is awaits got =
    let same : Some (answer_to journal party act) ≡ Some answer =
    sym (ap (λ (b : Bool). if b then None else option_map (answer_to journal party) (awaited journal party)) is ∙ ap (λ (o : Option Act). option_map (answer_to journal party) o) awaits) ∙ got in
    (refl, same_Some (answer_to journal party act) answer same)

-- no answer at a retry says that it is
retried_held : (users : List ℕ) (journal : Entries) (party : ℕ) (act : Act) (still : Bool) → is_still_held users journal party ≡ still → awaited journal party ≡ Some act → retried users journal party ≡ None → still ≡ true
retried_held users journal party act true is awaits got = refl
retried_held users journal party act false is awaits got =
    absurd
    (none-some (answer_to journal party act)
    (sym got ∙ ap (λ (b : Bool). if b then None else option_map (answer_to journal party) (awaited journal party)) is ∙ ap (λ (o : Option Act). option_map (answer_to journal party) o) awaits))

pub held_again : (core : PlainCore) (party : ℕ) (act : Act) → awaited core.journal party ≡ Some act → retried core.users core.journal party ≡ None → (is_still_held core.users core.journal party ≡ true) × (core_retried core party ≡ core)
held_again core party act awaits got =
    let still : is_still_held core.users core.journal party ≡ true = retried_held core.users core.journal party act (is_still_held core.users core.journal party) refl awaits got in (
      still,
      ap (λ (b : Bool). if b then core else (let c : PlainCore = record { users = core.users; journal = journal_retried core.journal party (awaited core.journal party) } in c)) still,
    )

-- the act that is tried again is made
pub made_again : (core : PlainCore) (party : ℕ) (act : Act) (answer : PlainAnswer) → awaited core.journal party ≡ Some act → retried core.users core.journal party ≡ Some answer
    → IsMade core.journal party act (core_retried core party).journal answer
made_again core party act answer awaits got =
    let free = retried_free core.users core.journal party act answer (is_still_held core.users core.journal party) refl awaits got in
    let core_is : core_retried core party ≡ (let c : PlainCore = record { users = core.users; journal = journal_after core.journal party act } in c) =
    ap (λ (b : Bool). if b then core else (let c : PlainCore = record { users = core.users; journal = journal_retried core.journal party (awaited core.journal party) } in c)) free.0
    ∙ ap (λ (o : Option Act). let c : PlainCore = record { users = core.users; journal = journal_retried core.journal party o } in c) awaits in
    subst (λ (after : Entries). IsMade core.journal party act after answer) (sym (ap (λ (c : PlainCore). c.journal) core_is))
    (subst (λ (a : PlainAnswer). IsMade core.journal party act (journal_after core.journal party act) a) free.1 (made_now core.journal party act))

-- ---- what an act adds

pub made_grows : (party : ℕ) (act : Act) (answer : PlainAnswer) (before after : PlainCore) → after.users ≡ before.users → IsMade before.journal party act after.journal answer → GrowsBy party before after
made_grows party act answer before after users (refusing h) = record { users = users; entries = []; own = All-nil (λ (e : PlainEntry). e.party ≡ party); journal = h.same }
made_grows party act answer before after users (entering h) = record {
  users = users;
  entries = h.e ∷ [];
  own = All-cons (λ (e : PlainEntry). e.party ≡ party) h.e [] h.own (All-nil (λ (e : PlainEntry). e.party ≡ party));
  journal = h.added;
}

-- a party that makes an act other than a leave stays
entry_stays : (e : PlainEntry) (journal : Entries) (party : ℕ) → is_leave e.act ≡ false → has_left (e ∷ journal) party ≡ has_left journal party
entry_stays e journal party stays = ap (λ (leaves : Bool). (eqb e.party party && leaves) || has_left journal party) stays ∙ by (eqb e.party party)
  where
    by : (own : Bool) → ((own && false) || has_left journal party) ≡ has_left journal party
    by true = refl
    by false = refl

pub made_stays : (journal : Entries) (party : ℕ) (act : Act) (after : Entries) (answer : PlainAnswer) → is_leave act ≡ false → IsMade journal party act after answer → has_left after party ≡ has_left journal party
made_stays journal party act after answer stays (refusing h) = ap (λ (j : Entries). has_left j party) h.same
made_stays journal party act after answer stays (entering h) =
    ap (λ (j : Entries). has_left j party) h.added ∙ entry_stays h.e journal party (ap is_leave h.made ∙ stays)
