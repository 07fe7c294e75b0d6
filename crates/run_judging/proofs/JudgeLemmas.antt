-- What may follow, and what a processor made.
use Rattle.std.proofs.Common.{◌≡◌, ◌↔◌, ◌||◌, refl, sym, ap, ap₂, ◌∙◌, subst, ℕ, Bool, true, false, List, ◌∷◌, ◌++◌, Option, Some, None, inl, inr}
use Rattle.std.specs.Prelude.{IsTrue, is_some, not, option_map, if◌then◌else◌}
use Rattle.std.proofs.lemmas.Bool.{both_ways, cases_Bool, not-true}
use Rattle.std.proofs.lemmas.Option.{none-some}
use Rattle.aux_parties.specs.Auxiliaries.{is_auxiliary}
use Rattle.sv_core.specs.Core.{PlainCore, core_after}
use Rattle.sv_core.specs.Retry.{core_retried, journal_retried}
use Rattle.sv_events.specs.Answer.{PlainAnswer}
use Rattle.sv_events.specs.Entry.{PlainEntry}
use Rattle.sv_events.specs.declared.entry.Pair.{Pair}
use Rattle.sv_events.specs.declared.event.Act.{Act}
use Rattle.sv_events.specs.declared.event.Act.TheVariants.{Leave}
use Rattle.sv_offer_laws.proofs.LegalLemmas.{IsLegal-before}
use Rattle.sv_rules.specs.Entries.{Entries, is_full, is_leave}
use Rattle.sv_rules.specs.Legal.{IsLegal, MayFollow, answer_to, entry_for, is_still_held, is_user, retried}
use Rattle.sv_rules.specs.Refused.{awaited, refused, waits}
use Rattle.sv_story_laws.proofs.AnswerLemmas.{holds_are_given_or_given_up}
use Rattle.sv_story_laws.proofs.AuxiliaryLemmas.{auxiliaries_are_never_refused}
use Rattle.sv_story_laws.proofs.StepLemmas.{held_retries_may_not_follow}
use Rattle.sv_story_laws.proofs.WaitLemmas.{leave-is, only_users_leave, waiters_act_again_or_leave, waits_for_the_last}
use Rattle.run_judging.specs.Judged.{HasMade, Judged, MadeIf, with_entry}

-- an entry that may follow is the one of its act
pub entry-of : (users : List ℕ) (journal : Entries) (e : PlainEntry) → MayFollow users journal e → e ≡ entry_for journal e.party e.act
entry-of users journal e may =
    ap₂ (λ (answer : PlainAnswer) (made : List Pair). let x : PlainEntry = record { party = e.party; act = e.act; answer = answer; made = made } in x) may.answer may.made

-- a user that leaves, and whoever else would
pub left : (before after : PlainCore) (e : PlainEntry) → is_leave e.act ≡ true → after ≡ core_after before e.party Leave → HasMade before e after
left before after e leaves grown = record {
  made = entry_for before.journal e.party Leave;
  grown = grown;
  only = λ may. entry-of before.users before.journal e may ∙ ap (λ (act : Act). entry_for before.journal e.party act) (leave-is e.act leaves);
}

pub stayed : (before : PlainCore) (e : PlainEntry) → IsLegal before.users before.journal → is_leave e.act ≡ true → is_user before.users e.party ≡ false →
    MayFollow before.users before.journal e → ⊥
stayed before e legal leaves stranger may =
    both_ways (is_user before.users e.party) stranger (only_users_leave before.users before.journal e (may, legal) (leave-is e.act leaves))

-- an act that was due
pub stepped : (before after : PlainCore) (e : PlainEntry) → after ≡ core_after before e.party e.act → HasMade before e after
stepped before after e grown = record { made = entry_for before.journal e.party e.act; grown = grown; only = entry-of before.users before.journal e }

-- no entry of an auxiliary is held, so that it waits for no act
auxiliary_waits : (users : List ℕ) (journal : Entries) → IsLegal users journal → (party : ℕ) → is_auxiliary party ≡ true → (act : Act) → awaited journal party ≡ Some act → ⊥
auxiliary_waits users journal legal party auxiliary act awaits =
    let last = (waits_for_the_last journal party act).0 awaits in
    let upto : IsLegal users (last.1 ∷ last.0) = IsLegal-before users last.2 (last.1 ∷ last.0) (subst (λ (j : Entries). IsLegal users j) last.4 legal) in
    let refuses = ((holds_are_given_or_given_up users last.0 last.1 upto).held_now last.3).0 last.8 in
    none-some last.3 (sym (auxiliaries_are_never_refused users last.0 last.1 upto (ap is_auxiliary last.6 ∙ auxiliary)) ∙ refuses.0)

-- the act of a party that waits is the one that it waits for
pub awaited-again : (users : List ℕ) (journal : Entries) (e : PlainEntry) → IsLegal users journal → MayFollow users journal e → (act : Act) → awaited journal e.party ≡ Some act →
    is_leave e.act ≡ false → e.act ≡ act
awaited-again users journal e legal may act awaits stays = elim (cases_Bool (is_auxiliary e.party)) [
  | inl auxiliary ↦ absurd (auxiliary_waits users journal legal e.party auxiliary act awaits)
  | inr person ↦ elim (waiters_act_again_or_leave users journal e (may, legal) person act awaits) [
    | inl leaves ↦ absurd (both_ways (is_leave e.act) stays (ap is_leave leaves))
    | inr again ↦ again
  ]
]

-- what a party awaits that waits
pub awaits-some : (o : Option Act) → is_some o ≡ true → (act : Act) × (o ≡ Some act)
awaits-some None h = absurd cc
awaits-some (Some act) h = (act, refl)

-- a party that makes the act that it waits for, and one that is still held
pub tried_again : (before after : PlainCore) (e : PlainEntry) → IsLegal before.users before.journal → is_leave e.act ≡ false → is_full before.journal ≡ false →
    (act : Act) → awaited before.journal e.party ≡ Some act → is_still_held before.users before.journal e.party ≡ false → after ≡ core_retried before e.party → HasMade before e after
tried_again before after e legal stays room act awaits free grown = record {
  made = entry_for before.journal e.party act;
  grown = grown ∙ ap (λ (b : Bool). if b then before else core (journal_retried before.journal e.party (awaited before.journal e.party))) free
      ∙ ap (λ (o : Option Act). core (journal_retried before.journal e.party o)) awaits
      ∙ ap (λ (b : Bool). core (if b then before.journal else entry_for before.journal e.party act ∷ before.journal)) room;
  only = λ may.
      entry-of before.users before.journal e may
      ∙ ap (λ (a : Act). entry_for before.journal e.party a) (awaited-again before.users before.journal e legal may act awaits stays);
}
  where
    core : Entries → PlainCore
    core journal = record { users = before.users; journal = journal }

pub held_back : (before : PlainCore) (e : PlainEntry) → IsLegal before.users before.journal → is_leave e.act ≡ false →
    (act : Act) → awaited before.journal e.party ≡ Some act → is_still_held before.users before.journal e.party ≡ true → MayFollow before.users before.journal e → ⊥
held_back before e legal stays act awaits held may =
    held_retries_may_not_follow before.users before.journal e
    (awaits ∙ ap (λ (a : Act). Some a) (sym (awaited-again before.users before.journal e legal may act awaits stays))) held may

-- whether it is still held, by what it is answered
pub held_where_none : (users : List ℕ) (journal : Entries) (party : ℕ) → waits journal party ≡ true → retried users journal party ≡ None → is_still_held users journal party ≡ true
held_where_none users journal party waits got = by (is_still_held users journal party) refl (awaits-some (awaited journal party) waits)
  where
    by : (b : Bool) → is_still_held users journal party ≡ b → (act : Act) × (awaited journal party ≡ Some act) → is_still_held users journal party ≡ true
    by true is some = is
    by false is some =
        absurd
        (none-some (answer_to journal party some.0)
        (sym got ∙ ap (λ (b : Bool). if b then None else option_map (answer_to journal party) (awaited journal party)) is
        ∙ ap (λ (o : Option Act). option_map (answer_to journal party) o) some.1))

pub free_where_some : (users : List ℕ) (journal : Entries) (party : ℕ) (answer : PlainAnswer) → retried users journal party ≡ Some answer → is_still_held users journal party ≡ false
free_where_some users journal party answer got = by (is_still_held users journal party) refl
  where
    by : (b : Bool) → is_still_held users journal party ≡ b → is_still_held users journal party ≡ false
    by true is = absurd (none-some answer (sym (ap (λ (b : Bool). if b then None else option_map (answer_to journal party) (awaited journal party)) is) ∙ got))
    by false is = is

-- what came of a leave, and of an act that is tried again
pub left_if : (before after : PlainCore) (e : PlainEntry) (leaves : Bool) → IsLegal before.users before.journal → is_leave e.act ≡ true → leaves ≡ is_user before.users e.party →
    (leaves ≡ true → after ≡ core_after before e.party Leave) → MadeIf before e leaves after
left_if before after e true legal is user grown = left before after e is (grown refl)
left_if before after e false legal is user grown = stayed before e legal is (sym user)

pub tried_if : (before after : PlainCore) (e : PlainEntry) (made : Bool) → IsLegal before.users before.journal → is_leave e.act ≡ false → is_full before.journal ≡ false →
    waits before.journal e.party ≡ true → made ≡ not (is_still_held before.users before.journal e.party) → after ≡ core_retried before e.party → MadeIf before e made after
tried_if before after e true legal stays room waits free grown =
    let some = awaits-some (awaited before.journal e.party) waits in
    tried_again before after e legal stays room some.0 some.1 (not-true (is_still_held before.users before.journal e.party) (sym free)) grown
tried_if before after e false legal stays room waits held grown =
    let some = awaits-some (awaited before.journal e.party) waits in
    held_back before e legal stays some.0 some.1 (still (is_still_held before.users before.journal e.party) (sym held))
  where
    still : (b : Bool) → not b ≡ false → b ≡ true
    still true h = refl
    still false h = absurd cc

-- there is room for an act that is no leave
pub room_of : (leaves full : Bool) → leaves ≡ false → IsTrue (leaves || not full) → full ≡ false
room_of true full stays room = absurd cc
room_of false full stays room = not-true full room

-- what was made, or that nothing may follow
pub made_so : (before after : PlainCore) (e : PlainEntry) (made : Bool) → made ≡ true → MadeIf before e made after → HasMade before e after
made_so before after e true is made = made
made_so before after e false is made = absurd cc

pub not_made : (before after : PlainCore) (e : PlainEntry) (made : Bool) → made ≡ false → MadeIf before e made after → MayFollow before.users before.journal e → ⊥
not_made before after e true is made = absurd cc
not_made before after e false is made = made

-- an entry follows where it is the one that was made
pub judged_by : (before after : PlainCore) (e : PlainEntry) (same : Bool) → HasMade before e after →
    ((x : PlainEntry) (journal : Entries) → after.journal ≡ x ∷ journal → IsTrue same ↔ (x ≡ e)) → Judged before e same after
judged_by before after e true has newest = has.grown ∙ ap (with_entry before) ((newest has.made before.journal (ap (λ (c : PlainCore). c.journal) has.grown)).0 refl)
judged_by before after e false has newest =
    λ may. both_ways false refl ((newest has.made before.journal (ap (λ (c : PlainCore). c.journal) has.grown)).1 (sym (has.only may)))

pub not_judged : (before after : PlainCore) (e : PlainEntry) (may : Bool) → may ≡ false → Judged before e may after → MayFollow before.users before.journal e → ⊥
not_judged before after e true is judged = absurd cc
not_judged before after e false is judged = judged
