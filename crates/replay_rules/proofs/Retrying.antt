-- An act that is tried again is answered, and not held again.
use Rattle.std.proofs.Common.{◌≡◌, ℕ, Bool, true, false, Option, refl, ap}
use Rattle.std.proofs.lemmas.Bool.{both_ways}
use Rattle.std.specs.Prelude.{if◌then◌else◌}
use Rattle.sv_events.specs.Answer.{PlainAnswer, full}
use Rattle.sv_events.specs.declared.event.Act.{Act}
use Rattle.sv_events.specs.declared.event.Hold.{Hold}
use Rattle.sv_rules.specs.Entries.{Entries, is_full, is_held, kind_of}
use Rattle.sv_rules.specs.Legal.{answer_to}
use Rattle.sv_rules.specs.Outcome.{outcome}
use Rattle.sv_rules.specs.Refused.{refused, waits}
use Rattle.sv_story_laws.proofs.AnswerLemmas.{Answered, answered, given_up, held_first, unrefused}

not_held : (refusing : Option Hold) (waiting : Bool) (given : PlainAnswer) → Answered refusing waiting given → waiting ≡ true → is_held (kind_of given) ≡ false
not_held refusing waiting given (unrefused none plain) waits = plain.0
not_held refusing waiting given (held_first hold r free g) waits = absurd (both_ways waiting free waits)
not_held refusing waiting given (given_up hold r w g) waits = ap (λ (a : PlainAnswer). is_held (kind_of a)) g

-- whatever a party does that waits, the answer does not hold it
pub waiters_are_answered : (journal : Entries) (party : ℕ) (act : Act) → waits journal party ≡ true → is_held (kind_of (answer_to journal party act)) ≡ false
waiters_are_answered journal party act waiting = by (is_full journal)
  where
    by : (b : Bool) → is_held (kind_of (if b then full else (outcome journal party act).answer)) ≡ false
    by true = refl
    by false = not_held (refused journal party act) (waits journal party) (outcome journal party act).answer (answered journal party act) waiting
