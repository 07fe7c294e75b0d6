-- An auxiliary may make the act of its work.
use Rattle.std.proofs.Common.{◌≡◌, ◌||◌, ℕ, Bool, true, false, not, eqb, List, [], ◌∷◌, Option, Some, None, refl, sym, ap, ◌∙◌}
use Rattle.std.proofs.lemmas.Bool.{eqb-true, not_from_false}
use Rattle.std.proofs.lemmas.Option.{none-some, same_Some}
use Rattle.std.specs.Prelude.{IsTrue, option_and_then, if◌then◌else◌}
use Rattle.apl_arrays.specs.Array.{PlainArray}
use Rattle.sv_events.specs.Answer.{PlainAnswer}
use Rattle.sv_events.specs.Work.{act_of}
use Rattle.sv_events.specs.declared.event.Act.{Act}
use Rattle.sv_events.specs.declared.event.Hold.{Hold}
use Rattle.sv_events.specs.declared.work.Work.{Work}
use Rattle.sv_events.specs.declared.work.Work.TheVariants as work
use Rattle.sv_rules.specs.Entries.{Entries, has_left, is_held, is_leave, kind_of, next_place}
use Rattle.sv_rules.specs.Legal.{IsLegal, act_due, is_user}
use Rattle.sv_rules.specs.Outcome.{outcome}
use Rattle.sv_rules.specs.Refused.{act_held, awaited, last_entry, refused, waits}
use Rattle.aux_parties.specs.Auxiliaries.{is_auxiliary}
use Rattle.sv_rules.specs.Work.{work_of}
use Rattle.sv_story_laws.proofs.AnswerLemmas.{Answered, answered, given_up, held_first, unrefused}
use Rattle.sv_story_laws.proofs.AuxiliaryLemmas.{auxiliaries_are_never_refused}
use Rattle.sv_story_laws.proofs.StepLemmas.{work_may_follow}

-- what is not refused is not held
free : (refusing : Option Hold) (waiting : Bool) (given : PlainAnswer) → Answered refusing waiting given → refusing ≡ None → is_held (kind_of given) ≡ false
free refusing waiting given (unrefused none plain) n = plain.0
free refusing waiting given (held_first hold r f g) n = absurd (none-some hold (sym n ∙ r))
free refusing waiting given (given_up hold r w g) n = absurd (none-some hold (sym n ∙ r))

-- no entry of an auxiliary is held, so that it waits for nothing
pub auxiliaries_never_wait : (users : List ℕ) (journal : Entries) → IsLegal users journal → (party : ℕ) → IsTrue (is_auxiliary party) → awaited journal party ≡ None
auxiliaries_never_wait users [] legal party aux = refl
auxiliaries_never_wait users (e ∷ journal) legal party aux = by (auxiliaries_never_wait users journal legal.1 party aux) (eqb e.party party) refl
  where
    unheld : IsTrue (is_auxiliary e.party) → is_held (kind_of e.answer) ≡ false
    unheld its =
        ap (λ (a : PlainAnswer). is_held (kind_of a)) legal.0.answer
        ∙ free (refused journal e.party e.act) (waits journal e.party) (outcome journal e.party e.act).answer (answered journal e.party e.act) (auxiliaries_are_never_refused users journal e legal its)

    by : awaited journal party ≡ None → (own : Bool) → eqb e.party party ≡ own → awaited (e ∷ journal) party ≡ None
    by before true own =
        ap (λ (b : Bool). option_and_then act_held (if b then Some e else last_entry journal party)) own
        ∙ ap (λ (b : Bool). if b then Some e.act else None) (unheld (ap is_auxiliary (eqb-true e.party party own) ∙ aux))
    by before false others = ap (λ (b : Bool). option_and_then act_held (if b then Some e else last_entry journal party)) others ∙ before

-- no work is a leave
no_leave : (due : Work) (place : ℕ) (reply : Option PlainArray) (made : Act) → act_of due place reply ≡ Some made → is_leave made ≡ false
no_leave work.Idle place None made h = absurd (none-some made h)
no_leave (work.Retract local) place None made h = ap is_leave (sym (same_Some _ made h))
no_leave (work.Control local) place None made h = ap is_leave (sym (same_Some _ made h))
no_leave (work.Reply local) place None made h = absurd (none-some made h)
no_leave (work.Counter to surrogate) place None made h = ap is_leave (sym (same_Some _ made h))
no_leave (work.Use local) place None made h = ap is_leave (sym (same_Some _ made h))
no_leave work.Idle place (Some reply) made h = absurd (none-some made h)
no_leave (work.Retract local) place (Some reply) made h = absurd (none-some made h)
no_leave (work.Control local) place (Some reply) made h = absurd (none-some made h)
no_leave (work.Reply local) place (Some reply) made h = ap is_leave (sym (same_Some _ made h))
no_leave (work.Counter to surrogate) place (Some reply) made h = absurd (none-some made h)
no_leave (work.Use local) place (Some reply) made h = absurd (none-some made h)

-- a party may make an act of its own now, that is no leave
pub record MayStep (users : List ℕ) (journal : Entries) (party : ℕ) (made : Act) : Type 0 where
  pub member : IsTrue (is_user users party || is_auxiliary party)
  pub present : IsTrue (not (has_left journal party))
  pub goes_on : awaited journal party ≡ None
  pub due : act_due (is_auxiliary party) journal party made ≡ Some made
  pub stays : IsTrue (not (is_leave made))

pub work_may_step : (users : List ℕ) (journal : Entries) → IsLegal users journal → (party : ℕ) (reply : Option PlainArray) (made : Act) → IsTrue (is_auxiliary party) →
    act_of (work_of journal party) (next_place journal) reply ≡ Some made → MayStep users journal party made
work_may_step users journal legal party reply made aux done =
    let may = work_may_follow users journal legal party reply made aux done in
    record {
      member = may.party;
      present = may.present;
      goes_on = auxiliaries_never_wait users journal legal party aux;
      due = may.due;
      stays = not_from_false (is_leave made) (no_leave (work_of journal party) (next_place journal) reply made done);
    }
