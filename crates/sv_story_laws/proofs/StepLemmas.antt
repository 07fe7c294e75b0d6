-- Which entries may follow a journal.
use Rattle.std.proofs.Common.{◌≡◌, refl, sym, ap, ◌∙◌, subst, ℕ, Bool, true, false, ◌&&◌, ◌||◌, not, eqb, List, [], ◌∷◌, Option, Some, None}
use Rattle.std.specs.Prelude.{IsTrue, is_some, option_and_then, if◌then◌else◌}
use Rattle.std.proofs.lemmas.Bool.{and_parts, and_from, and_right, or_from, or_left, or_right, not-true, not_from_false, both_ways, eqb-true}
use Rattle.std.proofs.lemmas.Option.{none-some, same_Some}
use Rattle.apl_arrays.specs.Array.{PlainArray}
use Rattle.sv_events.specs.Answer.{PlainAnswer}
use Rattle.sv_events.specs.Entry.{PlainEntry}
use Rattle.sv_events.specs.Row.{act_row}
use Rattle.sv_events.specs.Work.{act_of}
use Rattle.sv_events.specs.declared.event.Act.{Act}
use Rattle.sv_events.specs.declared.event.Act.TheVariants.{Leave}
use Rattle.sv_events.specs.declared.event.Hold.{Hold}
use Rattle.sv_events.specs.declared.work.Work.{Work}
use Rattle.sv_events.specs.declared.work.Work.TheVariants as work
use Rattle.sv_rules.specs.Entries.{Entries, next_place, has_left, is_full, is_leave, kind_of, is_abandoned}
use Rattle.sv_rules.specs.Legal.{IsLegal, MayFollow, IsStuckIf, act_due, act_for, may_do, entry_for, is_still_held, is_user}
use Rattle.sv_rules.specs.Outcome.{outcome}
use Rattle.sv_rules.specs.Refused.{awaited, refused, still_refused, waits}
use Rattle.aux_parties.specs.Auxiliaries.{is_auxiliary}
use Rattle.sv_rules.specs.Work.{is_stuck, work_of}
use Rattle.sv_story_laws.specs.StepLaws.{IsPresent}
use Rattle.sv_story_laws.proofs.AnswerLemmas.{Answered, unrefused, held_first, given_up, answered}
use Rattle.sv_story_laws.proofs.AuxiliaryLemmas.{work_is_in_time}
use Rattle.sv_story_laws.proofs.WaitLemmas.{leave-is, no_leave_due}

-- a wait is not given up where the answer is not that
not_given_up : (users : List ℕ) (journal : Entries) (given : PlainAnswer) → is_abandoned (kind_of given) ≡ false → IsStuckIf (is_abandoned (kind_of given)) users journal
not_given_up users journal given h = subst (λ (b : Bool). IsStuckIf b users journal) (sym h) tt

-- and it is not where the party does not wait, or nothing refuses the act
no_wait_to_give_up : (refusing : Option Hold) (waiting : Bool) (given : PlainAnswer) → Answered refusing waiting given → waiting ≡ false → is_abandoned (kind_of given) ≡ false
no_wait_to_give_up refusing waiting given (unrefused none plain) w = plain.1
no_wait_to_give_up refusing waiting given (held_first hold r f g) w = ap (λ (a : PlainAnswer). is_abandoned (kind_of a)) g
no_wait_to_give_up refusing waiting given (given_up hold r t g) w = absurd (both_ways waiting w t)

nothing_to_give_up : (refusing : Option Hold) (waiting : Bool) (given : PlainAnswer) → Answered refusing waiting given → refusing ≡ None → is_abandoned (kind_of given) ≡ false
nothing_to_give_up refusing waiting given (unrefused none plain) n = plain.1
nothing_to_give_up refusing waiting given (held_first hold r f g) n = absurd (none-some hold (sym n ∙ r))
nothing_to_give_up refusing waiting given (given_up hold r t g) n = absurd (none-some hold (sym n ∙ r))

-- a user's act is due where it may do it
user_due : (journal : Entries) (party : ℕ) (act : Act) → is_auxiliary party ≡ false → may_do (awaited journal party) act ≡ act → act_due (is_auxiliary party) journal party act ≡ Some act
user_due journal party act person may = ap (λ (b : Bool). act_due b journal party act) person ∙ ap Some may

pub steps_may_follow : (users : List ℕ) (journal : Entries) (party : ℕ) (act : Act) → IsPresent users journal party → awaited journal party ≡ None →
    IsTrue (is_leave act || not (is_full journal)) → MayFollow users journal (entry_for journal party act)
steps_may_follow users journal party act here none room =
    let given = (outcome journal party act).answer in
    record {
      party = or_left (is_user users party) (is_auxiliary party) here.user;
      present = here.present;
      due = user_due journal party act here.person (ap (λ (a : Option Act). may_do a act) none);
      room = room;
      answer = refl;
      made = refl;
      given_up = not_given_up users journal given (no_wait_to_give_up (refused journal party act) (waits journal party) given (answered journal party act) (ap is_some none));
    }

pub leaves_may_follow : (users : List ℕ) (journal : Entries) (party : ℕ) → IsPresent users journal party → MayFollow users journal (entry_for journal party Leave)
leaves_may_follow users journal party here = record {
  party = or_left (is_user users party) (is_auxiliary party) here.user;
  present = here.present;
  due = user_due journal party Leave here.person (may_leave (awaited journal party));
  room = refl;
  answer = refl;
  made = refl;
  given_up = tt;
}
  where
    may_leave : (waited : Option Act) → may_do waited Leave ≡ Leave
    may_leave None = refl
    may_leave (Some act) = refl

-- what a wait that is given up was, and that nobody can go on
given_up_where_stuck : (users : List ℕ) (journal : Entries) (party : ℕ) (act : Act) (given : PlainAnswer) → awaited journal party ≡ Some act → is_full journal ≡ false →
    is_still_held users journal party ≡ false → Answered (refused journal party act) (waits journal party) given → IsStuckIf (is_abandoned (kind_of given)) users journal
given_up_where_stuck users journal party act given waits_for room still (unrefused none plain) = not_given_up users journal given plain.1
given_up_where_stuck users journal party act given waits_for room still (held_first hold r f g) = not_given_up users journal given (ap (λ (a : PlainAnswer). is_abandoned (kind_of a)) g)
given_up_where_stuck users journal party act given waits_for room still (given_up hold r t g) =
    subst (λ (b : Bool). IsStuckIf b users journal) (sym (ap (λ (a : PlainAnswer). is_abandoned (kind_of a)) g)) (stuck (is_stuck users journal) refl)
  where
    refused_now : is_some (still_refused journal party) ≡ true
    refused_now = ap (λ (o : Option Hold). is_some o) (ap (λ (a : Option Act). option_and_then (refused journal party) a) waits_for ∙ r)

    stuck : (b : Bool) → is_stuck users journal ≡ b → is_stuck users journal ≡ true
    stuck true is = is
    stuck false is =
        absurd (both_ways (is_still_held users journal party) still
        (and_from (not (is_full journal) && is_some (still_refused journal party)) (not (is_stuck users journal))
        (and_from (not (is_full journal)) (is_some (still_refused journal party)) (not_from_false _ room) refused_now) (not_from_false _ is)))

pub retries_may_follow : (users : List ℕ) (journal : Entries) (party : ℕ) (act : Act) → IsPresent users journal party → awaited journal party ≡ Some act →
    is_full journal ≡ false → is_still_held users journal party ≡ false → MayFollow users journal (entry_for journal party act)
retries_may_follow users journal party act here waits_for room still = record {
  party = or_left (is_user users party) (is_auxiliary party) here.user;
  present = here.present;
  due = user_due journal party act here.person (ap (λ (a : Option Act). may_do a act) waits_for ∙ again (is_leave act));
  room = or_right (is_leave act) (not (is_full journal)) (not_from_false _ room);
  answer = refl;
  made = refl;
  given_up = given_up_where_stuck users journal party act (outcome journal party act).answer waits_for room still (answered journal party act);
}
  where
    again : (b : Bool) → (if b then act else act) ≡ act
    again true = refl
    again false = refl

-- a wait is given up only where nobody can go on
pub held_retries_may_not_follow : (users : List ℕ) (journal : Entries) (e : PlainEntry) → awaited journal e.party ≡ Some e.act →
    IsTrue (is_still_held users journal e.party) → MayFollow users journal e → ⊥
held_retries_may_not_follow users journal e waits_for still may =
    let parts = and_parts (not (is_full journal) && is_some (still_refused journal e.party)) (not (is_stuck users journal)) still in
    let refused_now = (and_parts (not (is_full journal)) (is_some (still_refused journal e.party)) parts.0).1 in
    let refuses : is_some (refused journal e.party e.act) ≡ true =
    ap (λ (o : Option Hold). is_some o) (sym (ap (λ (a : Option Act). option_and_then (refused journal e.party) a) waits_for)) ∙ refused_now in
    by (answered journal e.party e.act) refuses (not-true (is_stuck users journal) parts.1)
  where
    by : Answered (refused journal e.party e.act) (waits journal e.party) (outcome journal e.party e.act).answer → is_some (refused journal e.party e.act) ≡ true →
        is_stuck users journal ≡ false → ⊥
    by (unrefused none plain) refuses free = let no : false ≡ true = sym (ap (λ (o : Option Hold). is_some o) none) ∙ refuses in cc
    by (held_first hold is not_waiting given) refuses free = both_ways (waits journal e.party) not_waiting (ap (λ (o : Option Act). is_some o) waits_for)
    by (given_up hold is waiting given) refuses free =
        let abandons : is_abandoned (kind_of e.answer) ≡ true = ap (λ (a : PlainAnswer). is_abandoned (kind_of a)) (may.answer ∙ given) in
        both_ways (is_stuck users journal) free (subst (λ (b : Bool). IsStuckIf b users journal) abandons may.given_up)

-- no auxiliary leaves
pub auxiliaries_do_not_leave : (users : List ℕ) (journal : Entries) → IsLegal users journal → (party : ℕ) → IsTrue (is_auxiliary party) → has_left journal party ≡ false
auxiliaries_do_not_leave users [] legal party aux = refl
auxiliaries_do_not_leave users (e ∷ journal) legal party aux =
    or_from (eqb e.party party && is_leave e.act) (has_left journal party) (by (eqb e.party party) (is_leave e.act) refl refl) (auxiliaries_do_not_leave users journal legal.1 party aux)
  where
    by : (own leaves : Bool) → eqb e.party party ≡ own → is_leave e.act ≡ leaves → (eqb e.party party && is_leave e.act) ≡ false
    by false leaves is _ = ap (λ (b : Bool). b && is_leave e.act) is
    by true false is lasts = and_right (eqb e.party party) (is_leave e.act) lasts
    by true true is leaves =
        let aux_entry : is_auxiliary e.party ≡ true = ap is_auxiliary (eqb-true e.party party is) ∙ aux in
        let due : act_due true journal e.party e.act ≡ Some e.act = subst (λ (b : Bool). act_due b journal e.party e.act ≡ Some e.act) aux_entry legal.0.due in
        let at_leave : act_for (work_of journal e.party) (next_place journal) None ≡ Some Leave =
        subst (λ (a : Act). act_for (work_of journal e.party) (next_place journal) (act_row a).hands_in ≡ Some a) (leave-is e.act leaves) due in
        absurd (no_leave_due (work_of journal e.party) (next_place journal) at_leave)

-- the act of some work hands in its reply, where it is one
reply_is_handed_in : (due : Work) (place : ℕ) (reply : Option PlainArray) (act : Act) → act_of due place reply ≡ Some act → act_for due place (act_row act).hands_in ≡ Some act
reply_is_handed_in work.Idle place None act h = absurd (none-some act h)
reply_is_handed_in (work.Retract local) place None act h = h
reply_is_handed_in (work.Control local) place None act h = h
reply_is_handed_in (work.Reply local) place None act h = absurd (none-some act h)
reply_is_handed_in (work.Counter to surrogate) place None act h = h
reply_is_handed_in (work.Use local) place None act h = h
reply_is_handed_in work.Idle place (Some reply) act h = absurd (none-some act h)
reply_is_handed_in (work.Retract local) place (Some reply) act h = absurd (none-some act h)
reply_is_handed_in (work.Control local) place (Some reply) act h = absurd (none-some act h)
reply_is_handed_in (work.Reply local) place (Some reply) act h = ap (λ (a : Act). act_for (work.Reply local) place (act_row a).hands_in) (sym (same_Some _ act h)) ∙ h
reply_is_handed_in (work.Counter to surrogate) place (Some reply) act h = absurd (none-some act h)
reply_is_handed_in (work.Use local) place (Some reply) act h = absurd (none-some act h)

pub work_may_follow : (users : List ℕ) (journal : Entries) → IsLegal users journal → (party : ℕ) (reply : Option PlainArray) (act : Act) → IsTrue (is_auxiliary party) →
    act_of (work_of journal party) (next_place journal) reply ≡ Some act → MayFollow users journal (entry_for journal party act)
work_may_follow users journal legal party reply act aux done =
    let due = reply_is_handed_in (work_of journal party) (next_place journal) reply act done in
    let given = (outcome journal party act).answer in
    let in_time = work_is_in_time users journal legal party (next_place journal) (act_row act).hands_in act aux due in
    record {
      party = or_right (is_user users party) (is_auxiliary party) aux;
      present = not_from_false _ (auxiliaries_do_not_leave users journal legal party aux);
      due = ap (λ (b : Bool). act_due b journal party act) aux ∙ due;
      room = or_right (is_leave act) (not (is_full journal)) (not_from_false _ (not_full (is_full journal) refl));
      answer = refl;
      made = refl;
      given_up = not_given_up users journal given (nothing_to_give_up (refused journal party act) (waits journal party) given (answered journal party act) in_time);
    }
  where
    no_act : (r : Option PlainArray) → act_of work.Idle (next_place journal) r ≡ Some act → ⊥
    no_act None h = none-some act h
    no_act (Some v) h = none-some act h

    not_full : (b : Bool) → is_full journal ≡ b → is_full journal ≡ false
    not_full false is = is
    not_full true is =
        let no_work : work_of journal party ≡ work.Idle = rw is refl in
        absurd (no_act reply (subst (λ (w : Work). act_of w (next_place journal) reply ≡ Some act) no_work done))
