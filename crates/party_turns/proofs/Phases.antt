-- A user's turn, put together of its three parts.
use Rattle.std.proofs.Common.{◌≡◌, ℕ, ◌+◌, ◌-◌, ◌<◌, ◌++◌, ◌∷◌, inl, Bool, true, false, List, [], length, Option, None, Some, Result, Ok, Err, if◌then◌else◌, refl, sym, ap, ◌∙◌, subst, subst₂, append-nil}
use Rattle.std.proofs.lemmas.List.Elements.{All-cons, All-nil}
use Rattle.std.specs.Prelude.{IsOk, OnErr, count_by, option_map}
use Rattle.apl_io.specs.Content.{Told}
use Rattle.sv_core.proofs.RetryLemmas.{some_act}
use Rattle.sv_core.specs.Core.{PlainCore, core_after}
use Rattle.sv_events.specs.Answer.{PlainAnswer, plain_answer}
use Rattle.sv_events.specs.Entry.{PlainEntry}
use Rattle.sv_events.specs.declared.event.Act.TheVariants.{Leave}
use Rattle.sv_events.specs.declared.event.Answer.{Answer}
use Rattle.sv_rules.specs.Entries.{Entries, counted_entries, has_left}
use Rattle.sv_rules.specs.Legal.{entry_for}
use Rattle.sv_rules.specs.Limits.{most_entries}
use Rattle.session_rules.specs.Session.{session_of}
use Rattle.session_rules.specs.SessionLaws.{tells_full}
use Rattle.session_rules.specs.Shelf.{Exchange, ShelfReply, shelf_replies_in}
use Rattle.session_rules.specs.UserPart.{IsUserPart}
use Rattle.replay_rules.proofs.SoFar.{left_on}
use Rattle.apl_session.specs.PlainSession.{GoesTo, HasCome, PlainSession, asked}
use Rattle.apl_session.specs.declared.session.SessionStage.TheVariants as stage
use Rattle.party_turns.specs.Entering.{Brings, Finds, IsAtEnd, IsOneIf, IsOneMore, IsReady, heard_if}
use Rattle.party_turns.specs.Participants.{participant_with}
use Rattle.party_turns.specs.SoFar.{GoesOn, GrowsBy, HasHeard, IsSameUser, IsSessionSoFar, TakesTurn, echoed_and_printed, user_of, work_with}
use Rattle.party_turns.specs.declared.intent.Intent.{Intent}
use Rattle.party_turns.specs.declared.intent.Intent.TheVariants as intent
use Rattle.party_turns.specs.declared.seat.UserSeat.{UserSeat}
use Rattle.party_turns.proofs.Hearing.{heard_same_user}
use Rattle.party_turns.proofs.Leaving.{grows_none, has_left_now, leave_grows, leaving_goes_on, user_is}
use Rattle.party_turns.proofs.SeatSteps.{heard_from}
use Rattle.party_turns.proofs.Serving.{same_grows}
use Rattle.party_turns.proofs.Turning.{asks_on, so_far_on, turned_again, turned_off, turned_on}

-- ---- what it adds

pub one_grows : (made : Bool) (party : ℕ) (before after : PlainCore) → IsOneIf made party before after → GrowsBy party before after
one_grows true party before after h = record {
  users = h.users;
  entries = h.entry ∷ [];
  own = All-cons (λ (e : PlainEntry). e.party ≡ party) h.entry [] h.own (All-nil (λ (e : PlainEntry). e.party ≡ party));
  journal = h.journal;
}
one_grows false party before after same = same_grows party before after same

-- a leave is an entry of its party
pub leave_one : (before after : PlainCore) (user : ℕ) → after ≡ core_after before user Leave → IsOneMore user before after
leave_one before after user is = record {
  users = ap (λ (c : PlainCore). c.users) is;
  entry = entry_for before.journal user Leave;
  own = refl;
  journal = ap (λ (c : PlainCore). c.journal) is;
}

-- ---- before it

module _ {K : Type 0} (told : K → Option (Told (ℕ × List ℕ))) (faults : K → ℕ) where
  -- a user found what it may do, with some exchanges more
  pub record IsAbout (journal : Entries) (lent : K) (earlier : List Exchange) (about : Intent) (s : PlainSession K) : Type 0 where
    pub more : List Exchange
    pub come : HasCome told faults lent (more ++ earlier) s
    pub ready : IsReady journal (more ++ earlier) about s

  pub is_about : (journal : Entries) (lent : K) (exchanges : List Exchange) (about : Intent) (s between : PlainSession K) → Finds told faults s about between → HasCome told faults lent exchanges s → IsSessionSoFar journal exchanges s
      → IsAbout journal lent exchanges about between
  is_about journal lent exchanges intent.Make s between finds come so =
      let goes = finds.0.goes lent exchanges come in
      let act = some_act (asked between) finds.2 in
      record {
        more = goes.more;
        come = goes.come;
        ready = (finds.1, record { act = act.0; own = act.1; now = asks_on told faults journal lent exchanges s between act.0 act.1 finds.0.ready finds.0.same finds.0.answers so goes });
      }
  is_about journal lent exchanges intent.TryAgain s between finds come so =
      subst (λ (t : PlainSession K). IsAbout journal lent exchanges intent.TryAgain t) (sym finds.1) (record { more = []; come = come; ready = (finds.0, so) })
  is_about journal lent exchanges intent.Leave s between finds come so =
      let goes = finds.0.goes lent exchanges come in
      record {
        more = goes.more;
        come = goes.come;
        ready = record {
          finished = finds.1;
          so_far = so_far_on told faults journal exchanges goes.more s between finds.0.ready finds.0.same finds.0.answers so;
          asks = λ rest. sym (goes.waits rest) ∙ finds.2;
          calls = goes.calls;
        };
      }

  -- ---- all three

  module _ (before after : PlainCore) (seat seat_then : UserSeat K) (between : PlainSession K) (answer : Option PlainAnswer) (present : has_left before.journal seat.session.user ≡ false) (lost : seat_then.is_lost ≡ seat.is_lost) (same : IsSameUser seat.session seat_then.session)
      (hears : seat_then.session ≡ heard_if answer seat_then.session between)
      (had : (lent : K) (exchanges : List Exchange) → HasCome told faults lent exchanges between → HasCome told faults lent exchanges seat_then.session) where
    -- make a turn
    pub turned : (about : Intent) → Finds told faults seat.session about between → ((exchanges : List Exchange) → IsReady before.journal exchanges about between → Brings before exchanges between about after answer)
        → (exchanges : List Exchange) → IsReady before.journal exchanges about between → TakesTurn told faults before seat after seat_then
    turned intent.Make finds brings some ready =
        let act = some_act (asked between) finds.2 in
        turned_on told faults before after seat seat_then present lost same between act.0 act.1 finds.0.ready finds.0.same finds.0.answers
        (ap (λ (u : ℕ). has_left after.journal u) (sym (user_is seat.session between finds.0.same)) ∙ (brings some ready).on.stays) finds.0.goes
        (λ lent exchanges come asks. heard_from told faults lent exchanges before after between seat_then.session answer (brings exchanges (finds.1, record { act = act.0; own = act.1; now = asks })).on (had lent exchanges come) hears)
    turned intent.TryAgain finds brings some ready =
        let at : between.stage ≡ stage.Waiting = ap (λ (t : PlainSession K). t.stage) finds.1 ∙ finds.0 in
        turned_again told faults before after seat seat_then present lost same finds.0
        (ap (λ (t : PlainSession K). has_left after.journal t.user) (sym finds.1) ∙ (brings some ready).stays)
        (λ lent exchanges come so.
        subst (λ (t : PlainSession K). HasHeard told faults lent exchanges before t after seat_then.session) finds.1
        (heard_from told faults lent exchanges before after between seat_then.session answer
        (brings exchanges (at, subst (λ (t : PlainSession K). IsSessionSoFar before.journal exchanges t) (sym finds.1) so))
        (had lent exchanges (subst (λ (t : PlainSession K). HasCome told faults lent exchanges t) (sym finds.1) come)) hears))
    turned intent.Leave finds brings some ready =
        let gone = brings some ready in
        let here : seat_then.session ≡ between = hears ∙ ap (λ (o : Option PlainAnswer). heard_if o seat_then.session between) gone.1 in
        turned_off told faults before after seat seat_then present lost same (ap asked here ∙ finds.2) finds.0.ready (ap (λ (t : PlainSession K). t.answers) here ∙ finds.0.answers) (ap (λ (t : PlainSession K). t.stage) here ∙ finds.1)
        (gone.0 ∙ ap (λ (u : ℕ). core_after before u Leave) (user_is seat.session between finds.0.same))
        (λ lent exchanges come. subst (λ (t : PlainSession K). GoesTo told faults lent exchanges t) (sym here) (finds.0.goes lent exchanges come))

-- ---- less is left to do

-- the same user with the same answers has as much to do
same_work : {K : Type 0} (journal : Entries) (s now : PlainSession K) → IsSameUser s now → now.answers ≡ s.answers → work_with journal now ≡ work_with journal s
same_work {K = K} journal s now same answers =
    ap (λ (t : PlainSession K). work_with journal t) same
    ∙ ap (λ (given : List PlainAnswer). (most_entries - counted_entries journal) + (if has_left journal s.user then 0 else 1 + (length s.lines - count_by tells_full given))) answers

pub goes_by : {K : Type 0} (told : K → Option (Told (ℕ × List ℕ))) (faults : K → ℕ) (about : Intent) (before after : PlainCore) (s between now : PlainSession K) (answer : Option PlainAnswer) → Finds told faults s about between
    → (exchanges : List Exchange) → IsReady before.journal exchanges about between → Brings before exchanges between about after answer → now ≡ heard_if answer now between → IsSameUser s now → GoesOn before s after now
goes_by {K = K} told faults intent.Make before after s between now answer finds exchanges ready brings hears same =
    λ stays. inl (subst₂ (λ (t : PlainSession K) (most : ℕ). work_with after.journal t < most) (sym hears) (same_work before.journal s between finds.0.same finds.0.answers) (brings.less now))
goes_by {K = K} told faults intent.TryAgain before after s between now answer finds exchanges ready brings hears same =
    subst₂ (λ (t u : PlainSession K). GoesOn before t after u) finds.1 (sym hears) (brings.goes_on now)
goes_by told faults intent.Leave before after s between now answer finds exchanges ready brings hears same =
    let became : after ≡ core_after before s.user Leave = brings.0 ∙ ap (λ (u : ℕ). core_after before u Leave) (user_is s between finds.0.same) in
    leaving_goes_on before after s now same (leave_grows before before after s.user (grows_none s.user before) became) (has_left_now before after s.user became)

-- ---- a user that leaves at the end of its lines

-- has its part
pub part_at_end : {K : Type 0} (exchanges : List Exchange) (before after : PlainCore) (s : PlainSession K) → IsAtEnd before.journal exchanges s → after ≡ core_after before s.user Leave
    → IsUserPart after.journal (user_of s) exchanges (echoed_and_printed exchanges s)
part_at_end exchanges before after s h became =
    subst₂ (λ (j : Entries) (r : List ShelfReply). IsUserPart j (user_of s) exchanges (session_of s.lines s.answers r).terminal.transcript) (sym (ap (λ (c : PlainCore). c.journal) became)) (append-nil (shelf_replies_in exchanges))
    (left_on before.journal (participant_with (shelf_replies_in exchanges ++ []) s) false exchanges (entry_for before.journal s.user Leave) (h.so_far []) refl refl (h.asks []) (append-nil (shelf_replies_in exchanges)) (h.calls []))

-- ---- what a session hears

-- it stays the same user's
pub heard_if_same : {K : Type 0} (answer : Option PlainAnswer) (s now : PlainSession K) → now ≡ heard_if answer now s → IsSameUser s now
heard_if_same {K = K} None s now is = subst (λ (t : PlainSession K). IsSameUser s t) (sym is) refl
heard_if_same {K = K} (Some answer) s now is = subst (λ (t : PlainSession K). IsSameUser s t) (sym is) (heard_same_user now answer s)

-- an answer that is none, whatever room it has
no_answer : (answer : Option Answer) → option_map plain_answer answer ≡ None → answer ≡ None
no_answer None is = refl
no_answer (Some answer) is = absurd cc

-- a user whose session did not hear an answer has not left
pub unheard_stays : {K E : Type 0} (heard : Result (Unit {0}) E) (about : Intent) (exchanges : List Exchange) (before after : PlainCore) (s : PlainSession K) (answer : Option Answer) → Brings before exchanges s about after (option_map plain_answer answer) → (answer ≡ None → IsOk heard)
    → OnErr heard (has_left after.journal s.user ≡ false)
unheard_stays (Ok u) about exchanges before after s answer brings none = tt
unheard_stays (Err e) intent.Make exchanges before after s answer brings none = brings.on.stays
unheard_stays (Err e) intent.TryAgain exchanges before after s answer brings none = brings.stays
unheard_stays {E = E} (Err e) intent.Leave exchanges before after s answer brings none = absurd (let no : IsOk {T = Unit {0}} {E = E} (Err e) = none (no_answer answer brings.1) in cc)
