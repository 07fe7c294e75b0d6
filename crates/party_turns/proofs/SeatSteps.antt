-- What a user's turn brings, from what the processor says.
use Rattle.std.proofs.Common.{◌≡◌, ℕ, ◌++◌, ◌<◌, ◌&&◌, Bool, IsTrue, not, List, [], inl, inr, true, false, Option, Some, None, refl, sym, ap, ap₂, ◌∙◌, subst}
use Rattle.std.proofs.lemmas.Bool.{and_parts, both_ways, not-true}
use Rattle.std.specs.Prelude.{IsSome, is_some}
use Rattle.apl_io.specs.Content.{Told}
use Rattle.sv_events.specs.Answer.{PlainAnswer}
use Rattle.sv_events.specs.declared.event.Act.{Act}
use Rattle.sv_rules.specs.Entries.{Entries, has_left, is_full}
use Rattle.sv_rules.specs.Legal.{answer_to, is_still_held}
use Rattle.sv_rules.specs.Refused.{awaited, still_refused, waits}
use Rattle.sv_rules.specs.Work.{is_stuck}
use Rattle.sv_core.proofs.RetryLemmas.{some_act, users_stay}
use Rattle.sv_core.specs.Core.{PlainCore}
use Rattle.session_rules.specs.Session.{session_of}
use Rattle.session_rules.specs.Shelf.{Exchange, ShelfReply, shelf_replies_in}
use Rattle.replay_rules.specs.SoFarLaws.{Asks}
use Rattle.replay_rules.specs.Turns.{AfterTurn, turn}
use Rattle.apl_session.specs.PlainSession.{HasCome, PlainSession}
use Rattle.apl_session.specs.declared.session.SessionStage.TheVariants as stage
use Rattle.party_turns.specs.Entering.{BringsFurther, BringsOn, IsOneIf, heard_if}
use Rattle.party_turns.specs.Participants.{participant_with}
use Rattle.party_turns.specs.SoFar.{AsksNow, GoesOn, HasHeard, IsRetried, IsSessionSoFar, TriesAgain, heard, work_with}
use Rattle.party_turns.proofs.Hearing.{HasGoneOn, IsStepped, IsStillAsBefore, IsTriedAgain, IsTriedAt, asked_stays, held_still, made_as_asked, some_is, stepped, tried, waits_at_limit}
use Rattle.party_turns.proofs.Making.{IsMade, entering, held_again, made_again, made_now, made_stays, refusing}

-- ---- an entry at the most

-- an act that is made is one entry where there is room
made_one : (limit : Bool) (party : ℕ) (act : Act) (answer : PlainAnswer) (before after : PlainCore) → is_full before.journal ≡ limit → after.users ≡ before.users → IsMade before.journal party act after.journal answer → IsOneIf (not limit) party before after
made_one true party act answer before after is users (refusing h) = ap₂ (λ (list : List ℕ) (journal : Entries). let c : PlainCore = record { users = list; journal = journal } in c) users h.same
made_one true party act answer before after is users (entering h) = absurd (both_ways (is_full before.journal) h.room is)
made_one false party act answer before after is users (refusing h) = absurd (both_ways (is_full before.journal) is h.limit)
made_one false party act answer before after is users (entering h) = record { users = users; entry = h.e; own = h.own; journal = h.added }

-- ---- an act that is made

step_made : (before after : PlainCore) (party : ℕ) (act : Act) (answer : PlainAnswer) → IsStepped before party act after answer → IsMade before.journal party act after.journal (answer_to before.journal party act)
step_made before after party act answer h =
    subst (λ (j : Entries). IsMade before.journal party act j (answer_to before.journal party act)) (sym (ap (λ (c : PlainCore). c.journal) h.became)) (made_now before.journal party act)

pub step_one : (before after : PlainCore) (party : ℕ) (act : Act) (answer : PlainAnswer) → IsStepped before party act after answer → IsOneIf (not (is_full before.journal)) party before after
step_one before after party act answer h =
    made_one (is_full before.journal) party act (answer_to before.journal party act) before after refl (ap (λ (c : PlainCore). c.users) h.became) (step_made before after party act answer h)

step_stays : {K : Type 0} (replies : List ShelfReply) (before after : PlainCore) (s : PlainSession K) (act : Act) (answer : PlainAnswer) → has_left before.journal s.user ≡ false → Asks (participant_with replies s) act → IsStepped before s.user act after answer
    → has_left after.journal s.user ≡ false
step_stays replies before after s act answer present asks h =
    made_stays before.journal s.user act after.journal (answer_to before.journal s.user act) (asked_stays s.lines s.answers replies act asks) (step_made before after s.user act answer h) ∙ present

-- ---- an act that is tried again

pub try_one : (before after : PlainCore) (party : ℕ) (answer : PlainAnswer) → waits before.journal party ≡ true → IsTriedAgain before party after (Some answer) → IsOneIf (not (is_full before.journal)) party before after
try_one before after party answer waiting h =
    let a = some_act (awaited before.journal party) waiting in
    made_one (is_full before.journal) party a.0 answer before after refl (ap (λ (c : PlainCore). c.users) h.became ∙ users_stay before party)
    (subst (λ (j : Entries). IsMade before.journal party a.0 j answer) (sym (ap (λ (c : PlainCore). c.journal) h.became)) (made_again before party a.0 answer a.1 (sym h.told)))

-- one that is held still adds none
pub held_same : (before after : PlainCore) (party : ℕ) → waits before.journal party ≡ true → IsTriedAgain before party after None → after ≡ before
held_same before after party waiting h = let a = some_act (awaited before.journal party) waiting in h.became ∙ (held_again before party a.0 a.1 (sym h.told)).1

try_stays : {K : Type 0} (replies : List ShelfReply) (before after : PlainCore) (s : PlainSession K) (answer : PlainAnswer) → has_left before.journal s.user ≡ false → s.stage ≡ stage.Waiting → IsSome (session_of s.lines s.answers replies).waits
    → waits before.journal s.user ≡ true → IsTriedAt replies before.journal s → IsTriedAgain before s.user after (Some answer) → has_left after.journal s.user ≡ false
try_stays replies before after s answer present at some waiting retrying h =
    let asked = some_act (session_of s.lines s.answers replies).waits some in
    let a = some_act (awaited before.journal s.user) waiting in
    let made : IsMade before.journal s.user a.0 after.journal answer =
    subst (λ (j : Entries). IsMade before.journal s.user a.0 j answer) (sym (ap (λ (c : PlainCore). c.journal) h.became)) (made_again before s.user a.0 answer a.1 (sym h.told)) in
    let m = made_as_asked replies before after s a.0 asked.0 answer at a.1 asked.1 retrying made in
    made_stays before.journal s.user asked.0 after.journal answer (asked_stays s.lines s.answers replies asked.0 asked.1) m.2 ∙ present

-- ---- what it brings

-- whatever replies follow
module _ {K : Type 0} (exchanges : List Exchange) (before after : PlainCore) (s : PlainSession K) where
  retried_at : (more : List ShelfReply) → IsRetried before.journal exchanges s → IsTriedAt (shelf_replies_in exchanges ++ more) before.journal s
  retried_at more (inl h) = inl (h more)
  retried_at more (inr h) = inr (h.0, h.1 more)

  -- an act that was made
  pub brings_step : (act : Act) (answer : PlainAnswer) → has_left before.journal s.user ≡ false → s.stage ≡ stage.Waiting → waits before.journal s.user ≡ false → AsksNow before.journal exchanges act s → IsStepped before s.user act after answer
      → BringsFurther before exchanges s after (Some answer)
  brings_step act answer present at free asks step =
      let on : (now : PlainSession K) (more : List ShelfReply) → HasGoneOn (shelf_replies_in exchanges ++ more) before s after (heard answer now s) =
      λ now more. stepped (shelf_replies_in exchanges ++ more) now before after s (heard answer now s) false act answer present at (asks.asks more) free (asks.so_far more) step refl in
      record {
        on = record {
          stays = step_stays (shelf_replies_in exchanges ++ []) before after s act answer present (asks.asks []) step;
          so_far = λ now more. (on now more).so_far;
          turn = λ now more. (on now more).turn;
          goes_on = λ now here. inl (on now []).less;
        };
        less = λ now. (on now []).less;
      }

  -- one that was tried again
  pub brings_again : (answer : PlainAnswer) → has_left before.journal s.user ≡ false → s.stage ≡ stage.Waiting → waits before.journal s.user ≡ true → TriesAgain before.journal exchanges s → IsTriedAgain before s.user after (Some answer)
      → BringsOn before exchanges s after (Some answer)
  brings_again answer present at waiting again try =
      let on : (now : PlainSession K) (more : List ShelfReply) → HasGoneOn (shelf_replies_in exchanges ++ more) before s after (heard answer now s) =
      λ now more. tried (shelf_replies_in exchanges ++ more) now before after s (heard answer now s) answer present at (again.asks more) waiting (retried_at more again.retried) try refl in
      record {
        stays = try_stays (shelf_replies_in exchanges ++ []) before after s answer present at (again.asks []) waiting (retried_at [] again.retried) try;
        so_far = λ now more. (on now more).so_far;
        turn = λ now more. (on now more).turn;
        goes_on = λ now here. inl (on now []).less;
      }

  -- or a user that is held still
  pub brings_none : has_left before.journal s.user ≡ false → s.stage ≡ stage.Waiting → waits before.journal s.user ≡ true → TriesAgain before.journal exchanges s → IsTriedAgain before s.user after None → BringsOn before exchanges s after None
  brings_none present at waiting again try =
      let still : (more : List ShelfReply) → IsStillAsBefore (shelf_replies_in exchanges ++ more) before s after =
      λ more. held_still (shelf_replies_in exchanges ++ more) before after s present at (again.asks more) waiting (retried_at more again.retried) try in
      record {
        stays = ap (λ (c : PlainCore). has_left c.journal s.user) (still []).stays ∙ present;
        so_far = λ now more. (still more).so_far;
        turn = λ now more. (still more).turn;
        goes_on = λ now here. inr ((still []).held, (still []).stays, refl);
      }

-- so a session that heard the answer is as after a turn of a replay
pub heard_from : {K : Type 0} (told : K → Option (Told (ℕ × List ℕ))) (faults : K → ℕ) (lent : K) (exchanges : List Exchange) (before after : PlainCore) (s now : PlainSession K) (answer : Option PlainAnswer) → BringsOn before exchanges s after answer
    → HasCome told faults lent exchanges now → now ≡ heard_if answer now s → HasHeard told faults lent exchanges before s after now
heard_from {K = K} told faults lent exchanges before after s now answer h come is = record {
  come = come;
  so_far = subst (λ (t : PlainSession K). IsSessionSoFar after.journal exchanges t) (sym is) (h.so_far now);
  turn = λ more.
      subst (λ (t : PlainSession K). turn before.users before.journal (participant_with (shelf_replies_in exchanges ++ more) s) ≡ (let a : AfterTurn = record { journal = after.journal; user = participant_with (shelf_replies_in exchanges ++ more) t } in a)) (sym is)
      (h.turn now more);
}

-- ---- in a full journal

-- in a full journal no user is held still
pub none_held_still : (core : PlainCore) (party : ℕ) → IsTrue (is_full core.journal) → is_still_held core.users core.journal party ≡ true → ⊥
none_held_still core party limit held =
    let room : not (is_full core.journal) ≡ true = (and_parts (not (is_full core.journal)) (is_some (still_refused core.journal party)) (and_parts (not (is_full core.journal) && is_some (still_refused core.journal party)) (not (is_stuck core.users core.journal)) held).0).0 in
    both_ways (is_full core.journal) (not-true (is_full core.journal) room) limit

-- so a user that goes on there has less to do
pub less_at_limit : {K : Type 0} (before after : PlainCore) (s now : PlainSession K) → has_left before.journal s.user ≡ false → IsTrue (is_full before.journal) → GoesOn before s after now → work_with after.journal now < work_with before.journal s
less_at_limit before after s now present limit goes = elim (goes present) [
  | inl less ↦ less
  | inr held ↦ absurd (none_held_still before s.user limit held.0)
]

-- a user that waits while its session comes to another act does so in a full journal, and tries again
pub tries_at_limit : {K : Type 0} (journal : Entries) (exchanges : List Exchange) (act : Act) (s : PlainSession K) → waits journal s.user ≡ true → AsksNow journal exchanges act s → TriesAgain journal exchanges s
tries_at_limit journal exchanges act s waiting h = record {
  asks = λ more. some_is (session_of s.lines s.answers (shelf_replies_in exchanges ++ more)).waits act (h.asks more);
  retried = inr (waits_at_limit journal (participant_with (shelf_replies_in exchanges ++ []) s) (h.so_far []) waiting, h.so_far);
}

-- which leaves less to do
pub brings_at_limit : {K : Type 0} (exchanges : List Exchange) (before after : PlainCore) (s : PlainSession K) (answer : Option PlainAnswer) → has_left before.journal s.user ≡ false → IsTrue (is_full before.journal) → BringsOn before exchanges s after answer
    → BringsFurther before exchanges s after answer
brings_at_limit exchanges before after s answer present limit h = record { on = h; less = λ now. less_at_limit before after s (heard_if answer now s) present limit (h.goes_on now) }
