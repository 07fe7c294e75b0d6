-- A user's turn: what its session hears, and that it goes on.
use Rattle.std.proofs.Common.{◌≡◌, ◌≢◌, ℕ, ◌+◌, ◌-◌, ◌<◌, ◌⊎◌, inl, inr, ◌&&◌, Bool, true, false, not, cond, leb, List, [], ◌∷◌, ◌++◌, length, Option, Some, None, IsTrue, if◌then◌else◌, refl, sym, ap, ◌∙◌, subst, subst₂, arith}
use Rattle.std.proofs.lemmas.Bool.{and_parts, both_ways, leb-false, not-true, or_parts}
use Rattle.std.proofs.lemmas.Option.{same_Some}
use Rattle.std.proofs.lemmas.List.Elements.{All-nil}
use Rattle.std.proofs.lemmas.List.Sums.{sum_by-append, sum_by-cons}
use Rattle.std.specs.Prelude.{IfSome, IsSome, count_by, is_some}
use Rattle.std.specs.Option.{option_map_or}
use Rattle.sv_events.specs.Answer.{PlainAnswer, full}
use Rattle.sv_events.specs.Entry.{PlainEntry}
use Rattle.sv_events.specs.declared.event.Act.{Act}
use Rattle.sv_rules.specs.Entries.{Entries, counted_entries, has_left, held_elements, is_full, is_held, is_leave, kind_of}
use Rattle.sv_rules.specs.Legal.{act_due, answer_to, is_still_held, is_user, journal_after, may_do, retried}
use Rattle.sv_rules.specs.Refused.{awaited, still_refused, waits}
use Rattle.aux_parties.specs.Auxiliaries.{is_auxiliary}
use Rattle.sv_rules.specs.Work.{is_stuck}
use Rattle.sv_core.proofs.People.{people_are}
use Rattle.sv_core.proofs.RetryLemmas.{some_act, users_stay}
use Rattle.sv_core.specs.Core.{ArePeople, PlainCore}
use Rattle.sv_core.specs.Retry.{core_retried}
use Rattle.session_rules.specs.Session.{session_of}
use Rattle.session_rules.specs.SessionLaws.{tells_full}
use Rattle.session_rules.specs.Shelf.{ShelfReply}
use Rattle.session_rules.proofs.Taking.{full_is_rare, none_leaves}
use Rattle.replay_rules.specs.SoFar.{IsSoFar, IsWaitedFor}
use Rattle.replay_rules.specs.SoFarLaws.{Asks, user_with_answer}
use Rattle.replay_rules.specs.Turns.{Participant, AfterTurn, answer_given, turn}
use Rattle.replay_rules.proofs.SoFar.{answered_on, held_on, refused_on}
use Rattle.replay_rules.proofs.UserTurns.{turn_is}
use Rattle.apl_session.specs.PlainSession.{PlainSession}
use Rattle.apl_session.specs.declared.session.SessionStage.TheVariants as stage
use Rattle.party_turns.specs.Participants.{participant_with}
use Rattle.party_turns.specs.SoFar.{GrowsBy, IsSameUser, heard, is_waiting, work_with}
use Rattle.party_turns.proofs.Making.{IsMade, entering, held_again, made_again, made_grows, made_now, made_stays, refusing}

-- the user of a session is so far, where these are all replies that its shelf gives in the end
abbrev pub IsUserAt : {K : Type 0} → List ShelfReply → Entries → PlainSession K → Type 0
IsUserAt replies journal s = IsSoFar journal (participant_with replies s) (is_waiting s.stage)

-- or it is but for the act that its session asks now, since the journal is full
abbrev pub IsTriedAt : {K : Type 0} → List ShelfReply → Entries → PlainSession K → Type 0
IsTriedAt replies journal s = IsUserAt replies journal s ⊎ (IsTrue (is_full journal) × IsSoFar journal (participant_with replies s) false)

-- its turn was that of a replay
abbrev pub IsTurnAt : {K : Type 0} → List ShelfReply → PlainCore → PlainSession K → PlainCore → PlainSession K → Type 0
IsTurnAt replies before s after now = turn before.users before.journal (participant_with replies s) ≡ record { journal = after.journal; user = participant_with replies now }

-- a user that has not left went on by an act
pub record HasGoneOn {K : Type 0} (replies : List ShelfReply) (before : PlainCore) (s : PlainSession K) (after : PlainCore) (now : PlainSession K) : Type 0 where
  pub same : IsSameUser s now
  pub grows : GrowsBy s.user before after
  pub so_far : IsUserAt replies after.journal now
  pub less : work_with after.journal now < work_with before.journal s
  pub turn : IsTurnAt replies before s after now

-- ---- what a user did so far

-- no line asks to leave
pub asked_stays : (lines : List (List ℕ)) (answers : List PlainAnswer) (replies : List ShelfReply) (act : Act) → (session_of lines answers replies).waits ≡ Some act → is_leave act ≡ false
asked_stays lines answers replies act asks = not-true (is_leave act) (none_leaves lines answers replies act asks)

so_far_made : (journal : Entries) (user : Participant) (waiting held : Bool) (act : Act) (after : Entries) (answer : PlainAnswer) → IsMade journal user.number act after answer → IsSoFar journal user waiting
    → Asks user act → is_held (kind_of answer) ≡ held → IsSoFar after (if held then user else user_with_answer user answer) held
so_far_made journal user waiting true act after answer (refusing h) so asks is = absurd (let no : false ≡ true = sym (ap (λ (a : PlainAnswer). is_held (kind_of a)) h.given) ∙ is in cc)
so_far_made journal user waiting false act after answer (refusing h) so asks is =
    subst₂ (λ (j : Entries) (a : PlainAnswer). IsSoFar j (user_with_answer user a) false) (sym h.same) (sym h.given) (refused_on journal user waiting act so h.limit asks)
so_far_made journal user waiting true act after answer (entering h) so asks is =
    let stays : is_leave h.e.act ≡ false = ap is_leave h.made ∙ asked_stays user.lines user.answers user.replies act asks in
    subst (λ (j : Entries). IsSoFar j user true) (sym h.added)
    (held_on journal user waiting h.e so h.room (record { own = h.own; stays = stays }) (ap (λ (a : PlainAnswer). is_held (kind_of a)) h.given ∙ is) (asks ∙ ap (λ (a : Act). Some a) (sym h.made)))
so_far_made journal user waiting false act after answer (entering h) so asks is =
    let stays : is_leave h.e.act ≡ false = ap is_leave h.made ∙ asked_stays user.lines user.answers user.replies act asks in
    subst₂ (λ (j : Entries) (a : PlainAnswer). IsSoFar j (user_with_answer user a) false) (sym h.added) h.given
    (answered_on journal user waiting h.e so h.room (record { own = h.own; stays = stays }) (ap (λ (a : PlainAnswer). is_held (kind_of a)) h.given ∙ is) (asks ∙ ap (λ (a : Act). Some a) (sym h.made)))

-- ---- what its session hears

-- a session that is given an answer, or is to wait
abbrev heard_by : {K : Type 0} → Bool → PlainAnswer → PlainSession K → PlainSession K → PlainSession K
heard_by held answer now s = if held then s else record s { acts = now.acts; answers = s.answers ++ answer ∷ []; stage = stage.Ready; inside = now.inside }

pub heard_same_user : {K : Type 0} (m : PlainSession K) (answer : PlainAnswer) (s : PlainSession K) → IsSameUser s (heard answer m s)
heard_same_user {K = K} m answer s = by (is_held (kind_of answer))
  where
    by : (b : Bool) → IsSameUser s (heard_by b answer m s)
    by true = refl
    by false = refl

heard_participant : {K : Type 0} (replies : List ShelfReply) (m : PlainSession K) (answer : PlainAnswer) (s : PlainSession K) → participant_with replies (heard answer m s) ≡ answer_given answer (participant_with replies s)
heard_participant {K = K} replies m answer s = by (is_held (kind_of answer))
  where
    by : (b : Bool) → participant_with replies (heard_by b answer m s) ≡ (if b then participant_with replies s else user_with_answer (participant_with replies s) answer)
    by true = refl
    by false = refl

heard_so_far : {K : Type 0} (replies : List ShelfReply) (m : PlainSession K) (after : Entries) (s : PlainSession K) (answer : PlainAnswer) (held : Bool) → s.stage ≡ stage.Waiting → IsSoFar after (if held then participant_with replies s else user_with_answer (participant_with replies s) answer) held
    → IsUserAt replies after (heard_by held answer m s)
heard_so_far replies m after s answer true at so = subst (λ (w : Bool). IsSoFar after (participant_with replies s) w) (sym (ap is_waiting at)) so
heard_so_far replies m after s answer false at so = so

made_so_far : {K : Type 0} (replies : List ShelfReply) (m : PlainSession K) (journal : Entries) (s : PlainSession K) (waiting : Bool) (act : Act) (after : Entries) (answer : PlainAnswer) → IsMade journal s.user act after answer → IsSoFar journal (participant_with replies s) waiting
    → Asks (participant_with replies s) act → s.stage ≡ stage.Waiting → IsUserAt replies after (heard answer m s)
made_so_far {K = K} replies m journal s waiting act after answer made so asks at =
    let held : Bool = is_held (kind_of answer) in heard_so_far replies m after s answer held at (so_far_made journal (participant_with replies s) waiting held act after answer made so asks refl)

-- ---- less is left to do

-- how much may still be done, by a user that has not left
pub work_of_one : {K : Type 0} (journal : Entries) (s : PlainSession K) → has_left journal s.user ≡ false
    → work_with journal s ≡ (200000 - counted_entries journal) + (1 + (length s.lines - count_by tells_full s.answers))
work_of_one journal s stays = ap (λ (left : Bool). (200000 - counted_entries journal) + (if left then 0 else 1 + (length s.lines - count_by tells_full s.answers))) stays

-- where there is room there are fewer entries
few_entries : (journal : Entries) → is_full journal ≡ false → counted_entries journal < 200000
few_entries journal room = leb-false 200000 (counted_entries journal) (or_parts (leb 200000 (counted_entries journal)) (leb 4194304 (held_elements journal)) room).0

pub some_is : {A : Type 0} (o : Option A) (a : A) → o ≡ Some a → IsSome o
some_is {A = A} o a is = subst (λ (p : Option A). IsSome p) (sym is) refl

-- one answer more is reported at the most
count_push : (answers : List PlainAnswer) (answer : PlainAnswer) → count_by tells_full (answers ++ answer ∷ []) ≡ count_by tells_full answers + count_by tells_full (answer ∷ [])
count_push answers answer = sum_by-append (λ (a : PlainAnswer). cond (tells_full a) 1 0) answers (answer ∷ [])

work_falls : {K : Type 0} (replies : List ShelfReply) (m : PlainSession K) (journal : Entries) (s : PlainSession K) (held : Bool) (act : Act) (after : Entries) (answer : PlainAnswer) → IsMade journal s.user act after answer → has_left journal s.user ≡ false → Asks (participant_with replies s) act
    → is_held (kind_of answer) ≡ held → work_with after (heard_by held answer m s) < work_with journal s
work_falls replies m journal s true act after answer (refusing h) present asks is = absurd (let no : false ≡ true = sym (ap (λ (a : PlainAnswer). is_held (kind_of a)) h.given) ∙ is in cc)
work_falls replies m journal s false act after answer (refusing h) present asks is =
    let few : count_by tells_full s.answers < length s.lines = full_is_rare s.lines s.answers replies (some_is (session_of s.lines s.answers replies).waits act asks) in
    let counted : count_by tells_full (s.answers ++ full ∷ []) ≡ count_by tells_full s.answers + 1 = count_push s.answers full in
    let less : work_with journal (heard_by false full m s) < work_with journal s = omega (arith, work_of_one journal (heard_by false full m s) present, work_of_one journal s present, counted, few) in
    subst₂ (λ (j : Entries) (a : PlainAnswer). work_with j (heard_by false a m s) < work_with journal s) (sym h.same) (sym h.given) less
work_falls replies m journal s held act after answer (entering h) present asks is =
    let stays : is_leave h.e.act ≡ false = ap is_leave h.made ∙ asked_stays s.lines s.answers replies act asks in
    let one : counted_entries (h.e ∷ journal) ≡ 1 + counted_entries journal =
    sum_by-cons (λ (o : PlainEntry). cond (not (is_leave o.act)) 1 0) h.e journal ∙ ap (λ (leaves : Bool). cond (not leaves) 1 0 + counted_entries journal) stays in
    let few : counted_entries journal < 200000 = few_entries journal h.room in
    let there : has_left after s.user ≡ false = made_stays journal s.user act after answer (asked_stays s.lines s.answers replies act asks) (entering h) ∙ present in
    let added : counted_entries after ≡ 1 + counted_entries journal = ap counted_entries h.added ∙ one in
    by held few there added
  where
    by : (b : Bool) → counted_entries journal < 200000 → has_left after s.user ≡ false → counted_entries after ≡ 1 + counted_entries journal → work_with after (heard_by b answer m s) < work_with journal s
    by true few there added = omega (arith, work_of_one after s there, work_of_one journal s present, added, few)
    by false few there added =
        omega (arith, work_of_one after (heard_by false answer m s) there, work_of_one journal s present, added, few, count_push s.answers answer)

-- ---- a user that waits while its session comes to another act

refused_limit : (journal : Entries) (user : Participant) (refused : List Act) (act : Act) → IsWaitedFor user false refused act → (refused ≢ [] → IsTrue (is_full journal)) → IsTrue (is_full journal)
refused_limit journal user [] act h limit = absurd (let no : false ≡ true = h.0 in cc)
refused_limit journal user (first ∷ refused) act h limit = limit (λ e. cc e)

-- does so in a full journal
pub waits_at_limit : (journal : Entries) (user : Participant) → IsSoFar journal user false → waits journal user.number ≡ true → IsTrue (is_full journal)
waits_at_limit journal user so waiting =
    let a = some_act (awaited journal user.number) waiting in
    refused_limit journal user so.refused a.0 (subst (λ (o : Option Act). IfSome o (IsWaitedFor user false so.refused)) a.1 so.waited) so.at_limit

-- a session that waits asks the act that its user waits for
pub waiting_asks : {K : Type 0} (replies : List ShelfReply) (journal : Entries) (s : PlainSession K) → s.stage ≡ stage.Waiting → IsUserAt replies journal s → waits journal s.user ≡ true → IsSome (session_of s.lines s.answers replies).waits
waiting_asks replies journal s at h waiting =
    let so : IsSoFar journal (participant_with replies s) true = subst (λ (w : Bool). IsSoFar journal (participant_with replies s) w) (ap is_waiting at) h in
    let a = some_act (awaited journal s.user) waiting in
    let k : IsWaitedFor (participant_with replies s) true [] a.0 =
    subst₂ (λ (o : Option Act) (r : List Act). IfSome o (IsWaitedFor (participant_with replies s) true r)) a.1 (so.going refl).0 so.waited in
    some_is (session_of s.lines s.answers replies).waits a.0 k.1

-- and the user does wait
pub waiting_waits : {K : Type 0} (replies : List ShelfReply) (journal : Entries) (s : PlainSession K) → s.stage ≡ stage.Waiting → IsUserAt replies journal s → waits journal s.user ≡ true
waiting_waits replies journal s at h = (h.going (ap is_waiting at)).1

-- ---- the act that a user makes now

none_awaited : (o : Option Act) → is_some o ≡ false → o ≡ None
none_awaited None h = refl
none_awaited (Some act) h = absurd cc

pub none_waits : (journal : Entries) (party : ℕ) → waits journal party ≡ false → awaited journal party ≡ None
none_waits journal party free = none_awaited (awaited journal party) free

-- a user that does not wait may make whatever act it comes to
pub any_is_due : (users : List ℕ) (journal : Entries) (party : ℕ) (act : Act) → ArePeople users → is_user users party ≡ true → waits journal party ≡ false → act_due (is_auxiliary party) journal party act ≡ Some act
any_is_due users journal party act people user free =
    ap (λ (auxiliary : Bool). act_due auxiliary journal party act) (people_are users people party user)
    ∙ ap (λ (waited : Option Act). Some (may_do waited act)) (none_waits journal party free)

-- ---- an act that is made

-- where an act was made so, and its answer heard, the user has gone on
gone_on : {K : Type 0} (replies : List ShelfReply) (m : PlainSession K) (before after : PlainCore) (s : PlainSession K) (waiting : Bool) (act : Act) (answer : PlainAnswer) → IsMade before.journal s.user act after.journal answer → after.users ≡ before.users
    → has_left before.journal s.user ≡ false → s.stage ≡ stage.Waiting → Asks (participant_with replies s) act → IsSoFar before.journal (participant_with replies s) waiting → IsTurnAt replies before s after (heard answer m s) → HasGoneOn replies before s after (heard answer m s)
gone_on replies m before after s waiting act answer made users present at asks so turned = record {
  same = heard_same_user m answer s;
  grows = made_grows s.user act answer before after users made;
  so_far = made_so_far replies m before.journal s waiting act after.journal answer made so asks at;
  less = work_falls replies m before.journal s (is_held (kind_of answer)) act after.journal answer made present asks refl;
  turn = turned;
}

-- a processor answered an act of a party so
pub record IsStepped (before : PlainCore) (party : ℕ) (act : Act) (after : PlainCore) (answer : PlainAnswer) : Type 0 where
  pub told : answer ≡ answer_to before.journal party act
  pub became : after ≡ (let c : PlainCore = record { users = before.users; journal = journal_after before.journal party act } in c)

-- and it answered a party that tried again so, if it is not held still
pub record IsTriedAgain (before : PlainCore) (party : ℕ) (after : PlainCore) (got : Option PlainAnswer) : Type 0 where
  pub told : got ≡ retried before.users before.journal party
  pub became : after ≡ core_retried before party

-- an act of a user that does not wait
pub stepped : {K : Type 0} (replies : List ShelfReply) (m : PlainSession K) (before after : PlainCore) (s now : PlainSession K) (waiting : Bool) (act : Act) (answer : PlainAnswer) → has_left before.journal s.user ≡ false → s.stage ≡ stage.Waiting → Asks (participant_with replies s) act
    → waits before.journal s.user ≡ false → IsSoFar before.journal (participant_with replies s) waiting → IsStepped before s.user act after answer → now ≡ heard answer m s → HasGoneOn replies before s after now
stepped {K = K} replies m before after s now waiting act answer present at asks free so step hears =
    let c : PlainCore = record { users = before.users; journal = journal_after before.journal s.user act } in
    let a : PlainAnswer = answer_to before.journal s.user act in
    let turned : IsTurnAt replies before s c (heard a m s) =
    turn_is before.users before.journal (participant_with replies s) act false present asks free
    ∙ ap (λ (p : Participant). let t : AfterTurn = record { journal = c.journal; user = p } in t) (sym (heard_participant replies m a s)) in
    let gone : HasGoneOn replies before s c (heard a m s) = gone_on replies m before c s waiting act a (made_now before.journal s.user act) refl present at asks so turned in
    subst₂ (λ (d : PlainCore) (t : PlainSession K). HasGoneOn replies before s d t) (sym step.became) (sym (hears ∙ ap (λ (b : PlainAnswer). heard b m s) step.told)) gone

-- ---- an act that is tried again

-- a user that is held still: nothing has changed
pub record IsStillAsBefore {K : Type 0} (replies : List ShelfReply) (before : PlainCore) (s : PlainSession K) (after : PlainCore) : Type 0 where
  pub stays : after ≡ before
  pub grows : GrowsBy s.user before after
  pub so_far : IsUserAt replies after.journal s
  pub held : is_still_held before.users before.journal s.user ≡ true
  pub turn : IsTurnAt replies before s after s

-- a user that is held still is so far, since there is room
still_so_far : {K : Type 0} (replies : List ShelfReply) (before : PlainCore) (s : PlainSession K) → is_still_held before.users before.journal s.user ≡ true → IsTriedAt replies before.journal s → IsUserAt replies before.journal s
still_so_far replies before s held (inl h) = h
still_so_far replies before s held (inr h) =
    let room : not (is_full before.journal) ≡ true = (and_parts (not (is_full before.journal)) (is_some (still_refused before.journal s.user)) (and_parts (not (is_full before.journal) && is_some (still_refused before.journal s.user)) (not (is_stuck before.users before.journal)) held).0).0 in
    absurd (both_ways (is_full before.journal) (not-true (is_full before.journal) room) h.0)

-- a user that is held still
pub held_still : {K : Type 0} (replies : List ShelfReply) (before after : PlainCore) (s : PlainSession K) → has_left before.journal s.user ≡ false → s.stage ≡ stage.Waiting → IsSome (session_of s.lines s.answers replies).waits
    → waits before.journal s.user ≡ true → IsTriedAt replies before.journal s → IsTriedAgain before s.user after None → IsStillAsBefore replies before s after
held_still {K = K} replies before after s present at some waiting retrying try =
    let asked = some_act (session_of s.lines s.answers replies).waits some in
    let awaited' = some_act (awaited before.journal s.user) waiting in
    let got : retried before.users before.journal s.user ≡ None = sym try.told in
    let h = held_again before s.user awaited'.0 awaited'.1 got in
    let so : IsUserAt replies before.journal s = still_so_far replies before s h.0 retrying in
    let act : Act = asked.0 in
    let asks : Asks (participant_with replies s) act = asked.1 in
    let stays : after ≡ before = try.became ∙ h.1 in
    let turned : IsTurnAt replies before s before s =
    turn_is before.users before.journal (participant_with replies s) act true present asks waiting
    ∙ ap (λ (c : PlainCore). let t : AfterTurn = record { journal = c.journal; user = option_map_or (λ answer. answer_given answer (participant_with replies s)) (retried before.users before.journal s.user) (participant_with replies s) } in t) h.1
    ∙ ap (λ (o : Option PlainAnswer). let t : AfterTurn = record { journal = before.journal; user = option_map_or (λ answer. answer_given answer (participant_with replies s)) o (participant_with replies s) } in t) got in
    let still : IsStillAsBefore replies before s before = record {
      stays = refl;
      grows = record { users = refl; entries = []; own = All-nil (λ (e : PlainEntry). e.party ≡ s.user); journal = refl };
      so_far = so;
      held = h.0;
      turn = turned;
    } in
    subst (λ (d : PlainCore). IsStillAsBefore replies before s d) (sym stays) still

-- in a full journal the act that is tried again is refused, whichever it is
full_again : {K : Type 0} (before after : PlainCore) (s : PlainSession K) (tried act : Act) (answer : PlainAnswer) → IsTrue (is_full before.journal) → IsMade before.journal s.user tried after.journal answer
    → IsMade before.journal s.user act after.journal answer
full_again before after s tried act answer limit (refusing h) = refusing h
full_again before after s tried act answer limit (entering h) = absurd (both_ways (is_full before.journal) h.room limit)

-- the act that a user waits for is the one that its session asks, unless the journal is full
asked_is : {K : Type 0} (replies : List ShelfReply) (before : PlainCore) (s : PlainSession K) (tried act : Act) (refused : List Act) → awaited before.journal s.user ≡ Some tried → Asks (participant_with replies s) act → refused ≡ []
    → IfSome (awaited before.journal s.user) (IsWaitedFor (participant_with replies s) true refused) → tried ≡ act
asked_is replies before s tried act refused awaits asks none h =
    let k : IsWaitedFor (participant_with replies s) true [] tried =
    subst₂ (λ (o : Option Act) (r : List Act). IfSome o (IsWaitedFor (participant_with replies s) true r)) awaits none h in
    same_Some tried act (sym k.1 ∙ asks)

-- so an act that is tried again is made as the one that the session asks
pub made_as_asked : {K : Type 0} (replies : List ShelfReply) (before after : PlainCore) (s : PlainSession K) (tried act : Act) (answer : PlainAnswer) → s.stage ≡ stage.Waiting → awaited before.journal s.user ≡ Some tried → Asks (participant_with replies s) act
    → IsTriedAt replies before.journal s → IsMade before.journal s.user tried after.journal answer → (going : Bool) × IsSoFar before.journal (participant_with replies s) going × IsMade before.journal s.user act after.journal answer
made_as_asked {K = K} replies before after s tried act answer at awaits asks (inl h) made =
    let so : IsSoFar before.journal (participant_with replies s) true = subst (λ (w : Bool). IsSoFar before.journal (participant_with replies s) w) (ap is_waiting at) h in
    let same : tried ≡ act = asked_is replies before s tried act so.refused awaits asks (so.going refl).0 so.waited in
    (true, so, subst (λ (a : Act). IsMade before.journal s.user a after.journal answer) same made)
made_as_asked {K = K} replies before after s tried act answer at awaits asks (inr h) made = (false, h.1, full_again before after s tried act answer h.0 made)

-- the turn of a user that tries again and is answered
retried_turn : {K : Type 0} (replies : List ShelfReply) (m : PlainSession K) (before : PlainCore) (s : PlainSession K) (act : Act) (answer : PlainAnswer) → has_left before.journal s.user ≡ false → Asks (participant_with replies s) act → waits before.journal s.user ≡ true
    → retried before.users before.journal s.user ≡ Some answer → IsTurnAt replies before s (core_retried before s.user) (heard answer m s)
retried_turn replies m before s act answer present asks waiting got =
    turn_is before.users before.journal (participant_with replies s) act true present asks waiting
    ∙ ap (λ (o : Option PlainAnswer). let t : AfterTurn = record { journal = (core_retried before s.user).journal; user = option_map_or (λ a. answer_given a (participant_with replies s)) o (participant_with replies s) } in t) got
    ∙ ap (λ (p : Participant). let t : AfterTurn = record { journal = (core_retried before s.user).journal; user = p } in t) (sym (heard_participant replies m answer s))

-- a user that tries its act again and is answered
pub tried : {K : Type 0} (replies : List ShelfReply) (m : PlainSession K) (before after : PlainCore) (s now : PlainSession K) (answer : PlainAnswer) → has_left before.journal s.user ≡ false → s.stage ≡ stage.Waiting → IsSome (session_of s.lines s.answers replies).waits
    → waits before.journal s.user ≡ true → IsTriedAt replies before.journal s → IsTriedAgain before s.user after (Some answer) → now ≡ heard answer m s → HasGoneOn replies before s after now
tried {K = K} replies m before after s now answer present at some waiting h try hears =
    let got : Some answer ≡ retried before.users before.journal s.user = try.told in
    let asked = some_act (session_of s.lines s.answers replies).waits some in
    let awaited' = some_act (awaited before.journal s.user) waiting in
    let c : PlainCore = core_retried before s.user in
    let k = made_as_asked replies before c s awaited'.0 asked.0 answer at awaited'.1 asked.1 h (made_again before s.user awaited'.0 answer awaited'.1 (sym got)) in
    let turned : IsTurnAt replies before s c (heard answer m s) = retried_turn replies m before s asked.0 answer present asked.1 waiting (sym got) in
    let gone : HasGoneOn replies before s c (heard answer m s) = gone_on replies m before c s k.0 asked.0 answer k.2 (users_stay before s.user) present at asked.1 k.1 turned in
    subst₂ (λ (d : PlainCore) (t : PlainSession K). HasGoneOn replies before s d t) (sym try.became) (sym hears) gone

-- ---- what the code's steps say, for a party that is the user

pub step_of : (before after : PlainCore) (party user : ℕ) (act : Act) (answer : PlainAnswer) → party ≡ user → answer ≡ answer_to before.journal party act
    → after ≡ (let c : PlainCore = record { users = before.users; journal = journal_after before.journal party act } in c) → IsStepped before user act after answer
step_of before after party user act answer is told became = subst (λ (p : ℕ). IsStepped before p act after answer) is (record { told = told; became = became })

pub try_of : (before after : PlainCore) (party user : ℕ) (got : Option PlainAnswer) → party ≡ user → got ≡ retried before.users before.journal party → after ≡ core_retried before party → IsTriedAgain before user after got
try_of before after party user got is told became = subst (λ (p : ℕ). IsTriedAgain before p after got) is (record { told = told; became = became })
