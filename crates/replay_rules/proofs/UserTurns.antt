-- A user's turn, by what is known of the user.
use Rattle.std.proofs.Common.{◌≡◌, ℕ, ◌&&◌, Bool, true, false, not, List, ◌∷◌, Option, Some, None, IsTrue, refl, sym, ap, subst, ◌∙◌}
use Rattle.std.proofs.lemmas.Bool.{both_ways}
use Rattle.std.proofs.lemmas.Option.{none-some, same_Some}
use Rattle.std.specs.Option.{option_map_or}
use Rattle.std.specs.Prelude.{is_some, option_and_then, if◌then◌else◌}
use Rattle.sv_core.specs.Core.{PlainCore, core_after}
use Rattle.sv_core.specs.Retry.{core_retried}
use Rattle.sv_core.proofs.RetryLemmas.{full_again, goes_on, kept_back}
use Rattle.sv_events.specs.Answer.{PlainAnswer, abandoned, full, held}
use Rattle.sv_events.specs.declared.event.Act.{Act}
use Rattle.sv_events.specs.declared.event.Hold.{Hold}
use Rattle.sv_rules.specs.Entries.{Entries, has_left, is_full, is_held, kind_of}
use Rattle.sv_rules.specs.Legal.{entry_for, retried}
use Rattle.sv_rules.specs.Outcome.{outcome}
use Rattle.sv_rules.specs.Refused.{awaited, refused, still_refused, waits}
use Rattle.sv_rules.specs.Work.{is_stuck}
use Rattle.sv_story_laws.proofs.AnswerLemmas.{Answered, answered, given_up, held_first, unrefused}
use Rattle.session_rules.specs.Session.{session_of}
use Rattle.replay_rules.specs.SoFarLaws.{Asks, user_with_answer}
use Rattle.replay_rules.specs.Turns.{Participant, AfterTurn, act_made, answer_given, turn, turn_by}
use Rattle.replay_rules.specs.UserTurnLaws.{IsUserTurn, MakesAct, HearsAgain, UsersTakeTurns, entered_and_heard, finds_no_room, gives_up, goes_through, has_gone, has_no_room, has_to_wait, is_answered, is_still_held, leaves, makes, refused_room, tries}
use Rattle.replay_rules.proofs.Retrying.{waiters_are_answered}

-- the turn of a user that has not left, and whose lines ask an act
pub turn_is : (numbers : List ℕ) (journal : Entries) (user : Participant) (act : Act) (waiting : Bool) → has_left journal user.number ≡ false → Asks user act → waits journal user.number ≡ waiting
    → turn numbers journal user ≡ act_made waiting numbers journal user act
turn_is numbers journal user act waiting present asks is =
    ap (λ (left : Bool). turn_by left (session_of user.lines user.answers user.replies).waits numbers journal user) present
    ∙ ap (λ (next : Option Act). turn_by false next numbers journal user) asks
    ∙ ap (λ (w : Bool). act_made w numbers journal user act) is

-- ---- what a user hears

-- an answer that does not hold it
heard : (answer : PlainAnswer) (user : Participant) → is_held (kind_of answer) ≡ false → answer_given answer user ≡ user_with_answer user answer
heard answer user free = ap (λ (is : Bool). if is then user else user_with_answer user answer) free

-- one that does
unheard : (answer : PlainAnswer) (user : Participant) (hold : Hold) → answer ≡ held hold → answer_given answer user ≡ user
unheard answer user hold is = ap (λ (a : PlainAnswer). if is_held (kind_of a) then user else user_with_answer user answer) is

-- ---- an act that is made

module _ (numbers : List ℕ) (journal : Entries) (user : Participant) (act : Act) where
  abbrev answer : PlainAnswer
  answer = (outcome journal user.number act).answer

  -- in a full journal, and in one with room
  made_when : (full' : Bool) → is_full journal ≡ full' →
      act_made false numbers journal user act
      ≡ (let t : AfterTurn = record { journal = if full' then journal else entry_for journal user.number act ∷ journal; user = answer_given (if full' then full else answer) user } in t)
  made_when full' is = ap (λ (b : Bool). let t : AfterTurn = record { journal = if b then journal else entry_for journal user.number act ∷ journal; user = answer_given (if b then full else answer) user } in t) is

  -- with the entry, whoever the user is then
  abbrev with_entry : Participant → AfterTurn
  with_entry now = record { journal = entry_for journal user.number act ∷ journal; user = now }

  made_with_room : is_full journal ≡ false → waits journal user.number ≡ false → Answered (refused journal user.number act) (waits journal user.number) answer → MakesAct journal user act (act_made false numbers journal user act)
  made_with_room room free (unrefused none plain) = is_answered room none (made_when false room ∙ ap with_entry (heard answer user plain.0))
  made_with_room room free (held_first hold refuses still is) = has_to_wait hold room refuses is (made_when false room ∙ ap with_entry (unheard answer user hold is))
  made_with_room room free (given_up hold refuses waiting is) = absurd (both_ways (waits journal user.number) free waiting)

  made_by : (full' : Bool) → is_full journal ≡ full' → waits journal user.number ≡ false → MakesAct journal user act (act_made false numbers journal user act)
  made_by true limit free = finds_no_room limit (made_when true limit)
  made_by false room free = made_with_room room free (answered journal user.number act)

  made : waits journal user.number ≡ false → MakesAct journal user act (act_made false numbers journal user act)
  made free = made_by (is_full journal) refl free

-- ---- an act that is tried again

module _ (numbers : List ℕ) (journal : Entries) (user : Participant) (next : Act) where
  abbrev core : PlainCore
  core = record { users = numbers; journal = journal }

  -- the turn, by what the core became and what it answered
  tried_when : (after : PlainCore) (got : Option PlainAnswer) → core_retried core user.number ≡ after → retried numbers journal user.number ≡ got →
      act_made true numbers journal user next ≡ (let t : AfterTurn = record { journal = after.journal; user = option_map_or (λ given_now. answer_given given_now user) got user } in t)
  tried_when after got became told =
      ap (λ (c : PlainCore). let t : AfterTurn = record { journal = c.journal; user = option_map_or (λ given_now. answer_given given_now user) (retried numbers journal user.number) user } in t) became
      ∙ ap (λ (o : Option PlainAnswer). let t : AfterTurn = record { journal = after.journal; user = option_map_or (λ given_now. answer_given given_now user) o user } in t) told

  -- where there is no room
  tried_at_limit : is_full journal ≡ true → waits journal user.number ≡ true → act_made true numbers journal user next ≡ refused_room journal user
  tried_at_limit limit waiting = let again = full_again core user.number limit waiting in tried_when core (Some full) (sym again.1) (sym again.0)

  module _ (act : Act) (waited : awaited journal user.number ≡ Some act) where
    waiting : waits journal user.number ≡ true
    waiting = ap (λ (o : Option Act). is_some o) waited

    -- what refuses it now is what refuses the act
    refuses : still_refused journal user.number ≡ refused journal user.number act
    refuses = ap (λ (o : Option Act). option_and_then (refused journal user.number) o) waited

    -- by what that is, and by whether nobody can go on
    held_when : (now : Option Hold) (stuck : Bool) → refused journal user.number act ≡ now → is_stuck numbers journal ≡ stuck →
        (is_some (still_refused journal user.number) && not (is_stuck numbers journal)) ≡ (is_some now && not stuck)
    held_when now stuck is nobody =
        ap (λ (o : Option Hold). is_some o && not (is_stuck numbers journal)) (refuses ∙ is) ∙ ap (λ (b : Bool). is_some now && not b) nobody

    -- where it is made, its answer is heard
    tried_with_room : is_full journal ≡ false → (is_some (still_refused journal user.number) && not (is_stuck numbers journal)) ≡ false → act_made true numbers journal user next ≡ entered_and_heard journal user act
    tried_with_room room free =
        let on = goes_on core user.number act room free waited in
        let plain : is_held (kind_of (outcome journal user.number act).answer) ≡ false =
        sym (ap (λ (b : Bool). is_held (kind_of (if b then full else (outcome journal user.number act).answer))) room) ∙ waiters_are_answered journal user.number act waiting in
        tried_when (core_after core user.number act) (Some (outcome journal user.number act).answer) on.2 on.1
        ∙ ap (λ (now : Participant). let t : AfterTurn = record { journal = entry_for journal user.number act ∷ journal; user = now } in t) (heard (outcome journal user.number act).answer user plain)

    -- its answer, where it is refused
    abandons : (hold : Hold) → refused journal user.number act ≡ Some hold → Answered (refused journal user.number act) (waits journal user.number) (outcome journal user.number act).answer →
        (outcome journal user.number act).answer ≡ abandoned hold
    abandons hold is (unrefused none plain) = absurd (none-some hold (sym none ∙ is))
    abandons hold is (held_first other refused_by free same) = absurd (both_ways (waits journal user.number) free waiting)
    abandons hold is (given_up other refused_by still same) = same ∙ ap (λ (h : Hold). abandoned h) (same_Some other hold (sym refused_by ∙ is))

    tried_by : (now : Option Hold) → refused journal user.number act ≡ now → (stuck : Bool) → is_stuck numbers journal ≡ stuck → (full' : Bool) → is_full journal ≡ full' →
        HearsAgain numbers journal user act (act_made true numbers journal user next)
    tried_by now is stuck nobody true limit = has_no_room limit (tried_at_limit limit waiting)
    tried_by None is stuck nobody false room = goes_through room is (tried_with_room room (held_when None stuck is nobody))
    tried_by (Some hold) is true nobody false room =
        gives_up hold room is nobody (abandons hold is (answered journal user.number act)) (tried_with_room room (held_when (Some hold) true is nobody))
    tried_by (Some hold) is false nobody false room =
        let back = kept_back core user.number room (held_when (Some hold) false is nobody) in
        is_still_held hold room is nobody (tried_when core None (sym back.1) (sym back.0))

    tried : HearsAgain numbers journal user act (act_made true numbers journal user next)
    tried = tried_by (refused journal user.number act) refl (is_stuck numbers journal) refl (is_full journal) refl

-- ---- the turn

-- a user that has left, and one whose lines ask no act
left_is : (numbers : List ℕ) (journal : Entries) (user : Participant) → has_left journal user.number ≡ true → turn numbers journal user ≡ (let t : AfterTurn = record { journal = journal; user = user } in t)
left_is numbers journal user left = ap (λ (b : Bool). turn_by b (session_of user.lines user.answers user.replies).waits numbers journal user) left

pub last_turn : (numbers : List ℕ) (journal : Entries) (user : Participant) → has_left journal user.number ≡ false → (session_of user.lines user.answers user.replies).waits ≡ None → turn numbers journal user ≡ turn_by false None numbers journal user
last_turn numbers journal user present asks =
    ap (λ (left : Bool). turn_by left (session_of user.lines user.answers user.replies).waits numbers journal user) present
    ∙ ap (λ (next : Option Act). turn_by false next numbers journal user) asks

-- in a full journal a user hears Full, whether it waits or not
pub full_turn : (numbers : List ℕ) (journal : Entries) (user : Participant) (act : Act) → is_full journal ≡ true → has_left journal user.number ≡ false → Asks user act → turn numbers journal user ≡ refused_room journal user
full_turn numbers journal user act limit present asks = by (waits journal user.number) refl
  where
    by : (waiting : Bool) → waits journal user.number ≡ waiting → turn numbers journal user ≡ refused_room journal user
    by true waiting = turn_is numbers journal user act true present asks waiting ∙ tried_at_limit numbers journal user act limit waiting
    by false free = turn_is numbers journal user act false present asks free ∙ made_when numbers journal user act true limit

pub users_take_turns : UsersTakeTurns
users_take_turns numbers journal user = by (has_left journal user.number) refl (session_of user.lines user.answers user.replies).waits refl (awaited journal user.number) refl
  where
    by : (left : Bool) → has_left journal user.number ≡ left → (next : Option Act) → (session_of user.lines user.answers user.replies).waits ≡ next → (waited : Option Act) → awaited journal user.number ≡ waited →
        IsUserTurn numbers journal user (turn numbers journal user)
    by true left next asks waited is = has_gone left (left_is numbers journal user left)
    by false present None asks waited is = leaves present asks (last_turn numbers journal user present asks)
    by false present (Some act) asks None is =
        let free : waits journal user.number ≡ false = ap (λ (o : Option Act). is_some o) is in
        makes act present asks is (subst (λ (t : AfterTurn). MakesAct journal user act t) (sym (turn_is numbers journal user act false present asks free)) (made numbers journal user act free))
    by false present (Some next) asks (Some act) is =
        let waiting : waits journal user.number ≡ true = ap (λ (o : Option Act). is_some o) is in
        tries next act present asks is
        (subst (λ (t : AfterTurn). HearsAgain numbers journal user act t) (sym (turn_is numbers journal user next true present asks waiting)) (tried numbers journal user next act is))
