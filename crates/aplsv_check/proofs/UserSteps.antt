-- The turn of a user makes the entry that is what the user does next.
use Rattle.std.proofs.Common.{◌≡◌, ℕ, ◌<◌, Bool, true, false, List, [], ◌∷◌, ◌++◌, map, Option, Some, None, inl, inr, refl, sym, ap, ◌∙◌, subst, subst₂}
use Rattle.std.proofs.lemmas.Bool.{both_ways}
use Rattle.std.specs.Prelude.{IsSome, if◌then◌else◌}
use Rattle.apl_io.specs.Kept.{Keeper}
use Rattle.apl_session.specs.PlainSession.{HasCome, PlainSession, asked}
use Rattle.apl_session.specs.declared.session.SessionStage.TheVariants as stage
use Rattle.aux_parties.specs.Auxiliaries.{is_auxiliary}
use Rattle.bundle_devices.proofs.OwnDevices.{keeper_faults, told_by}
use Rattle.bundle_devices.specs.Devices.{empty_shelf}
use Rattle.bundle_text.specs.User.{PlainUser}
use Rattle.party_turns.proofs.Hearing.{asked_stays, heard_same_user, waiting_asks, waiting_waits}
use Rattle.party_turns.proofs.Leaving.{has_left_now, user_is}
use Rattle.party_turns.proofs.Phases.{goes_by, part_at_end}
use Rattle.party_turns.proofs.SeatSteps.{less_at_limit}
use Rattle.party_turns.proofs.Turning.{asks_on, same_on, so_far_on}
use Rattle.party_turns.specs.Entering.{Brings, BringsOn, Finds, IsAtEnd, IsOneIf, IsOneMore, IsReady, heard_if}
use Rattle.party_turns.specs.Participants.{participant_with}
use Rattle.party_turns.specs.SoFar.{GoesOn, IsSameUser, IsSessionSoFar, SittingIsPresent, is_waiting, user_of, work_with}
use Rattle.party_turns.specs.declared.intent.Intent.{Intent}
use Rattle.party_turns.specs.declared.intent.Intent.TheVariants as intent
use Rattle.party_turns.specs.declared.seat.UserSeat.{UserSeat}
use Rattle.replay_rules.proofs.UserTurns.{users_take_turns}
use Rattle.replay_rules.specs.SoFar.{IsSoFar}
use Rattle.replay_rules.specs.SoFarLaws.{Asks}
use Rattle.replay_rules.specs.Turns.{AfterTurn, Participant, turn}
use Rattle.replay_rules.specs.UserTurnLaws.{IsUserTurn}
use Rattle.session_rules.specs.Session.{session_of}
use Rattle.session_rules.specs.Shelf.{Exchange, shelf_replies_in}
use Rattle.session_rules.specs.UserPart.{IsUserPart}
use Rattle.sv_core.specs.Core.{PlainCore, core_after}
use Rattle.sv_events.specs.Answer.{PlainAnswer, full}
use Rattle.sv_events.specs.Entry.{PlainEntry}
use Rattle.sv_events.specs.declared.event.Act.{Act}
use Rattle.sv_events.specs.declared.event.Act.TheVariants as act
use Rattle.sv_rules.specs.Entries.{Entries, has_left, is_full, is_held, is_leave, kind_of}
use Rattle.sv_rules.specs.Legal.{entry_for}
use Rattle.sv_rules.specs.Refused.{awaited, refused, waits}
use Rattle.check_rules.specs.Alone.{AreServed, AsksNext, HasFinished, answers_given}
use Rattle.check_rules.specs.Fits.{IsNextOf}
use Rattle.aplsv_check.specs.Followed.{HasCalled, IsSeatOf, NoneIsNext, TookTurn, TurnedOn}
use Rattle.aplsv_check.proofs.UserActs.{asks_next, asks_waited, first_is, given_all, held_by, longer, made_by, none_next}

some_of : (o : Option Act) → IsSome o → (made : Act) × (o ≡ Some made)
some_of None some = absurd (let no : false ≡ true = some in cc)
some_of (Some made) some = (made, refl)

-- ---- before the turn

-- a user found what it may do, with some exchanges more, which are all calls of its session
record IsAbout (journal : Entries) (earlier : List Exchange) (about : Intent) (s : PlainSession (Keeper (ℕ × List ℕ))) : Type 0 where
  more : List Exchange
  come : HasCome told_by keeper_faults empty_shelf (more ++ earlier) s
  ready : IsReady journal (more ++ earlier) about s
  called : HasCalled (more ++ earlier) s

is_about : (journal : Entries) (exchanges : List Exchange) (about : Intent) (s between : PlainSession (Keeper (ℕ × List ℕ))) → Finds told_by keeper_faults s about between → HasCome told_by keeper_faults empty_shelf exchanges s
    → IsSessionSoFar journal exchanges s → (s.stage ≡ stage.Waiting → HasCalled exchanges s) → IsAbout journal exchanges about between
is_about journal exchanges intent.Make s between finds come so called =
    let goes = finds.0.goes empty_shelf exchanges come in
    let own = some_of (asked between) finds.2 in
    record {
      more = goes.more;
      come = goes.come;
      ready = (finds.1, record { act = own.0; own = own.1; now = asks_on told_by keeper_faults journal empty_shelf exchanges s between own.0 own.1 finds.0.ready finds.0.same finds.0.answers so goes });
      called = goes.calls;
    }
is_about journal exchanges intent.TryAgain s between finds come so called =
    subst (λ (t : PlainSession (Keeper (ℕ × List ℕ))). IsAbout journal exchanges intent.TryAgain t) (sym finds.1) (record { more = []; come = come; ready = (finds.0, so); called = called finds.0 })
is_about journal exchanges intent.Leave s between finds come so called =
    let goes = finds.0.goes empty_shelf exchanges come in
    record {
      more = goes.more;
      come = goes.come;
      ready = record {
        finished = finds.1;
        so_far = so_far_on told_by keeper_faults journal exchanges goes.more s between finds.0.ready finds.0.same finds.0.answers so;
        asks = λ rest. sym (goes.waits rest) ∙ finds.2;
        calls = goes.calls;
      };
      called = goes.calls;
    }

same_as : (s between : PlainSession (Keeper (ℕ × List ℕ))) (about : Intent) → Finds told_by keeper_faults s about between → IsSameUser s between
same_as s between intent.Make finds = finds.0.same
same_as s between intent.TryAgain finds = subst (λ (t : PlainSession (Keeper (ℕ × List ℕ))). IsSameUser s t) (sym finds.1) refl
same_as s between intent.Leave finds = finds.0.same

-- ---- behind the turn

heard_user : (answer : Option PlainAnswer) (m s : PlainSession (Keeper (ℕ × List ℕ))) → user_of (heard_if answer m s) ≡ user_of s
heard_user None m s = refl
heard_user (Some answer) m s = ap (λ (t : PlainSession (Keeper (ℕ × List ℕ))). user_of t) (heard_same_user m answer s)

heard_called : (exchanges : List Exchange) (answer : Option PlainAnswer) (m s : PlainSession (Keeper (ℕ × List ℕ))) → HasCalled exchanges s → (heard_if answer m s).stage ≡ stage.Waiting → HasCalled exchanges (heard_if answer m s)
heard_called exchanges None m s called at = called
heard_called exchanges (Some answer) m s called at = by (is_held (kind_of answer)) at where
  by : (held : Bool) → (let t : PlainSession (Keeper (ℕ × List ℕ)) = (if held then s else record s { acts = m.acts; answers = s.answers ++ answer ∷ []; stage = stage.Ready; inside = m.inside }) in t.stage ≡ stage.Waiting → HasCalled exchanges t)
  by true at = called
  by false at = absurd (let no : stage.Ready ≡ stage.Waiting = at in cc)

-- ---- where it sat

module _ (before : PlainCore) (seat : UserSeat (Keeper (ℕ × List ℕ))) (user : PlainUser) (stays : has_left before.journal seat.session.user ≡ false) (sits : IsSeatOf before.journal user seat) where
  present : SittingIsPresent told_by keeper_faults before.journal sits.sitting
  present = sits.seated (ap (λ (t : UserSeat (Keeper (ℕ × List ℕ))). has_left before.journal t.session.user) sits.here ∙ stays)

  came : HasCome told_by keeper_faults empty_shelf sits.sitting.exchanges seat.session
  came = subst₂ (λ (lent : Keeper (ℕ × List ℕ)) (t : UserSeat (Keeper (ℕ × List ℕ))). HasCome told_by keeper_faults lent sits.sitting.exchanges t.session) sits.lent sits.here present.come

  is_so_far : IsSessionSoFar before.journal sits.sitting.exchanges seat.session
  is_so_far = subst (λ (t : UserSeat (Keeper (ℕ × List ℕ))). IsSessionSoFar before.journal sits.sitting.exchanges t.session) sits.here present.so_far

  about_of : (between : PlainSession (Keeper (ℕ × List ℕ))) (about : Intent) → Finds told_by keeper_faults seat.session about between → IsAbout before.journal sits.sitting.exchanges about between
  about_of between about finds = is_about before.journal sits.sitting.exchanges about seat.session between finds came is_so_far sits.called

  -- it may do what it found
  pub ready_for : (between : PlainSession (Keeper (ℕ × List ℕ))) (about : Intent) → Finds told_by keeper_faults seat.session about between → (exchanges : List Exchange) × IsReady before.journal exchanges about between
  ready_for between about finds = let found = about_of between about finds in (found.more ++ sits.sitting.exchanges, found.ready)

heard_if_same : (answer : Option PlainAnswer) (m s : PlainSession (Keeper (ℕ × List ℕ))) → IsSameUser s (heard_if answer m s)
heard_if_same None m s = refl
heard_if_same (Some answer) m s = heard_same_user m answer s

module _ (before after : PlainCore) (seat between_seat seat_then : UserSeat (Keeper (ℕ × List ℕ))) (answer : Option PlainAnswer) (user : PlainUser) (person : is_auxiliary user.number ≡ false) (stays : has_left before.journal seat.session.user ≡ false) (sits : IsSeatOf before.journal user seat)
    (kept : between_seat.is_lost ≡ seat.is_lost) (hears : seat_then ≡ record between_seat { session = heard_if answer seat_then.session between_seat.session })
    (had : (lent : Keeper (ℕ × List ℕ)) (exchanges : List Exchange) → HasCome told_by keeper_faults lent exchanges between_seat.session → HasCome told_by keeper_faults lent exchanges seat_then.session) where
  abbrev s : PlainSession (Keeper (ℕ × List ℕ))
  s = seat.session

  abbrev b : PlainSession (Keeper (ℕ × List ℕ))
  b = between_seat.session

  abbrev now : PlainSession (Keeper (ℕ × List ℕ))
  now = seat_then.session

  session_is : now ≡ heard_if answer now b
  session_is = ap (λ (t : UserSeat (Keeper (ℕ × List ℕ))). t.session) hears

  memory : seat_then.is_lost ≡ false
  memory = ap (λ (t : UserSeat (Keeper (ℕ × List ℕ))). t.is_lost) hears ∙ (kept ∙ sits.memory)

  module _ (about : Intent) (finds : Finds told_by keeper_faults s about b) where
    about_is : IsAbout before.journal sits.sitting.exchanges about b
    about_is = about_of before seat user stays sits b about finds

    same : IsSameUser s b
    same = same_as s b about finds

    user_here : user_of b ≡ user
    user_here = ap (λ (t : PlainSession (Keeper (ℕ × List ℕ))). user_of t) same ∙ sits.same

    there : has_left before.journal b.user ≡ false
    there = ap (λ (p : ℕ). has_left before.journal p) (user_is s b same) ∙ stays

    same_now : IsSameUser s now
    same_now = same_on s b now same (subst (λ (t : PlainSession (Keeper (ℕ × List ℕ))). IsSameUser b t) (sym session_is) (heard_if_same answer now b))

  -- it sits where its turn leads it, with all exchanges so far
  sits_on : (exchanges : List Exchange) → user_of b ≡ user → HasCome told_by keeper_faults empty_shelf exchanges b → HasCalled exchanges b → BringsOn before exchanges b after answer → IsSeatOf after.journal user seat_then
  sits_on exchanges user_here come_on called on =
      let number : now.user ≡ b.user = ap (λ (u : PlainUser). u.number) (ap (λ (t : PlainSession (Keeper (ℕ × List ℕ))). user_of t) session_is ∙ heard_user answer now b) in
      record {
        sitting = record { seat = seat_then; lent = empty_shelf; exchanges = exchanges };
        here = refl;
        same = ap (λ (t : PlainSession (Keeper (ℕ × List ℕ))). user_of t) session_is ∙ (heard_user answer now b ∙ user_here);
        lent = refl;
        memory = memory;
        seated = λ still. record {
          here = memory;
          come = had empty_shelf exchanges come_on;
          so_far = subst (λ (t : PlainSession (Keeper (ℕ × List ℕ))). IsSessionSoFar after.journal exchanges t) (sym session_is) (on.so_far now);
        };
        called = λ at. subst (λ (t : PlainSession (Keeper (ℕ × List ℕ))). HasCalled exchanges t) (sym session_is)
            (heard_called exchanges answer now b called (sym (ap (λ (t : PlainSession (Keeper (ℕ × List ℕ))). t.stage) session_is) ∙ at));
        whole = λ left. absurd (both_ways (has_left after.journal b.user) on.stays (ap (λ (p : ℕ). has_left after.journal p) (sym number) ∙ left));
      }

  -- an act was made, or tried again: by what is known of the session
  module _ (exchanges : List Exchange) (waiting : Bool) (next : Act) (user_here : user_of b ≡ user) (there : has_left before.journal b.user ≡ false) (come_on : HasCome told_by keeper_faults empty_shelf exchanges b) (called : HasCalled exchanges b)
      (so : IsSoFar before.journal (participant_with (shelf_replies_in exchanges ++ []) b) waiting) (asks : Asks (participant_with (shelf_replies_in exchanges ++ []) b) next) (on : BringsOn before exchanges b after answer) where
    abbrev player : Participant
    player = participant_with (shelf_replies_in exchanges ++ []) b

    its_turn : IsUserTurn before.users before.journal player (turn before.users before.journal player)
    its_turn = users_take_turns before.users before.journal player

    turned : (turn before.users before.journal player).journal ≡ after.journal
    turned = ap (λ (t : AfterTurn). t.journal) (on.turn now [])

    asks_now : (made : Act) → is_full before.journal ≡ false → Asks player made → AsksNext before.journal user made
    asks_now made room is =
        subst (λ (u : PlainUser). AsksNext before.journal u made) user_here
        (asks_next before.journal exchanges b made come_on called (given_all before.journal player waiting room so) is)

    -- it made what is next
    turned_on : IsOneMore b.user before after → TurnedOn user before after seat_then
    turned_on one =
        let found = made_by before.users before.journal player next there asks one.entry (turn before.users before.journal player) (turned ∙ one.journal) its_turn in
        let made : Act = found.0 in
        let is : Asks player made = elim found.1.why [
          | inl wanted ↦ wanted
          | inr waits_for ↦ asks_waited before.journal player waiting made found.1.room so waits_for
        ] in
        let act_is : one.entry.act ≡ made = ap (λ (e : PlainEntry). e.act) found.1.is in
        let no_leave : is_leave one.entry.act ≡ false = ap is_leave act_is ∙ asked_stays b.lines b.answers (shelf_replies_in exchanges ++ []) made is in
        record {
          entry = one.entry;
          own = one.own ∙ ap (λ (u : PlainUser). u.number) user_here;
          users = one.users;
          journal = one.journal;
          seated = sits_on exchanges user_here come_on called on;
          next = subst₂ (λ (leaves : Bool) (made : Act). IsNextOf leaves before.journal user made) (sym no_leave) (sym act_is) (asks_now made found.1.room is);
        }

    -- or it stood still
    none_on : after ≡ before → is_full before.journal ≡ false → NoneIsNext user before
    none_on same_core room =
        let held = held_by before.users before.journal player next there asks (turn before.users before.journal player) (turned ∙ ap (λ (c : PlainCore). c.journal) same_core) room its_turn in
        let number : b.user ≡ user.number = ap (λ (u : PlainUser). u.number) user_here in
        λ e own may does.
        none_next before.users before.journal user held.waited held.hold person room (ap (λ (p : ℕ). awaited before.journal p) (sym number) ∙ held.waits) (ap (λ (p : ℕ). refused before.journal p held.waited) (sym number) ∙ held.refuses) held.stuck
        (asks_now held.waited room (asks_waited before.journal player waiting held.waited room so held.waits)) e own may (is_leave e.act) refl does

  -- ---- all turns

  -- its leave
  left_so : (about_leave : IsAbout before.journal sits.sitting.exchanges intent.Leave b) → user_of b ≡ user → (made : Bool) → IsOneIf made b.user before after → after ≡ core_after before b.user act.Leave → answer ≡ None → TookTurn user before seat made after seat_then
  left_so about user_here false same_core became none = absurd (longer (entry_for before.journal b.user act.Leave) before.journal (sym (ap (λ (c : PlainCore). c.journal) became) ∙ ap (λ (c : PlainCore). c.journal) same_core))
  left_so about user_here true one became none =
      let exchanges : List Exchange = about.more ++ sits.sitting.exchanges in
      let at_end : IsAtEnd before.journal exchanges b = about.ready in
      let so = at_end.so_far [] in
      let answers : List PlainAnswer = answers_given before.journal b.user ++ map (λ (act : Act). full) so.refused in
      let here : now ≡ b = session_is ∙ ap (λ (o : Option PlainAnswer). heard_if o now b) none in
      let entry_of : one.entry ≡ entry_for before.journal b.user act.Leave = first_is one.entry (entry_for before.journal b.user act.Leave) before.journal (sym one.journal ∙ ap (λ (c : PlainCore). c.journal) became) in
      let act_is : one.entry.act ≡ act.Leave = ap (λ (e : PlainEntry). e.act) entry_of in
      let gone : has_left after.journal b.user ≡ true = has_left_now before after b.user became in
      let over : HasFinished before.journal (user_of b) = record {
        refused = so.refused;
        at_limit = so.at_limit;
        course = session_of b.lines answers (shelf_replies_in exchanges ++ []);
        alone = record {
          replies = shelf_replies_in exchanges ++ [];
          comes = refl;
          served = subst (λ (calls : List Exchange). AreServed b.user calls)
              (sym (ap (λ (list : List PlainAnswer). (session_of b.lines list (shelf_replies_in exchanges ++ [])).exchanges) (sym so.answers) ∙ at_end.calls [])) (b.shelf, about.come.served);
        };
        over = ap (λ (list : List PlainAnswer). (session_of b.lines list (shelf_replies_in exchanges ++ [])).waits) (sym so.answers) ∙ at_end.asks [];
      } in
      record {
        entry = one.entry;
        own = one.own ∙ ap (λ (u : PlainUser). u.number) user_here;
        users = one.users;
        journal = one.journal;
        seated = record {
          sitting = record { seat = seat_then; lent = empty_shelf; exchanges = exchanges };
          here = refl;
          same = ap (λ (t : PlainSession (Keeper (ℕ × List ℕ))). user_of t) here ∙ user_here;
          lent = refl;
          memory = memory;
          seated = λ still. absurd (both_ways (has_left after.journal b.user) (ap (λ (t : PlainSession (Keeper (ℕ × List ℕ))). has_left after.journal t.user) (sym here) ∙ still) gone);
          called = λ at. absurd (let no : stage.Finished ≡ stage.Waiting = sym at_end.finished ∙ (ap (λ (t : PlainSession (Keeper (ℕ × List ℕ))). t.stage) (sym here) ∙ at) in cc);
          whole = λ left. record {
            finished = ap (λ (t : PlainSession (Keeper (ℕ × List ℕ))). t.stage) here ∙ at_end.finished;
            come = had empty_shelf exchanges about.come;
            part = subst (λ (t : PlainSession (Keeper (ℕ × List ℕ))). IsUserPart after.journal (user_of t) exchanges (session_of t.lines t.answers (shelf_replies_in exchanges)).terminal.transcript) (sym here)
                (part_at_end exchanges before after b at_end became);
          };
        };
        next = subst (λ (made : Act). IsNextOf (is_leave made) before.journal user made) (sym act_is) (subst (λ (u : PlainUser). HasFinished before.journal u) user_here over);
      }

  -- an act that was made, or tried again
  went_on : (exchanges : List Exchange) (waiting : Bool) (next : Act) → user_of b ≡ user → has_left before.journal b.user ≡ false → HasCome told_by keeper_faults empty_shelf exchanges b → HasCalled exchanges b
      → IsSoFar before.journal (participant_with (shelf_replies_in exchanges ++ []) b) waiting → Asks (participant_with (shelf_replies_in exchanges ++ []) b) next → BringsOn before exchanges b after answer → GoesOn before s after now
      → (made : Bool) → IsOneIf made b.user before after → TookTurn user before seat made after seat_then
  went_on exchanges waiting next user_here there come_on called so asks on goes true one = turned_on exchanges waiting next user_here there come_on called so asks on one
  went_on exchanges waiting next user_here there come_on called so asks on goes false same_core = record {
    same = same_core;
    seated = subst (λ (c : PlainCore). IsSeatOf c.journal user seat_then) same_core (sits_on exchanges user_here come_on called on);
    none = none_on exchanges waiting next user_here there come_on called so asks on same_core;
    less = λ limit. subst (λ (c : PlainCore). work_with c.journal now < work_with before.journal s) same_core (less_at_limit before after s now stays limit goes);
  }

  pub took_turn : (about : Intent) → Finds told_by keeper_faults s about b → ((exchanges : List Exchange) → IsReady before.journal exchanges about b → Brings before exchanges b about after answer)
      → (made : Bool) → IsOneIf made b.user before after → TookTurn user before seat made after seat_then
  took_turn intent.Make finds brings made one =
      let about = about_is intent.Make finds in
      let asks = about.ready.1 in
      let exchanges : List Exchange = about.more ++ sits.sitting.exchanges in
      let further = brings exchanges about.ready in
      went_on exchanges false asks.act (user_here intent.Make finds) (there intent.Make finds) about.come about.called (asks.now.so_far []) (asks.now.asks []) further.on
      (goes_by told_by keeper_faults intent.Make before after s b now answer finds exchanges about.ready further session_is (same_now intent.Make finds)) made one
  took_turn intent.TryAgain finds brings made one =
      let about = about_is intent.TryAgain finds in
      let exchanges : List Exchange = about.more ++ sits.sitting.exchanges in
      let on = brings exchanges about.ready in
      let waiting : waits before.journal b.user ≡ true = waiting_waits (shelf_replies_in exchanges ++ []) before.journal b about.ready.0 (about.ready.1 []) in
      let asks = some_of (session_of b.lines b.answers (shelf_replies_in exchanges ++ [])).waits (waiting_asks (shelf_replies_in exchanges ++ []) before.journal b about.ready.0 (about.ready.1 []) waiting) in
      went_on exchanges (is_waiting b.stage) asks.0 (user_here intent.TryAgain finds) (there intent.TryAgain finds) about.come about.called (about.ready.1 []) asks.1 on
      (goes_by told_by keeper_faults intent.TryAgain before after s b now answer finds exchanges about.ready on session_is (same_now intent.TryAgain finds)) made one
  took_turn intent.Leave finds brings made one =
      let about = about_is intent.Leave finds in
      let gone = brings (about.more ++ sits.sitting.exchanges) about.ready in
      left_so about (user_here intent.Leave finds) made one gone.0 gone.1
