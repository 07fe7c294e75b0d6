-- A user's turn, from where it sat to where it sits.
use Rattle.std.proofs.Common.{◌≡◌, ◌≢◌, ℕ, ◌++◌, ◌∷◌, inl, true, false, List, [], Option, None, Some, refl, sym, ap, ◌∙◌, subst, subst₂, append-nil, append_assoc}
use Rattle.std.proofs.lemmas.Bool.{both_ways}
use Rattle.apl_io.specs.Content.{Told}
use Rattle.sv_events.specs.Answer.{PlainAnswer}
use Rattle.sv_events.specs.declared.event.Act.{Act}
use Rattle.sv_events.specs.declared.event.Act.TheVariants.{Leave}
use Rattle.sv_rules.specs.Entries.{Entries, has_left}
use Rattle.sv_rules.specs.Legal.{entry_for}
use Rattle.sv_rules.specs.Refused.{waits}
use Rattle.sv_core.specs.Core.{PlainCore, core_after}
use Rattle.session_rules.specs.Session.{session_of}
use Rattle.session_rules.specs.Shelf.{Exchange, ShelfReply, shelf_replies_in}
use Rattle.session_rules.specs.UserPart.{IsUserPart}
use Rattle.session_rules.proofs.Shelves.{replies_behind}
use Rattle.replay_rules.specs.SoFar.{IsSoFar}
use Rattle.replay_rules.specs.Turns.{Participant, AfterTurn, turn}
use Rattle.replay_rules.proofs.SoFar.{left_on}
use Rattle.apl_session.specs.PlainSession.{GoesTo, HasCome, PlainSession, asked}
use Rattle.apl_session.specs.declared.session.SessionStage.{SessionStage}
use Rattle.apl_session.specs.declared.session.SessionStage.TheVariants as stage
use Rattle.party_turns.specs.Participants.{participant_with}
use Rattle.party_turns.specs.SoFar.{AsksNow, HasHeard, HasTurned, IsOneSeated, SittingIsPresent, IsSameUser, IsSessionSoFar, IsTurn, IsUserSoFar, TakesTurn, TriesAgain, echoed_and_printed, is_waiting, user_of}
use Rattle.party_turns.specs.Sittings.{ExchangesFollow, Sitting}
use Rattle.party_turns.specs.declared.seat.UserSeat.{UserSeat}
use Rattle.party_turns.proofs.Hearing.{IsTurnAt, waiting_asks, waiting_waits}
use Rattle.party_turns.proofs.Leaving.{has_left_now, leaving_turn}
use Rattle.party_turns.proofs.Sits.{sits_as}

-- the replies of all exchanges are those of the earlier ones, and then others
pub ends_as : (earlier final : List Exchange) → (f : ExchangesFollow earlier final) → shelf_replies_in final ≡ shelf_replies_in earlier ++ shelf_replies_in f.more
ends_as earlier final f = ap shelf_replies_in f.is ∙ replies_behind f.more earlier

-- what goes on with whatever replies follow some exchanges does so in whatever dealings a user ends
pub turn_of_all : {K : Type 0} (before after : PlainCore) (s : PlainSession K) (now : Sitting K) → IsSameUser s now.seat.session → ((more : List ShelfReply) → IsTurnAt (shelf_replies_in now.exchanges ++ more) before s after now.seat.session) → IsTurn before s after now
turn_of_all {K = K} before after s now same turned final ends =
    let all : List ShelfReply = shelf_replies_in now.exchanges ++ shelf_replies_in ends.more in
    let there : shelf_replies_in (final now.seat.session.user) ≡ all = ends_as now.exchanges (final now.seat.session.user) ends in
    let here : shelf_replies_in (final s.user) ≡ all = ap (λ (u : ℕ). shelf_replies_in (final u)) (sym (ap (λ (t : PlainSession K). t.user) same)) ∙ there in
    subst₂ (λ (r q : List ShelfReply). turn before.users before.journal (participant_with r s) ≡ (let t : AfterTurn = record { journal = after.journal; user = participant_with q now.seat.session } in t)) (sym here) (sym there) (turned (shelf_replies_in ends.more))

-- the same user with the same answers
same_person : {K : Type 0} (replies : List ShelfReply) (s now : PlainSession K) → IsSameUser s now → now.answers ≡ s.answers → participant_with replies now ≡ participant_with replies s
same_person {K = K} replies s now same answers =
    ap (λ (t : PlainSession K). participant_with replies t) same ∙ ap (λ (given : List PlainAnswer). let p : Participant = record { number = s.user; lines = s.lines; replies = replies; answers = given } in p) answers

module _ {K : Type 0} (told : K → Option (Told (ℕ × List ℕ))) (faults : K → ℕ) where
  -- a user that has not left sits somewhere, and is so far
  pub present_at : (journal : Entries) (seat : UserSeat K) → IsOneSeated told faults journal seat → has_left journal seat.session.user ≡ false → (lent : K) × (exchanges : List Exchange) × HasCome told faults lent exchanges seat.session × IsSessionSoFar journal exchanges seat.session
  present_at journal seat h stays =
      let here = h.seated (ap (λ (s : UserSeat K). has_left journal s.session.user) h.here ∙ stays) in (
        h.sitting.lent,
        h.sitting.exchanges,
        subst (λ (s : UserSeat K). HasCome told faults h.sitting.lent h.sitting.exchanges s.session) h.here here.come,
        subst (λ (s : UserSeat K). IsSessionSoFar journal h.sitting.exchanges s.session) h.here here.so_far,
      )

  -- it tries again the act that its session waits with
  pub may_try : (journal : Entries) (exchanges : List Exchange) (s : PlainSession K) → s.stage ≡ stage.Waiting → IsSessionSoFar journal exchanges s → (waits journal s.user ≡ true) × TriesAgain journal exchanges s
  may_try journal exchanges s at so =
      let waiting = waiting_waits (shelf_replies_in exchanges ++ []) journal s at (so []) in
      (waiting, record { asks = λ more. waiting_asks (shelf_replies_in exchanges ++ more) journal s at (so more) waiting; retried = inl so })

  -- a user that goes on to an act, or to its leave, is so far but for it
  pub so_far_on : (journal : Entries) (exchanges more : List Exchange) (s now : PlainSession K) → is_waiting s.stage ≡ false → IsSameUser s now → now.answers ≡ s.answers → IsSessionSoFar journal exchanges s → IsUserSoFar journal (more ++ exchanges) false now
  so_far_on journal exchanges more s now ready same answers so rest =
      let replies : shelf_replies_in (more ++ exchanges) ++ rest ≡ shelf_replies_in exchanges ++ (shelf_replies_in more ++ rest) = ap (λ (r : List ShelfReply). r ++ rest) (replies_behind more exchanges) ∙ append_assoc (shelf_replies_in exchanges) (shelf_replies_in more) rest in
      let user : participant_with (shelf_replies_in (more ++ exchanges) ++ rest) now ≡ participant_with (shelf_replies_in exchanges ++ (shelf_replies_in more ++ rest)) s =
      same_person (shelf_replies_in (more ++ exchanges) ++ rest) s now same answers ∙ ap (λ (r : List ShelfReply). participant_with r s) replies in
      subst (λ (p : Participant). IsSoFar journal p false) (sym user) (subst (λ w. IsSoFar journal (participant_with (shelf_replies_in exchanges ++ (shelf_replies_in more ++ rest)) s) w) ready (so (shelf_replies_in more ++ rest)))

  pub asks_on : (journal : Entries) (lent : K) (exchanges : List Exchange) (s now : PlainSession K) (act : Act) → asked now ≡ Some act → is_waiting s.stage ≡ false → IsSameUser s now → now.answers ≡ s.answers → IsSessionSoFar journal exchanges s
      → (goes : GoesTo told faults lent exchanges now) → AsksNow journal (goes.more ++ exchanges) act now
  asks_on journal lent exchanges s now act own ready same answers so goes = record { asks = λ rest. sym (goes.waits rest) ∙ own; so_far = so_far_on journal exchanges goes.more s now ready same answers so }

  -- a user that sat somewhere has heard an answer
  pub turned_by : (before after : PlainCore) (sitting : Sitting K) (seat : UserSeat K) (more : List Exchange) → seat.is_lost ≡ false → IsSameUser sitting.seat.session seat.session → HasCome told faults sitting.lent (more ++ sitting.exchanges) seat.session → has_left after.journal sitting.seat.session.user ≡ false
      → IsSessionSoFar after.journal (more ++ sitting.exchanges) seat.session → ((rest : List ShelfReply) → IsTurnAt (shelf_replies_in (more ++ sitting.exchanges) ++ rest) before sitting.seat.session after seat.session)
      → (now : Sitting K) × (now.seat ≡ seat) × HasTurned told faults before sitting after now
  turned_by before after sitting seat more present same come stays so turned =
      let now : Sitting K = record { seat = seat; lent = sitting.lent; exchanges = more ++ sitting.exchanges } in
      let user : seat.session.user ≡ sitting.seat.session.user = ap (λ (t : PlainSession K). t.user) same in (
        now,
        refl,
        record {
          same = record { user = same; lent = refl; follow = record { more = more; is = refl } };
          seated = λ here. record { here = present; come = come; so_far = so };
          whole = λ left. absurd (both_ways (has_left after.journal sitting.seat.session.user) stays (sym (ap (λ (u : ℕ). has_left after.journal u) user) ∙ left));
          turn = turn_of_all before after sitting.seat.session now same turned;
        },
      )

  -- or it has left where its lines were done
  pub turned_away : (before after : PlainCore) (sitting : Sitting K) (seat : UserSeat K) (goes : GoesTo told faults sitting.lent sitting.exchanges seat.session) → asked seat.session ≡ None → IsSameUser sitting.seat.session seat.session → seat.session.answers ≡ sitting.seat.session.answers
      → seat.session.stage ≡ stage.Finished → is_waiting sitting.seat.session.stage ≡ false → has_left before.journal sitting.seat.session.user ≡ false → IsSessionSoFar before.journal sitting.exchanges sitting.seat.session → after ≡ core_after before sitting.seat.session.user Leave
      → (now : Sitting K) × (now.seat ≡ seat) × HasTurned told faults before sitting after now
  turned_away before after sitting seat goes none same answers over ready stays so became =
      let s : PlainSession K = sitting.seat.session in
      let t : PlainSession K = seat.session in
      let all : List Exchange = goes.more ++ sitting.exchanges in
      let now : Sitting K = record { seat = seat; lent = sitting.lent; exchanges = all } in
      let user : t.user ≡ s.user = ap (λ (u : PlainSession K). u.user) same in
      let left : has_left after.journal t.user ≡ true = ap (λ (u : ℕ). has_left after.journal u) user ∙ has_left_now before after s.user became in
      let far : IsUserSoFar before.journal all false t = so_far_on before.journal sitting.exchanges goes.more s t ready same answers so in
      let waits_none : (rest : List ShelfReply) → (session_of t.lines t.answers (shelf_replies_in all ++ rest)).waits ≡ None = λ rest. sym (goes.waits rest) ∙ none in
      let part : IsUserPart (entry_for before.journal t.user Leave ∷ before.journal) (user_of t) all (session_of t.lines t.answers (shelf_replies_in all ++ [])).terminal.transcript =
      left_on before.journal (participant_with (shelf_replies_in all ++ []) t) false all (entry_for before.journal t.user Leave) (far []) refl refl (waits_none []) (append-nil (shelf_replies_in all)) (goes.calls []) in
      let here : IsUserPart after.journal (user_of t) all (echoed_and_printed all t) =
      subst₂ (λ (j : Entries) (r : List ShelfReply). IsUserPart j (user_of t) all (session_of t.lines t.answers r).terminal.transcript)
      (sym (ap (λ (c : PlainCore). c.journal) became ∙ ap (λ (u : ℕ). entry_for before.journal u Leave ∷ before.journal) (sym user))) (append-nil (shelf_replies_in all)) part in (
        now,
        refl,
        record {
          same = record { user = same; lent = refl; follow = record { more = goes.more; is = refl } };
          seated = λ here. absurd (both_ways (has_left after.journal t.user) here left);
          whole = λ gone. record { finished = over; come = goes.come; part = here };
          turn = turn_of_all before after s now same (λ rest.
              let person : participant_with (shelf_replies_in all ++ rest) t ≡ participant_with (shelf_replies_in all ++ rest) s = same_person (shelf_replies_in all ++ rest) s t same answers in
              leaving_turn (shelf_replies_in all ++ rest) before after s t stays (ap (λ (p : Participant). (session_of p.lines p.answers p.replies).waits) (sym person) ∙ waits_none rest) became person);
        },
      )

module _ {K : Type 0} (told : K → Option (Told (ℕ × List ℕ))) (faults : K → ℕ) (before after : PlainCore) (seat seat_then : UserSeat K) (stays : has_left before.journal seat.session.user ≡ false) (lost : seat_then.is_lost ≡ seat.is_lost) (same : IsSameUser seat.session seat_then.session) where
  -- a turn from where a seat is, wherever it sat
  from_seat : ((lent : K) (exchanges : List Exchange) → (let s : Sitting K = record { seat = seat; lent = lent; exchanges = exchanges } in SittingIsPresent told faults before.journal s → (now : Sitting K) × (now.seat ≡ seat_then) × HasTurned told faults before s after now))
      → TakesTurn told faults before seat after seat_then
  from_seat turned sitting here present =
      let there = sits_as sitting seat here in
      subst (λ (s : Sitting K). (now : Sitting K) × (now.seat ≡ seat_then) × HasTurned told faults before s after now) there
      (turned sitting.lent sitting.exchanges (subst (λ (s : Sitting K). SittingIsPresent told faults before.journal s) (sym there) present))

  -- an act was tried again
  pub turned_again : seat.session.stage ≡ stage.Waiting → has_left after.journal seat.session.user ≡ false
      → ((lent : K) (exchanges : List Exchange) → HasCome told faults lent exchanges seat.session → IsSessionSoFar before.journal exchanges seat.session → HasHeard told faults lent exchanges before seat.session after seat_then.session)
      → TakesTurn told faults before seat after seat_then
  turned_again at present heard = from_seat (λ lent exchanges p.
      let h = heard lent exchanges p.come p.so_far in
      turned_by told faults before after (record { seat = seat; lent = lent; exchanges = exchanges }) seat_then [] (lost ∙ p.here) same h.come present h.so_far h.turn)

  -- a session went on to an act, which was made
  pub turned_on : (between : PlainSession K) (act : Act) → asked between ≡ Some act → is_waiting seat.session.stage ≡ false → IsSameUser seat.session between → between.answers ≡ seat.session.answers → has_left after.journal seat.session.user ≡ false
      → ((lent : K) (exchanges : List Exchange) → HasCome told faults lent exchanges seat.session → GoesTo told faults lent exchanges between)
      → ((lent : K) (exchanges : List Exchange) → HasCome told faults lent exchanges between → AsksNow before.journal exchanges act between → HasHeard told faults lent exchanges before between after seat_then.session)
      → TakesTurn told faults before seat after seat_then
  turned_on between act own ready on answers present goes heard = from_seat (λ lent exchanges p.
      let g = goes lent exchanges p.come in
      let h = heard lent (g.more ++ exchanges) g.come (asks_on told faults before.journal lent exchanges seat.session between act own ready on answers p.so_far g) in
      turned_by told faults before after (record { seat = seat; lent = lent; exchanges = exchanges }) seat_then g.more (lost ∙ p.here) same h.come present h.so_far (λ rest.
      ap (λ (user : Participant). turn before.users before.journal user) (sym (same_person (shelf_replies_in (g.more ++ exchanges) ++ rest) seat.session between on answers)) ∙ h.turn rest))

  -- or to the end of its lines, and left
  pub turned_off : asked seat_then.session ≡ None → is_waiting seat.session.stage ≡ false → seat_then.session.answers ≡ seat.session.answers → seat_then.session.stage ≡ stage.Finished → after ≡ core_after before seat.session.user Leave
      → ((lent : K) (exchanges : List Exchange) → HasCome told faults lent exchanges seat.session → GoesTo told faults lent exchanges seat_then.session)
      → TakesTurn told faults before seat after seat_then
  turned_off none ready answers over became goes = from_seat (λ lent exchanges p.
      turned_away told faults before after (record { seat = seat; lent = lent; exchanges = exchanges }) seat_then (goes lent exchanges p.come) none same answers over ready stays p.so_far became)

-- a session that went on is the same user's
pub same_by_next : {K : Type 0} (s now : PlainSession K) → now ≡ record s { stage = now.stage; shelf = now.shelf; inside = now.inside } → IsSameUser s now
same_by_next {K = K} s now same = subst (λ (t : PlainSession K). IsSameUser s t) (sym same) refl

pub same_on : {K : Type 0} (s between now : PlainSession K) → IsSameUser s between → IsSameUser between now → IsSameUser s now
same_on {K = K} s between now a b = b ∙ ap (λ (t : PlainSession K). let u : PlainSession K = record t { acts = now.acts; answers = now.answers; stage = now.stage; shelf = now.shelf; inside = now.inside } in u) a

-- a session that waits for no answer
pub not_waiting : (at : SessionStage) → at ≢ stage.Waiting → is_waiting at ≡ false
not_waiting stage.Ready free = refl
not_waiting stage.Waiting free = absurd (free refl)
not_waiting stage.Finished free = refl
not_waiting stage.Failed free = refl
