-- What the turn of a user comes to, and which act its session asks then.
use Rattle.std.proofs.Common.{◌≡◌, ◌⊎◌, ℕ, Bool, true, false, List, [], ◌∷◌, ◌++◌, length, map, Option, Some, inl, inr, refl, sym, ap, ap₂, ◌∙◌, subst, arith, append-nil}
use Rattle.std.proofs.lemmas.Bool.{both_ways}
use Rattle.std.proofs.lemmas.Option.{none-some}
use Rattle.std.specs.Prelude.{IfSome, is_some}
use Rattle.apl_io.specs.Kept.{Keeper}
use Rattle.apl_session.specs.PlainSession.{HasCome, PlainSession}
use Rattle.aux_parties.specs.Auxiliaries.{is_auxiliary}
use Rattle.bundle_devices.proofs.OwnDevices.{keeper_faults, told_by}
use Rattle.bundle_devices.specs.Devices.{empty_shelf}
use Rattle.bundle_text.specs.User.{PlainUser}
use Rattle.party_turns.specs.SoFar.{user_of}
use Rattle.replay_rules.specs.SoFar.{IsSoFar, IsWaitedFor}
use Rattle.replay_rules.specs.SoFarLaws.{Asks}
use Rattle.replay_rules.specs.Turns.{AfterTurn, Participant}
use Rattle.replay_rules.specs.UserTurnLaws.{HearsAgain, IsUserTurn, MakesAct, finds_no_room, gives_up, goes_through, has_gone, has_no_room, has_to_wait, is_answered, is_still_held, leaves, makes, tries}
use Rattle.session_rules.specs.Session.{session_of}
use Rattle.session_rules.specs.Shelf.{Exchange, shelf_replies_in}
use Rattle.sv_events.specs.Answer.{PlainAnswer, full}
use Rattle.sv_events.specs.Entry.{PlainEntry}
use Rattle.sv_events.specs.declared.event.Act.{Act}
use Rattle.sv_events.specs.declared.event.Hold.{Hold}
use Rattle.sv_rules.specs.Entries.{Entries, has_left, is_abandoned, is_full, is_leave, kind_of}
use Rattle.sv_rules.specs.Legal.{IsStuckIf, MayFollow, entry_for}
use Rattle.sv_rules.specs.Outcome.{outcome}
use Rattle.sv_rules.specs.Refused.{awaited, refused, waits}
use Rattle.sv_rules.specs.Work.{is_stuck}
use Rattle.sv_story_laws.proofs.AnswerLemmas.{Answered, answered, given_up, held_first, unrefused}
use Rattle.check_rules.specs.Alone.{AreServed, AsksNext, answers_given}
use Rattle.check_rules.specs.Fits.{IsNextOf}
use Rattle.aplsv_check.specs.Followed.{HasCalled}
use Rattle.check_rules.proofs.OneCourse.{none_refused, over_asks_none}
use Rattle.check_rules.proofs.OwnEntries.{due_of, waited_act}

-- ---- what a session asks

-- a session of these replies alone asks the act that it waits for
pub asks_next : (journal : Entries) (exchanges : List Exchange) (s : PlainSession (Keeper (ℕ × List ℕ))) (made : Act) → HasCome told_by keeper_faults empty_shelf exchanges s → HasCalled exchanges s → s.answers ≡ answers_given journal s.user
    → (session_of s.lines s.answers (shelf_replies_in exchanges ++ [])).waits ≡ Some made → AsksNext journal (user_of s) made
asks_next journal exchanges s made come called given asks = record {
  course = session_of s.lines (answers_given journal s.user) (shelf_replies_in exchanges ++ []);
  alone = record {
    replies = shelf_replies_in exchanges ++ [];
    comes = refl;
    served = subst (λ (calls : List Exchange). AreServed s.user calls) (sym (ap (λ (answers : List PlainAnswer). (session_of s.lines answers (shelf_replies_in exchanges ++ [])).exchanges) (sym given) ∙ called [])) (s.shelf, come.served);
  };
  asks = ap (λ (answers : List PlainAnswer). (session_of s.lines answers (shelf_replies_in exchanges ++ [])).waits) (sym given) ∙ asks;
}

-- in a journal with room its answers are those of its entries
pub given_all : (journal : Entries) (user : Participant) (waiting : Bool) → is_full journal ≡ false → IsSoFar journal user waiting → user.answers ≡ answers_given journal user.number
given_all journal user waiting room so =
    so.answers ∙ (ap (λ (list : List Act). answers_given journal user.number ++ map (λ act. full) list) (none_refused so.refused journal room so.at_limit) ∙ append-nil (answers_given journal user.number))

-- and the act that it waits for is the one that its session asks
pub asks_waited : (journal : Entries) (user : Participant) (waiting : Bool) (waited : Act) → is_full journal ≡ false → IsSoFar journal user waiting → awaited journal user.number ≡ Some waited → Asks user waited
asks_waited journal user waiting waited room so is =
    let first : IsWaitedFor user waiting so.refused waited = subst (λ (o : Option Act). IfSome o (IsWaitedFor user waiting so.refused)) is so.waited in
    let here : IsWaitedFor user waiting [] waited = subst (λ (list : List Act). IsWaitedFor user waiting list waited) (none_refused so.refused journal room so.at_limit) first in
    here.1

-- ---- by what its turn comes to

pub longer : (e : PlainEntry) (journal : Entries) → e ∷ journal ≡ journal → ⊥
longer e journal same = omega (arith, ap length same)

-- a turn that makes an entry made one that the session asks, in a journal with room
pub record Made (journal : Entries) (user : Participant) (made : Act) (entry : PlainEntry) : Type 0 where
  pub is : entry ≡ entry_for journal user.number made
  pub room : is_full journal ≡ false
  pub why : Asks user made ⊎ (awaited journal user.number ≡ Some made)

pub first_is : (e d : PlainEntry) (journal : Entries) → e ∷ journal ≡ d ∷ journal → e ≡ d
first_is e d journal same = cc

module _ (numbers : List ℕ) (journal : Entries) (user : Participant) (next : Act) (present : has_left journal user.number ≡ false) (asks : Asks user next) where
  pub made_by : (entry : PlainEntry) (t : AfterTurn) → t.journal ≡ entry ∷ journal → IsUserTurn numbers journal user t → (made : Act) × Made journal user made entry
  made_by entry t is (has_gone left same) = absurd (both_ways (has_left journal user.number) present left)
  made_by entry t is (leaves there none same) = absurd (none-some next (sym none ∙ asks))
  made_by entry t is (makes made there asked free act) = (made, made_so act) where
    so : (room : is_full journal ≡ false) → t.journal ≡ entry_for journal user.number made ∷ journal → Made journal user made entry
    so room same = record { is = first_is entry (entry_for journal user.number made) journal (sym is ∙ same); room = room; why = inl asked }

    made_so : MakesAct journal user made t → Made journal user made entry
    made_so (finds_no_room limit same) = absurd (longer entry journal (sym is ∙ ap (λ (a : AfterTurn). a.journal) same))
    made_so (has_to_wait hold room refuses answer same) = so room (ap (λ (a : AfterTurn). a.journal) same)
    made_so (is_answered room refuses same) = so room (ap (λ (a : AfterTurn). a.journal) same)
  made_by entry t is (tries other waited there asked waits again) = (waited, made_again again) where
    so : (room : is_full journal ≡ false) → t.journal ≡ entry_for journal user.number waited ∷ journal → Made journal user waited entry
    so room same = record { is = first_is entry (entry_for journal user.number waited) journal (sym is ∙ same); room = room; why = inr waits }

    made_again : HearsAgain numbers journal user waited t → Made journal user waited entry
    made_again (has_no_room limit same) = absurd (longer entry journal (sym is ∙ ap (λ (a : AfterTurn). a.journal) same))
    made_again (is_still_held hold room refuses stuck same) = absurd (longer entry journal (sym is ∙ ap (λ (a : AfterTurn). a.journal) same))
    made_again (gives_up hold room refuses stuck answer same) = so room (ap (λ (a : AfterTurn). a.journal) same)
    made_again (goes_through room refuses same) = so room (ap (λ (a : AfterTurn). a.journal) same)

  -- one that makes none, in a journal with room, is held still
  pub record Held : Type 0 where
    pub waited : Act
    pub waits : awaited journal user.number ≡ Some waited
    pub hold : Hold
    pub refuses : refused journal user.number waited ≡ Some hold
    pub stuck : is_stuck numbers journal ≡ false

  pub held_by : (t : AfterTurn) → t.journal ≡ journal → is_full journal ≡ false → IsUserTurn numbers journal user t → Held
  held_by t is room (has_gone left same) = absurd (both_ways (has_left journal user.number) present left)
  held_by t is room (leaves there none same) = absurd (none-some next (sym none ∙ asks))
  held_by t is room (makes made there asked free act) = absurd (none_made act) where
    none_made : MakesAct journal user made t → ⊥
    none_made (finds_no_room limit same) = both_ways (is_full journal) room limit
    none_made (has_to_wait hold there refuses answer same) = longer (entry_for journal user.number made) journal (sym (ap (λ (a : AfterTurn). a.journal) same) ∙ is)
    none_made (is_answered there refuses same) = longer (entry_for journal user.number made) journal (sym (ap (λ (a : AfterTurn). a.journal) same) ∙ is)
  held_by t is room (tries other waited there asked waits again) = held_again again where
    held_again : HearsAgain numbers journal user waited t → Held
    held_again (has_no_room limit same) = absurd (both_ways (is_full journal) room limit)
    held_again (is_still_held hold there refuses stuck same) = record { waited = waited; waits = waits; hold = hold; refuses = refuses; stuck = stuck }
    held_again (gives_up hold there refuses stuck answer same) = absurd (longer (entry_for journal user.number waited) journal (sym (ap (λ (a : AfterTurn). a.journal) same) ∙ is))
    held_again (goes_through there refuses same) = absurd (longer (entry_for journal user.number waited) journal (sym (ap (λ (a : AfterTurn). a.journal) same) ∙ is))

-- ---- none is next of a user that is held

-- an act that is waited for and refused is given up
gives_up_so : (journal : Entries) (party : ℕ) (waited : Act) (hold : Hold) → awaited journal party ≡ Some waited → refused journal party waited ≡ Some hold → is_abandoned (kind_of (outcome journal party waited).answer) ≡ true
gives_up_so journal party waited hold waits_for refuses = by (answered journal party waited) where
  by : Answered (refused journal party waited) (waits journal party) (outcome journal party waited).answer → is_abandoned (kind_of (outcome journal party waited).answer) ≡ true
  by (unrefused none plain) = absurd (none-some hold (sym none ∙ refuses))
  by (held_first other refused_by free same) = absurd (both_ways (waits journal party) free (ap (λ (o : Option Act). is_some o) waits_for))
  by (given_up other refused_by still same) = ap (λ (answer : PlainAnswer). is_abandoned (kind_of answer)) same

pub none_next : (numbers : List ℕ) (journal : Entries) (user : PlainUser) (waited : Act) (hold : Hold) → is_auxiliary user.number ≡ false → is_full journal ≡ false → awaited journal user.number ≡ Some waited → refused journal user.number waited ≡ Some hold
    → is_stuck numbers journal ≡ false → AsksNext journal user waited → (e : PlainEntry) → e.party ≡ user.number → MayFollow numbers journal e → (goes : Bool) → is_leave e.act ≡ goes → IsNextOf goes journal user e.act → ⊥
none_next numbers journal user waited hold person room waits_for refuses stuck asks e own may true goes over = over_asks_none journal user waited room over asks
none_next numbers journal user waited hold person room waits_for refuses stuck asks e own may false stays next =
    let same : waited ≡ e.act = waited_act (is_leave e.act) waited e.act (due_of numbers user.number person journal e waited may own waits_for) stays in
    let answer : (outcome journal user.number waited).answer ≡ e.answer = ap₂ (λ (party : ℕ) (made : Act). (outcome journal party made).answer) (sym own) same ∙ sym may.answer in
    let abandons : is_abandoned (kind_of e.answer) ≡ true = sym (ap (λ (a : PlainAnswer). is_abandoned (kind_of a)) answer) ∙ gives_up_so journal user.number waited hold waits_for refuses in
    both_ways (is_stuck numbers journal) stuck (subst (λ (b : Bool). IsStuckIf b numbers journal) abandons may.given_up)
