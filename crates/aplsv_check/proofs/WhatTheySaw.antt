-- What users in their seats saw, once they have left, beside what is printed of them.
use Rattle.std.proofs.Common.{◌≡◌, ℕ, ◌++◌, Bool, true, false, not, cond, List, [], ◌∷◌, map, Option, Some, None, inl, inr, IsTrue, refl, sym, ap, ◌∙◌, subst, subst₂, append-nil, arith, length}
use Rattle.std.proofs.lemmas.List.Elements.{All-from_recursion, All-head, All-tail}
use Rattle.std.proofs.lemmas.Option.{none-some}
use Rattle.std.specs.List.{All, AllByRecursion}
use Rattle.std.specs.Prelude.{MatchOption, find}
use Rattle.apl_io.specs.Kept.{Keeper}
use Rattle.apl_session.specs.PlainSession.{HasCome, PlainSession}
use Rattle.apl_session.specs.Wants.{HasHeardAll}
use Rattle.bundle_devices.proofs.OwnDevices.{keeper_faults, told_by}
use Rattle.bundle_text.specs.User.{PlainUser}
use Rattle.party_turns.specs.SoFar.{HasPart, user_of}
use Rattle.party_turns.specs.declared.seat.UserSeat.{UserSeat}
use Rattle.session_rules.specs.Session.{session_of}
use Rattle.session_rules.specs.Shelf.{Exchange, IsShelfRun, ShelfReply, shelf_replies_in}
use Rattle.session_rules.specs.UserPart.{IsUserPart}
use Rattle.sv_journal.specs.Output.{PlainTranscript}
use Rattle.sv_rules.specs.Entries.{Entries, has_left}
use Rattle.check_rules.specs.Saw.{AllSaw, DifferAt, IsFirstDifference, Saw}
use Rattle.aplsv_check.specs.Followed.{AreSeatsOf, IsSeatOf}

-- these are the lines that a session echoed and printed, once it has heard all
abbrev pub TellsLines : PlainSession (Keeper (ℕ × List ℕ)) → List (List ℕ) → Type 0
TellsLines s lines =
    HasHeardAll s.stage → (lent : Keeper (ℕ × List ℕ)) (exchanges : List Exchange) → HasCome told_by keeper_faults lent exchanges s
    → (more : List ShelfReply) → lines ≡ (session_of s.lines s.answers (shelf_replies_in exchanges ++ more)).terminal.transcript

-- a user that has left saw them
saw_so : (journal : Entries) (user : PlainUser) (seat : UserSeat (Keeper (ℕ × List ℕ))) (lines : List (List ℕ)) → IsSeatOf journal user seat → has_left journal user.number ≡ true → TellsLines seat.session lines → Saw journal user lines
saw_so journal user seat lines h left tells =
    let is : user_of h.sitting.seat.session ≡ user = ap (λ (t : UserSeat (Keeper (ℕ × List ℕ))). user_of t.session) h.here ∙ h.same in
    let number : h.sitting.seat.session.user ≡ user.number = ap (λ (u : PlainUser). u.number) is in
    let whole : HasPart told_by keeper_faults journal h.sitting = h.whole (ap (λ (p : ℕ). has_left journal p) number ∙ left) in
    let told : TellsLines h.sitting.seat.session lines = subst (λ (t : UserSeat (Keeper (ℕ × List ℕ))). TellsLines t.session lines) (sym h.here) tells in
    let heard : HasHeardAll h.sitting.seat.session.stage = subst HasHeardAll (sym whole.finished) tt in
    let are : lines ≡ (session_of h.sitting.seat.session.lines h.sitting.seat.session.answers (shelf_replies_in h.sitting.exchanges)).terminal.transcript =
    told heard h.sitting.lent h.sitting.exchanges whole.come []
    ∙ ap (λ (replies : List ShelfReply). (session_of h.sitting.seat.session.lines h.sitting.seat.session.answers replies).terminal.transcript) (append-nil (shelf_replies_in h.sitting.exchanges)) in
    record {
      exchanges = h.sitting.exchanges;
      served = (
        h.sitting.seat.session.shelf,
        subst₂ (λ (party : ℕ) (lent : Keeper (ℕ × List ℕ)). IsShelfRun told_by keeper_faults party lent h.sitting.exchanges h.sitting.seat.session.shelf) number h.lent whole.come.served,
      );
      part = subst₂ (λ (u : PlainUser) (list : List (List ℕ)). IsUserPart journal u h.sitting.exchanges list) is (sym are) whole.part;
    }

-- ---- beside what is printed

abbrev HaveLeft : Entries → List PlainUser → Type 0
HaveLeft journal users = All (λ (user : PlainUser). IsTrue (has_left journal user.number)) users

abbrev numbers : List PlainUser → List ℕ
numbers users = map (λ (user : PlainUser). user.number) users

abbrev printed_users : List PlainTranscript → List ℕ
printed_users printed = map (λ (transcript : PlainTranscript). transcript.user) printed

pub no_seats : (seats : List (UserSeat (Keeper (ℕ × List ℕ)))) → length seats ≡ 0 → seats ≡ []
no_seats [] none = refl
no_seats (seat ∷ seats) none = absurd (omega (arith, none))

pub nobody_saw : (journal : Entries) (users : List PlainUser) (printed : List PlainTranscript) → AreSeatsOf journal users [] → printed_users printed ≡ numbers users → AllSaw journal users printed
nobody_saw journal [] [] seats named = tt
nobody_saw journal [] (first ∷ printed) seats named = absurd cc
nobody_saw journal (user ∷ users) printed seats named = absurd seats

pub none_printed : (journal : Entries) (users : List PlainUser) (seat : UserSeat (Keeper (ℕ × List ℕ))) (seats : List (UserSeat (Keeper (ℕ × List ℕ)))) → AreSeatsOf journal users (seat ∷ seats) → [] ≡ numbers users → ⊥
none_printed journal [] seat seats h named = absurd h
none_printed journal (user ∷ users) seat seats h named = absurd cc

-- the first differs
pub first_differs : (journal : Entries) (users : List PlainUser) (seat : UserSeat (Keeper (ℕ × List ℕ))) (seats : List (UserSeat (Keeper (ℕ × List ℕ)))) (first : PlainTranscript) (printed : List PlainTranscript) (lines : List (List ℕ)) (line : ℕ) → AreSeatsOf journal users (seat ∷ seats) → HaveLeft journal users
    → TellsLines seat.session lines → DifferAt first.lines lines line → IsFirstDifference journal users (first ∷ printed) seat.session.user line
first_differs journal [] seat seats first printed lines line h left tells differ = absurd h
first_differs journal (user ∷ users) seat seats first printed lines line h left tells differ =
    let gone = All-head (λ (user : PlainUser). IsTrue (has_left journal user.number)) user users left in
    inl (lines, ap (λ (u : PlainUser). u.number) h.0.same, saw_so journal user seat lines h.0 gone tells, differ)

-- what is found of those behind the first
abbrev FoundOf : Entries → List PlainUser → List PlainTranscript → Option (ℕ × ℕ) → Type 0
FoundOf journal users printed found = MatchOption found (AllSaw journal users printed) (λ found. IsFirstDifference journal users printed found.0 found.1)

-- the first does not
pub others_differ : (journal : Entries) (users : List PlainUser) (seat : UserSeat (Keeper (ℕ × List ℕ))) (seats : List (UserSeat (Keeper (ℕ × List ℕ)))) (first : PlainTranscript) (printed : List PlainTranscript) (lines : List (List ℕ)) (found : Option (ℕ × ℕ)) → AreSeatsOf journal users (seat ∷ seats) → HaveLeft journal users
    → printed_users (first ∷ printed) ≡ numbers users → TellsLines seat.session lines → first.lines ≡ lines
    → ((others : List PlainUser) → AreSeatsOf journal others seats → HaveLeft journal others → printed_users printed ≡ numbers others → FoundOf journal others printed found) → FoundOf journal users (first ∷ printed) found
others_differ journal [] seat seats first printed lines found h left named tells same behind = absurd h
others_differ journal (user ∷ users) seat seats first printed lines found h left named tells same behind = by found (behind users h.1 (All-tail (λ (user : PlainUser). IsTrue (has_left journal user.number)) user users left) cc) where
  saw : Saw journal user first.lines
  saw = subst (λ (list : List (List ℕ)). Saw journal user list) (sym same) (saw_so journal user seat lines h.0 (All-head (λ (user : PlainUser). IsTrue (has_left journal user.number)) user users left) tells)

  by : (one : Option (ℕ × ℕ)) → FoundOf journal users printed one → FoundOf journal (user ∷ users) (first ∷ printed) one
  by None all = (saw, all)
  by (Some one) differs = inr (saw, differs)

-- ---- all have left

left_each : (journal : Entries) (users : List PlainUser) → find (λ user. not (has_left journal user)) (numbers users) ≡ None → AllByRecursion (λ (user : PlainUser). IsTrue (has_left journal user.number)) users
left_each journal [] none = tt
left_each journal (user ∷ users) none = by (has_left journal user.number) refl none (left_each journal users) where
  by : (left : Bool) → has_left journal user.number ≡ left → cond (not left) (Some user.number) (find (λ user. not (has_left journal user)) (numbers users)) ≡ None
      → (find (λ user. not (has_left journal user)) (numbers users) ≡ None → AllByRecursion (λ (user : PlainUser). IsTrue (has_left journal user.number)) users) → AllByRecursion (λ (user : PlainUser). IsTrue (has_left journal user.number)) (user ∷ users)
  by true gone none behind = (gone, behind none)
  by false there none behind = absurd (none-some user.number (sym none))

pub all_left : (journal : Entries) (users : List PlainUser) → find (λ user. not (has_left journal user)) (numbers users) ≡ None → HaveLeft journal users
all_left journal users none = All-from_recursion (λ (user : PlainUser). IsTrue (has_left journal user.number)) users (left_each journal users none)
