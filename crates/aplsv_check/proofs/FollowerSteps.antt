-- A run that is followed goes on by an entry that fits, or no entry of the party fits.
use Rattle.std.proofs.Common.{◌≡◌, ◌≢◌, ℕ, ◌&&◌, Bool, true, false, not, List, [], ◌∷◌, ◌++◌, length, take, Some, Result, IsTrue, refl, sym, ap, ◌∙◌, subst}
use Rattle.std.proofs.lemmas.Bool.{false≢true}
use Rattle.std.proofs.lemmas.List.Elements.{All-from_recursion, recursion_from_All}
use Rattle.std.proofs.lemmas.Option.{none-some, same_Some}
use Rattle.std.proofs.Math.Seq.{take-append_seam}
use Rattle.std.specs.List.{All, AllByRecursion}
use Rattle.std.specs.Prelude.{IfOk}
use Rattle.apl_arrays.specs.Ascending.{AscendBy}
use Rattle.apl_arrays.specs.List.{first_of}
use Rattle.apl_io.specs.Kept.{Keeper, Timer}
use Rattle.aux_parties.specs.Auxiliaries.{is_auxiliary, party_of}
use Rattle.aux_parties.specs.declared.auxiliary.AuxiliaryKind.{AuxiliaryKind}
use Rattle.aux_parties.specs.declared.auxiliary.AuxiliaryKind.TheVariants.{Clock, TextFiles}
use Rattle.auxiliaries.specs.Run.{IsReplierRun}
use Rattle.auxiliaries.specs.Served.{Served}
use Rattle.bundle_devices.proofs.Files.{OneText}
use Rattle.bundle_text.specs.Rules.{IsUser, PlainBundle}
use Rattle.bundle_text.specs.User.{PlainUser}
use Rattle.party_turns.specs.SoFar.{HasAnswered}
use Rattle.party_turns.specs.declared.auxiliary.Auxiliary.{Auxiliary}
use Rattle.party_turns.specs.declared.seat.UserSeat.{UserSeat}
use Rattle.session_rules.proofs.Parties.{other_is_no_event}
use Rattle.session_rules.specs.Auxiliaries.{events_of, some_stay}
use Rattle.session_rules.specs.Behind.{Behind}
use Rattle.session_rules.specs.Run.{user_numbers}
use Rattle.sv_core.specs.Core.{PlainCore}
use Rattle.sv_events.specs.Entry.{PlainEntry}
use Rattle.sv_events.specs.Row.{act_row}
use Rattle.sv_events.specs.declared.work.Work.{Work}
use Rattle.sv_events.specs.declared.work.Work.TheVariants.{Idle}
use Rattle.sv_rules.specs.Entries.{Entries, is_leave, next_place}
use Rattle.sv_rules.specs.Legal.{IsLegal, MayFollow, act_for, is_user}
use Rattle.sv_rules.specs.Work.{work_of}
use Rattle.check_rules.specs.Fits.{EntriesFit, EntryFits, HasReplied, IsNextOf, begins, forgets, replies}
use Rattle.check_rules.proofs.OneEntry.{both_of, due_act, one_fit, user_alone}
use Rattle.check_rules.proofs.RunFits.{no_auxiliaries}
use Rattle.aplsv_check.specs.Followed.{AreSeatsOf, Follows, HasServed, IsAuxiliaryOf, IsFollowed, MadeIf, MadeNext, NoneFits, NoneIsNext, UsersTurned}
use Rattle.aplsv_check.specs.declared.follower.Follower.{Follower}
use Rattle.aplsv_check.proofs.SeatLists.{as_many, ok_more, seats_kept}

-- ---- an entry that was made

entry_fits : (bundle : PlainBundle) (party : ℕ) (before after : Follower) → IsFollowed bundle before → IsTrue (some_stay (user_numbers bundle) before.core.journal) → (made : MadeNext bundle party before after) → IsLegal after.core.users after.core.journal
    → EntryFits bundle before.core.journal made.entry
entry_fits bundle party before after h stay made legal =
    let whole : IsLegal (user_numbers bundle) (made.entry ∷ before.core.journal) = subst (λ (j : Entries). IsLegal (user_numbers bundle) j) made.journal (subst (λ (users : List ℕ). IsLegal users after.core.journal) (made.users ∙ h.users) legal) in
    record {
      legal = whole.0;
      among = stay;
      next = subst (λ (p : ℕ). All (λ (user : PlainUser). user.number ≡ p → IsNextOf (is_leave made.entry.act) before.core.journal user made.entry.act) bundle.users) (sym made.own) made.next;
      replied = λ kind own. subst (λ (j : Entries). HasReplied bundle kind j) made.journal (made.replied kind (own ∙ made.own));
    }

-- fits, and the run was followed by it
followed_on : (bundle : PlainBundle) (party : ℕ) (before after : Follower) → IsFollowed bundle before → IsTrue (some_stay (user_numbers bundle) before.core.journal) → MadeNext bundle party before after → IsLegal after.core.users after.core.journal → IsFollowed bundle after
followed_on bundle party before after h stay made legal = record {
  rules = h.rules;
  users = made.users ∙ h.users;
  seats = made.seats;
  ten = made.ten;
  twenty = made.twenty;
  fit = subst (λ (j : Entries). EntriesFit bundle j) (sym made.journal) (entry_fits bundle party before after h stay made legal, h.fit);
}

-- so an entry is followed, or it does not fit
pub follows : OneText → (bundle : PlainBundle) (before after : Follower) (e : PlainEntry) (made newest : Bool) → IsFollowed bundle before → IsTrue (some_stay (user_numbers bundle) before.core.journal) → MadeIf bundle e.party before made after → IsLegal after.core.users after.core.journal
    → (newest ≡ true → first_of after.core.journal ≡ Some e) → (first_of after.core.journal ≡ Some e → newest ≡ true) → Follows bundle before e (made && newest) after
follows one_text bundle before after e false newest h stay none legal so also = λ fits. none e refl fits
follows one_text bundle before after e true true h stay made legal so also =
    let same : made.entry ≡ e = same_Some made.entry e (sym (ap (λ (j : Entries). first_of j) made.journal) ∙ so refl) in
    (followed_on bundle e.party before after h stay made legal, made.journal ∙ ap (λ (x : PlainEntry). x ∷ before.core.journal) same)
follows one_text bundle before after e true false h stay made legal so also = λ fits.
    let same : made.entry ≡ e = one_fit one_text bundle before.core.journal made.entry e (entry_fits bundle e.party before after h stay made legal) fits made.own in
    false≢true (also (ap (λ (j : Entries). first_of j) made.journal ∙ ap (λ (x : PlainEntry). Some x) same))

-- where all have left none fits
pub none_behind : (bundle : PlainBundle) (before after : Follower) (e : PlainEntry) → some_stay (user_numbers bundle) before.core.journal ≡ false → Follows bundle before e false after
none_behind bundle before after e gone = λ fits. false≢true (sym gone ∙ fits.among)

-- ---- what others keep

auxiliary_kept : (bundle : PlainBundle) (kind : AuxiliaryKind) (journal after : Entries) (e : PlainEntry) (aux : Auxiliary (Behind Timer (Served (Keeper (List ℕ))) kind)) → after ≡ e ∷ journal → e.party ≢ party_of kind → IsAuxiliaryOf bundle kind journal aux
    → IsAuxiliaryOf bundle kind after aux
auxiliary_kept bundle kind journal after e aux is other h =
    let events = other_is_no_event e journal aux.party (λ same. other (same ∙ h.number)) in
    record {
      number = h.number;
      memory = h.memory;
      answered = subst (λ (j : Entries). HasAnswered (forgets kind) (replies kind) (begins bundle kind) j aux) (sym is) (subst (λ (list : _). IsReplierRun (forgets kind) (replies kind) (begins bundle kind) list aux.replier) (sym events) h.answered);
    }

-- the replies of an auxiliary
replied_of : (bundle : PlainBundle) (kind : AuxiliaryKind) (journal : Entries) (aux : Auxiliary (Behind Timer (Served (Keeper (List ℕ))) kind)) → IsAuxiliaryOf bundle kind journal aux → HasReplied bundle kind journal
replied_of bundle kind journal aux h = record { now = aux.replier; run = subst (λ (party : ℕ). IsReplierRun (forgets kind) (replies kind) (begins bundle kind) (events_of journal party) aux.replier) h.number h.answered }

is_auxiliary_kind : (kind : AuxiliaryKind) → is_auxiliary (party_of kind) ≡ true
is_auxiliary_kind Clock = refl
is_auxiliary_kind TextFiles = refl

no_kind : (kind : AuxiliaryKind) (party : ℕ) → is_auxiliary party ≡ false → party ≢ party_of kind
no_kind kind party person same = false≢true (sym person ∙ (ap is_auxiliary same ∙ is_auxiliary_kind kind))

-- ---- the turns of a user

pub users_made : (bundle : PlainBundle) (party : ℕ) (before after : Follower) (made : Bool) (seats : List (UserSeat (Keeper (ℕ × List ℕ)))) → IsFollowed bundle before → is_auxiliary party ≡ false → after.ten ≡ before.ten → after.twenty ≡ before.twenty
    → (made ≡ true → AreSeatsOf after.core.journal bundle.users seats → after.seats.items ≡ seats) → UsersTurned party bundle.users before.core made after.core seats → MadeIf bundle party before made after
users_made bundle party before after true seats h person same_ten same_twenty put turned =
    let other : (kind : AuxiliaryKind) → turned.entry.party ≢ party_of kind = λ kind same. no_kind kind party person (sym turned.own ∙ same) in
    record {
      entry = turned.entry;
      own = turned.own;
      users = turned.users_are;
      journal = turned.journal;
      seats = subst (λ (list : List (UserSeat (Keeper (ℕ × List ℕ)))). AreSeatsOf after.core.journal bundle.users list) (sym (put refl turned.seated)) turned.seated;
      ten = subst (λ (aux : Auxiliary Timer). IsAuxiliaryOf bundle Clock after.core.journal aux) (sym same_ten) (auxiliary_kept bundle Clock before.core.journal after.core.journal turned.entry before.ten turned.journal (other Clock) h.ten);
      twenty = subst (λ (aux : Auxiliary (Served (Keeper (List ℕ)))). IsAuxiliaryOf bundle TextFiles after.core.journal aux) (sym same_twenty)
          (auxiliary_kept bundle TextFiles before.core.journal after.core.journal turned.entry before.twenty turned.journal (other TextFiles) h.twenty);
      next = turned.next;
      replied = λ kind same. absurd (no_kind kind party person (sym same));
    }
users_made bundle party before after false seats h person same_ten same_twenty put none = λ e own fits.
    let user : is_user (user_numbers bundle) e.party ≡ true = user_alone (is_user (user_numbers bundle) e.party) (is_auxiliary e.party) fits.legal.party (ap is_auxiliary own ∙ person) in
    let nobody : AllByRecursion (λ (one : PlainUser). one.number ≡ e.party → NoneIsNext one before.core) bundle.users =
    subst (λ (p : ℕ). AllByRecursion (λ (one : PlainUser). one.number ≡ p → NoneIsNext one before.core) bundle.users) (sym own) (recursion_from_All (λ (one : PlainUser). one.number ≡ party → NoneIsNext one before.core) bundle.users none) in
    let found = both_of (λ (one : PlainUser). (one.number ≡ e.party) × NoneIsNext one before.core) (λ (one : PlainUser). IsNextOf (is_leave e.act) before.core.journal one e.act) bundle.users e.party user
    (with_number e.party bundle.users nobody) (recursion_from_All (λ (one : PlainUser). one.number ≡ e.party → IsNextOf (is_leave e.act) before.core.journal one e.act) bundle.users fits.next) in
    found.1.1 e (sym found.1.0) (subst (λ (users : List ℕ). MayFollow users before.core.journal e) (sym h.users) fits.legal) found.2
  where
    with_number : (party : ℕ) (users : List PlainUser) → AllByRecursion (λ (one : PlainUser). one.number ≡ party → NoneIsNext one before.core) users → AllByRecursion (λ (one : PlainUser). one.number ≡ party → (one.number ≡ party) × NoneIsNext one before.core) users
    with_number party [] all = tt
    with_number party (one ∷ users) all = ((λ same. (same, all.0 same)), with_number party users all.1)

-- ---- the turn of an auxiliary

-- users' numbers are none of its
apart_of : (kind : AuxiliaryKind) (e : PlainEntry) (users : List PlainUser) → e.party ≡ party_of kind → AllByRecursion (λ (user : PlainUser). is_auxiliary user.number ≡ false) users → AllByRecursion (λ (user : PlainUser). e.party ≢ user.number) users
apart_of kind e [] own persons = tt
apart_of kind e (user ∷ users) own persons = ((λ same. no_kind kind user.number persons.0 (sym same ∙ own)), apart_of kind e users own persons.1)

no_next : (kind : AuxiliaryKind) (journal : Entries) (e : PlainEntry) (users : List PlainUser) → AllByRecursion (λ (user : PlainUser). is_auxiliary user.number ≡ false) users
    → AllByRecursion (λ (user : PlainUser). user.number ≡ party_of kind → IsNextOf (is_leave e.act) journal user e.act) users
no_next kind journal e [] persons = tt
no_next kind journal e (user ∷ users) persons = ((λ same. absurd (no_kind kind user.number persons.0 same)), no_next kind journal e users persons.1)

module _ (bundle : PlainBundle) (before after : Follower) (h : IsFollowed bundle before) where
  persons : AllByRecursion (λ (user : PlainUser). is_auxiliary user.number ≡ false) bundle.users
  persons = no_auxiliaries bundle.users (recursion_from_All IsUser bundle.users h.rules.each)

  -- its own state behind its entry
  own_kept : (kind : AuxiliaryKind) (old new : Auxiliary (Behind Timer (Served (Keeper (List ℕ))) kind)) (made : Bool) → IsAuxiliaryOf bundle kind before.core.journal old → HasServed (forgets kind) (replies kind) old new before.core made after.core → IsAuxiliaryOf bundle kind after.core.journal new
  own_kept kind old new made is served = record { number = served.party ∙ is.number; memory = served.memory; answered = served.answered (begins bundle kind) is.answered }

  -- without work none of its entries fits
  none_of : (kind : AuxiliaryKind) (old new : Auxiliary (Behind Timer (Served (Keeper (List ℕ))) kind)) → IsAuxiliaryOf bundle kind before.core.journal old → HasServed (forgets kind) (replies kind) old new before.core false after.core → NoneFits bundle (party_of kind) before.core.journal
  none_of kind old new is served = λ e own fits.
      let idle : work_of before.core.journal (party_of kind) ≡ Idle = subst (λ (party : ℕ). work_of before.core.journal party ≡ Idle) is.number (served.idle (ap (λ (c : PlainCore). c.journal) served.one)) in
      let due = due_act (user_numbers bundle) kind before.core.journal e (sym own) fits.legal in
      none-some e.act (subst (λ (work : Work). act_for work (next_place before.core.journal) (act_row e.act).hands_in ≡ Some e.act) idle due)

  seats_on : (kind : AuxiliaryKind) (e : PlainEntry) → e.party ≡ party_of kind → after.core.journal ≡ e ∷ before.core.journal → after.seats ≡ before.seats → AreSeatsOf after.core.journal bundle.users after.seats.items
  seats_on kind e own is same =
      subst (λ (list : List (UserSeat (Keeper (ℕ × List ℕ)))). AreSeatsOf after.core.journal bundle.users list) (sym (ap (λ v. v.items) same))
      (seats_kept before.core.journal after.core.journal e bundle.users before.seats.items is (apart_of kind e bundle.users own persons) h.seats)

  pub clock_made : (made : Bool) → HasServed (forgets Clock) (replies Clock) before.ten after.ten before.core made after.core → after.twenty ≡ before.twenty → after.seats ≡ before.seats → MadeIf bundle (party_of Clock) before made after
  clock_made false served same_twenty same_seats = none_of Clock before.ten after.ten h.ten served
  clock_made true served same_twenty same_seats =
      let one = served.one in
      let own : one.entry.party ≡ party_of Clock = one.own ∙ h.ten.number in
      let ten = own_kept Clock before.ten after.ten true h.ten served in
      record {
        entry = one.entry;
        own = own;
        users = one.users;
        journal = one.journal;
        seats = seats_on Clock one.entry own one.journal same_seats;
        ten = ten;
        twenty = subst (λ (aux : Auxiliary (Served (Keeper (List ℕ)))). IsAuxiliaryOf bundle TextFiles after.core.journal aux) (sym same_twenty)
            (auxiliary_kept bundle TextFiles before.core.journal after.core.journal one.entry before.twenty one.journal (λ same. let no : party_of Clock ≡ party_of TextFiles = sym own ∙ same in absurd cc) h.twenty);
        next = All-from_recursion (λ (user : PlainUser). user.number ≡ party_of Clock → IsNextOf (is_leave one.entry.act) before.core.journal user one.entry.act) bundle.users (no_next Clock before.core.journal one.entry bundle.users persons);
        replied = λ kind same. clock_replied kind same ten;
      }
    where
      clock_replied : (kind : AuxiliaryKind) → party_of kind ≡ party_of Clock → IsAuxiliaryOf bundle Clock after.core.journal after.ten → HasReplied bundle kind after.core.journal
      clock_replied Clock same is = replied_of bundle Clock after.core.journal after.ten is
      clock_replied TextFiles same is = absurd cc

  pub text_made : (made : Bool) → HasServed (forgets TextFiles) (replies TextFiles) before.twenty after.twenty before.core made after.core → after.ten ≡ before.ten → after.seats ≡ before.seats → MadeIf bundle (party_of TextFiles) before made after
  text_made false served same_ten same_seats = none_of TextFiles before.twenty after.twenty h.twenty served
  text_made true served same_ten same_seats =
      let one = served.one in
      let own : one.entry.party ≡ party_of TextFiles = one.own ∙ h.twenty.number in
      let twenty = own_kept TextFiles before.twenty after.twenty true h.twenty served in
      record {
        entry = one.entry;
        own = own;
        users = one.users;
        journal = one.journal;
        seats = seats_on TextFiles one.entry own one.journal same_seats;
        ten = subst (λ (aux : Auxiliary Timer). IsAuxiliaryOf bundle Clock after.core.journal aux) (sym same_ten)
            (auxiliary_kept bundle Clock before.core.journal after.core.journal one.entry before.ten one.journal (λ same. let no : party_of TextFiles ≡ party_of Clock = sym own ∙ same in absurd cc) h.ten);
        twenty = twenty;
        next = All-from_recursion (λ (user : PlainUser). user.number ≡ party_of TextFiles → IsNextOf (is_leave one.entry.act) before.core.journal user one.entry.act) bundle.users (no_next TextFiles before.core.journal one.entry bundle.users persons);
        replied = λ kind same. text_replied kind same twenty;
      }
    where
      text_replied : (kind : AuxiliaryKind) → party_of kind ≡ party_of TextFiles → IsAuxiliaryOf bundle TextFiles after.core.journal after.twenty → HasReplied bundle kind after.core.journal
      text_replied Clock same is = absurd cc
      text_replied TextFiles same is = replied_of bundle TextFiles after.core.journal after.twenty is

-- ---- what came of a call

-- the seats of a list are put back where they were
put_back : (journal other : Entries) (users : List PlainUser) (seats now others : List (UserSeat (Keeper (ℕ × List ℕ)))) (len : ℕ) → length seats ≡ len → AreSeatsOf journal users seats → AreSeatsOf other users now → take len (now ++ others) ≡ now
put_back journal other users seats now others len many h then =
    let same : length now ≡ len = as_many other users now then ∙ (sym (as_many journal users seats h) ∙ many) in
    subst (λ (n : ℕ). take n (now ++ others) ≡ now) same (take-append_seam now others)

pub users_took : {E : Type 0} (r : Result Bool E) (party : ℕ) (before after : Follower) (seats now others : List (UserSeat (Keeper (ℕ × List ℕ)))) (len : ℕ) → is_auxiliary party ≡ false → after.ten ≡ before.ten → after.twenty ≡ before.twenty → seats ≡ before.seats.items → length before.seats.items ≡ len
    → after.seats.items ≡ take len (now ++ others)
    → IfOk r (λ made. (users : List PlainUser) → AscendBy (λ user. user.number) users → AreSeatsOf before.core.journal users seats → UsersTurned party users before.core made after.core now)
    → IfOk r (λ made. (bundle : PlainBundle) → IsFollowed bundle before → MadeIf bundle party before made after)
users_took r party before after seats now others len person same_ten same_twenty all many put turns =
    ok_more r (λ made. (users : List PlainUser) → AscendBy (λ user. user.number) users → AreSeatsOf before.core.journal users seats → UsersTurned party users before.core made after.core now)
    (λ made. (bundle : PlainBundle) → IsFollowed bundle before → MadeIf bundle party before made after)
    (λ made turned bundle h.
    users_made bundle party before after made now h person same_ten same_twenty (λ is seated. put ∙ put_back before.core.journal after.core.journal bundle.users before.seats.items now others len many h.seats seated)
    (turned bundle.users h.rules.ascending (subst (λ (list : List (UserSeat (Keeper (ℕ × List ℕ)))). AreSeatsOf before.core.journal bundle.users list) (sym all) h.seats)))
    turns

pub clock_took : {E : Type 0} (r : Result Bool E) (before after : Follower) → after.twenty ≡ before.twenty → after.seats ≡ before.seats → IfOk r (λ made. HasServed (forgets Clock) (replies Clock) before.ten after.ten before.core made after.core)
    → IfOk r (λ made. (bundle : PlainBundle) → IsFollowed bundle before → MadeIf bundle (party_of Clock) before made after)
clock_took r before after same_twenty same_seats served =
    ok_more r (λ made. HasServed (forgets Clock) (replies Clock) before.ten after.ten before.core made after.core) (λ made. (bundle : PlainBundle) → IsFollowed bundle before → MadeIf bundle (party_of Clock) before made after)
    (λ made is bundle h. clock_made bundle before after h made is same_twenty same_seats) served

pub text_took : {E : Type 0} (r : Result Bool E) (before after : Follower) → after.ten ≡ before.ten → after.seats ≡ before.seats → IfOk r (λ made. HasServed (forgets TextFiles) (replies TextFiles) before.twenty after.twenty before.core made after.core)
    → IfOk r (λ made. (bundle : PlainBundle) → IsFollowed bundle before → MadeIf bundle (party_of TextFiles) before made after)
text_took r before after same_ten same_seats served =
    ok_more r (λ made. HasServed (forgets TextFiles) (replies TextFiles) before.twenty after.twenty before.core made after.core) (λ made. (bundle : PlainBundle) → IsFollowed bundle before → MadeIf bundle (party_of TextFiles) before made after)
    (λ made is bundle h. text_made bundle before after h made is same_ten same_seats) served

-- an auxiliary in a run that was followed has its number
pub ten_is_auxiliary : (run : Follower) (bundle : PlainBundle) → IsFollowed bundle run → is_auxiliary run.ten.party ≡ true
ten_is_auxiliary run bundle h = ap is_auxiliary h.ten.number ∙ is_auxiliary_kind Clock

pub twenty_is_auxiliary : (run : Follower) (bundle : PlainBundle) → IsFollowed bundle run → is_auxiliary run.twenty.party ≡ true
twenty_is_auxiliary run bundle h = ap is_auxiliary h.twenty.number ∙ is_auxiliary_kind TextFiles

-- some user stays, where not all have left
pub some_stays : (stays : Bool) → not stays ≡ false → stays ≡ true
some_stays true none = refl
some_stays false none = absurd (false≢true (sym none))
