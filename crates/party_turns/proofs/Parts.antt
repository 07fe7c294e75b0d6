-- The parts of users, put together: their dealings, their transcripts and their shelves.
use Rattle.std.proofs.Common.{◌≡◌, ℕ, ◌<◌, ◌&&◌, Bool, true, false, not, eqb, leb, List, [], ◌∷◌, ◌++◌, map, reverse, IsTrue, refl, sym, ap, subst, ◌∙◌, arith}
use Rattle.std.specs.List.{All, AllByRecursion, list_all}
use Rattle.std.specs.Prelude.{Option, Some, None, ◌||◌, if◌then◌else◌}
use Rattle.std.proofs.lemmas.Bool.{and_from, and_parts, eq-eqb, le-leb, ne_eqb, not-true, or_parts}
use Rattle.std.proofs.lemmas.List.Elements.{All-cons, All-head, All-nil, All-tail}
use Rattle.apl_arrays.specs.Ascending.{AscendBy}
use Rattle.apl_arrays.specs.List.{Listed}
use Rattle.apl_arrays.specs.Parties.{first_user, is_user_number, last_user}
use Rattle.apl_io.specs.Content.{Told}
use Rattle.bundle_text.specs.Rules.{IsUser}
use Rattle.bundle_text.specs.User.{PlainUser, plain_user}
use Rattle.bundle_text.specs.declared.user.BundleUser.{BundleUser}
use Rattle.sv_core.specs.Core.{ArePeople}
use Rattle.sv_events.specs.Entry.{PlainEntry}
use Rattle.sv_journal.specs.Output.{PlainTranscript}
use Rattle.sv_rules.specs.Entries.{Entries, has_left}
use Rattle.session_rules.specs.Auxiliaries.{some_stay}
use Rattle.session_rules.specs.Run.{AreUserParts, Dealings, ServeUsers}
use Rattle.session_rules.specs.Shelf.{Exchange, IsShelfRun}
use Rattle.session_rules.specs.UserPart.{IsUserPart}
use Rattle.apl_session.specs.Ended.{IfWhole}
use Rattle.apl_session.specs.Wants.{HasHeardAll}
use Rattle.apl_session.specs.declared.outcome.Ended.{Ended}
use Rattle.apl_session.specs.declared.outcome.Ended.TheVariants.{Whole, WantOfMemory}
use Rattle.apl_session.specs.declared.session.SessionStage.{SessionStage}
use Rattle.party_turns.specs.Seats.{HasPrinted, end_by, none_lost, seat_numbers, transcript_of}
use Rattle.party_turns.specs.Sittings.{EndsIn, Sitting, lent_to, seats_in}
use Rattle.party_turns.specs.SoFar.{HasPart, IsWholeUnlessLost, echoed_and_printed, user_of}
use Rattle.party_turns.specs.declared.seat.UserSeat.{UserSeat}
use Rattle.party_turns.proofs.Growth.{first_below, others_ascend}

-- ---- users

-- users of a bundle have the numbers of users
pub users_are_people : (users : List PlainUser) → All IsUser users → ArePeople (map (λ user. user.number) users)
users_are_people [] each = All-nil (λ (number : ℕ). is_user_number number ≡ true)
users_are_people (user ∷ users) each =
    All-cons (λ (number : ℕ). is_user_number number ≡ true) user.number (map (λ (one : PlainUser). one.number) users)
    (and_from (leb first_user user.number) (leb user.number last_user) (le-leb first_user user.number (All-head IsUser user users each).number.0)
    (le-leb user.number last_user (All-head IsUser user users each).number.1))
    (users_are_people users (All-tail IsUser user users each))

-- the numbers of users as they are kept
pub plain_numbers : (kept : List BundleUser) (users : List PlainUser) → map plain_user kept ≡ users → map (λ user. user.number) kept ≡ map (λ user. user.number) users
plain_numbers [] users is = ap (λ (list : List PlainUser). map (λ (user : PlainUser). user.number) list) is
plain_numbers (user ∷ kept) users is = ap (λ (list : List ℕ). user.number ∷ list) (plain_numbers kept (map plain_user kept) refl) ∙ ap (λ (list : List PlainUser). map (λ (user : PlainUser). user.number) list) is

-- all have left where none stays
left_or_stays : (left rest stay : Bool) → rest ≡ not stay → (left && rest) ≡ not (not left || stay)
left_or_stays true rest stay is = is
left_or_stays false rest stay is = refl

pub all_left_by : {K : Type 0} (journal : Entries) (seats : List (UserSeat K)) → list_all (λ seat. has_left journal seat.session.user) seats ≡ not (some_stay (seat_numbers seats) journal)
all_left_by journal [] = refl
all_left_by journal (seat ∷ seats) =
    left_or_stays (has_left journal seat.session.user) (list_all (λ s. has_left journal s.session.user) seats) (some_stay (seat_numbers seats) journal) (all_left_by journal seats)

-- ---- the dealings of a run

-- what the shelf of a user was asked, by the user's number
abbrev pub dealings_of : {K : Type 0} → List (Sitting K) → Dealings
dealings_of [] number = []
dealings_of (sitting ∷ sittings) number = if eqb sitting.seat.session.user number then sitting.exchanges else dealings_of sittings number

-- those of one user are no other's
others_deal : {K : Type 0} (sitting : Sitting K) (all rest : List (Sitting K)) → AllByRecursion (λ other. sitting.seat.session.user < other) (seat_numbers (seats_in rest)) → AllByRecursion (λ (s : Sitting K). dealings_of all s.seat.session.user ≡ s.exchanges) rest
    → AllByRecursion (λ (s : Sitting K). dealings_of (sitting ∷ all) s.seat.session.user ≡ s.exchanges) rest
others_deal sitting all [] below h = tt
others_deal {K = K} sitting all (s ∷ rest) below h =
    let less : sitting.seat.session.user < s.seat.session.user = below.0 in (
      ap (λ (same : Bool). if same then sitting.exchanges else dealings_of all s.seat.session.user) (ne_eqb sitting.seat.session.user s.seat.session.user (λ is. omega (arith, less, is))) ∙ h.0,
      others_deal sitting all rest below.1 h.1,
    )

pub each_deals : {K : Type 0} (sittings : List (Sitting K)) → AscendBy (λ s. s.session.user) (seats_in sittings) → AllByRecursion (λ (s : Sitting K). dealings_of sittings s.seat.session.user ≡ s.exchanges) sittings
each_deals [] ascend = tt
each_deals (sitting ∷ sittings) ascend =
    let number : ℕ = sitting.seat.session.user in (
      ap (λ (same : Bool). if same then sitting.exchanges else dealings_of sittings number) (eq-eqb number number refl),
      others_deal sitting sittings sittings (first_below number (seat_numbers (seats_in sittings)) ascend) (each_deals sittings (others_ascend number (seat_numbers (seats_in sittings)) ascend)),
    )

-- so these are all in the end
pub each_ends : {K : Type 0} (final : Dealings) (sittings : List (Sitting K)) → AllByRecursion (λ (s : Sitting K). final s.seat.session.user ≡ s.exchanges) sittings → AllByRecursion (EndsIn final) sittings
each_ends final [] h = tt
each_ends final (sitting ∷ sittings) h = (record { more = []; is = h.0 }, each_ends final sittings h.1)

-- ---- their parts

-- where no user stays all have left
pub all_left : (users : List PlainUser) (journal : Entries) → some_stay (map (λ user. user.number) users) journal ≡ false → AllByRecursion (λ (user : PlainUser). IsTrue (has_left journal user.number)) users
all_left [] journal over = tt
all_left (user ∷ users) journal over =
    let both = or_parts (not (has_left journal user.number)) (some_stay (map (λ user. user.number) users) journal) over in
    (left_by (has_left journal user.number) both.0, all_left users journal both.1)
  where
    left_by : (left : Bool) → not left ≡ false → left ≡ true
    left_by true e = refl
    left_by false e = absurd (let no : true ≡ false = e in cc)

module _ {K : Type 0} (told : K → Option (Told (ℕ × List ℕ))) (faults : K → ℕ) (dealings : Dealings) (journal : Entries) where
  -- a user that has left, and for which memory did not run out, has its part
  part_at : (sitting : Sitting K) (others : List (UserSeat K)) (user : PlainUser) → user_of sitting.seat.session ≡ user → IsTrue (none_lost (sitting.seat ∷ others)) → IsWholeUnlessLost told faults journal sitting → IsTrue (has_left journal user.number) → HasPart told faults journal sitting
  part_at sitting others user first here whole left =
      let mine = and_parts (not sitting.seat.is_lost) (none_lost others) here in
      whole (not-true sitting.seat.is_lost mine.0) (ap (λ (n : ℕ). has_left journal n) (ap (λ (u : PlainUser). u.number) first) ∙ left)

  -- each user has its part then, where memory ran out for none
  pub parts_of : (sittings : List (Sitting K)) (users : List PlainUser) → map (λ s. user_of s.seat.session) sittings ≡ users → IsTrue (none_lost (seats_in sittings)) → AllByRecursion (IsWholeUnlessLost told faults journal) sittings
      → AllByRecursion (λ (user : PlainUser). IsTrue (has_left journal user.number)) users → AllByRecursion (λ (s : Sitting K). dealings s.seat.session.user ≡ s.exchanges) sittings → AreUserParts dealings journal users (map transcript_of sittings)
  parts_of [] [] same here whole left deals = tt
  parts_of [] (user ∷ users) same here whole left deals = absurd (let no : [] ≡ user ∷ users = same in cc)
  parts_of (sitting ∷ sittings) [] same here whole left deals = absurd (let no : user_of sitting.seat.session ∷ map (λ (s : Sitting K). user_of s.seat.session) sittings ≡ [] = same in cc)
  parts_of (sitting ∷ sittings) (user ∷ users) same here whole left deals =
      let both : user_of sitting.seat.session ∷ map (λ (s : Sitting K). user_of s.seat.session) sittings ≡ user ∷ users = same in
      let first : user_of sitting.seat.session ≡ user = cc in
      let others : map (λ (s : Sitting K). user_of s.seat.session) sittings ≡ users = cc in
      let number : sitting.seat.session.user ≡ user.number = ap (λ (u : PlainUser). u.number) first in
      let h = part_at sitting (seats_in sittings) user first here whole.0 left.0 in (
        number,
        subst (λ (e : List Exchange). IsUserPart journal user e (echoed_and_printed sitting.exchanges sitting.seat.session)) (sym deals.0 ∙ ap dealings number)
            (subst (λ (u : PlainUser). IsUserPart journal u sitting.exchanges (echoed_and_printed sitting.exchanges sitting.seat.session)) first h.part),
        parts_of sittings users others (and_parts (not sitting.seat.is_lost) (none_lost (seats_in sittings)) here).1 whole.1 left.1 deals.1,
      )

  -- its shelf served it
  pub serve_users : (sittings : List (Sitting K)) (users : List PlainUser) (rest : List K) → map (λ s. user_of s.seat.session) sittings ≡ users → IsTrue (none_lost (seats_in sittings)) → AllByRecursion (IsWholeUnlessLost told faults journal) sittings
      → AllByRecursion (λ (user : PlainUser). IsTrue (has_left journal user.number)) users → AllByRecursion (λ (s : Sitting K). dealings s.seat.session.user ≡ s.exchanges) sittings
      → ServeUsers told faults dealings users (lent_to sittings ++ rest) (map (λ seat. seat.session.shelf) (seats_in sittings) ++ rest)
  serve_users [] [] rest same here whole left deals = refl
  serve_users [] (user ∷ users) rest same here whole left deals = absurd (let no : [] ≡ user ∷ users = same in cc)
  serve_users (sitting ∷ sittings) [] rest same here whole left deals = absurd (let no : user_of sitting.seat.session ∷ map (λ (s : Sitting K). user_of s.seat.session) sittings ≡ [] = same in cc)
  serve_users (sitting ∷ sittings) (user ∷ users) rest same here whole left deals =
      let both : user_of sitting.seat.session ∷ map (λ (s : Sitting K). user_of s.seat.session) sittings ≡ user ∷ users = same in
      let first : user_of sitting.seat.session ≡ user = cc in
      let others : map (λ (s : Sitting K). user_of s.seat.session) sittings ≡ users = cc in
      let number : sitting.seat.session.user ≡ user.number = ap (λ (u : PlainUser). u.number) first in
      let h = part_at sitting (seats_in sittings) user first here whole.0 left.0 in (
        subst (λ (e : List Exchange). IsShelfRun told faults user.number sitting.lent e sitting.seat.session.shelf) (sym deals.0 ∙ ap dealings number)
            (subst (λ (n : ℕ). IsShelfRun told faults n sitting.lent sitting.exchanges sitting.seat.session.shelf) number h.come.served),
        serve_users sittings users rest others (and_parts (not sitting.seat.is_lost) (none_lost (seats_in sittings)) here).1 whole.1 left.1 deals.1,
      )

  -- and all were heard
  pub all_printed : (sittings : List (Sitting K)) (users : List PlainUser) → map (λ s. user_of s.seat.session) sittings ≡ users → IsTrue (none_lost (seats_in sittings)) → AllByRecursion (IsWholeUnlessLost told faults journal) sittings
      → AllByRecursion (λ (user : PlainUser). IsTrue (has_left journal user.number)) users → AllByRecursion (HasPrinted told faults) sittings
  all_printed [] users same here whole left = tt
  all_printed (sitting ∷ sittings) [] same here whole left = absurd (let no : user_of sitting.seat.session ∷ map (λ (s : Sitting K). user_of s.seat.session) sittings ≡ [] = same in cc)
  all_printed (sitting ∷ sittings) (user ∷ users) same here whole left =
      let both : user_of sitting.seat.session ∷ map (λ (s : Sitting K). user_of s.seat.session) sittings ≡ user ∷ users = same in
      let first : user_of sitting.seat.session ≡ user = cc in
      let others : map (λ (s : Sitting K). user_of s.seat.session) sittings ≡ users = cc in
      let h = part_at sitting (seats_in sittings) user first here whole.0 left.0 in (
        record { heard = subst (λ (at : SessionStage). HasHeardAll at) (sym h.finished) tt; come = h.come },
        all_printed sittings users others (and_parts (not sitting.seat.is_lost) (none_lost (seats_in sittings)) here).1 whole.1 left.1,
      )

-- ---- the answer

-- where a run is whole this holds, if it does where the transcripts are there and memory ran out for nobody
pub if_whole : (transcripts : Option (Listed PlainTranscript)) (journal : Listed PlainEntry) (is_whole : Bool) (P : List PlainTranscript → Entries → Type 0)
    → ((list : Listed PlainTranscript) → transcripts ≡ Some list → is_whole ≡ true → P list.items (reverse journal.items)) → IfWhole (end_by transcripts journal is_whole) P
if_whole None journal is_whole P h = tt
if_whole (Some list) journal true P h = h list refl refl
if_whole (Some list) journal false P h = tt

-- what is known of a whole run says more
pub whole_more : (ended : Ended) (P Q : List PlainTranscript → Entries → Type 0) → ((transcripts : List PlainTranscript) (journal : Entries) → P transcripts journal → Q transcripts journal) → IfWhole ended P → IfWhole ended Q
whole_more (Whole transcripts journal) P Q more h = more transcripts.items (reverse journal.items) h
whole_more WantOfMemory P Q more h = tt
