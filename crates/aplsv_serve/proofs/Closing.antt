-- The parties of a run behind their last turn.
use Rattle.std.proofs.Common.{◌≡◌, ℕ, ◌∷◌, ◌++◌, true, false, not, List, [], map, Option, IsTrue, refl, sym, ap, ap₂, ◌∙◌, subst, subst₂}
use Rattle.std.specs.List.{AllByRecursion}
use Rattle.std.proofs.lemmas.Bool.{and_parts, not-true}
use Rattle.std.proofs.lemmas.List.Elements.{All-from_recursion, recursion_from_All}
use Rattle.std.proofs.lemmas.Simd.{map-map}
use Rattle.apl_arrays.specs.Array.{PlainArray}
use Rattle.apl_arrays.specs.Ascending.{Ascend, AscendBy}
use Rattle.apl_io.specs.Content.{Told}
use Rattle.aux_parties.specs.Auxiliaries.{party_of}
use Rattle.aux_parties.specs.declared.auxiliary.AuxiliaryKind.{AuxiliaryKind}
use Rattle.aux_parties.specs.declared.auxiliary.AuxiliaryKind.TheVariants as kind
use Rattle.bundle_text.specs.Rules.{PlainBundle}
use Rattle.bundle_text.specs.User.{PlainUser}
use Rattle.sv_journal.specs.Output.{PlainTranscript}
use Rattle.sv_core.specs.Histories.{party_of_entry}
use Rattle.sv_events.specs.Entry.{PlainEntry}
use Rattle.sv_rules.specs.Entries.{Entries, has_left}
use Rattle.sv_rules.specs.Legal.{IsLegal}
use Rattle.sv_turn.specs.Journals.{places_of}
use Rattle.sv_turn.specs.Seating.{known_of}
use Rattle.sv_turn.specs.declared.seat.Seat.{Seat}
use Rattle.session_rules.specs.Auxiliaries.{IsAuxiliaryPart, events_of, some_stay}
use Rattle.session_rules.specs.Behind.{forgets_of, of_each, replies_of}
use Rattle.session_rules.specs.Run.{AreUserParts, ServeUsers, user_numbers}
use Rattle.auxiliaries.specs.Run.{IsReplierRun}
use Rattle.apl_session.specs.PlainSession.{PlainSession}
use Rattle.party_turns.specs.Seats.{HasPrinted, none_lost, seat_numbers, transcript_of}
use Rattle.party_turns.specs.Serving.{IsAtWork}
use Rattle.party_turns.specs.Sittings.{Sitting, lent_to, seats_in}
use Rattle.party_turns.specs.SoFar.{IsWholeUnlessLost, user_of}
use Rattle.party_turns.specs.declared.auxiliary.Auxiliary.{Auxiliary}
use Rattle.party_turns.specs.declared.seat.UserSeat.{UserSeat}
use Rattle.party_turns.proofs.Parts.{all_left, all_printed, dealings_of, each_deals, parts_of, serve_users}
use Rattle.aplsv_serve.specs.Ends.{EndsWhole, HasAllOf}
use Rattle.aplsv_serve.specs.Halls.{IsSeatAtStile, Stile, users_of_stile}
use Rattle.aplsv_serve.specs.Receipts.{HaveReceipts}
use Rattle.aplsv_serve.specs.Runs.{IsSomeRun}
use Rattle.aplsv_serve.specs.Starts.{AreApart}
use Rattle.aplsv_serve.specs.Tasks.{AuxiliaryStands, StandsAt, TaskRow, party_name}
use Rattle.aplsv_serve.specs.UserTasks.{HasComeFar, UserStands, sitting_at}
use Rattle.aplsv_serve.specs.declared.auxiliary_task.AuxiliaryTask.{AuxiliaryTask}
use Rattle.aplsv_serve.specs.declared.ending.Apart.{Apart}
use Rattle.aplsv_serve.specs.declared.party_task.PartyName.{PartyName}
use Rattle.aplsv_serve.specs.declared.party_task.PartyName.TheVariants as name
use Rattle.aplsv_serve.specs.declared.party_task.PartyTask.{PartyTask}
use Rattle.aplsv_serve.specs.declared.party_task.PartyTask.TheVariants as variant
use Rattle.aplsv_serve.specs.declared.user_task.UserTask.{UserTask}
use Rattle.aplsv_serve.proofs.Knowing.{IsKnown, far_since, is_known, work_since}
use Rattle.aplsv_serve.proofs.Receiving.{HasToldAll, receipts_of_all}

-- ---- the tasks that come back

-- tasks of users that began so
pub record AreUsers {X Y K : Type 0} (began : List (UserSeat K)) (list : List (PartyTask X Y K)) : Type 0 where
  pub users : List (UserTask K)
  pub is : list ≡ map (λ user. variant.User user) users
  pub same : map (λ user. user.began.value) users ≡ began

user_more : {X Y K : Type 0} (began : UserSeat K) (others : List (UserSeat K)) (first : UserTask K) (list : List (PartyTask X Y K)) → first.began.value ≡ began → AreUsers others list → AreUsers (began ∷ others) (variant.User first ∷ list)
user_more {X = X} {Y = Y} {K = K} began others first list is h = record {
  users = first ∷ h.users;
  is = ap (λ (rest : List (PartyTask X Y K)). variant.User first ∷ rest) h.is;
  same = ap₂ (λ (one : UserSeat K) (rest : List (UserSeat K)). one ∷ rest) is h.same;
}

users_back : {X Y K : Type 0} (began : List (UserSeat K)) (list : List (PartyTask X Y K)) → map party_name list ≡ map (λ user. let n : PartyName X Y K = name.User user in n) began → AreUsers began list
users_back [] [] same = record { users = []; is = refl; same = refl }
users_back [] (t ∷ list) same = absurd cc
users_back (user ∷ began) [] same = absurd cc
users_back (user ∷ began) (variant.Clock clock ∷ list) same = absurd cc
users_back (user ∷ began) (variant.TextFiles files ∷ list) same = absurd cc
users_back {X = X} {Y = Y} {K = K} (user ∷ began) (variant.User first ∷ list) same =
    let here : first.began.value ≡ user = cc in
    let rest : map party_name list ≡ map (λ (one : UserSeat K). let n : PartyName X Y K = name.User one in n) began = cc in
    user_more user began first list here (users_back began list rest)

-- the tasks of a run that began so
pub record IsRowBack {X Y K : Type 0} (ten : X) (twenty : Y) (began : List (UserSeat K)) (list : List (PartyTask X Y K)) : Type 0 where
  pub row : TaskRow list
  pub clock : row.clock.began.value ≡ ten
  pub files : row.files.began.value ≡ twenty
  pub users : map (λ user. user.began.value) row.users ≡ began

row_of : {X Y K : Type 0} (ten : X) (twenty : Y) (began : List (UserSeat K)) (clock : AuxiliaryTask X) (files : AuxiliaryTask Y) (rest : List (PartyTask X Y K)) → clock.began.value ≡ ten → files.began.value ≡ twenty → AreUsers began rest
    → IsRowBack ten twenty began (variant.Clock clock ∷ variant.TextFiles files ∷ rest)
row_of {X = X} {Y = Y} {K = K} ten twenty began clock files rest first second h = record {
  row = record { clock = clock; files = files; users = h.users; is = ap (λ (list : List (PartyTask X Y K)). variant.Clock clock ∷ variant.TextFiles files ∷ list) h.is };
  clock = first;
  files = second;
  users = h.same;
}

pub row_back : {X Y K : Type 0} (ten : X) (twenty : Y) (began : List (UserSeat K)) (list : List (PartyTask X Y K)) → map party_name list ≡ name.Clock ten ∷ name.TextFiles twenty ∷ map (λ user. let n : PartyName X Y K = name.User user in n) began
    → IsRowBack ten twenty began list
row_back {X = X} {Y = Y} {K = K} ten twenty began (variant.Clock clock ∷ variant.TextFiles files ∷ rest) same =
    let first : clock.began.value ≡ ten = cc in
    let second : files.began.value ≡ twenty = cc in
    let others : map party_name rest ≡ map (λ (user : UserSeat K). let n : PartyName X Y K = name.User user in n) began = cc in
    row_of ten twenty began clock files rest first second (users_back began rest others)
row_back ten twenty began [] same = absurd cc
row_back ten twenty began (variant.Clock clock ∷ []) same = absurd cc
row_back ten twenty began (variant.Clock clock ∷ variant.Clock other ∷ rest) same = absurd cc
row_back ten twenty began (variant.Clock clock ∷ variant.User other ∷ rest) same = absurd cc
row_back ten twenty began (variant.TextFiles files ∷ rest) same = absurd cc
row_back ten twenty began (variant.User user ∷ rest) same = absurd cc

-- ---- users

module _ {K : Type 0} (told : K → Option (Told (ℕ × List ℕ))) (faults : K → ℕ) (stile : Stile) (journal : Entries) where
  -- the journal has all that the party of a seat knows
  seat_knows : (party : ℕ) (seat : Seat PlainEntry) → IsSeatAtStile stile party seat → HasAllOf journal seat → IsKnown party (known_of seat) journal
  seat_knows party seat at all =
      is_known party (known_of seat) journal all.begins (sym at.places ∙ (all.places ∙ ap (λ (n : ℕ). places_of party_of_entry n journal) at.own))

  -- users for which memory did not run out have come far in it
  pub record HaveCome (list : List (UserTask K)) : Type 0 where
    pub sittings : List (Sitting K)
    pub here : seats_in sittings ≡ map (λ user. user.user) list
    pub lent : lent_to sittings ≡ map (λ user. user.began.value.session.shelf) list
    pub whole : AllByRecursion (IsWholeUnlessLost told faults journal) sittings
    pub tells : AllByRecursion (λ sitting. has_left journal sitting.seat.session.user ≡ true → HasToldAll told faults journal sitting) sittings

  come_more : (first : UserTask K) (list : List (UserTask K)) → HasComeFar told faults journal first.began.value.session.shelf first.user → HaveCome list → HaveCome (first ∷ list)
  come_more first list far h = record {
    sittings = sitting_at first.began.value.session.shelf first.user far.exchanges ∷ h.sittings;
    here = ap (λ (rest : List (UserSeat K)). first.user ∷ rest) h.here;
    lent = ap (λ (rest : List K). first.began.value.session.shelf ∷ rest) h.lent;
    whole = ((λ here. far.whole), h.whole);
    tells = ((λ left. record { come = (far.whole left).come; tells = far.tells left }), h.tells);
  }

  pub all_come : (list : List (UserTask K)) → AllByRecursion (UserStands told faults stile) list → AllByRecursion (HasAllOf journal) (map (λ user. user.seat) list) → IsTrue (none_lost (map (λ user. user.user) list)) → HaveCome list
  all_come [] stand all none = record { sittings = []; here = refl; lent = refl; whole = tt; tells = tt }
  all_come (user ∷ list) stand all none =
      let both = and_parts (not user.user.is_lost) (none_lost (map (λ (u : UserTask K). u.user) list)) none in
      come_more user list
      (far_since told faults (known_of user.seat) journal user.began.value.session.shelf user.user (seat_knows user.user.session.user user.seat stand.0.seat all.0) (stand.0.far (not-true user.user.is_lost both.0)))
      (all_come list stand.1 all.1 both.1)

  -- they are the users that began
  pub same_users : (list : List (UserTask K)) → AllByRecursion (UserStands told faults stile) list → map (λ user. user_of user.user.session) list ≡ map (λ user. user_of user.began.value.session) list
  same_users [] stand = refl
  same_users (user ∷ list) stand = ap₂ (λ (one : PlainUser) (rest : List PlainUser). one ∷ rest) (ap (λ (s : PlainSession K). user_of s) stand.0.same) (same_users list stand.1)

-- ---- auxiliaries

module _ {S : Type 0} (forgets : S → ℕ → S → Type 0) (replies : S → ℕ → PlainArray → PlainArray → S → Type 0) (wants : S → ℕ → PlainArray → S → Type 0) (party : ℕ) (stile : Stile) (journal : Entries) where
  -- an auxiliary for which memory did not run out has its part
  pub part_of : (auxiliary : AuxiliaryTask S) → AuxiliaryStands forgets replies wants party stile auxiliary → HasAllOf journal auxiliary.seat → auxiliary.auxiliary.is_lost ≡ false
      → IsAuxiliaryPart forgets replies (users_of_stile stile) party journal auxiliary.began.value auxiliary.auxiliary.replier
  part_of auxiliary stands all here =
      let known : IsKnown party (known_of auxiliary.seat) journal =
      is_known party (known_of auxiliary.seat) journal all.begins (sym stands.seat.places ∙ (all.places ∙ ap (λ (n : ℕ). places_of party_of_entry n journal) stands.seat.own)) in
      let work : IsAtWork forgets replies (users_of_stile stile) party auxiliary.began.value journal auxiliary.auxiliary =
      work_since forgets replies (users_of_stile stile) party auxiliary.began.value (known_of auxiliary.seat) journal auxiliary.auxiliary known stands.at_work in
      record {
        answers = subst (λ (n : ℕ). IsReplierRun forgets replies auxiliary.began.value (events_of journal n) auxiliary.auxiliary.replier) work.number (work.answered here);
        among = work.among;
      }

-- ---- the run

module _ {X Y K : Type 0} (forgets_ten : X → ℕ → X → Type 0) (replies_ten : X → ℕ → PlainArray → PlainArray → X → Type 0) (wants_ten : X → ℕ → PlainArray → X → Type 0)
    (forgets_twenty : Y → ℕ → Y → Type 0) (replies_twenty : Y → ℕ → PlainArray → PlainArray → Y → Type 0) (wants_twenty : Y → ℕ → PlainArray → Y → Type 0)
    (told : K → Option (Told (ℕ × List ℕ))) (faults : K → ℕ) (stile : Stile) (bundle : PlainBundle) (numbers : users_of_stile stile ≡ user_numbers bundle)
    (ten : X) (twenty : Y) (began : List (UserSeat K)) (users : map (λ (s : UserSeat K). user_of s.session) began ≡ bundle.users) (ascending : AscendBy (λ (u : PlainUser). u.number) bundle.users)
    (list : List (PartyTask X Y K)) (back : IsRowBack ten twenty began list) (stand : AllByRecursion (StandsAt forgets_ten replies_ten wants_ten forgets_twenty replies_twenty wants_twenty told faults stile) list)
    (apart : Apart X Y K) (is : AreApart back.row apart) (transcripts : List PlainTranscript) (journal : Entries) (ended : EndsWhole told faults (users_of_stile stile) apart transcripts journal) where
  stand_row : AllByRecursion (StandsAt forgets_ten replies_ten wants_ten forgets_twenty replies_twenty wants_twenty told faults stile) (variant.Clock back.row.clock ∷ variant.TextFiles back.row.files ∷ map (λ (u : UserTask K). variant.User u) back.row.users)
  stand_row = subst (λ (l : List (PartyTask X Y K)). AllByRecursion (StandsAt forgets_ten replies_ten wants_ten forgets_twenty replies_twenty wants_twenty told faults stile) l) back.row.is stand

  seats_row : AllByRecursion (HasAllOf journal) (back.row.clock.seat ∷ back.row.files.seat ∷ map (λ (u : UserTask K). u.seat) back.row.users)
  seats_row = subst (λ (l : List (Seat PlainEntry)). AllByRecursion (HasAllOf journal) l) is.seats (recursion_from_All (HasAllOf journal) apart.seats.items ended.seats)

  users_stand : (rest : List (UserTask K)) → AllByRecursion (StandsAt forgets_ten replies_ten wants_ten forgets_twenty replies_twenty wants_twenty told faults stile) (map (λ (u : UserTask K). let t : PartyTask X Y K = variant.User u in t) rest) → AllByRecursion (UserStands told faults stile) rest
  users_stand [] h = tt
  users_stand (u ∷ rest) h = (h.0, users_stand rest h.1)

  stands : AllByRecursion (UserStands told faults stile) back.row.users
  stands = users_stand back.row.users stand_row.1.1

  come : HaveCome told faults stile journal back.row.users
  come = all_come told faults stile journal back.row.users stands seats_row.1.1 (ap (λ (l : List (UserSeat K)). none_lost l) (sym is.users) ∙ ended.users_here)

  -- those who sit are the users of the bundle
  sat_are_users : map (λ (s : Sitting K). user_of s.seat.session) come.sittings ≡ bundle.users
  sat_are_users =
      sym (map-map (λ (s : UserSeat K). user_of s.session) (λ (s : Sitting K). s.seat) come.sittings)
      ∙ ap (λ (l : List (UserSeat K)). map (λ (s : UserSeat K). user_of s.session) l) come.here
      ∙ map-map (λ (s : UserSeat K). user_of s.session) (λ (u : UserTask K). u.user) back.row.users
      ∙ same_users told faults stile journal back.row.users stands
      ∙ sym (map-map (λ (s : UserSeat K). user_of s.session) (λ (u : UserTask K). u.began.value) back.row.users)
      ∙ ap (λ (l : List (UserSeat K)). map (λ (s : UserSeat K). user_of s.session) l) back.users
      ∙ users

  seats_are : seats_in come.sittings ≡ apart.users.items
  seats_are = come.here ∙ sym is.users

  none_out : IsTrue (none_lost (seats_in come.sittings))
  none_out = ap (λ (l : List (UserSeat K)). none_lost l) seats_are ∙ ended.users_here

  -- their numbers are those of the bundle
  numbers_are : seat_numbers (seats_in come.sittings) ≡ user_numbers bundle
  numbers_are =
      map-map (λ (s : UserSeat K). s.session.user) (λ (s : Sitting K). s.seat) come.sittings
      ∙ sym (map-map (λ (u : PlainUser). u.number) (λ (s : Sitting K). user_of s.seat.session) come.sittings)
      ∙ ap (λ (l : List PlainUser). map (λ (u : PlainUser). u.number) l) sat_are_users

  left : AllByRecursion (λ (user : PlainUser). IsTrue (has_left journal user.number)) bundle.users
  left = all_left bundle.users journal (ap (λ (l : List ℕ). some_stay l journal) (sym numbers_are ∙ ap (λ (l : List (UserSeat K)). seat_numbers l) seats_are) ∙ ended.over)

  deals : AllByRecursion (λ (s : Sitting K). dealings_of come.sittings s.seat.session.user ≡ s.exchanges) come.sittings
  deals = each_deals come.sittings (subst Ascend (sym numbers_are) ascending)

  printed : transcripts ≡ map transcript_of come.sittings
  printed = ended.printed come.sittings seats_are (All-from_recursion (HasPrinted told faults) come.sittings (all_printed told faults (dealings_of come.sittings) journal come.sittings bundle.users sat_are_users none_out come.whole left))

  parts : (each : AuxiliaryKind) → IsAuxiliaryPart (forgets_of forgets_ten forgets_twenty each) (replies_of replies_ten replies_twenty each) (user_numbers bundle) (party_of each) journal (of_each ten twenty each) (of_each apart.ten.replier apart.twenty.replier each)
  parts kind.Clock =
      subst₂ (λ (start : X) (end : X). IsAuxiliaryPart forgets_ten replies_ten (user_numbers bundle) (party_of kind.Clock) journal start end) back.clock (ap (λ (a : Auxiliary X). a.replier) (sym is.ten))
      (subst (λ (l : List ℕ). IsAuxiliaryPart forgets_ten replies_ten l (party_of kind.Clock) journal back.row.clock.began.value back.row.clock.auxiliary.replier) numbers
      (part_of forgets_ten replies_ten wants_ten (party_of kind.Clock) stile journal back.row.clock stand_row.0 seats_row.0 (ap (λ (a : Auxiliary X). a.is_lost) (sym is.ten) ∙ ended.ten_here)))
  parts kind.TextFiles =
      subst₂ (λ (start : Y) (end : Y). IsAuxiliaryPart forgets_twenty replies_twenty (user_numbers bundle) (party_of kind.TextFiles) journal start end) back.files (ap (λ (a : Auxiliary Y). a.replier) (sym is.twenty))
      (subst (λ (l : List ℕ). IsAuxiliaryPart forgets_twenty replies_twenty l (party_of kind.TextFiles) journal back.row.files.began.value back.row.files.auxiliary.replier) numbers
      (part_of forgets_twenty replies_twenty wants_twenty (party_of kind.TextFiles) stile journal back.row.files stand_row.1.0 seats_row.1.0 (ap (λ (a : Auxiliary Y). a.is_lost) (sym is.twenty) ∙ ended.twenty_here)))

  users_parts : AreUserParts (dealings_of come.sittings) journal bundle.users transcripts
  users_parts =
      subst (λ (l : List PlainTranscript). AreUserParts (dealings_of come.sittings) journal bundle.users l) (sym printed)
      (parts_of told faults (dealings_of come.sittings) journal come.sittings bundle.users sat_are_users none_out come.whole left deals)

  legal : IsLegal (user_numbers bundle) journal
  legal = subst (λ (l : List ℕ). IsLegal l journal) numbers ended.legal

  -- what came of the tasks is a run
  pub is_run : (lent rest : List K) → map (λ (s : UserSeat K). s.session.shelf) began ≡ lent
      → IsSomeRun forgets_ten replies_ten forgets_twenty replies_twenty told faults bundle journal transcripts ten apart.ten.replier twenty apart.twenty.replier (lent ++ rest) (map (λ (s : UserSeat K). s.session.shelf) apart.users.items ++ rest)
  is_run lent rest shelves =
      let given : lent_to come.sittings ≡ lent = come.lent ∙ sym (map-map (λ (s : UserSeat K). s.session.shelf) (λ (u : UserTask K). u.began.value) back.row.users) ∙ ap (λ (l : List (UserSeat K)). map (λ (s : UserSeat K). s.session.shelf) l) back.users ∙ shelves in
      record {
        dealings = dealings_of come.sittings;
        run = record {
          legal = legal;
          users = users_parts;
          shelves_served = subst₂ (λ (l : List K) (seats : List (UserSeat K)). ServeUsers told faults (dealings_of come.sittings) bundle.users (l ++ rest) (map (λ (s : UserSeat K). s.session.shelf) seats ++ rest)) given seats_are
              (serve_users told faults (dealings_of come.sittings) journal come.sittings bundle.users rest sat_are_users none_out come.whole left deals);
          parts = parts;
        };
        receipts = subst₂ (λ (users : List PlainUser) (list : List PlainTranscript). HaveReceipts told faults (dealings_of come.sittings) journal users list) sat_are_users (sym printed)
            (receipts_of_all told faults (user_numbers bundle) (dealings_of come.sittings) journal come.sittings legal come.tells
            (subst (λ (users : List PlainUser). AllByRecursion (λ (u : PlainUser). IsTrue (has_left journal u.number)) users) (sym sat_are_users) left) deals);
      }
