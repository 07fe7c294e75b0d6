-- The tasks of a run that are back: their seats close the turnstile, and their users are those that began.
use Rattle.std.proofs.Common.{◌≡◌, ℕ, ◌+◌, ◌∷◌, List, [], map, length, Option, refl, sym, ap, ap₂, ◌∙◌, subst, subst₂, arith}
use Rattle.std.specs.List.{AllByRecursion}
use Rattle.std.specs.Prelude.{All}
use Rattle.std.proofs.lemmas.List.{length-map}
use Rattle.std.proofs.lemmas.List.Elements.{All-cons, All-nil, recursion_from_All}
use Rattle.apl_arrays.specs.Array.{PlainArray}
use Rattle.apl_io.specs.Content.{Told}
use Rattle.auxiliaries.specs.Run.{CameTo}
use Rattle.sv_core.specs.Histories.{members_of}
use Rattle.sv_events.specs.Entry.{PlainEntry}
use Rattle.sv_turn.specs.Seating.{BelongsTo}
use Rattle.sv_turn.specs.declared.seat.Seat.{Seat}
use Rattle.apl_session.specs.PlainSession.{PlainSession}
use Rattle.party_turns.specs.declared.auxiliary.Auxiliary.{Auxiliary}
use Rattle.party_turns.specs.declared.seat.UserSeat.{UserSeat}
use Rattle.aplsv_serve.specs.Starts.{AreApart, AreNewTasks, IsNewUser}
use Rattle.aplsv_serve.specs.Tasks.{PartyStands, StandsAt, TaskRow, party_name}
use Rattle.aplsv_serve.specs.UserTasks.{UserStands}
use Rattle.aplsv_serve.specs.declared.auxiliary_task.AuxiliaryTask.{AuxiliaryTask}
use Rattle.aplsv_serve.specs.declared.ending.Apart.{Apart}
use Rattle.aplsv_serve.specs.declared.hall.Hall.{Hall}
use Rattle.aplsv_serve.specs.declared.party_task.PartyName.{PartyName}
use Rattle.aplsv_serve.specs.declared.party_task.PartyName.TheVariants as name
use Rattle.aplsv_serve.specs.declared.party_task.PartyTask.{PartyTask}
use Rattle.aplsv_serve.specs.declared.party_task.PartyTask.TheVariants as variant
use Rattle.aplsv_serve.specs.declared.user_task.UserTask.{UserTask}
use Rattle.aplsv_serve.proofs.Closing.{IsRowBack, row_back}

head_of : {A : Type 0} (P : A → Type 0) (x : A) (xs : List A) → AllByRecursion P (x ∷ xs) → P x
head_of P x xs h = h.0

rest_of : {A : Type 0} (P : A → Type 0) (x : A) (xs : List A) → AllByRecursion P (x ∷ xs) → AllByRecursion P xs
rest_of P x xs h = h.1

-- ---- the tasks that began

-- users that have taken no turn began as they are
began_users : {K : Type 0} (list : List (UserTask K)) → AllByRecursion IsNewUser list → map (λ t. t.began.value) list ≡ map (λ t. t.user) list
began_users [] h = refl
began_users {K = K} (t ∷ list) h = ap₂ (λ (one : UserSeat K) (rest : List (UserSeat K)). one ∷ rest) (head_of IsNewUser t list h).began (began_users list (rest_of IsNewUser t list h))

names_of : {X Y K : Type 0} (list : List (UserTask K)) → map party_name (map (λ (u : UserTask K). let t : PartyTask X Y K = variant.User u in t) list) ≡ map (λ (s : UserSeat K). let n : PartyName X Y K = name.User s in n) (map (λ (u : UserTask K). u.began.value) list)
names_of [] = refl
names_of {X = X} {Y = Y} {K = K} (u ∷ list) = ap (λ (rest : List (PartyName X Y K)). name.User u.began.value ∷ rest) (names_of list)

-- the tasks that come back are those that began
pub row_returned : {X Y K : Type 0} (ten : X) (twenty : Y) (users : List (UserSeat K)) (seats : List (Seat PlainEntry)) (tasks list : List (PartyTask X Y K)) → AreNewTasks ten twenty users seats tasks → map party_name list ≡ map party_name tasks → IsRowBack ten twenty users list
row_returned {X = X} {Y = Y} {K = K} ten twenty users seats tasks list new same =
    let row = new.row in
    let began : map (λ (u : UserTask K). u.began.value) row.users ≡ users = began_users row.users (recursion_from_All IsNewUser row.users new.each) ∙ new.seated in
    let clock : row.clock.began.value ≡ ten = new.clock.began in
    let files : row.files.began.value ≡ twenty = new.files.began in
    let first : map party_name tasks ≡ name.Clock row.clock.began.value ∷ name.TextFiles row.files.began.value ∷ map (λ (s : UserSeat K). let n : PartyName X Y K = name.User s in n) (map (λ (u : UserTask K). u.began.value) row.users) =
    ap (λ (ts : List (PartyTask X Y K)). map party_name ts) row.is ∙ ap (λ (rest : List (PartyName X Y K)). name.Clock row.clock.began.value ∷ name.TextFiles row.files.began.value ∷ rest) (names_of row.users) in
    let all : map party_name list ≡ name.Clock ten ∷ name.TextFiles twenty ∷ map (λ (s : UserSeat K). let n : PartyName X Y K = name.User s in n) users =
    same ∙ (first
    ∙ (ap (λ (x : X). name.Clock x ∷ name.TextFiles row.files.began.value ∷ map (λ (s : UserSeat K). let n : PartyName X Y K = name.User s in n) (map (λ (u : UserTask K). u.began.value) row.users)) clock
    ∙ (ap (λ (y : Y). name.Clock ten ∷ name.TextFiles y ∷ map (λ (s : UserSeat K). let n : PartyName X Y K = name.User s in n) (map (λ (u : UserTask K). u.began.value) row.users)) files
    ∙ ap (λ (us : List (UserSeat K)). name.Clock ten ∷ name.TextFiles twenty ∷ map (λ (s : UserSeat K). let n : PartyName X Y K = name.User s in n) us) began))) in
    row_back ten twenty users list all

-- ---- and the tasks that are back

module _ {X Y K G : Type 0} (forgets_ten : X → ℕ → X → Type 0) (replies_ten : X → ℕ → PlainArray → PlainArray → X → Type 0) (wants_ten : X → ℕ → PlainArray → X → Type 0)
    (forgets_twenty : Y → ℕ → Y → Type 0) (replies_twenty : Y → ℕ → PlainArray → PlainArray → Y → Type 0) (wants_twenty : Y → ℕ → PlainArray → Y → Type 0)
    (told : K → Option (Told (ℕ × List ℕ))) (faults : K → ℕ) (hall : Hall G) where
  abbrev Stands : PartyTask X Y K → Type 0
  Stands = StandsAt forgets_ten replies_ten wants_ten forgets_twenty replies_twenty wants_twenty told faults hall.stile

  -- they stand at the turnstile of their hall
  of_hall : (list : List (PartyTask X Y K)) → AllByRecursion (PartyStands forgets_ten replies_ten wants_ten forgets_twenty replies_twenty wants_twenty told faults hall) list → AllByRecursion Stands list
  of_hall [] h = tt
  of_hall (t ∷ list) h =
      ((head_of (PartyStands forgets_ten replies_ten wants_ten forgets_twenty replies_twenty wants_twenty told faults hall) t list h).stands, of_hall list (rest_of (PartyStands forgets_ten replies_ten wants_ten forgets_twenty replies_twenty wants_twenty told faults hall) t list h))

  pub stand_in_hall : (list : List (PartyTask X Y K)) → All (PartyStands forgets_ten replies_ten wants_ten forgets_twenty replies_twenty wants_twenty told faults hall) list → AllByRecursion Stands list
  stand_in_hall list h = of_hall list (recursion_from_All (PartyStands forgets_ten replies_ten wants_ten forgets_twenty replies_twenty wants_twenty told faults hall) list h)

  users_belong : (users : List (UserTask K)) → AllByRecursion Stands (map (λ (u : UserTask K). let t : PartyTask X Y K = variant.User u in t) users) → All (BelongsTo members_of hall.stile) (map (λ (u : UserTask K). u.seat) users)
  users_belong [] h = All-nil (BelongsTo members_of hall.stile)
  users_belong (u ∷ users) h =
      let rest : List (PartyTask X Y K) = map (λ (o : UserTask K). let t : PartyTask X Y K = variant.User o in t) users in
      All-cons (BelongsTo members_of hall.stile) u.seat (map (λ (o : UserTask K). o.seat) users) (head_of Stands (variant.User u) rest h).seat.belongs (users_belong users (rest_of Stands (variant.User u) rest h))

  row_belongs : (clock : AuxiliaryTask X) (files : AuxiliaryTask Y) (users : List (UserTask K)) → AllByRecursion Stands (variant.Clock clock ∷ variant.TextFiles files ∷ map (λ (u : UserTask K). let t : PartyTask X Y K = variant.User u in t) users)
      → All (BelongsTo members_of hall.stile) (clock.seat ∷ files.seat ∷ map (λ (u : UserTask K). u.seat) users)
  row_belongs clock files users h =
      let rest : List (PartyTask X Y K) = map (λ (o : UserTask K). let t : PartyTask X Y K = variant.User o in t) users in
      let others = rest_of Stands (variant.Clock clock) (variant.TextFiles files ∷ rest) h in
      All-cons (BelongsTo members_of hall.stile) clock.seat (files.seat ∷ map (λ (u : UserTask K). u.seat) users) (head_of Stands (variant.Clock clock) (variant.TextFiles files ∷ rest) h).seat.belongs
      (All-cons (BelongsTo members_of hall.stile) files.seat (map (λ (u : UserTask K). u.seat) users) (head_of Stands (variant.TextFiles files) rest others).seat.belongs (users_belong users (rest_of Stands (variant.TextFiles files) rest others)))

  -- their seats are the turnstile's
  pub all_belong : (list : List (PartyTask X Y K)) (row : TaskRow list) (apart : Apart X Y K) → AreApart row apart → AllByRecursion Stands list → All (BelongsTo members_of hall.stile) apart.seats.items
  all_belong list row apart is stand =
      subst (λ (l : List (Seat PlainEntry)). All (BelongsTo members_of hall.stile) l) (sym is.seats) (row_belongs row.clock row.files row.users (subst (λ (l : List (PartyTask X Y K)). AllByRecursion Stands l) row.is stand))

  same_numbers : (users : List (UserTask K)) → AllByRecursion Stands (map (λ (u : UserTask K). let t : PartyTask X Y K = variant.User u in t) users)
      → map (λ (s : UserSeat K). s.session.user) (map (λ (u : UserTask K). u.user) users) ≡ map (λ (s : UserSeat K). s.session.user) (map (λ (u : UserTask K). u.began.value) users)
  same_numbers [] h = refl
  same_numbers (u ∷ users) h =
      let rest : List (PartyTask X Y K) = map (λ (o : UserTask K). let t : PartyTask X Y K = variant.User o in t) users in
      let stands : UserStands told faults hall.stile u = head_of Stands (variant.User u) rest h in
      ap₂ (λ (n : ℕ) (ns : List ℕ). n ∷ ns) (ap (λ (s : PlainSession K). s.user) stands.same) (same_numbers users (rest_of Stands (variant.User u) rest h))

  -- their users have the numbers of those that began
  pub numbers_returned : (ten : X) (twenty : Y) (began : List (UserSeat K)) (list : List (PartyTask X Y K)) (back : IsRowBack ten twenty began list) (apart : Apart X Y K) → AreApart back.row apart → AllByRecursion Stands list
      → map (λ (s : UserSeat K). s.session.user) apart.users.items ≡ map (λ (s : UserSeat K). s.session.user) began
  numbers_returned ten twenty began list back apart is stand =
      let rest : List (PartyTask X Y K) = map (λ (o : UserTask K). let t : PartyTask X Y K = variant.User o in t) back.row.users in
      let all = subst (λ (l : List (PartyTask X Y K)). AllByRecursion Stands l) back.row.is stand in
      let users = rest_of Stands (variant.TextFiles back.row.files) rest (rest_of Stands (variant.Clock back.row.clock) (variant.TextFiles back.row.files ∷ rest) all) in
      ap (λ (l : List (UserSeat K)). map (λ (s : UserSeat K). s.session.user) l) is.users ∙ (same_numbers back.row.users users ∙ ap (λ (l : List (UserSeat K)). map (λ (s : UserSeat K). s.session.user) l) back.users)

  -- what answers behind their auxiliaries came to where it is
  pub both_came : (ten : X) (twenty : Y) (began : List (UserSeat K)) (list : List (PartyTask X Y K)) (back : IsRowBack ten twenty began list) (apart : Apart X Y K) → AreApart back.row apart → AllByRecursion Stands list
      → CameTo forgets_ten replies_ten wants_ten ten apart.ten.replier × CameTo forgets_twenty replies_twenty wants_twenty twenty apart.twenty.replier
  both_came ten twenty began list back apart is stand =
      let rest : List (PartyTask X Y K) = map (λ (o : UserTask K). let t : PartyTask X Y K = variant.User o in t) back.row.users in
      let all = subst (λ (l : List (PartyTask X Y K)). AllByRecursion Stands l) back.row.is stand in
      let clock = head_of Stands (variant.Clock back.row.clock) (variant.TextFiles back.row.files ∷ rest) all in
      let files = head_of Stands (variant.TextFiles back.row.files) rest (rest_of Stands (variant.Clock back.row.clock) (variant.TextFiles back.row.files ∷ rest) all) in (
        subst₂ (λ (start end : X). CameTo forgets_ten replies_ten wants_ten start end) back.clock (ap (λ (a : Auxiliary X). a.replier) (sym is.ten)) clock.came.came,
        subst₂ (λ (start end : Y). CameTo forgets_twenty replies_twenty wants_twenty start end) back.files (ap (λ (a : Auxiliary Y). a.replier) (sym is.twenty)) files.came.came,
      )

-- they are as many as began
pub as_many_tasks : {X Y K : Type 0} (ten : X) (twenty : Y) (began : List (UserSeat K)) (list : List (PartyTask X Y K)) → IsRowBack ten twenty began list → length list ≡ length began + 2
as_many_tasks {X = X} {Y = Y} {K = K} ten twenty began list back =
    let users = back.row.users in
    let many : length users ≡ length began = sym (length-map users (λ (u : UserTask K). u.began.value)) ∙ ap (λ (l : List (UserSeat K)). length l) back.users in
    let all = ap (λ (l : List (PartyTask X Y K)). length l) back.row.is in
    let tasks = length-map users (λ (u : UserTask K). let t : PartyTask X Y K = variant.User u in t) in
    omega arith

pub as_many_back : {X Y K : Type 0} (ten : X) (twenty : Y) (began : List (UserSeat K)) (list : List (PartyTask X Y K)) (back : IsRowBack ten twenty began list) (apart : Apart X Y K) → AreApart back.row apart
    → (length apart.users.items ≡ length began) × (length apart.seats.items ≡ length began + 2)
as_many_back {X = X} {Y = Y} {K = K} ten twenty began list back apart is =
    let users = back.row.users in
    let many : length users ≡ length began = sym (length-map users (λ (u : UserTask K). u.began.value)) ∙ ap (λ (l : List (UserSeat K)). length l) back.users in
    let first = ap (λ (l : List (UserSeat K)). length l) is.users ∙ length-map users (λ (u : UserTask K). u.user) in
    let second = ap (λ (l : List (Seat PlainEntry)). length l) is.seats in
    let seats = length-map users (λ (u : UserTask K). u.seat) in
    (omega arith, omega arith)
