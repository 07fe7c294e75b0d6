use Rattle.std.proofs.Common.{◌≡◌, ◌∙◌, ◌++◌, ◌∷◌, ℕ, List, ap, arith, length, map, refl, subst, subst₂, sym}
use Rattle.std.proofs.lemmas.List.{length-map}
use Rattle.std.proofs.lemmas.Simd.{map-map}
use Rattle.apl_arrays.specs.Ascending.{Ascend}
use Rattle.auxiliaries.specs.Run.{CameTo}
use Rattle.aux_parties.specs.Auxiliaries.{clock_party, text_party}
use Rattle.bundle_text.specs.Rules.{PlainBundle}
use Rattle.bundle_text.specs.User.{PlainUser, plain_user}
use Rattle.sv_core.specs.Core.{ArePeople}
use Rattle.party_turns.specs.SoFar.{user_of}
use Rattle.party_turns.specs.declared.seat.UserSeat.{UserSeat}
use Rattle.party_turns.proofs.GivenBack.{shelves_back}
use Rattle.party_turns.proofs.Parts.{plain_numbers, users_are_people, whole_more}
use Rattle.aplsv_serve.specs.Ends.{EndsWhole}
use Rattle.aplsv_serve.specs.Halls.{users_of_stile}
use Rattle.aplsv_serve.specs.Runs.{IsSomeRun}
use Rattle.aplsv_serve.specs.declared.hall.Hall.{Hall}
use Rattle.aplsv_serve.proofs.Closing.{is_run}
use Rattle.aplsv_serve.proofs.Opening.{all_stand}
use Rattle.aplsv_serve.proofs.Returning.{all_belong, as_many_back, as_many_tasks, both_came, numbers_returned, row_returned, stand_in_hall}
use Rattle.aplsv_serve.proofs.server.serve_with.Goals as goal

pub begin-requires-clause-people : goal.begin-requires-clause-people
begin-requires-clause-people g c =
    subst ArePeople (sym (plain_numbers c.users.result.now c.args.bundle.users c.users.ensures.value)) (users_are_people c.args.bundle.users c.users.ensures.bundle.each)

pub begin-requires-clause-ascending : goal.begin-requires-clause-ascending
begin-requires-clause-ascending g c = subst Ascend (sym (plain_numbers c.users.result.now c.args.bundle.users c.users.ensures.value)) c.users.ensures.bundle.ascending

pub fill-users-requires-clause-room : goal.fill-users-requires-clause-room
fill-users-requires-clause-room g c =
    let kept : map plain_user c.into_vec.result.items ≡ c.args.bundle.users = c.into_vec.ensures.value ∙ ap (λ (b : PlainBundle). b.users) c.into_parts-users.ensures.value in
    let one : length c.into_vec.result.items ≡ length c.args.bundle.users = sym (length-map c.into_vec.result.items plain_user) ∙ ap (λ (list : List PlainUser). length list) kept in
    let two : length c.users.result.now ≡ length c.args.bundle.users = sym (length-map c.users.result.now plain_user) ∙ ap (λ (list : List PlainUser). length list) c.users.ensures.value in
    omega (arith, one, two, c.into_vec.result.ok.0, c.in-Ok.ensures.users.1)

pub fill-users-requires-clause-shelves : goal.fill-users-requires-clause-shelves
fill-users-requires-clause-shelves g c =
    let kept : map plain_user c.into_vec.result.items ≡ c.args.bundle.users = c.into_vec.ensures.value ∙ ap (λ (b : PlainBundle). b.users) c.into_parts-users.ensures.value in
    let one : length c.into_vec.result.items ≡ length c.args.bundle.users = sym (length-map c.into_vec.result.items plain_user) ∙ ap (λ (list : List PlainUser). length list) kept in
    let two : length c.users.result.now ≡ length c.args.bundle.users = sym (length-map c.users.result.now plain_user) ∙ ap (λ (list : List PlainUser). length list) c.users.ensures.value in
    omega (arith, one, c.into_vec.result.ok.0, c.requires.shelves)

pub seat_all-tasks-requires-clause-seats : goal.seat_all-tasks-requires-clause-seats
seat_all-tasks-requires-clause-seats g c =
    let start = c.in-Ok.start in
    let users = c.fill-users.result.items in
    let kept : map plain_user c.into_vec.result.items ≡ c.args.bundle.users = c.into_vec.ensures.value ∙ ap (λ (b : PlainBundle). b.users) c.into_parts-users.ensures.value in
    let one : length c.into_vec.result.items ≡ length c.args.bundle.users = sym (length-map c.into_vec.result.items plain_user) ∙ ap (λ (list : List PlainUser). length list) kept in
    let two : length c.users.result.now ≡ length c.args.bundle.users = sym (length-map c.users.result.now plain_user) ∙ ap (λ (list : List PlainUser). length list) c.users.ensures.value in
    let three : length users ≡ length c.args.bundle.users = sym (length-map users (λ (s : UserSeat g.row.K.Denot). user_of s.session)) ∙ ap (λ (list : List PlainUser). length list) (c.fill-users.ensures.users ∙ kept) in
    let seats = simp length-map at (ap (λ (l : List ℕ). length l) c.in-Ok.ensures.parties) in
    omega (arith, seats, two, three, start.seats.ok.0, c.fill-users.result.ok.0)

pub seat_all-tasks-requires-clause-room : goal.seat_all-tasks-requires-clause-room
seat_all-tasks-requires-clause-room g c =
    let users = c.fill-users.result.items in
    let kept : map plain_user c.into_vec.result.items ≡ c.args.bundle.users = c.into_vec.ensures.value ∙ ap (λ (b : PlainBundle). b.users) c.into_parts-users.ensures.value in
    let one : length c.into_vec.result.items ≡ length c.args.bundle.users = sym (length-map c.into_vec.result.items plain_user) ∙ ap (λ (list : List PlainUser). length list) kept in
    let two : length c.users.result.now ≡ length c.args.bundle.users = sym (length-map c.users.result.now plain_user) ∙ ap (λ (list : List PlainUser). length list) c.users.ensures.value in
    let three : length users ≡ length c.args.bundle.users = sym (length-map users (λ (s : UserSeat g.row.K.Denot). user_of s.session)) ∙ ap (λ (list : List PlainUser). length list) (c.fill-users.ensures.users ∙ kept) in
    (c.in-Ok.ensures.tasks.0, omega (arith, two, three, c.fill-users.result.ok.0, c.in-Ok.ensures.tasks.1))

pub serve_all-tasks-requires-clause-stand : goal.serve_all-tasks-requires-clause-stand
serve_all-tasks-requires-clause-stand g c κs within =
    let start = c.in-Ok.start in
    let users = c.fill-users.result.items in
    let numbers = plain_numbers c.users.result.now c.args.bundle.users c.users.ensures.value in
    let kept : map plain_user c.into_vec.result.items ≡ c.args.bundle.users = c.into_vec.ensures.value ∙ ap (λ (b : PlainBundle). b.users) c.into_parts-users.ensures.value in
    let same : map (λ (s : UserSeat g.row.K.Denot). s.session.user) users ≡ map (λ (u : PlainUser). u.number) c.args.bundle.users =
    sym (map-map (λ (u : PlainUser). u.number) (λ (s : UserSeat g.row.K.Denot). user_of s.session) users) ∙ ap (λ (l : List PlainUser). map (λ (u : PlainUser). u.number) l) (c.fill-users.ensures.users ∙ kept) in
    let hall : Hall g.row.G.Denot = record { stile = start.stile; users = start.numbers; gate = c.args.gate } in
    let people = subst ArePeople (sym (c.in-Ok.ensures.members ∙ numbers)) (users_are_people c.args.bundle.users c.users.ensures.bundle.each) in
    let parties = c.in-Ok.ensures.parties ∙ ap (λ (l : List ℕ). clock_party ∷ text_party ∷ l) (numbers ∙ sym same) in
    all_stand g.X.Replier.forgets g.X.Replier.replies g.X.Replier.wants g.Y.Replier.forgets g.Y.Replier.replies g.Y.Replier.wants g.K.Shelf.told g.K.Shelf.faults hall (record { people = people; numbers = c.in-Ok.ensures.numbers ∙ sym c.in-Ok.ensures.members }) c.args.ten c.args.twenty users start.seats.items c.seat_all-tasks.result.items
    c.seat_all-tasks.ensures c.in-Ok.ensures.seats parties (c.in-Ok.ensures.members ∙ (numbers ∙ sym same)) c.fill-users.ensures.seated

pub take_all_apart-apart-requires-clause-row : goal.take_all_apart-apart-requires-clause-row
take_all_apart-apart-requires-clause-row g c =
    let start = c.in-Ok.start in
    let users = c.fill-users.result.items in
    let back = row_returned c.args.ten c.args.twenty users start.seats.items c.seat_all-tasks.result.items c.serve_all-tasks.result.items c.seat_all-tasks.ensures c.serve_all-tasks.ensures.names in
    back.row

pub take_all_apart-apart-requires-clause-users : goal.take_all_apart-apart-requires-clause-users
take_all_apart-apart-requires-clause-users g c =
    let start = c.in-Ok.start in
    let users = c.fill-users.result.items in
    let kept : map plain_user c.into_vec.result.items ≡ c.args.bundle.users = c.into_vec.ensures.value ∙ ap (λ (b : PlainBundle). b.users) c.into_parts-users.ensures.value in
    let one : length c.into_vec.result.items ≡ length c.args.bundle.users = sym (length-map c.into_vec.result.items plain_user) ∙ ap (λ (list : List PlainUser). length list) kept in
    let two : length c.users.result.now ≡ length c.args.bundle.users = sym (length-map c.users.result.now plain_user) ∙ ap (λ (list : List PlainUser). length list) c.users.ensures.value in
    let three : length users ≡ length c.args.bundle.users = sym (length-map users (λ (s : UserSeat g.row.K.Denot). user_of s.session)) ∙ ap (λ (list : List PlainUser). length list) (c.fill-users.ensures.users ∙ kept) in
    let back = row_returned c.args.ten c.args.twenty users start.seats.items c.seat_all-tasks.result.items c.serve_all-tasks.result.items c.seat_all-tasks.ensures c.serve_all-tasks.ensures.names in
    let many = as_many_tasks c.args.ten c.args.twenty users c.serve_all-tasks.result.items back in
    (c.in-Ok.ensures.users_back.0, omega (arith, many, two, three, c.serve_all-tasks.result.ok.0, c.in-Ok.ensures.users_back.1))

pub take_all_apart-apart-requires-clause-seats : goal.take_all_apart-apart-requires-clause-seats
take_all_apart-apart-requires-clause-seats g c =
    let start = c.in-Ok.start in
    let users = c.fill-users.result.items in
    let kept : map plain_user c.into_vec.result.items ≡ c.args.bundle.users = c.into_vec.ensures.value ∙ ap (λ (b : PlainBundle). b.users) c.into_parts-users.ensures.value in
    let one : length c.into_vec.result.items ≡ length c.args.bundle.users = sym (length-map c.into_vec.result.items plain_user) ∙ ap (λ (list : List PlainUser). length list) kept in
    let two : length c.users.result.now ≡ length c.args.bundle.users = sym (length-map c.users.result.now plain_user) ∙ ap (λ (list : List PlainUser). length list) c.users.ensures.value in
    let three : length users ≡ length c.args.bundle.users = sym (length-map users (λ (s : UserSeat g.row.K.Denot). user_of s.session)) ∙ ap (λ (list : List PlainUser). length list) (c.fill-users.ensures.users ∙ kept) in
    let back = row_returned c.args.ten c.args.twenty users start.seats.items c.seat_all-tasks.result.items c.serve_all-tasks.result.items c.seat_all-tasks.ensures c.serve_all-tasks.ensures.names in
    let many = as_many_tasks c.args.ten c.args.twenty users c.serve_all-tasks.result.items back in
    (c.in-Ok.ensures.seats_back.0, omega (arith, many, two, three, c.serve_all-tasks.result.ok.0, c.in-Ok.ensures.seats_back.1))

pub close-requires-clause-all : goal.close-requires-clause-all
close-requires-clause-all g c =
    let start = c.in-Ok.start in
    let users = c.fill-users.result.items in
    let kept : map plain_user c.into_vec.result.items ≡ c.args.bundle.users = c.into_vec.ensures.value ∙ ap (λ (b : PlainBundle). b.users) c.into_parts-users.ensures.value in
    let one : length c.into_vec.result.items ≡ length c.args.bundle.users = sym (length-map c.into_vec.result.items plain_user) ∙ ap (λ (list : List PlainUser). length list) kept in
    let two : length c.users.result.now ≡ length c.args.bundle.users = sym (length-map c.users.result.now plain_user) ∙ ap (λ (list : List PlainUser). length list) c.users.ensures.value in
    let three : length users ≡ length c.args.bundle.users = sym (length-map users (λ (s : UserSeat g.row.K.Denot). user_of s.session)) ∙ ap (λ (list : List PlainUser). length list) (c.fill-users.ensures.users ∙ kept) in
    let back = row_returned c.args.ten c.args.twenty users start.seats.items c.seat_all-tasks.result.items c.serve_all-tasks.result.items c.seat_all-tasks.ensures c.serve_all-tasks.ensures.names in
    let apart = c.take_all_apart-apart.result in
    let is = c.take_all_apart-apart.ensures back.row in
    let many = as_many_back c.args.ten c.args.twenty users c.serve_all-tasks.result.items back apart is in
    let seats = simp length-map at (ap (λ (l : List ℕ). length l) c.in-Ok.ensures.parties) in
    omega (arith, many.1, seats, two, three, c.in-Ok.ensures.given)

pub close-requires-clause-own : goal.close-requires-clause-own
close-requires-clause-own g c =
    let start = c.in-Ok.start in
    let users = c.fill-users.result.items in
    let hall : Hall g.row.G.Denot = record { stile = start.stile; users = start.numbers; gate = c.args.gate } in
    let back = row_returned c.args.ten c.args.twenty users start.seats.items c.seat_all-tasks.result.items c.serve_all-tasks.result.items c.seat_all-tasks.ensures c.serve_all-tasks.ensures.names in
    let stand = stand_in_hall g.X.Replier.forgets g.X.Replier.replies g.X.Replier.wants g.Y.Replier.forgets g.Y.Replier.replies g.Y.Replier.wants g.K.Shelf.told g.K.Shelf.faults hall c.serve_all-tasks.result.items c.serve_all-tasks.ensures.stand in
    let apart = c.take_all_apart-apart.result in
    let is = c.take_all_apart-apart.ensures back.row in
    all_belong g.X.Replier.forgets g.X.Replier.replies g.X.Replier.wants g.Y.Replier.forgets g.Y.Replier.replies g.Y.Replier.wants g.K.Shelf.told g.K.Shelf.faults hall c.serve_all-tasks.result.items back.row apart is stand

pub close-requires-clause-ascending : goal.close-requires-clause-ascending
close-requires-clause-ascending g c =
    let start = c.in-Ok.start in
    let users = c.fill-users.result.items in
    let kept : map plain_user c.into_vec.result.items ≡ c.args.bundle.users = c.into_vec.ensures.value ∙ ap (λ (b : PlainBundle). b.users) c.into_parts-users.ensures.value in
    let same : map (λ (s : UserSeat g.row.K.Denot). s.session.user) users ≡ map (λ (u : PlainUser). u.number) c.args.bundle.users =
    sym (map-map (λ (u : PlainUser). u.number) (λ (s : UserSeat g.row.K.Denot). user_of s.session) users) ∙ ap (λ (l : List PlainUser). map (λ (u : PlainUser). u.number) l) (c.fill-users.ensures.users ∙ kept) in
    let hall : Hall g.row.G.Denot = record { stile = start.stile; users = start.numbers; gate = c.args.gate } in
    let back = row_returned c.args.ten c.args.twenty users start.seats.items c.seat_all-tasks.result.items c.serve_all-tasks.result.items c.seat_all-tasks.ensures c.serve_all-tasks.ensures.names in
    let stand = stand_in_hall g.X.Replier.forgets g.X.Replier.replies g.X.Replier.wants g.Y.Replier.forgets g.Y.Replier.replies g.Y.Replier.wants g.K.Shelf.told g.K.Shelf.faults hall c.serve_all-tasks.result.items c.serve_all-tasks.ensures.stand in
    let apart = c.take_all_apart-apart.result in
    let is = c.take_all_apart-apart.ensures back.row in
    let returned = numbers_returned g.X.Replier.forgets g.X.Replier.replies g.X.Replier.wants g.Y.Replier.forgets g.Y.Replier.replies g.Y.Replier.wants g.K.Shelf.told g.K.Shelf.faults hall c.args.ten c.args.twenty users c.serve_all-tasks.result.items back apart is stand in
    subst Ascend (sym (returned ∙ same)) c.users.ensures.bundle.ascending

pub close-requires-clause-room : goal.close-requires-clause-room
close-requires-clause-room g c =
    let start = c.in-Ok.start in
    let users = c.fill-users.result.items in
    let back = row_returned c.args.ten c.args.twenty users start.seats.items c.seat_all-tasks.result.items c.serve_all-tasks.result.items c.seat_all-tasks.ensures c.serve_all-tasks.ensures.names in
    let apart = c.take_all_apart-apart.result in
    let is = c.take_all_apart-apart.ensures back.row in
    let many = as_many_back c.args.ten c.args.twenty users c.serve_all-tasks.result.items back apart is in
    omega (arith, many.0, apart.users.ok.0, c.fill-users.result.ok.0, c.fill-users.ensures.room)

pub returns-clause-run : goal.returns-clause-run
returns-clause-run g c =
    let start = c.in-Ok.start in
    let users = c.fill-users.result.items in
    let numbers = plain_numbers c.users.result.now c.args.bundle.users c.users.ensures.value in
    let kept : map plain_user c.into_vec.result.items ≡ c.args.bundle.users = c.into_vec.ensures.value ∙ ap (λ (b : PlainBundle). b.users) c.into_parts-users.ensures.value in
    let hall : Hall g.row.G.Denot = record { stile = start.stile; users = start.numbers; gate = c.args.gate } in
    let back = row_returned c.args.ten c.args.twenty users start.seats.items c.seat_all-tasks.result.items c.serve_all-tasks.result.items c.seat_all-tasks.ensures c.serve_all-tasks.ensures.names in
    let stand = stand_in_hall g.X.Replier.forgets g.X.Replier.replies g.X.Replier.wants g.Y.Replier.forgets g.Y.Replier.replies g.Y.Replier.wants g.K.Shelf.told g.K.Shelf.faults hall c.serve_all-tasks.result.items c.serve_all-tasks.ensures.stand in
    let apart = c.take_all_apart-apart.result in
    let is = c.take_all_apart-apart.ensures back.row in
    let result = c.close.result in
    let rest = c.fill-users.new.shelves.items in
    whole_more result.ended (λ transcripts journal. EndsWhole g.K.Shelf.told g.K.Shelf.faults (users_of_stile start.stile) apart transcripts journal)
    (λ transcripts journal. IsSomeRun g.X.Replier.forgets g.X.Replier.replies g.Y.Replier.forgets g.Y.Replier.replies g.K.Shelf.told g.K.Shelf.faults c.args.bundle journal transcripts c.args.ten result.ten c.args.twenty result.twenty c.args.shelves.items result.shelves.items)
    (λ transcripts journal ended.
    let run = is_run g.X.Replier.forgets g.X.Replier.replies g.X.Replier.wants g.Y.Replier.forgets g.Y.Replier.replies g.Y.Replier.wants g.K.Shelf.told g.K.Shelf.faults start.stile c.args.bundle (c.in-Ok.ensures.members ∙ numbers) c.args.ten c.args.twenty users (c.fill-users.ensures.users ∙ kept) c.users.ensures.bundle.ascending c.serve_all-tasks.result.items back stand apart is transcripts journal ended
    (map (λ (s : UserSeat g.row.K.Denot). s.session.shelf) users) rest refl in
    subst₂ (λ (given back : List g.row.K.Denot). IsSomeRun g.X.Replier.forgets g.X.Replier.replies g.Y.Replier.forgets g.Y.Replier.replies g.K.Shelf.told g.K.Shelf.faults c.args.bundle journal transcripts c.args.ten result.ten c.args.twenty result.twenty given back) c.fill-users.ensures.shelves (sym c.close.ensures.shelves)
    (subst₂ (λ (x : g.row.X.Denot) (y : g.row.Y.Denot). IsSomeRun g.X.Replier.forgets g.X.Replier.replies g.Y.Replier.forgets g.Y.Replier.replies g.K.Shelf.told g.K.Shelf.faults c.args.bundle journal transcripts c.args.ten x c.args.twenty y (map (λ (s : UserSeat g.row.K.Denot). s.session.shelf) users ++ rest) (map (λ (s : UserSeat g.row.K.Denot). s.session.shelf) apart.users.items ++ rest))
    (sym c.close.ensures.ten) (sym c.close.ensures.twenty) run))
    c.close.ensures.whole

pub returns-clause-ten : goal.returns-clause-ten
returns-clause-ten g c =
    let start = c.in-Ok.start in
    let users = c.fill-users.result.items in
    let hall : Hall g.row.G.Denot = record { stile = start.stile; users = start.numbers; gate = c.args.gate } in
    let back = row_returned c.args.ten c.args.twenty users start.seats.items c.seat_all-tasks.result.items c.serve_all-tasks.result.items c.seat_all-tasks.ensures c.serve_all-tasks.ensures.names in
    let stand = stand_in_hall g.X.Replier.forgets g.X.Replier.replies g.X.Replier.wants g.Y.Replier.forgets g.Y.Replier.replies g.Y.Replier.wants g.K.Shelf.told g.K.Shelf.faults hall c.serve_all-tasks.result.items c.serve_all-tasks.ensures.stand in
    let apart = c.take_all_apart-apart.result in
    let is = c.take_all_apart-apart.ensures back.row in
    let came = both_came g.X.Replier.forgets g.X.Replier.replies g.X.Replier.wants g.Y.Replier.forgets g.Y.Replier.replies g.Y.Replier.wants g.K.Shelf.told g.K.Shelf.faults hall c.args.ten c.args.twenty users c.serve_all-tasks.result.items back apart is stand in
    subst (λ (end : g.row.X.Denot). CameTo g.X.Replier.forgets g.X.Replier.replies g.X.Replier.wants c.args.ten end) (sym c.close.ensures.ten) came.0

pub returns-clause-twenty : goal.returns-clause-twenty
returns-clause-twenty g c =
    let start = c.in-Ok.start in
    let users = c.fill-users.result.items in
    let hall : Hall g.row.G.Denot = record { stile = start.stile; users = start.numbers; gate = c.args.gate } in
    let back = row_returned c.args.ten c.args.twenty users start.seats.items c.seat_all-tasks.result.items c.serve_all-tasks.result.items c.seat_all-tasks.ensures c.serve_all-tasks.ensures.names in
    let stand = stand_in_hall g.X.Replier.forgets g.X.Replier.replies g.X.Replier.wants g.Y.Replier.forgets g.Y.Replier.replies g.Y.Replier.wants g.K.Shelf.told g.K.Shelf.faults hall c.serve_all-tasks.result.items c.serve_all-tasks.ensures.stand in
    let apart = c.take_all_apart-apart.result in
    let is = c.take_all_apart-apart.ensures back.row in
    let came = both_came g.X.Replier.forgets g.X.Replier.replies g.X.Replier.wants g.Y.Replier.forgets g.Y.Replier.replies g.Y.Replier.wants g.K.Shelf.told g.K.Shelf.faults hall c.args.ten c.args.twenty users c.serve_all-tasks.result.items back apart is stand in
    subst (λ (end : g.row.Y.Denot). CameTo g.Y.Replier.forgets g.Y.Replier.replies g.Y.Replier.wants c.args.twenty end) (sym c.close.ensures.twenty) came.1

pub returns-clause-shelves : goal.returns-clause-shelves
returns-clause-shelves g c =
    let start = c.in-Ok.start in
    let users = c.fill-users.result.items in
    let kept : map plain_user c.into_vec.result.items ≡ c.args.bundle.users = c.into_vec.ensures.value ∙ ap (λ (b : PlainBundle). b.users) c.into_parts-users.ensures.value in
    let many : length users ≡ length c.args.bundle.users = sym (length-map users (λ (s : UserSeat g.row.K.Denot). user_of s.session)) ∙ ap (λ (list : List PlainUser). length list) (c.fill-users.ensures.users ∙ kept) in
    let back = row_returned c.args.ten c.args.twenty users start.seats.items c.seat_all-tasks.result.items c.serve_all-tasks.result.items c.seat_all-tasks.ensures c.serve_all-tasks.ensures.names in
    let apart = c.take_all_apart-apart.result in
    let is = c.take_all_apart-apart.ensures back.row in
    let as_many = as_many_back c.args.ten c.args.twenty users c.serve_all-tasks.result.items back apart is in
    shelves_back (length c.args.bundle.users) users apart.users.items c.fill-users.new.shelves.items c.args.shelves.items c.close.result.shelves.items many (as_many.0 ∙ many) c.fill-users.ensures.shelves c.close.ensures.shelves
