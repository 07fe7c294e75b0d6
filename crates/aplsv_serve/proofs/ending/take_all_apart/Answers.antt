use Rattle.std.proofs.Common.{◌≡◌, ◌≤◌, ◌∙◌, ◌++◌, ◌∷◌, [], List, ap, arith, length, map, ◌+◌}
use Rattle.std.proofs.lemmas.List.{length_push}
use Rattle.sv_events.specs.Entry.{PlainEntry}
use Rattle.sv_turn.specs.declared.seat.Seat.{Seat}
use Rattle.party_turns.specs.declared.seat.UserSeat.{UserSeat}
use Rattle.aplsv_serve.specs.declared.party_task.PartyTask.{PartyTask}
use Rattle.aplsv_serve.specs.declared.party_task.PartyTask.TheVariants as variant
use Rattle.aplsv_serve.specs.declared.user_task.UserTask.{UserTask}
use Rattle.aplsv_serve.proofs.Rows.{first_of}
use Rattle.aplsv_serve.proofs.ending.take_all_apart.Goals as goal

pub clock_apart-ten-requires-clause-clock : goal.clock_apart-ten-requires-clause-clock
clock_apart-ten-requires-clause-clock g c =
    let row = c.requires.row in
    let first = first_of c.args.tasks.items c.remove.new.self.items (variant.TextFiles row.files ∷ map (λ (u : UserTask g.row.K.Denot). let t : PartyTask g.row.X.Denot g.row.Y.Denot g.row.K.Denot = variant.User u in t) row.users) c.remove.result (variant.Clock row.clock) row.is c.remove.ensures.value c.remove.ensures.by_index.2 in
    (row.clock, first.0)

pub files_apart-twenty-requires-clause-files : goal.files_apart-twenty-requires-clause-files
files_apart-twenty-requires-clause-files g c =
    let row = c.requires.row in
    let first = first_of c.args.tasks.items c.remove.new.self.items (variant.TextFiles row.files ∷ map (λ (u : UserTask g.row.K.Denot). let t : PartyTask g.row.X.Denot g.row.Y.Denot g.row.K.Denot = variant.User u in t) row.users) c.remove.result (variant.Clock row.clock) row.is c.remove.ensures.value c.remove.ensures.by_index.2 in
    let second = first_of c.remove.new.self.items c.remove-2.new.self.items (map (λ (u : UserTask g.row.K.Denot). let t : PartyTask g.row.X.Denot g.row.Y.Denot g.row.K.Denot = variant.User u in t) row.users) c.remove-2.result (variant.TextFiles row.files) first.1 c.remove-2.ensures.value c.remove-2.ensures.by_index.2 in
    (row.files, second.0)

pub files_apart-twenty-requires-clause-room : goal.files_apart-twenty-requires-clause-room
files_apart-twenty-requires-clause-room g c =
    let row = c.requires.row in
    let first = first_of c.args.tasks.items c.remove.new.self.items (variant.TextFiles row.files ∷ map (λ (u : UserTask g.row.K.Denot). let t : PartyTask g.row.X.Denot g.row.Y.Denot g.row.K.Denot = variant.User u in t) row.users) c.remove.result (variant.Clock row.clock) row.is c.remove.ensures.value c.remove.ensures.by_index.2 in
    let many : 2 ≤ length c.args.tasks.items = let e = ap (λ (l : List (PartyTask g.row.X.Denot g.row.Y.Denot g.row.K.Denot)). length l) row.is in omega arith in
    let seats : length c.clock_apart-ten.new.seats.items ≡ 1 = ap (λ (l : List (Seat PlainEntry)). length l) (c.clock_apart-ten.ensures.seats row.clock first.0 ∙ ap (λ (l : List (Seat PlainEntry)). l ++ row.clock.seat ∷ []) c.requires.seats.0) in
    omega (arith, c.args.tasks.ok.0, c.clock_apart-ten.new.seats.ok.0, c.requires.seats.1, c.clock_apart-ten.ensures.room)

pub take_users_apart-requires-clause-seats : goal.take_users_apart-requires-clause-seats
take_users_apart-requires-clause-seats g c =
    let row = c.requires.row in
    let first = first_of c.args.tasks.items c.remove.new.self.items (variant.TextFiles row.files ∷ map (λ (u : UserTask g.row.K.Denot). let t : PartyTask g.row.X.Denot g.row.Y.Denot g.row.K.Denot = variant.User u in t) row.users) c.remove.result (variant.Clock row.clock) row.is c.remove.ensures.value c.remove.ensures.by_index.2 in
    let second = first_of c.remove.new.self.items c.remove-2.new.self.items (map (λ (u : UserTask g.row.K.Denot). let t : PartyTask g.row.X.Denot g.row.Y.Denot g.row.K.Denot = variant.User u in t) row.users) c.remove-2.result (variant.TextFiles row.files) first.1 c.remove-2.ensures.value c.remove-2.ensures.by_index.2 in
    let many : 2 ≤ length c.args.tasks.items = let e = ap (λ (l : List (PartyTask g.row.X.Denot g.row.Y.Denot g.row.K.Denot)). length l) row.is in omega arith in
    let seats : length c.clock_apart-ten.new.seats.items ≡ 1 = ap (λ (l : List (Seat PlainEntry)). length l) (c.clock_apart-ten.ensures.seats row.clock first.0 ∙ ap (λ (l : List (Seat PlainEntry)). l ++ row.clock.seat ∷ []) c.requires.seats.0) in
    let both : length c.files_apart-twenty.new.seats.items ≡ length c.clock_apart-ten.new.seats.items + 1 =
    ap (λ (l : List (Seat PlainEntry)). length l) (c.files_apart-twenty.ensures.seats row.files second.0) ∙ length_push c.clock_apart-ten.new.seats.items row.files.seat in
    omega (arith, c.args.tasks.ok.0, c.clock_apart-ten.new.seats.ok.0, c.files_apart-twenty.new.seats.ok.0, c.requires.seats.1, c.clock_apart-ten.ensures.room, c.files_apart-twenty.ensures.room, c.remove.ensures.len, c.remove-2.ensures.len)

pub returns : goal.returns
returns g c = λ row.
    let first = first_of c.args.tasks.items c.remove.new.self.items (variant.TextFiles row.files ∷ map (λ (u : UserTask g.row.K.Denot). let t : PartyTask g.row.X.Denot g.row.Y.Denot g.row.K.Denot = variant.User u in t) row.users) c.remove.result (variant.Clock row.clock) row.is c.remove.ensures.value c.remove.ensures.by_index.2 in
    let second = first_of c.remove.new.self.items c.remove-2.new.self.items (map (λ (u : UserTask g.row.K.Denot). let t : PartyTask g.row.X.Denot g.row.Y.Denot g.row.K.Denot = variant.User u in t) row.users) c.remove-2.result (variant.TextFiles row.files) first.1 c.remove-2.ensures.value c.remove-2.ensures.by_index.2 in
    let apart = c.take_users_apart.ensures in
    record {
      ten = c.clock_apart-ten.ensures.auxiliary row.clock first.0;
      twenty = c.files_apart-twenty.ensures.auxiliary row.files second.0;
      users = apart.users row.users second.1 ∙ ap (λ (l : List (UserSeat g.row.K.Denot)). l ++ map (λ (u : UserTask g.row.K.Denot). u.user) row.users) c.requires.users.0;
      seats =
          apart.seats row.users second.1
          ∙ ap (λ (l : List (Seat PlainEntry)). l ++ map (λ (u : UserTask g.row.K.Denot). u.seat) row.users)
          (c.files_apart-twenty.ensures.seats row.files second.0
          ∙ ap (λ (l : List (Seat PlainEntry)). l ++ row.files.seat ∷ []) (c.clock_apart-ten.ensures.seats row.clock first.0 ∙ ap (λ (l : List (Seat PlainEntry)). l ++ row.clock.seat ∷ []) c.requires.seats.0));
    }
