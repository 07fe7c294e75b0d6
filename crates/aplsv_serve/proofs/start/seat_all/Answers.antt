use Rattle.std.proofs.Common.{◌<◌, ◌∙◌, ◌++◌, ◌∷◌, [], List, ap, arith, length, subst}
use Rattle.party_turns.proofs.Rows.{front_and_rest}
use Rattle.aplsv_serve.specs.Starts.{AreSeatedBehind}
use Rattle.aplsv_serve.specs.declared.party_task.PartyTask.{PartyTask}
use Rattle.aplsv_serve.specs.declared.party_task.PartyTask.TheVariants as variant
use Rattle.aplsv_serve.proofs.Rows.{all_seated}
use Rattle.aplsv_serve.proofs.start.seat_all.Goals as goal

pub returns : goal.returns
returns g c =
    let others = c.remove-first.new.self in
    let rest = c.remove-second.new.self in
    let some : 0 < length c.args.seats.items = omega (arith, c.args.seats.ok.0, c.requires.seats) in
    let one = front_and_rest c.args.seats.items others.items c.remove-first.result some c.remove-first.ensures.value c.remove-first.ensures.by_index.2 in
    let more : 0 < length others.items = omega (arith, others.ok.0, c.remove-first.ensures.len, c.requires.seats) in
    let two = front_and_rest others.items rest.items c.remove-second.result more c.remove-second.ensures.value c.remove-second.ensures.by_index.2 in
    let two_first = c.push_reserved-2.ensures.items
    ∙ ap (λ (l : List (PartyTask g.row.X.Denot g.row.Y.Denot g.row.K.Denot)). l ++ variant.TextFiles c.new-2.result ∷ [])
    (c.push_reserved.ensures.items ∙ ap (λ (l : List (PartyTask g.row.X.Denot g.row.Y.Denot g.row.K.Denot)). l ++ variant.Clock c.new.result ∷ []) c.requires.room.0) in
    all_seated c.args.ten c.args.twenty c.args.users.items c.args.seats.items others.items rest.items c.remove-first.result c.remove-second.result c.new.result c.new-2.result c.seat_users.result.items one two
    (record { auxiliary = c.new.ensures.auxiliary; going = c.new.ensures.seat.1; began = c.new.ensures.seat.2 }) c.new.ensures.seat.0 (record { auxiliary = c.new-2.ensures.auxiliary; going = c.new-2.ensures.seat.1; began = c.new-2.ensures.seat.2 }) c.new-2.ensures.seat.0
    (subst (λ (l : List (PartyTask g.row.X.Denot g.row.Y.Denot g.row.K.Denot)). AreSeatedBehind l c.args.users.items [] rest.items c.seat_users.result.items) two_first c.seat_users.ensures)
