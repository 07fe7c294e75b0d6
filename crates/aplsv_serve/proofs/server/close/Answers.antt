use Rattle.std.proofs.Common.{◌≡◌, ◌∙◌, ◌&&◌, List, ap, not, subst, sym}
use Rattle.std.specs.Prelude.{All, Vec}
use Rattle.std.specs.declared.alloc.Global.{Global}
use Rattle.sv_core.specs.Core.{PlainCore}
use Rattle.sv_events.specs.Entry.{PlainEntry}
use Rattle.sv_turn.specs.declared.seat.Seat.{Seat}
use Rattle.session_rules.specs.Auxiliaries.{some_stay}
use Rattle.party_turns.specs.Seats.{none_lost, seat_numbers}
use Rattle.party_turns.specs.declared.seat.UserSeat.{UserSeat}
use Rattle.aplsv_serve.specs.Ends.{HasAllOf}
use Rattle.aplsv_serve.specs.Halls.{users_of_stile}
use Rattle.aplsv_serve.proofs.Endings.{ends_so, have_all}
use Rattle.aplsv_serve.proofs.server.close.Goals as goal

pub returns-clause-whole : goal.returns-clause-whole
returns-clause-whole g c =
    let out = c.close-core.result.0 in
    let core = c.into_core-core.result in
    let same : core ≡ out = c.into_core-core.ensures in
    let ten = c.args.apart.ten in
    let twenty = c.args.apart.twenty in
    let over =
    subst (λ (users : List (UserSeat g.row.K.Denot)). c.is_over-is_whole.result ≡ ((not ten.is_lost && not twenty.is_lost && none_lost users) && not (some_stay (seat_numbers users) core.journal))) c.deref.ensures.value c.is_over-is_whole.ensures in
    let have = subst (λ (k : PlainCore). All (HasAllOf k.journal) c.of_vec.result.list.items) (sym same)
    (have_all out.journal c.of_vec.result.list.items c.close-core.result.1.list.items c.close-core.ensures.same c.close-core.ensures.places c.close-core.ensures.known) in
    ends_so g.K.Shelf.told g.K.Shelf.faults (users_of_stile c.args.stile) c.args.apart core c.take_apart-transcripts.result c.into_journal.result c.is_over-is_whole.result c.end_of.result c.end_of.ensures over c.take_apart-transcripts.ensures.transcripts
    c.into_journal.ensures.value c.into_journal.ensures.legal (ap (λ (k : PlainCore). k.users) same ∙ c.close-core.ensures.members) (subst (λ (seats : Vec (Seat PlainEntry) Global). All (HasAllOf core.journal) seats.items) c.of_vec.ensures have)
