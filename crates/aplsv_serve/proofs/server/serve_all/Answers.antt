use denote.Param.Send.{sendable}
use Rattle.std.proofs.Common.{All, List, subst, sym}
use Rattle.std.proofs.Crossing.{crosses}
use Rattle.sv_turn.proofs.seat.Seat.TheSendSync.{the_field_send as seat_send}
use Rattle.party_turns.proofs.auxiliary.Auxiliary.TheSendSync.{the_field_send as auxiliary_send}
use Rattle.party_turns.proofs.seat.UserSeat.TheSendSync.{the_field_send as user_send}
use Rattle.aplsv_serve.specs.Tasks.{PartyStands}
use Rattle.aplsv_serve.specs.declared.party_task.PartyTask.{PartyTask}
use Rattle.aplsv_serve.proofs.server.serve_all.Goals as goal

pub work_all-requires-send-T : goal.work_all-requires-send-T
work_all-requires-send-T g c κs within = search (sendable, crosses, seat_send, auxiliary_send, user_send) depth 40 fits 8000

pub returns-clause-stand : goal.returns-clause-stand
returns-clause-stand g c =
    subst (λ (list : List (PartyTask g.row.X.Denot g.row.Y.Denot g.row.K.Denot)). All (PartyStands g.X.Replier.forgets g.X.Replier.replies g.X.Replier.wants g.Y.Replier.forgets g.Y.Replier.replies g.Y.Replier.wants g.K.Shelf.told g.K.Shelf.faults c.args.hall.now) list) (sym c.in-Err.ensures.err) c.requires.stand
