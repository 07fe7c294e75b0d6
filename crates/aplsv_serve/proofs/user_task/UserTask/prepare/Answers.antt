use Rattle.std.specs.Prelude.{◌≤◌}
use Rattle.sv_turn.specs.Seating.{known_of, spare_of}
use Rattle.aplsv_serve.specs.UserTasks.{lent_to}
use Rattle.aplsv_serve.proofs.UserTurns.{found, with_room}
use Rattle.aplsv_serve.proofs.user_task.UserTask.prepare.Goals as goal

pub returns-in-Ok-clause-about : goal.returns-in-Ok-clause-about
returns-in-Ok-clause-about g c =
    let known = known_of c.args.self.now.seat in
    let lent = lent_to c.args.self.now in
    with_room g.K.Shelf.told g.K.Shelf.faults (2 ≤ spare_of c.make_room.new.self.seat) known lent c.prepare.new.self c.make_room.new.self.user c.in-Ok.intent c.make_room.result
    (found g.K.Shelf.told g.K.Shelf.faults known lent c.args.self.now.user c.prepare.new.self c.in-Ok.intent c.requires.stays (c.requires.far c.if-self.false) c.in-Ok.ensures.finds)
    c.make_room.ensures.about
