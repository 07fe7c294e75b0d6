use Rattle.std.proofs.Common.{ℕ, List, subst}
use Rattle.aplsv_look.specs.Causes.{IsWriting, ToldBytes}
use Rattle.aplsv_look.specs.Statuses.{status_refused}
use Rattle.aplsv_look.proofs.LookCauses.{look_refused, sight_written, cause_for, given, used_up}
use Rattle.aplsv_look.proofs.looking.shown.Goals as goal

pub returns-in-Ok-clause-causes : goal.returns-in-Ok-clause-causes
returns-in-Ok-clause-causes g c =
    let sink : ToldBytes = record { bytes = g.W.Sink.held c.args.output.now; faults = g.W.Sink.faults c.args.output.now } in
    let grown : ToldBytes = record { bytes = g.W.Sink.held c.write.new.output; faults = g.W.Sink.faults c.write.new.output } in
    let writing = subst (λ (text : List ℕ). IsWriting sink.bytes grown.bytes sink.faults grown.faults text c.write.result) c.deref.ensures.value c.write.ensures in
    sight_written c.args.look c.args.input.now c.in-Ok.sight.items sink grown c.write.result c.requires.few c.in-Ok.ensures.sight writing

pub returns-in-Err-clause-causes : goal.returns-in-Err-clause-causes
returns-in-Err-clause-causes g c =
    let sink : ToldBytes = record { bytes = g.W.Sink.held c.args.output.now; faults = g.W.Sink.faults c.args.output.now } in
    cause_for c.args.look c.status_refused.result (status_refused c.in-Err.why) (given c.args.input.now) used_up sink sink c.status_refused.ensures
    (look_refused c.args.look c.args.input.now c.in-Err.why sink c.requires.few c.in-Err.ensures.refused)
