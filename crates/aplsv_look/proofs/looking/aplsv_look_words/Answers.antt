use Rattle.std.proofs.Common.{◌≡◌, Err, ap, subst}
use Rattle.aplsv_words.specs.declared.look.Look.{Look}
use Rattle.aplsv_look.specs.Causes.{HasLookCause}
use Rattle.aplsv_look.proofs.LookCauses.{lacked_memory, look_concluded}
use Rattle.aplsv_look.proofs.looking.aplsv_look_words.Goals as goal

pub returns-in-Ok-clause-causes : goal.returns-in-Ok-clause-causes
returns-in-Ok-clause-causes g c = λ look means.
    let same : c.in-Ok.look ≡ look = c.in-Ok.ensures.only look means in
    subst (λ (one : Look). HasLookCause one c.looked.result
    (record { bytes = g.S.Source.left c.args.input.now; faults = g.S.Source.faults c.args.input.now }) (record { bytes = g.S.Source.left c.looked.new.input; faults = g.S.Source.faults c.looked.new.input })
    (record { bytes = g.W.Sink.held c.args.output.now; faults = g.W.Sink.faults c.args.output.now }) (record { bytes = g.W.Sink.held c.looked.new.output; faults = g.W.Sink.faults c.looked.new.output })) same c.looked.ensures.causes

pub returns-in-Ok-clause-complete : goal.returns-in-Ok-clause-complete
returns-in-Ok-clause-complete g c = λ look means few reads_well writes_well.
    look_concluded c.in-Ok.look c.looked.result
    (record { bytes = g.S.Source.left c.args.input.now; faults = g.S.Source.faults c.args.input.now }) (record { bytes = g.S.Source.left c.looked.new.input; faults = g.S.Source.faults c.looked.new.input })
    (record { bytes = g.W.Sink.held c.args.output.now; faults = g.W.Sink.faults c.args.output.now }) (record { bytes = g.W.Sink.held c.looked.new.output; faults = g.W.Sink.faults c.looked.new.output })
    c.looked.ensures.causes c.looked.ensures.usage few reads_well writes_well

pub returns-in-Ok-clause-meaningless : goal.returns-in-Ok-clause-meaningless
returns-in-Ok-clause-meaningless g c = λ none. absurd (none c.in-Ok.look c.in-Ok.ensures.means)

pub returns-in-Ok-clause-unread : goal.returns-in-Ok-clause-unread
returns-in-Ok-clause-unread g c = λ none. absurd (none c.in-Ok.look c.in-Ok.ensures.means)

pub returns-in-Err-WantOfMemory-clause-causes : goal.returns-in-Err-WantOfMemory-clause-causes
returns-in-Err-WantOfMemory-clause-causes g c = λ look means.
    lacked_memory look (record { bytes = g.S.Source.left c.args.input.now; faults = g.S.Source.faults c.args.input.now }) (record { bytes = g.W.Sink.held c.args.output.now; faults = g.W.Sink.faults c.args.output.now })

pub returns-in-Err-Usage-clause-usage : goal.returns-in-Err-Usage-clause-usage
returns-in-Err-Usage-clause-usage g c = λ same look means. c.in-Err-Usage.ensures.usage (ap Err c.in-Err-Usage.field-0-is) look means

pub returns-in-Err-Usage-clause-complete : goal.returns-in-Err-Usage-clause-complete
returns-in-Err-Usage-clause-complete g c = λ look means few reads_well writes_well. c.in-Err-Usage.ensures.usage (ap Err c.in-Err-Usage.field-0-is) look means
