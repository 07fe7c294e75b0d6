use Rattle.std.proofs.Common.{ℕ, ap₂, refl, subst}
use Rattle.std.proofs.lemmas.Result.{IfOk-at_ok}
use Rattle.bundle_text.specs.Breaks.{Breaks}
use Rattle.bundle_text.specs.Refused.{IsRefusal}
use Rattle.bundle_text.specs.declared.refused.BundleRefused.{BundleRefused}
use Rattle.bundle_text.specs.declared.refused.BundleRule.{BundleRule}
use Rattle.check_rules.specs.Verdict.{IsVerdict}
use Rattle.check_rules.specs.declared.verdict.Verdict.{Verdict}
use Rattle.aplsv_top.specs.declared.status.Status.TheVariants as status
use Rattle.aplsv_top.proofs.Causes.{given, used_up}
use Rattle.aplsv_top.proofs.CheckCauses.{check_for_ending, check_ran_out, part_refused, written_found}
use Rattle.aplsv_top.proofs.checking.answer.Goals as goal

pub returns-in-Err-Malformed-clause-causes : goal.returns-in-Err-Malformed-clause-causes
returns-in-Err-Malformed-clause-causes g c =
    let arm = c.in-Err-Malformed in
    let refused : Breaks c.parts_of.result.0.now arm.offset arm.rule = subst (λ (why : BundleRefused). IsRefusal why (Breaks c.parts_of.result.0.now)) arm.field-0-is arm.ensures.breaks in
    check_for_ending _ (status.Malformed arm.offset arm.rule) (given c.args.input.now) used_up
    (record { bytes = g.W.Sink.held c.args.output.now; faults = g.W.Sink.faults c.args.output.now }) (record { bytes = g.W.Sink.held c.args.output.now; faults = g.W.Sink.faults c.args.output.now })
    (ap₂ (λ (offset : ℕ) (rule : BundleRule). status.Malformed offset rule) arm.offset-is arm.rule-is)
    (part_refused c.args.input.now c.parts_of.result.0.now c.parts_of.result.1.now arm.offset arm.rule (record { bytes = g.W.Sink.held c.args.output.now; faults = g.W.Sink.faults c.args.output.now }) c.requires.few c.parts_of.ensures refused)

pub returns-in-Err-WantOfMemory-clause-causes : goal.returns-in-Err-WantOfMemory-clause-causes
returns-in-Err-WantOfMemory-clause-causes g c = check_ran_out c.args.input.now (record { bytes = g.W.Sink.held c.args.output.now; faults = g.W.Sink.faults c.args.output.now }) c.requires.few

pub returns-in-Ok-found-clause-causes : goal.returns-in-Ok-found-clause-causes
returns-in-Ok-found-clause-causes g c =
    let verdict_is = IfOk-at_ok (λ (v : Verdict). IsVerdict c.in-Ok.bundle c.parts_of.result.1.now v) c.in-Ok-found.is c.check-found.ensures.verdict in
    written_found c.args.input.now c.in-Ok-found.found c.say.result
    (record { bytes = g.W.Sink.held c.args.output.now; faults = g.W.Sink.faults c.args.output.now }) (record { bytes = g.W.Sink.held c.say.new.output; faults = g.W.Sink.faults c.say.new.output })
    c.requires.few
    (record { part = c.parts_of.result.0.now; text = c.parts_of.result.1.now; split = c.parts_of.ensures; bundle = c.in-Ok.bundle; read = c.in-Ok.ensures.bundle; verdict_is = verdict_is; said = refl })
    c.say.ensures.written

pub returns-in-Err-clause-causes : goal.returns-in-Err-clause-causes
returns-in-Err-clause-causes g c = check_ran_out c.args.input.now (record { bytes = g.W.Sink.held c.args.output.now; faults = g.W.Sink.faults c.args.output.now }) c.requires.few
