use Rattle.std.proofs.Common.{◌≡◌, ap, ap₂, ◌∙◌, ◌++◌, List, Option}
use Rattle.line_text.specs.Lines.{lines_text}
use Rattle.sv_events.specs.declared.event.Hold.{Hold}
use Rattle.sv_rules.specs.Coupling.{coupling_at, coupling_now}
use Rattle.sv_rules.specs.Journal.{journal_of}
use Rattle.sv_rules.specs.declared.coupling.Coupling.{Coupling}
use Rattle.sv_rules.specs.declared.coupling.Made.{Made}
use Rattle.sv_rules.specs.declared.standing.Standing.{Standing}
use Rattle.run_reasons.specs.Ground.{ground_of}
use Rattle.run_reasons.specs.Why.{lines_by, lines_on}
use Rattle.run_reasons.specs.declared.ground.GroundFacts.{GroundFacts}
use Rattle.run_reasons.proofs.why.add_offered.Goals as goal

pub returns : goal.returns
returns c =
    let journal = journal_of c.args.entries.now in
    let basis = ground_of journal c.args.offer.now c.coupling_at-coupling.result in
    let now : c.coupling_at-coupling.result ≡ coupling_now journal c.args.offer.now.place =
    c.coupling_at-coupling.ensures ∙ ap₂ (λ (offers : List Standing) (coupled : List Made). coupling_at offers coupled c.args.offer.now.place) c.requires (c.deref.ensures.value ∙ c.in_ok-coupled.ensures) in
    c.in_ok-add_lines.ensures
    ∙ ap₂ (λ (facts : GroundFacts) (hold : Option Hold). c.args.bytes.now.items ++ lines_text (lines_by journal c.args.row.now facts hold))
    c.in_ok-facts.ensures (c.ground_hold-hold.ensures basis c.in_ok-facts.ensures)
    ∙ ap (λ (k : Option Coupling). c.args.bytes.now.items ++ lines_text (lines_on journal c.args.row.now (ground_of journal c.args.offer.now k))) now
