use Rattle.std.proofs.Common.{◌≡◌, ◌∷◌, ◌++◌, [], ap, subst, sym, ◌∙◌}
use Rattle.std.proofs.lemmas.Result.{on_ok_weaker}
use Rattle.sv_events.specs.Answer.{PlainAnswer, plain_answer}
use Rattle.sv_events.specs.declared.row.AnswerRow.{AnswerRow}
use Rattle.apl_terminal.specs.Terminal.{PlainTerminal}
use Rattle.session_rules.specs.Commands.{command_end}
use Rattle.apl_session.specs.Standing.{IsBetween, MayAdvance}
use Rattle.apl_session.specs.declared.errand.Errand.{Errand}
use Rattle.apl_session.specs.declared.progress.Progress.{Progress}
use Rattle.apl_session.proofs.Commanding.{command_ended}
use Rattle.apl_session.proofs.Inside.{rests}
use Rattle.apl_session.proofs.progress.Progress.hear_command.Goals as goal

pub returns-in-Some-clause-heard : goal.returns-in-Some-clause-heard
returns-in-Some-clause-heard c =
    let p : Progress = c.args.self.now in
    let answer : PlainAnswer = plain_answer c.args.answer in
    on_ok_weaker c.name_alone.result
    (λ told lines answers exchanges h.
    rests lines (answers ++ answer ∷ []) exchanges (record p { terminal = c.name_alone.new.self }) c.requires.none
    (subst (λ (t : PlainTerminal). IsBetween lines (answers ++ answer ∷ []) exchanges p.read t) (sym told)
    (command_ended lines answers exchanges p.read p.terminal c.args.errand c.args.act.now answer c.in-Some.report c.requires.first (ap (λ (row : AnswerRow). command_end row.kind) (sym c.row.ensures) ∙ sym c.command_end.ensures ∙ c.in-Some.is) h)))
    c.name_alone.ensures
