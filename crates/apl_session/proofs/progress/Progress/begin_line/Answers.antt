use Rattle.std.proofs.Common.{◌≡◌, ℕ, true, false, List, refl}
use Rattle.std.proofs.lemmas.Result.{on_ok_weaker}
use Rattle.apl_terminal.specs.LineKind.{is_command, is_opening}
use Rattle.apl_terminal.specs.Terminal.{PlainTerminal}
use Rattle.apl_session.specs.Standing.{StandsIn}
use Rattle.apl_session.specs.declared.progress.Progress.{Progress}
use Rattle.apl_session.proofs.Moves.{command_on, none_answered, opened_on, statement_on}
use Rattle.apl_session.proofs.Progressing.{no_calls}
use Rattle.apl_session.proofs.progress.Progress.begin_line.Goals as goal

pub returns-in_ok-open-clause-stands : goal.returns-in_ok-open-clause-stands
returns-in_ok-open-clause-stands g c =
    let p : Progress = c.args.self.now in
    let line : List ℕ = c.args.line.now.items in
    let opens : is_opening line ≡ true = cc in
    λ lines answers exchanges at last.
    no_calls g.K.Shelf.told g.K.Shelf.faults c.args.user c.args.shelf.now c.args.shelf.now exchanges _ refl (opened_on lines line answers exchanges p.terminal c.echo_free.new.self _ opens c.in_ok-echo_free.ensures c.in_ok-open.ensures c.requires.none at)

pub returns-then-is_command-clause-stands : goal.returns-then-is_command-clause-stands
returns-then-is_command-clause-stands g c =
    let p : Progress = c.args.self.now in
    let line : List ℕ = c.args.line.now.items in
    let told : PlainTerminal = c.echo_free.new.self in
    let opens : is_opening line ≡ false = cc in
    let commands : is_command line ≡ true = cc in
    on_ok_weaker c.command.result
    (λ so. λ lines answers exchanges at last. so lines answers exchanges (command_on lines line answers exchanges p.read p.terminal told opens commands c.in_ok-echo_free.ensures at)) c.command.ensures.stands

pub returns-else-is_command-clause-stands : goal.returns-else-is_command-clause-stands
returns-else-is_command-clause-stands g c =
    let p : Progress = c.args.self.now in
    let line : List ℕ = c.args.line.now.items in
    let told : PlainTerminal = c.echo_free.new.self in
    let opens : is_opening line ≡ false = cc in
    let commands : is_command line ≡ false = cc in
    on_ok_weaker c.evaluate.result
    (λ so. λ lines answers exchanges at last.
    no_calls g.K.Shelf.told g.K.Shelf.faults c.args.user c.args.shelf.now c.args.shelf.now exchanges _ refl (so lines answers exchanges (statement_on lines line answers exchanges p.read p.terminal told opens commands c.in_ok-echo_free.ensures at) last)) c.evaluate.ensures.stands

pub returns-in_ok-open-clause-paused : goal.returns-in_ok-open-clause-paused
returns-in_ok-open-clause-paused g c = none_answered c.args.self.now.under_way c.requires.none

pub returns-then-is_command-clause-paused : goal.returns-then-is_command-clause-paused
returns-then-is_command-clause-paused g c = c.command.ensures.paused

pub returns-else-is_command-clause-paused : goal.returns-else-is_command-clause-paused
returns-else-is_command-clause-paused g c = c.evaluate.ensures.paused
