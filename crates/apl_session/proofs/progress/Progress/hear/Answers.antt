use Rattle.std.proofs.Common.{◌≡◌, ℕ, List, [], ◌∷◌, ◌++◌, ap, subst, sym, ◌∙◌}
use Rattle.std.proofs.lemmas.Result.{on_ok_weaker}
use Rattle.std.specs.Prelude.{Err}
use Rattle.apl_machine.specs.Alone.{HasLed, Leads, answer_outcome}
use Rattle.apl_meaning.specs.State.{Effect, State}
use Rattle.apl_terminal.specs.Terminal.{PlainTerminal, printing}
use Rattle.apl_workspace.specs.Workspace.{PlainWorkspace}
use Rattle.sv_events.specs.Answer.{PlainAnswer, plain_answer}
use Rattle.apl_session.specs.Standing.{FailsBy, IsBetween}
use Rattle.apl_session.proofs.Lone.{heard_done, heard_fail}
use Rattle.apl_session.proofs.progress.Progress.hear.Goals as goal

pub returns-in-Ok-clause-heard : goal.returns-in-Ok-clause-heard
returns-in-Ok-clause-heard c =
    let t : PlainTerminal = c.args.self.now.terminal in
    let v : PlainWorkspace = c.hear_alone-heard.new.workspace in
    let out : List (List ℕ) = c.hear_alone-heard.new.output.items in
    let answer : PlainAnswer = plain_answer c.args.answer in
    let part : State → Effect = answer_outcome c.args.act.now answer in
    let led : Leads t.workspace [] part v out = subst (λ (w : PlainWorkspace). Leads w [] part v out) c.lend-workspace.ensures.lent (subst (λ (before : List (List ℕ)). Leads c.lend-workspace.result before part v out) c.new-lines.ensures c.in-Ok.ensures.led) in
    let there : c.print.new.self.terminal ≡ record t { workspace = v; transcript = t.transcript ++ out } = c.in_ok-print.ensures.ok ∙ ap (printing out) (c.take_back.ensures ∙ ap (λ (s : PlainTerminal). record s { workspace = v }) c.lend-workspace.ensures.left) in
    λ lines answers exchanges at alone.
    subst (λ (s : PlainTerminal). IsBetween lines (answers ++ answer ∷ []) exchanges c.args.self.now.read s) (sym there) (heard_done lines answers exchanges c.args.self.now.read t c.args.line.now.items c.args.act.now answer v out c.requires.free led at alone)

pub returns-in-Err-clause-heard : goal.returns-in-Err-clause-heard
returns-in-Err-clause-heard c =
    let t : PlainTerminal = c.args.self.now.terminal in
    let v : PlainWorkspace = c.hear_alone-heard.new.workspace in
    let out : List (List ℕ) = c.hear_alone-heard.new.output.items in
    let answer : PlainAnswer = plain_answer c.args.answer in
    let line : List ℕ = c.args.line.now.items in
    let part : State → Effect = answer_outcome c.args.act.now answer in
    let led : HasLed {T = Unit {0}} t.workspace [] part v out (Err c.in-Err.fail) =
    subst (λ (w : PlainWorkspace). HasLed {T = Unit {0}} w [] part v out (Err c.in-Err.fail)) c.lend-workspace.ensures.lent (subst (λ (before : List (List ℕ)). HasLed {T = Unit {0}} c.lend-workspace.result before part v out (Err c.in-Err.fail)) c.new-lines.ensures c.in-Err.ensures.led) in
    let there : c.print.new.self.terminal ≡ record t { workspace = v; transcript = t.transcript ++ out } = c.in_ok-print.ensures.ok ∙ ap (printing out) (c.take_back.ensures ∙ ap (λ (s : PlainTerminal). record s { workspace = v }) c.lend-workspace.ensures.left) in
    on_ok_weaker c.end_by.result
    (λ ends lines answers exchanges at alone.
    heard_fail lines answers exchanges c.args.self.now.read t c.end_by.new.self.terminal line c.args.act.now answer v out c.in-Err.fail c.requires.free led (c.hear_alone-heard.ensures.frames ∙ c.lend-workspace.ensures.frames)
    (subst (λ (s : PlainTerminal). FailsBy c.in-Err.fail line s c.end_by.new.self.terminal) there ends) at alone)
    c.end_by.ensures.ends
