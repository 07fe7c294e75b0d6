use Rattle.std.proofs.Common.{ℕ, ap, subst, sym, ◌∙◌}
use Rattle.std.proofs.lemmas.Result.{on_ok_weaker}
use Rattle.apl_meaning.specs.Meaning.{most_statements}
use Rattle.session_rules.specs.Session.{statement_done}
use Rattle.apl_session.specs.Standing.{IsAt}
use Rattle.apl_session.specs.declared.progress.Progress.{Progress}
use Rattle.apl_session.proofs.Moves.{refused_by}
use Rattle.apl_session.proofs.progress.Progress.evaluate.Goals as goal

pub returns-in-Ok-Tree-clause-stands : goal.returns-in-Ok-Tree-clause-stands
returns-in-Ok-Tree-clause-stands g c = on_ok_weaker c.begin.result (λ goes lines answers exchanges at last. goes lines answers exchanges at) c.begin.ensures.stands

pub returns-in-Err-clause-stands : goal.returns-in-Err-clause-stands
returns-in-Err-clause-stands g c =
    let p : Progress = c.args.self.now in
    on_ok_weaker c.end_by.result
    (λ ends lines answers exchanges at last.
    refused_by lines c.args.line.now.items answers exchanges p.terminal c.workspace.result.now c.in-Err.fail c.end_by.new.self (ap (λ (q : Progress). q.under_way) c.end_by.ensures.rest ∙ c.requires.none) ends c.workspace.ensures.value c.workspace.ensures.frames c.requires.free c.in-Err.ensures.refused
    (subst (λ (k : ℕ). IsAt lines answers exchanges k (statement_done most_statements c.args.line.now.items) p.terminal) (sym (ap (λ (q : Progress). q.read) c.end_by.ensures.rest)) at))
    c.end_by.ensures.ends
