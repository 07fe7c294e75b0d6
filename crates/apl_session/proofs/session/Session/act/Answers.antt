use Rattle.std.proofs.Common.{sym, ap, ◌∙◌}
use Rattle.apl_session.specs.PlainSession.{PlainSession, asked}
use Rattle.apl_session.specs.declared.session.SessionStage.{SessionStage}
use Rattle.apl_session.proofs.Around.{open_stays}
use Rattle.apl_session.proofs.session.Session.act.Goals as goal

pub returns-clause-act : goal.returns-clause-act
returns-clause-act g c = c.open_act.ensures ∙ ap asked c.self.view_is

pub returns-clause-present : goal.returns-clause-present
returns-clause-present g c = λ lives.
    let inside = c.self.inside in
    open_stays inside.lines.items inside.receipts.items inside.progress inside.stage _ (c.self.invariant (λ failed. lives (sym (ap (λ (s : PlainSession _). s.stage) c.self.view_is) ∙ failed))) c.open_act.ensures
