use Rattle.std.proofs.lemmas.Result.{on_ok_weaker}
use Rattle.sv_events.specs.Answer.{plain_answer}
use Rattle.apl_session.proofs.Commanding.{name_is_left, offer_is_left}
use Rattle.apl_session.proofs.progress.Progress.go_behind.Goals as goal

pub unshare_next-requires-clause-some : goal.unshare_next-requires-clause-some
unshare_next-requires-clause-some c = name_is_left c.args.errand c.args.self.now.terminal.workspace c.requires.first.0 c.in-Retracting.is c.requires.first.1

pub share_next-requires-clause-some : goal.share_next-requires-clause-some
share_next-requires-clause-some c = offer_is_left c.args.errand c.args.self.now.terminal.workspace c.requires.first.0 c.in-Remaking.is c.requires.first.1

pub returns-in-Remaking-clause-heard : goal.returns-in-Remaking-clause-heard
returns-in-Remaking-clause-heard c =
    on_ok_weaker c.share_next.result (λ so lines answers exchanges h. so lines answers exchanges (plain_answer c.args.answer) c.requires.goes h) c.share_next.ensures.heard
