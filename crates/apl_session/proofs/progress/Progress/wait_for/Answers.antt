use Rattle.std.proofs.Common.{refl}
use Rattle.apl_session.proofs.Moves.{waits_for}
use Rattle.apl_session.proofs.progress.Progress.wait_for.Goals as goal

pub returns-clause-pauses : goal.returns-clause-pauses
returns-clause-pauses c = waits_for c.args.machine c.args.act c.args.self.now _ c.replace.ensures.after refl
