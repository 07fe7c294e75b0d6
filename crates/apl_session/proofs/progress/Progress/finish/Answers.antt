use Rattle.std.proofs.Common.{ap, ◌∙◌}
use Rattle.apl_terminal.specs.Terminal.{PlainTerminal}
use Rattle.apl_workspace.specs.Workspace.{PlainWorkspace}
use Rattle.apl_session.proofs.progress.Progress.finish.Goals as goal

pub returns : goal.returns
returns c =
    ap (λ (t : PlainTerminal). record c.args.self.now { terminal = t })
    (c.take_back.ensures ∙ ap (λ (w : PlainWorkspace). record c.args.self.now.terminal { workspace = w }) c.leave-workspace.ensures)
