use Rattle.std.proofs.Common.{◌∙◌, ap}
use Rattle.std.specs.List.{list_all}
use Rattle.sv_rules.specs.Work.{is_halted}
use Rattle.sv_core.specs.Core.{PlainCore}
use Rattle.sv_core.proofs.processor.Core.all_halt.Goals as goal

pub returns : goal.returns
returns c =
    c.halt.ensures ∙ ap (list_all (is_halted c.args.self.now.journal)) c.users.ensures
    ∙ ap (λ (v : PlainCore). list_all (is_halted c.args.self.now.journal) v.users) c.self.view_is
