use Rattle.std.proofs.Common.{refl}
use Rattle.apl_workspace.proofs.Tables.{put_is_reckoned, reckoned_fits}
use Rattle.apl_workspace.proofs.few_names.FewNames.fits.Goals as goal

pub returns : goal.returns
returns c = λ meaning is.
    reckoned_fits c.args.self.now c.args.name.now meaning _ c.args.most
    (put_is_reckoned _ c.args.self.now c.args.name.now meaning c.self.inside.weight c.weight_at.result c.args.weight _ c.args.most c.self.view_is c.self.invariant c.requires.limit c.weight_at.ensures.value is refl)
