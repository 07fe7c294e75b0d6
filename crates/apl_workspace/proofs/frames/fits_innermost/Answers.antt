use Rattle.std.proofs.Common.{◌∙◌}
use Rattle.apl_workspace.proofs.Innermost.{frames_fit, is_put}
use Rattle.apl_workspace.specs.declared.meaning.Meaning.TheVariants.{Nothing}
use Rattle.apl_workspace.proofs.frames.fits_innermost.Goals as goal

pub returns : goal.returns
returns c = λ meaning is.
    let frames = c.args.frames.now in
    let at = c.args.at in
    let found = c.index-frames-at.result in
    let put = is_put frames found c.args.name.now meaning at c.weight.result c.args.weight c.requires.place c.index-frames-at.is c.weight.ensures.value c.requires.weight in
    c.fits.ensures meaning is ∙ frames_fit frames found c.args.name.now meaning at c.weight.result c.args.weight c.args.most put c.requires.within

pub overflow_sub-others : goal.overflow_sub-others
overflow_sub-others c =
    (is_put c.args.frames.now c.index-frames-at.result c.args.name.now Nothing c.args.at c.weight.result c.args.weight c.requires.place c.index-frames-at.is c.weight.ensures.value c.requires.weight).lighter
