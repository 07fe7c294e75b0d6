use Rattle.std.proofs.Common.{◌∙◌, rules, tests}
use Rattle.std.proofs.lemmas.Iterator.{YieldsList-from_slice}
use Rattle.std.proofs.lemmas.Iterator.Search.{all_from_yields_List}
use Rattle.apl_arrays.specs.List.{glyphs_in}
use Rattle.apl_workspace.specs.Function.{is_short}
use Rattle.apl_workspace.proofs.Whole.{all_mapped}
use Rattle.apl_workspace.proofs.function.all_short.Goals as goal

pub returns : goal.returns
returns c =
    all_from_yields_List (λ line. is_short (glyphs_in line)) _ _ c.all.result c.all.ensures.ran (YieldsList-from_slice c.args.lines.now cc) (λ x b q k. search (rules, tests)) ∙ all_mapped c.args.lines.now
