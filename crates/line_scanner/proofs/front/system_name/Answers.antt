use Rattle.std.proofs.Common.{◌==◌, ◌∙◌, rules, tests}
use Rattle.std.specs.List.{starts_with}
use Rattle.std.proofs.lemmas.Iterator.{YieldsList-from_slice}
use Rattle.std.proofs.lemmas.Iterator.Search.{find_from_yields_List}
use Rattle.apl_arrays.specs.System.{system_names, system_text}
use Rattle.line_scanner.proofs.front.system_name.Goals as goal

pub returns : goal.returns
returns c =
    c.copied.ensures ∙ find_from_yields_List (λ which. starts_with ◌==◌ c.args.glyphs.now (system_text which)) _ _ c.find.result c.find.ensures.ran (YieldsList-from_slice system_names cc) (λ x b q k. search (rules, tests))
