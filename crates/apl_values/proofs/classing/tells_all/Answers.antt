use Rattle.std.proofs.Common.{◌∙◌, rules, sym, tests}
use Rattle.std.proofs.lemmas.Iterator.{YieldsList-from_slice}
use Rattle.std.proofs.lemmas.Iterator.Search.{all_from_yields_List}
use Rattle.std.proofs.lemmas.List.Folds.{list_all-map}
use Rattle.line_scanner.specs.Token.{plain_token}
use Rattle.apl_values.specs.Classing.{is_token_told}
use Rattle.apl_values.proofs.classing.tells_all.Goals as goal

pub returns : goal.returns
returns c =
    all_from_yields_List (λ token. is_token_told c.args.workspace.now c.args.classes.now.items (plain_token token)) _ _ c.all.result c.all.ensures.ran (YieldsList-from_slice c.args.tokens.now cc) (λ x b q k. search (rules, tests))
    ∙ sym (list_all-map (is_token_told c.args.workspace.now c.args.classes.now.items) plain_token c.args.tokens.now)
