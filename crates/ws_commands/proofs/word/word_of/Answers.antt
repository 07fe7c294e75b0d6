use Rattle.std.proofs.Common.{◌∙◌, rules, tests}
use Rattle.std.proofs.lemmas.Iterator.{YieldsList-from_slice}
use Rattle.std.proofs.lemmas.Iterator.Search.{find_from_yields_List}
use Rattle.apl_arrays.specs.Name.{same_name}
use Rattle.ws_commands.specs.Row.{all_words, row_of_word}
use Rattle.ws_commands.proofs.word.word_of.Goals as goal

pub returns : goal.returns
returns c =
    c.copied.ensures ∙ find_from_yields_List (λ which. same_name (row_of_word which).text c.args.text.now) _ _ c.find.result c.find.ensures.ran (YieldsList-from_slice all_words cc) (λ x b q k. search (rules, tests))
