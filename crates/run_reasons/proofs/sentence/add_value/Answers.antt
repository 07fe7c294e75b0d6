use Rattle.std.proofs.Common.{◌≡◌, ◌∙◌, ◌++◌, sym, ap, codes, Option}
use Rattle.std.proofs.lemmas.Result.{on_ok_weaker}
use Rattle.run_reasons.specs.Sentence.{value_sentence}
use Rattle.run_reasons.specs.declared.story.Source.{Source}
use Rattle.run_reasons.proofs.TextLemmas.{three}
use Rattle.run_reasons.proofs.sentence.add_value.Goals as goal

pub returns-in_ok-add_count-in-Some : goal.returns-in_ok-add_count-in-Some
returns-in_ok-add_count-in-Some c =
    on_ok_weaker c.add_text-in-Some-2.result
    (λ (h : c.add_text-in-Some-2.new.line.items ≡ c.add_count.new.line.items ++ codes ".").
    three _ _ _ _ _ _ _
    c.in_ok-add_text-in-Some.ensures.text
    c.in_ok-add_count-in-Some.ensures.text
    h
    ∙ ap (λ (s : Option Source). c.args.line.now.items ++ value_sentence s) (sym c.in-Some.is))
    c.add_text-in-Some-2.ensures.text
