use Rattle.std.proofs.Common.{◌≡◌, ◌∙◌, ◌++◌, ap, codes, ℕ, List}
use Rattle.std.proofs.lemmas.Result.{on_ok_weaker}
use Rattle.run_reasons.proofs.TextLemmas.{eight}
use Rattle.run_reasons.proofs.sentence.add_set_control.Goals as goal

pub returns : goal.returns
returns c =
    on_ok_weaker c.add_text-5.result
    (λ (h : c.add_text-5.new.line.items ≡ c.add_counted.new.line.items ++ codes ".").
    eight _ _ _ _ _ _ _ _ _ _ _ _ _ _ _ _ _
    c.in_ok-add_text.ensures.text
    c.in_ok-add_count.ensures.text
    c.in_ok-add_text-2.ensures.text
    c.in_ok-add_elements.ensures
    c.in_ok-add_text-3.ensures.text
    (c.in_ok-add_text-4.ensures.text ∙ ap (λ (t : List ℕ). c.add_text-3.new.line.items ++ t) c.side_text.ensures.text)
    c.in_ok-add_counted.ensures
    h)
    c.add_text-5.ensures.text
