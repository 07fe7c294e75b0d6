use Rattle.std.proofs.Common.{◌≡◌, ◌∙◌, ◌++◌, ap, codes, decimal, ℕ}
use Rattle.std.proofs.lemmas.Result.{on_ok_weaker}
use Rattle.run_reasons.proofs.TextLemmas.{four}
use Rattle.run_reasons.proofs.sentence.add_wait.Goals as goal

pub returns : goal.returns
returns c =
    on_ok_weaker c.add_text-2.result
    (λ (h : c.add_text-2.new.line.items ≡ c.add_count-2.new.line.items ++ codes ".").
    four _ _ _ _ _ _ _ _ _
    (c.in_ok-add_count.ensures.text ∙ ap (λ (n : ℕ). c.args.line.now.items ++ decimal n) c.from.ensures)
    c.in_ok-add_text.ensures.text
    c.in_ok-add_count-2.ensures.text
    h)
    c.add_text-2.ensures.text
