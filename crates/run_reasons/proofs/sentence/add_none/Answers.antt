use Rattle.std.proofs.Common.{◌≡◌, ◌∙◌, ◌++◌, ap, codes, decimal, ℕ, List}
use Rattle.std.proofs.lemmas.Result.{on_ok_weaker}
use Rattle.run_reasons.proofs.TextLemmas.{four}
use Rattle.run_reasons.proofs.sentence.add_none.Goals as goal

pub returns : goal.returns
returns c =
    on_ok_weaker c.add_text-2.result
    (λ (h : c.add_text-2.new.line.items ≡ c.add_glyphs.new.line.items ++ codes " before this entry.").
    four _ _ _ _ _ _ _ _ _
    (c.in_ok-add_count.ensures.text ∙ ap (λ (n : ℕ). c.args.line.now.items ++ decimal n) c.from.ensures)
    c.in_ok-add_text.ensures.text
    (c.in_ok-add_glyphs.ensures.text ∙ ap (λ (t : List ℕ). c.add_text.new.line.items ++ t) c.glyphs.ensures.value)
    h)
    c.add_text-2.ensures.text
