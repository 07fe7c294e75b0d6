use Rattle.std.proofs.Common.{◌≡◌, ◌∙◌, ◌++◌, ap, codes, decimal, ℕ, List}
use Rattle.std.proofs.lemmas.Result.{on_ok_weaker}
use Rattle.run_reasons.proofs.TextLemmas.{ten}
use Rattle.run_reasons.proofs.sentence.add_offer.Goals as goal

pub returns : goal.returns
returns c =
    on_ok_weaker c.add_text-5.result
    (λ (h : c.add_text-5.new.line.items ≡ c.add_count-2.new.line.items ++ codes ".").
    ten _ _ _ _ _ _ _ _ _ _ _ _ _ _ _ _ _ _ _ _ _
    (c.in_ok-add_count.ensures.text ∙ ap (λ (n : ℕ). c.args.line.now.items ++ decimal n) c.from.ensures)
    c.in_ok-add_text.ensures.text
    (c.in_ok-add_glyphs.ensures.text ∙ ap (λ (t : List ℕ). c.add_text.new.line.items ++ t) c.glyphs.ensures.value)
    c.in_ok-add_text-2.ensures.text
    c.in_ok-add_to.ensures
    c.in_ok-add_text-3.ensures.text
    (c.in_ok-add_glyphs-2.ensures.text ∙ ap (λ (t : List ℕ). c.add_text-3.new.line.items ++ t) c.glyphs-2.ensures.value)
    c.in_ok-add_text-4.ensures.text
    c.in_ok-add_count-2.ensures.text
    h)
    c.add_text-5.ensures.text
