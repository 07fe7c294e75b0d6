use Rattle.std.proofs.Common.{◌≡◌, ◌∙◌, ◌++◌, ap, codes, decimal, ℕ, List}
use Rattle.std.proofs.lemmas.Result.{on_ok_weaker}
use Rattle.sv_rules.specs.declared.standing.Standing.{Standing}
use Rattle.run_reasons.proofs.TextLemmas.{nine}
use Rattle.run_reasons.proofs.sentence.add_coupled.Goals as goal

pub returns : goal.returns
returns c =
    on_ok_weaker c.add_text-5.result
    (λ (h : c.add_text-5.new.line.items ≡ c.add_count-3.new.line.items ++ codes ".").
    nine _ _ _ _ _ _ _ _ _ _ _ _ _ _ _ _ _ _ _
    c.in_ok-add_text.ensures.text
    c.in_ok-add_count.ensures.text
    c.in_ok-add_text-2.ensures.text
    (c.in_ok-add_glyphs.ensures.text ∙ ap (λ (t : List ℕ). c.add_text-2.new.line.items ++ t) (c.glyphs.ensures.value ∙ ap (λ (o : Standing). o.local) c.partners_offer-partner.ensures))
    c.in_ok-add_text-3.ensures.text
    (c.in_ok-add_count-2.ensures.text ∙ ap (λ (n : ℕ). c.add_text-3.new.line.items ++ decimal n) (c.from.ensures ∙ ap (λ (o : Standing). o.party) c.partners_offer-partner.ensures))
    c.in_ok-add_text-4.ensures.text
    (c.in_ok-add_count-3.ensures.text ∙ ap (λ (o : Standing). c.add_text-4.new.line.items ++ decimal o.place) c.partners_offer-partner.ensures)
    h)
    c.add_text-5.ensures.text
