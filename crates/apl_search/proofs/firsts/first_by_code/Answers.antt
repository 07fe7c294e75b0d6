use Rattle.std.proofs.Common.{◌≡◌, ◌==◌, ◌<◌, ◌≤◌, ℕ, length, get_or, sym, ap, subst, ◌∙◌, arith}
use Rattle.apl_search.proofs.ClassLemmas.{first_of_code, place_at_most}
use Rattle.apl_search.proofs.firsts.first_by_code.Goals as goal

pub returns-clause-value : goal.returns-clause-value
returns-clause-value c =
    let code : c.from.result ≡ c.args.glyph = c.from.ensures ∙ c.code.ensures.value in
    let inside : c.args.glyph < length c.args.firsts.now = (let wide = c.requires.span in let small = c.code.type_inv in let told = c.code.ensures.value in omega arith) in
    c.from-2.ensures ∙ ap (λ (n : ℕ). get_or c.args.firsts.now n 0) code ∙ c.requires.firsts c.args.glyph inside ∙ first_of_code c.args.glyph c.args.list.now

pub returns-clause-inside : goal.returns-clause-inside
returns-clause-inside c =
    subst (λ (n : ℕ). n ≤ length c.args.list.now) (sym (returns-clause-value c)) (place_at_most (λ other. c.args.glyph == other) c.args.list.now)
