use Rattle.std.proofs.Common.{◌≤◌, cond, sym, ap, ◌∙◌, subst, arith}
use Rattle.apl_arrays.specs.Glyph.{IsGlyph}
use Rattle.line_text.proofs.Sizes.{more_bytes}
use Rattle.line_text.proofs.size.glyph_size.Goals as goal

pub returns-then-takes_two-clause-value : goal.returns-then-takes_two-clause-value
returns-then-takes_two-clause-value c =
    let glyph = subst IsGlyph c.code.ensures.value c.code.ensures.glyph in
    let high : 128 ≤ c.args.glyph = omega arith in
    sym (more_bytes c.args.glyph glyph high ∙ ap (λ b. cond b 2 3) (sym c.takes_two.ensures ∙ c.if-takes_two.true))

pub returns-else-takes_two-clause-value : goal.returns-else-takes_two-clause-value
returns-else-takes_two-clause-value c =
    let glyph = subst IsGlyph c.code.ensures.value c.code.ensures.glyph in
    let high : 128 ≤ c.args.glyph = omega arith in
    sym (more_bytes c.args.glyph glyph high ∙ ap (λ b. cond b 2 3) (sym c.takes_two.ensures ∙ c.if-takes_two.false))
