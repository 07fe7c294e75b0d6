use Rattle.std.proofs.Common.{◌+◌, ◌-◌, ◌^◌, min, length, ap, sym, ◌∙◌, arith}
use Rattle.std.proofs.lemmas.List.{take_all}
use Rattle.std.specs.List.{sum_by}
use Rattle.line_text.specs.Number.{number_width}
use Rattle.apl_display.proofs.TextLemmas.{length_of_numbers}
use Rattle.apl_display.proofs.characters.vector_width.Goals as goal

pub returns : goal.returns
returns c =
    c.loop-number.invariant
    ∙ (ap (λ list. min (length c.args.numbers.now - 1 + sum_by number_width list) (2 ^ 64 - 1)) (take_all c.loop-number.number-index c.args.numbers.now (omega arith))
    ∙ ap (λ n. min n (2 ^ 64 - 1)) (sym (length_of_numbers c.args.numbers.now)))
