use Rattle.std.proofs.Common.{◌≡◌, ◌∙◌, arith, sym}
use Rattle.std.proofs.lemmas.Fmt.{parse-decimal}
use Rattle.aplsv_words.proofs.Counts.{read_counts}
use Rattle.aplsv_words.proofs.asked.number_of.Goals as goal

pub returns-then-count-most : goal.returns-then-count-most
returns-then-count-most c =
    read_counts c.args.most (omega (arith, c.requires.small)) c.args.text.now c.in-Ok.count c.requires.first c.in-Ok.ensures.value.0.0.0 c.in-Ok.ensures.value.0.1 c.if-count-most.true

pub returns-else-count-most : goal.returns-else-count-most
returns-else-count-most c = λ n count.
    let read = parse-decimal 32 n c.args.text.now c.parse.result (omega (arith, count.few, c.requires.small)) (omega (arith, count.few, c.requires.small)) count.digits c.parse.ensures.value.0 in
    let same : c.in-Ok.count ≡ n = cc (sym c.in-Ok.is ∙ read) in
    omega (arith, same, count.few, c.if-count-most.false)

pub returns-in-Err : goal.returns-in-Err
returns-in-Err c = λ n count.
    let read = parse-decimal 32 n c.args.text.now c.parse.result (omega (arith, count.few, c.requires.small)) (omega (arith, count.few, c.requires.small)) count.digits c.parse.ensures.value.0 in
    cc (sym c.in-Err.is ∙ read)
