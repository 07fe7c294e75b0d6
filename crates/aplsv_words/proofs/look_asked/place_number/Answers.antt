use Rattle.std.proofs.Common.{◌≤◌, ◌∙◌, arith, sym}
use Rattle.std.proofs.lemmas.Fmt.{parse-decimal}
use Rattle.aplsv_words.specs.Looks.{greatest_place}
use Rattle.aplsv_words.proofs.Counts.{read_counts}
use Rattle.aplsv_words.proofs.Looks.{places_fit}
use Rattle.aplsv_words.proofs.look_asked.place_number.Goals as goal

pub returns-in-Ok : goal.returns-in-Ok
returns-in-Ok c =
    let few : c.in-Ok.place ≤ greatest_place = omega arith in
    read_counts greatest_place places_fit c.args.text.now c.in-Ok.place c.requires c.in-Ok.ensures.value.0.0.0 c.in-Ok.ensures.value.0.1 few

pub returns-in-Err : goal.returns-in-Err
returns-in-Err c = λ n count.
    let read = parse-decimal 64 n c.args.text.now c.parse.result (omega (arith, count.few)) (omega (arith, count.few)) count.digits c.parse.ensures.value.0 in
    cc (sym c.in-Err.is ∙ read)
