use Rattle.std.proofs.Common.{◌≡◌, length, arith}
use Rattle.std.proofs.lemmas.Grind.{common_steps}
use Rattle.auxiliaries.proofs.Lines.{all_lines}
use Rattle.auxiliaries.proofs.file_text.text_lines.Goals as goal

pub returns : goal.returns
returns c =
    let none : length c.loop-rest.rest.now ≡ 0 = grind (arith, common_steps, c.is_empty.ensures, c.loop-rest-test.false) in
    all_lines c.args.bytes.now c.loop-rest.rest.now c.loop-rest.lines.items none (omega (arith, c.if-bytes-gt-FILE_LIMIT.false)) c.loop-rest.invariant.spelt
