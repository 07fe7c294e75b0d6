use Rattle.std.proofs.Common.{◌≡◌, ◌++◌, ◌∷◌, [], arith, refl, length-append}
use Rattle.std.proofs.lemmas.Result.{err_from_is_err_and}
use Rattle.text_reader.specs.Reading.{always, read_list}
use Rattle.sv_text.specs.ValueReading.{read_char}
use Rattle.text_reader.proofs.Lists.{one_more, stops_at, is_done}
use Rattle.sv_text.proofs.chars.read_chars.Goals as goal

pub returns-in_err-char-clause-value : goal.returns-in_err-char-clause-value
returns-in_err-char-clause-value c =
    let p = err_from_is_err_and c.from_residual.result c.from_residual.ensures.1 in
    rw (p.1, p.2) (stops_at always read_char c.in_err-char.field-0.0 c.loop.chars.items c.args.count c.loop.counter c.loop.cursor (read_list always read_char c.args.count c.args.cursor.now) c.loop-test.true refl c.in_err-char.ensures c.loop.invariant.value)

pub loop-preserved : goal.loop-preserved
loop-preserved c =
    let pushed : c.push.new.self.items ≡ c.loop.chars.items ++ c.in_ok-char.char ∷ [] = c.in_ok-push.ensures.ok in
    record {
      value = rw pushed (one_more always read_char c.loop.chars.items c.args.count c.loop.counter c.loop.cursor c.in_ok-char.char c.read_char.new.cursor (read_list always read_char c.args.count c.args.cursor.now) c.loop-test.true refl c.in_ok-char.ensures c.loop.invariant.value);
      count = rw pushed (omega (arith, length-append c.loop.chars.items (c.in_ok-char.char ∷ []), c.loop.invariant.count));
    }

pub returns-clause-value : goal.returns-clause-value
returns-clause-value c =
    is_done always read_char c.loop.chars.items c.args.count c.loop.counter c.loop.cursor (read_list always read_char c.args.count c.args.cursor.now) c.loop-test.false c.loop.invariant.value
