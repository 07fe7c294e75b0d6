use Rattle.std.proofs.Common.{◌≡◌, ◌+◌, ℕ, [], Ok, subst, arith}
use Rattle.std.proofs.lemmas.Result.{err_from_is_err_and}
use Rattle.ws_codec.specs.Functions.{read_line, read_next_line}
use Rattle.ws_codec.specs.Reading.{Stops, read_more, repeated}
use Rattle.ws_codec.proofs.Loops.{is_done, one_more, stops_at}
use Rattle.ws_codec.proofs.functions.read_counted_lines.Goals as goal

pub returns-in_err-after-clause-value : goal.returns-in_err-after-clause-value
returns-in_err-after-clause-value c =
    let p = err_from_is_err_and c.from_residual.result c.from_residual.ensures.1 in
    let stop = subst (λ (t : ℕ). Stops c.in_err-after.field-0.0 (read_more c.loop.lines.items (read_line t c.loop.cursor))) c.loop.invariant.total c.in_err-after.ensures.value in
    rw (p.1, p.2) (stops_at (read_next_line (c.args.weight + c.args.count)) c.in_err-after.field-0.0 c.args.count c.loop.counter c.loop.lines.items c.loop.cursor (repeated (read_next_line (c.args.weight + c.args.count)) c.args.count [] c.args.cursor.now) c.loop-test.true stop c.loop.invariant.value)

pub loop-preserved : goal.loop-preserved
loop-preserved c =
    let read = subst (λ (t : ℕ). read_more c.loop.lines.items (read_line t c.loop.cursor) ≡ Ok (c.add_line.new.lines.items, c.add_line.new.cursor)) c.loop.invariant.total c.in_ok-after.ensures.value in
    record {
      value = one_more (read_next_line (c.args.weight + c.args.count)) c.args.count c.loop.counter c.loop.lines.items c.add_line.new.lines.items c.loop.cursor c.add_line.new.cursor (repeated (read_next_line (c.args.weight + c.args.count)) c.args.count [] c.args.cursor.now) c.loop-test.true read c.loop.invariant.value;
      total = omega (arith, c.in_ok-after.ensures.weight, c.loop.invariant.total);
      within = c.in_ok-after.ensures.within;
      count = omega (arith, c.in_ok-after.ensures.one, c.loop.invariant.count);
      short = c.in_ok-after.ensures.short;
    }

pub returns-clause-value : goal.returns-clause-value
returns-clause-value c =
    is_done (read_next_line (c.args.weight + c.args.count)) c.args.count c.loop.counter c.loop.lines.items c.loop.cursor (repeated (read_next_line (c.args.weight + c.args.count)) c.args.count [] c.args.cursor.now) c.loop-test.false c.loop.invariant.value
