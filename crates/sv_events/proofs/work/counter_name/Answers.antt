use Rattle.line_text.proofs.Decimals.{text_is_plain}
use Rattle.sv_events.proofs.CounterName.{names_are_taken}
use Rattle.sv_events.proofs.work.counter_name.Goals as goal

pub write_digits-requires-clause-digits : goal.write_digits-requires-clause-digits
write_digits-requires-clause-digits c = text_is_plain c.args.place c.format-digits.result.now c.format-digits.ensures.text c.ranges.place.fits

pub unwrap-requires : goal.unwrap-requires
unwrap-requires c = c.of.ensures.known.1 (names_are_taken c.args.place _ _ c.format-digits.result.now c.ranges.place.fits c.with_code-glyphs.ensures c.format-digits.ensures.text c.write_digits.ensures)
