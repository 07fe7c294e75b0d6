use Rattle.std.proofs.Common.{◌∙◌, sym, true≢false}
use Rattle.std.proofs.lemmas.Slice.Eq.{bytes_eq-Decides}
use Rattle.aplsv_top.proofs.Splits.{end_found, line_read}
use Rattle.aplsv_top.proofs.checking.parts_of.Goals as goal

pub returns-then-eq : goal.returns-then-eq
returns-then-eq c =
    end_found c.args.input.now c.loop-line.rest.now c.in-Some.line.now c.in-Some.after.now c.split_at.result.0.now c.split_at.result.1.now c.loop-line.invariant c.in-Some.ensures.0
    ((bytes_eq-Decides c.in-Some.line.now c.as_slice.result.now).0 (sym c.eq.ensures ∙ c.if-eq.true) ∙ c.as_slice.ensures)
    c.split_at.ensures.front c.split_at.ensures.back

pub loop-line-preserved : goal.loop-line-preserved
loop-line-preserved c =
    line_read c.args.input.now c.loop-line.rest.now c.in-Some.line.now c.in-Some.after.now c.loop-line.invariant c.in-Some.ensures.0 c.in-Some.ensures.1
    (λ is. true≢false (sym ((bytes_eq-Decides c.in-Some.line.now c.as_slice.result.now).1 (is ∙ sym c.as_slice.ensures)) ∙ (sym c.eq.ensures ∙ c.if-eq.false)))
