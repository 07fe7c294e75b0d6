use Rattle.std.proofs.Common.{◌≡◌, ap, subst, sym}
use Rattle.std.proofs.lemmas.Result.{err_from_is_err_and}
use Rattle.apl_arrays.specs.declared.report.Fail.TheVariants as fail
use Rattle.apl_arrays.specs.Array.{PlainItems, seen_items}
use Rattle.apl_items.specs.Answers.{AnswersFirst}
use Rattle.operator_rules.specs.Gathering.{gathered}
use Rattle.operator_rules.specs.Reduce.{reduced_line}
use Rattle.apl_operators.proofs.LineLemmas.{lone_chars, lone_chars_there}
use Rattle.apl_operators.proofs.NumberLemmas.{out_of_memory}
use Rattle.apl_operators.proofs.reducing.lines_of_items.Goals as goal

pub returns-in-Numbers : goal.returns-in-Numbers
returns-in-Numbers c =
    subst (λ (i : PlainItems). AnswersFirst c.number_lines.result (gathered c.args.shape.now (reduced_line c.args.f i c.args.split)))
    (sym (ap seen_items c.in-Numbers.is)) c.number_lines.ensures

pub returns-in_err-of-in-Chars : goal.returns-in_err-of-in-Chars
returns-in_err-of-in-Chars c =
    let p = err_from_is_err_and c.from_residual.result c.from_residual.ensures.1 in
    let same : p.0 ≡ fail.WantOfMemory = cc p.2 in
    out_of_memory c.from_residual.result p.0 (gathered c.args.shape.now (reduced_line c.args.f (seen_items c.args.items) c.args.split)) p.1 same
    (lone_chars_there c.args.f (seen_items c.args.items) c.in-Chars.list.now c.args.split c.args.shape.now (ap seen_items c.in-Chars.is) c.if-split-eq1.true c.requires.fits c.requires.whole
    c.requires.lines c.requires.some)

pub returns-in_err-shaped-in-Chars : goal.returns-in_err-shaped-in-Chars
returns-in_err-shaped-in-Chars c =
    let p = err_from_is_err_and c.from_residual-in_err-shaped-in-Chars.result c.from_residual-in_err-shaped-in-Chars.ensures.1 in
    let same : p.0 ≡ fail.WantOfMemory = cc p.2 in
    out_of_memory c.from_residual-in_err-shaped-in-Chars.result p.0 (gathered c.args.shape.now (reduced_line c.args.f (seen_items c.args.items) c.args.split)) p.1 same
    (lone_chars_there c.args.f (seen_items c.args.items) c.in-Chars.list.now c.args.split c.args.shape.now (ap seen_items c.in-Chars.is) c.if-split-eq1.true c.requires.fits c.requires.whole
    c.requires.lines c.requires.some)

pub returns-in_ok-shaped-in-Chars : goal.returns-in_ok-shaped-in-Chars
returns-in_ok-shaped-in-Chars c =
    lone_chars c.args.f (seen_items c.args.items) c.in-Chars.list.now c.in_ok-of-in-Chars.field-0.items c.args.split c.args.shape.now c.in_ok-shaped-in-Chars.field-0 (ap seen_items c.in-Chars.is)
    c.in_ok-of-in-Chars.ensures c.if-split-eq1.true c.requires.fits c.requires.whole c.requires.lines c.requires.some c.in_ok-shaped-in-Chars.ensures.array

pub returns-else-split-eq1 : goal.returns-else-split-eq1
returns-else-split-eq1 c =
    subst (λ (i : PlainItems). AnswersFirst c.char_lines.result (gathered c.args.shape.now (reduced_line c.args.f i c.args.split)))
    (sym (ap seen_items c.in-Chars.is)) c.char_lines.ensures
