use Rattle.std.proofs.Common.{ap, ◌∙◌, subst}
use Rattle.std.proofs.lemmas.Result.{err_from_is_err_and}
use Rattle.apl_arrays.specs.Glyph.{line_utf8}
use Rattle.bundle_text.specs.Heading.{IsHeadingLine, IsNoHeading, plain_heading}
use Rattle.bundle_text.proofs.Steps.{bad_line, formless, text_added}
use Rattle.bundle_text.proofs.text.add_other_line.Goals as goal

pub returns-in_err-glyphs : goal.returns-in_err-glyphs
returns-in_err-glyphs c =
    let p = err_from_is_err_and c.from_residual.result c.from_residual.ensures.1 in
    rw (p.1, p.2) (bad_line c.args.draft.now c.args.line.now c.args.offset c.in_err-glyphs.field-0.0 c.in_err-glyphs.ensures)

pub returns-in-None : goal.returns-in-None
returns-in-None c =
    let none = rw c.in-None.is at c.in_ok-heading_of.ensures in
    formless c.args.draft.now c.args.line.now c.in_ok-glyphs.glyphs.items c.args.offset c.malformed.result c.malformed.ensures c.in_ok-glyphs.ensures c.requires.other (subst IsNoHeading c.as_slice.ensures none)

pub returns : goal.returns
returns c =
    let found = rw c.in-Some.is at c.in_ok-heading_of.ensures in
    let is : IsHeadingLine (plain_heading c.in-Some.heading) c.in_ok-glyphs.glyphs.items = subst (IsHeadingLine (plain_heading c.in-Some.heading)) c.as_slice.ensures found in
    text_added c.args.draft.now c.add_heading.new.self is.line c.args.line.now c.args.offset c.add_heading.result (is.form, c.in_ok-glyphs.ensures.1 ∙ ap line_utf8 is.spelled) (c.add_heading.ensures is.line is.is is.form)

pub add_heading-requires-clause-form : goal.add_heading-requires-clause-form
add_heading-requires-clause-form c =
    let found = rw c.in-Some.is at c.in_ok-heading_of.ensures in (found.line, found.is, found.form)
