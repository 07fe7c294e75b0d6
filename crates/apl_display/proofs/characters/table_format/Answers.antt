use Rattle.std.proofs.Common.{◌≡◌, Result, IfErr, sym, ◌+◌, ◌-◌, ◌^◌, ◌∙◌, ℕ, List, length, min, sum, refl, ap, subst}
use Rattle.std.proofs.lemmas.Result.{err_from_is_err_and}
use Rattle.apl_arrays.specs.declared.report.Fail.{Fail}
use Rattle.apl_arrays.specs.Array.{PlainArray, FitsLimits}
use Rattle.apl_display.specs.Matrices.{column_widths, row_count}
use Rattle.apl_display.specs.Format.{IsFormatRefusal, number_format}
use Rattle.apl_display.proofs.MeasuredLemmas.{IsMeasured, refused_without_widths, shape_fits, text_of, passes_limits, result_fits, result_whole, result_is}
use Rattle.apl_display.proofs.WidthLemmas.{length_of_widths}
use Rattle.apl_display.proofs.AnswerLemmas.{want_after, want_exit}
use Rattle.apl_display.proofs.characters.table_format.Goals as goal

pub returns-then-saturating_mul-gt-ELEMENT_LIMIT-clause-refused : goal.returns-then-saturating_mul-gt-ELEMENT_LIMIT-clause-refused
returns-then-saturating_mul-gt-ELEMENT_LIMIT-clause-refused c =
    let m : IsMeasured c.args.b.now c.args.list.now c.shape-shape.result.now c.extent_of-extent.result c.in_ok-widths.widths.items = record {
      array = c.shape-shape.ensures.array;
      rank = c.requires.rank;
      kind = c.requires.kind;
      some = c.requires.some;
      shape_is = c.shape-shape.ensures.value;
      extent_is = c.extent_of-extent.ensures.value;
      widths_are = c.in_ok-widths.ensures.value;
    } in
    let width = c.line_width-width.ensures ∙ ap (λ (ws : List ℕ). min (length ws - 1 + sum ws) (2 ^ 64 - 1)) c.deref.ensures.value in
    (refl, passes_limits c.line_width-width.result c.saturating_mul.result m width c.saturating_mul.ensures c.if-saturating_mul-gt-ELEMENT_LIMIT.true)

pub rows_text-requires-clause-columns : goal.rows_text-requires-clause-columns
rows_text-requires-clause-columns c =
    let e = c.extent_of-extent.result in
    ap length (c.deref-2.ensures.value ∙ c.in_ok-widths.ensures.value) ∙ length_of_widths c.args.list.now e.columns (row_count e)

pub in_rows-requires-clause-fits : goal.in_rows-requires-clause-fits
in_rows-requires-clause-fits c =
    let m : IsMeasured c.args.b.now c.args.list.now c.shape-shape.result.now c.extent_of-extent.result c.in_ok-widths.widths.items = record {
      array = c.shape-shape.ensures.array;
      rank = c.requires.rank;
      kind = c.requires.kind;
      some = c.requires.some;
      shape_is = c.shape-shape.ensures.value;
      extent_is = c.extent_of-extent.ensures.value;
      widths_are = c.in_ok-widths.ensures.value;
    } in
    let width = c.line_width-width.ensures ∙ ap (λ (ws : List ℕ). min (length ws - 1 + sum ws) (2 ^ 64 - 1)) c.deref.ensures.value in
    result_fits c.line_width-width.result c.saturating_mul.result m width c.saturating_mul.ensures c.if-saturating_mul-gt-ELEMENT_LIMIT.false

pub in_rows-requires-clause-whole : goal.in_rows-requires-clause-whole
in_rows-requires-clause-whole c =
    let m : IsMeasured c.args.b.now c.args.list.now c.shape-shape.result.now c.extent_of-extent.result c.in_ok-widths.widths.items = record {
      array = c.shape-shape.ensures.array;
      rank = c.requires.rank;
      kind = c.requires.kind;
      some = c.requires.some;
      shape_is = c.shape-shape.ensures.value;
      extent_is = c.extent_of-extent.ensures.value;
      widths_are = c.in_ok-widths.ensures.value;
    } in
    let width = c.line_width-width.ensures ∙ ap (λ (ws : List ℕ). min (length ws - 1 + sum ws) (2 ^ 64 - 1)) c.deref.ensures.value in
    let text = c.in_ok-text.ensures ∙ ap (λ (ws : List ℕ). text_of c.args.list.now c.extent_of-extent.result ws) c.deref-2.ensures.value in
    result_whole c.line_width-width.result c.saturating_mul.result c.in_ok-text.text.items m width c.saturating_mul.ensures c.if-saturating_mul-gt-ELEMENT_LIMIT.false text

pub returns-clause-value : goal.returns-clause-value
returns-clause-value c =
    let m : IsMeasured c.args.b.now c.args.list.now c.shape-shape.result.now c.extent_of-extent.result c.in_ok-widths.widths.items = record {
      array = c.shape-shape.ensures.array;
      rank = c.requires.rank;
      kind = c.requires.kind;
      some = c.requires.some;
      shape_is = c.shape-shape.ensures.value;
      extent_is = c.extent_of-extent.ensures.value;
      widths_are = c.in_ok-widths.ensures.value;
    } in
    let width = c.line_width-width.ensures ∙ ap (λ (ws : List ℕ). min (length ws - 1 + sum ws) (2 ^ 64 - 1)) c.deref.ensures.value in
    let text = c.in_ok-text.ensures ∙ ap (λ (ws : List ℕ). text_of c.args.list.now c.extent_of-extent.result ws) c.deref-2.ensures.value in
    c.in_ok-in_rows.ensures ∙ result_is c.line_width-width.result c.saturating_mul.result c.in_ok-text.text.items m width c.saturating_mul.ensures c.if-saturating_mul-gt-ELEMENT_LIMIT.false text

pub returns-clause-fits : goal.returns-clause-fits
returns-clause-fits c =
    let m : IsMeasured c.args.b.now c.args.list.now c.shape-shape.result.now c.extent_of-extent.result c.in_ok-widths.widths.items = record {
      array = c.shape-shape.ensures.array;
      rank = c.requires.rank;
      kind = c.requires.kind;
      some = c.requires.some;
      shape_is = c.shape-shape.ensures.value;
      extent_is = c.extent_of-extent.ensures.value;
      widths_are = c.in_ok-widths.ensures.value;
    } in
    let width = c.line_width-width.ensures ∙ ap (λ (ws : List ℕ). min (length ws - 1 + sum ws) (2 ^ 64 - 1)) c.deref.ensures.value in
    let text = c.in_ok-text.ensures ∙ ap (λ (ws : List ℕ). text_of c.args.list.now c.extent_of-extent.result ws) c.deref-2.ensures.value in
    subst (λ (array : PlainArray). FitsLimits array.shape) (result_is c.line_width-width.result c.saturating_mul.result c.in_ok-text.text.items m width c.saturating_mul.ensures c.if-saturating_mul-gt-ELEMENT_LIMIT.false text)
    (result_fits c.line_width-width.result c.saturating_mul.result m width c.saturating_mul.ensures c.if-saturating_mul-gt-ELEMENT_LIMIT.false)

pub returns-in_err-widths-clause-refused : goal.returns-in_err-widths-clause-refused
returns-in_err-widths-clause-refused c =
    let e = c.extent_of-extent.result in
    let m : IsMeasured c.args.b.now c.args.list.now c.shape-shape.result.now e (column_widths c.args.list.now e.columns (row_count e)) = record {
      array = c.shape-shape.ensures.array;
      rank = c.requires.rank;
      kind = c.requires.kind;
      some = c.requires.some;
      shape_is = c.shape-shape.ensures.value;
      extent_is = c.extent_of-extent.ensures.value;
      widths_are = refl;
    } in
    let exit = err_from_is_err_and c.from_residual.result c.from_residual.ensures.1 in
    let why : exit.0 ≡ c.in_err-widths.field-0.0 = cc exit.2 in
    let refused = refused_without_widths c.in_err-widths.field-0.0 m c.in_err-widths.ensures.refused in
    subst (λ (r : Result PlainArray Fail). IfErr r (IsFormatRefusal (number_format c.args.b.now).shape)) (sym exit.1) (subst (IsFormatRefusal (number_format c.args.b.now).shape) (sym why) refused.0)

pub returns-in_err-widths-clause-memory : goal.returns-in_err-widths-clause-memory
returns-in_err-widths-clause-memory c =
    let e = c.extent_of-extent.result in
    let m : IsMeasured c.args.b.now c.args.list.now c.shape-shape.result.now e (column_widths c.args.list.now e.columns (row_count e)) = record {
      array = c.shape-shape.ensures.array;
      rank = c.requires.rank;
      kind = c.requires.kind;
      some = c.requires.some;
      shape_is = c.shape-shape.ensures.value;
      extent_is = c.extent_of-extent.ensures.value;
      widths_are = refl;
    } in
    let exit = err_from_is_err_and c.from_residual.result c.from_residual.ensures.1 in
    let why : exit.0 ≡ c.in_err-widths.field-0.0 = cc exit.2 in
    let refused = refused_without_widths c.in_err-widths.field-0.0 m c.in_err-widths.ensures.refused in
    want_exit c.from_residual.result exit.0 c.in_err-widths.field-0.0 (FitsLimits (number_format c.args.b.now).shape) exit.1 why refused.1

pub returns-in_err-text-clause-memory : goal.returns-in_err-text-clause-memory
returns-in_err-text-clause-memory c =
    let m : IsMeasured c.args.b.now c.args.list.now c.shape-shape.result.now c.extent_of-extent.result c.in_ok-widths.widths.items = record {
      array = c.shape-shape.ensures.array;
      rank = c.requires.rank;
      kind = c.requires.kind;
      some = c.requires.some;
      shape_is = c.shape-shape.ensures.value;
      extent_is = c.extent_of-extent.ensures.value;
      widths_are = c.in_ok-widths.ensures.value;
    } in
    let width = c.line_width-width.ensures ∙ ap (λ (ws : List ℕ). min (length ws - 1 + sum ws) (2 ^ 64 - 1)) c.deref.ensures.value in
    want_after c.from_residual-in_err-text.result (FitsLimits (number_format c.args.b.now).shape) (shape_fits c.line_width-width.result c.saturating_mul.result m width c.saturating_mul.ensures c.if-saturating_mul-gt-ELEMENT_LIMIT.false)

pub returns-in_err-in_rows-clause-memory : goal.returns-in_err-in_rows-clause-memory
returns-in_err-in_rows-clause-memory c =
    let m : IsMeasured c.args.b.now c.args.list.now c.shape-shape.result.now c.extent_of-extent.result c.in_ok-widths.widths.items = record {
      array = c.shape-shape.ensures.array;
      rank = c.requires.rank;
      kind = c.requires.kind;
      some = c.requires.some;
      shape_is = c.shape-shape.ensures.value;
      extent_is = c.extent_of-extent.ensures.value;
      widths_are = c.in_ok-widths.ensures.value;
    } in
    let width = c.line_width-width.ensures ∙ ap (λ (ws : List ℕ). min (length ws - 1 + sum ws) (2 ^ 64 - 1)) c.deref.ensures.value in
    want_after c.from_residual-in_err-in_rows.result (FitsLimits (number_format c.args.b.now).shape) (shape_fits c.line_width-width.result c.saturating_mul.result m width c.saturating_mul.ensures c.if-saturating_mul-gt-ELEMENT_LIMIT.false)
