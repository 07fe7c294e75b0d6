use Rattle.std.proofs.Common.{◌≡◌, ◌*◌, ◌∙◌, ℤ, List, is_some, Ok, refl, sym, ap}
use Rattle.std.proofs.lemmas.Result.{err_from_is_err_and}
use Rattle.apl_arrays.specs.declared.report.Fail.TheVariants as fail
use Rattle.apl_arrays.specs.Array.{PlainArray, number_array}
use Rattle.apl_items.specs.Answers.{ArrayResult}
use Rattle.apl_items.specs.Places.{AtPlace}
use Rattle.apl_items.proofs.PlaceLemmas.{nothing_lacks_at, something_lacks}
use Rattle.apl_scalar.proofs.MemoryLemmas.{has_as_told}
use Rattle.operator_rules.specs.Gathering.{numbers_answer}
use Rattle.apl_operators.proofs.NumberLemmas.{answers_through, given_there, lacking_of_many, none_is, none_lacking_of_many, numbers_made, out_of_memory, refused_by_place}
use Rattle.apl_operators.proofs.RowLemmas.{lacks_as_told}
use Rattle.apl_operators.proofs.rows.numbers_by_rows.Goals as goal
use Rattle.apl_operators.proofs.rows.numbers_by_rows.Given as given

pub returns-in_err-items : goal.returns-in_err-items
returns-in_err-items g c item follows =
    let rest = refused_by_place c.args.shape.now (c.args.rows * c.args.columns) _ item c.in_err-items.field-0.0 (sym c.shape_fault.ensures ∙ none_is c.shape_fault.result c.if-is_none.ensures) c.requires.count c.in_err-items.ensures.domain c.in_err-items.ensures.memory follows in
    let p = err_from_is_err_and c.from_residual.result c.from_residual.ensures.1 in
    let same : p.0 ≡ c.in_err-items.field-0.0 = cc p.2 in
    answers_through c.from_residual.result c.in_err-items.field-0.0 p.0 (numbers_answer c.args.shape.now item) p.1 same rest

pub returns-in_err-shaped : goal.returns-in_err-shaped
returns-in_err-shaped g c item follows =
    let p = err_from_is_err_and c.from_residual-in_err-shaped.result c.from_residual-in_err-shaped.ensures.1 in
    let same : p.0 ≡ fail.WantOfMemory = cc p.2 in
    out_of_memory c.from_residual-in_err-shaped.result p.0 (numbers_answer c.args.shape.now item) p.1 same
    (given_there (numbers_answer c.args.shape.now item) (number_array c.args.shape.now c.in_ok-items.items.items)
    (numbers_made c.args.shape.now (c.args.rows * c.args.columns) item c.in_ok-items.items.items (sym c.shape_fault.ensures ∙ none_is c.shape_fault.result c.if-is_none.ensures) c.requires.count
    (record { whole = c.in_ok-items.ensures.whole; each = λ place below. follows place _ below (c.in_ok-items.ensures.items place below) })))

pub returns-in_ok-shaped : goal.returns-in_ok-shaped
returns-in_ok-shaped g c item follows =
    let given : PlainArray → ArrayResult = λ array. Ok array in
    numbers_made c.args.shape.now (c.args.rows * c.args.columns) item c.in_ok-items.items.items (sym c.shape_fault.ensures ∙ none_is c.shape_fault.result c.if-is_none.ensures) c.requires.count
    (record { whole = c.in_ok-items.ensures.whole; each = λ place below. follows place _ below (c.in_ok-items.ensures.items place below) })
    ∙ ap given (sym (c.in_ok-shaped.ensures.array ∙ ap (λ (list : List ℤ). number_array c.args.shape.now list) c.from.ensures))

pub returns-then-lacks_by_rows : goal.returns-then-lacks_by_rows
returns-then-lacks_by_rows g c item follows =
    lacking_of_many c.args.shape.now item c.requires.rank (c.args.rows * c.args.columns) c.requires.count (ap is_some (sym c.shape_fault.ensures) ∙ c.if-is_none.ensures)
    (something_lacks (c.args.rows * c.args.columns) item (lacks_as_told (c.args.rows * c.args.columns) (AtPlace (given.F-post g c.args.rule.now) c.args.columns) item follows (c.if-lacks_by_rows.ensures.some refl)))

pub returns-else-lacks_by_rows : goal.returns-else-lacks_by_rows
returns-else-lacks_by_rows g c item follows =
    none_lacking_of_many c.args.shape.now item c.requires.rank (c.args.rows * c.args.columns) c.requires.count (ap is_some (sym c.shape_fault.ensures) ∙ c.if-is_none.ensures)
    (nothing_lacks_at (c.args.rows * c.args.columns) item (has_as_told (c.args.rows * c.args.columns) (AtPlace (given.F-post g c.args.rule.now) c.args.columns) item follows (c.if-lacks_by_rows.ensures.none refl)))
