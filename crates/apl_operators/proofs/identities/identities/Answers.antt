use Rattle.std.proofs.Common.{◌≡◌, ◌∙◌, ℤ, List, refl, ap, sym}
use Rattle.std.proofs.lemmas.Result.{err_from_is_err_and}
use Rattle.apl_arrays.specs.declared.report.Fail.TheVariants as fail
use Rattle.apl_arrays.specs.Array.{number_array}
use Rattle.apl_scalar.specs.Table.{row_of_dyad}
use Rattle.operator_rules.specs.Gathering.{numbers_answer}
use Rattle.apl_operators.proofs.NumberLemmas.{answers_through, given_there, identities_made, identities_refused, none_is, out_of_memory, refused_by_place}
use Rattle.apl_operators.proofs.identities.identities.Goals as goal

pub returns-then-is_some : goal.returns-then-is_some
returns-then-is_some c =
    identities_refused c.args.shape.now _ c.report_of_many.result c.requires.rank c.requires.axes c.shape_fault.result c.shape_fault.ensures (sym c.if-is_some.ensures) c.report_of_many.ensures

pub returns-in_err-items : goal.returns-in_err-items
returns-in_err-items c =
    let rest = refused_by_place c.args.shape.now c.count_of_elements.result (λ place answer. answer ≡ (row_of_dyad c.args.f).identity) (λ place. (row_of_dyad c.args.f).identity) c.in_err-items.field-0.0
    (sym c.shape_fault.ensures ∙ none_is c.shape_fault.result (sym c.if-is_some.ensures)) c.count_of_elements.ensures c.in_err-items.ensures.domain c.in_err-items.ensures.memory (λ place answer below told. told) in
    let p = err_from_is_err_and c.from_residual.result c.from_residual.ensures.1 in
    let same : p.0 ≡ c.in_err-items.field-0.0 = cc p.2 in
    answers_through c.from_residual.result c.in_err-items.field-0.0 p.0 (numbers_answer c.args.shape.now (λ place. (row_of_dyad c.args.f).identity)) p.1 same rest

pub returns-in_err-shaped : goal.returns-in_err-shaped
returns-in_err-shaped c =
    let p = err_from_is_err_and c.from_residual-in_err-shaped.result c.from_residual-in_err-shaped.ensures.1 in
    let same : p.0 ≡ fail.WantOfMemory = cc p.2 in
    out_of_memory c.from_residual-in_err-shaped.result p.0 (numbers_answer c.args.shape.now (λ place. (row_of_dyad c.args.f).identity)) p.1 same
    (given_there _ (number_array c.args.shape.now c.in_ok-items.items.items) (identities_made c.args.shape.now _ c.in_ok-items.items.items (number_array c.args.shape.now c.in_ok-items.items.items) (sym c.shape_fault.ensures ∙ none_is c.shape_fault.result (sym c.if-is_some.ensures))
    c.count_of_elements.result c.count_of_elements.ensures c.in_ok-items.ensures.whole c.in_ok-items.ensures.items refl))

pub returns : goal.returns
returns c =
    identities_made c.args.shape.now _ c.in_ok-items.items.items c.in_ok-shaped.field-0 (sym c.shape_fault.ensures ∙ none_is c.shape_fault.result (sym c.if-is_some.ensures))
    c.count_of_elements.result c.count_of_elements.ensures c.in_ok-items.ensures.whole c.in_ok-items.ensures.items (c.in_ok-shaped.ensures.array ∙ ap (λ (list : List ℤ). number_array c.args.shape.now list) c.from.ensures)
