use Rattle.std.proofs.Common.{◌≡◌, ◌≤◌, ℤ, List, length, refl, subst, sym, ◌∙◌}
use Rattle.std.proofs.lemmas.Result.{err_from_is_err_and}
use Rattle.apl_arrays.specs.declared.report.Fail.TheVariants as fail
use Rattle.apl_selection.proofs.WantLemmas.{array_is_ok, wanting_after}
use Rattle.apl_structure.specs.Reshaping.{reshape_of, reshaped}
use Rattle.apl_structure.proofs.LengthLemmas.{lengths_that_fit}
use Rattle.apl_structure.proofs.ReshapeLemmas.{few_lengths, none_asked, reshape_fits, reshape_too_large}
use Rattle.apl_structure.proofs.reshaping.shaped_by.Goals as goal

pub returns-then-pass_limits : goal.returns-then-pass_limits
returns-then-pass_limits c =
    reshape_too_large c.args.a.now c.args.b.now c.numbers-numbers.result.now c.pass_limits.result c.requires c.numbers-numbers.ensures c.pass_limits.ensures c.if-pass_limits.true

pub reshaped-requires-clause-fits : goal.reshaped-requires-clause-fits
reshaped-requires-clause-fits c =
    (lengths_that_fit c.numbers-numbers.result.now c.as_slice-shape.result.now (c.as_slice-shape.ensures.value ∙ c.capped-lengths.ensures) (sym c.pass_limits.ensures ∙ c.if-pass_limits.false)).1

pub reshaped-requires-clause-some : goal.reshaped-requires-clause-some
reshaped-requires-clause-some c =
    none_asked c.args.a.now c.args.b.now c.numbers-numbers.result.now c.as_slice-shape.result.now c.requires c.numbers-numbers.ensures
    (lengths_that_fit c.numbers-numbers.result.now c.as_slice-shape.result.now (c.as_slice-shape.ensures.value ∙ c.capped-lengths.ensures) (sym c.pass_limits.ensures ∙ c.if-pass_limits.false)).0

pub returns : goal.returns
returns c =
    reshape_fits c.args.a.now c.args.b.now c.in_ok-reshaped.field-0 c.numbers-numbers.result.now c.as_slice-shape.result.now c.pass_limits.result c.requires c.numbers-numbers.ensures c.pass_limits.ensures
    c.if-pass_limits.false
    (lengths_that_fit c.numbers-numbers.result.now c.as_slice-shape.result.now (c.as_slice-shape.ensures.value ∙ c.capped-lengths.ensures) (sym c.pass_limits.ensures ∙ c.if-pass_limits.false)).0
    c.in_ok-reshaped.ensures

pub capped-lengths-requires : goal.capped-lengths-requires
capped-lengths-requires c = subst (λ (xs : List ℤ). length xs ≤ 8) (sym c.numbers-numbers.ensures) (few_lengths c.args.a.now c.args.b.now c.requires)

pub returns-in_err-reshaped : goal.returns-in_err-reshaped
returns-in_err-reshaped c =
    let a = c.args.a.now in
    let b = c.args.b.now in
    let shape = c.as_slice-shape.result.now in
    let p = err_from_is_err_and c.from_residual.result c.from_residual.ensures.1 in
    let same : p.0 ≡ fail.WantOfMemory = cc p.2 in
    wanting_after c.from_residual.result p.0 (reshape_of a b) p.1 same
    (array_is_ok (reshape_of a b) (reshaped shape b)
    (reshape_fits a b (reshaped shape b) c.numbers-numbers.result.now shape c.pass_limits.result c.requires c.numbers-numbers.ensures c.pass_limits.ensures c.if-pass_limits.false
    (lengths_that_fit c.numbers-numbers.result.now shape (c.as_slice-shape.ensures.value ∙ c.capped-lengths.ensures) (sym c.pass_limits.ensures ∙ c.if-pass_limits.false)).0 refl))
