use Rattle.std.proofs.Common.{◌≡◌, false, is_some, length, sym, ap, ◌∙◌}
use Rattle.std.specs.Prelude.{[], ◌∷◌}
use Rattle.std.proofs.lemmas.Result.{err_from_is_err_and}
use Rattle.apl_arrays.specs.Array.{PlainArray}
use Rattle.apl_arrays.specs.Shape.{shape_fault}
use Rattle.apl_arrays.specs.declared.report.Fail.TheVariants as fail
use Rattle.apl_items.specs.Answers.{answer_of, shape_faults}
use Rattle.apl_meaning.specs.Queries.{longest, name_matrix}
use Rattle.apl_selection.proofs.WantLemmas.{array_is_ok, wanting_after}
use Rattle.apl_answers.proofs.Listing.{cut, names_listed, names_whole, two_fit, two_too_large}
use Rattle.apl_answers.proofs.lists.name_matrix.Goals as goal

pub returns-then-is_some : goal.returns-then-is_some
returns-then-is_some c =
    two_too_large (length c.args.names.now) (longest c.args.names.now) c.capped.result c.capped-2.result (name_matrix c.args.names.now) c.capped.ensures (c.capped-2.ensures ∙ ap cut c.longest-width.ensures) (sym (c.is_some.ensures ∙ ap is_some c.shape_fault.ensures) ∙ c.if-is_some.true)

pub returns-in_err-glyphs : goal.returns-in_err-glyphs
returns-in_err-glyphs c =
    let array : PlainArray = name_matrix c.args.names.now in
    let none : is_some (shape_fault (c.capped.result ∷ c.capped-2.result ∷ [])) ≡ false = sym (c.is_some.ensures ∙ ap is_some c.shape_fault.ensures) ∙ c.if-is_some.false in
    let exit = err_from_is_err_and c.from_residual.result c.from_residual.ensures.1 in
    let why : exit.0 ≡ fail.WantOfMemory = cc exit.2 in
    wanting_after c.from_residual.result exit.0 (answer_of (shape_faults array.shape) array) exit.1 why (array_is_ok (answer_of (shape_faults array.shape) array) array (two_fit (length c.args.names.now) (longest c.args.names.now) c.capped.result c.capped-2.result array c.capped.ensures (c.capped-2.ensures ∙ ap cut c.longest-width.ensures) none))

pub shaped-requires-clause-whole : goal.shaped-requires-clause-whole
shaped-requires-clause-whole c =
    let none : is_some (shape_fault (c.capped.result ∷ c.capped-2.result ∷ [])) ≡ false = sym (c.is_some.ensures ∙ ap is_some c.shape_fault.ensures) ∙ c.if-is_some.false in
    names_whole c.args.names.now c.in_ok-glyphs.glyphs.items c.capped.result c.capped-2.result c.longest-width.result c.capped.ensures c.capped-2.ensures c.longest-width.ensures c.in_ok-glyphs.ensures none

pub returns-in_err-shaped : goal.returns-in_err-shaped
returns-in_err-shaped c =
    let array : PlainArray = name_matrix c.args.names.now in
    let none : is_some (shape_fault (c.capped.result ∷ c.capped-2.result ∷ [])) ≡ false = sym (c.is_some.ensures ∙ ap is_some c.shape_fault.ensures) ∙ c.if-is_some.false in
    let exit = err_from_is_err_and c.from_residual-in_err-shaped.result c.from_residual-in_err-shaped.ensures.1 in
    let why : exit.0 ≡ fail.WantOfMemory = cc exit.2 in
    wanting_after c.from_residual-in_err-shaped.result exit.0 (answer_of (shape_faults array.shape) array) exit.1 why (array_is_ok (answer_of (shape_faults array.shape) array) array (two_fit (length c.args.names.now) (longest c.args.names.now) c.capped.result c.capped-2.result array c.capped.ensures (c.capped-2.ensures ∙ ap cut c.longest-width.ensures) none))

pub returns : goal.returns
returns c =
    let none : is_some (shape_fault (c.capped.result ∷ c.capped-2.result ∷ [])) ≡ false = sym (c.is_some.ensures ∙ ap is_some c.shape_fault.ensures) ∙ c.if-is_some.false in
    names_listed c.args.names.now c.in_ok-glyphs.glyphs.items c.capped.result c.capped-2.result c.longest-width.result c.in_ok-shaped.field-0 c.capped.ensures c.capped-2.ensures c.longest-width.ensures c.in_ok-glyphs.ensures none c.in_ok-shaped.ensures.array
