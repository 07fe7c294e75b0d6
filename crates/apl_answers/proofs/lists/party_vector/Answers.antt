use Rattle.std.proofs.Common.{◌≡◌, false, is_some, length, sym, ap, ◌∙◌}
use Rattle.std.specs.Prelude.{[], ◌∷◌}
use Rattle.std.proofs.lemmas.Result.{err_from_is_err_and}
use Rattle.apl_arrays.specs.Array.{PlainArray}
use Rattle.apl_arrays.specs.Shape.{shape_fault}
use Rattle.apl_arrays.specs.declared.report.Fail.TheVariants as fail
use Rattle.apl_items.specs.Answers.{answer_of, shape_faults}
use Rattle.apl_meaning.specs.Queries.{party_vector}
use Rattle.apl_selection.proofs.WantLemmas.{array_is_ok, wanting_after}
use Rattle.apl_answers.proofs.Listing.{one_fits, one_too_large, parties_listed, parties_whole}
use Rattle.apl_answers.proofs.lists.party_vector.Goals as goal

pub returns-then-is_some : goal.returns-then-is_some
returns-then-is_some c =
    one_too_large (length c.args.parties.now) c.capped.result (party_vector c.args.parties.now) c.capped.ensures (sym (c.is_some.ensures ∙ ap is_some c.shape_fault.ensures) ∙ c.if-is_some.true)

pub returns-in_err-numbers : goal.returns-in_err-numbers
returns-in_err-numbers c =
    let array : PlainArray = party_vector c.args.parties.now in
    let none : is_some (shape_fault (c.capped.result ∷ [])) ≡ false = sym (c.is_some.ensures ∙ ap is_some c.shape_fault.ensures) ∙ c.if-is_some.false in
    let exit = err_from_is_err_and c.from_residual.result c.from_residual.ensures.1 in
    let why : exit.0 ≡ fail.WantOfMemory = cc exit.2 in
    wanting_after c.from_residual.result exit.0 (answer_of (shape_faults array.shape) array) exit.1 why (array_is_ok (answer_of (shape_faults array.shape) array) array (one_fits (length c.args.parties.now) c.capped.result array c.capped.ensures none))

pub shaped-requires-clause-whole : goal.shaped-requires-clause-whole
shaped-requires-clause-whole c =
    let none : is_some (shape_fault (c.capped.result ∷ [])) ≡ false = sym (c.is_some.ensures ∙ ap is_some c.shape_fault.ensures) ∙ c.if-is_some.false in
    parties_whole c.args.parties.now c.in_ok-numbers.numbers.items c.capped.result c.capped.ensures c.in_ok-numbers.ensures none

pub returns-in_err-shaped : goal.returns-in_err-shaped
returns-in_err-shaped c =
    let array : PlainArray = party_vector c.args.parties.now in
    let none : is_some (shape_fault (c.capped.result ∷ [])) ≡ false = sym (c.is_some.ensures ∙ ap is_some c.shape_fault.ensures) ∙ c.if-is_some.false in
    let exit = err_from_is_err_and c.from_residual-in_err-shaped.result c.from_residual-in_err-shaped.ensures.1 in
    let why : exit.0 ≡ fail.WantOfMemory = cc exit.2 in
    wanting_after c.from_residual-in_err-shaped.result exit.0 (answer_of (shape_faults array.shape) array) exit.1 why (array_is_ok (answer_of (shape_faults array.shape) array) array (one_fits (length c.args.parties.now) c.capped.result array c.capped.ensures none))

pub returns : goal.returns
returns c =
    let none : is_some (shape_fault (c.capped.result ∷ [])) ≡ false = sym (c.is_some.ensures ∙ ap is_some c.shape_fault.ensures) ∙ c.if-is_some.false in
    parties_listed c.args.parties.now c.in_ok-numbers.numbers.items c.capped.result c.in_ok-shaped.field-0 c.capped.ensures c.in_ok-numbers.ensures none c.in_ok-shaped.ensures.array
