use Rattle.std.proofs.Common.{◌≡◌}
use Rattle.std.proofs.lemmas.Result.{err_from_is_err_and}
use Rattle.apl_arrays.specs.Array.{PlainArray}
use Rattle.apl_items.specs.Answers.{answer_of, shape_faults}
use Rattle.apl_selection.proofs.WantLemmas.{array_is_ok, on_want}
use Rattle.apl_meaning.specs.Queries.{list_outcome, name_matrix}
use Rattle.apl_statements.specs.Interpreter.{PlainInterpreter}
use Rattle.apl_statements.specs.Wants.{NoReportIsDue}
use Rattle.apl_statements.proofs.Wants.{want_exit}
use Rattle.apl_answers.proofs.Listing.{listed_free, listed_wants}
use Rattle.apl_answers.proofs.lists.list_names.Goals as goal

pub returns-in_err-array-clause-memory : goal.returns-in_err-array-clause-memory
returns-in_err-array-clause-memory c =
    let m : PlainInterpreter = c.args.interpreter.now in
    let array : PlainArray = name_matrix c.args.names.now in
    let exit = err_from_is_err_and c.from_residual.result c.from_residual.ensures.1 in
    let why : exit.0 ≡ c.in_err-array.field-0.0 = cc exit.2 in
    want_exit c.from_residual.result exit.0 c.in_err-array.field-0.0 (NoReportIsDue m (list_outcome array)) exit.1 why (listed_wants m array c.in_err-array.field-0.0 c.in_err-array.ensures)

pub returns-clause-memory : goal.returns-clause-memory
returns-clause-memory c =
    let m : PlainInterpreter = c.args.interpreter.now in
    let array : PlainArray = name_matrix c.args.names.now in
    on_want c.give.result (NoReportIsDue m (list_outcome array)) (listed_free m array (array_is_ok (answer_of (shape_faults array.shape) array) c.in_ok-array.array c.in_ok-array.ensures))
