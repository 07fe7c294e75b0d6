use Rattle.std.proofs.Common.{◌≡◌, List, sym, ap, ◌∙◌, rules, w64}
use Rattle.std.specs.Prelude.{ℤ, slice_get, unsigned_abs}
use Rattle.std.proofs.lemmas.Int.{to_z-of_z}
use Rattle.std.proofs.lemmas.Result.{err_from_is_err_and}
use Rattle.apl_arrays.specs.declared.report.Fail.TheVariants as fail
use Rattle.apl_meaning.specs.Queries.{queries}
use Rattle.apl_acts.specs.Faults.{plain_faults}
use Rattle.apl_acts.proofs.Queried.{query_names, query_parties, query_refused}
use Rattle.apl_acts.proofs.Tested.{asks_exit}
use Rattle.apl_acts.proofs.queries.query.Goals as goal

pub returns-in_err-refuse-clause-asks : goal.returns-in_err-refuse-clause-asks
returns-in_err-refuse-clause-asks c = λ m.
    let exit = err_from_is_err_and c.from_residual.result c.from_residual.ensures.1 in
    let why : exit.0 ≡ fail.Report c.in_err-refuse.field-0.0 = cc exit.2 in
    asks_exit m (queries c.args.b.now) c.from_residual.result exit.0 (fail.Report c.in_err-refuse.field-0.0) exit.1 why
    (query_refused m c.args.b.now (plain_faults c.query_wrong.result) c.in_err-refuse.field-0.0 c.query_wrong.ensures c.in_err-refuse.ensures.err)

pub returns-in-Some-clause-asks : goal.returns-in-Some-clause-asks
returns-in-Some-clause-asks c = λ m.
    let party : ℤ = c.in-Some.party.now in
    query_names m c.args.b.now (plain_faults c.query_wrong.result) party c.unsigned_abs.result c.query_wrong.ensures c.in_ok-refuse.ensures.ok
    (ap (λ (list : List ℤ). slice_get list 0) (sym c.numbers.ensures) ∙ sym c.in-Some.ensures.value)
    (c.unsigned_abs.ensures.value ∙ ap unsigned_abs (to_z-of_z w64 party (search rules)))

pub returns-in-None-clause-asks : goal.returns-in-None-clause-asks
returns-in-None-clause-asks c = λ m.
    query_parties m c.args.b.now (plain_faults c.query_wrong.result) c.query_wrong.ensures c.in_ok-refuse.ensures.ok
    (ap (λ (list : List ℤ). slice_get list 0) (sym c.numbers.ensures) ∙ sym c.in-None.ensures.value)
