-- A report that stands before the items are looked at.
use Rattle.std.proofs.Common.{◌≡◌, Bool, true, false, ◌||◌, Some, Err, sym}
use Rattle.apl_arrays.specs.declared.report.Report.{Report}
use Rattle.apl_verbs.specs.declared.verb.Dyad.{Dyad}
use Rattle.apl_arrays.specs.Array.{PlainArray}
use Rattle.apl_items.specs.Answers.{no_faults, first_report, answer_of}
use Rattle.apl_items.specs.Extension.{ranks_differ, shapes_differ}
use Rattle.apl_scalar.specs.Scalar.{dyadic_of, is_unfit}

reported : (rank shape unfit lacks : Bool) (array : PlainArray) (report : Report)
    → first_report (record no_faults { bad_rank = rank; bad_length = shape; bad_domain = unfit }) ≡ Some report
    → answer_of (record no_faults { bad_rank = rank; bad_length = shape; bad_domain = unfit || lacks }) array ≡ Err report
reported true shape unfit lacks array report e = cc
reported false true unfit lacks array report e = cc
reported false false true lacks array report e = cc
reported false false false lacks array report e = cc

pub misfit_is_reported : (f : Dyad) (a b : PlainArray) (report : Report)
    → Some report ≡ first_report (record no_faults { bad_rank = ranks_differ a b; bad_length = shapes_differ a b; bad_domain = is_unfit f a.items b.items })
    → dyadic_of f a b ≡ Err report
misfit_is_reported f a b report e = reported (ranks_differ a b) (shapes_differ a b) (is_unfit f a.items b.items) _ _ report (sym e)
