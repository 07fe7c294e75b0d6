use Rattle.std.proofs.Common.{◌≡◌, refl, arith}
use Rattle.std.proofs.lemmas.Result.{err_from_is_err_and}
use Rattle.apl_arrays.specs.declared.report.Fail.TheVariants.{WantOfMemory}
use Rattle.apl_workspace.proofs.Tables.{is_table_with, new_is_reckoned, wanted_within}
use Rattle.apl_workspace.specs.Meaning.{with_meaning}
use Rattle.apl_workspace.proofs.few_names.FewNames.put_new.Goals as goal

pub returns-then-weight-most-clause-full : goal.returns-then-weight-most-clause-full
returns-then-weight-most-clause-full c = (refl, (new_is_reckoned _ _ c.args.name c.args.meaning _ _ _ c.args.most c.self.view_is c.self.invariant c.requires.limit c.requires.new c.requires.after refl).over c.if-weight-most.true)

pub invariant_of-self-2 : goal.invariant_of-self-2
invariant_of-self-2 c =
    is_table_with _ c.args.self.now _ c.args.name c.args.meaning _ _ c.args.most c.self.view_is c.self.invariant c.requires.whole (new_is_reckoned _ _ c.args.name c.args.meaning _ _ _ c.args.most c.self.view_is c.self.invariant c.requires.limit c.requires.new c.requires.after refl)
    c.if-weight-most.false c.requires.limit c.in_ok-push_entry.ensures.ok

pub returns-clause-fits : goal.returns-clause-fits
returns-clause-fits c =
    let same = (new_is_reckoned _ _ c.args.name c.args.meaning _ _ _ c.args.most c.self.view_is c.self.invariant c.requires.limit c.requires.new c.requires.after refl).fits c.if-weight-most.false in
    omega (arith, same, c.if-weight-most.false)

pub returns-in_err-push_entry-clause-full : goal.returns-in_err-push_entry-clause-full
returns-in_err-push_entry-clause-full c =
    let same = (new_is_reckoned _ _ c.args.name c.args.meaning _ _ _ c.args.most c.self.view_is c.self.invariant c.requires.limit c.requires.new c.requires.after refl).fits c.if-weight-most.false in
    let exit = err_from_is_err_and c.from_residual.result c.from_residual.ensures.1 in
    let why : exit.0 ≡ WantOfMemory = cc exit.2 in
    wanted_within c.from_residual.result exit.0 (with_meaning c.args.self.now c.args.name c.args.meaning) c.args.most exit.1 why (omega (arith, same, c.if-weight-most.false))
