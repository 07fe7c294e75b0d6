use Rattle.std.proofs.Common.{◌-◌, ℕ, arith, map}
use Rattle.std.specs.Prelude.{option_copied}
use Rattle.apl_selection.specs.Naming.{naming_by}
use Rattle.apl_selection.proofs.AssignLemmas.{few_together, naming_more, small_together}
use Rattle.apl_selection.proofs.NamingLemmas.{told_all, told_last, told_next}
use Rattle.apl_selection.proofs.assignment.naming.Goals as goal

pub loop-axis-init : goal.loop-axis-init
loop-axis-init c = record {
  inside = omega arith;
  told = told_last c.args.shape.now (naming_by c.args.shape.now (map option_copied c.args.subs.now) c.args.strides.now) _ _ (omega arith) c.in_ok-after.ensures;
}

pub crossed-requires-clause-few : goal.crossed-requires-clause-few
crossed-requires-clause-few c =
    let shape = c.args.shape.now in let offset = naming_by shape (map option_copied c.args.subs.now) c.args.strides.now in
    let axis : ℕ = c.loop-axis.axis - 1 in
    few_together shape offset axis c.in_ok-here.here.items c.loop-axis.after.items (omega arith) c.requires.fits.elements c.requires.elements c.in_ok-here.ensures
    (told_next shape offset c.loop-axis.axis axis c.loop-axis.after.items (omega arith) c.loop-axis.invariant.told)

pub crossed-requires-clause-small : goal.crossed-requires-clause-small
crossed-requires-clause-small c =
    let shape = c.args.shape.now in let offset = naming_by shape (map option_copied c.args.subs.now) c.args.strides.now in
    let axis : ℕ = c.loop-axis.axis - 1 in
    small_together shape offset axis c.in_ok-here.here.items c.loop-axis.after.items (omega arith) c.requires.small c.in_ok-here.ensures
    (told_next shape offset c.loop-axis.axis axis c.loop-axis.after.items (omega arith) c.loop-axis.invariant.told)

pub loop-axis-preserved : goal.loop-axis-preserved
loop-axis-preserved c =
    let shape = c.args.shape.now in let offset = naming_by shape (map option_copied c.args.subs.now) c.args.strides.now in
    let axis : ℕ = c.loop-axis.axis - 1 in record {
      inside = omega arith;
      told = naming_more shape offset axis c.in_ok-here.here.items c.loop-axis.after.items _ (omega arith) c.in_ok-here.ensures
          (told_next shape offset c.loop-axis.axis axis c.loop-axis.after.items (omega arith) c.loop-axis.invariant.told) c.in_ok-after-2.ensures;
    }

pub returns : goal.returns
returns c =
    told_all c.args.shape.now (naming_by c.args.shape.now (map option_copied c.args.subs.now) c.args.strides.now) c.loop-axis.axis c.loop-axis.after.items (omega arith) c.loop-axis.invariant.told
