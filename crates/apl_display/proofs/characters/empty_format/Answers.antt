use Rattle.std.proofs.Common.{rules, ◌-◌, ◌++◌, ◌∷◌, [], ℕ, arith, length, subst, sym, take}
use Rattle.std.proofs.lemmas.Grind.{common_steps}
use Rattle.apl_arrays.specs.Array.{FitsLimits}
use Rattle.apl_display.proofs.FormatLemmas.{no_width}
use Rattle.apl_display.proofs.characters.empty_format.Goals as goal

pub returns-clause-fits : goal.returns-clause-fits
returns-clause-fits c =
    let fits : FitsLimits (take (length c.args.b.now.shape - 1) c.args.b.now.shape ++ 0 ∷ []) = first_of (search rules, grind (arith, common_steps)) in
    subst (λ (width : ℕ). FitsLimits (take (length c.args.b.now.shape - 1) c.args.b.now.shape ++ width ∷ [])) (sym (no_width c.args.b.now c.requires.rank c.requires.none)) fits
