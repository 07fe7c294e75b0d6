use Rattle.std.proofs.Common.{◌∙◌, sym}
use Rattle.apl_verbs.specs.declared.verb.Dyad.TheVariants.{Plus, Times}
use Rattle.apl_scalar.specs.Table.{dyadic_item}
use Rattle.apl_operators.specs.Running.{factor_weight, term_weight}
use Rattle.apl_operators.proofs.WeightLemmas.{runs_grouped, runs_of_products, runs_of_sums, some_along}
use Rattle.apl_operators.proofs.running.runs.Goals as goal

pub returns-in-Plus : goal.returns-in-Plus
returns-in-Plus c e =
    runs_of_sums c.args.f c.args.list.now c.args.split c.weighs_little.result c.in-Plus.is c.requires.whole (some_along c.args.split c.requires.some)
    (c.weighs_little.ensures term_weight (dyadic_item Plus) (λ number answer told. told) (λ a b answer told. told)) e

pub returns-in-Times : goal.returns-in-Times
returns-in-Times c e =
    runs_of_products c.args.f c.args.list.now c.args.split c.weighs_little-in-Times.result c.in-Times.is c.requires.whole (some_along c.args.split c.requires.some)
    (c.weighs_little-in-Times.ensures factor_weight (dyadic_item Times) (λ number answer told. told) (λ a b answer told. told)) e

pub returns-in_default : goal.returns-in_default
returns-in_default c e =
    runs_grouped c.args.f c.args.list.now c.args.split c.requires.whole (some_along c.args.split c.requires.some) c.read_all.ensures (sym c.is_grouped.ensures ∙ e)
