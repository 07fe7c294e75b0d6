use Rattle.std.proofs.Common.{◌∙◌, List, ap, not, sym, take, ℕ}
use Rattle.std.specs.List.{list_any}
use Rattle.std.proofs.lemmas.Option.{get_or_from_slice_get}
use Rattle.apl_arrays.specs.Name.{same_name}
use Rattle.apl_execute.proofs.Weights.{new_where_differ}
use Rattle.apl_execute.proofs.weighing.is_new.Goals as goal

pub returns-then-differ : goal.returns-then-differ
returns-then-differ c name here =
    let is = sym (get_or_from_slice_get c.args.names.now c.args.at name name here) in
    c.if-differ.true ∙ sym (ap not (new_where_differ c.args.names.now c.args.at name (c.requires.differ c.if-differ.true) c.requires.inside is))

pub returns-else-differ : goal.returns-else-differ
returns-else-differ c name here =
    let is = c.index-names-at.is ∙ get_or_from_slice_get c.args.names.now c.args.at name c.index-names-at.result here in
    ap not (c.is_among.ensures ∙ ap (λ (n : List ℕ). list_any (same_name n) (take c.args.at c.args.names.now)) is)
