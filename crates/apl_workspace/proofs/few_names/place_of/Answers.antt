use Rattle.std.proofs.Common.{◌≡◌, position, rules, tests, ◌∙◌}
use Rattle.std.specs.Map.{keys_of}
use Rattle.std.proofs.lemmas.Iterator.{YieldsList-from_slice}
use Rattle.std.proofs.lemmas.Iterator.Search.{position_from_yields_List}
use Rattle.apl_arrays.specs.Name.{same_name}
use Rattle.apl_workspace.proofs.Scanned.{no_place_found, place_by_keys, place_value, place_within}
use Rattle.apl_workspace.proofs.few_names.place_of.Goals as goal

pub returns-clause-place : goal.returns-clause-place
returns-clause-place c =
    position_from_yields_List (λ entry. same_name c.args.name.now entry.0) _ _ c.position.result c.position.ensures.ran (YieldsList-from_slice c.args.entries.now.items cc) (λ x b q k. search (rules, tests))
    ∙ place_by_keys c.args.entries.now.items c.args.name.now

pub returns-clause-within : goal.returns-clause-within
returns-clause-within c = place_within c.args.entries.now.items c.args.name.now c.position.result (returns-clause-place c)

pub returns-clause-value : goal.returns-clause-value
returns-clause-value c = place_value c.args.entries.now.items c.args.name.now c.position.result (returns-clause-place c)

pub returns-clause-none : goal.returns-clause-none
returns-clause-none c = no_place_found c.args.entries.now.items c.args.name.now c.position.result (returns-clause-place c)
