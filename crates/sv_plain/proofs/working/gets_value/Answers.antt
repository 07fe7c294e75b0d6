use Rattle.std.proofs.Common.{ap, sym, ◌∙◌, not, false, Option}
use Rattle.std.specs.Option.{option_map_or}
use Rattle.sv_access.specs.Access.{is_set}
use Rattle.sv_access.specs.declared.access.Kind.{Kind}
use Rattle.sv_events.specs.Entry.{plain_entry}
use Rattle.sv_rules.specs.Story.{access_on}
use Rattle.sv_plain.proofs.ToldLemmas.{use_by_kind}
use Rattle.sv_plain.proofs.working.gets_value.Goals as goal

pub returns : goal.returns
returns c =
    c.is_use.ensures ∙ ap (λ (k : Option Kind). option_map_or (λ kind. not (is_set kind)) k false) c.kind_on.ensures
    ∙ sym (use_by_kind (access_on c.args.offer.now (plain_entry c.args.entry.now)))
