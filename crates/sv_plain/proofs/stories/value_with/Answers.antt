use Rattle.std.proofs.Common.{◌≡◌, ap, sym, ◌∙◌, Bool, cond, true, false, Option}
use Rattle.std.specs.Prelude.{option_map}
use Rattle.std.specs.Option.{option_copied, option_map_or}
use Rattle.sv_access.specs.Access.{is_set}
use Rattle.sv_access.specs.declared.access.Kind.{Kind}
use Rattle.sv_events.specs.Entry.{plain_entry}
use Rattle.sv_rules.specs.Story.{access_on}
use Rattle.sv_plain.proofs.ToldLemmas.{value_with-by}
use Rattle.sv_plain.proofs.stories.value_with.Goals as goal

pub returns-then-sets : goal.returns-then-sets
returns-then-sets c =
    let got = access_on c.args.offer.now (plain_entry c.args.entry.now) in
    let sets : option_map_or is_set (option_map (λ access. access.kind) got) false ≡ true =
    ap (λ (k : Option Kind). option_map_or is_set k false) (sym c.kind_on.ensures) ∙ sym c.is_set-sets.ensures ∙ c.if-sets.true in
    c.value_on.ensures
    ∙ ap (λ (b : Bool). cond b (option_map (λ access. access.value) got) (option_copied c.args.value)) (sym sets)
    ∙ sym (value_with-by (option_copied c.args.value) got)

pub returns-else-sets : goal.returns-else-sets
returns-else-sets c =
    let got = access_on c.args.offer.now (plain_entry c.args.entry.now) in
    let sets : option_map_or is_set (option_map (λ access. access.kind) got) false ≡ false =
    ap (λ (k : Option Kind). option_map_or is_set k false) (sym c.kind_on.ensures) ∙ sym c.is_set-sets.ensures ∙ c.if-sets.false in
    ap (λ (b : Bool). cond b (option_map (λ access. access.value) got) (option_copied c.args.value)) (sym sets)
    ∙ sym (value_with-by (option_copied c.args.value) got)
