use Rattle.std.proofs.Common.{◌≡◌, ap, sym, ◌∙◌, subst, reverse, [], min, rules}
use Rattle.sv_rules.specs.Limits.{most_entries, most_journal_elements}
use Rattle.apl_arrays.specs.List.{Listed}
use Rattle.sv_events.specs.Entry.{PlainEntry}
use Rattle.sv_rules.specs.Entries.{Entries, counted_entries, held_elements}
use Rattle.sv_kept.specs.Member.{HasMembers}
use Rattle.sv_kept.proofs.log.Log.new.Goals as goal

pub invariant_of-result : goal.invariant_of-result
invariant_of-result c =
    let none = ap (λ (v : Listed PlainEntry). reverse v.items) c.journal.view_is ∙ ap reverse (c.reserve.ensures.items ∙ c.new-journal.ensures) in
    let kept : c.in_ok-to_vec.field-0.items ≡ c.args.users.now = search rules in
    record {
      members = subst (λ (j : Entries). HasMembers j c.in_ok-to_vec.field-0.items c.in_ok-members_of.field-0) (sym none) (subst (λ users. HasMembers [] users c.in_ok-members_of.field-0) (sym kept) c.in_ok-members_of.ensures);
      counted = ap (λ (j : Entries). min (counted_entries j) most_entries) (sym none);
      elements = ap (λ (j : Entries). min (held_elements j) most_journal_elements) (sym none);
    }
