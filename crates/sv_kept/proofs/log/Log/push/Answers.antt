use Rattle.std.proofs.Common.{◌≡◌, ap, sym, ◌∙◌, subst, ℕ, ◌+◌, Bool, reverse, min, ◌∷◌, [], Some, None}
use Rattle.std.specs.Prelude.{if◌then◌else◌}
use Rattle.std.proofs.lemmas.List.{reverse-append}
use Rattle.sv_rules.specs.Limits.{most_entries, most_journal_elements}
use Rattle.sv_events.specs.Entry.{PlainEntry, plain_entry}
use Rattle.sv_events.specs.declared.row.AnswerRow.{AnswerRow}
use Rattle.sv_rules.specs.Entries.{Entries, next_place, is_leave, kind_of, is_held, counted_entries, held_elements, entry_weight}
use Rattle.sv_kept.specs.Log.{PlainLog}
use Rattle.sv_kept.specs.Member.{HasMembers}
use Rattle.sv_kept.proofs.LogLemmas.{waiting_since, members_noted, counted_more, held_more}
use Rattle.sv_kept.proofs.log.Log.push.Goals as goal
use Rattle.sv_kept.proofs.log.Log.push.Goals.{After-push_reserved}

-- the journal as it was, and the entry
abbrev was : After-push_reserved → Entries
was c = reverse c.self.inside.journal.items

abbrev added : After-push_reserved → PlainEntry
added c = plain_entry c.args.entry

grown : (c : After-push_reserved) → reverse c.push_reserved.new.self.items ≡ added c ∷ was c
grown c = ap reverse c.push_reserved.ensures.items ∙ reverse-append c.self.inside.journal.items (added c ∷ [])

-- where its party waits since
waiting_is : (c : After-push_reserved) → c.waiting_since-waiting.result ≡ waiting_since (was c) (added c)
waiting_is c =
    c.waiting_since-waiting.ensures
    ∙ ap (λ (b : Bool). if b then Some c.next_place.result else None) (c.is_held.ensures ∙ ap (λ (r : AnswerRow). is_held r.kind) c.row.ensures)
    ∙ ap (λ (n : ℕ). if is_held (kind_of (added c).answer) then Some n else None) (c.next_place.ensures ∙ sym (ap (λ (v : PlainLog). next_place v.journal) c.self.view_is))

-- what is kept of users is noted
noted_is : (c : After-push_reserved) → HasMembers (added c ∷ was c) c.self.inside.users.items c.note.new.members
noted_is c =
    let inside = c.self.inside in
    members_noted (was c) (added c) inside.users.items inside.members c.note.new.members c.is_leave-leaves.result c.waiting_since-waiting.result
    c.is_leave-leaves.ensures (waiting_is c) c.self.invariant.members c.note.ensures

pub invariant_of-self : goal.invariant_of-self
invariant_of-self c = record {
  members = subst (λ j. HasMembers j c.self.inside.users.items c.note.new.members) (sym (grown c)) (noted_is c);
  counted =
      c.counted_after-self-inside.ensures
      ∙ ap (λ (b : Bool). if b then c.self.inside.counted else min (c.self.inside.counted + 1) most_entries) c.is_leave-leaves.ensures
      ∙ ap (λ n. if is_leave c.args.entry.act then n else min (n + 1) most_entries) c.self.invariant.counted
      ∙ counted_more (was c) (added c) most_entries ∙ ap (λ j. min (counted_entries j) most_entries) (sym (grown c));
  elements =
      c.elements_after-elements.ensures
      ∙ ap (λ w. min (c.self.inside.elements + w) most_journal_elements) c.capped_weight.ensures
      ∙ ap (λ n. min (n + min (entry_weight (added c)) most_journal_elements) most_journal_elements) c.self.invariant.elements
      ∙ held_more (was c) (added c) most_journal_elements ∙ ap (λ j. min (held_elements j) most_journal_elements) (sym (grown c));
}
