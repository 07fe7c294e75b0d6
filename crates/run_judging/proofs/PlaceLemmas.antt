-- The entry at a place of a journal that is kept oldest first.
use Rattle.std.proofs.Common.{◌≡◌, sym, ap, ◌∙◌, subst, ◌+◌, ◌<◌, ℕ, Bool, false, List, ◌∷◌, ◌++◌, length, take, drop, get_or, length-take, arith}
use Rattle.sv_core.specs.Core.{PlainCore}
use Rattle.sv_events.specs.Entry.{PlainEntry, plain_entry}
use Rattle.sv_events.specs.declared.entry.Entry.{Entry}
use Rattle.sv_rules.specs.Entries.{Entries}
use Rattle.sv_rules.specs.Journal.{journal_of}
use Rattle.sv_rules.specs.Legal.{IsLegal, MayFollow}
use Rattle.sv_rules.proofs.JournalLemmas.{journal_of-take, journal_of-take_more, length-journal_of}
use Rattle.run_judging.specs.FirstIllegal.{IsIllegalAt}
use Rattle.run_judging.specs.Judged.{Judged}
use Rattle.run_judging.proofs.JudgeLemmas.{not_judged}

-- the processor with these entries
abbrev pub core_of : List ℕ → Entries → PlainCore
core_of users journal = record { users = users; journal = journal }

-- it may not follow those before it
pub illegal_there : (users : List ℕ) (entries : List Entry) (i : ℕ) (core after : PlainCore) (entry : Entry) (may : Bool) → i < length entries → entry ≡ get_or entries i entry →
    core ≡ core_of users (journal_of (take i entries)) → IsLegal core.users core.journal → Judged core (plain_entry entry) may after → may ≡ false →
    IsIllegalAt users (journal_of entries) (i + 1)
illegal_there users entries i core after entry may within is same legal judged out = record {
  later = journal_of (drop (i + 1) entries);
  e = plain_entry entry;
  before = journal_of (take i entries);
  whole = journal_of-take entries (i + 1) ∙ ap (λ (j : Entries). journal_of (drop (i + 1) entries) ++ j) more;
  there = omega (arith, within, length-journal_of (take i entries), length-take i entries);
  legal = subst (λ (c : PlainCore). IsLegal c.users c.journal) same legal;
  illegal = subst (λ (c : PlainCore). MayFollow c.users c.journal (plain_entry entry) → ⊥) same (not_judged core after (plain_entry entry) may out judged);
}
  where
    more : journal_of (take (i + 1) entries) ≡ plain_entry entry ∷ journal_of (take i entries)
    more = journal_of-take_more entries i entry within ∙ ap (λ (x : Entry). plain_entry x ∷ journal_of (take i entries)) (sym is)
