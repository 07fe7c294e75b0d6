use Rattle.std.proofs.Common.{◌∙◌, ◌≡◌, List, Option, Some, ap, sym, ℕ}
use Rattle.sv_events.specs.declared.entry.Entry.{Entry}
use Rattle.sv_kept.specs.Member.{waiting_at}
use Rattle.sv_rules.specs.Entries.{Entries}
use Rattle.sv_rules.specs.Journal.{journal_of}
use Rattle.sv_rules.specs.Refused.{awaited}
use Rattle.sv_core.proofs.WaitingLemmas.{waits_for_none, waits_within}
use Rattle.sv_core.specs.Core.{PlainCore}
use Rattle.sv_core.proofs.processor.Core.awaited_since.Goals as goal

-- the party waits at the place of an entry
at : (entries : List Entry) (journal : Entries) (core : PlainCore) (party place : ℕ) (got : Option ℕ) → journal_of entries ≡ journal → journal ≡ core.journal → got ≡ waiting_at core.journal party → got ≡ Some place →
    waiting_at (journal_of entries) party ≡ Some place
at entries journal core party place got kept same told is = ap (λ (j : Entries). waiting_at j party) (kept ∙ same) ∙ sym told ∙ is

pub act_awaited-requires : goal.act_awaited-requires
act_awaited-requires c =
    let here = at c.entries.result.now c.self.inside.log.journal c.args.self.now c.args.party c.in-Some.place c.args.waiting c.entries.ensures (ap (λ (v : PlainCore). v.journal) c.self.view_is) c.requires c.in-Some.is in
    let within = waits_within c.entries.result.now c.args.party c.in-Some.place here in
    record { from = within.0; to = within.1; at = here }

pub returns-in-None : goal.returns-in-None
returns-in-None c = sym (waits_for_none c.args.self.now.journal c.args.party (sym c.requires ∙ c.in-None.is))

pub returns-in-Some : goal.returns-in-Some
returns-in-Some c =
    sym c.act_awaited.ensures ∙ ap (λ (j : Entries). awaited j c.args.party) (c.entries.ensures ∙ ap (λ (v : PlainCore). v.journal) c.self.view_is)
