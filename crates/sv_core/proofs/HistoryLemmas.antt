-- A core's journal as a history.
use Rattle.std.proofs.Common.{◌≡◌, ℕ, ◌-◌, ◌≤◌, List, [], ◌∷◌, length, map, get_or, Some, option_map, refl, sym, ap, ◌∙◌, arith}
use Rattle.std.proofs.lemmas.List.{get_or-map, length-map, reverse-append}
use Rattle.sv_events.specs.Entry.{PlainEntry, plain_entry}
use Rattle.sv_events.specs.declared.entry.Entry.{Entry}
use Rattle.sv_rules.specs.Journal.{journal_of}
use Rattle.sv_rules.specs.Legal.{entry_for}
use Rattle.sv_turn.specs.Journals.{entry_at}
use Rattle.sv_turn.proofs.EntryAt.{entry_at_reversed}
use Rattle.sv_core.specs.Histories.{OneMoreIsAppended, party_of_entry}

-- an entry that is found in memory is that of its place
pub party_is : (entries : List Entry) (place : ℕ) (e : Entry) → 1 ≤ place → place ≤ length entries → e ≡ get_or entries (place - 1) e
    → option_map party_of_entry (entry_at (journal_of entries) place) ≡ Some e.party
party_is entries place e from to is =
    let long = length-map entries plain_entry in
    ap (option_map party_of_entry) (entry_at_reversed (map plain_entry entries) place (plain_entry e) from (omega arith))
    ∙ ap (λ (x : PlainEntry). Some x.party) (get_or-map plain_entry entries (place - 1) e (plain_entry e) (omega arith) ∙ ap plain_entry (sym is))

pub one_more_is_appended : OneMoreIsAppended
one_more_is_appended core party act = record { one = (entry_for core.journal party act, refl, refl); appended = reverse-append (entry_for core.journal party act ∷ []) core.journal; members = refl }
