-- The newest entry of a journal that is kept oldest first.
use Rattle.std.proofs.Common.{◌≡◌, sym, ap, ap₂, ◌∙◌, ◌+◌, ◌<◌, ℕ, List, ◌∷◌, length, take, get_or, Some, arith}
use Rattle.std.proofs.lemmas.List.{take_all}
use Rattle.std.proofs.lemmas.Option.{same_Some}
use Rattle.apl_arrays.specs.List.{first_of}
use Rattle.sv_events.specs.Answer.{PlainAnswer, plain_answer}
use Rattle.sv_events.specs.Entry.{PlainEntry, plain_entry}
use Rattle.sv_events.specs.declared.entry.Entry.{Entry}
use Rattle.sv_events.specs.declared.entry.Pair.{Pair}
use Rattle.sv_events.specs.declared.event.Act.{Act}
use Rattle.sv_rules.specs.Entries.{Entries}
use Rattle.sv_rules.specs.Journal.{journal_of}
use Rattle.sv_rules.proofs.JournalLemmas.{journal_of-take_more}

-- the last one is it
pub newest : (entries : List Entry) (i : ℕ) (last : Entry) (e : PlainEntry) (journal : Entries) → length entries ≡ i + 1 → last ≡ get_or entries i last → journal_of entries ≡ e ∷ journal →
    e ≡ plain_entry last
newest entries i last e journal size is whole =
    let more : journal_of (take (i + 1) entries) ≡ plain_entry (get_or entries i last) ∷ journal_of (take i entries) = journal_of-take_more entries i last (omega (arith, size)) in
    let all : take (i + 1) entries ≡ entries = take_all (i + 1) entries (omega (arith, size)) in
    same_Some _ _
    (ap (λ (list : Entries). first_of list) (sym whole ∙ sym (ap journal_of all) ∙ more) ∙ ap (λ (x : Entry). Some (plain_entry x)) (sym is))

-- entries whose parts are the same are
pub same_parts : (one other : Entry) → (one.party ≡ other.party) × (one.act ≡ other.act) × (plain_answer one.answer ≡ plain_answer other.answer) × (one.made.items ≡ other.made.items) → plain_entry one ≡ plain_entry other
same_parts one other same =
    ap₂ (λ (party : ℕ) (act : Act). let e : PlainEntry = record { party = party; act = act; answer = plain_answer one.answer; made = one.made.items } in e) same.0 same.1
    ∙ ap₂ (λ (answer : PlainAnswer) (made : List Pair). let e : PlainEntry = record { party = other.party; act = other.act; answer = answer; made = made } in e) same.2 same.3

pub parts_same : (one other : Entry) → plain_entry one ≡ plain_entry other → (one.party ≡ other.party) × (one.act ≡ other.act) × (plain_answer one.answer ≡ plain_answer other.answer) × (one.made.items ≡ other.made.items)
parts_same one other same =
    (ap (λ (e : PlainEntry). e.party) same, ap (λ (e : PlainEntry). e.act) same, ap (λ (e : PlainEntry). e.answer) same, ap (λ (e : PlainEntry). e.made) same)
