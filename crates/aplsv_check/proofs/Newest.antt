-- The newest entry of a journal is the last of those that are kept oldest first.
use Rattle.std.proofs.Common.{◌≡◌, ℕ, ◌-◌, List, [], ◌∷◌, ◌++◌, length, reverse, Option, Some, None, refl, sym, ap, ap₂, ◌∙◌, subst, arith, length-append}
use Rattle.std.proofs.lemmas.List.{reverse-append, reverse-reverse}
use Rattle.std.proofs.lemmas.Option.{none-some}
use Rattle.std.specs.Prelude.{option_map, slice_get}
use Rattle.apl_arrays.specs.List.{first_of}
use Rattle.sv_events.specs.Answer.{PlainAnswer, plain_answer}
use Rattle.sv_events.specs.Entry.{PlainEntry, plain_entry}
use Rattle.sv_events.specs.declared.entry.Entry.{Entry}
use Rattle.sv_events.specs.declared.entry.Pair.{Pair}
use Rattle.sv_events.specs.declared.event.Act.{Act}
use Rattle.sv_rules.proofs.JournalLemmas.{journal_of-push}
use Rattle.sv_rules.specs.Entries.{Entries}
use Rattle.sv_rules.specs.Journal.{journal_of}

get_last : (front : List Entry) (e : Entry) → slice_get (front ++ e ∷ []) (length front) ≡ Some e
get_last [] e = refl
get_last (x ∷ front) e = get_last front e

last_pushed : (front : List Entry) (e : Entry) → slice_get (front ++ e ∷ []) (length (front ++ e ∷ []) - 1) ≡ Some e
last_pushed front e =
    let at : length (front ++ e ∷ []) - 1 ≡ length front = omega (arith, length-append front (e ∷ [])) in
    ap (λ (n : ℕ). slice_get (front ++ e ∷ []) n) at ∙ get_last front e

last_of_reversed : (entries : List Entry) → first_of (journal_of (reverse entries)) ≡ option_map plain_entry (slice_get (reverse entries) (length (reverse entries) - 1))
last_of_reversed [] = refl
last_of_reversed (e ∷ entries) =
    let front : List Entry = reverse entries in
    subst (λ (list : List Entry). first_of (journal_of list) ≡ option_map plain_entry (slice_get list (length list - 1))) (sym (reverse-append (e ∷ []) entries))
    (ap (λ (list : Entries). first_of list) (journal_of-push front e) ∙ sym (ap (λ (o : Option Entry). option_map plain_entry o) (last_pushed front e)))

pub newest_is_last : (entries : List Entry) → first_of (journal_of entries) ≡ option_map plain_entry (slice_get entries (length entries - 1))
newest_is_last entries =
    subst (λ (list : List Entry). first_of (journal_of list) ≡ option_map plain_entry (slice_get list (length list - 1))) (reverse-reverse entries) (last_of_reversed (reverse entries))

-- entries whose parts are the same are
pub same_parts : (one other : Entry) → (one.party ≡ other.party) × (one.act ≡ other.act) × (plain_answer one.answer ≡ plain_answer other.answer) × (one.made.items ≡ other.made.items) → plain_entry one ≡ plain_entry other
same_parts one other same =
    ap₂ (λ (party : ℕ) (act : Act). let e : PlainEntry = record { party = party; act = act; answer = plain_answer one.answer; made = one.made.items } in e) same.0 same.1
    ∙ ap₂ (λ (answer : PlainAnswer) (made : List Pair). let e : PlainEntry = record { party = other.party; act = other.act; answer = answer; made = made } in e) same.2 same.3

pub parts_same : (one other : Entry) → plain_entry one ≡ plain_entry other → (one.party ≡ other.party) × (one.act ≡ other.act) × (plain_answer one.answer ≡ plain_answer other.answer) × (one.made.items ≡ other.made.items)
parts_same one other same =
    (ap (λ (e : PlainEntry). e.party) same, ap (λ (e : PlainEntry). e.act) same, ap (λ (e : PlainEntry). e.answer) same, ap (λ (e : PlainEntry). e.made) same)

-- where no entry is the last, none is the newest
pub none_newest : (entries : List Entry) (journal : Entries) (e : PlainEntry) → journal_of entries ≡ journal → slice_get entries (length entries - 1) ≡ None → first_of journal ≡ Some e → ⊥
none_newest entries journal e is none newest =
    none-some e (sym (ap (λ (list : Entries). first_of list) (sym is) ∙ (newest_is_last entries ∙ ap (λ (o : Option Entry). option_map plain_entry o) none)) ∙ newest)

-- and else that one is
pub newest_so : (entries : List Entry) (journal : Entries) (last : Entry) → journal_of entries ≡ journal → slice_get entries (length entries - 1) ≡ Some last → first_of journal ≡ Some (plain_entry last)
newest_so entries journal last is there = ap (λ (list : Entries). first_of list) (sym is) ∙ (newest_is_last entries ∙ ap (λ (o : Option Entry). option_map plain_entry o) there)
