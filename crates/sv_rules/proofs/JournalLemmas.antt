-- A journal that grows by one entry at a time.
use Rattle.std.proofs.Common.{◌≡◌, ℕ, ◌+◌, ◌<◌, List, [], ◌∷◌, ◌++◌, length, get_or, take, drop, map, reverse, ap, sym, ◌∙◌}
use Rattle.std.proofs.lemmas.List.{take_more, take-append-drop, map-append, reverse-append, length-reverse, length-map}
use Rattle.sv_events.specs.Entry.{plain_entry}
use Rattle.sv_events.specs.declared.entry.Entry.{Entry}
use Rattle.sv_rules.specs.Journal.{journal_of}

-- one entry at the end is the newest
pub journal_of-push : (entries : List Entry) (e : Entry) → journal_of (entries ++ e ∷ []) ≡ plain_entry e ∷ journal_of entries
journal_of-push entries e =
    ap reverse (map-append plain_entry entries (e ∷ [])) ∙ reverse-append (map plain_entry entries) (plain_entry e ∷ [])

pub journal_of-take_more : (entries : List Entry) (i : ℕ) (d : Entry) → i < length entries → journal_of (take (i + 1) entries) ≡ plain_entry (get_or entries i d) ∷ journal_of (take i entries)
journal_of-take_more entries i d h = ap journal_of (take_more entries i d h) ∙ journal_of-push (take i entries) (get_or entries i d)

pub length-journal_of : (entries : List Entry) → length (journal_of entries) ≡ length entries
length-journal_of entries = length-reverse (map plain_entry entries) ∙ length-map entries plain_entry

-- the journal of the first entries, and those that came later
pub journal_of-take : (entries : List Entry) (i : ℕ) → journal_of entries ≡ journal_of (drop i entries) ++ journal_of (take i entries)
journal_of-take entries i =
    ap journal_of (sym (take-append-drop i entries)) ∙ ap reverse (map-append plain_entry (take i entries) (drop i entries))
    ∙ reverse-append (map plain_entry (take i entries)) (map plain_entry (drop i entries))
