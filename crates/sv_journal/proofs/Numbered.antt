-- The numbered lines of entries.
use Rattle.std.proofs.Common.{◌≡◌, ℕ, ◌+◌, ◌<◌, List, [], ◌∷◌, ◌++◌, map, length, take, get_or, sym, ap, ◌∙◌, append-nil, append_assoc, arith}
use Rattle.std.proofs.lemmas.List.{take_more, length-take-le, map-append, length-map}
use Rattle.std.proofs.lemmas.List.Concat.{flat_map-append}
use Rattle.std.specs.List.{flat_map}
use Rattle.sv_events.specs.Entry.{PlainEntry, plain_entry}
use Rattle.sv_events.specs.declared.entry.Entry.{Entry}
use Rattle.sv_journal.specs.EntryText.{entry_text}
use Rattle.line_text.specs.Lines.{line_text}
use Rattle.sv_journal.specs.Output.{entry_lines}

-- the line of one entry more
entry_lines_more : (place : ℕ) (entries : List PlainEntry) (entry : PlainEntry) → entry_lines place (entries ++ entry ∷ []) ≡ entry_lines place entries ++ entry_text (place + length entries) entry ∷ []
entry_lines_more place [] entry = ap (λ n. entry_text n entry ∷ []) (let same : place ≡ place + 0 = omega arith in same)
entry_lines_more place (first ∷ rest) entry =
    ap (λ lines. entry_text place first ∷ lines)
    (entry_lines_more (place + 1) rest entry
    ∙ ap (λ n. entry_lines (place + 1) rest ++ entry_text n entry ∷ []) (let same : place + 1 + length rest ≡ place + length (first ∷ rest) = omega arith in same))

-- the bytes of one entry more
pub entry_more : (entries : List Entry) (index : ℕ) (entry : Entry) (bytes before after : List ℕ) → index < length entries → entry ≡ get_or entries index entry → before ≡ bytes ++ flat_map line_text (entry_lines 1 (map plain_entry (take index entries))) → after ≡ before ++ line_text (entry_text (index + 1) (plain_entry entry)) → after ≡ bytes ++ flat_map line_text (entry_lines 1 (map plain_entry (take (index + 1) entries)))
entry_more entries index entry bytes before after within read so_far added =
    let lines : List PlainEntry → List ℕ = λ plain. flat_map line_text (entry_lines 1 plain) in
    let fore : List PlainEntry = map plain_entry (take index entries) in
    let items : map plain_entry (take (index + 1) entries) ≡ fore ++ plain_entry entry ∷ [] =
    ap (λ list. map plain_entry list) (take_more entries index entry within ∙ ap (λ last. take index entries ++ last ∷ []) (sym read)) ∙ map-append plain_entry (take index entries) (entry ∷ []) in
    let count : 1 + length fore ≡ index + 1 = omega (arith, length-map (take index entries) plain_entry, length-take-le index entries (omega arith)) in
    let last : lines (fore ++ plain_entry entry ∷ []) ≡ lines fore ++ line_text (entry_text (index + 1) (plain_entry entry)) =
    ap (λ list. flat_map line_text list) (entry_lines_more 1 fore (plain_entry entry))
    ∙ (flat_map-append line_text (entry_lines 1 fore) (entry_text (1 + length fore) (plain_entry entry) ∷ [])
    ∙ (ap (λ end. lines fore ++ end) (append-nil (line_text (entry_text (1 + length fore) (plain_entry entry))))
    ∙ ap (λ n. lines fore ++ line_text (entry_text n (plain_entry entry))) count)) in
    added
    ∙ (ap (λ front. front ++ line_text (entry_text (index + 1) (plain_entry entry))) so_far
    ∙ (append_assoc bytes (lines fore) (line_text (entry_text (index + 1) (plain_entry entry)))
    ∙ ap (λ end. bytes ++ end) (sym (ap lines items ∙ last))))
