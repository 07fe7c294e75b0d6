-- What is read of a line is its entry, and where the reading stops no entry's text goes on as the line does.
use Rattle.std.proofs.Common.{◌≡◌, ℕ, zero, suc, ◌+◌, ◌-◌, ◌<◌, ◌≤◌, Bool, true, false, leb, ltb, List, [], ◌∷◌, ◌++◌, Ok, Err, length, take, drop, ◌⊎◌, inl, inr, refl, sym, ap, ◌∙◌, subst, append-nil, append_assoc, arith, length-append}
use Rattle.std.proofs.lemmas.Bool.{cases_Bool}
use Rattle.std.proofs.Math.Seq.{take-append_seam}
use Rattle.std.proofs.lemmas.Bool.Decides.{nat_tests}
use Rattle.std.proofs.lemmas.List.{take-append-drop}
use Rattle.sv_events.specs.Entry.{PlainEntry}
use Rattle.apl_arrays.specs.List.{first_of}
use Rattle.text_reader.specs.declared.unread.Unread.{Unread}
use Rattle.text_reader.specs.declared.unread.Unread.TheVariants.{Left, WantOfMemory}
use Rattle.text_reader.specs.Reading.{Reading, Stops}
use Rattle.text_reader.proofs.Readers.{SameFirst, Found, Stopped, Reads, AreGlyphs, same_behind, again}
use Rattle.text_reader.proofs.Told.{tell, first_told}
use Rattle.sv_journal.specs.EntryReading.{read_entry}
use Rattle.sv_journal.specs.EntryText.{entry_text}
use Rattle.sv_journal.specs.IsEntry.{IsEntry, IsEntryText, BeginsEntry, DepartsAt}
use Rattle.sv_journal.specs.declared.entry_reading.EntryRefused.TheVariants.{WantOfMemory as NoMemory}
use Rattle.sv_journal.specs.ReadsEntry.{Departs, refusal}
use Rattle.sv_journal.proofs.EntryForms.{Placed, EntryOk, reads_entry, entry_ends}
use Rattle.sv_journal.proofs.PairForms.{Nothing}
use Rattle.sv_journal.proofs.FitForms.{entry_is_ok, ok_is_entry}

abbrev pub placed : Placed → List ℕ
placed e = entry_text e.0 e.1

-- an entry that is read has the line as its text
pub entry_found : (line : List ℕ) → AreGlyphs line → (place : ℕ) (entry : PlainEntry) (rest : List ℕ) → read_entry line ≡ Ok ((place, entry), rest) → IsEntry place entry × (line ≡ entry_text place entry)
entry_found line a place entry rest e =
    let h = subst (Reads placed EntryOk Nothing SameFirst line) e (reads_entry line a) in
    let none : rest ≡ [] = entry_ends line a (place, entry) rest e in
    (ok_is_entry place entry h.fits, h.whole ∙ (ap (λ t. entry_text place entry ++ t) none ∙ append-nil (entry_text place entry)))

-- the part of a line that was read
part_is : (line part rest : List ℕ) (left : ℕ) → line ≡ part ++ rest → left ≡ length rest → take (length line - left) line ≡ part
part_is line part rest left whole count =
    let at : length line - left ≡ length part = omega (arith, ap length whole, length-append part rest, count) in
    ap (λ n. take n line) at ∙ (ap (take (length part)) whole ∙ take-append_seam part rest)

-- a longer part begins with this one, and goes on as the line does
longer_part : (n : ℕ) (part rest : List ℕ) → length part < n → n ≤ length (part ++ rest) → (more : List ℕ) × (take n (part ++ rest) ≡ part ++ more) × (SameFirst more rest) × (0 < length more)
longer_part zero part rest long within = absurd (omega (arith, long))
longer_part (suc n) [] [] long within = absurd (omega (arith, within))
longer_part (suc n) [] (x ∷ rest) long within = (x ∷ take n rest, refl, refl, omega arith)
longer_part (suc n) (p ∷ part) rest long within =
    let inner = longer_part n part rest (omega (arith, long)) (omega (arith, within)) in
    (inner.0, ap (λ t. p ∷ t) inner.1, inner.2, inner.3)

first_of_more : (more other : List ℕ) → 0 < length more → first_of (more ++ other) ≡ first_of more
first_of_more [] other some = absurd (omega (arith, some))
first_of_more (x ∷ more) other some = refl

no_longer : (line : List ℕ) (left : ℕ) → Stopped placed EntryOk Nothing line left → (longer : ℕ) → longer ≤ length line → BeginsEntry (take longer line) → longer ≤ length line - left
no_longer line left h longer within b =
    let at : length line - left ≡ length h.part = omega (arith, ap length h.whole, length-append h.part h.rest, h.left_is) in
    elim (cases_Bool (leb longer (length h.part))) [
      | inl short ↦ let less : longer ≤ length h.part = grind (arith, nat_tests, short) in omega (arith, less, at)
      | inr long ↦
          let more : length h.part < longer = grind (arith, nat_tests, long) in
          let next = longer_part longer h.part h.rest more (omega (arith, within, ap length h.whole)) in
          let is : take longer line ≡ h.part ++ next.0 = ap (take longer) h.whole ∙ next.1 in
          let text : entry_text b.whole.place b.whole.entry ++ [] ≡ h.part ++ (next.0 ++ b.rest) =
          append-nil (entry_text b.whole.place b.whole.entry) ∙ (sym b.whole.text ∙ (ap (λ t. t ++ b.rest) is ∙ append_assoc h.part next.0 b.rest)) in
          absurd (h.none (b.whole.place, b.whole.entry) [] (next.0 ++ b.rest) (entry_is_ok b.whole.place b.whole.entry b.whole.is) refl text (first_of_more next.0 b.rest next.3 ∙ next.2))
    ]

-- where the reading stops
pub entry_departs : (line : List ℕ) → AreGlyphs line → (left : ℕ) → read_entry line ≡ Err left → DepartsAt line (length line - left)
entry_departs line a left e =
    let h = subst (Reads placed EntryOk Nothing SameFirst line) e (reads_entry line a) in
    let part = part_is line h.part h.rest left h.whole h.left_is in
    record {
      within = omega arith;
      begins = record { rest = h.more; whole = record { place = h.value.0; entry = h.value.1; is = ok_is_entry h.value.0 h.value.1 h.fits; text = ap (λ t. t ++ h.more) part ∙ sym h.goes_on } };
      longest = no_longer line left h;
      none = λ t. h.none (t.place, t.entry) [] h.rest (entry_is_ok t.place t.entry t.is) refl (append-nil (entry_text t.place t.entry) ∙ (sym t.text ∙ h.whole)) refl;
    }

-- the text of an entry is read as the entry
pub text_is_read : (line : List ℕ) → AreGlyphs line → (place : ℕ) (entry : PlainEntry) → IsEntry place entry → line ≡ entry_text place entry → read_entry line ≡ Ok ((place, entry), [])
text_is_read line a place entry is text =
    let plain : line ≡ entry_text place entry ++ [] = text ∙ sym (append-nil (entry_text place entry)) in
    ap read_entry plain
    ∙ again placed EntryOk Nothing SameFirst read_entry reads_entry (place, entry) [] (λ rest. refl) (entry_is_ok place entry is) refl (subst AreGlyphs plain a)

pub found_is_this : (line : List ℕ) → AreGlyphs line → (found place : ℕ) (read entry : PlainEntry) (rest : List ℕ) → read_entry line ≡ Ok ((found, read), rest) → IsEntry place entry → line ≡ entry_text place entry → (found ≡ place) × (read ≡ entry)
found_is_this line a found place read entry rest e is text =
    let placed_read : Placed = (found, read) in
    let placed_entry : Placed = (place, entry) in
    let told : tell placed_read rest ≡ tell placed_entry [] = sym e ∙ text_is_read line a place entry is text in
    let same : placed_read ≡ placed_entry = first_told placed_read rest placed_entry [] told in
    (ap (λ p. p.0) same, ap (λ p. p.1) same)

-- what is answered where the reading stops
pub departs_so : (line : List ℕ) → AreGlyphs line → (why : Unread) → Stops why (read_entry line) → Departs (refusal (length line) why) line
departs_so line a (Left left) stop = entry_departs line a left stop
departs_so line a WantOfMemory stop = tt

pub never_so : (line : List ℕ) → AreGlyphs line → (why : Unread) → Stops why (read_entry line) → (place : ℕ) (entry : PlainEntry) → IsEntry place entry → line ≡ entry_text place entry → refusal (length line) why ≡ NoMemory
never_so line a (Left left) stop place entry is text =
    absurd ((entry_departs line a left stop).none (record { place = place; entry = entry; is = is; text = text }))
never_so line a WantOfMemory stop place entry is text = refl
