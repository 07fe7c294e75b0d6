-- Bytes are texts of one workspace, or a field of them breaks a rule.
use Rattle.std.proofs.Common.{◌≡◌, ℕ, ◌⊎◌, inl, inr, List, [], ◌++◌, Some, None, Result, Ok, Err, length, refl, sym, ap, ◌∙◌, subst, arith}
use Rattle.apl_workspace.specs.Meaning.{NameTable}
use Rattle.apl_workspace.specs.declared.remake.Remake.{Remake}
use Rattle.ws_codec.specs.Saved.{PlainSaved, fault_of, flaw_place, reading_placed, saved_reading, read_saved, saved_of, spoils, read_version}
use Rattle.ws_codec.specs.SavedText.{first_version, objects_bytes, offers_bytes, second_version}
use Rattle.ws_codec.specs.Sound.{AreBytes, CanBeSaved}
use Rattle.ws_codec.specs.Text.{IsSavedText}
use Rattle.ws_codec.specs.declared.saved.SavedRule.{SavedRule}
use Rattle.ws_codec.specs.declared.unread.Flaw.{Flaw}
use Rattle.ws_codec.proofs.SavedParts.{read_first, read_second, version_there, whole_back}
use Rattle.ws_codec.proofs.Told.{same_first}

-- what was read, or something else
abbrev found_or : PlainSaved → Result PlainSaved (ℕ × SavedRule) → PlainSaved
found_or other (Ok found) = found
found_or other (Err fault) = other

-- what bytes are read as
abbrev read_as : PlainSaved → Result PlainSaved (ℕ × SavedRule)
read_as saved = Ok saved

same_saved : (table other : NameTable) (offers others : List Remake) → read_as (saved_of table offers) ≡ read_as (saved_of other others) → (table ≡ other) × (offers ≡ others)
same_saved table other offers others e =
    let same : saved_of table offers ≡ saved_of other others = ap (found_or (saved_of table offers)) e in
    (ap (λ (s : PlainSaved). s.workspace.globals) same, ap (λ (s : PlainSaved). s.remakes) same)

-- a text of version 2 is of one workspace
pub second_of_one : (table other : NameTable) (offers others : List Remake) → CanBeSaved table offers → CanBeSaved other others → second_version table offers ≡ second_version other others → (table ≡ other) × (offers ≡ others)
second_of_one table other offers others h k e =
    same_saved table other offers others (sym (read_second table offers h) ∙ ap saved_reading e ∙ read_second other others k)

-- a text of version 1 is of one workspace
pub first_of_one : (table other : NameTable) → CanBeSaved table [] → CanBeSaved other [] → first_version table ≡ first_version other → table ≡ other
first_of_one table other h k e =
    let same = same_saved table other [] [] (sym (read_first table h) ∙ ap saved_reading e ∙ read_first other k) in
    same.0

-- no text is of both versions
pub never_both : (table other : NameTable) (offers : List Remake) → first_version table ≡ second_version other offers → ⊥
never_both table other offers e =
    let first : read_version (first_version table) ≡ Ok (1, objects_bytes table) = version_there 1 (objects_bytes table) refl in
    let second : read_version (second_version other offers) ≡ Ok (2, objects_bytes other ++ offers_bytes offers) = version_there 2 (objects_bytes other ++ offers_bytes offers) refl in
    let one : 1 ≡ 2 = same_first {A = ℕ} 1 (objects_bytes table) 2 (objects_bytes other ++ offers_bytes offers) (sym first ∙ ap read_version e ∙ second) in
    omega (arith, one)

text_by : (bytes : List ℕ) (read : Result PlainSaved Flaw) → AreBytes bytes → read_saved bytes ≡ read → fault_of (reading_placed (length bytes) read) ≡ None → IsSavedText bytes
text_by bytes (Ok found) are e none =
    let back = whole_back bytes found are e in
    record { table = found.workspace.globals; offers = found.remakes; sound = back.0; spelled = back.1 }
text_by bytes (Err flaw) are e none = absurd (let no : Some (flaw_place (length bytes) flaw) ≡ None = none in cc)

-- bytes of which no field breaks a rule are a text
pub unspoiled_is_text : (bytes : List ℕ) → AreBytes bytes → spoils bytes ≡ None → IsSavedText bytes
unspoiled_is_text bytes are none = text_by bytes (read_saved bytes) are refl none

text_reads : (bytes : List ℕ) (table : NameTable) (offers : List Remake) → CanBeSaved table offers → (bytes ≡ second_version table offers) ⊎ ((bytes ≡ first_version table) × (offers ≡ [])) → spoils bytes ≡ None
text_reads bytes table offers h (inl second) = ap spoils second ∙ ap fault_of (read_second table offers h)
text_reads bytes table offers h (inr first) = ap spoils first.0 ∙ ap fault_of (read_first table (subst (CanBeSaved table) first.1 h))

-- no field of a text breaks a rule
pub text_is_unspoiled : (bytes : List ℕ) → IsSavedText bytes → spoils bytes ≡ None
text_is_unspoiled bytes h = text_reads bytes h.table h.offers h.sound h.spelled
