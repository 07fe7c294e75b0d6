-- Of a bundle and a text one verdict is found.
use Rattle.std.proofs.Common.{◌≡◌, ◌≢◌, ℕ, ◌+◌, Bool, not, cond, List, [], ◌∷◌, ◌++◌, length, map, reverse, find, Some, None, inl, inr, refl, sym, ap, ap₂, ◌∙◌, subst, subst₂, append_assoc}
use Rattle.std.proofs.lemmas.List.{reverse-append, reverse-reverse}
use Rattle.std.proofs.lemmas.Option.{none-some, same_Some}
use Rattle.apl_arrays.specs.List.{first_of}
use Rattle.bundle_text.specs.Rules.{IsBundle, PlainBundle}
use Rattle.bundle_text.specs.User.{PlainUser}
use Rattle.printed_text.proofs.Steps.{nowhere, one_output}
use Rattle.printed_text.proofs.Walks.{departs_once}
use Rattle.session_rules.specs.Run.{AreUserParts, Dealings, ServeUsers}
use Rattle.sv_events.specs.Entry.{PlainEntry}
use Rattle.sv_journal.specs.Output.{PlainTranscript}
use Rattle.sv_rules.specs.Entries.{Entries, has_left}
use Rattle.apl_io.specs.Kept.{Keeper}
use Rattle.bundle_devices.proofs.OwnDevices.{keeper_faults, told_by}
use Rattle.bundle_devices.specs.Devices.{empty_shelf}
use Rattle.check_rules.specs.Fits.{EntriesFit, EntryFits, IsFirstUnfit}
use Rattle.check_rules.specs.Saw.{AllSaw, DifferAt, IsFirstDifference, first_there}
use Rattle.check_rules.specs.Verdict.{HasOtherLine, HasUnfinished, HasUnfit, IsLegalOutput, IsVerdict, TellsOutput, users_named}
use Rattle.check_rules.specs.declared.verdict.Verdict.{Verdict}
use Rattle.check_rules.specs.declared.verdict.Verdict.TheVariants.{Yes, Text, Entry, Unfinished, Line}
use Rattle.check_rules.proofs.OneTranscript.{one_saw}
use Rattle.check_rules.proofs.RunFits.{run_fits}

-- ---- what a text tells

-- it tells one thing
record TellsSame (transcripts others : List PlainTranscript) (entries more : List PlainEntry) : Type 0 where
  shown : transcripts ≡ others
  made : entries ≡ more

tells_same : (bundle : PlainBundle) (text : List ℕ) (transcripts others : List PlainTranscript) (entries more : List PlainEntry) → TellsOutput bundle text transcripts entries → TellsOutput bundle text others more → TellsSame transcripts others entries more
tells_same bundle text transcripts others entries more h k =
    let same = one_output (users_named bundle) transcripts others entries more h.printed k.printed (sym h.is ∙ k.is) in record { shown = same.0; made = same.1 }

-- ---- entries that fit

-- of entries that fit each fits
fits_there : (bundle : PlainBundle) (more : Entries) (e : PlainEntry) (journal : Entries) → EntriesFit bundle (more ++ e ∷ journal) → EntryFits bundle journal e
fits_there bundle [] e journal fit = fit.0
fits_there bundle (f ∷ more) e journal fit = fits_there bundle more e journal fit.1

turned : (before : List PlainEntry) (e : PlainEntry) (behind : List PlainEntry) → reverse (before ++ e ∷ behind) ≡ reverse behind ++ e ∷ reverse before
turned before e behind =
    reverse-append before (e ∷ behind) ∙ (ap (λ (list : List PlainEntry). list ++ reverse before) (reverse-append (e ∷ []) behind) ∙ append_assoc (reverse behind) (e ∷ []) (reverse before))

-- so none is the first that does not
pub all_or_unfit : (bundle : PlainBundle) (entries : List PlainEntry) (place : ℕ) → EntriesFit bundle (reverse entries) → IsFirstUnfit bundle entries place → ⊥
all_or_unfit bundle entries place fit first =
    let whole : EntriesFit bundle (reverse first.behind ++ first.entry ∷ reverse first.before) =
    subst (λ (journal : Entries). EntriesFit bundle journal) (ap (λ (list : List PlainEntry). reverse list) first.here ∙ turned first.before first.entry first.behind) fit in
    first.unfit (fits_there bundle (reverse first.behind) first.entry (reverse first.before) whole)

-- of two entries that do not fit one is behind the other, or they are one
data AreSplit (one : List PlainEntry) (e : PlainEntry) (two : List PlainEntry) (d : PlainEntry) : Type 0 where
  same_place : one ≡ two → AreSplit one e two d
  first_one : (between : List PlainEntry) → two ≡ one ++ e ∷ between → AreSplit one e two d
  first_two : (between : List PlainEntry) → one ≡ two ++ d ∷ between → AreSplit one e two d

split_push : (x : PlainEntry) (one : List PlainEntry) (e : PlainEntry) (two : List PlainEntry) (d : PlainEntry) → AreSplit one e two d → AreSplit (x ∷ one) e (x ∷ two) d
split_push x one e two d (same_place same) = same_place (ap (λ (list : List PlainEntry). x ∷ list) same)
split_push x one e two d (first_one between same) = first_one between (ap (λ (list : List PlainEntry). x ∷ list) same)
split_push x one e two d (first_two between same) = first_two between (ap (λ (list : List PlainEntry). x ∷ list) same)

are_split : (one : List PlainEntry) (e : PlainEntry) (rest two : List PlainEntry) (d : PlainEntry) (left : List PlainEntry) → one ++ e ∷ rest ≡ two ++ d ∷ left → AreSplit one e two d
are_split [] e rest [] d left same = same_place refl
are_split [] e rest (y ∷ two) d left same = first_one two (let first : y ≡ e = cc in ap (λ (z : PlainEntry). z ∷ two) first)
are_split (x ∷ one) e rest [] d left same = first_two one (let first : x ≡ d = cc in ap (λ (z : PlainEntry). z ∷ one) first)
are_split (x ∷ one) e rest (y ∷ two) d left same =
    let first : x ≡ y = cc in
    let behind : one ++ e ∷ rest ≡ two ++ d ∷ left = cc in
    subst (λ (z : PlainEntry). AreSplit (x ∷ one) e (z ∷ two) d) first (split_push x one e two d (are_split one e rest two d left behind))

-- what fits before one of them
fits_before : (bundle : PlainBundle) (one : List PlainEntry) (e : PlainEntry) (between two : List PlainEntry) → two ≡ one ++ e ∷ between → EntriesFit bundle (reverse two) → EntryFits bundle (reverse one) e
fits_before bundle one e between two same fit =
    fits_there bundle (reverse between) e (reverse one) (subst (λ (journal : Entries). EntriesFit bundle journal) (ap (λ (list : List PlainEntry). reverse list) same ∙ turned one e between) fit)

-- one entry is the first that does not fit
one_unfit : (bundle : PlainBundle) (entries : List PlainEntry) (place other : ℕ) → IsFirstUnfit bundle entries place → IsFirstUnfit bundle entries other → place ≡ other
one_unfit bundle entries place other h k = by (are_split h.before h.entry h.behind k.before k.entry k.behind (sym h.here ∙ k.here)) where
  by : AreSplit h.before h.entry k.before k.entry → place ≡ other
  by (same_place same) = h.counted ∙ (ap (λ (list : List PlainEntry). length list + 1) same ∙ sym k.counted)
  by (first_one between same) = absurd (h.unfit (fits_before bundle h.before h.entry between k.before same k.fit))
  by (first_two between same) = absurd (k.unfit (fits_before bundle k.before k.entry between h.before same h.fit))

-- ---- what users saw

-- lines and others differ first in one line
one_common : (common also rest left right over : List (List ℕ)) → common ++ rest ≡ also ++ left → common ++ right ≡ also ++ over → first_of rest ≢ first_of right → first_of left ≢ first_of over → common ≡ also
one_common [] [] rest left right over a b differ differs = refl
one_common [] (y ∷ also) rest left right over a b differ differs = absurd (differ (ap first_of a ∙ sym (ap first_of b)))
one_common (x ∷ common) [] rest left right over a b differ differs = absurd (differs (sym (ap first_of a) ∙ ap first_of b))
one_common (x ∷ common) (y ∷ also) rest left right over a b differ differs =
    let first : x ≡ y = cc in
    let one : common ++ rest ≡ also ++ left = cc in
    let two : common ++ right ≡ also ++ over = cc in
    ap₂ (λ (line : List ℕ) (list : List (List ℕ)). line ∷ list) first (one_common common also rest left right over one two differ differs)

pub one_difference : (lines others : List (List ℕ)) (m n : ℕ) → DifferAt lines others m → DifferAt lines others n → m ≡ n
one_difference lines others m n h k =
    let same = one_common h.common k.common h.rest k.rest h.left k.left (sym h.one ∙ k.one) (sym h.other ∙ k.other) h.differ k.differ in
    h.counted ∙ (ap (λ (list : List (List ℕ)). length list + 1) same ∙ sym k.counted)

-- lines do not differ from themselves
pub same_differ_not : (lines others : List (List ℕ)) (n : ℕ) → lines ≡ others → DifferAt lines others n → ⊥
same_differ_not lines others n same h = h.differ (ap first_of (behind h.common h.rest h.left (sym h.one ∙ (same ∙ h.other)))) where
  behind : (common rest left : List (List ℕ)) → common ++ rest ≡ common ++ left → rest ≡ left
  behind [] rest left e = e
  behind (x ∷ common) rest left e = behind common rest left (let tails : common ++ rest ≡ common ++ left = cc in tails)

-- one user is the first of whom other lines are printed
record SameFirst (number other line more : ℕ) : Type 0 where
  user : number ≡ other
  line_is : line ≡ more

one_first : (journal : Entries) (users : List PlainUser) (transcripts : List PlainTranscript) (number other line more : ℕ) → IsFirstDifference journal users transcripts number line → IsFirstDifference journal users transcripts other more → SameFirst number other line more
one_first journal [] transcripts number other line more h k = absurd h
one_first journal (user ∷ users) [] number other line more h k = absurd h
one_first journal (user ∷ users) (printed ∷ transcripts) number other line more (inl (lines, is, saw, differ)) (inl (others, are, seen, differs)) = record {
  user = is ∙ sym are;
  line_is = one_difference printed.lines lines line more differ (subst (λ (list : List (List ℕ)). DifferAt printed.lines list more) (one_saw journal user others lines seen saw) differs);
}
one_first journal (user ∷ users) (printed ∷ transcripts) number other line more (inl (lines, is, saw, differ)) (inr (seen, rest)) = absurd (same_differ_not printed.lines lines line (one_saw journal user printed.lines lines seen saw) differ)
one_first journal (user ∷ users) (printed ∷ transcripts) number other line more (inr (saw, rest)) (inl (others, are, seen, differs)) = absurd (same_differ_not printed.lines others more (one_saw journal user printed.lines others saw seen) differs)
one_first journal (user ∷ users) (printed ∷ transcripts) number other line more (inr (saw, rest)) (inr (seen, left)) = one_first journal users transcripts number other line more rest left

-- where each saw what is printed there is none
none_differs : (journal : Entries) (users : List PlainUser) (transcripts : List PlainTranscript) (number line : ℕ) → AllSaw journal users transcripts → IsFirstDifference journal users transcripts number line → ⊥
none_differs journal [] transcripts number line saw h = h
none_differs journal (user ∷ users) [] number line saw h = h
none_differs journal (user ∷ users) (printed ∷ transcripts) number line saw (inl (lines, is, seen, differ)) = same_differ_not printed.lines lines line (one_saw journal user printed.lines lines saw.0 seen) differ
none_differs journal (user ∷ users) (printed ∷ transcripts) number line saw (inr (seen, rest)) = none_differs journal users transcripts number line saw.1 rest

-- ---- a run

-- in a run each saw what is printed
run_saw : (dealings : Dealings) (journal : Entries) (users : List PlainUser) (transcripts : List PlainTranscript) (shelves_then : List (Keeper (ℕ × List ℕ))) → AreUserParts dealings journal users transcripts
    → ServeUsers told_by keeper_faults dealings users (map (λ (user : PlainUser). empty_shelf) users) shelves_then → AllSaw journal users transcripts
run_saw dealings journal [] [] shelves_then parts served = tt
run_saw dealings journal [] (printed ∷ transcripts) shelves_then parts served = absurd parts
run_saw dealings journal (user ∷ users) [] shelves_then parts served = absurd parts
run_saw dealings journal (user ∷ users) (printed ∷ transcripts) [] parts served = absurd served
run_saw dealings journal (user ∷ users) (printed ∷ transcripts) (shelf ∷ shelves) parts served =
    (record { exchanges = dealings user.number; served = (shelf, served.0); part = parts.1 }, run_saw dealings journal users transcripts shelves parts.2 served.1)

-- and all have left
all_left : (dealings : Dealings) (journal : Entries) (users : List PlainUser) (transcripts : List PlainTranscript) → AreUserParts dealings journal users transcripts → find (λ (number : ℕ). not (has_left journal number)) (map (λ (user : PlainUser). user.number) users) ≡ None
all_left dealings journal [] transcripts parts = refl
all_left dealings journal (user ∷ users) [] parts = absurd parts
all_left dealings journal (user ∷ users) (printed ∷ transcripts) parts =
    ap (λ (gone : Bool). cond (not gone) (Some user.number) (find (λ (number : ℕ). not (has_left journal number)) (map (λ (user : PlainUser). user.number) users))) parts.1.left ∙ all_left dealings journal users transcripts parts.2

-- what a text tells of an output that is legal
record ToldLegal (bundle : PlainBundle) (transcripts : List PlainTranscript) (entries : List PlainEntry) : Type 0 where
  fit : EntriesFit bundle (reverse entries)
  left : first_there bundle (reverse entries) ≡ None
  saw : AllSaw (reverse entries) bundle.users transcripts

legal_told : (bundle : PlainBundle) (text : List ℕ) (transcripts : List PlainTranscript) (entries : List PlainEntry) → IsBundle bundle → IsLegalOutput bundle text → TellsOutput bundle text transcripts entries → ToldLegal bundle transcripts entries
legal_told bundle text transcripts entries rules legal tells =
    let same = tells_same bundle text legal.transcripts transcripts (reverse legal.journal) entries legal.tells tells in
    let journal : legal.journal ≡ reverse entries = sym (reverse-reverse legal.journal) ∙ ap (λ (list : List PlainEntry). reverse list) same.made in
    record {
      fit = subst (λ (j : Entries). EntriesFit bundle j) journal (run_fits bundle rules legal.journal legal.transcripts legal.run);
      left = ap (λ (j : Entries). first_there bundle j) (sym journal) ∙ all_left legal.run.dealings legal.journal bundle.users legal.transcripts legal.run.run.users;
      saw = subst₂ (λ (j : Entries) (list : List PlainTranscript). AllSaw j bundle.users list) journal same.shown
          (run_saw legal.run.dealings legal.journal bundle.users legal.transcripts legal.run.shelves legal.run.run.users legal.run.run.shelves_served);
    }

-- ---- verdicts

-- an output tells something
record ToldSo (bundle : PlainBundle) (text : List ℕ) : Type 0 where
  transcripts : List PlainTranscript
  entries : List PlainEntry
  tells : TellsOutput bundle text transcripts entries

no_departure : (bundle : PlainBundle) (text : List ℕ) (at : ℕ) (told : ToldSo bundle text) → IsVerdict bundle text (Text at) → ⊥
no_departure bundle text at told departs = nowhere (users_named bundle) text told.transcripts told.entries at told.tells.printed told.tells.is departs

legal_tells : (bundle : PlainBundle) (text : List ℕ) → IsLegalOutput bundle text → ToldSo bundle text
legal_tells bundle text h = record { transcripts = h.transcripts; entries = reverse h.journal; tells = h.tells }

unfit_tells : (bundle : PlainBundle) (text : List ℕ) (place : ℕ) → HasUnfit bundle text place → ToldSo bundle text
unfit_tells bundle text place h = record { transcripts = h.transcripts; entries = h.entries; tells = h.tells }

unfinished_tells : (bundle : PlainBundle) (text : List ℕ) (user : ℕ) → HasUnfinished bundle text user → ToldSo bundle text
unfinished_tells bundle text user h = record { transcripts = h.transcripts; entries = h.entries; tells = h.tells }

line_tells : (bundle : PlainBundle) (text : List ℕ) (user line : ℕ) → HasOtherLine bundle text user line → ToldSo bundle text
line_tells bundle text user line h = record { transcripts = h.transcripts; entries = h.entries; tells = h.tells }

module _ (bundle : PlainBundle) (text : List ℕ) (rules : IsBundle bundle) where
  -- of two that were found the one is the other
  unfit_not_fit : (place : ℕ) (h : HasUnfit bundle text place) (transcripts : List PlainTranscript) (entries : List PlainEntry) → TellsOutput bundle text transcripts entries → EntriesFit bundle (reverse entries) → ⊥
  unfit_not_fit place h transcripts entries tells fit =
      let same = tells_same bundle text transcripts h.transcripts entries h.entries tells h.tells in
      all_or_unfit bundle h.entries place (subst (λ (list : List PlainEntry). EntriesFit bundle (reverse list)) same.made fit) h.first

  unfinished_not_left : (user : ℕ) (h : HasUnfinished bundle text user) (transcripts : List PlainTranscript) (entries : List PlainEntry) → TellsOutput bundle text transcripts entries → first_there bundle (reverse entries) ≡ None → ⊥
  unfinished_not_left user h transcripts entries tells left =
      let same = tells_same bundle text transcripts h.transcripts entries h.entries tells h.tells in
      none-some user (sym (ap (λ (list : List PlainEntry). first_there bundle (reverse list)) (sym same.made) ∙ left) ∙ h.first)

  line_not_legal : (user line : ℕ) → HasOtherLine bundle text user line → IsLegalOutput bundle text → ⊥
  line_not_legal user line h legal =
      let told = legal_told bundle text h.transcripts h.entries rules legal h.tells in none_differs (reverse h.entries) bundle.users h.transcripts user line told.saw h.first

  unfit_not_legal : (place : ℕ) → HasUnfit bundle text place → IsLegalOutput bundle text → ⊥
  unfit_not_legal place h legal = all_or_unfit bundle h.entries place (legal_told bundle text h.transcripts h.entries rules legal h.tells).fit h.first

  unfinished_not_legal : (user : ℕ) → HasUnfinished bundle text user → IsLegalOutput bundle text → ⊥
  unfinished_not_legal user h legal = none-some user (sym (legal_told bundle text h.transcripts h.entries rules legal h.tells).left ∙ h.first)

  one_line : (user other line more : ℕ) → HasOtherLine bundle text user line → HasOtherLine bundle text other more → Line user line ≡ Line other more
  one_line user other line more h k =
      let same = tells_same bundle text k.transcripts h.transcripts k.entries h.entries k.tells h.tells in
      let first = one_first (reverse h.entries) bundle.users h.transcripts user other line more h.first
      (subst₂ (λ (list : List PlainEntry) (shown : List PlainTranscript). IsFirstDifference (reverse list) bundle.users shown other more) same.made same.shown k.first) in
      ap₂ (λ (u n : ℕ). Line u n) first.user first.line_is

  -- one verdict is found
  pub one_verdict : (verdict other : Verdict) → IsVerdict bundle text verdict → IsVerdict bundle text other → verdict ≡ other
  one_verdict Yes Yes h k = refl
  one_verdict Yes (Text at) h k = absurd (no_departure bundle text at (legal_tells bundle text h) k)
  one_verdict Yes (Entry place) h k = absurd (unfit_not_legal place k h)
  one_verdict Yes (Unfinished user) h k = absurd (unfinished_not_legal user k h)
  one_verdict Yes (Line user line) h k = absurd (line_not_legal user line k h)
  one_verdict (Text at) Yes h k = absurd (no_departure bundle text at (legal_tells bundle text k) h)
  one_verdict (Text at) (Text other) h k = ap (λ (n : ℕ). Text n) (departs_once (users_named bundle) text at other h k)
  one_verdict (Text at) (Entry place) h k = absurd (no_departure bundle text at (unfit_tells bundle text place k) h)
  one_verdict (Text at) (Unfinished user) h k = absurd (no_departure bundle text at (unfinished_tells bundle text user k) h)
  one_verdict (Text at) (Line user line) h k = absurd (no_departure bundle text at (line_tells bundle text user line k) h)
  one_verdict (Entry place) Yes h k = absurd (unfit_not_legal place h k)
  one_verdict (Entry place) (Text at) h k = absurd (no_departure bundle text at (unfit_tells bundle text place h) k)
  one_verdict (Entry place) (Entry other) h k =
      let same = tells_same bundle text k.transcripts h.transcripts k.entries h.entries k.tells h.tells in
      ap (λ (n : ℕ). Entry n) (one_unfit bundle h.entries place other h.first (subst (λ (list : List PlainEntry). IsFirstUnfit bundle list other) same.made k.first))
  one_verdict (Entry place) (Unfinished user) h k = absurd (unfit_not_fit place h k.transcripts k.entries k.tells k.fit)
  one_verdict (Entry place) (Line user line) h k = absurd (unfit_not_fit place h k.transcripts k.entries k.tells k.fit)
  one_verdict (Unfinished user) Yes h k = absurd (unfinished_not_legal user h k)
  one_verdict (Unfinished user) (Text at) h k = absurd (no_departure bundle text at (unfinished_tells bundle text user h) k)
  one_verdict (Unfinished user) (Entry place) h k = absurd (unfit_not_fit place k h.transcripts h.entries h.tells h.fit)
  one_verdict (Unfinished user) (Unfinished other) h k =
      let same = tells_same bundle text h.transcripts k.transcripts h.entries k.entries h.tells k.tells in
      ap (λ (n : ℕ). Unfinished n) (same_Some user other (sym h.first ∙ (ap (λ (list : List PlainEntry). first_there bundle (reverse list)) same.made ∙ k.first)))
  one_verdict (Unfinished user) (Line other line) h k = absurd (unfinished_not_left user h k.transcripts k.entries k.tells k.left)
  one_verdict (Line user line) Yes h k = absurd (line_not_legal user line h k)
  one_verdict (Line user line) (Text at) h k = absurd (no_departure bundle text at (line_tells bundle text user line h) k)
  one_verdict (Line user line) (Entry place) h k = absurd (unfit_not_fit place k h.transcripts h.entries h.tells h.fit)
  one_verdict (Line user line) (Unfinished other) h k = absurd (unfinished_not_left other k h.transcripts h.entries h.tells h.left)
  one_verdict (Line user line) (Line other more) h k = one_line user other line more h k
