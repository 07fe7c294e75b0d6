-- What is found of a run that was followed.
use Rattle.std.proofs.Common.{◌≡◌, ℕ, ◌+◌, ◌<◌, List, ◌∷◌, ◌++◌, length, get_or, take, drop, map, reverse, Option, None, Some, refl, sym, ap, ◌∙◌, subst, subst₂, arith, add-one, drop-cons}
use Rattle.std.proofs.lemmas.List.{length-map, length-take-le, map-append, reverse-reverse, take-append-drop}
use Rattle.std.specs.Prelude.{MatchOption}
use Rattle.bundle_text.specs.Rules.{PlainBundle}
use Rattle.sv_events.specs.Entry.{PlainEntry, plain_entry}
use Rattle.sv_events.specs.declared.entry.Entry.{Entry}
use Rattle.sv_journal.specs.Output.{PlainTranscript}
use Rattle.sv_rules.specs.Entries.{Entries}
use Rattle.sv_rules.specs.Journal.{journal_of}
use Rattle.session_rules.specs.Run.{user_numbers}
use Rattle.check_rules.specs.Fits.{EntriesFit, EntryFits, IsFirstUnfit}
use Rattle.check_rules.specs.Saw.{AllSaw, IsFirstDifference, first_there}
use Rattle.check_rules.specs.Verdict.{HasOtherLine, HasUnfinished, HasUnfit, IsLegalOutput, TellsOutput}
use Rattle.aplsv_check.specs.Followed.{IsFollowed}
use Rattle.aplsv_check.specs.declared.follower.Follower.{Follower}
use Rattle.aplsv_check.proofs.RunBehind.{own_run}

-- ---- an entry that does not fit

dropped : (entries : List Entry) (i : ℕ) (d : Entry) → i < length entries → drop i entries ≡ get_or entries i d ∷ drop (i + 1) entries
dropped entries i d less = rw (add-one, drop-cons entries i d) refl

-- those before it were followed
pub unfit_so : (bundle : PlainBundle) (run : Follower) (entries : List Entry) (i : ℕ) (entry : Entry) → i < length entries → entry ≡ get_or entries i entry → IsFollowed bundle run → run.core.journal ≡ journal_of (take i entries) → (EntryFits bundle run.core.journal (plain_entry entry) → ⊥)
    → IsFirstUnfit bundle (map plain_entry entries) (i + 1)
unfit_so bundle run entries i entry less here h is unfit = record {
  before = map plain_entry (take i entries);
  entry = plain_entry entry;
  behind = map plain_entry (drop (i + 1) entries);
  here = ap (map plain_entry) (sym (take-append-drop i entries) ∙ ap (λ (rest : List Entry). take i entries ++ rest) (dropped entries i entry less ∙ ap (λ (e : Entry). e ∷ drop (i + 1) entries) (sym here)))
      ∙ map-append plain_entry (take i entries) (entry ∷ drop (i + 1) entries);
  counted = ap (λ (n : ℕ). n + 1) (sym (length-map (take i entries) plain_entry ∙ length-take-le i entries (omega (arith, less))));
  fit = subst (λ (j : Entries). EntriesFit bundle j) is h.fit;
  unfit = λ fits. unfit (subst (λ (j : Entries). EntryFits bundle j (plain_entry entry)) (sym is) fits);
}

-- ---- all fit

module _ (bundle : PlainBundle) (run : Follower) (text : List ℕ) (transcripts : List PlainTranscript) (h : IsFollowed bundle run) (tells : TellsOutput bundle text transcripts (reverse run.core.journal)) where
  turned : reverse (reverse run.core.journal) ≡ run.core.journal
  turned = reverse-reverse run.core.journal

  fit : EntriesFit bundle (reverse (reverse run.core.journal))
  fit = subst (λ (j : Entries). EntriesFit bundle j) (sym turned) h.fit

  pub unfinished_so : (user : ℕ) → first_there bundle run.core.journal ≡ Some user → HasUnfinished bundle text user
  unfinished_so user first = record { transcripts = transcripts; entries = reverse run.core.journal; tells = tells; fit = fit; first = ap (λ (j : Entries). first_there bundle j) turned ∙ first }

  pub line_so : (user line : ℕ) → first_there bundle run.core.journal ≡ None → IsFirstDifference run.core.journal bundle.users transcripts user line → HasOtherLine bundle text user line
  line_so user line left first = record {
    transcripts = transcripts;
    entries = reverse run.core.journal;
    tells = tells;
    fit = fit;
    left = ap (λ (j : Entries). first_there bundle j) turned ∙ left;
    first = subst (λ (j : Entries). IsFirstDifference j bundle.users transcripts user line) (sym turned) first;
  }

  pub yes_so : map (λ (printed : PlainTranscript). printed.user) transcripts ≡ user_numbers bundle → AllSaw run.core.journal bundle.users transcripts → IsLegalOutput bundle text
  yes_so named saw = record { transcripts = transcripts; journal = run.core.journal; run = own_run bundle run transcripts h named saw; tells = tells }

-- ---- whether all fit

module _ (bundle : PlainBundle) (text : List ℕ) (entries : List Entry) (transcripts : List PlainTranscript) (journal : List PlainEntry) (are : map plain_entry entries ≡ journal) (tells : TellsOutput bundle text transcripts journal) (after : Follower) (found : Option ℕ)
    (is : MatchOption found (IsFollowed bundle after × (after.core.journal ≡ journal_of entries)) (λ place. IsFirstUnfit bundle (map plain_entry entries) place)) where
  pub unfit_found : (place : ℕ) → found ≡ Some place → HasUnfit bundle text place
  unfit_found place at = record {
    transcripts = transcripts;
    entries = journal;
    tells = tells;
    first = subst (λ (list : List PlainEntry). IsFirstUnfit bundle list place) are
        (subst (λ (o : Option ℕ). MatchOption o (IsFollowed bundle after × (after.core.journal ≡ journal_of entries)) (λ place. IsFirstUnfit bundle (map plain_entry entries) place)) at is);
  }

  pub all_followed : found ≡ None → IsFollowed bundle after × (after.core.journal ≡ journal_of entries)
  all_followed none = subst (λ (o : Option ℕ). MatchOption o (IsFollowed bundle after × (after.core.journal ≡ journal_of entries)) (λ place. IsFirstUnfit bundle (map plain_entry entries) place)) none is

  pub tells_followed : (printed : List PlainTranscript) → printed ≡ transcripts → found ≡ None → TellsOutput bundle text printed (reverse after.core.journal)
  tells_followed printed shown none =
      let journal_is : reverse after.core.journal ≡ journal = ap (λ (j : Entries). reverse j) (all_followed none).1 ∙ (reverse-reverse (map plain_entry entries) ∙ are) in
      subst₂ (λ (some : List PlainTranscript) (list : List PlainEntry). TellsOutput bundle text some list) (sym shown) (sym journal_is) tells
