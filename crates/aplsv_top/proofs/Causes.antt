-- Why the program ends as it does.
use Rattle.std.proofs.Common.{◌≡◌, ◌≢◌, ◌≤◌, ◌⊎◌, ◌+◌, ℕ, List, [], length, Option, Some, None, IsSomeAnd, ap, sym, subst, subst₂, refl, inl, inr, ◌∙◌, arith}
use Rattle.std.proofs.lemmas.List.{drop_all}
use Rattle.std.specs.Io.KnownBytes.{Appends}
use Rattle.apl_arrays.specs.Limits.{most_input_bytes}
use Rattle.apl_io.specs.Faults.{Rose}
use Rattle.apl_io.specs.Whole.{AppendsPrefix, ReadsAll, TakesExactly, TakesAtMost, AreAtMost}
use Rattle.bundle_text.specs.Breaks.{Breaks}
use Rattle.bundle_text.specs.Bundle.{BundleText, IsNoBundle, PlainBundle}
use Rattle.bundle_text.specs.declared.refused.BundleRule.{BundleRule}
use Rattle.check_rules.specs.declared.verdict.Verdict.{Verdict}
use Rattle.aplsv_top.specs.Causes.{Device, HasCause, HasCauseFor, IsWhole, IsWriting}
use Rattle.aplsv_top.specs.Headline.{WritesRun, WritesFront, FindsNoBundle}
use Rattle.aplsv_top.specs.Words.{IsConclusion}
use Rattle.aplsv_top.specs.declared.status.Status.{Status}
use Rattle.aplsv_top.specs.declared.status.Status.TheVariants as status
use Rattle.bundle_text.proofs.Reading.{never}

-- a source that told these bytes, and has no faults
abbrev pub given : List ℕ → Device
given bytes = record { bytes = Some bytes; faults = 0 }

-- a source that told that none is left
abbrev pub used_up : Device
used_up = record { bytes = Some []; faults = 0 }

-- all of few bytes are few
all_taken : (most : ℕ) (bytes : List ℕ) → length bytes ≤ most → TakesAtMost (Some bytes) (Some []) most
all_taken most bytes few = (length bytes, few, (omega arith, ap Some (sym (drop_all (length bytes) bytes (omega arith)))))

-- no byte taken is few
nothing_taken : (most : ℕ) (left : Option (List ℕ)) → TakesAtMost left left most
nothing_taken most None = (0, omega arith, tt)
nothing_taken most (Some bytes) = (0, omega arith, (omega arith, refl))

-- more bytes than there are were not taken
pub too_many : (most : ℕ) (left rest : Option (List ℕ)) → AreAtMost left most → TakesExactly left rest (most + 1) → ⊥
too_many most None rest few taken = few
too_many most (Some bytes) rest few taken =
    let many : most + 1 ≤ length bytes = taken.0 in
    let bound : length bytes ≤ most = few in
    omega (arith, many, bound)

-- writing ends in one of two ways
is_neither : (ending other : Status) → ((ending ≡ status.Done) ⊎ (ending ≡ status.WriteFault)) → other ≢ status.Done → other ≢ status.WriteFault → ending ≡ other → ⊥
is_neither ending other (inl e) done fault is = done (sym is ∙ e)
is_neither ending other (inr e) done fault is = fault (sym is ∙ e)

-- the part of bytes that is to be a bundle is the text of one
abbrev pub HasBundle : (List ℕ → List ℕ → Type 0) → List ℕ → Type 0
HasBundle IsPartOf bytes = (part : List ℕ) × IsPartOf bytes part × (bundle : PlainBundle) × BundleText part bundle

-- which part of bytes is the bundle's, and which texts are written of them, where it is the text of a bundle
module _ (most : ℕ) (IsPartOf IsRunOf : List ℕ → List ℕ → Type 0) (IsFoundOf : Verdict → List ℕ → List ℕ → Type 0) (IsAnyOf : List ℕ → List ℕ → Type 0)
    (run_reads : (bytes text : List ℕ) → IsRunOf bytes text → HasBundle IsPartOf bytes)
    (found_reads : (found : Verdict) (bytes text : List ℕ) → IsFoundOf found bytes text → HasBundle IsPartOf bytes)
    (any_reads : (bytes text : List ℕ) → IsAnyOf bytes text → HasBundle IsPartOf bytes) where
  -- no part of bytes is the text of a bundle
  abbrev HasNone : List ℕ → Type 0
  HasNone bytes = (part : List ℕ) → IsPartOf bytes part → IsNoBundle part

  -- so nothing is written of them
  no_text_of : (IsTextOf : List ℕ → List ℕ → Type 0) → ((bytes text : List ℕ) → IsTextOf bytes text → HasBundle IsPartOf bytes) → (bytes other text : List ℕ) → HasNone bytes → other ≡ bytes → IsTextOf other text → ⊥
  no_text_of IsTextOf reads bytes other text none same is =
      let of = reads other text is in none of.0 (subst (λ (some : List ℕ). IsPartOf some of.0) same of.1) of.2 of.3

  no_text : (IsTextOf : List ℕ → List ℕ → Type 0) → ((bytes text : List ℕ) → IsTextOf bytes text → HasBundle IsPartOf bytes) → (left rest held now : Option (List ℕ)) → IsSomeAnd left HasNone → WritesRun IsTextOf left rest held now → ⊥
  no_text IsTextOf reads None rest held now none run = absurd none
  no_text IsTextOf reads (Some bytes) rest held now none run = no_text_of IsTextOf reads bytes run.bytes run.text none run.read.0 run.run

  -- nor a front part
  no_front : (left rest held now : Option (List ℕ)) → IsSomeAnd left HasNone → WritesFront IsAnyOf left rest held now → ⊥
  no_front None rest held now none run = absurd none
  no_front (Some bytes) rest held now none run = no_text_of IsAnyOf any_reads bytes run.bytes run.text none run.read.0 run.run

  module _ (ending : Status) (source rest sink grown : Device) where
    -- what stands behind a status, where nothing is written of bytes of which no part is the text of a bundle
    pub caused_for : (ending ≡ status.Done → WritesRun IsRunOf source.bytes rest.bytes sink.bytes grown.bytes)
        → ((found : Verdict) → ending ≡ status.NotARun found → WritesRun (IsFoundOf found) source.bytes rest.bytes sink.bytes grown.bytes)
        → (ending ≡ status.WriteFault → WritesFront IsAnyOf source.bytes rest.bytes sink.bytes grown.bytes)
        → (ending ≡ status.ReadFault → Rose source.faults rest.faults)
        → (ending ≡ status.WriteFault → Rose sink.faults grown.faults)
        → (ending ≡ status.TooLong → TakesExactly source.bytes rest.bytes (most + 1))
        → (ending ≢ status.TooLong → TakesAtMost source.bytes rest.bytes most)
        → ((offset : ℕ) (rule : BundleRule) → ending ≡ status.Malformed offset rule → FindsNoBundle IsPartOf source.bytes rest.bytes offset rule)
        → HasCauseFor most IsPartOf IsRunOf IsFoundOf IsAnyOf ending source rest sink grown
    caused_for done not_a_run front read_fault write_fault too_long taken malformed = record {
      done = done;
      not_a_run = not_a_run;
      front = front;
      read_fault = read_fault;
      write_fault = write_fault;
      too_long = too_long;
      taken = taken;
      malformed = malformed;
      no_bundle = λ none. (
        λ is. no_text IsRunOf run_reads source.bytes rest.bytes sink.bytes grown.bytes none (done is),
        λ is. no_front source.bytes rest.bytes sink.bytes grown.bytes none (front is),
        λ found is. no_text (IsFoundOf found) (found_reads found) source.bytes rest.bytes sink.bytes grown.bytes none (not_a_run found is),
      );
    }

  module _ (ending : Status) (bytes : List ℕ) (source rest sink grown : Device) (all : ReadsAll source.bytes rest.bytes bytes) (few : length bytes ≤ most)
      (h : HasCauseFor most IsPartOf IsRunOf IsFoundOf IsAnyOf ending (given bytes) used_up sink grown) where
    same_bytes : (other : List ℕ) → ReadsAll (Some bytes) (Some []) other → ReadsAll source.bytes rest.bytes other
    same_bytes other same = subst (ReadsAll source.bytes rest.bytes) (sym same.0) all

    run_of : (IsTextOf : List ℕ → List ℕ → Type 0) → WritesRun IsTextOf (Some bytes) (Some []) sink.bytes grown.bytes → WritesRun IsTextOf source.bytes rest.bytes sink.bytes grown.bytes
    run_of IsTextOf run = record { bytes = run.bytes; text = run.text; read = same_bytes run.bytes run.read; run = run.run; written = run.written }

    front_of : WritesFront IsAnyOf (Some bytes) (Some []) sink.bytes grown.bytes → WritesFront IsAnyOf source.bytes rest.bytes sink.bytes grown.bytes
    front_of run = record { bytes = run.bytes; text = run.text; read = same_bytes run.bytes run.read; run = run.run; written = run.written }

    none_of : (offset : ℕ) (rule : BundleRule) → FindsNoBundle IsPartOf (Some bytes) (Some []) offset rule → FindsNoBundle IsPartOf source.bytes rest.bytes offset rule
    none_of offset rule found = record { bytes = found.bytes; part = found.part; read = same_bytes found.bytes found.read; of = found.of; refused = found.refused; none = found.none }

    -- what becomes of bytes is what becomes of a source of which they were read
    pub by_bytes_for : TakesAtMost source.bytes rest.bytes most → HasCauseFor most IsPartOf IsRunOf IsFoundOf IsAnyOf ending source rest sink grown
    by_bytes_for taken = caused_for ending source rest sink grown
        (λ is. run_of IsRunOf (h.done is))
        (λ found is. run_of (IsFoundOf found) (h.not_a_run found is))
        (λ is. front_of (h.front is))
        (λ is. let rose : 1 ≤ 0 = h.read_fault is in absurd (omega (arith, rose)))
        h.write_fault
        (λ is. let many : most + 1 ≤ length bytes = (h.too_long is).0 in absurd (omega (arith, many, few)))
        (λ other. taken)
        (λ offset rule is. none_of offset rule (h.malformed offset rule is))

  -- where the bundle's part of few bytes is the text of none, they are refused, and nothing is written
  pub bytes_refused_for : (bytes part : List ℕ) (offset : ℕ) (rule : BundleRule) (sink : Device) → length bytes ≤ most → IsPartOf bytes part → Breaks part offset rule
      → HasCauseFor most IsPartOf IsRunOf IsFoundOf IsAnyOf (status.Malformed offset rule) (given bytes) used_up sink sink
  bytes_refused_for bytes part offset rule sink few of refused = caused_for (status.Malformed offset rule) (given bytes) used_up sink sink
      (λ is. absurd cc)
      (λ found is. absurd cc)
      (λ is. absurd cc)
      (λ is. absurd cc)
      (λ is. absurd cc)
      (λ is. absurd cc)
      (λ other. all_taken most bytes few)
      (λ o r is.
      let at : offset ≡ o = cc in
      let named : rule ≡ r = cc in
      record { bytes = bytes; part = part; read = (refl, refl); of = of; refused = subst₂ (λ (p : ℕ) (q : BundleRule). Breaks part p q) at named refused; none = λ bundle text. never part bundle offset rule text refused })

  -- of few bytes that were run the output was written, or a front part of it, and the sink failed
  pub run_written_for : (bytes text : List ℕ) (sink grown : Device) (ending : Status) → length bytes ≤ most → IsRunOf bytes text → IsAnyOf bytes text → IsWriting sink.bytes grown.bytes sink.faults grown.faults text ending
      → HasCauseFor most IsPartOf IsRunOf IsFoundOf IsAnyOf ending (given bytes) used_up sink grown
  run_written_for bytes text sink grown ending few run any writing = caused_for ending (given bytes) used_up sink grown
      (λ is. record { bytes = bytes; text = text; read = (refl, refl); run = run; written = writing.whole is })
      (λ found is. absurd (is_neither ending (status.NotARun found) writing.only (λ e. cc) (λ e. cc) is))
      (λ is. record { bytes = bytes; text = text; read = (refl, refl); run = any; written = writing.front is })
      (λ is. absurd (is_neither ending status.ReadFault writing.only (λ e. cc) (λ e. cc) is))
      writing.fault
      (λ is. absurd (is_neither ending status.TooLong writing.only (λ e. cc) (λ e. cc) is))
      (λ other. all_taken most bytes few)
      (λ offset rule is. absurd (is_neither ending (status.Malformed offset rule) writing.only (λ e. cc) (λ e. cc) is))

  -- of few bytes that were found to be no run that was written
  pub found_written_for : (bytes text : List ℕ) (found : Verdict) (sink grown : Device) → length bytes ≤ most → IsFoundOf found bytes text → Appends sink.bytes grown.bytes text
      → HasCauseFor most IsPartOf IsRunOf IsFoundOf IsAnyOf (status.NotARun found) (given bytes) used_up sink grown
  found_written_for bytes text found sink grown few is_found written = caused_for (status.NotARun found) (given bytes) used_up sink grown
      (λ is. absurd cc)
      (λ other is. let same : found ≡ other = cc in record { bytes = bytes; text = text; read = (refl, refl); run = subst (λ (some : Verdict). IsFoundOf some bytes text) same is_found; written = written })
      (λ is. absurd cc)
      (λ is. absurd cc)
      (λ is. absurd cc)
      (λ is. absurd cc)
      (λ other. all_taken most bytes few)
      (λ offset rule is. absurd cc)

  -- or a front part of it was, and the sink failed
  pub front_written_for : (bytes text : List ℕ) (sink grown : Device) → length bytes ≤ most → IsAnyOf bytes text → AppendsPrefix sink.bytes grown.bytes text → Rose sink.faults grown.faults
      → HasCauseFor most IsPartOf IsRunOf IsFoundOf IsAnyOf status.WriteFault (given bytes) used_up sink grown
  front_written_for bytes text sink grown few any front rose = caused_for status.WriteFault (given bytes) used_up sink grown
      (λ is. absurd cc)
      (λ found is. absurd cc)
      (λ is. record { bytes = bytes; text = text; read = (refl, refl); run = any; written = front })
      (λ is. absurd cc)
      (λ is. rose)
      (λ is. absurd cc)
      (λ other. all_taken most bytes few)
      (λ offset rule is. absurd cc)

  -- where memory ran out behind the last of few bytes, nothing was written
  pub memory_ran_out_for : (bytes : List ℕ) (sink : Device) → length bytes ≤ most → HasCauseFor most IsPartOf IsRunOf IsFoundOf IsAnyOf status.WantOfMemory (given bytes) used_up sink sink
  memory_ran_out_for bytes sink few = caused_for status.WantOfMemory (given bytes) used_up sink sink
      (λ is. absurd cc) (λ found is. absurd cc) (λ is. absurd cc) (λ is. absurd cc) (λ is. absurd cc) (λ is. absurd cc) (λ other. all_taken most bytes few) (λ offset rule is. absurd cc)

  -- and where it ran out before any byte was read
  pub memory_lacked_for : (source sink : Device) → HasCauseFor most IsPartOf IsRunOf IsFoundOf IsAnyOf status.WantOfMemory source source sink sink
  memory_lacked_for source sink = caused_for status.WantOfMemory source source sink sink
      (λ is. absurd cc) (λ found is. absurd cc) (λ is. absurd cc) (λ is. absurd cc) (λ is. absurd cc) (λ is. absurd cc) (λ other. nothing_taken most source.bytes) (λ offset rule is. absurd cc)

  -- of an ending that is another one by name alone
  pub for_ending_for : (ending other : Status) (source rest sink grown : Device) → ending ≡ other → HasCauseFor most IsPartOf IsRunOf IsFoundOf IsAnyOf other source rest sink grown → HasCauseFor most IsPartOf IsRunOf IsFoundOf IsAnyOf ending source rest sink grown
  for_ending_for ending other source rest sink grown is cause = subst (λ (some : Status). HasCauseFor most IsPartOf IsRunOf IsFoundOf IsAnyOf some source rest sink grown) (sym is) cause

-- which texts are written of which bytes, where these are the text of a bundle
module _ (IsRunOf : List ℕ → List ℕ → Type 0) (reads : (bytes text : List ℕ) → IsRunOf bytes text → (bundle : PlainBundle) × BundleText bytes bundle) where
  whole_reads : (bytes text : List ℕ) → IsRunOf bytes text → HasBundle IsWhole bytes
  whole_reads bytes text run = let of = reads bytes text run in (bytes, refl, of.0, of.1)

  none_reads : (found : Verdict) (bytes text : List ℕ) → ⊥ → HasBundle IsWhole bytes
  none_reads found bytes text none = absurd none

  -- what becomes of bytes is what becomes of a source of which they were read
  pub by_bytes : (ending : Status) (bytes : List ℕ) (source rest sink grown : Device) → ReadsAll source.bytes rest.bytes bytes → length bytes ≤ most_input_bytes → HasCause IsRunOf ending (given bytes) used_up sink grown
      → TakesAtMost source.bytes rest.bytes most_input_bytes → HasCause IsRunOf ending source rest sink grown
  by_bytes = by_bytes_for most_input_bytes IsWhole IsRunOf (λ found bytes text. ⊥) IsRunOf whole_reads none_reads whole_reads

  -- few bytes that are the text of no bundle are refused, and nothing is written
  pub bytes_refused : (bytes : List ℕ) (offset : ℕ) (rule : BundleRule) (sink : Device) → length bytes ≤ most_input_bytes → Breaks bytes offset rule → HasCause IsRunOf (status.Malformed offset rule) (given bytes) used_up sink sink
  bytes_refused bytes offset rule sink few refused = bytes_refused_for most_input_bytes IsWhole IsRunOf (λ found bytes text. ⊥) IsRunOf whole_reads none_reads whole_reads bytes bytes offset rule sink few refl refused

  -- of few bytes that were run the output was written, or a front part of it, and the sink failed
  pub run_written : (bytes text : List ℕ) (sink grown : Device) (ending : Status) → length bytes ≤ most_input_bytes → IsRunOf bytes text → IsWriting sink.bytes grown.bytes sink.faults grown.faults text ending
      → HasCause IsRunOf ending (given bytes) used_up sink grown
  run_written bytes text sink grown ending few run writing =
      run_written_for most_input_bytes IsWhole IsRunOf (λ found bytes text. ⊥) IsRunOf whole_reads none_reads whole_reads bytes text sink grown ending few run run writing

  -- where memory ran out behind the last of few bytes, nothing was written
  pub memory_ran_out : (bytes : List ℕ) (sink : Device) → length bytes ≤ most_input_bytes → HasCause IsRunOf status.WantOfMemory (given bytes) used_up sink sink
  memory_ran_out = memory_ran_out_for most_input_bytes IsWhole IsRunOf (λ found bytes text. ⊥) IsRunOf whole_reads none_reads whole_reads

  -- and where it ran out before any byte was read
  pub memory_lacked : (source sink : Device) → HasCause IsRunOf status.WantOfMemory source source sink sink
  memory_lacked = memory_lacked_for most_input_bytes IsWhole IsRunOf (λ found bytes text. ⊥) IsRunOf whole_reads none_reads whole_reads

  -- without faults, few enough bytes are answered if there is memory
  pub concluded : (ending : Status) (source rest sink grown : Device) → HasCause IsRunOf ending source rest sink grown → ending ≢ status.Usage → AreAtMost source.bytes most_input_bytes
      → ¬ Rose source.faults rest.faults → ¬ Rose sink.faults grown.faults → IsConclusion ending
  concluded status.Done source rest sink grown cause usage few reads_well writes_well = tt
  concluded status.Usage source rest sink grown cause usage few reads_well writes_well = usage refl
  concluded (status.Malformed offset rule) source rest sink grown cause usage few reads_well writes_well = tt
  concluded status.ReadFault source rest sink grown cause usage few reads_well writes_well = reads_well (cause.read_fault refl)
  concluded status.WriteFault source rest sink grown cause usage few reads_well writes_well = writes_well (cause.write_fault refl)
  concluded status.TooLong source rest sink grown cause usage few reads_well writes_well = too_many most_input_bytes source.bytes rest.bytes few (cause.too_long refl)
  concluded status.WantOfMemory source rest sink grown cause usage few reads_well writes_well = tt
  concluded (status.NotARun found) source rest sink grown cause usage few reads_well writes_well = (cause.not_a_run found refl).run

  -- of an ending that is another one by name alone
  pub for_ending : (ending other : Status) (source rest sink grown : Device) → ending ≡ other → HasCause IsRunOf other source rest sink grown → HasCause IsRunOf ending source rest sink grown
  for_ending ending other source rest sink grown is cause = subst (λ (some : Status). HasCause IsRunOf some source rest sink grown) (sym is) cause
