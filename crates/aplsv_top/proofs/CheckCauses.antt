-- Why a check ends as it does.
use Rattle.std.proofs.Common.{◌≡◌, ◌≢◌, ◌⊎◌, ◌≤◌, ℕ, List, length, Option, ap, sym, subst₂, refl, inl, inr, ◌∙◌}
use Rattle.std.specs.Io.KnownBytes.{Appends}
use Rattle.apl_io.specs.Faults.{Rose}
use Rattle.apl_io.specs.Whole.{AppendsPrefix, AreAtMost, ReadsAll, TakesAtMost}
use Rattle.bundle_text.specs.Breaks.{Breaks}
use Rattle.bundle_text.specs.declared.refused.BundleRule.{BundleRule}
use Rattle.check_rules.specs.declared.verdict.Verdict.{Verdict}
use Rattle.check_rules.specs.declared.verdict.Verdict.TheVariants as verdict
use Rattle.aplsv_top.specs.Causes.{Device, IsWriting}
use Rattle.aplsv_top.specs.Checks.{HasCheckCause, IsBundlePart, IsCheckConclusion, IsFinding, IsFound, IsFoundFalse, IsSplit, IsWritten, ending_found, most_checked_bytes, verdict_line}
use Rattle.aplsv_top.specs.declared.status.Status.{Status}
use Rattle.aplsv_top.specs.declared.status.Status.TheVariants as status
use Rattle.aplsv_top.proofs.Causes.{HasBundle, by_bytes_for, bytes_refused_for, for_ending_for, found_written_for, front_written_for, given, memory_ran_out_for, run_written_for, too_many, used_up}

-- what was found is found of a bundle
found_reads : (found : Verdict) (input line : List ℕ) → IsFound found input line → HasBundle IsBundlePart input
found_reads found input line is = (is.part, (is.text, is.split), is.bundle, is.read)

false_reads : (found : Verdict) (input line : List ℕ) → IsFoundFalse found input line → HasBundle IsBundlePart input
false_reads found input line is = found_reads found input line is.1

any_reads : (input line : List ℕ) → IsFinding input line → HasBundle IsBundlePart input
any_reads input line is = found_reads is.0 input line is.1

-- what becomes of an input is what becomes of a source of which it was read
pub check_by_bytes : (ending : Status) (bytes : List ℕ) (source rest sink grown : Device) → ReadsAll source.bytes rest.bytes bytes → length bytes ≤ most_checked_bytes → HasCheckCause ending (given bytes) used_up sink grown
    → TakesAtMost source.bytes rest.bytes most_checked_bytes → HasCheckCause ending source rest sink grown
check_by_bytes = by_bytes_for most_checked_bytes IsBundlePart (IsFound verdict.Yes) IsFoundFalse IsFinding (found_reads verdict.Yes) false_reads any_reads

-- an input whose part is the text of no bundle is refused
pub part_refused : (bytes part text : List ℕ) (offset : ℕ) (rule : BundleRule) (sink : Device) → length bytes ≤ most_checked_bytes → IsSplit bytes part text → Breaks part offset rule
    → HasCheckCause (status.Malformed offset rule) (given bytes) used_up sink sink
part_refused bytes part text offset rule sink few split refused =
    bytes_refused_for most_checked_bytes IsBundlePart (IsFound verdict.Yes) IsFoundFalse IsFinding (found_reads verdict.Yes) false_reads any_reads bytes part offset rule sink few (text, split) refused

-- memory ran out behind the last byte of an input
pub check_ran_out : (bytes : List ℕ) (sink : Device) → length bytes ≤ most_checked_bytes → HasCheckCause status.WantOfMemory (given bytes) used_up sink sink
check_ran_out = memory_ran_out_for most_checked_bytes IsBundlePart (IsFound verdict.Yes) IsFoundFalse IsFinding (found_reads verdict.Yes) false_reads any_reads

-- of an ending that is another one by name alone
pub check_for_ending : (ending other : Status) (source rest sink grown : Device) → ending ≡ other → HasCheckCause other source rest sink grown → HasCheckCause ending source rest sink grown
check_for_ending = for_ending_for most_checked_bytes IsBundlePart (IsFound verdict.Yes) IsFoundFalse IsFinding (found_reads verdict.Yes) false_reads any_reads

module _ (bytes : List ℕ) (sink grown : Device) (few : length bytes ≤ most_checked_bytes) where
  -- that the text is the output of a run was written, or a front part of that
  yes_written : (ending : Status) → IsFound verdict.Yes bytes (verdict_line verdict.Yes) → IsWriting sink.bytes grown.bytes sink.faults grown.faults (verdict_line verdict.Yes) ending → HasCheckCause ending (given bytes) used_up sink grown
  yes_written ending is writing =
      run_written_for most_checked_bytes IsBundlePart (IsFound verdict.Yes) IsFoundFalse IsFinding (found_reads verdict.Yes) false_reads any_reads bytes (verdict_line verdict.Yes) sink grown ending few is (verdict.Yes, is) writing

  -- and so it is with what else was found
  module _ (found : Verdict) (other : found ≢ verdict.Yes) (is : IsFound found bytes (verdict_line found)) where
    false_written : Appends sink.bytes grown.bytes (verdict_line found) → HasCheckCause (status.NotARun found) (given bytes) used_up sink grown
    false_written written =
        found_written_for most_checked_bytes IsBundlePart (IsFound verdict.Yes) IsFoundFalse IsFinding (found_reads verdict.Yes) false_reads any_reads bytes (verdict_line found) found sink grown few (other, is) written

    false_front : AppendsPrefix sink.bytes grown.bytes (verdict_line found) → Rose sink.faults grown.faults → HasCheckCause status.WriteFault (given bytes) used_up sink grown
    false_front front rose =
        front_written_for most_checked_bytes IsBundlePart (IsFound verdict.Yes) IsFoundFalse IsFinding (found_reads verdict.Yes) false_reads any_reads bytes (verdict_line found) sink grown few (found, is) front rose

    false_ended : (written ending : Status) → IsWriting sink.bytes grown.bytes sink.faults grown.faults (verdict_line found) written → (written ≡ status.Done → ending ≡ status.NotARun found) → (written ≡ status.WriteFault → ending ≡ status.WriteFault)
        → HasCheckCause ending (given bytes) used_up sink grown
    false_ended written ending writing done fault = by writing.only where
      by : ((written ≡ status.Done) ⊎ (written ≡ status.WriteFault)) → HasCheckCause ending (given bytes) used_up sink grown
      by (inl e) = check_for_ending ending (status.NotARun found) (given bytes) used_up sink grown (done e) (false_written (writing.whole e))
      by (inr e) = check_for_ending ending status.WriteFault (given bytes) used_up sink grown (fault e) (false_front (writing.front e) (writing.fault e))

  -- so it is with all that may be found
  found_ended : (found : Verdict) (written ending : Status) → IsFound found bytes (verdict_line found) → IsWriting sink.bytes grown.bytes sink.faults grown.faults (verdict_line found) written → ending ≡ ending_found found written
      → HasCheckCause ending (given bytes) used_up sink grown
  found_ended verdict.Yes written ending is writing e = check_for_ending ending written (given bytes) used_up sink grown e (yes_written written is writing)
  found_ended (verdict.Text at) written ending is writing e = false_ended (verdict.Text at) (λ same. cc) is written ending writing (λ done. e ∙ ap (ending_found (verdict.Text at)) done) (λ fault. e ∙ ap (ending_found (verdict.Text at)) fault)
  found_ended (verdict.Entry place) written ending is writing e = false_ended (verdict.Entry place) (λ same. cc) is written ending writing (λ done. e ∙ ap (ending_found (verdict.Entry place)) done) (λ fault. e ∙ ap (ending_found (verdict.Entry place)) fault)
  found_ended (verdict.Unfinished user) written ending is writing e = false_ended (verdict.Unfinished user) (λ same. cc) is written ending writing (λ done. e ∙ ap (ending_found (verdict.Unfinished user)) done) (λ fault. e ∙ ap (ending_found (verdict.Unfinished user)) fault)
  found_ended (verdict.Line user line) written ending is writing e = false_ended (verdict.Line user line) (λ same. cc) is written ending writing (λ done. e ∙ ap (ending_found (verdict.Line user line)) done) (λ fault. e ∙ ap (ending_found (verdict.Line user line)) fault)

-- what was found of an input was written so
pub written_found : (bytes : List ℕ) (found : Verdict) (ending : Status) (sink grown : Device) → length bytes ≤ most_checked_bytes → IsFound found bytes (verdict_line found) → IsWritten found ending sink.bytes grown.bytes sink.faults grown.faults
    → HasCheckCause ending (given bytes) used_up sink grown
written_found bytes found ending sink grown few is (inl written) = found_ended bytes sink grown few found written.0 ending is written.1 written.2
written_found bytes found ending sink grown few is (inr lacked) =
    check_for_ending ending status.WantOfMemory (given bytes) used_up sink grown lacked.0
    (subst₂ (λ (held : Option (List ℕ)) (faults : ℕ). HasCheckCause status.WantOfMemory (given bytes) used_up sink (record { bytes = held; faults = faults })) (sym lacked.1) (sym lacked.2) (check_ran_out bytes sink few))

-- without faults, an input that is not too long is answered if there is memory
pub check_concluded : (ending : Status) (source rest sink grown : Device) → HasCheckCause ending source rest sink grown → ending ≢ status.Usage → AreAtMost source.bytes most_checked_bytes
    → ¬ Rose source.faults rest.faults → ¬ Rose sink.faults grown.faults → IsCheckConclusion ending
check_concluded status.Done source rest sink grown cause usage few reads_well writes_well = tt
check_concluded (status.NotARun found) source rest sink grown cause usage few reads_well writes_well = tt
check_concluded status.Usage source rest sink grown cause usage few reads_well writes_well = usage refl
check_concluded (status.Malformed offset rule) source rest sink grown cause usage few reads_well writes_well = tt
check_concluded status.ReadFault source rest sink grown cause usage few reads_well writes_well = reads_well (cause.read_fault refl)
check_concluded status.WriteFault source rest sink grown cause usage few reads_well writes_well = writes_well (cause.write_fault refl)
check_concluded status.TooLong source rest sink grown cause usage few reads_well writes_well = too_many most_checked_bytes source.bytes rest.bytes few (cause.too_long refl)
check_concluded status.WantOfMemory source rest sink grown cause usage few reads_well writes_well = tt
