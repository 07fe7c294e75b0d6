-- The output is one function of the bytes read.
use Rattle.std.proofs.Common.{◌≡◌, ℕ, List, reverse, refl, sym, ap₂, ◌∙◌, subst}
use Rattle.bundle_text.specs.Bundle.{BundleText, IsBundle, PlainBundle}
use Rattle.sv_journal.specs.Output.{output_text}
use Rattle.aux_parties.specs.declared.auxiliary.AuxiliaryKind.TheVariants.{TextFiles}
use Rattle.session_rules.specs.RunLaws.{PartsMakeOneTranscript}
use Rattle.bundle_devices.specs.Devices.{clock_of, empty_shelf, shelves_of, text_store_of}
use Rattle.aplsv_top.specs.Headline.{IsOutputOf}
use Rattle.aplsv_top.specs.OutputLaws.{BundlesHaveOneOutput, LeavesNoneUntold}
use Rattle.bundle_devices.proofs.Files.{OneText}
use Rattle.aplsv_top.proofs.OneReplay.{one_replay}
use Rattle.bundle_devices.proofs.OwnDevices.{clock_faults, files_told, keeper_faults, readings_of, shelf_told, told_by}
use Rattle.bundle_devices.proofs.Sound.{files_sound, shelves_sound}

module _ (one_text : OneText) (one_transcript : PartsMakeOneTranscript) (bundle : PlainBundle) (rules : IsBundle bundle) where
  -- the devices of a bundle leave no entry untold
  none_untold : (text : List ℕ) (out : IsOutputOf bundle text)
      → LeavesNoneUntold readings_of clock_faults told_by keeper_faults told_by keeper_faults bundle out.journal out.transcripts (clock_of bundle) out.clock (text_store_of bundle) out.files (shelves_of bundle) out.shelves out.run
  none_untold text out = record {
    readings = refl;
    files = files_sound told_by keeper_faults _ _ _ (out.run.run.run.parts TextFiles).answers (files_told bundle);
    saved = shelves_sound told_by keeper_faults empty_shelf shelf_told out.run.run.dealings bundle.users out.shelves out.run.run.run.shelves_served;
  }

  -- a bundle has one output
  pub one_output : (text other : List ℕ) → IsOutputOf bundle text → IsOutputOf bundle other → text ≡ other
  one_output text other one another =
      let same = one_replay one_text one_transcript readings_of clock_faults told_by keeper_faults told_by keeper_faults bundle one.journal another.journal one.transcripts another.transcripts
      (clock_of bundle) one.clock (clock_of bundle) another.clock (text_store_of bundle) one.files (text_store_of bundle) another.files (shelves_of bundle) one.shelves (shelves_of bundle) another.shelves
      rules one.run another.run (none_untold text one) (none_untold other another) refl refl refl in
      one.output ∙ (ap₂ (λ t j. output_text t (reverse j)) same.1 same.0 ∙ sym another.output)

-- so bytes have one output, since they are the text of one bundle
pub one_output_of_bytes : OneText → PartsMakeOneTranscript → ((bytes : List ℕ) (bundle other : PlainBundle) → BundleText bytes bundle → BundleText bytes other → bundle ≡ other) → BundlesHaveOneOutput
one_output_of_bytes one_text one_transcript one_bundle bytes text other one another =
    let bundle = one_bundle bytes one.bundle another.bundle one.read another.read in
    one_output one_text one_transcript one.bundle one.read.rules text other one.run (subst (λ b. IsOutputOf b other) (sym bundle) another.run)
