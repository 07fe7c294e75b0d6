-- The output of a run, as it is printed.
use Rattle.std.proofs.Common.{◌≡◌, ℕ, Bool, true, false, List, None, Option, Some, reverse, subst, sym, true≢false}
use Rattle.std.proofs.lemmas.Option.{none-some}
use Rattle.apl_io.specs.Clock.{Ticks}
use Rattle.apl_io.specs.Content.{Told}
use Rattle.bundle_text.specs.Bundle.{PlainBundle}
use Rattle.sv_journal.specs.Output.{PlainTranscript, output_text}
use Rattle.sv_journal.specs.Printable.{ArePrintable}
use Rattle.sv_rules.specs.Entries.{Entries}
use Rattle.aplsv_top.specs.Headline.{IsOutputOf, NamedRun}
use Rattle.aplsv_top.specs.Printed.{OutputsArePrinted, OwnOutputsAreTheBundles, WhatIsWrittenIsPrinted}
use Rattle.aplsv_top.proofs.Over.{named_parts}

module _ {C T K : Type 0} (ticks : C → Option Ticks) (clock_faults : C → ℕ) (text_told : T → Option (Told (List ℕ))) (text_faults : T → ℕ) (told : K → Option (Told (ℕ × List ℕ))) (faults : K → ℕ) where
  -- each run that was asked for is printed
  pub outputs_printed : OutputsArePrinted ticks clock_faults text_told text_faults told faults
  outputs_printed asked clock clock_then files files_then shelves shelves_then bytes text output =
      let parts = named_parts asked.replay ticks clock_faults text_told text_faults told faults asked.text asked.components asked.relay asked.clock asked.library output.bundle output.journal output.transcripts clock clock_then files files_then shelves shelves_then output.run in
      record {
        bundle = output.bundle;
        read = output.read;
        transcripts = output.transcripts;
        journal = output.journal;
        dealings = parts.dealings;
        legal = parts.legal;
        users = parts.users;
        output = output.output;
        printable = output.printable;
      }

  pub writes_printed : WhatIsWrittenIsPrinted ticks clock_faults text_told text_faults told faults
  writes_printed asked clock clock_then files files_then shelves shelves_then left rest held now whole = record {
    bytes = whole.bytes;
    text = whole.text;
    read = whole.read;
    run = outputs_printed asked clock clock_then files files_then shelves shelves_then whole.bytes whole.text whole.run;
    written = whole.written;
  }

  -- where no word names a device, component files or a relay, it is one over the bundle's own
  own_output : (place : Option (List ℕ)) (components relay named : Bool) (library : Option (List ℕ)) (bundle : PlainBundle) (journal : Entries) (transcripts : List PlainTranscript) (text : List ℕ) (clock clock_then : C) (files files_then : T) (shelves shelves_then : List K)
      → place ≡ None → named ≡ false → library ≡ None → components ≡ false → relay ≡ false → text ≡ output_text transcripts (reverse journal) → ArePrintable transcripts (reverse journal)
      → NamedRun true ticks clock_faults text_told text_faults told faults place components relay named library bundle journal transcripts clock clock_then files files_then shelves shelves_then → IsOutputOf bundle text
  own_output (Some place) components relay named library bundle journal transcripts text clock clock_then files files_then shelves shelves_then no_text no_clock no_library no_components no_relay output printable over = absurd (none-some place (sym no_text))
  own_output None true relay named library bundle journal transcripts text clock clock_then files files_then shelves shelves_then no_text no_clock no_library no_components no_relay output printable over = absurd (true≢false no_components)
  own_output None false true named library bundle journal transcripts text clock clock_then files files_then shelves shelves_then no_text no_clock no_library no_components no_relay output printable over = absurd (true≢false no_relay)
  own_output None false false true library bundle journal transcripts text clock clock_then files files_then shelves shelves_then no_text no_clock no_library no_components no_relay output printable over = absurd (true≢false no_clock)
  own_output None false false false (Some place) bundle journal transcripts text clock clock_then files files_then shelves shelves_then no_text no_clock no_library no_components no_relay output printable over = absurd (none-some place (sym no_library))
  own_output None false false false None bundle journal transcripts text clock clock_then files files_then shelves shelves_then no_text no_clock no_library no_components no_relay output printable over = record {
    transcripts = transcripts;
    journal = journal;
    clock = over.1.1.0;
    files = over.0;
    shelves = over.1.1.1.0;
    run = record { state = over.1.0; run = over.1.1.1.1 };
    output = output;
    printable = printable;
  }

  pub own_outputs : OwnOutputsAreTheBundles ticks clock_faults text_told text_faults told faults
  own_outputs asked clock clock_then files files_then shelves shelves_then bytes text replayed no_text no_clock no_library no_components no_relay output = record {
    bundle = output.bundle;
    read = output.read;
    run =
        own_output asked.text asked.components asked.relay asked.clock asked.library output.bundle output.journal output.transcripts text clock clock_then files files_then shelves shelves_then no_text no_clock no_library no_components no_relay output.output output.printable
        (subst (λ (b : Bool). NamedRun b ticks clock_faults text_told text_faults told faults asked.text asked.components asked.relay asked.clock asked.library output.bundle output.journal output.transcripts clock clock_then files files_then shelves shelves_then) replayed output.run);
  }
