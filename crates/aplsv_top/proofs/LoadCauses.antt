-- Why a load ends as it does.
use Rattle.std.proofs.Common.{◌≡◌, ◌≢◌, ◌⊎◌, ◌≤◌, ◌<◌, ◌^◌, ℕ, true, List, Option, Some, None, ap, is_some, reverse, refl, subst, sym, inl, inr}
use Rattle.std.proofs.lemmas.List.{reverse-reverse}
use Rattle.std.proofs.lemmas.Option.{none-some, same_Some}
use Rattle.std.specs.Prelude.{IsSome}
use Rattle.apl_io.specs.Clock.{Ticks}
use Rattle.apl_io.specs.Content.{Told}
use Rattle.apl_io.specs.Faults.{Rose}
use Rattle.apl_session.specs.Ended.{IfWhole}
use Rattle.apl_session.specs.declared.outcome.Ended.{Ended}
use Rattle.apl_session.specs.declared.outcome.Ended.TheVariants.{Whole, WantOfMemory}
use Rattle.bundle_text.specs.Bundle.{BundleText, PlainBundle}
use Rattle.bundle_text.specs.Load.{load_text}
use Rattle.sv_events.specs.Entry.{PlainEntry}
use Rattle.aplsv_words.specs.Meaning.{Asked, CountsAs, Means, Text}
use Rattle.aplsv_top.specs.Causes.{Device, IsWriting}
use Rattle.aplsv_top.specs.Loads.{HasLoadCause, IsLoadAs, IsLoadEnding, IsSummaryIn}
use Rattle.aplsv_top.specs.Summary.{IsSummary, last_line}
use Rattle.aplsv_top.specs.Words.{IsConclusion}
use Rattle.aplsv_top.specs.declared.status.Status.{Status}
use Rattle.aplsv_top.specs.declared.status.Status.TheVariants as status
use Rattle.aplsv_top.proofs.LoadRuns.{load_has_last}
use Rattle.aplsv_top.proofs.Over.{RunAs, if_whole, named_parts, run_of_same}

-- ---- what counts are

counted : (most n : ℕ) (written : Option Text) (count : Option ℕ) → CountsAs most written count → count ≡ Some n → (1 ≤ n) × (n ≤ most)
counted most n None None counts is = absurd (none-some n is)
counted most n None (Some m) counts is = absurd counts
counted most n (Some text) None counts is = absurd counts
counted most n (Some text) (Some m) counts is = let same : m ≡ n = same_Some m n is in (subst (λ (k : ℕ). 1 ≤ k) same counts.some, subst (λ (k : ℕ). k ≤ most) same counts.few)

-- words that ask for a load ask for as many numbers as there may be
pub load_counts : (words : List Text) (asked : Asked) (n : ℕ) → Means words asked → asked.load ≡ Some n → (1 ≤ n) × (n ≤ 100000)
load_counts words asked n means is = counted 100000 n means.said.load asked.load means.asks.load is

-- and as many workers
pub workers_count : (words : List Text) (asked : Asked) (n : ℕ) → Means words asked → asked.workers ≡ Some n → (1 ≤ n) × (n ≤ 34)
workers_count words asked n means is = counted 34 n means.said.workers asked.workers means.asks.workers is

-- ---- how it ends

module _ (SumsUp : List ℕ → Type 0) where
  -- of a run that was summed up the summary was written, or a front part of it, and the sink failed
  pub load_written : (text : List ℕ) (sink grown : Device) (ending : Status) → SumsUp text → IsWriting sink.bytes grown.bytes sink.faults grown.faults text ending → HasLoadCause SumsUp ending sink grown
  load_written text sink grown ending sums writing = record {
    done = λ is. (text, sums, writing.whole is);
    front = λ is. (text, sums, writing.front is);
    fault = writing.fault;
    only = by writing.only;
  }
    where
      by : ((ending ≡ status.Done) ⊎ (ending ≡ status.WriteFault)) → IsLoadEnding ending
      by (inl is) = subst IsLoadEnding (sym is) tt
      by (inr is) = subst IsLoadEnding (sym is) tt

  -- where memory ran out, nothing was
  pub load_lacked : (sink : Device) → HasLoadCause SumsUp status.WantOfMemory sink sink
  load_lacked sink = record { done = λ is. absurd cc; front = λ is. absurd cc; fault = λ is. absurd cc; only = tt }

  -- of an ending that is another one by name alone
  pub load_for_ending : (ending other : Status) (sink grown : Device) → ending ≡ other → HasLoadCause SumsUp other sink grown → HasLoadCause SumsUp ending sink grown
  load_for_ending ending other sink grown is cause = subst (λ (some : Status). HasLoadCause SumsUp some sink grown) (sym is) cause

  -- without faults of the sink it is done if there is memory
  pub load_concluded : (ending : Status) (sink grown : Device) → HasLoadCause SumsUp ending sink grown → ¬ Rose sink.faults grown.faults → IsConclusion ending
  load_concluded status.Done sink grown cause writes_well = tt
  load_concluded status.Usage sink grown cause writes_well = cause.only
  load_concluded (status.Malformed offset rule) sink grown cause writes_well = tt
  load_concluded status.ReadFault sink grown cause writes_well = cause.only
  load_concluded status.WriteFault sink grown cause writes_well = writes_well (cause.fault refl)
  load_concluded status.TooLong sink grown cause writes_well = cause.only
  load_concluded status.WantOfMemory sink grown cause writes_well = tt
  load_concluded (status.NotARun found) sink grown cause writes_well = cause.only

-- it ends in no other way
pub load_ends_so : (ending : Status) → IsLoadEnding ending → ending ≢ status.Done → ending ≢ status.WriteFault → ending ≢ status.WantOfMemory → ⊥
load_ends_so status.Done only done fault memory = done refl
load_ends_so status.WriteFault only done fault memory = fault refl
load_ends_so status.WantOfMemory only done fault memory = memory refl
load_ends_so status.Usage only done fault memory = only
load_ends_so (status.Malformed offset rule) only done fault memory = only
load_ends_so status.ReadFault only done fault memory = only
load_ends_so status.TooLong only done fault memory = only
load_ends_so (status.NotARun found) only done fault memory = only

-- ---- its run

module _ {C T K : Type 0} (ticks : C → Option Ticks) (clock_faults : C → ℕ) (text_told : T → Option (Told (List ℕ))) (text_faults : T → ℕ) (told : K → Option (Told (ℕ × List ℕ))) (faults : K → ℕ)
    (n : ℕ) (asked : Asked) (bundle : PlainBundle) (made : BundleText (load_text n) bundle) where
  -- a run that is whole has a line of user 1002
  pub load_shows : (clock clock_then : C) (files files_then : T) (shelves shelves_then : List K) (ended : Ended) → n < 2 ^ 64
      → IfWhole ended (λ transcripts journal. RunAs true ticks clock_faults text_told text_faults told faults asked bundle journal transcripts clock clock_then files files_then shelves shelves_then)
      → IfWhole ended (λ transcripts journal. IsSome (last_line transcripts))
  load_shows clock clock_then files files_then shelves shelves_then ended fits run =
      if_whole ended (λ transcripts journal. RunAs true ticks clock_faults text_told text_faults told faults asked bundle journal transcripts clock clock_then files files_then shelves shelves_then)
      (λ transcripts journal. IsSome (last_line transcripts))
      (λ transcripts journal over.
      let parts = named_parts true ticks clock_faults text_told text_faults told faults asked.text asked.components asked.relay asked.clock asked.library bundle journal transcripts clock clock_then files files_then shelves shelves_then over in
      let last = load_has_last parts.dealings journal n bundle transcripts fits made parts.users in
      ap is_some last.1)
      run

  -- and what is written of it sums it up
  pub load_as : (text : List ℕ) (clock clock_then clock_now : C) (files files_then files_now : T) (shelves shelves_then shelves_now : List K) (ended : Ended)
      → IfWhole ended (λ transcripts journal. RunAs true ticks clock_faults text_told text_faults told faults asked bundle journal transcripts clock clock_then files files_then shelves shelves_then)
      → IsSummaryIn n ended text → clock_then ≡ clock_now → files_then ≡ files_now → shelves_then ≡ shelves_now
      → IsLoadAs ticks clock_faults text_told text_faults told faults n asked clock clock_now files files_now shelves shelves_now text
  load_as text clock clock_then clock_now files files_then files_now shelves shelves_then shelves_now (Whole transcripts journal) run written same_clock same_files same_shelves =
      let twice : journal.items ≡ reverse (reverse journal.items) = sym (reverse-reverse journal.items) in
      record {
        bundle = bundle;
        made = made;
        transcripts = transcripts.items;
        journal = reverse journal.items;
        run =
            run_of_same true ticks clock_faults text_told text_faults told faults asked bundle (reverse journal.items) transcripts.items clock clock_then clock_now files files_then files_now shelves shelves_then shelves_now
            same_clock same_files same_shelves run;
        summary = subst (λ (entries : List PlainEntry). IsSummary n transcripts.items entries text) twice written;
      }
  load_as text clock clock_then clock_now files files_then files_now shelves shelves_then shelves_now WantOfMemory run written same_clock same_files same_shelves = absurd written
