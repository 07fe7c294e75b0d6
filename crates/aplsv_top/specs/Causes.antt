-- Why the program ends as it does, by what its source and its sink tell before and after.
use Rattle.std.specs.Prelude.{◌≡◌, ◌≢◌, ◌⊎◌, ℕ, ◌+◌, List, IsSomeAnd}
use Rattle.std.specs.declared.option.Option.{Option}
use Rattle.apl_arrays.specs.Limits.{most_input_bytes}
use Rattle.apl_io.specs.Faults.{Rose}
use Rattle.std.specs.Io.KnownBytes.{Appends}
use Rattle.apl_io.specs.Whole.{AppendsPrefix, TakesExactly, TakesAtMost}
use Rattle.bundle_text.specs.Bundle.{IsNoBundle}
use Rattle.bundle_text.specs.declared.refused.BundleRule.{BundleRule}
use Rattle.check_rules.specs.declared.verdict.Verdict.{Verdict}
use Rattle.aplsv_top.specs.Headline.{WritesRun, WritesFront, FindsNoBundle}
use Rattle.aplsv_top.specs.declared.status.Status.{Status}
use Rattle.aplsv_top.specs.declared.status.Status.TheVariants as status

-- what a device tells: its bytes, unless it tells nothing of them, and the count of its faults
pub record Device : Type 0 where
  pub bytes : Option (List ℕ)
  pub faults : ℕ

-- the part of the bytes read that is the bundle's is all of them
abbrev pub IsWhole : List ℕ → List ℕ → Type 0
IsWhole bytes part = part ≡ bytes

-- what stands behind a status of what reads so many bytes at most: which part of the bytes read is the bundle's; which texts are written of which bytes where all is done, and where they are found to be no run; of which texts a front part may be written; the source before and after; and the sink before and after
pub record HasCauseFor (most : ℕ) (IsPartOf IsRunOf : List ℕ → List ℕ → Type 0) (IsFoundOf : Verdict → List ℕ → List ℕ → Type 0) (IsAnyOf : List ℕ → List ℕ → Type 0) (ending : Status) (source rest sink grown : Device) : Type 0 where
  -- the headline: what is written is a run of what was read, or what was found of it
  pub done : ending ≡ status.Done → WritesRun IsRunOf source.bytes rest.bytes sink.bytes grown.bytes
  pub not_a_run : (found : Verdict) → ending ≡ status.NotARun found → WritesRun (IsFoundOf found) source.bytes rest.bytes sink.bytes grown.bytes
  pub front : ending ≡ status.WriteFault → WritesFront IsAnyOf source.bytes rest.bytes sink.bytes grown.bytes
  -- each other answer has its cause
  pub read_fault : ending ≡ status.ReadFault → Rose source.faults rest.faults
  pub write_fault : ending ≡ status.WriteFault → Rose sink.faults grown.faults
  pub too_long : ending ≡ status.TooLong → TakesExactly source.bytes rest.bytes (most + 1)
  pub taken : ending ≢ status.TooLong → TakesAtMost source.bytes rest.bytes most
  pub malformed : (offset : ℕ) (rule : BundleRule) → ending ≡ status.Malformed offset rule → FindsNoBundle IsPartOf source.bytes rest.bytes offset rule
  pub no_bundle : IsSomeAnd source.bytes (λ bytes. (part : List ℕ) → IsPartOf bytes part → IsNoBundle part) → (ending ≢ status.Done) × (ending ≢ status.WriteFault) × ((found : Verdict) → ending ≢ status.NotARun found)

-- of what runs a bundle: it reads as many bytes as a bundle may have, all of them are the bundle's, and nothing is found to be no run
abbrev pub HasCause : (List ℕ → List ℕ → Type 0) → Status → Device → Device → Device → Device → Type 0
HasCause IsRunOf ending source rest sink grown = HasCauseFor most_input_bytes IsWhole IsRunOf (λ found bytes text. ⊥) IsRunOf ending source rest sink grown

-- how writing a text ended: all of it went to the sink, or a front part of it, and the sink failed
pub record IsWriting (held now : Option (List ℕ)) (before after : ℕ) (text : List ℕ) (ending : Status) : Type 0 where
  pub only : (ending ≡ status.Done) ⊎ (ending ≡ status.WriteFault)
  pub whole : ending ≡ status.Done → Appends held now text
  pub front : ending ≡ status.WriteFault → AppendsPrefix held now text
  pub fault : ending ≡ status.WriteFault → Rose before after
