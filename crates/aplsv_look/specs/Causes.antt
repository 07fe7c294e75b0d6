-- Why a look ends as it does, by what its source and its sink tell before and after.
use Rattle.std.specs.Prelude.{◌≡◌, ◌≢◌, ◌⊎◌, ◌+◌, ℕ, List}
use Rattle.std.specs.Io.KnownBytes.{Appends}
use Rattle.std.specs.declared.option.Option.{Option}
use Rattle.apl_io.specs.Faults.{Rose}
use Rattle.apl_io.specs.Whole.{AppendsPrefix, ReadsAll, TakesAtMost, TakesExactly}
use Rattle.aplsv_words.specs.declared.look.Look.{Look}
use Rattle.aplsv_look.specs.Sights.{IsSight, IsLookRefusal}
use Rattle.aplsv_look.specs.declared.refused.LookRefused.TheVariants as refused
use Rattle.aplsv_look.specs.declared.status.LookStatus.{LookStatus}
use Rattle.aplsv_look.specs.declared.status.LookStatus.TheVariants as status

-- the most bytes of an output that is looked at
abbrev pub most_looked_at : ℕ
most_looked_at = 67108864

-- what a device tells: its bytes, unless it tells nothing of them, and the count of its faults
pub record ToldBytes : Type 0 where
  pub bytes : Option (List ℕ)
  pub faults : ℕ

-- all bytes of the source were read, and this holds of them
abbrev pub ReadsSuch : (List ℕ → Type 0) → Option (List ℕ) → Option (List ℕ) → Type 0
ReadsSuch IsSuch left rest = (bytes : List ℕ) × ReadsAll left rest bytes × IsSuch bytes

-- all bytes of the source were read, and what a look at them shows went to the sink, or only a front part of it
pub record WritesSight (look : Look) (Goes : List ℕ → Type 0) (left rest : Option (List ℕ)) : Type 0 where
  pub bytes : List ℕ
  pub sight : List ℕ
  pub read : ReadsAll left rest bytes
  pub is : IsSight look bytes sight
  pub written : Goes sight

-- what stands behind a status of a look: the source before and after, and the sink before and after
pub record HasLookCause (look : Look) (ending : LookStatus) (source rest sink grown : ToldBytes) : Type 0 where
  -- what is written is what a look at the output shows that was read
  pub done : ending ≡ status.Done → WritesSight look (λ sight. Appends sink.bytes grown.bytes sight) source.bytes rest.bytes
  pub front : ending ≡ status.WriteFault → WritesSight look (λ sight. AppendsPrefix sink.bytes grown.bytes sight) source.bytes rest.bytes
  -- each other ending has its cause
  pub no_output : (at : ℕ) → ending ≡ status.NoOutput at → ReadsSuch (λ text. IsLookRefusal look text (refused.NoOutput at)) source.bytes rest.bytes
  pub no_entry : ending ≡ status.NoEntry → ReadsSuch (λ text. IsLookRefusal look text refused.NoEntry) source.bytes rest.bytes
  pub read_fault : ending ≡ status.ReadFault → Rose source.faults rest.faults
  pub write_fault : ending ≡ status.WriteFault → Rose sink.faults grown.faults
  pub too_long : ending ≡ status.TooLong → TakesExactly source.bytes rest.bytes (most_looked_at + 1)
  pub taken : ending ≢ status.TooLong → TakesAtMost source.bytes rest.bytes most_looked_at

-- how writing a text ended: all of it went to the sink, or a front part of it, and the sink failed
pub record IsWriting (held now : Option (List ℕ)) (before after : ℕ) (text : List ℕ) (ending : LookStatus) : Type 0 where
  pub only : (ending ≡ status.Done) ⊎ (ending ≡ status.WriteFault)
  pub whole : ending ≡ status.Done → Appends held now text
  pub front : ending ≡ status.WriteFault → AppendsPrefix held now text
  pub fault : ending ≡ status.WriteFault → Rose before after
