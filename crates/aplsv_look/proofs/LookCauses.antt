-- Why a look ends as it does.
use Rattle.std.proofs.Common.{◌≡◌, ◌≢◌, ◌≤◌, ◌⊎◌, ◌+◌, ◌∙◌, ℕ, List, [], length, Option, Some, None, ap, sym, subst, refl, inl, inr, arith}
use Rattle.std.proofs.lemmas.List.{drop_all}
use Rattle.std.specs.Io.KnownBytes.{Appends}
use Rattle.apl_io.specs.Faults.{Rose}
use Rattle.apl_io.specs.Whole.{AppendsPrefix, AreAtMost, ReadsAll, TakesAtMost, TakesExactly}
use Rattle.printed_text.specs.Departs.{DepartsAt}
use Rattle.aplsv_words.specs.declared.look.Look.{Look}
use Rattle.aplsv_look.specs.Sights.{IsSight, IsLookRefusal}
use Rattle.aplsv_look.specs.Causes.{HasLookCause, IsWriting, ReadsSuch, ToldBytes, WritesSight, most_looked_at}
use Rattle.aplsv_look.specs.Statuses.{IsLookConclusion, status_refused}
use Rattle.aplsv_look.specs.declared.refused.LookRefused.{LookRefused}
use Rattle.aplsv_look.specs.declared.refused.LookRefused.TheVariants as refused
use Rattle.aplsv_look.specs.declared.status.LookStatus.{LookStatus}
use Rattle.aplsv_look.specs.declared.status.LookStatus.TheVariants as status

-- a source that told these bytes, and has no faults
abbrev pub given : List ℕ → ToldBytes
given bytes = record { bytes = Some bytes; faults = 0 }

-- a source that told that none is left
abbrev pub used_up : ToldBytes
used_up = record { bytes = Some []; faults = 0 }

-- all of few bytes are few
all_taken : (bytes : List ℕ) → length bytes ≤ most_looked_at → TakesAtMost (Some bytes) (Some []) most_looked_at
all_taken bytes few = (length bytes, few, (omega arith, ap Some (sym (drop_all (length bytes) bytes (omega arith)))))

-- no byte taken is few
nothing_taken : (left : Option (List ℕ)) → TakesAtMost left left most_looked_at
nothing_taken None = (0, omega arith, tt)
nothing_taken (Some bytes) = (0, omega arith, (omega arith, refl))

-- more bytes than there are were not taken
too_many : (left rest : Option (List ℕ)) → AreAtMost left most_looked_at → TakesExactly left rest (most_looked_at + 1) → ⊥
too_many None rest few taken = few
too_many (Some bytes) rest few taken =
    let many : most_looked_at + 1 ≤ length bytes = taken.0 in
    let bound : length bytes ≤ most_looked_at = few in
    omega (arith, many, bound)

-- writing ends in one of two ways
pub is_neither : (ending other : LookStatus) → ((ending ≡ status.Done) ⊎ (ending ≡ status.WriteFault)) → other ≢ status.Done → other ≢ status.WriteFault → ending ≡ other → ⊥
is_neither ending other (inl e) done fault is = done (sym is ∙ e)
is_neither ending other (inr e) done fault is = fault (sym is ∙ e)

module _ (look : Look) (ending : LookStatus) (bytes : List ℕ) (source rest sink grown : ToldBytes) (all : ReadsAll source.bytes rest.bytes bytes) (few : length bytes ≤ most_looked_at)
    (h : HasLookCause look ending (given bytes) used_up sink grown) where
  same_bytes : (other : List ℕ) → ReadsAll (Some bytes) (Some []) other → ReadsAll source.bytes rest.bytes other
  same_bytes other same = subst (ReadsAll source.bytes rest.bytes) (sym same.0) all

  sight_in : (Goes : List ℕ → Type 0) → WritesSight look Goes (Some bytes) (Some []) → WritesSight look Goes source.bytes rest.bytes
  sight_in Goes w = record { bytes = w.bytes; sight = w.sight; read = same_bytes w.bytes w.read; is = w.is; written = w.written }

  such_of : (IsSuch : List ℕ → Type 0) → ReadsSuch IsSuch (Some bytes) (Some []) → ReadsSuch IsSuch source.bytes rest.bytes
  such_of IsSuch read = (read.0, same_bytes read.0 read.1, read.2)

  -- what becomes of bytes is what becomes of a source of which they were read
  pub cause_by_bytes : TakesAtMost source.bytes rest.bytes most_looked_at → HasLookCause look ending source rest sink grown
  cause_by_bytes taken = record {
    done = λ is. sight_in (λ sight. Appends sink.bytes grown.bytes sight) (h.done is);
    front = λ is. sight_in (λ sight. AppendsPrefix sink.bytes grown.bytes sight) (h.front is);
    no_output = λ at is. such_of (λ text. IsLookRefusal look text (refused.NoOutput at)) (h.no_output at is);
    no_entry = λ is. such_of (λ text. IsLookRefusal look text refused.NoEntry) (h.no_entry is);
    read_fault = λ is. let rose : 1 ≤ 0 = h.read_fault is in absurd (omega (arith, rose));
    write_fault = h.write_fault;
    too_long = λ is. let many : most_looked_at + 1 ≤ length bytes = (h.too_long is).0 in absurd (omega (arith, many, few));
    taken = λ other. taken;
  }

-- a sight was written, or a front part of it, and the sink failed
pub sight_written : (look : Look) (bytes sight : List ℕ) (sink grown : ToldBytes) (ending : LookStatus) → length bytes ≤ most_looked_at → IsSight look bytes sight
    → IsWriting sink.bytes grown.bytes sink.faults grown.faults sight ending → HasLookCause look ending (given bytes) used_up sink grown
sight_written look bytes sight sink grown ending few is_sight writing = record {
  done = λ is. record { bytes = bytes; sight = sight; read = (refl, refl); is = is_sight; written = writing.whole is };
  front = λ is. record { bytes = bytes; sight = sight; read = (refl, refl); is = is_sight; written = writing.front is };
  no_output = λ at is. absurd (is_neither ending (status.NoOutput at) writing.only (λ e. cc) (λ e. cc) is);
  no_entry = λ is. absurd (is_neither ending status.NoEntry writing.only (λ e. cc) (λ e. cc) is);
  read_fault = λ is. absurd (is_neither ending status.ReadFault writing.only (λ e. cc) (λ e. cc) is);
  write_fault = writing.fault;
  too_long = λ is. absurd (is_neither ending status.TooLong writing.only (λ e. cc) (λ e. cc) is);
  taken = λ other. all_taken bytes few;
}

-- a look showed nothing, and nothing was written
pub look_refused : (look : Look) (bytes : List ℕ) (why : LookRefused) (sink : ToldBytes) → length bytes ≤ most_looked_at → IsLookRefusal look bytes why → HasLookCause look (status_refused why) (given bytes) used_up sink sink
look_refused look bytes (refused.NoOutput at) sink few refusal = record {
  done = λ is. absurd cc;
  front = λ is. absurd cc;
  no_output = λ other is. let same : at ≡ other = cc in (bytes, (refl, refl), subst (DepartsAt None bytes) same refusal);
  no_entry = λ is. absurd cc;
  read_fault = λ is. absurd cc;
  write_fault = λ is. absurd cc;
  too_long = λ is. absurd cc;
  taken = λ other. all_taken bytes few;
}
look_refused look bytes refused.NoEntry sink few refusal = record {
  done = λ is. absurd cc;
  front = λ is. absurd cc;
  no_output = λ at is. absurd cc;
  no_entry = λ is. (bytes, (refl, refl), refusal);
  read_fault = λ is. absurd cc;
  write_fault = λ is. absurd cc;
  too_long = λ is. absurd cc;
  taken = λ other. all_taken bytes few;
}
look_refused look bytes refused.WantOfMemory sink few refusal = record {
  done = λ is. absurd cc;
  front = λ is. absurd cc;
  no_output = λ at is. absurd cc;
  no_entry = λ is. absurd cc;
  read_fault = λ is. absurd cc;
  write_fault = λ is. absurd cc;
  too_long = λ is. absurd cc;
  taken = λ other. all_taken bytes few;
}

-- memory ran out before anything was read
pub lacked_memory : (look : Look) (source sink : ToldBytes) → HasLookCause look status.WantOfMemory source source sink sink
lacked_memory look source sink = record {
  done = λ is. absurd cc;
  front = λ is. absurd cc;
  no_output = λ at is. absurd cc;
  no_entry = λ is. absurd cc;
  read_fault = λ is. absurd cc;
  write_fault = λ is. absurd cc;
  too_long = λ is. absurd cc;
  taken = λ other. nothing_taken source.bytes;
}

-- of an ending that is another one by name alone
pub cause_for : (look : Look) (ending other : LookStatus) (source rest sink grown : ToldBytes) → ending ≡ other → HasLookCause look other source rest sink grown → HasLookCause look ending source rest sink grown
cause_for look ending other source rest sink grown same cause = subst (λ (one : LookStatus). HasLookCause look one source rest sink grown) (sym same) cause

-- without faults, a text that is not too long is shown if there is memory
pub look_concluded : (look : Look) (ending : LookStatus) (source rest sink grown : ToldBytes) → HasLookCause look ending source rest sink grown → ending ≢ status.Usage → AreAtMost source.bytes most_looked_at
    → ¬ Rose source.faults rest.faults → ¬ Rose sink.faults grown.faults → IsLookConclusion ending
look_concluded look status.Done source rest sink grown cause usage few reads_well writes_well = tt
look_concluded look (status.NoOutput offset) source rest sink grown cause usage few reads_well writes_well = tt
look_concluded look status.NoEntry source rest sink grown cause usage few reads_well writes_well = tt
look_concluded look status.WantOfMemory source rest sink grown cause usage few reads_well writes_well = tt
look_concluded look status.Usage source rest sink grown cause usage few reads_well writes_well = usage refl
look_concluded look status.ReadFault source rest sink grown cause usage few reads_well writes_well = reads_well (cause.read_fault refl)
look_concluded look status.WriteFault source rest sink grown cause usage few reads_well writes_well = writes_well (cause.write_fault refl)
look_concluded look status.TooLong source rest sink grown cause usage few reads_well writes_well = too_many source.bytes rest.bytes few (cause.too_long refl)
