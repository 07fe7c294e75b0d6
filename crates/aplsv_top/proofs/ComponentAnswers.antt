-- Component files are answered in one way, in a store that tells all that it keeps and of which no call is to fail.
use Rattle.std.proofs.Common.{◌≡◌, ◌≢◌, ℕ, List, Option, Some, None, refl, sym, ap, subst, ◌∙◌, inl, inr}
use Rattle.std.specs.Prelude.{Result, Ok, Err}
use Rattle.apl_arrays.specs.Array.{PlainArray}
use Rattle.apl_arrays.specs.Name.{name_order}
use Rattle.apl_io.specs.Content.{IsChange, IsRead, MayRead, Reads, Told, Writes, entry_of}
use Rattle.apl_io.specs.declared.store_error.StoreError.{StoreError}
use Rattle.apl_io.specs.declared.store_error.StoreError.TheVariants.{Failed, WantOfMemory}
use Rattle.aux_components.specs.File.{AreComponents, component_asked, components_changed}
use Rattle.aux_components.specs.Filed.{Filed, IsDone, Replies, TakesStep, forgotten}
use Rattle.aux_components.specs.Protocol.{AfterAsked, AfterWritten, DueChange, FileState, Finds, IsDue, Step, answers, asks, changes, due_of, idle, protocol_step, refuses, writes}
use Rattle.bundle_devices.proofs.Determined.{IsDetermined}
use Rattle.bundle_devices.proofs.Sound.{IsSound, called_sound, changed_sound, none_fails}
use Rattle.bundle_devices.proofs.Told.{TellAlike, alike_itself, called_alike, changed_alike, one_read, some_and}

-- a file's bytes are those of one list of components
abbrev pub OneList : Type 0
OneList = (bytes : List ℕ) (arrays others : List PlainArray) → AreComponents bytes arrays → AreComponents bytes others → arrays ≡ others

-- ---- calls of the store

-- a read is answered in one way
read_same : (a b c d : Told (List ℕ)) (name : List ℕ) (r s : Result (Option (List ℕ)) StoreError) → TellAlike name_order a b → IsSound name_order a → r ≢ Err WantOfMemory → s ≢ Err WantOfMemory
    → IsRead name_order a name r c → IsRead name_order b name s d → r ≡ s
read_same a b c d name (Err WantOfMemory) s alike sound some all read also = absurd (some refl)
read_same a b c d name (Err Failed) s alike sound some all read also = absurd (none_fails (Option (List ℕ)) a.calls a.fails sound.fails read.numbered)
read_same a b c d name (Ok r) (Err WantOfMemory) alike sound some all read also = absurd (all refl)
read_same a b c d name (Ok r) (Err Failed) alike sound some all read also = absurd (none_fails (Option (List ℕ)) b.calls b.fails (sym alike.fails ∙ sound.fails) also.numbered)
read_same a b c d name (Ok r) (Ok s) alike sound some all read also =
    ap (λ (o : Option (List ℕ)). Ok o) (one_read (entry_of name_order a name) (sound.told name) r s read.answered (subst (λ entry. MayRead entry s) (sym (alike.entries name)) also.answered))

-- ---- what follows from a read

finds_one : (found : Option PlainArray) (answer other : PlainArray) (state another : FileState) → Finds found answer state → Finds found other another → (answer ≡ other) × (state ≡ another)
finds_one None answer other state another finds found = (finds.0 ∙ sym found.0, finds.1 ∙ sym found.1)
finds_one (Some array) answer other state another finds found = (finds.0 ∙ sym found.0, finds.1 ∙ sym found.1)

module _ (one_list : OneList) where
  asked_one : (number : Option ℕ) (r : Result (Option (List ℕ)) StoreError) (answer other : PlainArray) (state another : FileState) → AfterAsked number r answer state → AfterAsked number r other another → (answer ≡ other) × (state ≡ another)
  asked_one number (Ok None) answer other state another after also = (after.0 ∙ sym also.0, after.1 ∙ sym also.1)
  asked_one number (Ok (Some bytes)) answer other state another (inl (arrays, are, finds)) (inl (others, be, found)) =
      finds_one (component_asked number arrays) answer other state another finds
      (subst (λ (list : List PlainArray). Finds (component_asked number list) other another) (sym (one_list bytes arrays others are be)) found)
  asked_one number (Ok (Some bytes)) answer other state another (inl (arrays, are, finds)) (inr (none, gave, stood)) = absurd (none arrays are)
  asked_one number (Ok (Some bytes)) answer other state another (inr (none, given, stands)) (inl (others, be, found)) = absurd (none others be)
  asked_one number (Ok (Some bytes)) answer other state another (inr (none, given, stands)) (inr (nothing, gave, stood)) = (given ∙ sym gave, stands ∙ sym stood)
  asked_one number (Err Failed) answer other state another after also = (after.0 ∙ sym also.0, after.1 ∙ sym also.1)
  asked_one number (Err WantOfMemory) answer other state another after also = absurd after

  due_one : (number : Option ℕ) (value : PlainArray) (r : Result (Option (List ℕ)) StoreError) (due other : DueChange) → IsDue number value r due → IsDue number value r other → due ≡ other
  due_one number value (Ok None) due other is also = is ∙ sym also
  due_one number value (Ok (Some bytes)) due other (inl (arrays, are, is)) (inl (others, be, also)) =
      is ∙ (ap (λ (list : List PlainArray). due_of (components_changed number list value)) (one_list bytes arrays others are be) ∙ sym also)
  due_one number value (Ok (Some bytes)) due other (inl (arrays, are, is)) (inr (none, also)) = absurd (none arrays are)
  due_one number value (Ok (Some bytes)) due other (inr (none, is)) (inl (others, be, also)) = absurd (none others be)
  due_one number value (Ok (Some bytes)) due other (inr (none, is)) (inr (nothing, also)) = is ∙ sym also
  due_one number value (Err Failed) due other is also = is ∙ sym also
  due_one number value (Err WantOfMemory) due other is also = absurd is

  module _ {T : Type 0} (told : T → Option (Told (List ℕ))) (faults : T → ℕ) where
    -- two stores tell the same, and all that they keep, and no call of them is to fail
    pub record StoreAlike (a b : T) : Type 0 where
      pub first : Told (List ℕ)
      pub second : Told (List ℕ)
      pub tells : told a ≡ Some first
      pub also : told b ≡ Some second
      pub alike : TellAlike name_order first second
      pub sound : IsSound name_order first

    -- and the protocol over the one stands where it stands over the other
    pub record FiledAlike (a b : Filed T) : Type 0 where
      pub stores : StoreAlike a.store b.store
      pub state : a.state ≡ b.state

    -- a store that begins with this content, between requests
    pub record FilesBegin (content : Told (List ℕ)) (s : Filed T) : Type 0 where
      pub tells : told s.store ≡ Some content
      pub state : s.state ≡ idle

    -- ---- a read of both stores

    record ReadAlike (c d : T) (r s : Result (Option (List ℕ)) StoreError) : Type 0 where
      stores : StoreAlike c d
      same : r ≡ s

    both_read : (a b c d : T) (name : List ℕ) (r s : Result (Option (List ℕ)) StoreError) → StoreAlike a b → r ≢ Err WantOfMemory → s ≢ Err WantOfMemory → Reads name_order (told a) name r (told c) → Reads name_order (told b) name s (told d)
        → ReadAlike c d r s
    both_read a b c d name r s h some all reads read =
        let p = some_and (told c) (IsRead name_order h.first name r) (subst (λ (o : Option (Told (List ℕ))). Reads name_order o name r (told c)) h.tells reads) in
        let q = some_and (told d) (IsRead name_order h.second name s) (subst (λ (o : Option (Told (List ℕ))). Reads name_order o name s (told d)) h.also read) in
        record {
          stores = record { first = p.0; second = q.0; tells = p.1; also = q.1; alike = called_alike name_order h.first h.second h.alike p.0 q.0 p.2.after q.2.after; sound = called_sound name_order h.first p.0 p.2.after h.sound };
          same = read_same h.first h.second p.0 q.0 name r s h.alike h.sound some all p.2 q.2;
        }

    -- ---- what is due is done in both

    written_by : (p q c d : Told (List ℕ)) (name bytes : List ℕ) (r s : Result (Unit {0}) StoreError) (answer other : PlainArray) → TellAlike name_order p q → IsSound name_order p
        → IsChange name_order p name (Some (Some bytes)) r c → IsChange name_order q name (Some (Some bytes)) s d → AfterWritten r answer → AfterWritten s other → (answer ≡ other) × TellAlike name_order c d × IsSound name_order c
    written_by p q c d name bytes (Err WantOfMemory) s answer other alike sound change changed after later = absurd after
    written_by p q c d name bytes (Err Failed) s answer other alike sound change changed after later = absurd (none_fails (Unit {0}) p.calls p.fails sound.fails change.numbered)
    written_by p q c d name bytes (Ok r) (Err WantOfMemory) answer other alike sound change changed after later = absurd later
    written_by p q c d name bytes (Ok r) (Err Failed) answer other alike sound change changed after later = absurd (none_fails (Unit {0}) q.calls q.fails (sym alike.fails ∙ sound.fails) changed.numbered)
    written_by p q c d name bytes (Ok r) (Ok s) answer other alike sound change changed after later = (
      after ∙ sym later,
      changed_alike name_order p q alike c d name (Some (Some bytes)) (Ok r) (Ok s) change changed (record { changes = λ wanted entry. refl }),
      changed_sound name_order p c name (Some (Some bytes)) (Ok r) (λ e. cc e) (λ e. cc e) change sound,
    )

    done_alike : (due : DueChange) (a b : T) (name : List ℕ) (answer other : PlainArray) (c d : T) → StoreAlike a b → IsDone told faults due a name answer c → IsDone told faults due b name other d → (answer ≡ other) × StoreAlike c d
    done_alike (refuses number) a b name answer other c d h done also = (
      done.0 ∙ sym also.0,
      record { first = h.first; second = h.second; tells = ap told done.1 ∙ h.tells; also = ap told also.1 ∙ h.also; alike = h.alike; sound = h.sound },
    )
    done_alike (writes bytes) a b name answer other c d h done also =
        let p = some_and (told c) (IsChange name_order h.first name (Some (Some bytes)) done.reply) (subst (λ (o : Option (Told (List ℕ))). Writes name_order o name bytes done.reply (told c)) h.tells done.told_reply) in
        let q = some_and (told d) (IsChange name_order h.second name (Some (Some bytes)) also.reply) (subst (λ (o : Option (Told (List ℕ))). Writes name_order o name bytes also.reply (told d)) h.also also.told_reply) in
        let both = written_by h.first h.second p.0 q.0 name bytes done.reply also.reply answer other h.alike h.sound p.2 q.2 done.after also.after in
        (both.0, record { first = p.0; second = q.0; tells = p.1; also = q.1; alike = both.1; sound = both.2 })

    -- ---- a step

    taken_alike : (s : Step) (a b : Filed T) (answer other : PlainArray) (c d : Filed T) → FiledAlike a b → TakesStep told faults s a answer c → TakesStep told faults s b other d → (answer ≡ other) × FiledAlike c d
    taken_alike (answers value state) a b answer other c d h takes took = (
      takes.0 ∙ sym took.0,
      record {
        stores = record {
          first = h.stores.first;
          second = h.stores.second;
          tells = ap (λ (s : Filed T). told s.store) takes.1 ∙ h.stores.tells;
          also = ap (λ (s : Filed T). told s.store) took.1 ∙ h.stores.also;
          alike = h.stores.alike;
          sound = h.stores.sound;
        };
        state = ap (λ (s : Filed T). s.state) takes.1 ∙ sym (ap (λ (s : Filed T). s.state) took.1);
      },
    )
    taken_alike (asks name number) a b answer other c d h takes took =
        let read = both_read a.store b.store c.store d.store name takes.reply took.reply h.stores (λ lost. subst (λ (r : Result (Option (List ℕ)) StoreError). AfterAsked number r answer c.state) lost takes.after)
        (λ lost. subst (λ (r : Result (Option (List ℕ)) StoreError). AfterAsked number r other d.state) lost took.after) takes.told_reply took.told_reply in
        let same = asked_one number took.reply answer other c.state d.state (subst (λ (r : Result (Option (List ℕ)) StoreError). AfterAsked number r answer c.state) read.same takes.after) took.after in
        (same.0, record { stores = read.stores; state = same.1 })
    taken_alike (changes name number value) a b answer other c d h takes took =
        let here = takes.0 in
        let there = took.0 in
        let read = both_read a.store b.store here.between there.between name here.reply there.reply h.stores (λ lost. subst (λ (r : Result (Option (List ℕ)) StoreError). IsDue number value r here.due) lost here.is_due)
        (λ lost. subst (λ (r : Result (Option (List ℕ)) StoreError). IsDue number value r there.due) lost there.is_due) here.told_reply there.told_reply in
        let due : here.due ≡ there.due = due_one number value there.reply here.due there.due (subst (λ (r : Result (Option (List ℕ)) StoreError). IsDue number value r here.due) read.same here.is_due) there.is_due in
        let done = done_alike there.due here.between there.between name answer other c.store d.store read.stores (subst (λ (d : DueChange). IsDone told faults d here.between name answer c.store) due here.done) there.done in
        (done.0, record { stores = done.1; state = takes.1 ∙ sym took.1 })

    -- the replies of component files that begin with this content are determined
    pub components_are_determined : (content : Told (List ℕ)) → IsSound name_order content
        → IsDetermined (λ old party new. new ≡ forgotten old) (λ old party value answer new. Replies told faults old value answer new) (FilesBegin content) FiledAlike
    components_are_determined content sound = record {
      begun = λ a b is are. record {
        stores = record { first = content; second = content; tells = is.tells; also = are.tells; alike = alike_itself name_order content; sound = sound };
        state = is.state ∙ sym are.state;
      };
      forgotten = λ a b party c d h same also. record {
        stores = record {
          first = h.stores.first;
          second = h.stores.second;
          tells = ap (λ (s : Filed T). told s.store) same ∙ h.stores.tells;
          also = ap (λ (s : Filed T). told s.store) also ∙ h.stores.also;
          alike = h.stores.alike;
          sound = h.stores.sound;
        };
        state = ap (λ (s : Filed T). s.state) same ∙ sym (ap (λ (s : Filed T). s.state) also);
      };
      replied = λ a b party value answer other c d h step also.
          taken_alike (protocol_step value a.state) a b answer other c d h step
          (subst (λ (state : FileState). TakesStep told faults (protocol_step value state) b other d) (sym h.state) also);
    }
