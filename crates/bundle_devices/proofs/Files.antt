-- Text files in a store that tells all that it keeps are answered in one way.
use Rattle.std.proofs.Common.{◌≡◌, ◌≢◌, ℕ, List, [], ◌∷◌, Option, Some, None, refl, sym, ap, subst, ◌∙◌, inl, inr}
use Rattle.std.specs.Prelude.{Result, Ok, Err}
use Rattle.apl_arrays.specs.Array.{PlainArray}
use Rattle.apl_arrays.specs.Name.{name_order}
use Rattle.apl_io.specs.Content.{IsChange, IsRead, MayRead, Reads, Told, Writes, entry_of}
use Rattle.apl_io.specs.declared.store_error.StoreError.{StoreError}
use Rattle.apl_io.specs.declared.store_error.StoreError.TheVariants.{Failed, WantOfMemory}
use Rattle.auxiliaries.specs.Request.{request_of}
use Rattle.auxiliaries.specs.File.{IsText}
use Rattle.auxiliaries.specs.Protocol.{AfterRead, AfterReplace, Step, TextState, answers, idle, reading, reads, replaces, protocol_step}
use Rattle.auxiliaries.specs.Run.{Event, IsReplierRun, answered, began}
use Rattle.auxiliaries.specs.Served.{Replies, Served, TakesStep, forgotten}
use Rattle.bundle_devices.specs.Telling.{HoldsThroughout, TellsAll}
use Rattle.bundle_devices.proofs.Determined.{IsDetermined}
use Rattle.bundle_devices.proofs.Told.{EndAlike, TellAlike, alike_itself, called_alike, changed_alike, one_fails, one_read, other_fails, some_and}

-- a file's bytes are the text of one list of lines
abbrev pub OneText : Type 0
OneText = (bytes : List ℕ) (lines other : List (List ℕ)) → IsText bytes lines → IsText bytes other → lines ≡ other

-- ---- a read

module _ (one_text : OneText) where
  -- what follows from what was read
  after_one_read : (r : Option (List ℕ)) (answer other : PlainArray) (state another : TextState) → AfterRead (Ok r) answer state → AfterRead (Ok r) other another → (answer ≡ other) × (state ≡ another)
  after_one_read None answer other state another after also = (after.0 ∙ sym also.0, after.1 ∙ sym also.1)
  after_one_read (Some bytes) answer other state another (inl (lines, text, given, stands)) (inl (others, texts, gave, stood)) =
      (given ∙ sym gave, stands ∙ (ap reading (one_text bytes lines others text texts) ∙ sym stood))
  after_one_read (Some bytes) answer other state another (inl (lines, text, given, stands)) (inr (none, gave, stood)) = absurd (none lines text)
  after_one_read (Some bytes) answer other state another (inr (none, given, stands)) (inl (others, texts, gave, stood)) = absurd (none others texts)
  after_one_read (Some bytes) answer other state another (inr (none, given, stands)) (inr (nothing, gave, stood)) = (given ∙ sym gave, stands ∙ sym stood)

  read_by : (a b c d : Told (List ℕ)) (name : List ℕ) (r s : Result (Option (List ℕ)) StoreError) (answer other : PlainArray) (state another : TextState) → TellAlike name_order a b → entry_of name_order a name ≢ Some None
      → IsRead name_order a name r c → IsRead name_order b name s d → AfterRead r answer state → AfterRead s other another → (answer ≡ other) × (state ≡ another)
  read_by a b c d name (Err WantOfMemory) s answer other state another alike told read also after later = absurd after
  read_by a b c d name (Err Failed) (Err WantOfMemory) answer other state another alike told read also after later = absurd later
  read_by a b c d name (Err Failed) (Err Failed) answer other state another alike told read also after later = (after.0 ∙ sym later.0, after.1 ∙ sym later.1)
  read_by a b c d name (Err Failed) (Ok s) answer other state another alike told read also after later = absurd (other_fails name_order a b alike s read.numbered also.numbered)
  read_by a b c d name (Ok r) (Err WantOfMemory) answer other state another alike told read also after later = absurd later
  read_by a b c d name (Ok r) (Err Failed) answer other state another alike told read also after later = absurd (one_fails name_order a b alike r read.numbered also.numbered)
  read_by a b c d name (Ok r) (Ok s) answer other state another alike told read also after later =
      let may : MayRead (entry_of name_order a name) s = subst (λ entry. MayRead entry s) (sym (alike.entries name)) also.answered in
      let same : r ≡ s = one_read (entry_of name_order a name) told r s read.answered may in
      after_one_read s answer other state another (subst (λ q. AfterRead (Ok q) answer state) same after) later

  -- ---- a replacement

  -- what follows from it
  record ReplaceAlike (r s : Result (Unit {0}) StoreError) (answer other : PlainArray) (here there : TextState) : Type 0 where
    same : answer ≡ other
    state : here ≡ there
    ends : EndAlike r s

  replaced_by : (a b c d : Told (List ℕ)) (name bytes : List ℕ) (r s : Result (Unit {0}) StoreError) (answer other : PlainArray) (before also state another : TextState) → TellAlike name_order a b → before ≡ also
      → IsChange name_order a name (Some (Some bytes)) r c → IsChange name_order b name (Some (Some bytes)) s d → AfterReplace r before answer state → AfterReplace s also other another
      → ReplaceAlike r s answer other state another
  replaced_by a b c d name bytes (Err WantOfMemory) s answer other before also state another alike stands change changed after later = absurd after
  replaced_by a b c d name bytes (Err Failed) (Err WantOfMemory) answer other before also state another alike stands change changed after later = absurd later
  replaced_by a b c d name bytes (Err Failed) (Err Failed) answer other before also state another alike stands change changed after later =
      record { same = after.0 ∙ sym later.0; state = after.1 ∙ (stands ∙ sym later.1); ends = record { changes = λ wanted entry. refl } }
  replaced_by a b c d name bytes (Err Failed) (Ok s) answer other before also state another alike stands change changed after later = absurd (other_fails name_order a b alike s change.numbered changed.numbered)
  replaced_by a b c d name bytes (Ok r) (Err WantOfMemory) answer other before also state another alike stands change changed after later = absurd later
  replaced_by a b c d name bytes (Ok r) (Err Failed) answer other before also state another alike stands change changed after later = absurd (one_fails name_order a b alike r change.numbered changed.numbered)
  replaced_by a b c d name bytes (Ok r) (Ok s) answer other before also state another alike stands change changed after later =
      record { same = after.0 ∙ sym later.0; state = after.1 ∙ sym later.1; ends = record { changes = λ wanted entry. refl } }

  module _ {T : Type 0} (told : T → Option (Told (List ℕ))) (faults : T → ℕ) where
    -- two stores tell, and the one what the other does; and the protocol over the one stands where it stands over the other
    pub record ServeAlike (a b : Served T) : Type 0 where
      pub one : Told (List ℕ)
      pub other : Told (List ℕ)
      pub tells : told a.store ≡ Some one
      pub also : told b.store ≡ Some other
      pub alike : TellAlike name_order one other
      pub state : a.state ≡ b.state

    -- a store that begins with this content, between files
    pub record BeginsWith (content : Told (List ℕ)) (s : Served T) : Type 0 where
      pub tells : told s.store ≡ Some content
      pub state : s.state ≡ idle

    -- a store tells all that it keeps
    abbrev pub IsKnown : Served T → Type 0
    IsKnown s = TellsAll name_order (told s.store)

    -- what a store that tells all replies
    abbrev pub KnownReplies : Served T → ℕ → PlainArray → PlainArray → Served T → Type 0
    KnownReplies old party value answer new = IsKnown old × Replies told faults old value answer new

    -- ---- a step

    taken_alike : (s : Step) (a b : Served T) (answer other : PlainArray) (c d : Served T) → ServeAlike a b → IsKnown a → TakesStep told faults s a answer c → TakesStep told faults s b other d → (answer ≡ other) × ServeAlike c d
    taken_alike (answers value state) a b answer other c d h known takes took = (
      takes.0 ∙ sym took.0,
      record {
        one = h.one;
        other = h.other;
        tells = ap (λ (s : Served T). told s.store) takes.1 ∙ h.tells;
        also = ap (λ (s : Served T). told s.store) took.1 ∙ h.also;
        alike = h.alike;
        state = ap (λ (s : Served T). s.state) takes.1 ∙ sym (ap (λ (s : Served T). s.state) took.1);
      },
    )
    taken_alike (reads name) a b answer other c d h known takes took =
        let p = some_and (told c.store) (IsRead name_order h.one name takes.reply) (subst (λ (o : Option (Told (List ℕ))). Reads name_order o name takes.reply (told c.store)) h.tells takes.told_reply) in
        let q = some_and (told d.store) (IsRead name_order h.other name took.reply) (subst (λ (o : Option (Told (List ℕ))). Reads name_order o name took.reply (told d.store)) h.also took.told_reply) in
        let all : (key : List ℕ) → entry_of name_order h.one key ≢ Some None = subst (λ (o : Option (Told (List ℕ))). TellsAll name_order o) h.tells known in
        let same = read_by h.one h.other p.0 q.0 name takes.reply took.reply answer other c.state d.state h.alike (all name) p.2 q.2 takes.after took.after in
        (same.0, record { one = p.0; other = q.0; tells = p.1; also = q.1; alike = called_alike name_order h.one h.other h.alike p.0 q.0 p.2.after q.2.after; state = same.1 })
    taken_alike (replaces name bytes) a b answer other c d h known takes took =
        let p = some_and (told c.store) (IsChange name_order h.one name (Some (Some bytes)) takes.reply) (subst (λ (o : Option (Told (List ℕ))). Writes name_order o name bytes takes.reply (told c.store)) h.tells takes.told_reply) in
        let q = some_and (told d.store) (IsChange name_order h.other name (Some (Some bytes)) took.reply) (subst (λ (o : Option (Told (List ℕ))). Writes name_order o name bytes took.reply (told d.store)) h.also took.told_reply) in
        let same = replaced_by h.one h.other p.0 q.0 name bytes takes.reply took.reply answer other a.state b.state c.state d.state h.alike h.state p.2 q.2 takes.after took.after in (
          same.same,
          record {
            one = p.0;
            other = q.0;
            tells = p.1;
            also = q.1;
            alike = changed_alike name_order h.one h.other h.alike p.0 q.0 name (Some (Some bytes)) takes.reply took.reply p.2 q.2 same.ends;
            state = same.state;
          },
        )

    -- the replies of text files that begin with this content are determined
    pub files_are_determined : (content : Told (List ℕ)) → IsDetermined (λ old party new. new ≡ forgotten old) KnownReplies (BeginsWith content) ServeAlike
    files_are_determined content = record {
      begun = λ a b is are. record { one = content; other = content; tells = is.tells; also = are.tells; alike = alike_itself name_order content; state = is.state ∙ sym are.state };
      forgotten = λ a b party c d h one other. record {
        one = h.one;
        other = h.other;
        tells = ap (λ (s : Served T). told s.store) one ∙ h.tells;
        also = ap (λ (s : Served T). told s.store) other ∙ h.also;
        alike = h.alike;
        state = ap (λ (s : Served T). s.state) one ∙ sym (ap (λ (s : Served T). s.state) other);
      };
      replied = λ a b party value answer other c d h one another.
          taken_alike (protocol_step (request_of value) a.state) a b answer other c d h one.0 one.1
          (subst (λ (state : TextState). TakesStep told faults (protocol_step (request_of value) state) b other d) (sym h.state) another.1);
    }

    -- ---- runs

    holds_at_end : (start : Served T) (events : List Event) (end : Served T) (run : IsReplierRun (λ old party new. new ≡ forgotten old) (λ old party value answer new. Replies told faults old value answer new) start events end)
        → HoldsThroughout (λ old party new. new ≡ forgotten old) (λ old party value answer new. Replies told faults old value answer new) IsKnown start events end run → IsKnown end
    holds_at_end start [] end run all = all
    holds_at_end start (event ∷ earlier) end run all = all.1

    pub holds_at_start : (start : Served T) (events : List Event) (end : Served T) (run : IsReplierRun (λ old party new. new ≡ forgotten old) (λ old party value answer new. Replies told faults old value answer new) start events end)
        → HoldsThroughout (λ old party new. new ≡ forgotten old) (λ old party value answer new. Replies told faults old value answer new) IsKnown start events end run → IsKnown start
    holds_at_start start [] end run all = subst IsKnown run all
    holds_at_start start (event ∷ earlier) end run all = holds_at_start start earlier run.0 run.1 all.0

    -- a run through states that tell all is one of the replies of such
    pub known_run : (start : Served T) (events : List Event) (end : Served T) (run : IsReplierRun (λ old party new. new ≡ forgotten old) (λ old party value answer new. Replies told faults old value answer new) start events end)
        → HoldsThroughout (λ old party new. new ≡ forgotten old) (λ old party value answer new. Replies told faults old value answer new) IsKnown start events end run
        → IsReplierRun (λ old party new. new ≡ forgotten old) KnownReplies start events end
    known_run start [] end run all = run
    known_run start (began party ∷ earlier) end run all = (run.0, known_run start earlier run.0 run.1 all.0, run.2)
    known_run start (answered party value answer ∷ earlier) end run all = (run.0, known_run start earlier run.0 run.1 all.0, (holds_at_end start earlier run.0 run.1 all.0, run.2))
