-- What a store tells of component files after a change, and after a question.
use Rattle.std.proofs.Common.{◌≡◌, ◌≢◌, ◌∙◌, ℕ, ◌≤◌, ℤ, pos, negsuc, Bool, true, false, cond, ◌&&◌, eqb, leb, ◌⊎◌, inl, inr, ⊎_elim, List, [], ◌∷◌, length, Option, Some, None, Result, Ok, Err, refl, sym, ap, subst, arith}
use Rattle.std.specs.BTreeMap.{is_at}
use Rattle.std.specs.Option.{IfSome, IsSomeAnd}
use Rattle.std.specs.Result.{IfOk}
use Rattle.std.specs.Str.{bytes_eq}
use Rattle.std.proofs.lemmas.Bool.{cases_Bool, eq-eqb, leb-true}
use Rattle.std.specs.List.{All}
use Rattle.std.proofs.lemmas.List.Elements.{All-nil}
use Rattle.std.proofs.lemmas.Map.Text.{is_eq-slice_cmp}
use Rattle.apl_arrays.specs.Array.{PlainArray, PlainItems, numbers, chars}
use Rattle.apl_arrays.specs.Name.{name_order}
use Rattle.apl_io.specs.Content.{Told, IsChange, IsRead, MayRead, Reads, Writes, entry_after, entry_of}
use Rattle.apl_io.specs.declared.store_error.StoreError.{StoreError}
use Rattle.apl_io.specs.declared.store_error.StoreError.TheVariants.{Failed, WantOfMemory}
use Rattle.auxiliaries.specs.File.{most_file_bytes}
use Rattle.auxiliaries.specs.Protocol.{code}
use Rattle.sv_text.specs.Value.{IsValue}
use Rattle.aux_components.specs.File.{AreComponents, AreNoComponents, component_asked, components_changed, file_bytes, has_component}
use Rattle.aux_components.specs.Filed.{Filed, IsAskedStep, IsChangeStep, IsDone, IsReplaced}
use Rattle.aux_components.specs.Kept.{HasComponents, IsChanged}
use Rattle.aux_components.specs.Protocol.{AfterAsked, AfterWritten, DueChange, FileState, Finds, IsDue, due_of, due_of_none, holding, idle, refuses, writes}
use Rattle.aux_components.proofs.FileLemmas.{same_components, values_changed}

-- the number of an answer
abbrev number_in : PlainItems → ℤ
number_in (numbers []) = pos 0
number_in (numbers (number ∷ list)) = number
number_in (chars glyphs) = pos 0

abbrev magnitude : ℤ → ℕ
magnitude number = elim number [ pos n ↦ n | negsuc n ↦ 0 ]

same_code : (one other : ℕ) → code one ≡ code other → one ≡ other
same_code one other same = ap (λ (answer : PlainArray). magnitude (number_in answer.items)) same

-- a name compares to itself as equal
same_bytes : (bytes : List ℕ) → bytes_eq bytes bytes ≡ true
same_bytes [] = refl
same_bytes (byte ∷ bytes) = ap (λ b. b && bytes_eq bytes bytes) (eq-eqb byte byte refl) ∙ same_bytes bytes

at_itself : (name : List ℕ) → is_at (name_order name) name ≡ true
at_itself name = is_eq-slice_cmp name name ∙ same_bytes name

-- what is there with a property
there : {A : Type 0} (found : Option A) (P : A → Type 0) → IsSomeAnd found P → (x : A) × (found ≡ Some x) × P x
there None P none = absurd none
there (Some x) P some = (x, refl, some)

-- the bytes that are due are those of the components after the change
record Written (number : Option ℕ) (arrays : List PlainArray) (value : PlainArray) (bytes : List ℕ) : Type 0 where
  later : List PlainArray
  change : components_changed number arrays value ≡ Some later
  whole : bytes ≡ file_bytes later
  small : length bytes ≤ most_file_bytes

-- what is due after a file of these components was read: it is refused by a number that is not 0, or these bytes are written
abbrev IsDueOf : Option ℕ → List PlainArray → PlainArray → DueChange → Type 0
IsDueOf number arrays value (refuses reason) = reason ≢ 0
IsDueOf number arrays value (writes bytes) = Written number arrays value bytes

due_is : (number : Option ℕ) (arrays : List PlainArray) (value : PlainArray) (all : Option (List PlainArray)) → components_changed number arrays value ≡ all → IsDueOf number arrays value (due_of all)
due_is number arrays value None is = λ same. omega (arith, same)
due_is number arrays value (Some later) is = by (leb (length (file_bytes later)) most_file_bytes) refl
  where
    by : (b : Bool) → leb (length (file_bytes later)) most_file_bytes ≡ b → IsDueOf number arrays value (cond b (writes (file_bytes later)) (refuses 4))
    by true fits = record { later = later; change = is; whole = refl; small = leb-true (length (file_bytes later)) most_file_bytes fits }
    by false past = λ same. omega (arith, same)

due_so : (number : Option ℕ) (arrays : List PlainArray) (value : PlainArray) (due : DueChange) → due ≡ due_of (components_changed number arrays value) → IsDueOf number arrays value due
due_so number arrays value due is = subst (IsDueOf number arrays value) (sym is) (due_is number arrays value (components_changed number arrays value) refl)

due_after_read : (number : Option ℕ) (arrays : List PlainArray) (value : PlainArray) (entry : Option (Option (List ℕ))) (reply : Result (Option (List ℕ)) StoreError) (due : DueChange)
    → HasComponents entry arrays → IfOk reply (MayRead entry) → IsDue number value reply due → IsDueOf number arrays value due
due_after_read number arrays value (Some None) reply due has may is = absurd has
due_after_read number arrays value entry (Err Failed) due has may is = subst (IsDueOf number arrays value) (sym is) (λ same. omega (arith, same))
due_after_read number arrays value entry (Err WantOfMemory) due has may is = absurd is
due_after_read None arrays value None (Ok None) due has may is =
    due_so None arrays value due (is ∙ ap (λ (before : List PlainArray). due_of (components_changed None before value)) (sym has))
due_after_read (Some number) arrays value None (Ok None) due has may is = subst (IsDueOf (Some number) arrays value) (sym is) (λ same. omega (arith, same))
due_after_read number arrays value None (Ok (Some bytes)) due has may is = absurd (cc)
due_after_read number arrays value (Some (Some kept)) (Ok None) due has may is = absurd (cc)
due_after_read number arrays value (Some (Some kept)) (Ok (Some bytes)) due has may is =
    let same : bytes ≡ kept = cc in
    let are : AreComponents bytes arrays = subst (λ (b : List ℕ). AreComponents b arrays) (sym same) has in
    ⊎_elim
    (λ found. due_so number arrays value due (found.2 ∙ ap (λ (all : List PlainArray). due_of (components_changed number all value)) (same_components bytes found.0 arrays found.1 are)))
    (λ none. absurd (none.0 arrays are))
    is

-- after the file was replaced
replaced_so : (before middle after : Told (List ℕ)) (name : List ℕ) (number : Option ℕ) (arrays : List PlainArray) (value : PlainArray) (bytes : List ℕ) (reply : Result (Unit {0}) StoreError)
    → ((file : List ℕ) → entry_of name_order middle file ≡ entry_of name_order before file) → IsValue value → (HasComponents (entry_of name_order before name) arrays) → Written number arrays value bytes
    → AfterWritten reply (code 0) → IsChange name_order middle name (Some (Some bytes)) reply after → IsChanged before after name number arrays value
replaced_so before middle after name number arrays value bytes (Err WantOfMemory) kept is has written answered change = absurd answered
replaced_so before middle after name number arrays value bytes (Err Failed) kept is has written answered change = absurd (omega (arith, same_code 0 3 answered))
replaced_so before middle after name number arrays value bytes (Ok done) kept is has written answered change = record {
  later = written.later;
  change = written.change;
  file =
      let here : entry_of name_order after name ≡ Some (Some bytes) = change.entries name ∙ ap (λ b. cond b (Some (Some bytes)) (entry_of name_order middle name)) (at_itself name) in
      subst (λ (entry : Option (Option (List ℕ))). HasComponents entry written.later) (sym here) (record { small = written.small; each = values_changed number arrays value written.later (values (entry_of name_order before name) has) is written.change; whole = written.whole });
  others = λ file apart. change.entries file ∙ ap (λ b. cond b (Some (Some bytes)) (entry_of name_order middle file)) apart ∙ kept file;
}
  where
    values : (entry : Option (Option (List ℕ))) → HasComponents entry arrays → All IsValue arrays
    values None none = subst (All IsValue) (sym none) (All-nil IsValue)
    values (Some None) none = absurd none
    values (Some (Some kept)) are = are.each

module _ {T : Type 0} (told : T → Option (Told (List ℕ))) (faults : T → ℕ) where
  -- what the store tells after a read
  after_read : (old new : T) (name : List ℕ) (reply : Result (Option (List ℕ)) StoreError) (before : Told (List ℕ)) → told old ≡ Some before → Reads name_order (told old) name reply (told new)
      → (middle : Told (List ℕ)) × (told new ≡ Some middle) × IsRead name_order before name reply middle
  after_read old new name reply before is reads =
      there (told new) (IsRead name_order before name reply) (subst (λ (t : Option (Told (List ℕ))). IfSome t (λ b. IsSomeAnd (told new) (IsRead name_order b name reply))) is reads)

  pub change_kept : (old new : T) (name : List ℕ) (number : Option ℕ) (value : PlainArray) (arrays : List PlainArray) (before after : Told (List ℕ)) → IsChangeStep told faults old name number value (code 0) new
      → told old ≡ Some before → told new ≡ Some after → IsValue value → HasComponents (entry_of name_order before name) arrays → IsChanged before after name number arrays value
  change_kept old new name number value arrays before after step is_before is_after is has =
      let read = after_read old step.between name step.reply before is_before step.told_reply in
      by step.due (due_after_read number arrays value (entry_of name_order before name) step.reply step.due has read.2.answered step.is_due) step.done read.0 read.1 (λ file. ap (λ (t : Told (List ℕ)). entry_of name_order t file) read.2.after)
    where
      by : (due : DueChange) → IsDueOf number arrays value due → IsDone told faults due step.between name (code 0) new → (middle : Told (List ℕ)) → told step.between ≡ Some middle
          → ((file : List ℕ) → entry_of name_order middle file ≡ entry_of name_order before file) → IsChanged before after name number arrays value
      by (refuses reason) so done middle is_middle kept = absurd (so (sym (same_code 0 reason done.0)))
      by (writes bytes) so done middle is_middle kept =
          let writes_so = subst (λ (t : Option (Told (List ℕ))). IfSome t (λ m. IsSomeAnd (told new) (IsChange name_order m name (Some (Some bytes)) done.reply))) is_middle done.told_reply in
          let changed_so : IsChange name_order middle name (Some (Some bytes)) done.reply after = subst (λ (t : Option (Told (List ℕ))). IsSomeAnd t (IsChange name_order middle name (Some (Some bytes)) done.reply)) is_after writes_so in
          replaced_so before middle after name number arrays value bytes done.reply kept is has so done.after changed_so

  pub question_told : (old new : Filed T) (name : List ℕ) (number : Option ℕ) (arrays : List PlainArray) (before after : Told (List ℕ)) → IsAskedStep told faults old name number (code 0) new
      → told old.store ≡ Some before → told new.store ≡ Some after → HasComponents (entry_of name_order before name) arrays
      → (array : PlainArray) × (component_asked number arrays ≡ Some array) × (new.state ≡ holding array) × ((file : List ℕ) → entry_of name_order after file ≡ entry_of name_order before file)
  question_told old new name number arrays before after step is_before is_after has =
      let read = after_read old.store new.store name step.reply before is_before step.told_reply in
      let same : read.0 ≡ after = cc (read.1, is_after) in
      let found = by step.reply (entry_of name_order before name) has read.2.answered step.after in
      (found.0, found.1, found.2, λ file. ap (λ (t : Told (List ℕ)). entry_of name_order t file) (sym same ∙ read.2.after))
    where
      finds : (all : Option PlainArray) → Finds all (code 0) new.state → (array : PlainArray) × (all ≡ Some array) × (new.state ≡ holding array)
      finds None none = absurd (omega (arith, same_code 0 5 none.0))
      finds (Some array) some = (array, refl, some.1)

      by : (reply : Result (Option (List ℕ)) StoreError) (entry : Option (Option (List ℕ))) → HasComponents entry arrays → IfOk reply (MayRead entry) → AfterAsked number reply (code 0) new.state
          → (array : PlainArray) × (component_asked number arrays ≡ Some array) × (new.state ≡ holding array)
      by reply (Some None) none may after = absurd none
      by (Err Failed) entry has may after = absurd (omega (arith, same_code 0 3 after.0))
      by (Err WantOfMemory) entry has may after = absurd after
      by (Ok None) None has may after = absurd (omega (arith, same_code 0 1 after.0))
      by (Ok None) (Some (Some kept)) has may after = absurd (cc)
      by (Ok (Some bytes)) None has may after = absurd (cc)
      by (Ok (Some bytes)) (Some (Some kept)) has may after =
          let same : bytes ≡ kept = cc in
          let are : AreComponents bytes arrays = subst (λ (b : List ℕ). AreComponents b arrays) (sym same) has in
          ⊎_elim
          (λ found. finds (component_asked number arrays) (subst (λ (all : List PlainArray). Finds (component_asked number all) (code 0) new.state) (same_components bytes found.0 arrays found.1 are) found.2))
          (λ none. absurd (none.0 arrays are))
          after
