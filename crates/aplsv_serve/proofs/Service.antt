-- The turns of an auxiliary's task.
use Rattle.std.proofs.Common.{◌≡◌, ℕ, ◌||◌, Bool, true, false, not, List, IsTrue, refl, sym, ap, ◌∙◌, subst}
use Rattle.std.proofs.lemmas.Bool.{and_from, or_right}
use Rattle.std.specs.Prelude.{◌==◌}
use Rattle.apl_arrays.specs.Array.{PlainArray}
use Rattle.sv_core.specs.Core.{PlainCore}
use Rattle.sv_rules.specs.Entries.{Entries}
use Rattle.session_rules.specs.Auxiliaries.{acts_among, some_stay}
use Rattle.party_turns.specs.Entering.{IsOneMore}
use Rattle.party_turns.specs.Serving.{IsAtWork}
use Rattle.party_turns.specs.SoFar.{HasAnswered}
use Rattle.party_turns.specs.declared.auxiliary.Auxiliary.{Auxiliary}
use Rattle.aplsv_serve.proofs.Knowing.{IsKnown, work_since}

module _ {S : Type 0} (forgets : S → ℕ → S → Type 0) (replies : S → ℕ → PlainArray → PlainArray → S → Type 0) (users : List ℕ) (party : ℕ) (start : S) (before after : PlainCore) (old new : Auxiliary S)
    (same : new.party ≡ old.party) (lost : new.is_lost ≡ false → old.is_lost ≡ false)
    (answered : new.is_lost ≡ false → HasAnswered forgets replies start before.journal old → HasAnswered forgets replies start after.journal new)
    (h : IsAtWork forgets replies users party start before.journal old) where
  -- an entry more, before which some user had not left
  pub work_made : IsOneMore party before after → IsTrue (some_stay users before.journal) → IsAtWork forgets replies users party start after.journal new
  work_made one stay = record {
    number = same ∙ h.number;
    answered = λ here. answered here (h.answered (lost here));
    among =
        ap (λ (j : Entries). acts_among users party j) one.journal
        ∙ and_from (not (one.entry.party == party) || some_stay users before.journal) (acts_among users party before.journal) (or_right (not (one.entry.party == party)) (some_stay users before.journal) stay) h.among;
  }

  -- or none
  pub work_rested : after ≡ before → IsAtWork forgets replies users party start after.journal new
  work_rested is = record {
    number = same ∙ h.number;
    answered = λ here. answered here (h.answered (lost here));
    among = ap (λ (c : PlainCore). acts_among users party c.journal) is ∙ h.among;
  }

not_lost_then : (before after : Bool) → (before ≡ true → after ≡ true) → after ≡ false → before ≡ false
not_lost_then false after stays here = refl
not_lost_then true after stays here = absurd (let no : true ≡ false = sym (stays refl) ∙ here in cc)

module _ {S : Type 0} (forgets : S → ℕ → S → Type 0) (replies : S → ℕ → PlainArray → PlainArray → S → Type 0) (members users : List ℕ) (party : ℕ) (start : S) (known : Entries) (before after : PlainCore) (old new : Auxiliary S)
    (k : IsKnown party known before.journal) (numbers : users ≡ members) (same : new.party ≡ old.party) (lost : old.is_lost ≡ true → new.is_lost ≡ true)
    (answered : new.is_lost ≡ false → (begun : S) → HasAnswered forgets replies begun before.journal old → HasAnswered forgets replies begun after.journal new)
    (h : IsAtWork forgets replies members party start known old) where
  found : IsAtWork forgets replies members party start before.journal old
  found = work_since forgets replies members party start known before.journal old k h

  -- after a turn in which it made an entry
  pub served_made : (journal : Entries) → journal ≡ after.journal → IsOneMore party before after → IsTrue (some_stay users before.journal) → IsAtWork forgets replies members party start journal new
  served_made journal is one stay =
      subst (λ (j : Entries). IsAtWork forgets replies members party start j new) (sym is)
      (work_made forgets replies members party start before after old new same (not_lost_then old.is_lost new.is_lost lost) (λ here. answered here start) found one (subst (λ (all : List ℕ). IsTrue (some_stay all before.journal)) numbers stay))

  -- and in which it made none
  pub served_rested : (journal : Entries) → journal ≡ before.journal → after ≡ before → IsAtWork forgets replies members party start journal new
  served_rested journal is rests =
      subst (λ (j : Entries). IsAtWork forgets replies members party start j new) (sym (is ∙ ap (λ (c : PlainCore). c.journal) (sym rests)))
      (work_rested forgets replies members party start before after old new same (not_lost_then old.is_lost new.is_lost lost) (λ here. answered here start) found rests)
