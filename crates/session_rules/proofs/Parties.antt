-- What an entry of another party changes of a party's part: nothing.
use Rattle.std.proofs.Common.{◌≡◌, ◌≢◌, ℕ, ◌&&◌, ◌||◌, Bool, not, cond, List, [], ◌∷◌, ◌++◌, IsTrue, if◌then◌else◌, sym, ap, ◌∙◌, subst}
use Rattle.std.proofs.lemmas.Bool.{ne_eqb}
use Rattle.std.specs.Prelude.{Some, IfSome, option_to_list, slice_get}
use Rattle.apl_arrays.specs.Array.{PlainArray}
use Rattle.auxiliaries.specs.Run.{Event, IsReplierRun}
use Rattle.sv_events.specs.Entry.{PlainEntry}
use Rattle.sv_rules.specs.Entries.{Entries, has_left, is_full, is_held, is_leave, kind_of}
use Rattle.sv_rules.specs.Refused.{awaited}
use Rattle.bundle_text.specs.User.{PlainUser}
use Rattle.session_rules.specs.Auxiliaries.{IsAuxiliaryPart, acts_among, event_of, events_of, some_stay}
use Rattle.session_rules.specs.Shelf.{Exchange}
use Rattle.session_rules.specs.UserPart.{IsFinished, IsUserPart, answered_entries, before_leave}

module _ (e : PlainEntry) (journal : Entries) (party : ℕ) where
  -- an entry of another does not make a party leave
  pub other_leaves : e.party ≢ party → has_left (e ∷ journal) party ≡ has_left journal party
  other_leaves other = ap (λ (same : Bool). (same && is_leave e.act) || has_left journal party) (ne_eqb e.party party other)

  -- it answers none of the party's lines
  pub other_answers_none : e.party ≢ party → answered_entries (e ∷ journal) party ≡ answered_entries journal party
  other_answers_none other =
      ap (λ (same : Bool). cond (same && not (is_leave e.act) && not (is_held (kind_of e.answer))) (e ∷ answered_entries journal party) (answered_entries journal party)) (ne_eqb e.party party other)

  -- and the journal before the party left stays
  pub other_before_leave : e.party ≢ party → before_leave (e ∷ journal) party ≡ before_leave journal party
  other_before_leave other = ap (λ (same : Bool). if same && is_leave e.act then journal else before_leave journal party) (ne_eqb e.party party other)

  -- nor is it anything to what answers behind an auxiliary
  pub other_is_no_event : e.party ≢ party → events_of (e ∷ journal) party ≡ events_of journal party
  other_is_no_event other = ap (λ (same : Bool). (if same then option_to_list (event_of journal e) else []) ++ events_of journal party) (ne_eqb e.party party other)

  -- and before each entry of the auxiliary some user has not left, as before
  pub other_is_among : (users : List ℕ) → e.party ≢ party → acts_among users party (e ∷ journal) ≡ acts_among users party journal
  other_is_among users other = ap (λ (same : Bool). (not same || some_stay users journal) && acts_among users party journal) (ne_eqb e.party party other)

-- a user's part stays true when an entry of another party follows
pub other_changes_no_user_part : (journal : Entries) (user : PlainUser) (exchanges : List Exchange) (transcript : List (List ℕ)) (e : PlainEntry) →
    IsUserPart journal user exchanges transcript → e.party ≢ user.number → IsUserPart (e ∷ journal) user exchanges transcript
other_changes_no_user_part journal user exchanges transcript e h other =
    let same : answered_entries journal user.number ≡ answered_entries (e ∷ journal) user.number = sym (other_answers_none e journal user.number other) in
    let before : before_leave journal user.number ≡ before_leave (e ∷ journal) user.number = sym (other_before_leave e journal user.number other) in
    record {
      left = other_leaves e journal user.number other ∙ h.left;
      refused = h.refused;
      finished = subst (λ (entries : Entries). IsFinished user.lines entries h.refused exchanges transcript) same h.finished;
      at_limit = λ some. subst (λ (earlier : Entries). IsTrue (is_full earlier)) before (h.at_limit some);
      waited = subst (λ (earlier : Entries). IfSome (awaited earlier user.number) (λ act. slice_get h.refused 0 ≡ Some act)) before h.waited;
    }

-- and so does an auxiliary's part
pub other_changes_no_auxiliary_part : {S : Type 0} (forgets : S → ℕ → S → Type 0) (replies : S → ℕ → PlainArray → PlainArray → S → Type 0)
    (users : List ℕ) (party : ℕ) (journal : Entries) (start end : S) (e : PlainEntry) →
    IsAuxiliaryPart forgets replies users party journal start end → e.party ≢ party → IsAuxiliaryPart forgets replies users party (e ∷ journal) start end
other_changes_no_auxiliary_part forgets replies users party journal start end e h other = record {
  answers = subst (λ (events : List Event). IsReplierRun forgets replies start events end) (sym (other_is_no_event e journal party other)) h.answers;
  among = other_is_among e journal party users other ∙ h.among;
}
