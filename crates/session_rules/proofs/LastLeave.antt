-- Before each entry of a run some user has not left.
use Rattle.std.proofs.Common.{◌≡◌, ℕ, ◌==◌, ◌||◌, Bool, true, false, not, List, [], ◌∷◌, IsTrue, inl, inr, sym, ap, subst, ◌∙◌}
use Rattle.std.proofs.lemmas.Bool.{and_parts, eq-eqb, eqb-true, or_cases, or_left, or_right}
use Rattle.sv_events.specs.Entry.{PlainEntry}
use Rattle.aux_parties.specs.Auxiliaries.{is_auxiliary, party_of}
use Rattle.sv_rules.specs.Entries.{Entries, has_left}
use Rattle.sv_rules.specs.Legal.{is_user}
use Rattle.aux_parties.proofs.TableLemmas.{kind_of_party}
use Rattle.session_rules.specs.Auxiliaries.{acts_among, some_stay}
use Rattle.session_rules.specs.RunLaws.{NothingFollowsTheLastLeave}

-- a user that has not left is one of those that stay
user_stays : (users : List ℕ) (journal : Entries) (party : ℕ) → IsTrue (is_user users party) → IsTrue (not (has_left journal party)) → IsTrue (some_stay users journal)
user_stays [] journal party is stays = absurd (let no : false ≡ true = is in cc)
user_stays (user ∷ users) journal party is stays = elim (or_cases (user == party) (is_user users party) is) [
  | inl same ↦ or_left _ _ (subst (λ number. not (has_left journal number) ≡ true) (sym (eqb-true user party same)) stays)
  | inr other ↦ or_right _ _ (user_stays users journal party other stays)
]

-- an entry of an auxiliary comes while some user stays
auxiliary_stays : (users : List ℕ) (party : ℕ) (journal : Entries) (e : PlainEntry) → e.party ≡ party → IsTrue (acts_among users party (e ∷ journal)) → IsTrue (some_stay users journal)
auxiliary_stays users party journal e own among =
    let first : (not (e.party == party) || some_stay users journal) ≡ true = (and_parts _ _ among).0 in
    ap (λ (same : Bool). not same || some_stay users journal) (sym (eq-eqb e.party party own)) ∙ first

pub last_leave : NothingFollowsTheLastLeave
last_leave users journal e legal among = elim (or_cases (is_user users e.party) (is_auxiliary e.party) legal.0.party) [
  | inl user ↦ user_stays users journal e.party user legal.0.present
  | inr auxiliary ↦ let own = kind_of_party e.party auxiliary in auxiliary_stays users (party_of own.0) journal e (sym own.1) (among own.0)
]
