-- Entries and transcripts, as they are read.
use Rattle.std.proofs.Common.{◌≡◌, ◌||◌, ◌++◌, not, ℕ, zero, suc, Bool, true, false, List, [], ◌∷◌, IsTrue, Option, None, Some, length, slice_get, refl, sym, ap, ◌∙◌, subst}
use Rattle.std.specs.Prelude.{◌↔◌}
use Rattle.std.proofs.lemmas.Option.{none-some, same_Some}
use Rattle.apl_arrays.specs.Array.{PlainArray}
use Rattle.bundle_text.specs.User.{PlainUser}
use Rattle.sv_access.specs.declared.access.Kind.{Kind}
use Rattle.sv_access.specs.declared.access.Kind.TheVariants as kind
use Rattle.sv_access.specs.declared.verdict.Verdict.TheVariants.{Granted}
use Rattle.sv_events.specs.Entry.{PlainEntry}
use Rattle.sv_journal.specs.Output.{PlainTranscript}
use Rattle.sv_rules.specs.Coupling.{coupling_now}
use Rattle.sv_rules.specs.Entries.{Entries, is_full, is_leave}
use Rattle.sv_rules.specs.Legal.{IsLegal, MayFollow}
use Rattle.sv_rules.specs.Outcome.{value_answer, value_for}
use Rattle.sv_rules.specs.declared.standing.Standing.{Standing}
use Rattle.sv_offer_laws.proofs.LegalLemmas.{IsLegal-before}
use Rattle.sv_story_laws.specs.AnswerLaws.{GrantedExactlyWhereTheTableAllows, IsAccessOf, IsThere, NoValueExactlyWhereNoneIsThere, RefusedByTheElementNamed, UsesGetWhatIsThere, table_on}
use Rattle.sv_story_laws.specs.ControlLaws.{HoldsAreThoseOfTheTable}
use Rattle.session_rules.specs.Run.{AreUserParts, Dealings}
use Rattle.session_rules.specs.Shelf.{Exchange}
use Rattle.session_rules.specs.UserPart.{IsUserPart}
use Rattle.journal_laws.specs.JournalLaws.{FollowsTheTable, FullJournalsTakeLeavesAlone, GivesWhatIsThere, IsEvaluatedAlone, IsMade, TranscriptsAreEvaluatedAlone, AccessesFollowTheTable, UsesGiveTheLastValue}
use Rattle.journal_laws.proofs.NeverFull.{never_full}

-- an entry and those before it are legal
legal_so_far : (users : List ℕ) (journal : Entries) (e : PlainEntry) (before : Entries) → IsLegal users journal → IsMade journal e before → IsLegal users (e ∷ before)
legal_so_far users journal e before legal made = IsLegal-before users made.later (e ∷ before) (subst (IsLegal users) made.split legal)

module _ (granted : GrantedExactlyWhereTheTableAllows) (refused : RefusedByTheElementNamed) (table : HoldsAreThoseOfTheTable) where
  follows : (users : List ℕ) (e : PlainEntry) (before : Entries) (kind : Kind) (offer : Standing) → IsLegal users (e ∷ before) → IsAccessOf before e kind offer → FollowsTheTable before e kind offer
  follows users e before kind offer legal access =
      let grants = granted users before e legal kind offer access in
      let refuses = refused users before e legal kind offer access in
      let by_table = table before kind offer in
      record {
        granted = (λ g. by_table.0.1 (grants.0 g), λ none. grants.1 (by_table.0.0 none));
        refused = λ hold. (λ h. (by_table.1 hold).1 ((refuses hold).0 h), λ h. (refuses hold).1 ((by_table.1 hold).0 h));
      }

  -- sets and uses follow the table
  pub accesses_follow : (users : List ℕ) (journal : Entries) → IsLegal users journal → AccessesFollowTheTable journal
  accesses_follow users journal legal e before made kind offer access = follows users e before kind offer (legal_so_far users journal e before legal made) access

module _ (gets : UsesGetWhatIsThere) (without : NoValueExactlyWhereNoneIsThere) (table : HoldsAreThoseOfTheTable) where
  -- what is there for a use
  there_is : (before : Entries) (offer : Standing) → IsThere before offer (value_for before offer (coupling_now before offer.place))
  there_is before offer = record {
    coupled = λ coupling is. sym (ap (value_for before offer) is);
    alone = λ none. sym (ap (value_for before offer) none);
  }

  gives : (users : List ℕ) (e : PlainEntry) (before : Entries) (offer : Standing) → IsLegal users (e ∷ before) → IsAccessOf before e kind.Use offer → table_on before kind.Use offer ≡ Granted
      → (found : Option PlainArray) → IsThere before offer found → e.answer ≡ value_answer found
  gives users e before offer legal access allowed None there = (without users before e legal).1 (offer, access, allowed, there)
  gives users e before offer legal access allowed (Some v) there = (gets users before e legal offer access v).1 (allowed, there)

  -- uses give what is there
  pub uses_give : (users : List ℕ) (journal : Entries) → IsLegal users journal → UsesGiveTheLastValue journal
  uses_give users journal legal e before made offer access none =
      let found = value_for before offer (coupling_now before offer.place) in
      record {
        found = found;
        there = there_is before offer;
        given = gives users e before offer (legal_so_far users journal e before legal made) access ((table before kind.Use offer).0.0 none) found (there_is before offer);
      }

-- a part of a user is its lines alone
alone : (journal : Entries) (user : PlainUser) (exchanges : List Exchange) (transcript : PlainTranscript) → transcript.user ≡ user.number → IsUserPart journal user exchanges transcript.lines → IsEvaluatedAlone journal user exchanges transcript
alone journal user exchanges transcript whose part = record {
  whose = whose;
  past = part.refused;
  printed = part.finished.printed;
  asked = part.finished.acts;
  called = part.finished.calls;
  finished = part.finished.waits;
  limit = part.at_limit;
  waited = part.waited;
}

module _ (dealings : Dealings) (journal : Entries) where
  alone_at : (users : List PlainUser) (transcripts : List PlainTranscript) → AreUserParts dealings journal users transcripts → (place : ℕ) (user : PlainUser) (transcript : PlainTranscript)
      → slice_get users place ≡ Some user → slice_get transcripts place ≡ Some transcript → IsEvaluatedAlone journal user (dealings user.number) transcript
  alone_at [] [] parts place user transcript one other = absurd (none-some user one)
  alone_at [] (t ∷ transcripts) parts place user transcript one other = absurd parts
  alone_at (u ∷ users) [] parts place user transcript one other = absurd parts
  alone_at (u ∷ users) (t ∷ transcripts) parts zero user transcript one other =
      let first : IsEvaluatedAlone journal u (dealings u.number) t = alone journal u (dealings u.number) t parts.0 parts.1 in
      subst (λ (v : PlainUser). IsEvaluatedAlone journal v (dealings v.number) transcript) (same_Some u user one) (subst (IsEvaluatedAlone journal u (dealings u.number)) (same_Some t transcript other) first)
  alone_at (u ∷ users) (t ∷ transcripts) parts (suc place) user transcript one other = alone_at users transcripts parts.2 place user transcript one other

  as_many : (users : List PlainUser) (transcripts : List PlainTranscript) → AreUserParts dealings journal users transcripts → length transcripts ≡ length users
  as_many [] [] parts = refl
  as_many [] (t ∷ transcripts) parts = absurd parts
  as_many (u ∷ users) [] parts = absurd parts
  as_many (u ∷ users) (t ∷ transcripts) parts = ap (λ (n : ℕ). suc n) (as_many users transcripts parts.2)

  -- each transcript is
  pub evaluated_alone : (users : List PlainUser) (transcripts : List PlainTranscript) → AreUserParts dealings journal users transcripts → TranscriptsAreEvaluatedAlone dealings users journal transcripts
  evaluated_alone users transcripts parts = record { each = alone_at users transcripts parts; many = as_many users transcripts parts }

-- where there is no room an act is a leave
leaves_alone : (leave : Bool) (full : Bool) → IsTrue (leave || not full) → IsTrue full → IsTrue leave
leaves_alone true full room is = refl
leaves_alone false true room is = room
leaves_alone false false room is = is

pub full_takes_leaves : (users : List ℕ) (journal : Entries) → IsLegal users journal → FullJournalsTakeLeavesAlone journal
full_takes_leaves users journal legal e before made =
    let follow : MayFollow users before e = (legal_so_far users journal e before legal made).0 in
    record {
      leave = λ is. leaves_alone (is_leave e.act) (is_full before) follow.room is;
      entered = λ e_full. never_full before e.party e.act (sym follow.answer ∙ e_full);
    }
