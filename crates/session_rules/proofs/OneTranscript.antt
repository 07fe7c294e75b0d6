-- A journal gives each user one transcript.
use Rattle.std.proofs.Common.{◌≡◌, ◌⊎◌, ℕ, List, [], ◌∷◌, ◌++◌, map, refl, sym, ap, ap₂, ◌∙◌, inl, inr, append_assoc}
use Rattle.std.specs.Prelude.{None}
use Rattle.sv_events.specs.Answer.{PlainAnswer, full}
use Rattle.sv_events.specs.declared.event.Act.{Act}
use Rattle.sv_rules.specs.Entries.{Entries}
use Rattle.bundle_text.specs.User.{PlainUser}
use Rattle.sv_journal.specs.Output.{PlainTranscript}
use Rattle.session_rules.specs.Course.{Course}
use Rattle.session_rules.specs.Run.{AreUserParts, Dealings}
use Rattle.session_rules.specs.RunLaws.{PartsMakeOneTranscript}
use Rattle.session_rules.specs.Session.{session_of}
use Rattle.session_rules.specs.Shelf.{Exchange, ShelfReply, shelf_replies_in}
use Rattle.session_rules.specs.UserPart.{IsFinished, answered_entries, answers_of}
use Rattle.session_rules.proofs.MoreAnswers.{more_comes_back}

-- the answers that refused acts have
abbrev refusals : List Act → List PlainAnswer
refusals refused = map (λ act. full) refused

-- the answers begin with those of the front
record IsFront (front answers : List PlainAnswer) : Type 0 where
  more : List PlainAnswer
  same : answers ≡ front ++ more

-- a refusal before both keeps that
one_refusal_more : (refused others : List PlainAnswer) → IsFront refused others → IsFront (full ∷ refused) (full ∷ others)
one_refusal_more refused others front = record { more = front.more; same = ap (λ answers. full ∷ answers) front.same }

-- of two lists of refusals one is the front of the other
fronts : (refused others : List Act) → IsFront (refusals refused) (refusals others) ⊎ IsFront (refusals others) (refusals refused)
fronts [] others = inl (record { more = refusals others; same = refl })
fronts (act ∷ refused) [] = inr (record { more = refusals (act ∷ refused); same = refl })
fronts (act ∷ refused) (other ∷ others) = one_more (fronts refused others) where
  one_more : IsFront (refusals refused) (refusals others) ⊎ IsFront (refusals others) (refusals refused) →
      IsFront (refusals (act ∷ refused)) (refusals (other ∷ others)) ⊎ IsFront (refusals (other ∷ others)) (refusals (act ∷ refused))
  one_more (inl front) = inl (one_refusal_more (refusals refused) (refusals others) front)
  one_more (inr front) = inr (one_refusal_more (refusals others) (refusals refused) front)

-- what lines printed that are finished is what they print with further refusals
same_behind : (lines : List (List ℕ)) (replies : List ShelfReply) (answers front longer : List PlainAnswer) → (session_of lines (answers ++ front) replies).waits ≡ None → IsFront front longer →
    (session_of lines (answers ++ longer) replies).terminal.transcript ≡ (session_of lines (answers ++ front) replies).terminal.transcript
same_behind lines replies answers front longer finished begins =
    ap (λ behind. (session_of lines (answers ++ behind) replies).terminal.transcript) begins.same
    ∙ ap (λ given. (session_of lines given replies).terminal.transcript) (sym (append_assoc answers front begins.more))
    ∙ ap (λ (c : Course). c.terminal.transcript) (more_comes_back lines (answers ++ front) begins.more replies finished)

-- lines that are finished by the same entries and exchanges print one transcript
same_printed : (lines : List (List ℕ)) (entries : Entries) (refused others : List Act) (exchanges : List Exchange) (transcript other : List (List ℕ)) → IsFinished lines entries refused exchanges transcript → IsFinished lines entries others exchanges other
    → IsFront (refusals refused) (refusals others) ⊎ IsFront (refusals others) (refusals refused) → transcript ≡ other
same_printed lines entries refused others exchanges transcript other one another (inl front) =
    sym one.printed ∙ (sym (same_behind lines (shelf_replies_in exchanges) (answers_of entries) (refusals refused) (refusals others) one.waits front) ∙ another.printed)
same_printed lines entries refused others exchanges transcript other one another (inr front) =
    sym one.printed ∙ (same_behind lines (shelf_replies_in exchanges) (answers_of entries) (refusals others) (refusals refused) another.waits front ∙ another.printed)

-- a user has one transcript, and so have all users
same_transcripts : (dealings : Dealings) (journal : Entries) (users : List PlainUser) (transcripts others : List PlainTranscript) → AreUserParts dealings journal users transcripts → AreUserParts dealings journal users others → transcripts ≡ others
same_transcripts dealings journal [] [] [] parts other_parts = refl
same_transcripts dealings journal [] [] (other ∷ others) parts other_parts = absurd other_parts
same_transcripts dealings journal [] (transcript ∷ transcripts) others parts other_parts = absurd parts
same_transcripts dealings journal (user ∷ users) [] others parts other_parts = absurd parts
same_transcripts dealings journal (user ∷ users) (transcript ∷ transcripts) [] parts other_parts = absurd other_parts
same_transcripts dealings journal (user ∷ users) (transcript ∷ transcripts) (other ∷ others) (number, part, parts) (other_number, other_part, other_parts) =
    let lines : transcript.lines ≡ other.lines =
    same_printed user.lines (answered_entries journal user.number) part.refused other_part.refused (dealings user.number) transcript.lines other.lines part.finished other_part.finished (fronts part.refused other_part.refused) in
    let first : transcript ≡ other = ap₂ (λ (n : ℕ) (l : List (List ℕ)). record { user = n; lines = l }) (number ∙ sym other_number) lines in
    ap₂ (λ first others. first ∷ others) first (same_transcripts dealings journal users transcripts others parts other_parts)

-- a journal gives each user one transcript, where the shelves give the same replies
pub one_transcript : PartsMakeOneTranscript
one_transcript bundle dealings journal transcripts others = same_transcripts dealings journal bundle.users transcripts others
