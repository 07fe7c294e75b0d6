-- Where a replay ends, the exchanges of its users fit their shelves; and with one journal two runs have the same dealings.
use Rattle.std.proofs.Common.{◌≡◌, ◌⊎◌, ℕ, List, [], ◌∷◌, ◌++◌, map, None, inl, inr, refl, sym, ap, subst, ◌∙◌, append_assoc}
use Rattle.std.specs.List.{AllByRecursion}
use Rattle.bundle_text.specs.User.{PlainUser}
use Rattle.sv_events.specs.Answer.{PlainAnswer, full}
use Rattle.sv_events.specs.declared.event.Act.{Act}
use Rattle.sv_journal.specs.Output.{PlainTranscript}
use Rattle.sv_rules.specs.Entries.{Entries}
use Rattle.session_rules.proofs.MoreAnswers.{more_comes_back}
use Rattle.session_rules.specs.Course.{Course}
use Rattle.session_rules.specs.Run.{AreUserParts, Dealings}
use Rattle.session_rules.specs.Session.{session_of}
use Rattle.session_rules.specs.Shelf.{Call, Exchange, ShelfReply, shelf_replies_in}
use Rattle.session_rules.specs.UserPart.{IsFinished, IsUserPart, answered_entries, answers_of}
use Rattle.replay_rules.specs.Turns.{Participant, newcomer}
use Rattle.aplsv_top.proofs.Heard.{AreHeard, IsHeard}
use Rattle.aplsv_top.proofs.Level.{AreFitting, FitsAt}
use Rattle.aplsv_top.proofs.Older.{AreLater, IsLater}
use Rattle.bundle_devices.proofs.Sessions.{AreLevel, more_calls, same_session}

-- the answers that refused acts have
abbrev refusals : List Act → List PlainAnswer
refusals refused = map (λ act. full) refused

-- refusals begin with fewer
record IsFront (front answers : List PlainAnswer) : Type 0 where
  more : List PlainAnswer
  same : answers ≡ front ++ more

one_more : (refused others : List PlainAnswer) → IsFront refused others → IsFront (full ∷ refused) (full ∷ others)
one_more refused others front = record { more = front.more; same = ap (λ answers. full ∷ answers) front.same }

both_more : (refused others : List PlainAnswer) → IsFront refused others ⊎ IsFront others refused → IsFront (full ∷ refused) (full ∷ others) ⊎ IsFront (full ∷ others) (full ∷ refused)
both_more refused others (inl front) = inl (one_more refused others front)
both_more refused others (inr front) = inr (one_more others refused front)

-- of two lists of refusals one is the front of the other
fronts : (refused others : List Act) → IsFront (refusals refused) (refusals others) ⊎ IsFront (refusals others) (refusals refused)
fronts [] others = inl (record { more = refusals others; same = refl })
fronts (act ∷ refused) [] = inr (record { more = refusals (act ∷ refused); same = refl })
fronts (act ∷ refused) (other ∷ others) = both_more (refusals refused) (refusals others) (fronts refused others)

-- the same answers, with some of them behind others
regrouped : (answers front longer : List PlainAnswer) → (f : IsFront front longer) → answers ++ longer ≡ (answers ++ front) ++ f.more
regrouped answers front longer f = ap (λ behind. answers ++ behind) f.same ∙ sym (append_assoc answers front f.more)

-- lines that are finished make no more calls with further answers
finished_calls : (lines : List (List ℕ)) (answers front longer : List PlainAnswer) (exchanges : List Exchange) → (session_of lines (answers ++ front) (shelf_replies_in exchanges)).waits ≡ None
    → (session_of lines (answers ++ front) (shelf_replies_in exchanges)).exchanges ≡ exchanges → IsFront front longer → (session_of lines (answers ++ longer) (shelf_replies_in exchanges)).exchanges ≡ exchanges
finished_calls lines answers front longer exchanges finished calls f =
    ap (λ (given : List PlainAnswer). (session_of lines given (shelf_replies_in exchanges)).exchanges) (regrouped answers front longer f)
    ∙ (ap (λ (c : Course). c.exchanges) (more_comes_back lines (answers ++ front) f.more (shelf_replies_in exchanges) finished) ∙ calls)

module _ {P : Type 0} (Fits : P → ℕ → List Exchange → Type 0) (older : (place : P) (user : ℕ) (more earlier : List Exchange) → Fits place user (more ++ earlier) → Fits place user earlier)
    (one_reply : (place : P) (user : ℕ) (call : Call) (reply other : ShelfReply) (earlier : List Exchange) → Fits place user (record { call = call; reply = reply } ∷ earlier) → Fits place user (record { call = call; reply = other } ∷ earlier) → reply ≡ other) where
  -- ---- at the end

  -- with as many answers as its entries have, and some refusals, a user's exchanges fit, since all its dealings do
  fits_by : (place : P) (user : ℕ) (lines : List (List ℕ)) (entries : Entries) (refused others : List Act) (exchanges : List Exchange) (transcript : List (List ℕ)) → Fits place user exchanges → IsFinished lines entries others exchanges transcript
      → IsFront (refusals refused) (refusals others) ⊎ IsFront (refusals others) (refusals refused) → Fits place user (session_of lines (answers_of entries ++ refusals refused) (shelf_replies_in exchanges)).exchanges
  fits_by place user lines entries refused others exchanges transcript fits finished (inl front) =
      let calls = more_calls lines (answers_of entries ++ refusals refused) front.more (shelf_replies_in exchanges) in
      let all : exchanges ≡ calls.more ++ (session_of lines (answers_of entries ++ refusals refused) (shelf_replies_in exchanges)).exchanges =
      sym finished.calls ∙ (ap (λ (given : List PlainAnswer). (session_of lines given (shelf_replies_in exchanges)).exchanges) (regrouped (answers_of entries) (refusals refused) (refusals others) front) ∙ calls.same) in
      older place user calls.more (session_of lines (answers_of entries ++ refusals refused) (shelf_replies_in exchanges)).exchanges (subst (Fits place user) all fits)
  fits_by place user lines entries refused others exchanges transcript fits finished (inr front) =
      subst (Fits place user) (sym (finished_calls lines (answers_of entries) (refusals others) (refusals refused) exchanges finished.waits finished.calls front)) fits

  -- a user of a replay that began with these dealings
  fits_at_end : (place : P) (dealings : Dealings) (journal : Entries) (user : PlainUser) (now : Participant) (transcript : List (List ℕ)) → IsLater (newcomer dealings user) now → IsHeard journal now.number now.answers
      → IsUserPart journal user (dealings user.number) transcript → Fits place user.number (dealings user.number) → FitsAt Fits older one_reply place now
  fits_at_end place dealings journal user now transcript later heard part fits =
      let answers : now.answers ≡ later.more = ap (λ (u : Participant). u.answers) later.same in
      let mine : IsHeard journal user.number later.more = subst (λ (u : Participant). IsHeard journal u.number u.answers) later.same heard in
      let there : Fits place user.number (session_of user.lines later.more (shelf_replies_in (dealings user.number))).exchanges =
      subst (λ (given : List PlainAnswer). Fits place user.number (session_of user.lines given (shelf_replies_in (dealings user.number))).exchanges) (sym mine.given)
      (fits_by place user.number user.lines (answered_entries journal user.number) mine.refused part.refused (dealings user.number) transcript fits part.finished (fronts mine.refused part.refused)) in
      subst (λ (u : Participant). FitsAt Fits older one_reply place u) (sym later.same) there

  -- the dealings of users fit their places
  abbrev pub DealingsFit : Dealings → List P → List PlainUser → Type 0
  DealingsFit dealings places [] = Unit {0}
  DealingsFit dealings [] (user ∷ users) = ⊥
  DealingsFit dealings (place ∷ places) (user ∷ users) = Fits place user.number (dealings user.number) × DealingsFit dealings places users

  -- so at the end the exchanges of all users fit
  pub fit_at_end : (dealings : Dealings) (journal : Entries) (places : List P) (users : List PlainUser) (nows : List Participant) (transcripts : List PlainTranscript) → AreLater (map (newcomer dealings) users) nows → AreHeard journal nows
      → AreUserParts dealings journal users transcripts → DealingsFit dealings places users → AreFitting Fits older one_reply places nows
  fit_at_end dealings journal places [] [] transcripts later heard parts fits = tt
  fit_at_end dealings journal places [] (now ∷ nows) transcripts later heard parts fits = absurd later
  fit_at_end dealings journal places (user ∷ users) [] transcripts later heard parts fits = absurd later
  fit_at_end dealings journal places (user ∷ users) (now ∷ nows) [] later heard parts fits = absurd parts
  fit_at_end dealings journal [] (user ∷ users) (now ∷ nows) (transcript ∷ transcripts) later heard parts fits = absurd fits
  fit_at_end dealings journal (place ∷ places) (user ∷ users) (now ∷ nows) (transcript ∷ transcripts) later heard parts fits =
      (fits_at_end place dealings journal user now transcript.lines later.0 heard.0 parts.1 fits.0, fit_at_end dealings journal places users nows transcripts later.1 heard.1 parts.2 fits.1)

  -- ---- the same dealings

  -- with the same answers and fitting exchanges lines make the same calls
  same_calls : (place : P) (user : ℕ) (lines : List (List ℕ)) (answers : List PlainAnswer) (exchanges others : List Exchange) → Fits place user exchanges → Fits place user others
      → (session_of lines answers (shelf_replies_in exchanges)).exchanges ≡ exchanges → (session_of lines answers (shelf_replies_in others)).exchanges ≡ others → exchanges ≡ others
  same_calls place user lines answers exchanges others fits also calls called =
      let level : AreLevel (session_of lines answers (shelf_replies_in exchanges)) (session_of lines answers (shelf_replies_in others)) =
      same_session (Fits place user) (older place user) (one_reply place user) lines answers (shelf_replies_in exchanges) (shelf_replies_in others) (subst (Fits place user) (sym calls) fits) (subst (Fits place user) (sym called) also) in
      sym calls ∙ (sym (ap (λ (c : Course). c.exchanges) level.same) ∙ called)

  same_by : (place : P) (user : ℕ) (lines : List (List ℕ)) (entries : Entries) (refused more : List Act) (exchanges others : List Exchange) (transcript other : List (List ℕ)) → Fits place user exchanges → Fits place user others
      → IsFinished lines entries refused exchanges transcript → IsFinished lines entries more others other → IsFront (refusals refused) (refusals more) ⊎ IsFront (refusals more) (refusals refused) → exchanges ≡ others
  same_by place user lines entries refused more exchanges others transcript other fits also finished ended (inl front) =
      same_calls place user lines (answers_of entries ++ refusals more) exchanges others fits also
      (finished_calls lines (answers_of entries) (refusals refused) (refusals more) exchanges finished.waits finished.calls front) ended.calls
  same_by place user lines entries refused more exchanges others transcript other fits also finished ended (inr front) =
      same_calls place user lines (answers_of entries ++ refusals refused) exchanges others fits also finished.calls
      (finished_calls lines (answers_of entries) (refusals more) (refusals refused) others ended.waits ended.calls front)

  -- users with their parts in one journal have the same dealings
  pub same_dealings : (dealings others : Dealings) (journal : Entries) (places : List P) (users : List PlainUser) (transcripts more : List PlainTranscript) → AreUserParts dealings journal users transcripts → AreUserParts others journal users more
      → DealingsFit dealings places users → DealingsFit others places users → AllByRecursion (λ (user : PlainUser). dealings user.number ≡ others user.number) users
  same_dealings dealings others journal places [] transcripts more parts others_parts fits also = tt
  same_dealings dealings others journal places (user ∷ users) [] more parts others_parts fits also = absurd parts
  same_dealings dealings others journal places (user ∷ users) (transcript ∷ transcripts) [] parts others_parts fits also = absurd others_parts
  same_dealings dealings others journal [] (user ∷ users) (transcript ∷ transcripts) (other ∷ more) parts others_parts fits also = absurd fits
  same_dealings dealings others journal (place ∷ places) (user ∷ users) (transcript ∷ transcripts) (other ∷ more) parts others_parts fits also =
      let mine : IsUserPart journal user (dealings user.number) transcript.lines = parts.1 in
      let theirs : IsUserPart journal user (others user.number) other.lines = others_parts.1 in (
        same_by place user.number user.lines (answered_entries journal user.number) mine.refused theirs.refused (dealings user.number) (others user.number) transcript.lines other.lines fits.0 also.0 mine.finished theirs.finished (fronts mine.refused theirs.refused),
        same_dealings dealings others journal places users transcripts more parts.2 others_parts.2 fits.1 also.1,
      )

-- parts in dealings are parts in dealings that are the same
pub same_parts : (dealings others : Dealings) (journal : Entries) (users : List PlainUser) (transcripts : List PlainTranscript) → AllByRecursion (λ (user : PlainUser). dealings user.number ≡ others user.number) users → AreUserParts others journal users transcripts
    → AreUserParts dealings journal users transcripts
same_parts dealings others journal [] [] same h = tt
same_parts dealings others journal [] (transcript ∷ transcripts) same h = absurd h
same_parts dealings others journal (user ∷ users) [] same h = absurd h
same_parts dealings others journal (user ∷ users) (transcript ∷ transcripts) same h =
    (h.0, subst (λ (e : List Exchange). IsUserPart journal user e transcript.lines) (sym same.0) h.1, same_parts dealings others journal users transcripts same.1 h.2)
