-- Replays of one bundle whose devices are determined have one journal.
use Rattle.std.proofs.Common.{◌≡◌, ℕ, ◌≤◌, ◌||◌, Bool, true, false, not, leb, List, [], ◌∷◌, ◌++◌, map, IsTrue, refl, sym, ap, ap₂, subst, ◌∙◌, arith}
use Rattle.std.specs.Prelude.{All}
use Rattle.std.proofs.lemmas.Bool.{leb-true, leb-false}
use Rattle.std.proofs.lemmas.List.Elements.{All-head, All-tail}
use Rattle.apl_arrays.specs.Array.{PlainArray}
use Rattle.aux_parties.specs.declared.auxiliary.AuxiliaryKind.{AuxiliaryKind}
use Rattle.bundle_text.specs.Rules.{PlainBundle}
use Rattle.bundle_text.specs.User.{PlainUser}
use Rattle.sv_rules.specs.Entries.{Entries, has_left}
use Rattle.session_rules.specs.Auxiliaries.{some_stay}
use Rattle.session_rules.specs.Run.{Dealings}
use Rattle.session_rules.specs.Shelf.{Call, Exchange, ShelfReply, shelf_replies_in}
use Rattle.replay_rules.proofs.Rounds.{stays}
use Rattle.replay_rules.specs.Turns.{IsJournalOfTurns, Participant, Replay, beginning, some_user_stays, newcomer, numbers_of, ordered, rounds}
use Rattle.bundle_devices.proofs.Determined.{AnswersBehind, IsDetermined}
use Rattle.aplsv_top.proofs.Level.{AreFitting, AreLevelWith, AreTame, IsLevel, IsRepliedTo, tame_replay}
use Rattle.aplsv_top.proofs.Older.{same_numbers}

-- where all users have left none stays
none_stay : (dealings : Dealings) (journal : Entries) (users : List PlainUser) → All (λ (user : PlainUser). IsTrue (has_left journal user.number)) users → some_stay (numbers_of (map (newcomer dealings) users)) journal ≡ false
none_stay dealings journal [] left = refl
none_stay dealings journal (user ∷ users) left =
    ap (λ (gone : Bool). not gone || some_stay (numbers_of (map (newcomer dealings) users)) journal) (All-head (λ (user : PlainUser). IsTrue (has_left journal user.number)) user users left)
    ∙ none_stay dealings journal users (All-tail (λ (user : PlainUser). IsTrue (has_left journal user.number)) user users left)

-- newcomers of two dealings differ in the replies to come alone
level_newcomers : (dealings others : Dealings) (users : List PlainUser) → AreLevelWith (map (newcomer dealings) users) (map (newcomer others) users)
level_newcomers dealings others [] = tt
level_newcomers dealings others (user ∷ users) = (record { replies = shelf_replies_in (others user.number); same = refl }, level_newcomers dealings others users)

-- the replay of a bundle's turns with these dealings, before its first turn, and after so many rounds
abbrev pub before_turns : (bundle : PlainBundle) (dealings : Dealings) (journal : Entries) → IsJournalOfTurns bundle dealings journal → Replay
before_turns bundle dealings journal turns = beginning bundle dealings turns.replies

abbrev pub after_rounds : (bundle : PlainBundle) (dealings : Dealings) (journal : Entries) → IsJournalOfTurns bundle dealings journal → ℕ → Replay
after_rounds bundle dealings journal turns count = rounds count (ordered bundle.order (before_turns bundle dealings journal turns))

-- its users at the end
abbrev pub users_left : (bundle : PlainBundle) (dealings : Dealings) (journal : Entries) → IsJournalOfTurns bundle dealings journal → List Participant
users_left bundle dealings journal turns = (after_rounds bundle dealings journal turns turns.count).users

module _ {P : Type 0} (Fits : P → ℕ → List Exchange → Type 0) (older : (place : P) (user : ℕ) (more earlier : List Exchange) → Fits place user (more ++ earlier) → Fits place user earlier)
    (one_reply : (place : P) (user : ℕ) (call : Call) (reply other : ShelfReply) (earlier : List Exchange) → Fits place user (record { call = call; reply = reply } ∷ earlier) → Fits place user (record { call = call; reply = other } ∷ earlier) → reply ≡ other)
    {X Y : Type 0} (forgets_ten : X → ℕ → X → Type 0) (replies_ten : X → ℕ → PlainArray → PlainArray → X → Type 0) (BeginsTen : X → Type 0) (AlikeTen : X → X → Type 0) (one_ten : IsDetermined forgets_ten replies_ten BeginsTen AlikeTen)
    (forgets_twenty : Y → ℕ → Y → Type 0) (replies_twenty : Y → ℕ → PlainArray → PlainArray → Y → Type 0) (BeginsTwenty : Y → Type 0) (AlikeTwenty : Y → Y → Type 0) (one_twenty : IsDetermined forgets_twenty replies_twenty BeginsTwenty AlikeTwenty)
    (places : List P) (bundle : PlainBundle) where
  abbrev RepliedTo : Replay → Type 0
  RepliedTo = IsRepliedTo Fits older one_reply forgets_ten replies_ten BeginsTen AlikeTen one_ten forgets_twenty replies_twenty BeginsTwenty AlikeTwenty one_twenty places

  -- the order and so many rounds behind it
  pub tame : (count : ℕ) → AreTame Fits older one_reply forgets_ten replies_ten BeginsTen AlikeTen one_ten forgets_twenty replies_twenty BeginsTwenty AlikeTwenty one_twenty places (λ a. rounds count (ordered bundle.order a))
  tame count = tame_replay Fits older one_reply forgets_ten replies_ten BeginsTen AlikeTen one_ten forgets_twenty replies_twenty BeginsTwenty AlikeTwenty one_twenty places bundle.order count

  -- a journal of the bundle's turns with these dealings that both auxiliaries replied to, and whose users' exchanges fit at the end
  pub record IsRepliedJournal (dealings : Dealings) (journal : Entries) : Type 0 where
    pub turns : IsJournalOfTurns bundle dealings journal
    pub answers : (kind : AuxiliaryKind) → AnswersBehind forgets_ten replies_ten BeginsTen forgets_twenty replies_twenty BeginsTwenty kind journal
    pub fits : AreFitting Fits older one_reply places (users_left bundle dealings journal turns)

  module _ (dealings : Dealings) (journal : Entries) (h : IsRepliedJournal dealings journal) where
    abbrev before : Replay
    before = before_turns bundle dealings journal h.turns

    abbrev after : ℕ → Replay
    after count = after_rounds bundle dealings journal h.turns count

    over : some_user_stays (after h.turns.count) ≡ false
    over = ap₂ some_stay (same_numbers before.users (after h.turns.count).users ((tame h.turns.count).later before)) h.turns.last ∙ none_stay dealings journal bundle.users h.turns.left

    last_replied : RepliedTo (after h.turns.count)
    last_replied = record {
      answers = λ kind. subst (AnswersBehind forgets_ten replies_ten BeginsTen forgets_twenty replies_twenty BeginsTwenty kind) (sym h.turns.last) (h.answers kind);
      left = h.turns.enough;
      fits = h.fits;
    }

    -- more rounds change nothing of it
    same_after : (count : ℕ) → h.turns.count ≤ count → after count ≡ after h.turns.count
    same_after count more = stays count h.turns.count (ordered bundle.order before) more over

    replied_after : (count : ℕ) → h.turns.count ≤ count → RepliedTo (after count)
    replied_after count more = subst RepliedTo (sym (same_after count more)) last_replied

    journal_after : (count : ℕ) → h.turns.count ≤ count → (after count).journal ≡ journal
    journal_after count more = ap (λ (a : Replay). a.journal) (same_after count more) ∙ h.turns.last

  module _ (dealings others : Dealings) (journal other : Entries) (h : IsRepliedJournal dealings journal) (k : IsRepliedJournal others other) where
    by_count : (count : ℕ) → h.turns.count ≤ count → k.turns.count ≤ count → journal ≡ other
    by_count count more also =
        let start : IsLevel Fits older one_reply (before dealings journal h) (before others other k) = record { journal = refl; users = level_newcomers dealings others bundle.users } in
        let end = (tame count).level (before dealings journal h) (before others other k) start (replied_after dealings journal h count more) (replied_after others other k count also) in
        sym (journal_after dealings journal h count more) ∙ (end.journal ∙ journal_after others other k count also)

    -- there is one
    pub one_journal : journal ≡ other
    one_journal = by (leb h.turns.count k.turns.count) refl where
      by : (b : Bool) → leb h.turns.count k.turns.count ≡ b → journal ≡ other
      by true e = by_count k.turns.count (leb-true h.turns.count k.turns.count e) (omega arith)
      by false e = by_count h.turns.count (omega arith) (let less = leb-false h.turns.count k.turns.count e in omega (arith, less))
