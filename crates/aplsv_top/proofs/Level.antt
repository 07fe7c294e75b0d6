-- Two replays of one bundle go on side by side.
use Rattle.std.proofs.Common.{◌≡◌, ◌≢◌, ℕ, zero, suc, Bool, true, false, List, [], ◌∷◌, ◌++◌, Option, Some, None, refl, sym, ap, ap₂, subst, ◌∙◌}
use Rattle.std.specs.List.{AllByRecursion}
use Rattle.std.specs.Prelude.{◌==◌, if◌then◌else◌}
use Rattle.std.proofs.lemmas.Bool.{eqb-true}
use Rattle.std.specs.Option.{option_map_or}
use Rattle.apl_arrays.specs.Array.{PlainArray}
use Rattle.sv_events.specs.Answer.{PlainAnswer}
use Rattle.sv_events.specs.declared.event.Act.{Act}
use Rattle.sv_rules.specs.Entries.{Entries, has_left, is_held, kind_of}
use Rattle.sv_rules.specs.Legal.{answer_to, retried}
use Rattle.sv_rules.specs.Refused.{waits}
use Rattle.sv_rules.specs.Work.{work_of}
use Rattle.aux_parties.specs.Auxiliaries.{auxiliaries, is_auxiliary, party_of}
use Rattle.aux_parties.specs.declared.auxiliary.AuxiliaryKind.{AuxiliaryKind}
use Rattle.aux_parties.specs.declared.auxiliary.AuxiliaryKind.TheVariants.{Clock, TextFiles}
use Rattle.aux_parties.specs.declared.auxiliary.AuxiliaryRow.{AuxiliaryRow}
use Rattle.aux_parties.proofs.TableLemmas.{kind_of_party, of_rows}
use Rattle.session_rules.specs.Auxiliaries.{some_stay}
use Rattle.session_rules.specs.Behind.{forgets_of, replies_of}
use Rattle.session_rules.specs.Course.{Course}
use Rattle.session_rules.specs.Session.{session_of}
use Rattle.session_rules.specs.Shelf.{Call, Exchange, ShelfReply}
use Rattle.replay_rules.specs.Turns.{HasReplies, Participant, Replay, AfterTurn, act_made, auxiliary_turn, auxiliary_turns, answer_given, some_user_stays, numbers_of, ordered, party_turn, round, rounds, served, turn, turn_by, turns_where, user_turns}
use Rattle.bundle_devices.proofs.Determined.{AnswersBehind, IsDetermined, alike_of, begins_of, older_answers}
use Rattle.aplsv_top.proofs.Heard.{AreHeard, AreUsersApart, all_heard_beside, heard_turns}
use Rattle.aplsv_top.proofs.Older.{AreLater, IsLater, IsOlder, adds_served, all_later_still, later_turn, later_turns, left_before, none_later, older_by, older_turns, same_numbers, turn_if}
use Rattle.bundle_devices.proofs.OneReply.{same_served}
use Rattle.bundle_devices.proofs.Sessions.{AreLevel, more_calls, same_session}

-- ---- two users

-- a user with other replies to come
abbrev pub replying : List ShelfReply → Participant → Participant
replying replies user = record user { replies = replies }

-- two users differ in the replies to come, and in nothing else
pub record IsLevelWith (user other : Participant) : Type 0 where
  pub replies : List ShelfReply
  pub same : other ≡ replying replies user

-- so do users
abbrev pub AreLevelWith : List Participant → List Participant → Type 0
AreLevelWith [] [] = Unit {0}
AreLevelWith [] (other ∷ others) = ⊥
AreLevelWith (user ∷ users) [] = ⊥
AreLevelWith (user ∷ users) (other ∷ others) = IsLevelWith user other × AreLevelWith users others

numbers_level : (users others : List Participant) → AreLevelWith users others → numbers_of users ≡ numbers_of others
numbers_level [] [] h = refl
numbers_level [] (other ∷ others) h = absurd h
numbers_level (user ∷ users) [] h = absurd h
numbers_level (user ∷ users) (other ∷ others) h = ap₂ (λ (n : ℕ) (ns : List ℕ). n ∷ ns) (sym (ap (λ (u : Participant). u.number) h.0.same)) (numbers_level users others h.1)

-- two turns are level: they have one journal, and their users are
record TurnsLevel (one other : AfterTurn) : Type 0 where
  journal : one.journal ≡ other.journal
  user : IsLevelWith one.user other.user

level_given : (held : Bool) (answer : PlainAnswer) (user : Participant) (replies : List ShelfReply)
    → IsLevelWith (if held then user else record user { answers = user.answers ++ answer ∷ [] }) (if held then replying replies user else record (replying replies user) { answers = user.answers ++ answer ∷ [] })
level_given true answer user replies = record { replies = replies; same = refl }
level_given false answer user replies = record { replies = replies; same = refl }

level_heard : (answer : Option PlainAnswer) (user : Participant) (replies : List ShelfReply)
    → IsLevelWith (option_map_or (λ (given' : PlainAnswer). answer_given given' user) answer user) (option_map_or (λ (given' : PlainAnswer). answer_given given' (replying replies user)) answer (replying replies user))
level_heard None user replies = record { replies = replies; same = refl }
level_heard (Some answer) user replies = level_given (is_held (kind_of answer)) answer user replies

level_made : (again : Bool) (numbers : List ℕ) (journal : Entries) (user : Participant) (replies : List ShelfReply) (made : Act) → TurnsLevel (act_made again numbers journal user made) (act_made again numbers journal (replying replies user) made)
level_made true numbers journal user replies made = record { journal = refl; user = level_heard (retried numbers journal user.number) user replies }
level_made false numbers journal user replies made = record { journal = refl; user = level_given (is_held (kind_of (answer_to journal user.number made))) (answer_to journal user.number made) user replies }

level_by : (left : Bool) (next : Option Act) (numbers : List ℕ) (journal : Entries) (user : Participant) (replies : List ShelfReply) → TurnsLevel (turn_by left next numbers journal user) (turn_by left next numbers journal (replying replies user))
level_by true next numbers journal user replies = record { journal = refl; user = record { replies = replies; same = refl } }
level_by false None numbers journal user replies = record { journal = refl; user = record { replies = replies; same = refl } }
level_by false (Some made) numbers journal user replies = level_made (waits journal user.number) numbers journal user replies made

-- where replies are left after an auxiliary's turn, some were left before, of each auxiliary
left_before_turn : (a : Replay) (party other : ℕ) → (auxiliary_turn party a).replies other ≢ [] → a.replies other ≢ []
left_before_turn a party other left = by (other == party) refl left where
  by : (own : Bool) → (other == party) ≡ own → (if own then (served a.journal party (a.replies party)).replies else a.replies other) ≢ [] → a.replies other ≢ []
  by true is some = subst (λ (number : ℕ). a.replies number ≢ []) (sym (eqb-true other party is)) (left_before a.journal party (a.replies party) (work_of a.journal party) some)
  by false is some = some

module _ {P : Type 0} (Fits : P → ℕ → List Exchange → Type 0) (older : (place : P) (user : ℕ) (more earlier : List Exchange) → Fits place user (more ++ earlier) → Fits place user earlier)
    (one_reply : (place : P) (user : ℕ) (call : Call) (reply other : ShelfReply) (earlier : List Exchange) → Fits place user (record { call = call; reply = reply } ∷ earlier) → Fits place user (record { call = call; reply = other } ∷ earlier) → reply ≡ other) where
  -- the exchanges of a user's session fit its place
  abbrev pub FitsAt : P → Participant → Type 0
  FitsAt place user = Fits place user.number (session_of user.lines user.answers user.replies).exchanges

  -- and so it is with users
  abbrev pub AreFitting : List P → List Participant → Type 0
  AreFitting places [] = Unit {0}
  AreFitting [] (user ∷ users) = ⊥
  AreFitting (place ∷ places) (user ∷ users) = FitsAt place user × AreFitting places users

  -- they did before answers were given
  fitted_before : (place : P) (user now : Participant) → IsLater user now → FitsAt place now → FitsAt place user
  fitted_before place user now later fits =
      let calls = more_calls user.lines user.answers later.more user.replies in
      older place user.number calls.more (session_of user.lines user.answers user.replies).exchanges
      (subst (Fits place user.number) calls.same (subst (λ (u : Participant). FitsAt place u) later.same fits))

  all_fitted_before : (places : List P) (users nows : List Participant) → AreLater users nows → AreFitting places nows → AreFitting places users
  all_fitted_before places [] [] later fits = tt
  all_fitted_before places [] (now ∷ nows) later fits = absurd later
  all_fitted_before places (user ∷ users) [] later fits = absurd later
  all_fitted_before [] (user ∷ users) (now ∷ nows) later fits = absurd fits
  all_fitted_before (place ∷ places) (user ∷ users) (now ∷ nows) later fits = (fitted_before place user now later.0 fits.0, all_fitted_before places users nows later.1 fits.1)

  -- turns of users that are level are level
  level_turn : (takes : Bool) (numbers : List ℕ) (journal : Entries) (place : P) (user : Participant) (replies : List ShelfReply) → FitsAt place user → FitsAt place (replying replies user)
      → TurnsLevel (turn_if takes numbers journal user) (turn_if takes numbers journal (replying replies user))
  level_turn true numbers journal place user replies fits other =
      let level : AreLevel (session_of user.lines user.answers user.replies) (session_of user.lines user.answers replies) =
      same_session (Fits place user.number) (older place user.number) (one_reply place user.number) user.lines user.answers user.replies replies fits other in
      subst (λ (next : Option Act). TurnsLevel (turn numbers journal user) (turn_by (has_left journal user.number) next numbers journal (replying replies user))) (sym (ap (λ (c : Course). c.waits) level.same))
      (level_by (has_left journal user.number) (session_of user.lines user.answers user.replies).waits numbers journal user replies)
  level_turn false numbers journal place user replies fits other = record { journal = refl; user = record { replies = replies; same = refl } }

  -- a test asks nothing of the replies to come
  abbrev IsBlind : (Participant → Bool) → Type 0
  IsBlind test = (user : Participant) (replies : List ShelfReply) → test (replying replies user) ≡ test user

  level_at : (test : Participant → Bool) → IsBlind test → (numbers : List ℕ) (journal : Entries) (place : P) (user other : Participant) → IsLevelWith user other → FitsAt place user → FitsAt place other
      → TurnsLevel (turn_if (test user) numbers journal user) (turn_if (test other) numbers journal other)
  level_at test blind numbers journal place user other level fits also =
      subst (λ (u : Participant). TurnsLevel (turn_if (test user) numbers journal user) (turn_if (test u) numbers journal u)) (sym level.same)
      (subst (λ (takes : Bool). TurnsLevel (turn_if (test user) numbers journal user) (turn_if takes numbers journal (replying level.replies user))) (sym (blind user level.replies))
      (level_turn (test user) numbers journal place user level.replies fits (subst (λ (u : Participant). FitsAt place u) level.same also)))

  -- the turns of some users, and of others that are level with them, are level
  record AllTurnsLevel (test : Participant → Bool) (numbers : List ℕ) (journal later : Entries) (users others : List Participant) : Type 0 where
    same : (turns_where test numbers journal users).journal ≡ (turns_where test numbers later others).journal
    level : AreLevelWith (turns_where test numbers journal users).users (turns_where test numbers later others).users

  level_turns : (test : Participant → Bool) → IsBlind test → (numbers : List ℕ) (journal later : Entries) (places : List P) (users others : List Participant) → journal ≡ later → AreLevelWith users others
      → AreFitting places (turns_where test numbers journal users).users → AreFitting places (turns_where test numbers later others).users → AllTurnsLevel test numbers journal later users others
  level_turns test blind numbers journal later places [] [] same level fits also = record { same = same; level = tt }
  level_turns test blind numbers journal later places [] (other ∷ others) same level fits also = absurd level
  level_turns test blind numbers journal later places (user ∷ users) [] same level fits also = absurd level
  level_turns test blind numbers journal later [] (user ∷ users) (other ∷ others) same level fits also = absurd fits
  level_turns test blind numbers journal later (place ∷ places) (user ∷ users) (other ∷ others) same level fits also =
      let first : AfterTurn = turn_if (test user) numbers journal user in
      let second : AfterTurn = turn_if (test other) numbers later other in
      let now : TurnsLevel first second =
      subst (λ (j : Entries). TurnsLevel first (turn_if (test other) numbers j other)) same
      (level_at test blind numbers journal place user other level.0 (fitted_before place user first.user (later_turn (test user) numbers journal user) fits.0)
      (fitted_before place other second.user (later_turn (test other) numbers later other) also.0)) in
      let rest : AllTurnsLevel test numbers first.journal second.journal users others = level_turns test blind numbers first.journal second.journal places users others now.journal level.1 fits.1 also.1 in
      record { same = rest.same; level = (now.user, rest.level) }

  -- ---- two replays

  -- two replays stand alike: in the journal, and with their users
  pub record IsLevel (a b : Replay) : Type 0 where
    pub journal : a.journal ≡ b.journal
    pub users : AreLevelWith a.users b.users

  module _ {X Y : Type 0} (forgets_ten : X → ℕ → X → Type 0) (replies_ten : X → ℕ → PlainArray → PlainArray → X → Type 0) (BeginsTen : X → Type 0) (AlikeTen : X → X → Type 0) (one_ten : IsDetermined forgets_ten replies_ten BeginsTen AlikeTen)
      (forgets_twenty : Y → ℕ → Y → Type 0) (replies_twenty : Y → ℕ → PlainArray → PlainArray → Y → Type 0) (BeginsTwenty : Y → Type 0) (AlikeTwenty : Y → Y → Type 0) (one_twenty : IsDetermined forgets_twenty replies_twenty BeginsTwenty AlikeTwenty)
      (places : List P) where
    -- what answers behind both auxiliaries has a run over a replay's journal, both have replies left, and the exchanges of its users fit
    pub record IsRepliedTo (a : Replay) : Type 0 where
      pub answers : (kind : AuxiliaryKind) → AnswersBehind forgets_ten replies_ten BeginsTen forgets_twenty replies_twenty BeginsTwenty kind a.journal
      pub left : HasReplies a
      pub fits : AreFitting places a.users

    -- so it was before
    replied_before : (a b : Replay) → IsOlder a.journal b.journal → ((kind : AuxiliaryKind) → b.replies (party_of kind) ≢ [] → a.replies (party_of kind) ≢ []) → AreLater a.users b.users → IsRepliedTo b → IsRepliedTo a
    replied_before a b older left later h = record {
      answers = λ kind. older_answers (forgets_of forgets_ten forgets_twenty kind) (replies_of replies_ten replies_twenty kind) (begins_of BeginsTen BeginsTwenty kind) (party_of kind) older.more a.journal (subst (AnswersBehind forgets_ten replies_ten BeginsTen forgets_twenty replies_twenty BeginsTwenty kind) older.same (h.answers kind));
      left = λ kind. left kind (h.left kind);
      fits = all_fitted_before places a.users b.users later h.fits;
    }

    -- turns that were replied to were so before, and leave two replays level that were; users are given answers and nothing else, and what they heard are those of their entries
    pub record AreTame (turns : Replay → Replay) : Type 0 where
      pub before : (a : Replay) → IsRepliedTo (turns a) → IsRepliedTo a
      pub level : (a b : Replay) → IsLevel a b → IsRepliedTo (turns a) → IsRepliedTo (turns b) → IsLevel (turns a) (turns b)
      pub later : (a : Replay) → AreLater a.users (turns a).users
      pub heard : (a : Replay) → AreUsersApart (numbers_of a.users) → AreHeard a.journal a.users → AreHeard (turns a).journal (turns a).users

    tame_none : AreTame (λ a. a)
    tame_none = record { before = λ a h. h; level = λ a b level h k. level; later = λ a. none_later a.users; heard = λ a people h. h }

    -- turns, and then others
    tame_then : (first then' : Replay → Replay) → AreTame first → AreTame then' → AreTame (λ a. then' (first a))
    tame_then first then' f g = record {
      before = λ a h. f.before a (g.before (first a) h);
      level = λ a b level h k. g.level (first a) (first b) (f.level a b level (g.before (first a) h) (g.before (first b) k)) h k;
      later = λ a. all_later_still a.users (first a).users (then' (first a)).users (f.later a) (g.later (first a));
      heard = λ a people h. g.heard (first a) (subst AreUsersApart (sym (same_numbers a.users (first a).users (f.later a))) people) (f.heard a people h);
    }

    -- these turns or others
    tame_by : (b : Bool) (first other : Replay → Replay) → AreTame first → AreTame other → AreTame (λ a. if b then first a else other a)
    tame_by true first other f g = record { before = f.before; level = f.level; later = f.later; heard = f.heard }
    tame_by false first other f g = record { before = g.before; level = g.level; later = g.later; heard = g.heard }

    -- turns while some user has not left
    tame_while : (turns : Replay → Replay) → AreTame turns → AreTame (λ a. if some_user_stays a then turns a else a)
    tame_while turns f = record {
      before = λ a. (tame_by (some_user_stays a) turns (λ a. a) f tame_none).before a;
      level = λ a b level h k.
          let same : some_user_stays b ≡ some_user_stays a = sym (ap₂ (λ (numbers : List ℕ) (journal : Entries). some_stay numbers journal) (numbers_level a.users b.users level.users) level.journal) in
          let there : IsRepliedTo (if some_user_stays a then turns b else b) = subst (λ (goes : Bool). IsRepliedTo (if goes then turns b else b)) same k in
          subst (λ (goes : Bool). IsLevel (if some_user_stays a then turns a else a) (if goes then turns b else b)) (sym same) ((tame_by (some_user_stays a) turns (λ a. a) f tame_none).level a b level h there);
      later = λ a. (tame_by (some_user_stays a) turns (λ a. a) f tame_none).later a;
      heard = λ a. (tame_by (some_user_stays a) turns (λ a. a) f tame_none).heard a;
    }

    -- what answers behind each is determined
    determined : (kind : AuxiliaryKind) → IsDetermined (forgets_of forgets_ten forgets_twenty kind) (replies_of replies_ten replies_twenty kind) (begins_of BeginsTen BeginsTwenty kind) (alike_of AlikeTen AlikeTwenty kind)
    determined Clock = one_ten
    determined TextFiles = one_twenty

    -- a turn of an auxiliary
    tame_auxiliary : (kind : AuxiliaryKind) → AreTame (auxiliary_turn (party_of kind))
    tame_auxiliary kind = record {
      before = λ a h.
          replied_before a (auxiliary_turn (party_of kind) a) (older_by (party_of kind) a.journal (auxiliary_turn (party_of kind) a).journal (adds_served a.journal (party_of kind) (a.replies (party_of kind)) (work_of a.journal (party_of kind))))
          (λ other. left_before_turn a (party_of kind) (party_of other)) (none_later a.users) h;
      level = λ a b level h k.
          let there : AnswersBehind forgets_ten replies_ten BeginsTen forgets_twenty replies_twenty BeginsTwenty kind (served a.journal (party_of kind) (b.replies (party_of kind))).journal =
          subst (λ (journal : Entries). AnswersBehind forgets_ten replies_ten BeginsTen forgets_twenty replies_twenty BeginsTwenty kind (served journal (party_of kind) (b.replies (party_of kind))).journal) (sym level.journal) (k.answers kind) in
          let some : b.replies (party_of kind) ≢ [] = left_before_turn b (party_of kind) (party_of kind) (k.left kind) in
          record {
            journal = same_served (forgets_of forgets_ten forgets_twenty kind) (replies_of replies_ten replies_twenty kind) (begins_of BeginsTen BeginsTwenty kind) (alike_of AlikeTen AlikeTwenty kind) (determined kind) (party_of kind) a.journal (a.replies (party_of kind)) (b.replies (party_of kind)) (work_of a.journal (party_of kind)) refl
                (left_before_turn a (party_of kind) (party_of kind) (h.left kind)) some (h.answers kind) there
                ∙ ap (λ (journal : Entries). (served journal (party_of kind) (b.replies (party_of kind))).journal) level.journal;
            users = level.users;
          };
      later = λ a. none_later a.users;
      heard = λ a people h. all_heard_beside (party_of kind) a.journal (auxiliary_turn (party_of kind) a).journal a.users (adds_served a.journal (party_of kind) (a.replies (party_of kind)) (work_of a.journal (party_of kind))) (people.0 kind) h;
    }

    -- turns of some auxiliaries, one after another
    tame_turns : (rows : List AuxiliaryRow) → AllByRecursion (λ (row : AuxiliaryRow). AreTame (auxiliary_turn row.party)) rows → AreTame (auxiliary_turns rows)
    tame_turns [] each = tame_none
    tame_turns (row ∷ rows) each = tame_then (auxiliary_turn row.party) (auxiliary_turns rows) each.0 (tame_turns rows each.1)

    tame_users : (test : Participant → Bool) → IsBlind test → AreTame (user_turns test)
    tame_users test blind = record {
      before = λ a h.
          replied_before a (user_turns test a) (older_turns test (numbers_of a.users) a.journal a.users) (λ kind left. left) (later_turns test (numbers_of a.users) a.journal a.users) h;
      level = λ a b level h k.
          let same : numbers_of b.users ≡ numbers_of a.users = sym (numbers_level a.users b.users level.users) in
          let there : AreFitting places (turns_where test (numbers_of a.users) b.journal b.users).users = subst (λ (numbers : List ℕ). AreFitting places (turns_where test numbers b.journal b.users).users) same k.fits in
          let now : AllTurnsLevel test (numbers_of a.users) a.journal b.journal a.users b.users = level_turns test blind (numbers_of a.users) a.journal b.journal places a.users b.users level.journal level.users h.fits there in
          record {
            journal = now.same ∙ ap (λ (numbers : List ℕ). (turns_where test numbers b.journal b.users).journal) (sym same);
            users = subst (λ (numbers : List ℕ). AreLevelWith (turns_where test (numbers_of a.users) a.journal a.users).users (turns_where test numbers b.journal b.users).users) (sym same) now.level;
          };
      later = λ a. later_turns test (numbers_of a.users) a.journal a.users;
      heard = λ a people h. heard_turns test (numbers_of a.users) a.journal a.users people.1 h;
    }

    tame_party : (party : ℕ) → AreTame (party_turn party)
    tame_party party = by (is_auxiliary party) refl where
      by : (auxiliary : Bool) → is_auxiliary party ≡ auxiliary → AreTame (λ a. if auxiliary then auxiliary_turn party a else user_turns (λ user. user.number == party) a)
      by true is =
          let own = kind_of_party party is in
          let tame : AreTame (auxiliary_turn party) = subst (λ (number : ℕ). AreTame (auxiliary_turn number)) own.1 (tame_auxiliary own.0) in
          record { before = tame.before; level = tame.level; later = tame.later; heard = tame.heard }
      by false is =
          let tame : AreTame (user_turns (λ user. user.number == party)) = tame_users (λ user. user.number == party) (λ user replies. refl) in
          record { before = tame.before; level = tame.level; later = tame.later; heard = tame.heard }

    tame_ordered : (order : List ℕ) → AreTame (ordered order)
    tame_ordered [] = tame_none
    tame_ordered (party ∷ order) = tame_then (λ a. if some_user_stays a then party_turn party a else a) (ordered order) (tame_while (party_turn party) (tame_party party)) (tame_ordered order)

    tame_round : AreTame round
    tame_round = tame_then (auxiliary_turns auxiliaries) (user_turns (λ user. true)) (tame_turns auxiliaries (of_rows (λ (party : ℕ). AreTame (auxiliary_turn party)) tame_auxiliary)) (tame_users (λ user. true) (λ user replies. refl))

    tame_rounds : (count : ℕ) → AreTame (rounds count)
    tame_rounds zero = tame_none
    tame_rounds (suc count) = tame_then (rounds count) (λ a. if some_user_stays a then round a else a) (tame_rounds count) (tame_while round tame_round)

    -- so many rounds behind an order
    pub tame_replay : (order : List ℕ) (count : ℕ) → AreTame (λ a. rounds count (ordered order a))
    tame_replay order count = tame_then (ordered order) (rounds count) (tame_ordered order) (tame_rounds count)
