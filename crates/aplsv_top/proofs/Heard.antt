-- The answers that the users of a replay were given are those of their entries, and then full.
use Rattle.std.proofs.Common.{◌≡◌, ◌≢◌, ℕ, ◌<◌, Bool, true, false, List, [], ◌∷◌, ◌++◌, map, Option, Some, None, IsTrue, refl, sym, ap, subst, ◌∙◌, append-nil, append_assoc, arith}
use Rattle.std.proofs.lemmas.List.{map_push, reverse-append}
use Rattle.std.specs.Prelude.{IfSome, not, option_map, if◌then◌else◌}
use Rattle.std.specs.List.{AllByRecursion}
use Rattle.std.specs.Option.{option_map_or}
use Rattle.apl_arrays.specs.Ascending.{Ascend}
use Rattle.aux_parties.specs.Auxiliaries.{party_of}
use Rattle.aux_parties.specs.declared.auxiliary.AuxiliaryKind.{AuxiliaryKind}
use Rattle.sv_events.specs.Answer.{PlainAnswer, full}
use Rattle.sv_events.specs.Entry.{PlainEntry}
use Rattle.sv_events.specs.declared.event.Act.{Act}
use Rattle.sv_events.specs.declared.event.Act.TheVariants as act
use Rattle.sv_rules.specs.Entries.{Entries, has_left, is_full, is_held, is_leave, kind_of}
use Rattle.sv_rules.specs.Legal.{answer_to, entry_for, is_still_held, journal_after}
use Rattle.sv_rules.specs.Outcome.{outcome}
use Rattle.sv_rules.specs.Refused.{awaited, waits}
use Rattle.sv_core.specs.Core.{PlainCore}
use Rattle.sv_core.specs.Retry.{journal_retried}
use Rattle.session_rules.proofs.Parties.{other_answers_none}
use Rattle.session_rules.proofs.Taking.{none_leaves}
use Rattle.session_rules.specs.Session.{session_of}
use Rattle.session_rules.specs.UserPart.{answered_entries, answers_of}
use Rattle.replay_rules.proofs.SoFar.{full_stays, other_awaits, own_answers, own_awaits, own_held, own_leave}
use Rattle.replay_rules.specs.Turns.{Participant, AfterTurn, act_made, answer_given, numbers_of, turn_by, turns_where}
use Rattle.aplsv_top.proofs.Older.{Adds, adds_turn, entry, later_turn, nothing, turn_if}

-- what a party was answered: the answers of its entries, and full for further acts, of which there are some only where the journal is full; and the act that it waits for is no leave
pub record IsHeard (journal : Entries) (party : ℕ) (answers : List PlainAnswer) : Type 0 where
  pub refused : List Act
  pub given : answers ≡ answers_of (answered_entries journal party) ++ map (λ act. full) refused
  pub at_limit : refused ≢ [] → IsTrue (is_full journal)
  pub stays : IfSome (awaited journal party) (λ act. is_leave act ≡ false)

-- ---- one entry more

-- of another
heard_other : (e : PlainEntry) (journal : Entries) (party : ℕ) (answers : List PlainAnswer) → e.party ≢ party → IsHeard journal party answers → IsHeard (e ∷ journal) party answers
heard_other e journal party answers other h = record {
  refused = h.refused;
  given = h.given ∙ ap (λ (entries : Entries). answers_of entries ++ map (λ act. full) h.refused) (sym (other_answers_none e journal party other));
  at_limit = λ some. full_stays e journal (h.at_limit some);
  stays = subst (λ (act : Option Act). IfSome act (λ a. is_leave a ≡ false)) (sym (other_awaits e journal party other)) h.stays;
}

none_refused : (refused : List Act) (journal : Entries) → is_full journal ≡ false → (refused ≢ [] → IsTrue (is_full journal)) → refused ≡ []
none_refused [] journal room limit = refl
none_refused (act ∷ refused) journal room limit = absurd (let no : true ≡ false = sym (limit (λ e. cc e)) ∙ room in cc)

-- in a journal that is not full the answers are those of the entries
all_given : (journal : Entries) (party : ℕ) (answers : List PlainAnswer) → is_full journal ≡ false → (h : IsHeard journal party answers) → answers ≡ answers_of (answered_entries journal party)
all_given journal party answers room h =
    h.given ∙ (ap (λ (refused : List Act). answers_of (answered_entries journal party) ++ map (λ act. full) refused) (none_refused h.refused journal room h.at_limit) ∙ append-nil (answers_of (answered_entries journal party)))

no_leave_held : (held : Bool) (made : Act) → is_leave made ≡ false → IfSome (if held then Some made else None) (λ act. is_leave act ≡ false)
no_leave_held true made stays = stays
no_leave_held false made stays = tt

-- of its own
heard_own : (e : PlainEntry) (journal : Entries) (party : ℕ) (answers : List PlainAnswer) → e.party ≡ party → is_full journal ≡ false → is_leave e.act ≡ false → IsHeard journal party answers
    → (held : Bool) → is_held (kind_of e.answer) ≡ held → IsHeard (e ∷ journal) party (if held then answers else answers ++ e.answer ∷ [])
heard_own e journal party answers own room leaves h true is = record {
  refused = [];
  given = all_given journal party answers room h ∙ (ap answers_of (sym (own_held e journal party own leaves is)) ∙ sym (append-nil (answers_of (answered_entries (e ∷ journal) party))));
  at_limit = λ some. absurd (some refl);
  stays = subst (λ (act : Option Act). IfSome act (λ a. is_leave a ≡ false)) (sym (own_awaits e journal party own)) (no_leave_held (is_held (kind_of e.answer)) e.act leaves);
}
heard_own e journal party answers own room leaves h false is = record {
  refused = [];
  given = ap (λ (list : List PlainAnswer). list ++ e.answer ∷ []) (all_given journal party answers room h)
      ∙ (sym (reverse-append (e.answer ∷ []) (map (λ (f : PlainEntry). f.answer) (answered_entries journal party)))
      ∙ (ap answers_of (sym (own_answers e journal party own leaves is)) ∙ sym (append-nil (answers_of (answered_entries (e ∷ journal) party)))));
  at_limit = λ some. absurd (some refl);
  stays = subst (λ (act : Option Act). IfSome act (λ a. is_leave a ≡ false)) (sym (own_awaits e journal party own)) (no_leave_held (is_held (kind_of e.answer)) e.act leaves);
}

-- its leave
heard_leave : (journal : Entries) (party : ℕ) (answers : List PlainAnswer) → IsHeard journal party answers → IsHeard (entry_for journal party act.Leave ∷ journal) party answers
heard_leave journal party answers h =
    let e : PlainEntry = entry_for journal party act.Leave in
    record {
      refused = h.refused;
      given = h.given ∙ ap (λ (entries : Entries). answers_of entries ++ map (λ act. full) h.refused) (sym (own_leave e journal party refl refl));
      at_limit = λ some. full_stays e journal (h.at_limit some);
      stays = subst (λ (act : Option Act). IfSome act (λ a. is_leave a ≡ false)) (sym (own_awaits e journal party refl)) tt;
    }

-- an act that a full journal refuses
heard_full : (journal : Entries) (party : ℕ) (answers : List PlainAnswer) (made : Act) → is_full journal ≡ true → IsHeard journal party answers → IsHeard journal party (answers ++ full ∷ [])
heard_full journal party answers made limit h = record {
  refused = h.refused ++ made ∷ [];
  given = ap (λ (list : List PlainAnswer). list ++ full ∷ []) h.given
      ∙ (append_assoc (answers_of (answered_entries journal party)) (map (λ act. full) h.refused) (full ∷ [])
      ∙ ap (λ (fulls : List PlainAnswer). answers_of (answered_entries journal party) ++ fulls) (sym (map_push (λ (a : Act). full) h.refused made)));
  at_limit = λ some. limit;
  stays = h.stays;
}

-- an act that is no leave, with its answer
heard_after : (journal : Entries) (party : ℕ) (answers : List PlainAnswer) (made : Act) → is_leave made ≡ false → IsHeard journal party answers
    → IsHeard (journal_after journal party made) party (if is_held (kind_of (answer_to journal party made)) then answers else answers ++ answer_to journal party made ∷ [])
heard_after journal party answers made stays h = by (is_full journal) refl where
  by : (limit : Bool) → is_full journal ≡ limit → IsHeard (if limit then journal else entry_for journal party made ∷ journal) party
      (if is_held (kind_of (if limit then full else (outcome journal party made).answer)) then answers else answers ++ (if limit then full else (outcome journal party made).answer) ∷ [])
  by true is = heard_full journal party answers made is h
  by false is = heard_own (entry_for journal party made) journal party answers refl is stays h (is_held (kind_of (outcome journal party made).answer)) refl

-- ---- a turn

-- what a user was answered
abbrev pub IsHeardUser : Entries → Participant → Type 0
IsHeardUser journal user = IsHeard journal user.number user.answers

heard_given : (held : Bool) (journal : Entries) (user : Participant) (answer : PlainAnswer) → IsHeard journal user.number (if held then user.answers else user.answers ++ answer ∷ [])
    → IsHeardUser journal (if held then user else record user { answers = user.answers ++ answer ∷ [] })
heard_given true journal user answer h = h
heard_given false journal user answer h = h

heard_again : (still : Bool) (next : Option Act) (numbers : List ℕ) (journal : Entries) (user : Participant) → IfSome next (λ act. is_leave act ≡ false) → IsHeardUser journal user
    → IsHeardUser (let core : PlainCore = (if still then record { users = numbers; journal = journal } else record { users = numbers; journal = journal_retried journal user.number next }) in core.journal)
    (option_map_or (λ (answer : PlainAnswer). answer_given answer user) (if still then None else option_map (answer_to journal user.number) next) user)
heard_again true next numbers journal user stays h = h
heard_again false None numbers journal user stays h = h
heard_again false (Some made) numbers journal user stays h =
    heard_given (is_held (kind_of (answer_to journal user.number made))) (journal_after journal user.number made) user (answer_to journal user.number made) (heard_after journal user.number user.answers made stays h)

heard_made : (again : Bool) (numbers : List ℕ) (journal : Entries) (user : Participant) (made : Act) → is_leave made ≡ false → IsHeardUser journal user
    → IsHeardUser (act_made again numbers journal user made).journal (act_made again numbers journal user made).user
heard_made true numbers journal user made stays h = heard_again (is_still_held numbers journal user.number) (awaited journal user.number) numbers journal user h.stays h
heard_made false numbers journal user made stays h =
    heard_given (is_held (kind_of (answer_to journal user.number made))) (journal_after journal user.number made) user (answer_to journal user.number made) (heard_after journal user.number user.answers made stays h)

heard_by : (left : Bool) (next : Option Act) (numbers : List ℕ) (journal : Entries) (user : Participant) → IfSome next (λ act. is_leave act ≡ false) → IsHeardUser journal user
    → IsHeardUser (turn_by left next numbers journal user).journal (turn_by left next numbers journal user).user
heard_by true next numbers journal user stays h = h
heard_by false None numbers journal user stays h = heard_leave journal user.number user.answers h
heard_by false (Some made) numbers journal user stays h = heard_made (waits journal user.number) numbers journal user made stays h

-- no session asks to leave
asks_no_leave : (user : Participant) (next : Option Act) → (session_of user.lines user.answers user.replies).waits ≡ next → IfSome next (λ act. is_leave act ≡ false)
asks_no_leave user None is = tt
asks_no_leave user (Some asked) is = by (is_leave asked) (none_leaves user.lines user.answers user.replies asked is) where
  by : (leaves : Bool) → IsTrue (not leaves) → leaves ≡ false
  by true stays = absurd (let no : false ≡ true = stays in cc)
  by false stays = refl

heard_turn : (takes : Bool) (numbers : List ℕ) (journal : Entries) (user : Participant) → IsHeardUser journal user → IsHeardUser (turn_if takes numbers journal user).journal (turn_if takes numbers journal user).user
heard_turn true numbers journal user h =
    heard_by (has_left journal user.number) (session_of user.lines user.answers user.replies).waits numbers journal user (asks_no_leave user (session_of user.lines user.answers user.replies).waits refl) h
heard_turn false numbers journal user h = h

-- ---- users apart

-- no number is this one
abbrev pub AreApartFrom : ℕ → List ℕ → Type 0
AreApartFrom number numbers = AllByRecursion (λ (other : ℕ). other ≢ number) numbers

-- the numbers are all apart
abbrev pub AreApart : List ℕ → Type 0
AreApart [] = Unit {0}
AreApart (number ∷ numbers) = AreApartFrom number numbers × AreApart numbers

-- users are apart from the auxiliaries, and from each other
abbrev pub AreUsersApart : List ℕ → Type 0
AreUsersApart numbers = ((kind : AuxiliaryKind) → AreApartFrom (party_of kind) numbers) × AreApart numbers

farther : (number next : ℕ) (numbers : List ℕ) → number < next → AllByRecursion (λ (other : ℕ). next < other) numbers → AllByRecursion (λ (other : ℕ). number < other) numbers
farther number next [] less all = tt
farther number next (other ∷ numbers) less all = ((let first = all.0 in omega (arith, first, less)), farther number next numbers less all.1)

above : (number : ℕ) (numbers : List ℕ) → Ascend (number ∷ numbers) → AllByRecursion (λ (other : ℕ). number < other) numbers
above number [] h = tt
above number (next ∷ numbers) h = (h.0, farther number next numbers h.0 (above next numbers h.1))

apart_above : (number : ℕ) (numbers : List ℕ) → AllByRecursion (λ (other : ℕ). number < other) numbers → AreApartFrom number numbers
apart_above number [] all = tt
apart_above number (other ∷ numbers) all = ((λ same. let less = all.0 in omega (arith, less, same)), apart_above number numbers all.1)

-- numbers that ascend are apart
pub ascending_apart : (numbers : List ℕ) → Ascend numbers → AreApart numbers
ascending_apart [] h = tt
ascending_apart (number ∷ []) h = (tt, tt)
ascending_apart (number ∷ next ∷ numbers) h = (apart_above number (next ∷ numbers) (above number (next ∷ numbers) h), ascending_apart (next ∷ numbers) h.1)

-- ---- all users

abbrev pub AreHeard : Entries → List Participant → Type 0
AreHeard journal users = AllByRecursion (λ (user : Participant). IsHeardUser journal user) users

-- what another party adds is nothing to a user
heard_beside : (party : ℕ) (before after : Entries) (number : ℕ) (answers : List PlainAnswer) → Adds party before after → number ≢ party → IsHeard before number answers → IsHeard after number answers
heard_beside party before after number answers (nothing same) apart h = subst (λ (journal : Entries). IsHeard journal number answers) (sym same) h
heard_beside party before after number answers (entry e own same) apart h =
    subst (λ (journal : Entries). IsHeard journal number answers) (sym same) (heard_other e before number answers (λ this. apart (sym this ∙ own)) h)

-- nor to users
pub all_heard_beside : (party : ℕ) (before after : Entries) (users : List Participant) → Adds party before after → AreApartFrom party (numbers_of users) → AreHeard before users → AreHeard after users
all_heard_beside party before after [] adds apart h = tt
all_heard_beside party before after (user ∷ users) adds apart h = (heard_beside party before after user.number user.answers adds apart.0 h.0, all_heard_beside party before after users adds apart.1 h.1)

flipped : (one other : ℕ) → one ≢ other → other ≢ one
flipped one other apart same = apart (sym same)

-- the turns of others are nothing to a user
heard_past : (test : Participant → Bool) (numbers : List ℕ) (journal : Entries) (users : List Participant) (number : ℕ) (answers : List PlainAnswer) → AreApartFrom number (numbers_of users) → IsHeard journal number answers
    → IsHeard (turns_where test numbers journal users).journal number answers
heard_past test numbers journal [] number answers apart h = h
heard_past test numbers journal (user ∷ users) number answers apart h =
    let first : AfterTurn = turn_if (test user) numbers journal user in
    heard_past test numbers first.journal users number answers apart.1 (heard_beside user.number journal first.journal number answers (adds_turn (test user) numbers journal user) (flipped user.number number apart.0) h)

-- users that are apart, after their turns
pub heard_turns : (test : Participant → Bool) (numbers : List ℕ) (journal : Entries) (users : List Participant) → AreApart (numbers_of users) → AreHeard journal users
    → AreHeard (turns_where test numbers journal users).journal (turns_where test numbers journal users).users
heard_turns test numbers journal [] apart h = tt
heard_turns test numbers journal (user ∷ users) apart h =
    let first : AfterTurn = turn_if (test user) numbers journal user in
    let same : user.number ≡ first.user.number = sym (ap (λ (u : Participant). u.number) (later_turn (test user) numbers journal user).same) in (
      heard_past test numbers first.journal users first.user.number first.user.answers (subst (λ (n : ℕ). AreApartFrom n (numbers_of users)) same apart.0) (heard_turn (test user) numbers journal user h.0),
      heard_turns test numbers first.journal users apart.1 (all_heard_beside user.number journal first.journal users (adds_turn (test user) numbers journal user) apart.0 h.1),
    )
