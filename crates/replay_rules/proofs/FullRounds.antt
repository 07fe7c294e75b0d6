-- Rounds over a full journal: the auxiliaries do nothing, and the user takes its turn.
use Rattle.std.proofs.Common.{◌≡◌, ℕ, suc, Bool, true, false, not, List, [], ◌∷◌, refl, sym, ap, ap₂, subst, ◌∙◌}
use Rattle.std.specs.List.{list_any}
use Rattle.std.specs.Prelude.{if◌then◌else◌}
use Rattle.apl_arrays.specs.Array.{PlainArray}
use Rattle.aux_parties.specs.Auxiliaries.{auxiliaries}
use Rattle.aux_parties.specs.declared.auxiliary.AuxiliaryRow.{AuxiliaryRow}
use Rattle.sv_rules.specs.Entries.{Entries, has_left, is_full}
use Rattle.sv_story_laws.proofs.WorkLemmas.{full_journals_leave_no_work}
use Rattle.session_rules.specs.Auxiliaries.{some_stay}
use Rattle.replay_rules.specs.Turns.{AfterAuxiliaryTurn, AfterTurn, Participant, Replay, auxiliary_turn, auxiliary_turns, numbers_of, round, rounds, some_user_stays, turn, turns_where, user_turns}
use Rattle.replay_rules.specs.Worked.{HasComeTo, alone_at}
use Rattle.replay_rules.proofs.Serving.{served_idle}

-- the auxiliaries add nothing, and the users are the same
idle_turn : (party : ℕ) (replay : Replay) → is_full replay.journal ≡ true → (auxiliary_turn party replay).journal ≡ replay.journal
idle_turn party replay limit = ap (λ (after : AfterAuxiliaryTurn). after.journal) (served_idle replay.journal party (replay.replies party) (full_journals_leave_no_work replay.journal party limit))

idle_turns : (rows : List AuxiliaryRow) (replay : Replay) → is_full replay.journal ≡ true → (auxiliary_turns rows replay).journal ≡ replay.journal
idle_turns [] replay limit = refl
idle_turns (row ∷ rows) replay limit =
    let first : Replay = auxiliary_turn row.party replay in
    let same : first.journal ≡ replay.journal = idle_turn row.party replay limit in
    idle_turns rows first (ap is_full same ∙ limit) ∙ same

same_users : (rows : List AuxiliaryRow) (replay : Replay) → (auxiliary_turns rows replay).users ≡ replay.users
same_users [] replay = refl
same_users (row ∷ rows) replay = same_users rows (auxiliary_turn row.party replay)

-- the user takes its turn
one_turn : (replay : Replay) (user : Participant) (journal : Entries) (after : AfterTurn) → replay.journal ≡ journal → replay.users ≡ user ∷ [] → turn (user.number ∷ []) journal user ≡ after
    → HasComeTo (user_turns (λ user. true) replay) after.journal after.user
one_turn replay user journal after there alone is = record {
  entries = ap₂ (λ (entries : Entries) (users : List Participant). (turns_where (λ user. true) (numbers_of users) entries users).journal) there alone ∙ ap (λ (t : AfterTurn). t.journal) is;
  users = ap₂ (λ (entries : Entries) (users : List Participant). (turns_where (λ user. true) (numbers_of users) entries users).users) there alone ∙ ap (λ (t : AfterTurn). t.user ∷ []) is;
}

one_round : (replay : Replay) (user : Participant) (after : AfterTurn) → is_full replay.journal ≡ true → replay.users ≡ user ∷ [] → turn (user.number ∷ []) replay.journal user ≡ after → HasComeTo (round replay) after.journal after.user
one_round replay user after limit alone is = one_turn (auxiliary_turns auxiliaries replay) user replay.journal after (idle_turns auxiliaries replay limit) (same_users auxiliaries replay ∙ alone) is

-- a round is taken while the user has not left
stays_there : (journal : Entries) (number : ℕ) → has_left journal number ≡ false → some_stay (number ∷ []) journal ≡ true
stays_there journal number present = ap (λ (left : Bool). list_any (λ (user : ℕ). not left) (number ∷ [])) present

goes_on : (count : ℕ) (replay : Replay) → some_user_stays (rounds count replay) ≡ true → rounds (suc count) replay ≡ round (rounds count replay)
goes_on count replay stays = ap (λ (goes : Bool). if goes then round (rounds count replay) else rounds count replay) stays

-- the first round, in which nothing is added
pub heard_round : (journal : Entries) (replies : ℕ → List PlainArray) (user after : Participant) → is_full journal ≡ true → has_left journal user.number ≡ false → turn (user.number ∷ []) journal user ≡ record { journal = journal; user = after }
    → HasComeTo (rounds 1 (alone_at journal replies user)) journal after
heard_round journal replies user after limit present is =
    let start : Replay = alone_at journal replies user in
    subst (λ (r : Replay). HasComeTo r journal after) (sym (goes_on 0 start (stays_there journal user.number present))) (one_round start user (record { journal = journal; user = after }) limit refl is)

-- and the next one
pub last_round : (journal : Entries) (replies : ℕ → List PlainArray) (user after : Participant) (later : AfterTurn) → is_full journal ≡ true → has_left journal after.number ≡ false → HasComeTo (rounds 1 (alone_at journal replies user)) journal after
    → turn (after.number ∷ []) journal after ≡ later → HasComeTo (rounds 2 (alone_at journal replies user)) later.journal later.user
last_round journal replies user after later limit present come is =
    let start : Replay = alone_at journal replies user in
    let stays : some_user_stays (rounds 1 start) ≡ true = ap₂ (λ (users : List Participant) (entries : Entries). some_stay (numbers_of users) entries) come.users come.entries ∙ stays_there journal after.number present in
    subst (λ (r : Replay). HasComeTo r later.journal later.user) (sym (goes_on 1 start stays))
    (one_round (rounds 1 start) after later (ap is_full come.entries ∙ limit) come.users (ap (λ (entries : Entries). turn (after.number ∷ []) entries after) come.entries ∙ is))

-- nobody stays
pub is_over : (replay : Replay) (journal : Entries) (user : Participant) → HasComeTo replay journal user → some_stay (user.number ∷ []) journal ≡ false → some_user_stays replay ≡ false
is_over replay journal user come none = ap₂ (λ (users : List Participant) (entries : Entries). some_stay (numbers_of users) entries) come.users come.entries ∙ none
