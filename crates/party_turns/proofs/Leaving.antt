-- A user that leaves, and one that has left.
use Rattle.std.proofs.Common.{◌≡◌, ℕ, ◌+◌, ◌-◌, ◌≤◌, inl, Bool, true, false, not, cond, List, [], ◌∷◌, ◌++◌, length, Option, None, if◌then◌else◌, refl, sym, ap, ◌∙◌, arith}
use Rattle.std.proofs.lemmas.Bool.{both_ways}
use Rattle.std.proofs.lemmas.List.Elements.{All-cons, All-nil}
use Rattle.std.proofs.lemmas.List.Sums.{sum_by-append}
use Rattle.std.specs.Prelude.{count_by}
use Rattle.apl_io.specs.Content.{Told}
use Rattle.sv_events.specs.Entry.{PlainEntry}
use Rattle.sv_events.specs.declared.event.Act.{Act}
use Rattle.sv_events.specs.declared.event.Act.TheVariants.{Leave}
use Rattle.sv_rules.specs.Entries.{Entries, counted_entries, has_left, is_leave}
use Rattle.sv_rules.specs.Legal.{entry_for}
use Rattle.sv_core.specs.Core.{PlainCore, core_after}
use Rattle.session_rules.specs.Session.{session_of}
use Rattle.session_rules.specs.SessionLaws.{tells_full}
use Rattle.session_rules.specs.Shelf.{ShelfReply}
use Rattle.replay_rules.specs.Turns.{Participant, AfterTurn, turn_by}
use Rattle.replay_rules.proofs.SoFar.{own_leave_leaves}
use Rattle.apl_session.specs.PlainSession.{PlainSession}
use Rattle.party_turns.specs.Participants.{participant_with}
use Rattle.party_turns.specs.Sittings.{Sitting}
use Rattle.party_turns.specs.SoFar.{GoesOn, GrowsBy, IsSameUser, IsSeated, work_with}
use Rattle.party_turns.proofs.Hearing.{IsTurnAt, work_of_one}

-- the user of a session that is the same user's
pub user_is : {K : Type 0} (s now : PlainSession K) → IsSameUser s now → now.user ≡ s.user
user_is {K = K} s now same = ap (λ (t : PlainSession K). t.user) same

-- ---- a party that leaves

-- after its leave a party has left
pub has_left_now : (before after : PlainCore) (party : ℕ) → after ≡ core_after before party Leave → has_left after.journal party ≡ true
has_left_now before after party became = ap (λ (c : PlainCore). has_left c.journal party) became ∙ own_leave_leaves (entry_for before.journal party Leave) before.journal party refl refl

pub leave_grows : (before middle after : PlainCore) (party : ℕ) → GrowsBy party before middle → after ≡ core_after middle party Leave → GrowsBy party before after
leave_grows before middle after party grows became = record {
  users = ap (λ (c : PlainCore). c.users) became ∙ grows.users;
  entries = entry_for middle.journal party Leave ∷ grows.entries;
  own = All-cons (λ (e : PlainEntry). e.party ≡ party) (entry_for middle.journal party Leave) grows.entries refl grows.own;
  journal = ap (λ (c : PlainCore). c.journal) became ∙ ap (λ (j : Entries). entry_for middle.journal party Leave ∷ j) grows.journal;
}

pub grows_none : (party : ℕ) (core : PlainCore) → GrowsBy party core core
grows_none party core = record { users = refl; entries = []; own = All-nil (λ (e : PlainEntry). e.party ≡ party); journal = refl }

-- entries are not taken back
more_entries : (party : ℕ) (before after : PlainCore) → GrowsBy party before after → counted_entries before.journal ≤ counted_entries after.journal
more_entries party before after grows =
    let sum : counted_entries (grows.entries ++ before.journal) ≡ counted_entries grows.entries + counted_entries before.journal =
    sum_by-append (λ (e : PlainEntry). cond (not (is_leave e.act)) 1 0) grows.entries before.journal in
    omega (arith, sum, ap counted_entries grows.journal)

-- nothing is left to do for a user that has left
no_work : {K : Type 0} (journal : Entries) (s : PlainSession K) → has_left journal s.user ≡ true → work_with journal s ≡ (200000 - counted_entries journal) + 0
no_work journal s left = ap (λ (l : Bool). (200000 - counted_entries journal) + (if l then 0 else 1 + (length s.lines - count_by tells_full s.answers))) left

-- so a user that leaves goes on
pub leaving_goes_on : {K : Type 0} (before after : PlainCore) (s now : PlainSession K) → IsSameUser s now → GrowsBy s.user before after → has_left after.journal s.user ≡ true → GoesOn before s after now
leaving_goes_on before after s now same grows left stays =
    let there : has_left after.journal now.user ≡ true = ap (λ (u : ℕ). has_left after.journal u) (user_is s now same) ∙ left in
    let few : counted_entries before.journal ≤ counted_entries after.journal = more_entries s.user before after grows in
    inl (omega (arith, no_work after.journal now there, work_of_one before.journal s stays, few))

-- the turn of a user whose lines are done
pub leaving_turn : {K : Type 0} (replies : List ShelfReply) (before after : PlainCore) (s now : PlainSession K) → has_left before.journal s.user ≡ false → (session_of s.lines s.answers replies).waits ≡ None → after ≡ core_after before s.user Leave
    → participant_with replies now ≡ participant_with replies s → IsTurnAt replies before s after now
leaving_turn {K = K} replies before after s now present over became same =
    ap (λ (left : Bool). turn_by left (session_of s.lines s.answers replies).waits before.users before.journal (participant_with replies s)) present
    ∙ ap (λ (next : Option Act). turn_by false next before.users before.journal (participant_with replies s)) over
    ∙ ap (λ (c : PlainCore). let t : AfterTurn = record { journal = c.journal; user = participant_with replies s } in t) (sym became)
    ∙ ap (λ (u : Participant). let t : AfterTurn = record { journal = after.journal; user = u } in t) (sym same)

-- ---- a user that has left

pub gone_turn : {K : Type 0} (replies : List ShelfReply) (core : PlainCore) (s : PlainSession K) → has_left core.journal s.user ≡ true → IsTurnAt replies core s core s
gone_turn replies core s left = ap (λ (l : Bool). turn_by l (session_of s.lines s.answers replies).waits core.users core.journal (participant_with replies s)) left

-- ---- a user that stays

-- a user that has left is not looked at any more
pub left_seated : {K : Type 0} (told : K → Option (Told (ℕ × List ℕ))) (faults : K → ℕ) (journal : Entries) (s : PlainSession K) (sitting : Sitting K) → IsSameUser s sitting.seat.session → has_left journal s.user ≡ true → IsSeated told faults journal sitting
left_seated told faults journal s sitting same left stays = absurd (both_ways (has_left journal s.user) (ap (λ (u : ℕ). has_left journal u) (sym (user_is s sitting.seat.session same)) ∙ stays) left)

-- ---- what the code's leave says, for a party that is the user

pub has_left_of : (before after : PlainCore) (party user : ℕ) → party ≡ user → after ≡ core_after before party Leave → has_left after.journal user ≡ true
has_left_of before after party user is became = has_left_now before after user (became ∙ ap (λ (p : ℕ). core_after before p Leave) is)

pub leave_grows_of : (before middle after : PlainCore) (party user : ℕ) → party ≡ user → GrowsBy user before middle → after ≡ core_after middle party Leave → GrowsBy user before after
leave_grows_of before middle after party user is grows became = leave_grows before middle after user grows (became ∙ ap (λ (p : ℕ). core_after middle p Leave) is)
