-- Turns of an auxiliary as those of a replay, and what they leave to do.
use Rattle.std.proofs.Common.{◌≡◌, ℕ, ◌<◌, ◌≤◌, ◌-◌, ◌+◌, ◌⊎◌, Bool, true, false, not, cond, eqb, leb, List, [], ◌∷◌, ◌++◌, Option, IsTrue, inl, inr, refl, sym, ap, ap₂, subst, ◌∙◌, arith}
use Rattle.std.proofs.Math.Path.{fun_ext}
use Rattle.std.specs.Prelude.{◌==◌, sum_by, if◌then◌else◌}
use Rattle.std.proofs.lemmas.Bool.{eq-eqb, eqb-true, leb-false, or_parts}
use Rattle.std.proofs.lemmas.List.Sums.{sum_by-cons}
use Rattle.apl_arrays.specs.Array.{PlainArray}
use Rattle.sv_rules.specs.Limits.{most_entries, most_journal_elements}
use Rattle.apl_io.specs.Content.{Told}
use Rattle.sv_core.specs.Core.{PlainCore}
use Rattle.sv_events.specs.Entry.{PlainEntry}
use Rattle.sv_events.specs.declared.event.Act.{Act}
use Rattle.sv_events.specs.declared.work.Work.{Work}
use Rattle.sv_events.specs.declared.work.Work.TheVariants as work
use Rattle.aux_parties.specs.Auxiliaries.{party_of}
use Rattle.sv_rules.specs.Entries.{Entries, counted_entries, held_elements, is_full, is_leave}
use Rattle.sv_rules.specs.Legal.{entry_for, journal_after}
use Rattle.sv_rules.specs.Work.{work_of}
use Rattle.aux_parties.specs.declared.auxiliary.AuxiliaryKind.{AuxiliaryKind}
use Rattle.session_rules.specs.Auxiliaries.{some_stay}
use Rattle.session_rules.specs.Behind.{Behind, forgets_of, replies_of}
use Rattle.party_turns.specs.Participants.{users_of}
use Rattle.aplsv_replay.specs.SeatTurns.{work_left}
use Rattle.party_turns.specs.Sittings.{Sitting}
use Rattle.party_turns.specs.SoFar.{GrowsBy, HasAnswered, IsIdleIf, IsServed, user_work}
use Rattle.aplsv_replay.specs.Together.{LeavesLess, TakesTurns, TookTurns, auxiliary_of}
use Rattle.party_turns.specs.declared.auxiliary.Auxiliary.{Auxiliary}
use Rattle.aplsv_replay.specs.declared.parties.Parties.{Parties}
use Rattle.party_turns.specs.declared.seat.UserSeat.{UserSeat}
use Rattle.replay_rules.specs.Turns.{Participant, Replay, AfterAuxiliaryTurn, auxiliary_turn, served, served_by, with_left}
use Rattle.aplsv_replay.proofs.AllTogether.{auxiliary_keeps}
use Rattle.party_turns.proofs.Growth.{counted_grows}
use Rattle.aplsv_replay.proofs.KindLemmas.{had_memory, is_changed, memory_of, memory_of_all, memory_of_users, stays_lost, with_auxiliary}
use Rattle.aplsv_replay.proofs.SeatTurns.{not_lost_before}

-- ---- as turns of a replay

abbrev replay_of : Entries → (ℕ → List PlainArray) → List Participant → Replay
replay_of journal replies users = record { journal = journal; replies = replies; users = users }

-- what a party gave, and no other
abbrev given_by : ℕ → List PlainArray → ℕ → List PlainArray
given_by party made other = if other == party then made else []

-- comes first of its replies
own_first : (party : ℕ) (made : List PlainArray) (more : ℕ → List PlainArray) → given_by party made party ++ more party ≡ made ++ more party
own_first party made more = ap (λ (own : Bool). (if own then made else []) ++ more party) (eq-eqb party party refl)

-- and the rest is left then
left_then : (party : ℕ) (made : List PlainArray) (more : ℕ → List PlainArray) → ◌≡◌ {A = ℕ → List PlainArray} (with_left party (more party) (λ other. given_by party made other ++ more other)) more
left_then party made more = fun_ext (λ other. by other (eqb other party) refl) where
  by : (other : ℕ) (own : Bool) → eqb other party ≡ own → with_left party (more party) (λ number. given_by party made number ++ more number) other ≡ more other
  by other true is = ap (λ (own : Bool). if own then more party else ((if own then made else []) ++ more other)) is ∙ ap more (sym (eqb-true other party is))
  by other false is = ap (λ (own : Bool). if own then more party else ((if own then made else []) ++ more other)) is

-- a replay of which an auxiliary was served
abbrev after_serving : ℕ → (ℕ → List PlainArray) → List Participant → AfterAuxiliaryTurn → Replay
after_serving party replies users s = replay_of s.journal (with_left party s.replies replies) users

-- where a party was served, it had its turn
had_turn : (party : ℕ) (before after : Entries) (users : List Participant) (h : IsServed party before after) (more : ℕ → List PlainArray)
    → auxiliary_turn party (replay_of before (λ other. given_by party h.made other ++ more other) users) ≡ replay_of after more users
had_turn party before after users h more =
    let replies : ℕ → List PlainArray = λ other. given_by party h.made other ++ more other in
    ap (λ (list : List PlainArray). after_serving party replies users (served before party list)) (own_first party h.made more)
    ∙ ap (λ (s : AfterAuxiliaryTurn). after_serving party replies users s) (h.turn (more party))
    ∙ ap (λ (left : ℕ → List PlainArray). replay_of after left users) (left_then party h.made more)

module _ {X Y K : Type 0} (p : Parties X Y K) (after : PlainCore) (sittings : List (Sitting K)) where
  took_auxiliary : (kind : AuxiliaryKind) (aux : Auxiliary (Behind X Y kind)) → IsServed (party_of kind) p.core.journal after.journal → TookTurns (auxiliary_turn (party_of kind)) p (with_auxiliary p after kind aux) sittings
  took_auxiliary kind aux h = record {
    given = given_by (party_of kind) h.made;
    same = λ final ends more. had_turn (party_of kind) p.core.journal after.journal (users_of final p.seats.items) h more;
  }

module _ {X Y K : Type 0} (forgets_ten : X → ℕ → X → Type 0) (replies_ten : X → ℕ → PlainArray → PlainArray → X → Type 0)
    (forgets_twenty : Y → ℕ → Y → Type 0) (replies_twenty : Y → ℕ → PlainArray → PlainArray → Y → Type 0) (told : K → Option (Told (ℕ × List ℕ))) (faults : K → ℕ)
    (p : Parties X Y K) (after : PlainCore) (stay : IsTrue (some_stay p.core.users p.core.journal)) where
  pub takes_auxiliary : (kind : AuxiliaryKind) (aux : Auxiliary (Behind X Y kind)) → aux.party ≡ (auxiliary_of p kind).party → GrowsBy (auxiliary_of p kind).party p.core after
      → (aux.is_lost ≡ false → (start : Behind X Y kind) → HasAnswered (forgets_of forgets_ten forgets_twenty kind) (replies_of replies_ten replies_twenty kind) start p.core.journal (auxiliary_of p kind)
      → HasAnswered (forgets_of forgets_ten forgets_twenty kind) (replies_of replies_ten replies_twenty kind) start after.journal aux)
      → ((auxiliary_of p kind).is_lost ≡ true → (aux ≡ auxiliary_of p kind) × (after ≡ p.core)) → (aux.is_lost ≡ false → IsServed (auxiliary_of p kind).party p.core.journal after.journal)
      → TakesTurns forgets_ten replies_ten forgets_twenty replies_twenty told faults (auxiliary_turn (party_of kind)) p (with_auxiliary p after kind aux)
  takes_auxiliary kind aux party grows answered lost turn bundle ten twenty shelves sittings h = record {
    nows = sittings;
    together = auxiliary_keeps forgets_ten replies_ten forgets_twenty replies_twenty told faults bundle ten twenty shelves p sittings h kind after aux party grows answered lost stay;
    began = λ final ends. ends;
    lost = λ here. memory_of_all p (had_memory p after kind aux before (memory_of (with_auxiliary p after kind aux) here)) (memory_of_users (with_auxiliary p after kind aux) here);
    took = λ here.
        let memory : aux.is_lost ≡ false = ap (λ (a : Auxiliary (Behind X Y kind)). a.is_lost) (sym (is_changed p after kind aux)) ∙ memory_of (with_auxiliary p after kind aux) here kind in
        took_auxiliary p after sittings kind aux (subst (λ (number : ℕ). IsServed number p.core.journal after.journal) (h.at_work kind).number (turn memory));
  }
    where
      before : aux.is_lost ≡ false → (auxiliary_of p kind).is_lost ≡ false
      before here = not_lost_before (auxiliary_of p kind).is_lost aux.is_lost (λ was. ap (λ (a : Auxiliary (Behind X Y kind)). a.is_lost) (lost was).0 ∙ was) here

module _ {X Y K : Type 0} (p : Parties X Y K) (after : PlainCore) where
  -- memory that ran out before stays so
  pub lost_still : (kind : AuxiliaryKind) (aux : Auxiliary (Behind X Y kind)) → ((auxiliary_of p kind).is_lost ≡ true → (aux ≡ auxiliary_of p kind) × (after ≡ p.core))
      → (other : AuxiliaryKind) → (auxiliary_of p other).is_lost ≡ true → (auxiliary_of (with_auxiliary p after kind aux) other).is_lost ≡ true
  lost_still kind aux lost other was = stays_lost p after kind aux (λ own. ap (λ (a : Auxiliary (Behind X Y kind)). a.is_lost) (lost own).0 ∙ own) other was

-- ---- what they leave to do

-- an entry that counts was added where one could be, or none was
abbrev Adds : Entries → Entries → Type 0
Adds before after = ((counted_entries after ≡ 1 + counted_entries before) × (counted_entries before < most_entries)) ⊎ (after ≡ before)

room_left : (journal : Entries) → is_full journal ≡ false → counted_entries journal < most_entries
room_left journal room = leb-false most_entries (counted_entries journal) (or_parts (leb most_entries (counted_entries journal)) (leb most_journal_elements (held_elements journal)) room).0

one_counted : (e : PlainEntry) (journal : Entries) → is_leave e.act ≡ false → counted_entries (e ∷ journal) ≡ 1 + counted_entries journal
one_counted e journal stays =
    sum_by-cons (λ (o : PlainEntry). cond (not (is_leave o.act)) 1 0) e journal ∙ ap (λ (leaves : Bool). cond (not leaves) 1 0 + counted_entries journal) stays

act_adds : (journal : Entries) (party : ℕ) (act : Act) → is_leave act ≡ false → Adds journal (journal_after journal party act)
act_adds journal party act stays = by (is_full journal) refl where
  by : (at_limit : Bool) → is_full journal ≡ at_limit → Adds journal (journal_after journal party act)
  by true is = inr (ap (λ (full : Bool). cond full journal (entry_for journal party act ∷ journal)) is)
  by false is =
      let now : journal_after journal party act ≡ entry_for journal party act ∷ journal = ap (λ (full : Bool). cond full journal (entry_for journal party act ∷ journal)) is in
      inl (ap counted_entries now ∙ one_counted (entry_for journal party act) journal stays, room_left journal is)

work_adds : (journal : Entries) (party : ℕ) (replies : List PlainArray) (due : Work) → Adds journal (served_by journal party replies due).journal
work_adds journal party [] work.Idle = inr refl
work_adds journal party [] (work.Retract local) = act_adds journal party _ refl
work_adds journal party [] (work.Control local) = act_adds journal party _ refl
work_adds journal party [] (work.Reply local) = inr refl
work_adds journal party [] (work.Counter to surrogate) = act_adds journal party _ refl
work_adds journal party [] (work.Use local) = act_adds journal party _ refl
work_adds journal party (reply ∷ replies) work.Idle = inr refl
work_adds journal party (reply ∷ replies) (work.Retract local) = act_adds journal party _ refl
work_adds journal party (reply ∷ replies) (work.Control local) = act_adds journal party _ refl
work_adds journal party (reply ∷ replies) (work.Reply local) = act_adds journal party _ refl
work_adds journal party (reply ∷ replies) (work.Counter to surrogate) = act_adds journal party _ refl
work_adds journal party (reply ∷ replies) (work.Use local) = act_adds journal party _ refl

served_adds : (party : ℕ) (before after : Entries) → IsServed party before after → Adds before after
served_adds party before after h =
    subst (λ (journal : Entries). Adds before journal) (ap (λ (s : AfterAuxiliaryTurn). s.journal) (h.turn [])) (work_adds before party (h.made ++ []) (work_of before party))

no_more : (limit small large sum other : ℕ) → small ≤ large → other ≡ sum → (limit - large) + other ≤ (limit - small) + sum
no_more limit small large sum other le same = omega arith

one_less : (limit small large sum other : ℕ) → large ≡ 1 + small → small < limit → other ≡ sum → (limit - large) + other < (limit - small) + sum
one_less limit small large sum other more room same = omega arith

module _ {K : Type 0} (party : ℕ) (before after : PlainCore) (seats : List (UserSeat K)) (grows : GrowsBy party before after) (same_work : sum_by (λ (seat : UserSeat K). user_work after.journal seat.session) seats ≡ sum_by (λ (seat : UserSeat K). user_work before.journal seat.session) seats) where
  pub at_most : work_left after.journal seats ≤ work_left before.journal seats
  at_most =
      no_more most_entries (counted_entries before.journal) (counted_entries after.journal) _ _
      (subst (λ (journal : Entries). counted_entries before.journal ≤ counted_entries journal) (sym grows.journal) (counted_grows grows.entries before.journal)) same_work

  pub rests_or_less : (lost : Bool) → (lost ≡ false → IsServed party before.journal after.journal) → (lost ≡ false → IsIdleIf party before.journal after.journal)
      → (work_left after.journal seats < work_left before.journal seats) ⊎ ((lost ≡ true) ⊎ ((after ≡ before) × (work_of before.journal party ≡ work.Idle)))
  rests_or_less true turn idle = inr (inl refl)
  rests_or_less false turn idle = elim (served_adds party before.journal after.journal (turn refl)) [
    | inl more ↦ inl (one_less most_entries (counted_entries before.journal) (counted_entries after.journal) _ _ more.0 more.1 same_work)
    | inr same ↦ inr (inr (ap₂ (λ (list : List ℕ) (journal : Entries). record { users = list; journal = journal }) grows.users same, idle refl same))
  ]

module _ {X Y K : Type 0} (p : Parties X Y K) (after : PlainCore) where
  pub auxiliary_leaves_less : (kind : AuxiliaryKind) (aux : Auxiliary (Behind X Y kind)) → (auxiliary_of p kind).party ≡ party_of kind → GrowsBy (auxiliary_of p kind).party p.core after
      → sum_by (λ (seat : UserSeat K). user_work after.journal seat.session) p.seats.items ≡ sum_by (λ (seat : UserSeat K). user_work p.core.journal seat.session) p.seats.items
      → (aux.is_lost ≡ false → IsServed (auxiliary_of p kind).party p.core.journal after.journal) → (aux.is_lost ≡ false → IsIdleIf (auxiliary_of p kind).party p.core.journal after.journal)
      → LeavesLess (party_of kind) aux.is_lost p (with_auxiliary p after kind aux)
  auxiliary_leaves_less kind aux number grows same turn idle =
      subst (λ (party : ℕ). LeavesLess party aux.is_lost p (with_auxiliary p after kind aux)) number
      (record {
        most = at_most (auxiliary_of p kind).party p.core after p.seats.items grows same;
        rests = rests_or_less (auxiliary_of p kind).party p.core after p.seats.items grows same aux.is_lost turn idle;
        seats = refl;
      })
