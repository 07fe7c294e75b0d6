-- Each round leaves less to do.
use Rattle.std.proofs.Common.{◌≡◌, ◌⊎◌, ℕ, ◌+◌, ◌-◌, ◌<◌, ◌≤◌, ◌&&◌, ◌||◌, Bool, true, false, not, List, [], ◌∷◌, map, Option, inl, inr, IsTrue, refl, sym, ap, subst, ◌∙◌, arith}
use Rattle.std.specs.List.{All, AllByRecursion, list_all}
use Rattle.std.specs.Prelude.{None, is_some, sum_by}
use Rattle.std.proofs.lemmas.Bool.{and_from, and_parts, both_ways, not-true, or_left, or_parts, or_right}
use Rattle.std.proofs.lemmas.Simd.{map-map}
use Rattle.std.proofs.lemmas.List.Elements.{recursion_from_All}
use Rattle.sv_rules.specs.Limits.{most_entries}
use Rattle.sv_core.specs.Core.{PlainCore}
use Rattle.sv_events.specs.declared.work.Work.TheVariants.{Idle}
use Rattle.aux_parties.specs.Auxiliaries.{auxiliaries, party_of, auxiliary_row}
use Rattle.sv_rules.specs.Entries.{Entries, counted_entries, has_left, is_full}
use Rattle.sv_rules.specs.Legal.{is_still_held}
use Rattle.sv_rules.specs.Refused.{still_refused}
use Rattle.sv_rules.specs.Work.{is_halted, is_idle, is_stuck, rests, work_of}
use Rattle.aux_parties.specs.declared.auxiliary.AuxiliaryKind.{AuxiliaryKind}
use Rattle.aux_parties.specs.declared.auxiliary.AuxiliaryKind.TheVariants.{Clock, TextFiles}
use Rattle.aux_parties.specs.declared.auxiliary.AuxiliaryRow.{AuxiliaryRow}
use Rattle.aux_parties.proofs.TableLemmas.{all_pass, of_kinds, of_rows}
use Rattle.session_rules.specs.Auxiliaries.{some_stay}
use Rattle.apl_io.specs.Content.{Told}
use Rattle.apl_session.specs.PlainSession.{PlainSession}
use Rattle.aplsv_replay.specs.SeatTurns.{AreSeatTurns, IsHeld, has_turn, work_left}
use Rattle.party_turns.specs.Seats.{seat_numbers}
use Rattle.party_turns.specs.Sittings.{Sitting, seats_in}
use Rattle.party_turns.specs.SoFar.{user_work}
use Rattle.aplsv_replay.specs.Together.{LeavesLess, auxiliary_of, left_to_do}
use Rattle.aplsv_replay.specs.declared.parties.Parties.{Parties}
use Rattle.party_turns.specs.declared.seat.UserSeat.{UserSeat}
use Rattle.party_turns.proofs.Sits.{sum_of_seen}

-- some user is still held, in a run that does not close
record SomeHeld (closes : Bool) (core : PlainCore) : Type 0 where
  unclosed : closes ≡ false
  user : ℕ
  held : IsTrue (is_still_held core.users core.journal user)

-- who stays is held
staying_is_held : {K : Type 0} (closes : Bool) (core : PlainCore) (seats : List (UserSeat K)) → IsTrue (some_stay (seat_numbers seats) core.journal) → AllByRecursion (IsHeld true closes core) seats → SomeHeld closes core
staying_is_held closes core [] stay held = absurd (let no : false ≡ true = stay in cc)
staying_is_held closes core (seat ∷ seats) stay held = by (has_left core.journal seat.session.user) refl (λ rest. staying_is_held closes core seats rest held.1) where
  by : (left : Bool) → has_left core.journal seat.session.user ≡ left → (IsTrue (some_stay (seat_numbers seats) core.journal) → SomeHeld closes core) → SomeHeld closes core
  by true is others = others (sym (ap (λ (left : Bool). not left || some_stay (seat_numbers seats) core.journal) is) ∙ stay)
  by false is others = record { unclosed = (held.0 refl is).0; user = seat.session.user; held = (held.0 refl is).1 }

held_is_refused : (users : List ℕ) (journal : Entries) (user : ℕ) → IsTrue (is_still_held users journal user) → is_some (still_refused journal user) ≡ true
held_is_refused users journal user held =
    (and_parts (not (is_full journal)) (is_some (still_refused journal user)) (and_parts (not (is_full journal) && is_some (still_refused journal user)) (not (is_stuck users journal)) held).0).1

held_goes_on : (users : List ℕ) (journal : Entries) (user : ℕ) → IsTrue (is_still_held users journal user) → is_stuck users journal ≡ false
held_goes_on users journal user held =
    not-true (is_stuck users journal) (and_parts (not (is_full journal) && is_some (still_refused journal user)) (not (is_stuck users journal)) held).1

-- so all users have left or are refused
all_are_halted : {K : Type 0} (closes : Bool) (core : PlainCore) (seats : List (UserSeat K)) → AllByRecursion (IsHeld true closes core) seats → list_all (is_halted core.journal) (seat_numbers seats) ≡ true
all_are_halted closes core [] held = refl
all_are_halted closes core (seat ∷ seats) held =
    and_from (is_halted core.journal seat.session.user) (list_all (is_halted core.journal) (seat_numbers seats)) (by (has_left core.journal seat.session.user) refl) (all_are_halted closes core seats held.1)
  where
    by : (left : Bool) → has_left core.journal seat.session.user ≡ left → is_halted core.journal seat.session.user ≡ true
    by true is = or_left (has_left core.journal seat.session.user) (is_some (still_refused core.journal seat.session.user)) is
    by false is = or_right (has_left core.journal seat.session.user) (is_some (still_refused core.journal seat.session.user)) (held_is_refused core.users core.journal seat.session.user (held.0 refl is).1)

-- where in addition no auxiliary has work nobody can go on
all_stuck : {K : Type 0} (closes : Bool) (core : PlainCore) (seats : List (UserSeat K)) → seat_numbers seats ≡ core.users → IsTrue (some_stay core.users core.journal) → AllByRecursion (IsHeld true closes core) seats
    → AllByRecursion (λ (row : AuxiliaryRow). work_of core.journal row.party ≡ Idle) auxiliaries → is_stuck core.users core.journal ≡ true
all_stuck closes core seats numbers stay held idle =
    let halted : list_all (is_halted core.journal) core.users ≡ true = ap (λ (users : List ℕ). list_all (is_halted core.journal) users) (sym numbers) ∙ all_are_halted closes core seats held in
    and_from (some_stay core.users core.journal && list_all (is_halted core.journal) core.users) (list_all (rests core.journal) auxiliaries)
    (and_from (some_stay core.users core.journal) (list_all (is_halted core.journal) core.users) stay halted)
    (all_pass (rests core.journal) auxiliaries
    (of_rows (λ (party : ℕ). is_idle (work_of core.journal party) ≡ true) (λ kind. ap is_idle (of_kinds (λ (party : ℕ). work_of core.journal party ≡ Idle) idle kind))))

-- users that sit are held where their seats are
held_seats : {K : Type 0} (closes : Bool) (core : PlainCore) (sittings : List (Sitting K)) → AllByRecursion (λ (s : Sitting K). IsHeld true closes core s.seat) sittings → AllByRecursion (IsHeld true closes core) (seats_in sittings)
held_seats closes core [] h = tt
held_seats closes core (s ∷ sittings) h = (h.0, held_seats closes core sittings h.1)

-- the same sessions have as much left to do
same_left : {K : Type 0} (journal : Entries) (nows seats : List (UserSeat K)) (sittings : List (Sitting K)) → map (λ s. s.session) nows ≡ map (λ s. s.seat.session) sittings → seats_in sittings ≡ seats → work_left journal nows ≡ work_left journal seats
same_left {K = K} journal nows seats sittings sessions here =
    let sums : (list : List (UserSeat K)) → sum_by (λ (s : UserSeat K). user_work journal s.session) list ≡ sum_by (user_work journal) (map (λ (s : UserSeat K). s.session) list) = λ list. sym (sum_of_seen (user_work journal) (λ (s : UserSeat K). s.session) list) in
    ap (λ (n : ℕ). (most_entries - counted_entries journal) + n)
    (sums nows ∙ ap (λ (list : List (PlainSession K)). sum_by (user_work journal) list) (sessions ∙ sym (map-map (λ (s : UserSeat K). s.session) (λ (s : Sitting K). s.seat) sittings) ∙ ap (λ (list : List (UserSeat K)). map (λ (s : UserSeat K). s.session) list) here) ∙ sym (sums seats))

less_through : (a b c : ℕ) → a < b → b ≤ c → a < c
less_through a b c one two = omega arith

through_less : (a b c : ℕ) → a ≤ b → b < c → a < c
through_less a b c one two = omega arith

same_less : (a b c : ℕ) → a ≡ b → b < c → a < c
same_less a b c one two = omega arith

at_most_through : (a b c : ℕ) → a ≤ b → b ≤ c → a ≤ c
at_most_through a b c one two = omega arith

no_more : (a : ℕ) → a ≤ a
no_more a = omega arith

-- memory ran out for an auxiliary
pub record SomeLost {X Y K : Type 0} (p : Parties X Y K) : Type 0 where
  pub kind : AuxiliaryKind
  pub lost : (auxiliary_of p kind).is_lost ≡ true

-- the auxiliaries of these rows had their turns, which left less to do; or memory ran out for one; or they had no work, and nothing changed
pub record HadTurns {X Y K : Type 0} (rows : List AuxiliaryRow) (before after : Parties X Y K) : Type 0 where
  pub most : left_to_do after ≤ left_to_do before
  pub rests : (left_to_do after < left_to_do before) ⊎ (SomeLost after ⊎ ((after.core ≡ before.core) × AllByRecursion (λ (row : AuxiliaryRow). work_of after.core.journal row.party ≡ Idle) rows))

module _ {X Y K : Type 0} where
  pub no_turns : (p : Parties X Y K) → HadTurns [] p p
  no_turns p = record { most = no_more (left_to_do p); rests = inr (inr (refl, tt)) }

  -- one turn more
  pub one_turn_more : (kind : AuxiliaryKind) (rows : List AuxiliaryRow) (p q r : Parties X Y K) → HadTurns rows p q → LeavesLess (party_of kind) (auxiliary_of r kind).is_lost q r
      → ((other : AuxiliaryKind) → (auxiliary_of q other).is_lost ≡ true → (auxiliary_of r other).is_lost ≡ true) → HadTurns (auxiliary_row kind ∷ rows) p r
  one_turn_more kind rows p q r had turn stays = record {
    most = at_most_through (left_to_do r) (left_to_do q) (left_to_do p) turn.most had.most;
    rests = elim had.rests [
      | inl less ↦ inl (through_less (left_to_do r) (left_to_do q) (left_to_do p) turn.most less)
      | inr other ↦ elim other [
        | inl lost ↦ inr (inl (record { kind = lost.kind; lost = stays lost.kind lost.lost }))
        | inr idle ↦ elim turn.rests [
          | inl less ↦ inl (less_through (left_to_do r) (left_to_do q) (left_to_do p) less had.most)
          | inr another ↦ elim another [
            | inl lost ↦ inr (inl (record { kind = kind; lost = lost }))
            | inr still ↦ inr (inr (still.0 ∙ idle.0, idle_still kind rows q r still.0 still.1 idle.1))
          ]
        ]
      ]
    ];
  }
    where
      idle_still : (own : AuxiliaryKind) (others : List AuxiliaryRow) (before after : Parties X Y K) → after.core ≡ before.core → work_of before.core.journal (party_of own) ≡ Idle
          → AllByRecursion (λ (row : AuxiliaryRow). work_of before.core.journal row.party ≡ Idle) others → AllByRecursion (λ (row : AuxiliaryRow). work_of after.core.journal row.party ≡ Idle) (auxiliary_row own ∷ others)
      idle_still own others before after same now earlier =
          subst (λ (core : PlainCore). AllByRecursion (λ (row : AuxiliaryRow). work_of core.journal row.party ≡ Idle) (auxiliary_row own ∷ others)) (sym same) (now, earlier)

module _ {X Y K : Type 0} (p r s : Parties X Y K) (had : HadTurns (auxiliary_row TextFiles ∷ auxiliary_row Clock ∷ []) p r) (numbers : seat_numbers r.seats.items ≡ r.core.users) (stay : IsTrue (some_stay r.core.users r.core.journal))
    (told : K → Option (Told (ℕ × List ℕ))) (faults : K → ℕ) (sittings : List (Sitting K)) (here : seats_in sittings ≡ r.seats.items) (turns : AreSeatTurns told faults (has_turn None) (r.ten.is_lost || r.twenty.is_lost) r.core sittings s.core s.seats.items) where
  -- memory ran out for none where the run does not close
  memory_unclosed : (r.ten.is_lost || r.twenty.is_lost) ≡ false → (kind : AuxiliaryKind) → (auxiliary_of r kind).is_lost ≡ false
  memory_unclosed unclosed Clock = (or_parts r.ten.is_lost r.twenty.is_lost unclosed).0
  memory_unclosed unclosed TextFiles = (or_parts r.ten.is_lost r.twenty.is_lost unclosed).1

  -- where users only waited
  waited_less : (s.core ≡ r.core) × (map (λ seat. seat.session) s.seats.items ≡ map (λ sitting. sitting.seat.session) sittings) × All (λ sitting. IsHeld true (r.ten.is_lost || r.twenty.is_lost) r.core sitting.seat) sittings → left_to_do s < left_to_do p
  waited_less still =
      let held : AllByRecursion (IsHeld true (r.ten.is_lost || r.twenty.is_lost) r.core) r.seats.items =
      subst (λ (seats : List (UserSeat K)). AllByRecursion (IsHeld true (r.ten.is_lost || r.twenty.is_lost) r.core) seats) here (held_seats (r.ten.is_lost || r.twenty.is_lost) r.core sittings (recursion_from_All _ sittings still.2)) in
      let some : SomeHeld (r.ten.is_lost || r.twenty.is_lost) r.core = staying_is_held (r.ten.is_lost || r.twenty.is_lost) r.core r.seats.items (ap (λ (users : List ℕ). some_stay users r.core.journal) numbers ∙ stay) held in
      let as_was : left_to_do s ≡ left_to_do r = ap (λ (core : PlainCore). work_left core.journal s.seats.items) still.0 ∙ same_left r.core.journal s.seats.items r.seats.items sittings still.1 here in
      elim had.rests [
        | inl less ↦ same_less (left_to_do s) (left_to_do r) (left_to_do p) as_was less
        | inr other ↦ elim other [
          | inl lost ↦ absurd (both_ways (auxiliary_of r lost.kind).is_lost (memory_unclosed some.unclosed lost.kind) lost.lost)
          | inr idle ↦ absurd (
              let no : true ≡ false = sym (all_stuck (r.ten.is_lost || r.twenty.is_lost) r.core r.seats.items numbers stay held (idle.1.1.0, (idle.1.0, tt))) ∙ held_goes_on r.core.users r.core.journal some.user some.held in
              cc)
        ]
      ]

  pub round_leaves_less : left_to_do s < left_to_do p
  round_leaves_less = elim turns.less [
    | inl less ↦ less_through (left_to_do s) (left_to_do r) (left_to_do p) (subst (λ (seats : List (UserSeat K)). left_to_do s < work_left r.core.journal seats) here less) had.most
    | inr still ↦ waited_less still
  ]
