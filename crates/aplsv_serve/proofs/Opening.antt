-- The parties of a run before their first turn.
use Rattle.std.proofs.Common.{◌≡◌, ℕ, ◌∷◌, true, false, eqb, List, [], map, Option, IsTrue, refl, sym, ap, ◌∙◌, subst, subst₂}
use Rattle.std.specs.List.{AllByRecursion}
use Rattle.std.specs.Prelude.{All}
use Rattle.std.proofs.lemmas.Bool.{eq-eqb, or_left, or_right}
use Rattle.std.proofs.lemmas.List.Elements.{All-from_recursion, recursion_from_All}
use Rattle.std.proofs.lemmas.Simd.{map-map}
use Rattle.apl_arrays.specs.Array.{PlainArray}
use Rattle.apl_io.specs.Content.{Told}
use Rattle.aux_parties.specs.Auxiliaries.{clock_party, party_of, text_party}
use Rattle.aux_parties.specs.declared.auxiliary.AuxiliaryKind.TheVariants as kind
use Rattle.sv_core.specs.Histories.{party_of_entry}
use Rattle.sv_events.specs.Entry.{PlainEntry}
use Rattle.sv_rules.specs.Entries.{Entries, has_left}
use Rattle.sv_rules.specs.Legal.{is_user}
use Rattle.sv_turn.specs.Journals.{places_of}
use Rattle.sv_turn.specs.declared.seat.Seat.{Seat}
use Rattle.party_turns.specs.Serving.{CameBehind, IsAtWork}
use Rattle.party_turns.specs.Sittings.{newly}
use Rattle.party_turns.specs.SoFar.{IsSameUser, IsSeated}
use Rattle.party_turns.specs.declared.auxiliary.Auxiliary.{Auxiliary}
use Rattle.party_turns.specs.declared.seat.UserSeat.{UserSeat}
use Rattle.party_turns.proofs.GivenBack.{newly_behind}
use Rattle.aplsv_serve.specs.Halls.{IsFreshSeat, IsHall, IsSeatAtStile, Stile, users_of_stile}
use Rattle.aplsv_serve.specs.Starts.{AreNewTasks, IsNewService, IsNewUser}
use Rattle.aplsv_serve.specs.Tasks.{AuxiliaryStands, PartyStands, StandsAt}
use Rattle.aplsv_serve.specs.UserTasks.{HasComeFar, UserStands}
use Rattle.aplsv_serve.specs.declared.auxiliary_task.AuxiliaryTask.{AuxiliaryTask}
use Rattle.aplsv_serve.specs.declared.hall.Hall.{Hall}
use Rattle.aplsv_serve.specs.declared.party_task.PartyTask.{PartyTask}
use Rattle.aplsv_serve.specs.declared.party_task.PartyTask.TheVariants as variant
use Rattle.aplsv_serve.specs.declared.user_task.UserTask.{UserTask}

-- a seat that was just given is its party's
fresh_seat : (stile : Stile) (party : ℕ) (seat : Seat PlainEntry) → IsFreshSeat stile seat → seat.party ≡ party → IsSeatAtStile stile party seat
fresh_seat stile party seat fresh own = record {
  belongs = fresh.belongs;
  own = own;
  places = fresh.no_places ∙ sym (ap (λ (j : Entries). places_of party_of_entry party j) fresh.nothing_known);
}

-- ---- auxiliaries

-- an auxiliary that has taken no turn is at its work
new_service : {S : Type 0} (forgets : S → ℕ → S → Type 0) (replies : S → ℕ → PlainArray → PlainArray → S → Type 0) (wants : S → ℕ → PlainArray → S → Type 0) (party : ℕ) (stile : Stile) (start : S) (task : AuxiliaryTask S) → IsNewService party start task → IsFreshSeat stile task.seat → task.seat.party ≡ party
    → AuxiliaryStands forgets replies wants party stile task
new_service {S = S} forgets replies wants party stile start task new fresh own = record {
  seat = fresh_seat stile party task.seat fresh own;
  room = λ going. fresh.room;
  at_work = subst₂ (λ (began : S) (j : Entries). IsAtWork forgets replies (users_of_stile stile) party began j task.auxiliary) (sym new.began) (sym fresh.nothing_known)
      (record {
        number = ap (λ (a : Auxiliary S). a.party) new.auxiliary;
        answered = λ here. ap (λ (a : Auxiliary S). a.replier) new.auxiliary;
        among = refl;
      });
  came = subst₂ (λ (began : S) (a : Auxiliary S). CameBehind forgets replies wants began a) (sym new.began) (sym new.auxiliary) (newly_behind forgets replies wants party start);
}

-- ---- users

module _ {K : Type 0} (told : K → Option (Told (ℕ × List ℕ))) (faults : K → ℕ) (stile : Stile) where
  -- a user that has taken no turn has come as far as that
  new_user : (task : UserTask K) → IsNewUser task → IsFreshSeat stile task.seat → task.seat.party ≡ task.user.session.user → IsSeated told faults [] (newly task.user) → IsTrue (is_user (users_of_stile stile) task.user.session.user) → UserStands told faults stile task
  new_user task new fresh own seated user = record {
    user = user;
    same = subst (λ (began : UserSeat K). IsSameUser began.session task.user.session) (sym new.began) refl;
    seat = fresh_seat stile task.user.session.user task.seat fresh own;
    room = λ going. fresh.room;
    stays = λ going. ap (λ (j : Entries). has_left j task.user.session.user) fresh.nothing_known;
    far = λ here.
        subst₂ (λ (began : UserSeat K) (j : Entries). HasComeFar told faults j began.session.shelf task.user) (sym new.began) (sym fresh.nothing_known)
        (record { exchanges = []; seated = seated; whole = λ left. absurd (let no : false ≡ true = left in cc); tells = λ left. absurd (let no : false ≡ true = left in cc) });
  }

  pub new_users : (tasks : List (UserTask K)) → AllByRecursion IsNewUser tasks → AllByRecursion (IsFreshSeat stile) (map (λ (t : UserTask K). t.seat) tasks) → map (λ (t : UserTask K). t.seat.party) tasks ≡ map (λ (t : UserTask K). t.user.session.user) tasks
      → AllByRecursion (λ (s : UserSeat K). IsSeated told faults [] (newly s)) (map (λ (t : UserTask K). t.user) tasks) → AllByRecursion (λ (number : ℕ). IsTrue (is_user (users_of_stile stile) number)) (map (λ (t : UserTask K). t.user.session.user) tasks)
      → AllByRecursion (UserStands told faults stile) tasks
  new_users [] new fresh own seated users = tt
  new_users (t ∷ tasks) new fresh own seated users =
      let first : t.seat.party ≡ t.user.session.user = cc in
      let others : map (λ (o : UserTask K). o.seat.party) tasks ≡ map (λ (o : UserTask K). o.user.session.user) tasks = cc in
      (new_user t new.0 fresh.0 first seated.0 users.0, new_users tasks new.1 fresh.1 others seated.1 users.1)

-- each of some numbers is among them
is_among : (number : ℕ) (numbers : List ℕ) → is_user (number ∷ numbers) number ≡ true
is_among number numbers = or_left (eqb number number) (is_user numbers number) (eq-eqb number number refl)

more_among : (more : ℕ) (all numbers : List ℕ) → AllByRecursion (λ (number : ℕ). IsTrue (is_user all number)) numbers → AllByRecursion (λ (number : ℕ). IsTrue (is_user (more ∷ all) number)) numbers
more_among more all [] h = tt
more_among more all (number ∷ numbers) h = (or_right (eqb more number) (is_user all number) h.0, more_among more all numbers h.1)

pub all_among : (numbers : List ℕ) → AllByRecursion (λ (number : ℕ). IsTrue (is_user numbers number)) numbers
all_among [] = tt
all_among (number ∷ numbers) = (is_among number numbers, more_among number numbers numbers (all_among numbers))

-- ---- all

module _ {X Y K G : Type 0} (forgets_ten : X → ℕ → X → Type 0) (replies_ten : X → ℕ → PlainArray → PlainArray → X → Type 0) (wants_ten : X → ℕ → PlainArray → X → Type 0)
    (forgets_twenty : Y → ℕ → Y → Type 0) (replies_twenty : Y → ℕ → PlainArray → PlainArray → Y → Type 0) (wants_twenty : Y → ℕ → PlainArray → Y → Type 0)
    (told : K → Option (Told (ℕ × List ℕ))) (faults : K → ℕ) (hall : Hall G) (is : IsHall hall) where
  -- in a hall
  in_hall : (tasks : List (PartyTask X Y K)) → AllByRecursion (StandsAt forgets_ten replies_ten wants_ten forgets_twenty replies_twenty wants_twenty told faults hall.stile) tasks
      → AllByRecursion (PartyStands forgets_ten replies_ten wants_ten forgets_twenty replies_twenty wants_twenty told faults hall) tasks
  in_hall [] h = tt
  in_hall (t ∷ tasks) h = (record { hall_is = is; stands = h.0 }, in_hall tasks h.1)

  of_users : (users : List (UserTask K)) → AllByRecursion (UserStands told faults hall.stile) users
      → AllByRecursion (StandsAt forgets_ten replies_ten wants_ten forgets_twenty replies_twenty wants_twenty told faults hall.stile) (map (λ (u : UserTask K). let t : PartyTask X Y K = variant.User u in t) users)
  of_users [] h = tt
  of_users (u ∷ users) h = (h.0, of_users users h.1)

  -- the tasks of a run stand before their first turn
  pub all_stand : (ten : X) (twenty : Y) (users : List (UserSeat K)) (seats : List (Seat PlainEntry)) (tasks : List (PartyTask X Y K)) → AreNewTasks ten twenty users seats tasks → All (IsFreshSeat hall.stile) seats
      → map (λ (s : Seat PlainEntry). s.party) seats ≡ clock_party ∷ text_party ∷ map (λ (s : UserSeat K). s.session.user) users → users_of_stile hall.stile ≡ map (λ (s : UserSeat K). s.session.user) users
      → All (λ (s : UserSeat K). IsSeated told faults [] (newly s)) users → All (PartyStands forgets_ten replies_ten wants_ten forgets_twenty replies_twenty wants_twenty told faults hall) tasks
  all_stand ten twenty users seats tasks new fresh parties numbers seated =
      let row = new.row in
      let at : AllByRecursion (IsFreshSeat hall.stile) (row.clock.seat ∷ row.files.seat ∷ map (λ (t : UserTask K). t.seat) row.users) =
      subst (λ (list : List (Seat PlainEntry)). AllByRecursion (IsFreshSeat hall.stile) list) new.at_seats (recursion_from_All (IsFreshSeat hall.stile) seats fresh) in
      let these : row.clock.seat.party ∷ row.files.seat.party ∷ map (λ (s : Seat PlainEntry). s.party) (map (λ (t : UserTask K). t.seat) row.users) ≡ clock_party ∷ text_party ∷ map (λ (s : UserSeat K). s.session.user) users =
      ap (λ (list : List (Seat PlainEntry)). map (λ (s : Seat PlainEntry). s.party) list) (sym new.at_seats) ∙ parties in
      let first : row.clock.seat.party ≡ clock_party = cc in
      let second : row.files.seat.party ≡ text_party = cc in
      let others : map (λ (s : Seat PlainEntry). s.party) (map (λ (t : UserTask K). t.seat) row.users) ≡ map (λ (s : UserSeat K). s.session.user) users = cc in
      let own : map (λ (t : UserTask K). t.seat.party) row.users ≡ map (λ (t : UserTask K). t.user.session.user) row.users =
      sym (map-map (λ (s : Seat PlainEntry). s.party) (λ (t : UserTask K). t.seat) row.users)
      ∙ others ∙ ap (λ (list : List (UserSeat K)). map (λ (s : UserSeat K). s.session.user) list) (sym new.seated) ∙ map-map (λ (s : UserSeat K). s.session.user) (λ (t : UserTask K). t.user) row.users in
      let among : AllByRecursion (λ (number : ℕ). IsTrue (is_user (users_of_stile hall.stile) number)) (map (λ (t : UserTask K). t.user.session.user) row.users) =
      subst₂ (λ (all list : List ℕ). AllByRecursion (λ (number : ℕ). IsTrue (is_user all number)) list) (sym numbers)
      (ap (λ (list : List (UserSeat K)). map (λ (s : UserSeat K). s.session.user) list) (sym new.seated) ∙ map-map (λ (s : UserSeat K). s.session.user) (λ (t : UserTask K). t.user) row.users)
      (all_among (map (λ (s : UserSeat K). s.session.user) users)) in
      let stand : AllByRecursion (UserStands told faults hall.stile) row.users =
      new_users told faults hall.stile row.users (recursion_from_All IsNewUser row.users new.each) at.1.1 own
      (subst (λ (list : List (UserSeat K)). AllByRecursion (λ (s : UserSeat K). IsSeated told faults [] (newly s)) list) (sym new.seated) (recursion_from_All (λ (s : UserSeat K). IsSeated told faults [] (newly s)) users seated)) among in
      subst (λ (list : List (PartyTask X Y K)). All (PartyStands forgets_ten replies_ten wants_ten forgets_twenty replies_twenty wants_twenty told faults hall) list) (sym row.is)
      (All-from_recursion (PartyStands forgets_ten replies_ten wants_ten forgets_twenty replies_twenty wants_twenty told faults hall) (variant.Clock row.clock ∷ variant.TextFiles row.files ∷ map (λ (u : UserTask K). variant.User u) row.users)
      (in_hall (variant.Clock row.clock ∷ variant.TextFiles row.files ∷ map (λ (u : UserTask K). variant.User u) row.users)
      (new_service forgets_ten replies_ten wants_ten (party_of kind.Clock) hall.stile ten row.clock new.clock at.0 first, (new_service forgets_twenty replies_twenty wants_twenty (party_of kind.TextFiles) hall.stile twenty row.files new.files at.1.0 second, of_users row.users stand))))
