-- Turns of all parties, one after another.
use Rattle.std.proofs.Common.{◌≡◌, ℕ, suc, Bool, true, false, eqb, List, [], ◌∷◌, ◌++◌, Option, refl, ap, ◌∙◌, append_assoc}
use Rattle.std.proofs.Math.Path.{fun_ext}
use Rattle.std.specs.List.{All}
use Rattle.std.specs.Prelude.{if◌then◌else◌}
use Rattle.apl_arrays.specs.Array.{PlainArray}
use Rattle.apl_io.specs.Content.{Told}
use Rattle.bundle_text.specs.Rules.{PlainBundle}
use Rattle.aux_parties.specs.Auxiliaries.{is_auxiliary}
use Rattle.session_rules.specs.Auxiliaries.{some_stay}
use Rattle.session_rules.specs.Run.{Dealings}
use Rattle.party_turns.specs.Participants.{users_of}
use Rattle.party_turns.specs.Seats.{seat_numbers}
use Rattle.party_turns.specs.Sittings.{EndsIn, Sitting}
use Rattle.aplsv_replay.specs.Together.{AreTogether, StayTogether, TakesTurns, TookTurns}
use Rattle.aplsv_replay.specs.declared.parties.Parties.{Parties}
use Rattle.party_turns.specs.declared.seat.UserSeat.{UserSeat}
use Rattle.replay_rules.specs.Turns.{Replay, auxiliary_turn, some_user_stays, numbers_of, ordered, party_turn, round, rounds, user_turns}

-- turns that are taken while some user stays
abbrev unless_over : (Replay → Replay) → Replay → Replay
unless_over turns replay = if some_user_stays replay then turns replay else replay

-- the numbers of users, in whatever dealings they end
pub numbers_by_participants : {K : Type 0} (final : Dealings) (seats : List (UserSeat K)) → numbers_of (users_of final seats) ≡ seat_numbers seats
numbers_by_participants final [] = refl
numbers_by_participants final (seat ∷ seats) = ap (λ (others : List ℕ). seat.session.user ∷ others) (numbers_by_participants final seats)

-- replies of some turns, of others behind them, and more
grouped : (a b more : ℕ → List PlainArray) → ◌≡◌ {A = ℕ → List PlainArray} (λ party. (a party ++ b party) ++ more party) (λ party. a party ++ (b party ++ more party))
grouped a b more = fun_ext (λ party. append_assoc (a party) (b party) (more party))

module _ {X Y K : Type 0} where
  -- the replay where the parties are, with these replies to come
  abbrev pub replay_at : Dealings → Parties X Y K → (ℕ → List PlainArray) → Replay
  replay_at final p replies = record { journal = p.core.journal; replies = replies; users = users_of final p.seats.items }

  -- some user stays
  abbrev pub stays_at : Parties X Y K → Bool
  stays_at p = some_stay (seat_numbers p.seats.items) p.core.journal

  -- so the replay goes on
  goes_at : (final : Dealings) (p : Parties X Y K) (replies : ℕ → List PlainArray) → some_user_stays (replay_at final p replies) ≡ stays_at p
  goes_at final p replies = ap (λ (numbers : List ℕ). some_stay numbers p.core.journal) (numbers_by_participants final p.seats.items)

  -- some turns and then others
  took_both : (one two : Replay → Replay) (p q r : Parties X Y K) (between nows : List (Sitting K)) → ((final : Dealings) → All (EndsIn final) nows → All (EndsIn final) between) → TookTurns one p q between → TookTurns two q r nows → TookTurns (λ replay. two (one replay)) p r nows
  took_both one two p q r between nows began a b = record {
    given = λ party. a.given party ++ b.given party;
    same = λ final ends more.
        ap two
        (ap (λ (replies : ℕ → List PlainArray). one (replay_at final p replies)) (grouped a.given b.given more)
        ∙ a.same final (began final ends) (λ party. b.given party ++ more party))
        ∙ b.same final ends more;
  }

module _ {X Y K : Type 0} (forgets_ten : X → ℕ → X → Type 0) (replies_ten : X → ℕ → PlainArray → PlainArray → X → Type 0)
    (forgets_twenty : Y → ℕ → Y → Type 0) (replies_twenty : Y → ℕ → PlainArray → PlainArray → Y → Type 0)
    (told : K → Option (Told (ℕ × List ℕ))) (faults : K → ℕ) where
  abbrev Take : (Replay → Replay) → Parties X Y K → Parties X Y K → Type 0
  Take turns p q = TakesTurns forgets_ten replies_ten forgets_twenty replies_twenty told faults turns p q

  abbrev Stay : (Replay → Replay) → PlainBundle → X → Y → List K → Parties X Y K → List (Sitting K) → Parties X Y K → Type 0
  Stay turns bundle ten twenty shelves p sittings q = StayTogether forgets_ten replies_ten forgets_twenty replies_twenty told faults turns bundle ten twenty shelves p sittings q

  abbrev Together : PlainBundle → X → Y → List K → Parties X Y K → List (Sitting K) → Type 0
  Together bundle ten twenty shelves p sittings = AreTogether forgets_ten replies_ten forgets_twenty replies_twenty told faults bundle ten twenty shelves p sittings

  -- no turn
  stay_still : (turns : Replay → Replay) (bundle : PlainBundle) (ten : X) (twenty : Y) (shelves : List K) (p : Parties X Y K) (sittings : List (Sitting K)) → Together bundle ten twenty shelves p sittings
      → ((final : Dealings) (replies : ℕ → List PlainArray) → turns (replay_at final p replies) ≡ replay_at final p replies) → Stay turns bundle ten twenty shelves p sittings p
  stay_still turns bundle ten twenty shelves p sittings h none = record {
    nows = sittings;
    together = h;
    began = λ final h. h;
    lost = λ here. here;
    took = λ here. record { given = λ party. []; same = λ final ends more. none final more };
  }

  pub takes_none : (turns : Replay → Replay) (p : Parties X Y K) → ((r : Replay) → turns r ≡ r) → Take turns p p
  takes_none turns p none bundle ten twenty shelves sittings h = stay_still turns bundle ten twenty shelves p sittings h (λ final replies. none (replay_at final p replies))

  -- turns that are said otherwise, where the parties are
  stay_same : (turns others : Replay → Replay) (bundle : PlainBundle) (ten : X) (twenty : Y) (shelves : List K) (p q : Parties X Y K) (sittings : List (Sitting K)) → ((final : Dealings) (replies : ℕ → List PlainArray) → others (replay_at final p replies) ≡ turns (replay_at final p replies)) → Stay turns bundle ten twenty shelves p sittings q
      → Stay others bundle ten twenty shelves p sittings q
  stay_same turns others bundle ten twenty shelves p q sittings same h = record {
    nows = h.nows;
    together = h.together;
    began = h.began;
    lost = h.lost;
    took = λ here. let took = h.took here in record {
      given = took.given;
      same = λ final ends more. same final (λ party. took.given party ++ more party) ∙ took.same final ends more;
    };
  }

  pub takes_same : (turns others : Replay → Replay) (p q : Parties X Y K) → ((r : Replay) → others r ≡ turns r) → Take turns p q → Take others p q
  takes_same turns others p q same h bundle ten twenty shelves sittings k = stay_same turns others bundle ten twenty shelves p q sittings (λ final replies. same (replay_at final p replies)) (h bundle ten twenty shelves sittings k)

  -- some turns and then others
  pub takes_both : (one two : Replay → Replay) (p q r : Parties X Y K) → Take one p q → Take two q r → Take (λ replay. two (one replay)) p r
  takes_both one two p q r a b bundle ten twenty shelves sittings h =
      let k = a bundle ten twenty shelves sittings h in
      let l = b bundle ten twenty shelves k.nows k.together in
      record {
        nows = l.nows;
        together = l.together;
        began = λ final ends. k.began final (l.began final ends);
        lost = λ here. k.lost (l.lost here);
        took = λ here. took_both one two p q r k.nows l.nows l.began (k.took (l.lost here)) (l.took here);
      }

  pub takes_while : (turns : Replay → Replay) (p q : Parties X Y K) → stays_at p ≡ true → Take turns p q → Take (unless_over turns) p q
  takes_while turns p q stay h bundle ten twenty shelves sittings k =
      stay_same turns (unless_over turns) bundle ten twenty shelves p q sittings
      (λ final replies. let start : Replay = replay_at final p replies in ap (λ (goes : Bool). if goes then turns start else start) (goes_at final p replies ∙ stay))
      (h bundle ten twenty shelves sittings k)

  pub takes_no_more : (turns : Replay → Replay) (p : Parties X Y K) → stays_at p ≡ false → Take (unless_over turns) p p
  takes_no_more turns p over bundle ten twenty shelves sittings h =
      stay_still (unless_over turns) bundle ten twenty shelves p sittings h
      (λ final replies. let start : Replay = replay_at final p replies in ap (λ (goes : Bool). if goes then turns start else start) (goes_at final p replies ∙ over))

  -- ---- orders

  ordered_more : (order : List ℕ) (party : ℕ) (replay : Replay) → ordered (order ++ party ∷ []) replay ≡ ordered (party ∷ []) (ordered order replay)
  ordered_more [] party replay = refl
  ordered_more (first ∷ order) party replay = ordered_more order party (if some_user_stays replay then party_turn first replay else replay)

  -- one turn more behind those of an order
  pub takes_next : (order : List ℕ) (party : ℕ) (p q r : Parties X Y K) → Take (ordered order) p q → Take (ordered (party ∷ [])) q r → Take (ordered (order ++ party ∷ [])) p r
  takes_next order party p q r so_far next =
      takes_same (λ replay. ordered (party ∷ []) (ordered order replay)) (ordered (order ++ party ∷ [])) p r (ordered_more order party) (takes_both (ordered order) (ordered (party ∷ [])) p q r so_far next)

  -- one round more behind so many
  pub takes_round : (count : ℕ) (p q r : Parties X Y K) → Take (rounds count) p q → stays_at q ≡ true → Take round q r → Take (rounds (suc count)) p r
  takes_round count p q r so_far stay next = takes_both (rounds count) (unless_over round) p q r so_far (takes_while round q r stay next)

  -- the turn of a party by its number
  pub auxiliary_is_party : (party : ℕ) (p q : Parties X Y K) → is_auxiliary party ≡ true → Take (auxiliary_turn party) p q → Take (party_turn party) p q
  auxiliary_is_party party p q is h =
      takes_same (auxiliary_turn party) (party_turn party) p q
      (λ replay. ap (λ (auxiliary : Bool). if auxiliary then auxiliary_turn party replay else user_turns (λ user. eqb user.number party) replay) is) h

  pub user_is_party : (party : ℕ) (p q : Parties X Y K) → is_auxiliary party ≡ false → Take (user_turns (λ user. eqb user.number party)) p q → Take (party_turn party) p q
  user_is_party party p q other h =
      takes_same (user_turns (λ user. eqb user.number party)) (party_turn party) p q
      (λ replay. ap (λ (auxiliary : Bool). if auxiliary then auxiliary_turn party replay else user_turns (λ user. eqb user.number party) replay) other) h
