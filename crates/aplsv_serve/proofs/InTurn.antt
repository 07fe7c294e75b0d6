-- A seat in its turn: what it finds, and what it has behind it.
use Rattle.std.proofs.Common.{◌≡◌, ℕ, ◌∷◌, ◌++◌, true, false, List, [], length, Option, Some, None, IsTrue, refl, sym, ap, ◌∙◌, subst}
use Rattle.std.specs.Prelude.{IfSome}
use Rattle.apl_io.specs.Content.{Told}
use Rattle.sv_core.specs.Core.{ArePeople, PlainCore}
use Rattle.sv_core.specs.Histories.{members_of, party_of_entry}
use Rattle.sv_events.specs.Answer.{PlainAnswer}
use Rattle.sv_events.specs.Entry.{PlainEntry}
use Rattle.sv_rules.specs.Entries.{Entries, has_left}
use Rattle.sv_rules.specs.Legal.{is_user}
use Rattle.sv_turn.specs.Journals.{Begins, places_of}
use Rattle.sv_turn.specs.Seating.{BelongsTo, known_of}
use Rattle.sv_turn.specs.declared.seat.Seat.{Seat}
use Rattle.sv_turn.specs.declared.view.View.{View}
use Rattle.session_rules.specs.Shelf.{Exchange}
use Rattle.apl_session.specs.PlainSession.{HasCome, PlainSession}
use Rattle.party_turns.specs.Entering.{Brings, IsOneMore, IsReady}
use Rattle.party_turns.specs.declared.intent.Intent.{Intent}
use Rattle.party_turns.specs.declared.seat.UserSeat.{UserSeat}
use Rattle.aplsv_serve.specs.Halls.{IsHall, IsSeatAtStile, Stile, users_of_stile}
use Rattle.aplsv_serve.specs.UserTasks.{IsAboutTo, WillHaveComeFar, goes_on}
use Rattle.aplsv_serve.specs.declared.hall.Hall.{Hall}
use Rattle.aplsv_serve.proofs.Knowing.{IsKnown, about_since, is_known, left_since}
use Rattle.aplsv_serve.proofs.UserTurns.{goes_and_stays, place_added, will_come}

-- ---- what it finds

module _ (stile : Stile) (party : ℕ) (seat : Seat PlainEntry) (core : PlainCore) (at : IsSeatAtStile stile party seat) (begins : Begins (known_of seat) core.journal) (mine : seat.mine.items ≡ places_of party_of_entry seat.party core.journal) where
  -- the journal has no entry of the party that its seat does not know
  pub known_then : IsKnown party (known_of seat) core.journal
  known_then = is_known party (known_of seat) core.journal begins (sym at.places ∙ (mine ∙ ap (λ (n : ℕ). places_of party_of_entry n core.journal) at.own))

  -- who had not left has not left
  pub stays_then : has_left (known_of seat) party ≡ false → has_left core.journal party ≡ false
  stays_then stays = left_since party (known_of seat) core.journal known_then ∙ stays

-- the processor has the users of its turnstile
pub people_then : {G : Type 0} (hall : Hall G) (core : PlainCore) → core.users ≡ users_of_stile hall.stile → IsHall hall → ArePeople core.users
people_then hall core same is = subst (λ (users : List ℕ). ArePeople users) (sym same) is.people

pub user_then : (stile : Stile) (user : ℕ) (core : PlainCore) → core.users ≡ users_of_stile stile → IsTrue (is_user (users_of_stile stile) user) → IsTrue (is_user core.users user)
user_then stile user core same is = subst (λ (users : List ℕ). IsTrue (is_user users user)) (sym same) is

module _ {K : Type 0} (told : K → Option (Told (ℕ × List ℕ))) (faults : K → ℕ) (known journal : Entries) (lent : K) (user : UserSeat K) (k : IsKnown user.session.user known journal) where
  -- what it is about to do, if anything, it may do
  pub ready_then : (about : Option Intent) → IfSome about (λ intent. IsAboutTo told faults known lent user intent) → IfSome about (λ intent. (exchanges : List Exchange) × IsReady journal exchanges intent user.session)
  ready_then None h = tt
  ready_then (Some intent) h = let then = about_since told faults known journal lent user k intent h in (then.exchanges, then.ready)

-- ---- what it has behind it

module _ (stile : Stile) (party : ℕ) (old new : Seat PlainEntry) (view : View PlainEntry) (at : IsSeatAtStile stile party old) (same : new.party ≡ old.party)
    (here : new.badge.views ≡ view ∷ []) (table_is : new.badge.table_id ≡ stile.table.shared.table_id) (members_are : view.members ≡ users_of_stile stile) where
  belongs_still : BelongsTo members_of stile new
  belongs_still = record { view = view; here = here; table_is = table_is; members_are = members_are }

  -- where it made an entry
  pub seat_entered : (before after : PlainCore) → IsOneMore party before after → old.mine.items ≡ places_of party_of_entry old.party before.journal → new.mine.items ≡ old.mine.items ++ length after.journal ∷ [] → known_of new ≡ after.journal → IsSeatAtStile stile party new
  seat_entered before after one mine more known = record {
    belongs = belongs_still;
    own = same ∙ at.own;
    places =
        more ∙ (place_added party old.party before after old.mine.items at.own one (mine ∙ ap (λ (n : ℕ). places_of party_of_entry n before.journal) at.own)
        ∙ ap (λ (j : Entries). places_of party_of_entry party j) (sym known));
  }

  -- where it made none
  pub seat_rested : (journal : Entries) → old.mine.items ≡ places_of party_of_entry old.party journal → new.mine.items ≡ old.mine.items → known_of new ≡ journal → IsSeatAtStile stile party new
  seat_rested journal mine kept known = record {
    belongs = belongs_still;
    own = same ∙ at.own;
    places = kept ∙ (mine ∙ (ap (λ (n : ℕ). places_of party_of_entry n journal) at.own ∙ ap (λ (j : Entries). places_of party_of_entry party j) (sym known)));
  }

-- ---- a user

module _ {K : Type 0} (told : K → Option (Told (ℕ × List ℕ))) (faults : K → ℕ) (known : Entries) (before after : PlainCore) (lent : K) (user then : UserSeat K) (same : then.session ≡ user.session) (k : IsKnown user.session.user known before.journal) where
  about_again : (journal : Entries) (intent : Intent) → IsAboutTo told faults journal lent user intent → IsAboutTo told faults journal lent then intent
  about_again journal intent h = record {
    exchanges = h.exchanges;
    come = subst (λ (s : PlainSession K). HasCome told faults lent h.exchanges s) (sym same) h.come;
    ready = subst (λ (s : PlainSession K). IsReady journal h.exchanges intent s) (sym same) h.ready;
  }

  -- it will have come far where memory did not run out for it
  pub will_come_then : (about : Option Intent) (answer : Option PlainAnswer) (journal : Entries) → journal ≡ after.journal → (about ≡ None → then.is_lost ≡ true) → then.is_lost ≡ false → IfSome about (λ intent. IsAboutTo told faults known lent user intent)
      → IfSome about (λ intent. (exchanges : List Exchange) → IsReady before.journal exchanges intent user.session → Brings before exchanges user.session intent after answer) → WillHaveComeFar told faults journal lent then answer
  unfolding about_again
  will_come_then None answer journal is nothing here h brings = absurd (let no : true ≡ false = sym (nothing refl) ∙ here in cc)
  will_come_then (Some intent) answer journal is nothing here h brings =
      let at = about_since told faults known before.journal lent user k intent h in
      subst (λ (j : Entries). WillHaveComeFar told faults j lent then answer) (sym is)
      (will_come told faults before after lent then intent answer (about_again before.journal intent at)
      (subst (λ (s : PlainSession K). Brings before at.exchanges s intent after answer) (sym same) (brings at.exchanges at.ready)))

  -- and where it goes on it has not left
  pub goes_then : (about : Option Intent) (answer : Option PlainAnswer) (journal : Entries) → journal ≡ after.journal → IfSome about (λ intent. IsAboutTo told faults known lent user intent)
      → IfSome about (λ intent. (exchanges : List Exchange) → IsReady before.journal exchanges intent user.session → Brings before exchanges user.session intent after answer)
      → IfSome about (λ intent. goes_on intent ≡ true → has_left journal user.session.user ≡ false)
  goes_then None answer journal is h brings = tt
  goes_then (Some intent) answer journal is h brings = λ goes.
      let at = about_since told faults known before.journal lent user k intent h in
      ap (λ (j : Entries). has_left j user.session.user) is ∙ goes_and_stays told faults before after at.exchanges user.session intent answer goes (brings at.exchanges at.ready)
