-- A user whose lines were given no answer yet.
use Rattle.std.proofs.Common.{◌≡◌, ℕ, ◌++◌, List, [], Option, false, refl, sym, subst}
use Rattle.apl_io.specs.Content.{Told}
use Rattle.session_rules.specs.Shelf.{shelf_replies_in}
use Rattle.session_rules.proofs.Taking.{none_asked}
use Rattle.apl_session.specs.PlainSession.{HasCome, PlainSession}
use Rattle.apl_session.specs.declared.session.SessionStage.TheVariants as stage
use Rattle.party_turns.specs.Sittings.{Sitting}
use Rattle.party_turns.specs.SoFar.{IsSeated}
use Rattle.party_turns.specs.declared.seat.UserSeat.{UserSeat}

-- is so far in a journal without entries, and its shelf was not called
pub newcomer_is_seated : {K : Type 0} (told : K → Option (Told (ℕ × List ℕ))) (faults : K → ℕ) (user : ℕ) (lines : List (List ℕ)) (shelf : K) (session : PlainSession K) (seat : UserSeat K) → HasCome told faults shelf [] session
    → session ≡ record { user = user; lines = lines; acts = []; answers = []; stage = stage.Ready; shelf = shelf; inside = session.inside } → seat ≡ (let s : UserSeat K = record { session = session; is_lost = false } in s)
    → (let s : Sitting K = record { seat = seat; lent = shelf; exchanges = [] } in IsSeated told faults [] s)
newcomer_is_seated {K = K} told faults user lines shelf session seat come begins is =
    subst (λ (s : UserSeat K). let t : Sitting K = record { seat = s; lent = shelf; exchanges = [] } in IsSeated told faults [] t) (sym is)
    (subst (λ (s : PlainSession K). let t : Sitting K = record { seat = record { session = s; is_lost = false }; lent = shelf; exchanges = [] } in HasCome told faults shelf [] s → IsSeated told faults [] t) (sym begins)
    (λ there stays. record {
      here = refl;
      come = there;
      so_far = λ more. record {
        refused = [];
        answers = refl;
        acts = none_asked lines (shelf_replies_in [] ++ more);
        at_limit = λ some. absurd (some refl);
        waited = tt;
        going = λ going. absurd cc;
      };
    }) come)
