-- Some turns of a user, one behind the other, up to its next entry.
use Rattle.std.proofs.Common.{◌≡◌, ℕ, ◌<◌, ◌&&◌, Bool, true, false, not, List, refl, sym, ap, ◌∙◌, subst, arith}
use Rattle.std.proofs.lemmas.Bool.{false≢true}
use Rattle.apl_io.specs.Kept.{Keeper}
use Rattle.bundle_text.specs.User.{PlainUser}
use Rattle.party_turns.specs.SoFar.{work_with}
use Rattle.party_turns.specs.declared.seat.UserSeat.{UserSeat}
use Rattle.sv_core.specs.Core.{PlainCore}
use Rattle.sv_rules.specs.Entries.{Entries, has_left, is_full}
use Rattle.aplsv_check.specs.Followed.{EndedTurns, IsSeatOf, IsWhereItWas, NoneIsNext, TookTurn, TookTurns, TurnedOn, turns_left}

-- ---- the first turn

pub first_turn : (user : PlainUser) (before after : PlainCore) (seat now : UserSeat (Keeper (ℕ × List ℕ))) (made : Bool) → TookTurn user before seat made after now → TookTurns user before made after now
first_turn user before after seat now true turned = turned
first_turn user before after seat now false stood = record { same = stood.same; seated = stood.seated; none = stood.none }

-- ---- a further one

-- it goes on where no entry was made, in a full journal
none_made : (made limit : Bool) → (not made && limit) ≡ true → made ≡ false
none_made true limit on = absurd (false≢true on)
none_made false limit on = refl

full_then : (made limit : Bool) → (not made && limit) ≡ true → limit ≡ true
full_then true limit on = absurd (false≢true on)
full_then false limit on = on

-- the user is where it was
pub stays_here : (user : PlainUser) (before core : PlainCore) (seat : UserSeat (Keeper (ℕ × List ℕ))) (made : Bool) → (not made && is_full core.journal) ≡ true → TookTurns user before made core seat → IsWhereItWas user before core seat
stays_here user before core seat made on turns = subst (λ (b : Bool). TookTurns user before b core seat) (none_made made (is_full core.journal) on) turns

-- and has its seat there
pub seated_here : (user : PlainUser) (before core : PlainCore) (seat : UserSeat (Keeper (ℕ × List ℕ))) → IsWhereItWas user before core seat → IsSeatOf core.journal user seat
seated_here user before core seat was = subst (λ (c : PlainCore). IsSeatOf c.journal user seat) (sym was.same) was.seated

-- of the same number
pub same_number : (journal other : Entries) (user : PlainUser) (seat now : UserSeat (Keeper (ℕ × List ℕ))) → IsSeatOf journal user seat → IsSeatOf other user now → now.session.user ≡ seat.session.user
same_number journal other user seat now one two = ap (λ (u : PlainUser). u.number) (two.same ∙ sym one.same)

pub more_turns : (user : PlainUser) (before core after : PlainCore) (seat now : UserSeat (Keeper (ℕ × List ℕ))) (made : Bool) → IsWhereItWas user before core seat → TookTurn user core seat made after now → TookTurns user before made after now
more_turns user before core after seat now true was turned = subst (λ (c : PlainCore). TurnedOn user c after now) was.same turned
more_turns user before core after seat now false was stood = record {
  same = stood.same ∙ was.same;
  seated = subst (λ (c : PlainCore). IsSeatOf c.journal user now) was.same stood.seated;
  none = was.none;
}

-- and less is left for it
pub less_left : (user : PlainUser) (core after : PlainCore) (seat now : UserSeat (Keeper (ℕ × List ℕ))) (made made_then : Bool) → (not made && is_full core.journal) ≡ true → TookTurn user core seat made_then after now → turns_left made_then after now < turns_left made core seat
less_left user core after seat now true made_then on turn = absurd (false≢true on)
less_left user core after seat now false true on turned = omega arith
less_left user core after seat now false false on stood =
    let less : work_with core.journal now.session < work_with core.journal seat.session = stood.less on in
    let same : work_with after.journal now.session ≡ work_with core.journal now.session = ap (λ (c : PlainCore). work_with c.journal now.session) stood.same in
    omega arith

-- ---- the end

pub ended_turns : (user : PlainUser) (before after : PlainCore) (now : UserSeat (Keeper (ℕ × List ℕ))) (made : Bool) → (not made && is_full after.journal) ≡ false → TookTurns user before made after now → EndedTurns user before made after now
ended_turns user before after now true over turned = turned
ended_turns user before after now false over was = was.none (ap (λ (c : PlainCore). is_full c.journal) (sym was.same) ∙ over)

-- a user that has left makes none
pub gone_makes_none : (user : PlainUser) (core : PlainCore) (number : ℕ) → number ≡ user.number → has_left core.journal number ≡ true → NoneIsNext user core
gone_makes_none user core number is gone = λ e own may does.
    let left : has_left core.journal e.party ≡ true = ap (λ (p : ℕ). has_left core.journal p) (own ∙ sym is) ∙ gone in
    false≢true (sym (ap not left) ∙ may.present)
