-- What comes of a user's session alone is one, but for the replies that no call takes.
use Rattle.std.proofs.Common.{◌≡◌, ◌≢◌, ℕ, false, List, [], ◌∷◌, ◌++◌, map, IsTrue, refl, sym, ap, ◌∙◌, subst, subst₂, append-nil}
use Rattle.std.proofs.lemmas.Bool.{both_ways}
use Rattle.std.proofs.lemmas.Option.{none-some, same_Some}
use Rattle.bundle_devices.proofs.OwnDevices.{keeper_faults, shelf_told, told_by}
use Rattle.bundle_devices.proofs.Sessions.{AreLevel, same_session}
use Rattle.bundle_devices.proofs.Shelves.{FitShelf, fit_earlier, fit_one}
use Rattle.bundle_devices.proofs.Sound.{throughout}
use Rattle.bundle_devices.specs.Devices.{empty_shelf}
use Rattle.bundle_text.specs.User.{PlainUser}
use Rattle.sv_events.specs.Answer.{PlainAnswer, full}
use Rattle.sv_events.specs.declared.event.Act.{Act}
use Rattle.sv_rules.specs.Entries.{Entries, is_full}
use Rattle.session_rules.specs.Course.{Course}
use Rattle.session_rules.specs.Session.{session_of}
use Rattle.session_rules.specs.Shelf.{Exchange}
use Rattle.check_rules.specs.Alone.{AreServed, AsksNext, ComesAlone, HasFinished, answers_given}

-- exchanges that an empty shelf has fit it
pub served_fit : (user : ℕ) (exchanges : List Exchange) → AreServed user exchanges → FitShelf told_by keeper_faults empty_shelf user exchanges
served_fit user exchanges served = record {
  start = empty_shelf;
  end = served.0;
  same = refl;
  run = served.1;
  all = throughout told_by keeper_faults user empty_shelf exchanges served.0 served.1 shelf_told;
}

-- two courses of a session alone are level
same_course : (user : PlainUser) (answers : List PlainAnswer) (c d : Course) → ComesAlone user answers c → ComesAlone user answers d → AreLevel c d
same_course user answers c d h k =
    let fits = subst (λ (x : Course). FitShelf told_by keeper_faults empty_shelf user.number x.exchanges) h.comes (served_fit user.number c.exchanges h.served) in
    let also = subst (λ (x : Course). FitShelf told_by keeper_faults empty_shelf user.number x.exchanges) k.comes (served_fit user.number d.exchanges k.served) in
    let level : AreLevel (session_of user.lines answers h.replies) (session_of user.lines answers k.replies) =
    same_session (FitShelf told_by keeper_faults empty_shelf user.number) (fit_earlier told_by keeper_faults empty_shelf user.number) (fit_one told_by keeper_faults empty_shelf user.number) user.lines answers h.replies k.replies fits also in
    subst₂ AreLevel (sym h.comes) (sym k.comes) level

-- so they wait for the same
same_waits : (user : PlainUser) (answers : List PlainAnswer) (c d : Course) → ComesAlone user answers c → ComesAlone user answers d → c.waits ≡ d.waits
same_waits user answers c d h k = sym (ap (λ (x : Course). x.waits) (same_course user answers c d h k).same)

-- one act is asked
pub one_asked : (journal : Entries) (user : PlainUser) (act other : Act) → AsksNext journal user act → AsksNext journal user other → act ≡ other
one_asked journal user act other h k = same_Some act other (sym h.asks ∙ (same_waits user (answers_given journal user.number) h.course k.course h.alone k.alone ∙ k.asks))

-- where there is room none was refused
pub none_refused : (refused : List Act) (journal : Entries) → is_full journal ≡ false → (refused ≢ [] → IsTrue (is_full journal)) → refused ≡ []
none_refused [] journal room limit = refl
none_refused (act ∷ refused) journal room limit = absurd (both_ways (is_full journal) room (limit (λ e. cc e)))

-- and a session that is over asks nothing
pub over_asks_none : (journal : Entries) (user : PlainUser) (act : Act) → is_full journal ≡ false → HasFinished journal user → AsksNext journal user act → ⊥
over_asks_none journal user act room over asks =
    let given : List PlainAnswer = answers_given journal user.number in
    let none : over.refused ≡ [] = none_refused over.refused journal room over.at_limit in
    let alone : ComesAlone user given over.course =
    subst (λ (answers : List PlainAnswer). ComesAlone user answers over.course) (ap (λ (refused : List Act). given ++ map (λ act. full) refused) none ∙ append-nil given) over.alone in
    none-some act (sym over.over ∙ (same_waits user given over.course asks.course alone asks.alone ∙ asks.asks))
