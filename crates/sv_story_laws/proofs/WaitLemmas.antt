-- Who waits, who may act, and where nobody can go on.
use Rattle.std.proofs.Common.{◌≡◌, refl, sym, ap, ◌∙◌, subst, ℕ, Bool, true, false, ◌&&◌, not, eqb, List, [], ◌∷◌, ◌++◌, Some, None, ◌⊎◌, inl, inr, arith}
use Rattle.std.specs.Prelude.{◌↔◌, Contains, IsTrue, is_some}
use Rattle.std.specs.List.{list_any, list_all}
use Rattle.std.proofs.lemmas.Bool.{eqb-true, eqb-false, eq-eqb, ne_eqb, cases_Bool, and_parts, and_from, or_cases, or_left, or_right, not-true, not_from_false, both_ways}
use Rattle.std.proofs.lemmas.List.Folds.{Any-from_list_any}
use Rattle.std.proofs.lemmas.Option.{cond_some, none-some, same_Some}
use Rattle.std.proofs.lemmas.List.Elements.{All-nil, All-cons, All-head, All-tail}
use Rattle.sv_events.specs.Answer.{PlainAnswer, held}
use Rattle.sv_events.specs.Entry.{PlainEntry}
use Rattle.sv_events.specs.declared.event.Act.{Act}
use Rattle.sv_events.specs.declared.event.Act.TheVariants.{Leave}
use Rattle.sv_events.specs.declared.event.Hold.{Hold}
use Rattle.sv_events.specs.declared.work.Work.{Work}
use Rattle.sv_events.specs.declared.work.Work.TheVariants as work
use Rattle.aux_parties.specs.Auxiliaries.{auxiliaries, is_auxiliary, party_of}
use Rattle.sv_rules.specs.Entries.{Entries, next_place, has_left, is_leave, kind_of, is_held}
use Rattle.sv_rules.specs.Legal.{IsLegal, act_due, act_for, may_do, is_user}
use Rattle.sv_rules.specs.Refused.{awaited, still_refused}
use Rattle.sv_rules.specs.Work.{is_halted, is_idle, is_stuck, rests, work_of}
use Rattle.aux_parties.proofs.TableLemmas.{all_pass, each_passes, of_kinds, of_rows}
use Rattle.sv_story_laws.specs.WaitLaws.{HasNone, IsStuck}
use Rattle.sv_offer_laws.proofs.Members.{Contains-head, Contains-behind, Contains-cons_cases, list_any_member}

-- what holds of all holds of a member
all_member : {X : Type 0} (p : X → Bool) (xs : List X) (x : X) → list_all p xs ≡ true → Contains xs x → p x ≡ true
all_member p [] x all h = absurd (omega (arith, h.1))
all_member p (y ∷ xs) x all h =
    let parts = and_parts (p y) (list_all p xs) all in
    elim (Contains-cons_cases y xs x h) [ inl same ↦ subst (λ z. p z ≡ true) same parts.0 | inr there ↦ all_member p xs x parts.1 there ]

all_from_members : {X : Type 0} (p : X → Bool) (xs : List X) → ((x : X) → Contains xs x → p x ≡ true) → list_all p xs ≡ true
all_from_members p [] each = refl
all_from_members p (y ∷ xs) each =
    and_from _ _ (each y (Contains-head y xs)) (all_from_members p xs (λ x has. each x (Contains-behind y xs x has)))

idle-is : (due : Work) → is_idle due ≡ true → due ≡ work.Idle
idle-is work.Idle h = refl
idle-is _ h = cc

-- nobody can go on
pub stuck_is : (users : List ℕ) (journal : Entries) → IsTrue (is_stuck users journal) ↔ IsStuck users journal
stuck_is users journal = (there, back)
  where
    some_stay : Bool
    some_stay = list_any (λ user. not (has_left journal user)) users

    all_halt : Bool
    all_halt = list_all (is_halted journal) users

    all_rest : Bool
    all_rest = list_all (rests journal) auxiliaries

    halted : (user : ℕ) → is_halted journal user ≡ true → IsTrue (not (has_left journal user)) → IsTrue (is_some (still_refused journal user))
    halted user h present = elim (or_cases (has_left journal user) (is_some (still_refused journal user)) h) [
      | inl gone ↦ absurd (both_ways (has_left journal user) (not-true _ present) gone)
      | inr halts ↦ halts
    ]

    there : IsTrue (is_stuck users journal) → IsStuck users journal
    there h =
        let one = and_parts (some_stay && all_halt) all_rest h in
        let two = and_parts some_stay all_halt one.0 in
        let found = Any-from_list_any (λ (user : ℕ). not (has_left journal user)) users two.0 in
        record {
          some = (found.1, (found.0, found.2, found.3), found.4);
          all = λ user has present. halted user (all_member (is_halted journal) users user two.1 has) present;
          idle = λ kind. idle-is (work_of journal (party_of kind)) (of_kinds (λ (party : ℕ). is_idle (work_of journal party) ≡ true) (each_passes (rests journal) auxiliaries one.1) kind);
        }

    back : IsStuck users journal → IsTrue (is_stuck users journal)
    back h =
        and_from _ _
        (and_from _ _ (list_any_member (λ (user : ℕ). not (has_left journal user)) users h.some.0 h.some.2 h.some.1)
        (all_from_members (is_halted journal) users (λ user has. elim (cases_Bool (has_left journal user)) [
          | inl gone ↦ or_left _ _ gone
          | inr present ↦ or_right _ _ (h.all user has (not_from_false _ present))
        ])))
        (all_pass (rests journal) auxiliaries (of_rows (λ (party : ℕ). is_idle (work_of journal party) ≡ true) (λ kind. ap is_idle (h.idle kind))))

pub leave-is : (act : Act) → is_leave act ≡ true → act ≡ Leave
leave-is Leave h = refl
leave-is _ h = cc

-- a user that waits makes the same act again or leaves
pub waiters_act_again_or_leave : (users : List ℕ) (journal : Entries) (e : PlainEntry) → IsLegal users (e ∷ journal) → is_auxiliary e.party ≡ false →
    (act : Act) → awaited journal e.party ≡ Some act → (e.act ≡ Leave) ⊎ (e.act ≡ act)
waiters_act_again_or_leave users journal e legal user act waits =
    let due : act_due false journal e.party e.act ≡ Some e.act = rw user at legal.0.due in
    let same : may_do (awaited journal e.party) e.act ≡ e.act = same_Some _ _ due in
    let again : may_do (Some act) e.act ≡ e.act = rw waits at same in
    elim (cases_Bool (is_leave e.act)) [
      | inl leaves ↦ inl (leave-is e.act leaves)
      | inr stays ↦ inr (sym (rw stays at again))
    ]

-- no work is a leave
pub no_leave_due : (due : Work) (place : ℕ) → act_for due place None ≡ Some Leave → ⊥
no_leave_due work.Idle place h = cc
no_leave_due (work.Retract local) place h = cc
no_leave_due (work.Control local) place h = cc
no_leave_due (work.Reply local) place h = cc
no_leave_due (work.Counter to surrogate) place h = cc
no_leave_due (work.Use local) place h = cc

-- only users leave
pub only_users_leave : (users : List ℕ) (journal : Entries) (e : PlainEntry) → IsLegal users (e ∷ journal) → e.act ≡ Leave → IsTrue (is_user users e.party)
only_users_leave users journal e legal leaves = elim (or_cases (is_user users e.party) (is_auxiliary e.party) legal.0.party) [
  | inl user ↦ user
  | inr auxiliary ↦
      let due : act_due true journal e.party e.act ≡ Some e.act = rw auxiliary at legal.0.due in
      let at_leave : act_for (work_of journal e.party) (next_place journal) None ≡ Some Leave = rw leaves at due in
      absurd (no_leave_due (work_of journal e.party) (next_place journal) at_leave)
]

held-is : (given : PlainAnswer) → is_held (kind_of given) ≡ true → (hold : Hold) × (given ≡ held hold)
held-is (held hold) h = (hold, refl)
held-is _ h = absurd (let no : false ≡ true = h in cc)

-- an act that the party waits for, where its entry is held and none of its own follows
awaited_at : (later before : Entries) (party : ℕ) (e : PlainEntry) (hold : Hold) → HasNone party later → e.party ≡ party → e.answer ≡ held hold → awaited (later ++ e ∷ before) party ≡ Some e.act
awaited_at [] before party e hold none own given =
    let first : eqb e.party party ≡ true = eq-eqb e.party party own in
    let is : is_held (kind_of e.answer) ≡ true = ap (λ (g : PlainAnswer). is_held (kind_of g)) given in rw first (rw is refl)
awaited_at (l ∷ later) before party e hold none own given =
    let P : PlainEntry → Type 0 = λ (f : PlainEntry). ¬ (f.party ≡ party) in
    let others : eqb l.party party ≡ false = ne_eqb l.party party (All-head P l later none) in
    rw others (awaited_at later before party e hold (All-tail P l later none) own given)

-- a party waits for the act of its last entry, where this is held
pub waits_for_the_last : (journal : Entries) (party : ℕ) (act : Act) →
    (awaited journal party ≡ Some act) ↔
    ((before : Entries) × (e : PlainEntry) × (later : Entries) × (hold : Hold) × (journal ≡ later ++ e ∷ before) × HasNone party later
    × (e.party ≡ party) × (e.act ≡ act) × (e.answer ≡ held hold))
waits_for_the_last journal party act = (there journal, back)
  where
    there : (journal : Entries) → awaited journal party ≡ Some act →
        (before : Entries) × (e : PlainEntry) × (later : Entries) × (hold : Hold) × (journal ≡ later ++ e ∷ before) × HasNone party later
        × (e.party ≡ party) × (e.act ≡ act) × (e.answer ≡ held hold)
    there [] h = absurd (none-some act h)
    there (e ∷ journal) h = elim (cases_Bool (eqb e.party party)) [
      | inl own ↦
          let parts = cond_some (is_held (kind_of e.answer)) e.act act (rw own at h) in
          let given = held-is e.answer parts.0 in
          (journal, e, [], given.0, refl, All-nil (λ (f : PlainEntry). ¬ (f.party ≡ party)), eqb-true e.party party own, parts.1, given.1)
      | inr others ↦
          let w = there journal (rw others at h) in
          (w.0, w.1, e ∷ w.2, w.3, ap (λ (rest : Entries). e ∷ rest) w.4, All-cons (λ (f : PlainEntry). ¬ (f.party ≡ party)) e w.2 (eqb-false e.party party others) w.5, w.6, w.7, w.8)
    ]

    back : (before : Entries) × (e : PlainEntry) × (later : Entries) × (hold : Hold) × (journal ≡ later ++ e ∷ before) × HasNone party later
        × (e.party ≡ party) × (e.act ≡ act) × (e.answer ≡ held hold) → awaited journal party ≡ Some act
    back w =
        ap (λ (j : Entries). awaited j party) w.4 ∙ awaited_at w.2 w.0 party w.1 w.3 w.5 w.6 w.8 ∙ ap (λ (a : Act). Some a) w.7
