-- What an auxiliary replies to.
use Rattle.std.proofs.Common.{◌≡◌, refl, ap, ◌∙◌, subst, ℕ, ◌+◌, ◌<◌, ◌≤◌, Bool, true, false, not, ltb, List, [], ◌∷◌, length, Option, Some, None, inl, inr, arith}
use Rattle.std.specs.Prelude.{IsTrue, find, if◌then◌else◌}
use Rattle.std.specs.Option.{option_map_or}
use Rattle.std.proofs.lemmas.Bool.{both_ways, ltb-true}
use Rattle.std.proofs.lemmas.List.Elements.{All-cons, All-nil}
use Rattle.apl_arrays.specs.Array.{PlainArray}
use Rattle.sv_access.specs.Access.{is_set}
use Rattle.sv_access.specs.declared.access.Kind.{Kind}
use Rattle.sv_access.specs.declared.access.Kind.TheVariants as kind
use Rattle.sv_events.specs.Entry.{PlainEntry}
use Rattle.sv_rules.specs.Coupling.{coupling_now}
use Rattle.sv_rules.specs.Entries.{Entries, since}
use Rattle.sv_rules.specs.Legal.{IsLegal}
use Rattle.sv_rules.specs.Story.{GrantedAccess, access_on, known, known_after}
use Rattle.sv_rules.specs.Work.{gets_value, owes_reply, tries}
use Rattle.sv_rules.specs.declared.coupling.Coupling.{Coupling}
use Rattle.sv_rules.specs.declared.standing.Standing.{Standing}
use Rattle.sv_offer_laws.proofs.LookupLemmas.{found_as_made}
use Rattle.sv_offer_laws.proofs.NowLemmas.{coupling_places}
use Rattle.sv_story_laws.specs.StoryLaws.{IsAccessTo}
use Rattle.sv_story_laws.specs.WorkLaws.{LastUseGot}
use Rattle.sv_story_laws.proofs.AccessLemmas.{IsAccessOn-from_access}
use Rattle.sv_story_laws.proofs.AuxiliaryLemmas.{untried}
use Rattle.sv_story_laws.proofs.OpeningLemmas.{known_later}

-- the entry is a use that got this value
record UseGot (offer : Standing) (e : PlainEntry) (v : PlainArray) : Type 0 where
  access : GrantedAccess
  is : access_on offer e ≡ Some access
  same : access.value ≡ v
  use_of : access.kind ≡ kind.Use

is_use : (of : Kind) → not (is_set of) ≡ true → of ≡ kind.Use
is_use kind.Set h = absurd (let no : false ≡ true = h in cc)
is_use kind.Use h = refl

use_got : (offer : Standing) (e : PlainEntry) → gets_value offer e ≡ true → (v : PlainArray) × UseGot offer e v
use_got offer e gets = by (access_on offer e) refl gets
  where
    by : (o : Option GrantedAccess) → access_on offer e ≡ o → option_map_or (λ (access : GrantedAccess). not (is_set access.kind)) o false ≡ true → (v : PlainArray) × UseGot offer e v
    by None is h = absurd (let no : false ≡ true = h in cc)
    by (Some access) is h = (access.value, record { access = access; is = is; same = refl; use_of = is_use access.kind h })

-- that use is the last of these entries
last_is : (offer : Standing) (e : PlainEntry) (before : Entries) (v : PlainArray) → UseGot offer e v → LastUseGot offer (e ∷ before) v
last_is offer e before v got =
    let on = IsAccessOn-from_access offer e got.access got.is in
    let used : IsAccessTo offer.local kind.Use got.access.value e.act e.answer = subst (λ (k : Kind). IsAccessTo offer.local k got.access.value e.act e.answer) got.use_of on.1 in
    subst (LastUseGot offer (e ∷ before)) got.same
    (record { before = before; e = e; later = []; whole = refl; own = on.0; act = used.0; got = used.1; last = All-nil (λ (after : PlainEntry). ¬ IsTrue (tries offer after)) })

-- or stays the last, where another entry does not try
last_still : (offer : Standing) (e : PlainEntry) (entries : Entries) (v : PlainArray) → tries offer e ≡ false → LastUseGot offer entries v → LastUseGot offer (e ∷ entries) v
last_still offer e entries v not_tried got = record {
  before = got.before;
  e = got.e;
  later = e ∷ got.later;
  whole = ap (λ (rest : Entries). e ∷ rest) got.whole;
  own = got.own;
  act = got.act;
  got = got.got;
  last = All-cons (λ (after : PlainEntry). ¬ IsTrue (tries offer after)) e got.later (λ tried. both_ways (tries offer e) not_tried tried) got.last;
}

-- the newest of these entries that tries is a use that got a value
abbrev owes : Standing → Entries → Bool
owes offer entries = option_map_or (gets_value offer) (find (tries offer) entries) false

-- what is known is what the last use of these entries got
abbrev IsKnown : Entries → Standing → Entries → Type 0
IsKnown journal offer entries = (v : PlainArray) × (known journal offer ≡ Some v) × LastUseGot offer entries v

tried_by : (journal : Entries) (offer : Standing) (at : ℕ) (e : PlainEntry) → offer.place ≤ at → at < length journal + 1 → (owes offer (since at journal) ≡ true → IsKnown journal offer (since at journal)) →
    (b : Bool) → tries offer e ≡ b → option_map_or (gets_value offer) (if b then Some e else find (tries offer) (since at journal)) false ≡ true → IsKnown (e ∷ journal) offer (e ∷ since at journal)
tried_by journal offer at e low after step true is h =
    let got = use_got offer e h in (
      got.0,
      known_later e journal offer (omega (arith, low, after)) ∙ ap (λ (a : Option GrantedAccess). known_after a (known journal offer)) got.1.is ∙ ap (λ (v : PlainArray). Some v) got.1.same,
      last_is offer e (since at journal) got.0 got.1,
    )
tried_by journal offer at e low after step false is h =
    let before = step h in (
      before.0,
      known_later e journal offer (omega (arith, low, after)) ∙ ap (λ (a : Option GrantedAccess). known_after a (known journal offer)) (untried offer e is) ∙ before.1,
      last_still offer e (since at journal) before.0 is before.2,
    )

since_by : (journal : Entries) (offer : Standing) (at : ℕ) (e : PlainEntry) → offer.place ≤ at → (owes offer (since at journal) ≡ true → IsKnown journal offer (since at journal)) →
    (b : Bool) → ltb at (length journal + 1) ≡ b → owes offer (if b then e ∷ since at journal else []) ≡ true → IsKnown (e ∷ journal) offer (if b then e ∷ since at journal else [])
since_by journal offer at e low step true after h = tried_by journal offer at e low (ltb-true at (length journal + 1) after) step (tries offer e) refl h
since_by journal offer at e low step false before h = absurd (let no : false ≡ true = h in cc)

-- where the last try since a place is a use that got a value, this value is known
owed : (journal : Entries) (offer : Standing) (at : ℕ) → offer.place ≤ at → owes offer (since at journal) ≡ true → IsKnown journal offer (since at journal)
owed [] offer at low h = absurd (let no : false ≡ true = h in cc)
owed (e ∷ journal) offer at low h = since_by journal offer at e low (owed journal offer at low) (ltb at (length journal + 1)) refl h

pub replies_are_to_what_the_last_use_got : (users : List ℕ) (journal : Entries) → IsLegal users journal → (offer : Standing) (coupling : Coupling) → coupling_now journal offer.place ≡ Some coupling →
    IsTrue (owes_reply journal offer coupling) → (v : PlainArray) × (known journal offer ≡ Some v) × LastUseGot offer (since coupling.at journal) v
replies_are_to_what_the_last_use_got users journal legal offer coupling now owes =
    let is = found_as_made users journal legal offer.place coupling now in
    let at = coupling_places users journal legal offer.place coupling is in
    let low : offer.place ≤ coupling.at = elim is.here [
      | inl same ↦ omega (arith, is.lower_first, at.0, same)
      | inr same ↦ omega (arith, at.0, same)
    ] in
    owed journal offer coupling.at low owes
