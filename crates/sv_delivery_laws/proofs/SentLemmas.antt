-- What a side sends, access by access.
use Rattle.std.proofs.Common.{◌≡◌, refl, ap, ◌∙◌, Bool, true, false, not, cond, List, [], ◌∷◌, ◌++◌, length, map, Option, Some, None, inl, inr}
use Rattle.std.specs.Prelude.{filter, option_map}
use Rattle.std.specs.Option.{option_map_or}
use Rattle.std.proofs.lemmas.Bool.{cases_Bool, and_parts, both_ways}
use Rattle.sv_access.specs.declared.access.Side.{Side}
use Rattle.sv_access.specs.declared.access.Side.TheVariants.{A, B}
use Rattle.sv_access.specs.declared.access.Kind.{Kind}
use Rattle.sv_access.specs.declared.access.Kind.TheVariants.{Set, Use}
use Rattle.sv_access.specs.Access.{Access, other_side, same_side}
use Rattle.sv_access.specs.Story.{Story, last_set, last_value, is_last_setter, has_used_since, is_unseen}
use Rattle.sv_access.proofs.StoryLemmas.{is_unseen_others_use}
use Rattle.sv_delivery_laws.specs.Sent.{Sent, just_sent, with_set_over, sent, set_by, unseen_value, values_sent}
use Rattle.sv_delivery_laws.specs.DeliveryLaws.{IsUnseenStill}

-- where a set is unseen there is a last value
pub last_is_there : {V : Type 0} (side : Side) (story : Story V) → is_unseen side story ≡ true → (v : V) × (last_value story ≡ Some v)
last_is_there {V} side story h = by (last_set story) (and_parts (is_last_setter side story) (not (has_used_since (other_side side) story)) h).0
  where
    by : (last : Option (Access V)) → option_map_or (λ a. same_side a.side side) last false ≡ true → (v : V) × (option_map (λ a. a.value) last ≡ Some v)
    by None k = cc
    by (Some access) k = (access.value, refl)

pub unseen_value-none : {V : Type 0} (side : Side) (story : Story V) → is_unseen side story ≡ false → unseen_value side story ≡ []
unseen_value-none side story h = rw h refl

pub unseen_value-some : {V : Type 0} (side : Side) (story : Story V) (v : V) → is_unseen side story ≡ true → last_value story ≡ Some v → unseen_value side story ≡ v ∷ []
unseen_value-some side story v h last = rw (h, last) refl

-- no more than one value is unseen
pub one_is_unseen : {V : Type 0} (side : Side) (story : Story V) → length (unseen_value side story) ≡ cond (is_unseen side story) 1 0
one_is_unseen side story = elim (cases_Bool (is_unseen side story)) [
  | inl unseen ↦ let last = last_is_there side story unseen in rw (unseen, last.1) refl
  | inr seen ↦ rw seen refl
]

-- the unseen one is the newest that was sent
pub newest_is_unseen : {V : Type 0} (side : Side) (stretch before : Story V) → is_unseen side (stretch ++ before) ≡ true → IsUnseenStill V side stretch before
newest_is_unseen side [] before h =
    let last = last_is_there side before h in
    record { value = last.0; older = []; last = last.1; newest = ap (map just_sent) (unseen_value-some side before last.0 h last.1) }
newest_is_unseen {V} side (access ∷ stretch) before h = by side access.side access.kind access.value h (newest_is_unseen side stretch before)
  where
    by : (s who : Side) (kind : Kind) (v : V) → is_unseen s (record { side = who; kind = kind; value = v } ∷ (stretch ++ before)) ≡ true →
        (is_unseen s (stretch ++ before) ≡ true → IsUnseenStill V s stretch before) → IsUnseenStill V s (record { side = who; kind = kind; value = v } ∷ stretch) before
    by A A Set v unseen so_far = record { value = v; older = sent A stretch before; last = refl; newest = refl }
    by B B Set v unseen so_far = record { value = v; older = sent B stretch before; last = refl; newest = refl }
    by A B Set v unseen so_far = cc
    by B A Set v unseen so_far = cc
    by A A Use v unseen so_far = let is = so_far unseen in record { value = is.value; older = is.older; last = is.last; newest = is.newest }
    by B B Use v unseen so_far = let is = so_far unseen in record { value = is.value; older = is.older; last = is.last; newest = is.newest }
    by A B Use v unseen so_far = absurd (both_ways _ (is_unseen_others_use A v (stretch ++ before)) unseen)
    by B A Use v unseen so_far = absurd (both_ways _ (is_unseen_others_use B v (stretch ++ before)) unseen)

-- the values, and those of which this holds
abbrev pub values : {V : Type 0} → List (Sent V) → List V
values sent = map (λ one. one.value) sent

abbrev pub kept : {V : Type 0} → List (Sent V) → List V
kept sent = map (λ one. one.value) (filter (λ one. not one.set_over) sent)

abbrev pub lost : {V : Type 0} → List (Sent V) → List V
lost sent = map (λ one. one.value) (filter (λ one. one.set_over) sent)

values_just_sent : {V : Type 0} (vs : List V) → values (map just_sent vs) ≡ vs
values_just_sent [] = refl
values_just_sent (v ∷ vs) = ap (λ rest. v ∷ rest) (values_just_sent vs)

pub kept_just_sent : {V : Type 0} (vs : List V) → kept (map just_sent vs) ≡ vs
kept_just_sent [] = refl
kept_just_sent (v ∷ vs) = ap (λ rest. v ∷ rest) (kept_just_sent vs)

values_set_over : {V : Type 0} (sent : List (Sent V)) → values (with_set_over sent) ≡ values sent
values_set_over [] = refl
values_set_over (newest ∷ older) = refl

-- where nothing is lost all is kept
pub all_kept : {V : Type 0} (sent : List (Sent V)) → lost sent ≡ [] → values sent ≡ kept sent
all_kept [] none = refl
all_kept {V} (one ∷ older) none = by one.value one.set_over none (all_kept older)
  where
    by : (v : V) (over : Bool) → (let newest : Sent V = record { value = v; set_over = over } in lost (newest ∷ older)) ≡ [] → (lost older ≡ [] → values older ≡ kept older) →
        (let newest : Sent V = record { value = v; set_over = over } in values (newest ∷ older) ≡ kept (newest ∷ older))
    by v true nothing more = cc
    by v false nothing more = ap (λ rest. v ∷ rest) (more nothing)

-- what a side sends is what was unseen and what it sets
pub sent_is_unseen_and_set : {V : Type 0} (side : Side) (stretch before : Story V) → values_sent side stretch before ≡ set_by side stretch ++ unseen_value side before
sent_is_unseen_and_set side [] before = values_just_sent (unseen_value side before)
sent_is_unseen_and_set {V} side (access ∷ stretch) before = by side access.side access.kind access.value (sent_is_unseen_and_set side stretch before)
  where
    over : (s : Side) (unseen : Bool) → values (cond unseen (with_set_over (sent s stretch before)) (sent s stretch before)) ≡ values_sent s stretch before
    over s true = values_set_over (sent s stretch before)
    over s false = refl

    by : (s who : Side) (kind : Kind) (v : V) → values_sent s stretch before ≡ set_by s stretch ++ unseen_value s before →
        (let access : Access V = record { side = who; kind = kind; value = v } in values_sent s (access ∷ stretch) before ≡ set_by s (access ∷ stretch) ++ unseen_value s before)
    by A A Set v so_far = ap (λ rest. v ∷ rest) so_far
    by B B Set v so_far = ap (λ rest. v ∷ rest) so_far
    by A B Set v so_far = over A (is_unseen A (stretch ++ before)) ∙ so_far
    by B A Set v so_far = over B (is_unseen B (stretch ++ before)) ∙ so_far
    by A A Use v so_far = so_far
    by B B Use v so_far = so_far
    by A B Use v so_far = so_far
    by B A Use v so_far = so_far
