-- What remains of what a side sends, where its sets and the other side's uses do not come early.
use Rattle.std.proofs.Common.{◌≡◌, refl, sym, ap, ◌∙◌, ◌+◌, Bool, true, false, cond, List, [], ◌∷◌, ◌++◌, length, Option, Some, None, arith}
use Rattle.std.specs.Prelude.{filter, map}
use Rattle.std.proofs.lemmas.Bool.{not-false}
use Rattle.std.proofs.lemmas.List.{length-append, append-nil, append_assoc, map-append}
use Rattle.std.proofs.lemmas.List.Elements.{filter-append}
use Rattle.apl_arrays.specs.Array.{PlainArray}
use Rattle.sv_access.specs.declared.access.Side.{Side}
use Rattle.sv_access.specs.declared.access.Side.TheVariants.{A, B}
use Rattle.sv_access.specs.declared.access.Kind.{Kind}
use Rattle.sv_access.specs.declared.access.Kind.TheVariants.{Set, Use}
use Rattle.sv_access.specs.Access.{Access, other_side}
use Rattle.sv_access.specs.Story.{Story, last_value, is_unseen, is_early}
use Rattle.sv_access.proofs.StoryLemmas.{is_unseen_others_use}
use Rattle.sv_rules.specs.Story.{first_set}
use Rattle.sv_delivery_laws.specs.DeliveryLaws.{IsUsedInOrder}
use Rattle.sv_delivery_laws.specs.Sent.{Sent, is_by, just_sent, with_set_over, sent, set_by, used_by, unseen_value, values_sent, taken_out, values_remaining}
use Rattle.sv_delivery_laws.proofs.SentLemmas.{newest_is_unseen, unseen_value-none, unseen_value-some, one_is_unseen, kept, kept_just_sent, all_kept, sent_is_unseen_and_set}

-- no access of this side and kind in a stretch comes early
abbrev pub NeverEarly : {V : Type 0} → Side → Kind → Story V → Story V → Type 0
NeverEarly side kind [] before = Unit {0}
NeverEarly side kind (access ∷ stretch) before =
    (access.side ≡ side → access.kind ≡ kind → is_early (stretch ++ before) side kind ≡ false) × NeverEarly side kind stretch before

-- each use in a stretch gets the value that was set last
abbrev pub UsesGetLast : {V : Type 0} → Story V → Story V → Type 0
UsesGetLast [] before = Unit {0}
UsesGetLast (access ∷ stretch) before = (access.kind ≡ Use → last_value (stretch ++ before) ≡ Some access.value) × UsesGetLast stretch before

-- what remains is what was used, and the unseen value
abbrev pub IsInOrder : {V : Type 0} → Side → Story V → Story V → Type 0
IsInOrder side stretch before = values_remaining side stretch before ≡ unseen_value side (stretch ++ before) ++ used_by (other_side side) stretch

-- the values that remain, where the unseen one is set over
without_newest : {V : Type 0} (side : Side) (stretch before : Story V) → is_unseen side (stretch ++ before) ≡ true → IsInOrder side stretch before →
    kept (with_set_over (sent side stretch before)) ≡ used_by (other_side side) stretch
without_newest {V} side stretch before unseen so_far =
    let is = newest_is_unseen side stretch before unseen in
    let used : List V = used_by (other_side side) stretch in
    let whole : is.value ∷ kept is.older ≡ is.value ∷ used =
    ap (λ (s : List (Sent V)). kept s) (sym is.newest) ∙ so_far ∙ ap (λ (vs : List V). vs ++ used) (unseen_value-some side (stretch ++ before) is.value unseen is.last) in
    let rest : kept is.older ≡ used = cc in ap (λ (s : List (Sent V)). kept (with_set_over s)) is.newest ∙ rest

-- one access more
next_in_order : {V : Type 0} (side who : Side) (kind : Kind) (v : V) (stretch before : Story V) →
    (who ≡ side → kind ≡ Set → is_early (stretch ++ before) side Set ≡ false) →
    (who ≡ other_side side → kind ≡ Use → is_early (stretch ++ before) (other_side side) Use ≡ false) →
    (kind ≡ Use → last_value (stretch ++ before) ≡ Some v) →
    IsInOrder side stretch before → IsInOrder side (record { side = who; kind = kind; value = v } ∷ stretch) before
next_in_order {V} side who kind v stretch before sets uses gets so_far = by side who kind sets uses gets so_far
  where
    told : Story V
    told = stretch ++ before

    own_set : (s : Side) → is_unseen s told ≡ false → IsInOrder s stretch before → v ∷ values_remaining s stretch before ≡ v ∷ used_by (other_side s) stretch
    own_set s seen before' = ap (λ rest. v ∷ rest) (before' ∙ ap (λ (vs : List V). vs ++ used_by (other_side s) stretch) (unseen_value-none s told seen))

    over : (s : Side) (unseen : Bool) → is_unseen s told ≡ unseen → IsInOrder s stretch before →
        kept (cond unseen (with_set_over (sent s stretch before)) (sent s stretch before)) ≡ used_by (other_side s) stretch
    over s true is before' = without_newest s stretch before is before'
    over s false is before' = before' ∙ ap (λ (vs : List V). vs ++ used_by (other_side s) stretch) (unseen_value-none s told is)

    used : (s : Side) → is_unseen s told ≡ true → last_value told ≡ Some v → IsInOrder s stretch before → values_remaining s stretch before ≡ v ∷ used_by (other_side s) stretch
    used s unseen last before' = before' ∙ ap (λ (vs : List V). vs ++ used_by (other_side s) stretch) (unseen_value-some s told v unseen last)

    by : (s w : Side) (k : Kind) → (w ≡ s → k ≡ Set → is_early told s Set ≡ false) → (w ≡ other_side s → k ≡ Use → is_early told (other_side s) Use ≡ false) →
        (k ≡ Use → last_value told ≡ Some v) → IsInOrder s stretch before → IsInOrder s (record { side = w; kind = k; value = v } ∷ stretch) before
    by A A Set no_early late last before' = own_set A (no_early refl refl) before'
    by B B Set no_early late last before' = own_set B (no_early refl refl) before'
    by A B Set no_early late last before' = over A (is_unseen A told) refl before'
    by B A Set no_early late last before' = over B (is_unseen B told) refl before'
    by A A Use no_early late last before' = before'
    by B B Use no_early late last before' = before'
    by A B Use no_early late last before' =
        used A (not-false (is_unseen A told) (late refl refl)) (last refl) before'
        ∙ sym (ap (λ (vs : List V). vs ++ v ∷ used_by B stretch) (unseen_value-none A (record { side = B; kind = Use; value = v } ∷ told) (is_unseen_others_use A v told)))
    by B A Use no_early late last before' =
        used B (not-false (is_unseen B told) (late refl refl)) (last refl) before'
        ∙ sym (ap (λ (vs : List V). vs ++ v ∷ used_by A stretch) (unseen_value-none B (record { side = A; kind = Use; value = v } ∷ told) (is_unseen_others_use B v told)))

-- so it is after each stretch
pub in_order : {V : Type 0} (side : Side) (stretch before : Story V) → NeverEarly side Set stretch before → NeverEarly (other_side side) Use stretch before →
    UsesGetLast stretch before → IsInOrder side stretch before
in_order side [] before sets uses gets = kept_just_sent (unseen_value side before) ∙ sym (append-nil (unseen_value side before))
in_order side (access ∷ stretch) before sets uses gets =
    next_in_order side access.side access.kind access.value stretch before sets.0 uses.0 gets.0 (in_order side stretch before sets.1 uses.1 gets.1)

-- and at most one more remains than was used
pub one_more : {V : Type 0} (side : Side) (stretch before : Story V) → IsInOrder side stretch before →
    length (values_remaining side stretch before) ≡ length (used_by (other_side side) stretch) + cond (is_unseen side (stretch ++ before)) 1 0
one_more {V} side stretch before h =
    let told : Story V = stretch ++ before in
    let used : List V = used_by (other_side side) stretch in
    let both : length (values_remaining side stretch before) ≡ length (unseen_value side told) + length used = ap length h ∙ length-append (unseen_value side told) used in
    let one : length (unseen_value side told) ≡ cond (is_unseen side told) 1 0 = one_is_unseen side told in omega (arith, both, one)

-- where nothing is taken out all remains
pub all_sent : {V : Type 0} (side : Side) (stretch before : Story V) → IsInOrder side stretch before → taken_out side stretch before ≡ [] →
    values_sent side stretch before ≡ unseen_value side (stretch ++ before) ++ used_by (other_side side) stretch
all_sent side stretch before h none = all_kept (sent side stretch before) none ∙ h

-- where the other side sets nothing, nothing is taken out
pub none_taken_out : {V : Type 0} (side : Side) (stretch before : Story V) → set_by (other_side side) stretch ≡ [] → taken_out side stretch before ≡ []
none_taken_out side [] before none = just_sent_are_left (unseen_value side before)
  where
    just_sent_are_left : {V : Type 0} (vs : List V) → map (λ (one : Sent V). one.value) (filter (λ one. one.set_over) (map just_sent vs)) ≡ []
    just_sent_are_left [] = refl
    just_sent_are_left (v ∷ vs) = just_sent_are_left vs
none_taken_out {V} side (access ∷ stretch) before none = by side access.side access.kind access.value none (none_taken_out side stretch before)
  where
    by : (s who : Side) (kind : Kind) (v : V) → (let access : Access V = record { side = who; kind = kind; value = v } in set_by (other_side s) (access ∷ stretch)) ≡ [] →
        (set_by (other_side s) stretch ≡ [] → taken_out s stretch before ≡ []) →
        (let access : Access V = record { side = who; kind = kind; value = v } in taken_out s (access ∷ stretch) before ≡ [])
    by A A Set v nothing so_far = so_far nothing
    by B B Set v nothing so_far = so_far nothing
    by A B Set v nothing so_far = cc
    by B A Set v nothing so_far = cc
    by A A Use v nothing so_far = so_far nothing
    by B B Use v nothing so_far = so_far nothing
    by A B Use v nothing so_far = so_far nothing
    by B A Use v nothing so_far = so_far nothing

-- the values of accesses, in two parts
values_by-append : (side : Side) (kind : Kind) (one other : Story PlainArray) →
    map (λ a. a.value) (filter (is_by side kind) (one ++ other)) ≡ map (λ a. a.value) (filter (is_by side kind) one) ++ map (λ a. a.value) (filter (is_by side kind) other)
values_by-append side kind one other =
    let of : Access PlainArray → PlainArray = λ (a : Access PlainArray). a.value in
    ap (map of) (filter-append (is_by side kind) one other) ∙ map-append of (filter (is_by side kind) one) (filter (is_by side kind) other)

-- the first set of a story is unseen, and nothing is used before it
first_is_unseen : (side giver : Side) (known : Option PlainArray) → set_by side (first_set giver known) ≡ unseen_value side (first_set giver known)
first_is_unseen side giver None = by side
  where
    by : (s : Side) → set_by {V = PlainArray} s [] ≡ unseen_value s []
    by A = refl
    by B = refl
first_is_unseen A A (Some v) = refl
first_is_unseen A B (Some v) = refl
first_is_unseen B A (Some v) = refl
first_is_unseen B B (Some v) = refl

first_is_unused : (side giver : Side) (known : Option PlainArray) → used_by side (first_set giver known) ≡ []
first_is_unused side giver None = refl
first_is_unused A A (Some v) = refl
first_is_unused A B (Some v) = refl
first_is_unused B A (Some v) = refl
first_is_unused B B (Some v) = refl

-- so all of it is used in order
pub stories_begin_in_order : (side giver : Side) (known : Option PlainArray) → IsUsedInOrder side (first_set giver known)
stories_begin_in_order side giver known =
    let first = first_set giver known in
    first_is_unseen side giver known ∙ sym (append-nil (unseen_value side first))
    ∙ ap (λ (vs : List PlainArray). unseen_value side first ++ vs) (sym (first_is_unused (other_side side) giver known))

-- in a feed all that was set is used in order, but for what is unseen
pub feeds_in_order : (side : Side) (stretch before : Story PlainArray) → IsUsedInOrder side before → set_by (other_side side) stretch ≡ [] →
    IsInOrder side stretch before → IsUsedInOrder side (stretch ++ before)
feeds_in_order side stretch before begun one_way h =
    let other = other_side side in
    let unseen : List PlainArray = unseen_value side (stretch ++ before) in
    let sets : set_by side (stretch ++ before) ≡ set_by side stretch ++ set_by side before = values_by-append side Set stretch before in
    let uses : used_by other (stretch ++ before) ≡ used_by other stretch ++ used_by other before = values_by-append other Use stretch before in
    let all : set_by side stretch ++ unseen_value side before ≡ unseen ++ used_by other stretch =
    sym (sent_is_unseen_and_set side stretch before) ∙ all_sent side stretch before h (none_taken_out side stretch before one_way) in
    sets ∙ ap (λ (vs : List PlainArray). set_by side stretch ++ vs) begun
    ∙ sym (append_assoc (set_by side stretch) (unseen_value side before) (used_by other before))
    ∙ ap (λ (vs : List PlainArray). vs ++ used_by other before) all
    ∙ append_assoc unseen (used_by other stretch) (used_by other before)
    ∙ ap (λ (vs : List PlainArray). unseen ++ vs) (sym uses)
