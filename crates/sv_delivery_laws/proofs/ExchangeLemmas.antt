-- Requests and replies: where both sides take turns and no use comes early, there is one order of all accesses.
use Rattle.std.proofs.Common.{◌≡◌, refl, sym, ap, ◌∙◌, subst, Bool, true, false, ◌||◌, not, List, [], ◌∷◌, ◌++◌, Option, Some, ℕ, zero, suc, ◌<◌, length, reverse, arith}
use Rattle.std.specs.Prelude.{slice_get}
use Rattle.std.proofs.lemmas.Bool.{and_parts, both_ways, not-false}
use Rattle.std.proofs.lemmas.Option.{same_Some}
use Rattle.std.proofs.lemmas.List.{length-reverse, reverse-append}
use Rattle.apl_arrays.specs.Array.{PlainArray}
use Rattle.sv_access.specs.declared.access.Side.{Side}
use Rattle.sv_access.specs.declared.access.Side.TheVariants.{A, B}
use Rattle.sv_access.specs.declared.access.Kind.{Kind}
use Rattle.sv_access.specs.declared.access.Kind.TheVariants.{Set, Use}
use Rattle.sv_access.specs.Access.{other_side, same_side, same_kind}
use Rattle.sv_access.specs.Story.{Story, last_value, is_unseen, is_early}
use Rattle.sv_access.proofs.StoryLemmas.{is_unseen_others_use}
use Rattle.sv_delivery_laws.specs.DeliveryLaws.{from_the_oldest}
use Rattle.sv_delivery_laws.specs.Sent.{set_by, used_by, unseen_value}
use Rattle.sv_delivery_laws.specs.Turns.{kind_in_turn, takes_turns}
use Rattle.sv_delivery_laws.proofs.DeliveryLemmas.{NeverEarly, UsesGetLast}
use Rattle.sv_delivery_laws.proofs.SentLemmas.{unseen_value-none, unseen_value-some}

-- how far an exchange is: of the side that asks and the one that replies, whose turn it is to do what, whether its set is
-- unseen, and which values were set and used; and the value that was set last
pub record Round (V : Type 0) : Type 0 where
  pub asking : Kind
  pub replying : Kind
  pub asked_unseen : Bool
  pub reply_unseen : Bool
  pub last : Option V
  pub asked : List V
  pub heard : List V
  pub replied : List V
  pub answered : List V

-- nobody waits; a request is unseen; a request was heard; a reply is unseen
pub data IsAt (V : Type 0) (round : Round V) : Type 0 where
  calm : round.asking ≡ Set → round.replying ≡ Use → round.asked_unseen ≡ false → round.reply_unseen ≡ false → round.asked ≡ round.heard → round.replied ≡ round.answered → IsAt V round
  request : (v : V) → round.asking ≡ Use → round.replying ≡ Use → round.asked_unseen ≡ true → round.reply_unseen ≡ false → round.last ≡ Some v →
      round.asked ≡ v ∷ round.heard → round.replied ≡ round.answered → IsAt V round
  hearing : round.asking ≡ Use → round.replying ≡ Set → round.asked_unseen ≡ false → round.reply_unseen ≡ false → round.asked ≡ round.heard → round.replied ≡ round.answered → IsAt V round
  reply : (v : V) → round.asking ≡ Use → round.replying ≡ Use → round.asked_unseen ≡ false → round.reply_unseen ≡ true → round.last ≡ Some v →
      round.asked ≡ round.heard → round.replied ≡ v ∷ round.answered → IsAt V round

-- a set by the side that asks, in its turn
asks : {V : Type 0} (v : V) (round : Round V) → Set ≡ round.asking → IsAt V round →
    IsAt V (record round { asking = Use; asked_unseen = true; reply_unseen = false; last = Some v; asked = v ∷ round.asked })
asks v round turn (calm asking replying quiet_a quiet_r asked replied) = request v refl replying refl refl refl (ap (λ vs. v ∷ vs) asked) replied
asks v round turn (request w asking replying quiet_a quiet_r last asked replied) = absurd (let no : Set ≡ Use = turn ∙ asking in cc)
asks v round turn (hearing asking replying quiet_a quiet_r asked replied) = absurd (let no : Set ≡ Use = turn ∙ asking in cc)
asks v round turn (reply w asking replying quiet_a quiet_r last asked replied) = absurd (let no : Set ≡ Use = turn ∙ asking in cc)

-- a use by the side that replies, in its turn and not early
hears : {V : Type 0} (v : V) (round : Round V) → Use ≡ round.replying → round.asked_unseen ≡ true → round.last ≡ Some v → IsAt V round →
    IsAt V (record round { replying = Set; asked_unseen = false; heard = v ∷ round.heard })
hears v round turn unseen got (calm asking replying quiet_a quiet_r asked replied) = absurd (both_ways round.asked_unseen quiet_a unseen)
hears v round turn unseen got (request w asking replying quiet_a quiet_r last asked replied) =
    hearing asking refl refl quiet_r (asked ∙ ap (λ x. x ∷ round.heard) (same_Some w v (sym last ∙ got))) replied
hears v round turn unseen got (hearing asking replying quiet_a quiet_r asked replied) = absurd (both_ways round.asked_unseen quiet_a unseen)
hears v round turn unseen got (reply w asking replying quiet_a quiet_r last asked replied) = absurd (both_ways round.asked_unseen quiet_a unseen)

-- a set by the side that replies, in its turn
replies : {V : Type 0} (v : V) (round : Round V) → Set ≡ round.replying → IsAt V round →
    IsAt V (record round { replying = Use; asked_unseen = false; reply_unseen = true; last = Some v; replied = v ∷ round.replied })
replies v round turn (calm asking replying quiet_a quiet_r asked replied) = absurd (let no : Set ≡ Use = turn ∙ replying in cc)
replies v round turn (request w asking replying quiet_a quiet_r last asked replied) = absurd (let no : Set ≡ Use = turn ∙ replying in cc)
replies v round turn (hearing asking replying quiet_a quiet_r asked replied) = reply v asking refl refl refl refl asked (ap (λ vs. v ∷ vs) replied)
replies v round turn (reply w asking replying quiet_a quiet_r last asked replied) = absurd (let no : Set ≡ Use = turn ∙ replying in cc)

-- a use by the side that asks, in its turn and not early
is_answered : {V : Type 0} (v : V) (round : Round V) → Use ≡ round.asking → round.reply_unseen ≡ true → round.last ≡ Some v → IsAt V round →
    IsAt V (record round { asking = Set; reply_unseen = false; answered = v ∷ round.answered })
is_answered v round turn unseen got (calm asking replying quiet_a quiet_r asked replied) = absurd (both_ways round.reply_unseen quiet_r unseen)
is_answered v round turn unseen got (request w asking replying quiet_a quiet_r last asked replied) = absurd (both_ways round.reply_unseen quiet_r unseen)
is_answered v round turn unseen got (hearing asking replying quiet_a quiet_r asked replied) = absurd (both_ways round.reply_unseen quiet_r unseen)
is_answered v round turn unseen got (reply w asking replying quiet_a quiet_r last asked replied) =
    calm refl replying quiet_a refl asked (replied ∙ ap (λ x. x ∷ round.answered) (same_Some w v (sym last ∙ got)))

-- how far the exchange is that a side began
abbrev pub round_of : {V : Type 0} → Side → Story V → Story V → Round V
round_of side stretch before = record {
  asking = kind_in_turn Set side stretch;
  replying = kind_in_turn Use (other_side side) stretch;
  asked_unseen = is_unseen side (stretch ++ before);
  reply_unseen = is_unseen (other_side side) (stretch ++ before);
  last = last_value (stretch ++ before);
  asked = set_by side stretch;
  heard = used_by (other_side side) stretch;
  replied = set_by (other_side side) stretch;
  answered = used_by side stretch;
}

same_kind-is : (one other : Kind) → same_kind one other ≡ true → one ≡ other
same_kind-is Set Set h = refl
same_kind-is Use Use h = refl
same_kind-is Set Use h = cc
same_kind-is Use Set h = cc

-- one access more, by whose it is and whose turn it is
next_round : {V : Type 0} (side who : Side) (kind : Kind) (v : V) (stretch before : Story V) →
    (not (same_side who side) || same_kind kind (kind_in_turn Set side stretch)) ≡ true →
    (not (same_side who (other_side side)) || same_kind kind (kind_in_turn Use (other_side side) stretch)) ≡ true →
    (who ≡ A → kind ≡ Use → is_early (stretch ++ before) A Use ≡ false) → (who ≡ B → kind ≡ Use → is_early (stretch ++ before) B Use ≡ false) →
    (kind ≡ Use → last_value (stretch ++ before) ≡ Some v) →
    IsAt V (round_of side stretch before) → IsAt V (round_of side (record { side = who; kind = kind; value = v } ∷ stretch) before)
next_round {V} side who kind v stretch before = by side who kind
  where
    told : Story V
    told = stretch ++ before

    -- a use makes the other side's set seen
    seen : (s : Side) (round : Round V) → IsAt V (record round { asked_unseen = false }) → is_unseen s (record { side = other_side s; kind = Use; value = v } ∷ told) ≡ false →
        IsAt V (record round { asked_unseen = is_unseen s (record { side = other_side s; kind = Use; value = v } ∷ told) })
    seen s round at is = subst (λ b. IsAt V (record round { asked_unseen = b })) (sym is) at

    reply_seen : (s : Side) (round : Round V) → IsAt V (record round { reply_unseen = false }) → is_unseen s (record { side = other_side s; kind = Use; value = v } ∷ told) ≡ false →
        IsAt V (record round { reply_unseen = is_unseen s (record { side = other_side s; kind = Use; value = v } ∷ told) })
    reply_seen s round at is = subst (λ b. IsAt V (record round { reply_unseen = b })) (sym is) at

    by : (s w : Side) (k : Kind) → (not (same_side w s) || same_kind k (kind_in_turn Set s stretch)) ≡ true →
        (not (same_side w (other_side s)) || same_kind k (kind_in_turn Use (other_side s) stretch)) ≡ true →
        (w ≡ A → k ≡ Use → is_early told A Use ≡ false) → (w ≡ B → k ≡ Use → is_early told B Use ≡ false) → (k ≡ Use → last_value told ≡ Some v) →
        IsAt V (round_of s stretch before) → IsAt V (round_of s (record { side = w; kind = k; value = v } ∷ stretch) before)
    by A A Set own others late_a late_b last at = asks v (round_of A stretch before) (same_kind-is Set (kind_in_turn Set A stretch) own) at
    by B B Set own others late_a late_b last at = asks v (round_of B stretch before) (same_kind-is Set (kind_in_turn Set B stretch) own) at
    by A B Set own others late_a late_b last at = replies v (round_of A stretch before) (same_kind-is Set (kind_in_turn Use B stretch) others) at
    by B A Set own others late_a late_b last at = replies v (round_of B stretch before) (same_kind-is Set (kind_in_turn Use A stretch) others) at
    by A A Use own others late_a late_b last at =
        reply_seen B (round_of A (record { side = A; kind = Use; value = v } ∷ stretch) before)
        (is_answered v (round_of A stretch before) (same_kind-is Use (kind_in_turn Set A stretch) own) (not-false (is_unseen B told) (late_a refl refl)) (last refl) at)
        (is_unseen_others_use B v told)
    by B B Use own others late_a late_b last at =
        reply_seen A (round_of B (record { side = B; kind = Use; value = v } ∷ stretch) before)
        (is_answered v (round_of B stretch before) (same_kind-is Use (kind_in_turn Set B stretch) own) (not-false (is_unseen A told) (late_b refl refl)) (last refl) at)
        (is_unseen_others_use A v told)
    by A B Use own others late_a late_b last at =
        seen A (round_of A (record { side = B; kind = Use; value = v } ∷ stretch) before)
        (hears v (round_of A stretch before) (same_kind-is Use (kind_in_turn Use B stretch) others) (not-false (is_unseen A told) (late_b refl refl)) (last refl) at)
        (is_unseen_others_use A v told)
    by B A Use own others late_a late_b last at =
        seen B (round_of B (record { side = A; kind = Use; value = v } ∷ stretch) before)
        (hears v (round_of B stretch before) (same_kind-is Use (kind_in_turn Use A stretch) others) (not-false (is_unseen B told) (late_a refl refl)) (last refl) at)
        (is_unseen_others_use B v told)

-- the exchange after a stretch at whose start nothing was unseen
pub exchange_is_at : {V : Type 0} (side : Side) (stretch before : Story V) → is_unseen side before ≡ false → is_unseen (other_side side) before ≡ false →
    takes_turns Set side stretch ≡ true → takes_turns Use (other_side side) stretch ≡ true →
    NeverEarly A Use stretch before → NeverEarly B Use stretch before → UsesGetLast stretch before → IsAt V (round_of side stretch before)
exchange_is_at side [] before quiet_a quiet_r own others late_a late_b last = calm refl refl quiet_a quiet_r refl refl
exchange_is_at side (access ∷ stretch) before quiet_a quiet_r own others late_a late_b last =
    let turn = and_parts (not (same_side access.side side) || same_kind access.kind (kind_in_turn Set side stretch)) (takes_turns Set side stretch) own in
    let turn' = and_parts (not (same_side access.side (other_side side)) || same_kind access.kind (kind_in_turn Use (other_side side) stretch)) (takes_turns Use (other_side side) stretch) others in
    next_round side access.side access.kind access.value stretch before turn.0 turn'.0 late_a.0 late_b.0 last.0
    (exchange_is_at side stretch before quiet_a quiet_r turn.1 turn'.1 late_a.1 late_b.1 last.1)

-- so each value that a side set is used, but for the unseen one
pub each_is_used : {V : Type 0} (side : Side) (stretch before : Story V) → IsAt V (round_of side stretch before) →
    (set_by side stretch ≡ unseen_value side (stretch ++ before) ++ used_by (other_side side) stretch)
    × (set_by (other_side side) stretch ≡ unseen_value (other_side side) (stretch ++ before) ++ used_by side stretch)
each_is_used {V} side stretch before at = by at
  where
    other : Side
    other = other_side side

    told : Story V
    told = stretch ++ before

    none : (s : Side) (sets uses : List V) → is_unseen s told ≡ false → sets ≡ uses → sets ≡ unseen_value s told ++ uses
    none s sets uses seen same = same ∙ sym (ap (λ (vs : List V). vs ++ uses) (unseen_value-none s told seen))

    some : (s : Side) (sets uses : List V) (v : V) → is_unseen s told ≡ true → last_value told ≡ Some v → sets ≡ v ∷ uses → sets ≡ unseen_value s told ++ uses
    some s sets uses v unseen last same = same ∙ sym (ap (λ (vs : List V). vs ++ uses) (unseen_value-some s told v unseen last))

    by : IsAt V (round_of side stretch before) →
        (set_by side stretch ≡ unseen_value side told ++ used_by other stretch) × (set_by other stretch ≡ unseen_value other told ++ used_by side stretch)
    by (calm asking replying quiet_a quiet_r asked replied) = (none side _ _ quiet_a asked, none other _ _ quiet_r replied)
    by (request v asking replying unseen quiet_r last asked replied) = (some side _ _ v unseen last asked, none other _ _ quiet_r replied)
    by (hearing asking replying quiet_a quiet_r asked replied) = (none side _ _ quiet_a asked, none other _ _ quiet_r replied)
    by (reply v asking replying quiet_a unseen last asked replied) = (none side _ _ quiet_a asked, some other _ _ v unseen last replied)

-- what stands at a number in the front of a list
at_front : {V : Type 0} (xs ys : List V) (k : ℕ) → k < length xs → slice_get (xs ++ ys) k ≡ slice_get xs k
at_front [] ys k within = absurd (omega (arith, within))
at_front (x ∷ xs) ys zero within = refl
at_front (x ∷ xs) ys (suc k) within = at_front xs ys k (omega (arith, within))

-- values with newer ones on top have the same numbers, counted from the oldest
pub same_by_number : (more older all : List PlainArray) (k : ℕ) → all ≡ more ++ older → k < length older → from_the_oldest older k ≡ from_the_oldest all k
same_by_number more older all k is within =
    let turned : reverse all ≡ reverse older ++ reverse more = ap reverse is ∙ reverse-append more older in
    sym (at_front (reverse older) (reverse more) k (omega (arith, within, length-reverse older))) ∙ ap (λ (vs : List PlainArray). slice_get vs k) (sym turned)
