-- What `==` says of pairs, arrays, answers and acts.
use Rattle.std.proofs.Common.{◌≡◌, refl, ap, ◌∙◌, ℕ, ℤ, Bool, true, false, ◌&&◌, eqb, List, Option, Some, None, Decides}
use Rattle.std.specs.Bool.{beq}
use Rattle.std.specs.Option.{option_eq}
use Rattle.std.proofs.lemmas.Bool.Decides.{Decides-eqb, Decides-int_eq, Decides-and, Decides-like}
use Rattle.std.proofs.lemmas.Slice.Eq.{slice_eq-Decides, bytes_eq-Decides}
use Rattle.std.specs.Ordering.{int_eq}
use Rattle.std.specs.Cmp.Lexicographic.{pointwise}
use Rattle.apl_arrays.specs.Array.{PlainItems, numbers, chars, PlainArray, same_items, same_array}
use Rattle.sv_access.specs.declared.control.Control.{Control}
use Rattle.sv_access.specs.declared.verdict.Owners.{Owners}
use Rattle.sv_access.specs.declared.verdict.Owners.TheVariants.{Mine, Partner, Both}
use Rattle.sv_access.specs.contracts.control.ControlPartialEq.TheImpl as control_eq
use Rattle.sv_access.specs.contracts.verdict.OwnersPartialEq.TheImpl as owners_eq
use Rattle.sv_events.specs.Answer.{degree, value, held, abandoned, vector, parties, names, kept, plain_answer}
use Rattle.sv_events.specs.declared.entry.Pair.{Pair}
use Rattle.sv_events.specs.declared.event.Answer.{Answer}
use Rattle.sv_events.specs.declared.event.Answer.TheVariants.{Degree, Granted, Value, NoValue, Held, Abandoned, NotShared, OfferLimit, Full, Vector, Parties, Names, Kept, Done}
use Rattle.sv_events.specs.declared.event.Hold.{Hold}
use Rattle.sv_events.specs.declared.event.Act.{Act}
use Rattle.sv_events.specs.declared.event.Act.TheVariants.{Offer, Retract, SetControl, AskControl, AskState, AskDegree, AskParties, AskNames, Set, Use, Leave}
use Rattle.sv_events.specs.contracts.entry.PairPartialEq.TheImpl as pair_eq
use Rattle.sv_events.specs.contracts.event.AnswerPartialEq.TheImpl as answer_eq
use Rattle.sv_events.specs.contracts.event.ActPartialEq.TheImpl as act_eq
use Rattle.sv_events.specs.contracts.event.HoldPartialEq.TheImpl as hold_eq

pub same_pair_decides : (one other : Pair) → Decides (pair_eq.eq-value.it one other) (one ≡ other)
same_pair_decides one other =
    Decides-like (eqb one.a other.a && eqb one.b other.b)
    (λ h.
    ap (λ a. let p : Pair = record { a = a; b = one.b } in p) h.0
    ∙ ap (λ b. let p : Pair = record { a = other.a; b = b } in p) h.1)
    (λ same. (ap (λ (p : Pair). p.a) same, ap (λ (p : Pair). p.b) same))
    (Decides-and (eqb one.a other.a) (eqb one.b other.b) (Decides-eqb one.a other.a) (Decides-eqb one.b other.b))

numbers_decide : (one other : List ℤ) → Decides (pointwise int_eq one other) (one ≡ other)
numbers_decide one other = slice_eq-Decides Decides-int_eq one other (pointwise int_eq one other) refl

same_items_decides : (one other : PlainItems) → Decides (same_items one other) (one ≡ other)
same_items_decides (numbers one) (numbers other) =
    Decides-like (pointwise int_eq one other && true) (λ h. ap numbers h.0) (λ same. (cc, refl))
    (Decides-and (pointwise int_eq one other) true (numbers_decide one other) ((λ h. h), (λ h. h)))
same_items_decides (numbers one) (chars other) = ((λ h. cc), (λ h. cc))
same_items_decides (chars one) (numbers other) = ((λ h. cc), (λ h. cc))
same_items_decides (chars one) (chars other) =
    Decides-like (pointwise eqb one other) (λ h. ap chars h) (λ same. cc) (bytes_eq-Decides one other)

same_array_decides : (one other : PlainArray) → Decides (same_array one other) (one ≡ other)
same_array_decides one other =
    Decides-like (pointwise eqb one.shape other.shape && same_items one.items other.items)
    (λ h.
    ap (λ shape. let a : PlainArray = record { shape = shape; items = one.items } in a) h.0
    ∙ ap (λ items. let a : PlainArray = record { shape = other.shape; items = items } in a) h.1)
    (λ same. (ap (λ (a : PlainArray). a.shape) same, ap (λ (a : PlainArray). a.items) same))
    (Decides-and (pointwise eqb one.shape other.shape) (same_items one.items other.items) (bytes_eq-Decides one.shape other.shape) (same_items_decides one.items other.items))

-- what `==` says of bits, controls and holds
beq_decides : (one other : Bool) → Decides (beq one other) (one ≡ other)
beq_decides true true = ((λ h. refl), (λ h. refl))
beq_decides true false = ((λ h. cc), (λ h. cc))
beq_decides false true = ((λ h. cc), (λ h. cc))
beq_decides false false = ((λ h. refl), (λ h. refl))

same_control_decides : (one other : Control) → Decides (control_eq.eq-value.it one other) (one ≡ other)
same_control_decides one other =
    Decides-like (pointwise beq one.0 other.0)
    (λ h. ap (λ (marks : List Bool). let c : Control = record { 0 = marks } in c) h)
    (λ same. ap (λ (c : Control). c.0) same)
    (slice_eq-Decides beq_decides one.0 other.0 (pointwise beq one.0 other.0) refl)

same_owners_decides : (one other : Owners) → Decides (owners_eq.eq-value.it one other) (one ≡ other)
same_owners_decides Mine Mine = ((λ h. refl), (λ h. refl))
same_owners_decides Partner Partner = ((λ h. refl), (λ h. refl))
same_owners_decides Both Both = ((λ h. refl), (λ h. refl))
same_owners_decides _ _ = ((λ h. cc), (λ h. cc))

same_hold_decides : (one other : Hold) → Decides (hold_eq.eq-value.it one other) (one ≡ other)
same_hold_decides one other =
    Decides-like (eqb one.element other.element && owners_eq.eq-value.it one.owners other.owners)
    (λ h.
    ap (λ element. let held : Hold = record { element = element; owners = one.owners } in held) h.0
    ∙ ap (λ owners. let held : Hold = record { element = other.element; owners = owners } in held) h.1)
    (λ same. (ap (λ (held : Hold). held.element) same, ap (λ (held : Hold). held.owners) same))
    (Decides-and (eqb one.element other.element) (owners_eq.eq-value.it one.owners other.owners) (Decides-eqb one.element other.element) (same_owners_decides one.owners other.owners))

-- of values that may be absent, and of lists of names
same_value_decides : (one other : Option PlainArray) → Decides (option_eq same_array one other) (one ≡ other)
same_value_decides None None = ((λ h. refl), (λ h. refl))
same_value_decides (Some one) (Some other) = Decides-like (same_array one other) (λ h. ap Some h) (λ same. cc) (same_array_decides one other)
same_value_decides None (Some other) = ((λ h. cc), (λ h. cc))
same_value_decides (Some one) None = ((λ h. cc), (λ h. cc))

same_names_decide : (one other : List (List ℕ)) → Decides (pointwise (pointwise eqb) one other) (one ≡ other)
same_names_decide one other = slice_eq-Decides bytes_eq-Decides one other (pointwise (pointwise eqb) one other) refl

pub same_answer_decides : (one other : Answer) → Decides (answer_eq.eq-value.it one other) (plain_answer one ≡ plain_answer other)
same_answer_decides (Degree one) (Degree other) =
    Decides-like (eqb one other) (λ h. ap degree h) (λ same. cc) (Decides-eqb one other)
same_answer_decides (Value one) (Value other) =
    Decides-like (same_array one other) (λ h. ap value h) (λ same. cc) (same_array_decides one other)
same_answer_decides (Held one) (Held other) =
    Decides-like (hold_eq.eq-value.it one other) (λ h. ap held h) (λ same. cc) (same_hold_decides one other)
same_answer_decides (Abandoned one) (Abandoned other) =
    Decides-like (hold_eq.eq-value.it one other) (λ h. ap abandoned h) (λ same. cc) (same_hold_decides one other)
same_answer_decides (Vector one) (Vector other) =
    Decides-like (control_eq.eq-value.it one other) (λ h. ap vector h) (λ same. cc) (same_control_decides one other)
same_answer_decides (Parties one) (Parties other) =
    Decides-like (pointwise eqb one.items other.items) (λ h. ap parties h) (λ same. cc) (bytes_eq-Decides one.items other.items)
same_answer_decides (Names one) (Names other) =
    Decides-like (pointwise (pointwise eqb) one.items other.items) (λ h. ap names h) (λ same. cc) (same_names_decide one.items other.items)
same_answer_decides (Kept one known) (Kept other knows) =
    Decides-like (eqb one other && option_eq same_array known knows)
    (λ h. ap (λ d. kept d known) h.0 ∙ ap (λ v. kept other v) h.1)
    (λ same. (cc, cc))
    (Decides-and (eqb one other) (option_eq same_array known knows) (Decides-eqb one other) (same_value_decides known knows))
same_answer_decides Granted Granted = ((λ h. refl), (λ h. refl))
same_answer_decides NoValue NoValue = ((λ h. refl), (λ h. refl))
same_answer_decides NotShared NotShared = ((λ h. refl), (λ h. refl))
same_answer_decides OfferLimit OfferLimit = ((λ h. refl), (λ h. refl))
same_answer_decides Full Full = ((λ h. refl), (λ h. refl))
same_answer_decides Done Done = ((λ h. refl), (λ h. refl))
same_answer_decides _ _ = ((λ h. cc), (λ h. cc))

same_name_decides : (one other : List ℕ) → Decides (pointwise eqb one other) (one ≡ other)
same_name_decides one other = bytes_eq-Decides one other

pub same_act_decides : (one other : Act) → Decides (act_eq.eq-value.it one other) (one ≡ other)
same_act_decides (Offer to local surrogate handed) (Offer of here under brought) =
    Decides-like (eqb to of && (pointwise eqb local here && (pointwise eqb surrogate under && option_eq same_array handed brought)))
    (λ h.
    ap (λ t. Offer t local surrogate handed) h.0 ∙ ap (λ l. Offer of l surrogate handed) (h.1).0
    ∙ ap (λ s. Offer of here s handed) ((h.1).1).0 ∙ ap (λ v. Offer of here under v) ((h.1).1).1)
    (λ same. (cc, (cc, (cc, cc))))
    (Decides-and (eqb to of) (pointwise eqb local here && (pointwise eqb surrogate under && option_eq same_array handed brought))
    (Decides-eqb to of)
    (Decides-and (pointwise eqb local here) (pointwise eqb surrogate under && option_eq same_array handed brought)
    (same_name_decides local here)
    (Decides-and (pointwise eqb surrogate under) (option_eq same_array handed brought) (same_name_decides surrogate under) (same_value_decides handed brought))))
same_act_decides (Retract one) (Retract other) =
    Decides-like (pointwise eqb one other) (λ h. ap Retract h) (λ same. cc) (same_name_decides one other)
same_act_decides (SetControl one marks) (SetControl other bits) =
    Decides-like (pointwise eqb one other && control_eq.eq-value.it marks bits)
    (λ h. ap (λ local. SetControl local marks) h.0 ∙ ap (λ c. SetControl other c) h.1)
    (λ same. (cc, cc))
    (Decides-and (pointwise eqb one other) (control_eq.eq-value.it marks bits) (same_name_decides one other) (same_control_decides marks bits))
same_act_decides (AskControl one) (AskControl other) =
    Decides-like (pointwise eqb one other) (λ h. ap AskControl h) (λ same. cc) (same_name_decides one other)
same_act_decides (AskState one) (AskState other) =
    Decides-like (pointwise eqb one other) (λ h. ap AskState h) (λ same. cc) (same_name_decides one other)
same_act_decides (AskDegree one) (AskDegree other) =
    Decides-like (pointwise eqb one other) (λ h. ap AskDegree h) (λ same. cc) (same_name_decides one other)
same_act_decides AskParties AskParties = ((λ h. refl), (λ h. refl))
same_act_decides (AskNames one) (AskNames other) =
    Decides-like (eqb one other) (λ h. ap AskNames h) (λ same. cc) (Decides-eqb one other)
same_act_decides (Set one new) (Set other brought) =
    Decides-like (pointwise eqb one other && same_array new brought)
    (λ h. ap (λ local. Set local new) h.0 ∙ ap (λ v. Set other v) h.1)
    (λ same. (cc, cc))
    (Decides-and (pointwise eqb one other) (same_array new brought) (same_name_decides one other) (same_array_decides new brought))
same_act_decides (Use one) (Use other) =
    Decides-like (pointwise eqb one other) (λ h. ap Use h) (λ same. cc) (same_name_decides one other)
same_act_decides Leave Leave = ((λ h. refl), (λ h. refl))
same_act_decides _ _ = ((λ h. cc), (λ h. cc))
