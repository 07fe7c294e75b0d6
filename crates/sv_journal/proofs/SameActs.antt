-- The texts of acts are read in one way.
use Rattle.std.proofs.Common.{◌≡◌, ℕ, ◌+◌, ◌*◌, ◌<◌, ◌^◌, Bool, true, false, not, ◌&&◌, ◌||◌, eqb, codes, map, Option, List, [], ◌∷◌, ◌++◌, get_or, refl, sym, ap, ◌∙◌, append-nil, append_assoc, arith}
use Rattle.std.proofs.lemmas.Bool.{false≢true}
use Rattle.std.proofs.lemmas.List.Elements.{recursion_from_All}
use Rattle.std.specs.Fmt.{decimal}
use Rattle.std.specs.List.{flat_map, AllByRecursion}
use Rattle.apl_arrays.specs.Array.{PlainArray}
use Rattle.apl_arrays.specs.Glyph.{is_digit, is_letter}
use Rattle.apl_arrays.specs.Name.{IsName, goes_on}
use Rattle.apl_arrays.proofs.Names.{name_parts, name_goes_on}
use Rattle.sv_access.specs.declared.control.Control.{Control}
use Rattle.sv_access.specs.declared.verdict.Owners.{Owners}
use Rattle.sv_access.specs.declared.verdict.Owners.TheVariants.{Mine, Partner, Both}
use Rattle.sv_events.specs.Answer.{PlainAnswer, degree, granted, value, no_value, held, abandoned, not_shared, offer_limit, full, vector, parties, names, kept, done}
use Rattle.sv_events.specs.Entry.{PlainEntry}
use Rattle.sv_events.specs.declared.event.Act.{Act}
use Rattle.sv_events.specs.declared.event.Act.TheVariants.{Offer, Retract, SetControl, AskControl, AskState, AskDegree, AskParties, AskNames, Set, Use, Leave}
use Rattle.sv_events.specs.declared.event.Hold.{Hold}
use Rattle.sv_events.specs.declared.entry.Pair.{Pair}
use Rattle.sv_journal.specs.EntryText.{bit_text, control_text, owners_text, hold_text, act_text, answer_text, pair_text, entry_text}
use Rattle.sv_journal.specs.Printable.{IsPrintableAct, IsPrintableAnswer, IsPrintablePair, IsPrintableEntry}
use Rattle.sv_text.specs.ValueText.{array_text, value_text}
use Rattle.line_text.proofs.SameNumbers.{starts_number, begins_count, ends_numbers, no_digit_here, same_count, LikeNumbers, same_spaced}
use Rattle.line_text.proofs.Spaced.{spaced_is}
use Rattle.line_text.specs.Spaced.{spaced}
use Rattle.sv_text.proofs.SameValues.{EndsValue, same_array, same_value}
use Rattle.apl_arrays.specs.Run.{begins}
use Rattle.line_text.proofs.Spans.{same_span, Reads, same_list}

-- names

same_name : (xs ys rest left : List ℕ) → IsName xs → IsName ys → xs ++ (32 ∷ rest) ≡ ys ++ (32 ∷ left) → (xs ≡ ys) × (rest ≡ left)
same_name xs ys rest left a b e =
    let same = same_span goes_on xs ys (32 ∷ rest) (32 ∷ left) (name_goes_on xs a) (name_goes_on ys b) refl refl e in
    (same.0, let after : rest ≡ left = cc same.1 in after)

-- a count, and what stands after a blank
pub same_count_first : (m n : ℕ) (rest left : List ℕ) → m < 2 ^ 64 → n < 2 ^ 64 → decimal m ++ (32 ∷ rest) ≡ decimal n ++ (32 ∷ left) → (m ≡ n) × (rest ≡ left)
same_count_first m n rest left a b e =
    let same = same_count m n (32 ∷ rest) (32 ∷ left) a b refl refl e in
    (same.0, let after : rest ≡ left = cc same.1 in after)

-- the elements of controls and states

abbrev AnyBit : Bool → Type 0
AnyBit bit = Unit {0}

starts_bit : (bit : Bool) (rest : List ℕ) → AnyBit bit → begins starts_number (bit_text bit ++ rest) ≡ true
starts_bit true rest a = refl
starts_bit false rest a = refl

same_bit : (x y : Bool) (rest left : List ℕ) → AnyBit x → AnyBit y → begins is_digit rest ≡ false → begins is_digit left ≡ false → bit_text x ++ rest ≡ bit_text y ++ left → (x ≡ y) × (rest ≡ left)
same_bit true true rest left a b stop halt e = (refl, cc)
same_bit false false rest left a b stop halt e = (refl, cc)
same_bit x y rest left a b stop halt e = absurd (omega (arith, ap (λ text. get_or text 0 0) e))

bits_are_like_numbers : LikeNumbers bit_text AnyBit
bits_are_like_numbers = record { starts = starts_bit; split = same_bit }

any_bits : (bits : List Bool) → AllByRecursion AnyBit bits
any_bits [] = tt
any_bits (x ∷ xs) = (tt, any_bits xs)

control_of : List Bool → Control
control_of bits = record { 0 = bits }

pub same_control : (c d : Control) (rest left : List ℕ) → ends_numbers rest ≡ true → ends_numbers left ≡ true → control_text c ++ rest ≡ control_text d ++ left → (c ≡ d) × (rest ≡ left)
unfolding control_of
same_control c d rest left stop halt e =
    let same = same_spaced bit_text AnyBit bits_are_like_numbers c.0 d.0 rest left (any_bits c.0) (any_bits d.0) stop halt e in
    (ap control_of same.0, same.1)

-- acts, which ` :` follows

ends_act : (more : List ℕ) → EndsValue (32 ∷ 58 ∷ more)
ends_act more = record { numbers = refl; quotes = refl }

same_offer : (m n : ℕ) (k l s t : List ℕ) (u v : Option PlainArray) (more other : List ℕ) → IsPrintableAct (Offer m k s u) → IsPrintableAct (Offer n l t v) → act_text (Offer m k s u) ++ (32 ∷ 58 ∷ more) ≡ act_text (Offer n l t v) ++ (32 ∷ 58 ∷ other) → (Offer m k s u ≡ Offer n l t v) × (more ≡ other)
same_offer m n k l s t u v more other p q e =
    let rest : List ℕ = 32 ∷ 58 ∷ more in
    let left : List ℕ = 32 ∷ 58 ∷ other in
    let inner : (decimal m ++ 32 ∷ (k ++ 32 ∷ (s ++ 32 ∷ value_text u))) ++ rest ≡ (decimal n ++ 32 ∷ (l ++ 32 ∷ (t ++ 32 ∷ value_text v))) ++ left = cc in
    let counts = same_count_first m n ((k ++ 32 ∷ (s ++ 32 ∷ value_text u)) ++ rest) ((l ++ 32 ∷ (t ++ 32 ∷ value_text v)) ++ left) (omega (arith, p.0)) (omega (arith, q.0)) (sym (append_assoc (decimal m) (32 ∷ (k ++ 32 ∷ (s ++ 32 ∷ value_text u))) rest) ∙ (inner ∙ append_assoc (decimal n) (32 ∷ (l ++ 32 ∷ (t ++ 32 ∷ value_text v))) left)) in
    let locals = same_name k l ((s ++ 32 ∷ value_text u) ++ rest) ((t ++ 32 ∷ value_text v) ++ left) p.1 q.1 (sym (append_assoc k (32 ∷ (s ++ 32 ∷ value_text u)) rest) ∙ (counts.1 ∙ append_assoc l (32 ∷ (t ++ 32 ∷ value_text v)) left)) in
    let surrogates = same_name s t (value_text u ++ rest) (value_text v ++ left) p.2 q.2 (sym (append_assoc s (32 ∷ value_text u) rest) ∙ (locals.1 ∙ append_assoc t (32 ∷ value_text v) left)) in
    let values = same_value u v rest left p.3 q.3 (ends_act more) (ends_act other) surrogates.1 in
    (cc (counts.0, locals.0, surrogates.0, values.0), let after : more ≡ other = cc values.1 in after)

same_set : (k l : List ℕ) (u v : PlainArray) (more other : List ℕ) → IsPrintableAct (Set k u) → IsPrintableAct (Set l v) → act_text (Set k u) ++ (32 ∷ 58 ∷ more) ≡ act_text (Set l v) ++ (32 ∷ 58 ∷ other) → (Set k u ≡ Set l v) × (more ≡ other)
same_set k l u v more other p q e =
    let rest : List ℕ = 32 ∷ 58 ∷ more in
    let left : List ℕ = 32 ∷ 58 ∷ other in
    let inner : (k ++ 32 ∷ array_text u) ++ rest ≡ (l ++ 32 ∷ array_text v) ++ left = cc in
    let called = same_name k l (array_text u ++ rest) (array_text v ++ left) p.0 q.0 (sym (append_assoc k (32 ∷ array_text u) rest) ∙ (inner ∙ append_assoc l (32 ∷ array_text v) left)) in
    let values = same_array u v rest left p.1 q.1 (ends_act more) (ends_act other) called.1 in
    (cc (called.0, values.0), let after : more ≡ other = cc values.1 in after)

same_retract : (k l : List ℕ) (more other : List ℕ) → IsName k → IsName l → act_text (Retract k) ++ (32 ∷ 58 ∷ more) ≡ act_text (Retract l) ++ (32 ∷ 58 ∷ other) → (Retract k ≡ Retract l) × (more ≡ other)
same_retract k l more other p q e =
    let inner : k ++ (32 ∷ 58 ∷ more) ≡ l ++ (32 ∷ 58 ∷ other) = cc in
    let called = same_name k l (58 ∷ more) (58 ∷ other) p q inner in
    (cc called.0, let after : more ≡ other = cc called.1 in after)

same_ask_control : (k l : List ℕ) (more other : List ℕ) → IsName k → IsName l → act_text (AskControl k) ++ (32 ∷ 58 ∷ more) ≡ act_text (AskControl l) ++ (32 ∷ 58 ∷ other) → (AskControl k ≡ AskControl l) × (more ≡ other)
same_ask_control k l more other p q e =
    let inner : k ++ (32 ∷ 58 ∷ more) ≡ l ++ (32 ∷ 58 ∷ other) = cc in
    let called = same_name k l (58 ∷ more) (58 ∷ other) p q inner in
    (cc called.0, let after : more ≡ other = cc called.1 in after)

same_ask_state : (k l : List ℕ) (more other : List ℕ) → IsName k → IsName l → act_text (AskState k) ++ (32 ∷ 58 ∷ more) ≡ act_text (AskState l) ++ (32 ∷ 58 ∷ other) → (AskState k ≡ AskState l) × (more ≡ other)
same_ask_state k l more other p q e =
    let inner : k ++ (32 ∷ 58 ∷ more) ≡ l ++ (32 ∷ 58 ∷ other) = cc in
    let called = same_name k l (58 ∷ more) (58 ∷ other) p q inner in
    (cc called.0, let after : more ≡ other = cc called.1 in after)

same_ask_degree : (k l : List ℕ) (more other : List ℕ) → IsName k → IsName l → act_text (AskDegree k) ++ (32 ∷ 58 ∷ more) ≡ act_text (AskDegree l) ++ (32 ∷ 58 ∷ other) → (AskDegree k ≡ AskDegree l) × (more ≡ other)
same_ask_degree k l more other p q e =
    let inner : k ++ (32 ∷ 58 ∷ more) ≡ l ++ (32 ∷ 58 ∷ other) = cc in
    let called = same_name k l (58 ∷ more) (58 ∷ other) p q inner in
    (cc called.0, let after : more ≡ other = cc called.1 in after)

same_use : (k l : List ℕ) (more other : List ℕ) → IsName k → IsName l → act_text (Use k) ++ (32 ∷ 58 ∷ more) ≡ act_text (Use l) ++ (32 ∷ 58 ∷ other) → (Use k ≡ Use l) × (more ≡ other)
same_use k l more other p q e =
    let inner : k ++ (32 ∷ 58 ∷ more) ≡ l ++ (32 ∷ 58 ∷ other) = cc in
    let called = same_name k l (58 ∷ more) (58 ∷ other) p q inner in
    (cc called.0, let after : more ≡ other = cc called.1 in after)

same_set_control : (k l : List ℕ) (c d : Control) (more other : List ℕ) → IsName k → IsName l → act_text (SetControl k c) ++ (32 ∷ 58 ∷ more) ≡ act_text (SetControl l d) ++ (32 ∷ 58 ∷ other) → (SetControl k c ≡ SetControl l d) × (more ≡ other)
same_set_control k l c d more other p q e =
    let rest : List ℕ = 32 ∷ 58 ∷ more in
    let left : List ℕ = 32 ∷ 58 ∷ other in
    let inner : (k ++ 32 ∷ control_text c) ++ rest ≡ (l ++ 32 ∷ control_text d) ++ left = cc in
    let called = same_name k l (control_text c ++ rest) (control_text d ++ left) p q (sym (append_assoc k (32 ∷ control_text c) rest) ∙ (inner ∙ append_assoc l (32 ∷ control_text d) left)) in
    let controls = same_control c d rest left refl refl called.1 in
    (cc (called.0, controls.0), let after : more ≡ other = cc controls.1 in after)

same_ask_names : (m n : ℕ) (more other : List ℕ) → m < 2 ^ 64 → n < 2 ^ 64 → act_text (AskNames m) ++ (32 ∷ 58 ∷ more) ≡ act_text (AskNames n) ++ (32 ∷ 58 ∷ other) → (AskNames m ≡ AskNames n) × (more ≡ other)
same_ask_names m n more other p q e =
    let inner : decimal m ++ (32 ∷ 58 ∷ more) ≡ decimal n ++ (32 ∷ 58 ∷ other) = cc in
    let counts = same_count_first m n (58 ∷ more) (58 ∷ other) p q inner in
    (cc counts.0, let after : more ≡ other = cc counts.1 in after)

-- two letters of the word, in one number
abbrev two_letters : List ℕ → ℕ
two_letters text = get_or text 0 0 * 256 + get_or text 3 0

pub same_act : (a b : Act) (more other : List ℕ) → IsPrintableAct a → IsPrintableAct b → act_text a ++ (32 ∷ 58 ∷ more) ≡ act_text b ++ (32 ∷ 58 ∷ other) → (a ≡ b) × (more ≡ other)
same_act (Offer m k s u) (Offer n l t v) more other p q e = same_offer m n k l s t u v more other p q e
same_act (Set k u) (Set l v) more other p q e = same_set k l u v more other p q e
same_act (Retract k) (Retract l) more other p q e = same_retract k l more other p q e
same_act (SetControl k c) (SetControl l d) more other p q e = same_set_control k l c d more other p.0 q.0 e
same_act (AskControl k) (AskControl l) more other p q e = same_ask_control k l more other p q e
same_act (AskState k) (AskState l) more other p q e = same_ask_state k l more other p q e
same_act (AskDegree k) (AskDegree l) more other p q e = same_ask_degree k l more other p q e
same_act AskParties AskParties more other p q e = (refl, cc)
same_act (AskNames m) (AskNames n) more other p q e = same_ask_names m n more other p q e
same_act (Use k) (Use l) more other p q e = same_use k l more other p q e
same_act Leave Leave more other p q e = (refl, cc)
same_act a b more other p q e = absurd (omega (arith, ap two_letters e))
