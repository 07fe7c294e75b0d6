-- The texts of entries are read in one way.
use Rattle.std.proofs.Common.{◌≡◌, ℕ, ◌+◌, ◌*◌, ◌<◌, ◌^◌, Bool, true, false, not, ◌&&◌, ◌||◌, eqb, codes, map, Option, List, [], ◌∷◌, ◌++◌, get_or, refl, sym, ap, ◌∙◌, append-nil, append_assoc, arith}
use Rattle.std.proofs.lemmas.Bool.{false≢true}
use Rattle.std.proofs.lemmas.List.Elements.{recursion_from_All}
use Rattle.std.specs.Fmt.{decimal}
use Rattle.std.specs.List.{flat_map, AllByRecursion}
use Rattle.apl_arrays.specs.Array.{PlainArray}
use Rattle.apl_arrays.specs.Glyph.{is_digit, is_letter}
use Rattle.apl_arrays.specs.Name.{IsName, goes_on}
use Rattle.apl_arrays.proofs.Names.{name_parts, name_goes_on}
use Rattle.sv_access.specs.declared.control.Control.{Control}
use Rattle.sv_access.specs.declared.verdict.Owners.{Owners}
use Rattle.sv_access.specs.declared.verdict.Owners.TheVariants.{Mine, Partner, Both}
use Rattle.sv_events.specs.Answer.{PlainAnswer, degree, granted, value, no_value, held, abandoned, not_shared, offer_limit, full, vector, parties, names, kept, done}
use Rattle.sv_events.specs.Entry.{PlainEntry}
use Rattle.sv_events.specs.declared.event.Act.{Act}
use Rattle.sv_events.specs.declared.event.Act.TheVariants.{Offer, Retract, SetControl, AskControl, AskState, AskDegree, AskParties, AskNames, Set, Use, Leave}
use Rattle.sv_events.specs.declared.event.Hold.{Hold}
use Rattle.sv_events.specs.declared.entry.Pair.{Pair}
use Rattle.sv_journal.specs.EntryText.{bit_text, control_text, owners_text, hold_text, act_text, answer_text, pair_text, entry_text}
use Rattle.sv_journal.specs.Printable.{IsPrintableAct, IsPrintableAnswer, IsPrintablePair, IsPrintableEntry}
use Rattle.sv_text.specs.ValueText.{array_text, value_text}
use Rattle.line_text.proofs.SameNumbers.{starts_number, begins_count, ends_numbers, no_digit_here, same_count, LikeNumbers, same_spaced}
use Rattle.line_text.proofs.Spaced.{spaced_is}
use Rattle.line_text.specs.Spaced.{spaced}
use Rattle.sv_text.proofs.SameValues.{EndsValue, same_array, same_value}
use Rattle.apl_arrays.specs.Run.{begins}
use Rattle.line_text.proofs.Spans.{same_span, Reads, same_list}
use Rattle.sv_journal.proofs.SameActs.{same_count_first, same_control, same_act}

-- answers, which pairs follow

-- the first three letters, in one number
abbrev first_letters : List ℕ → ℕ
first_letters text = get_or text 0 0 * 65536 + get_or text 1 0 * 256 + get_or text 2 0

same_owners : (o u : Owners) (rest left : List ℕ) → owners_text o ++ rest ≡ owners_text u ++ left → (o ≡ u) × (rest ≡ left)
same_owners Mine Mine rest left e = (refl, cc)
same_owners Partner Partner rest left e = (refl, cc)
same_owners Both Both rest left e = (refl, cc)
same_owners o u rest left e = absurd (omega (arith, ap (λ text. get_or text 0 0) e))

hold_of : ℕ → Owners → Hold
hold_of element owners = record { element = element; owners = owners }

same_hold : (g h : Hold) (rest left : List ℕ) → g.element < 2 ^ 64 → h.element < 2 ^ 64 → hold_text g ++ rest ≡ hold_text h ++ left → (g ≡ h) × (rest ≡ left)
unfolding hold_of
same_hold g h rest left p q e =
    let elements = same_count_first g.element h.element (owners_text g.owners ++ rest) (owners_text h.owners ++ left) p q (sym (append_assoc (decimal g.element) (32 ∷ owners_text g.owners) rest) ∙ (e ∙ append_assoc (decimal h.element) (32 ∷ owners_text h.owners) left)) in
    let owners = same_owners g.owners h.owners rest left elements.1 in
    (ap (λ element. hold_of element g.owners) elements.0 ∙ ap (λ o. hold_of h.element o) owners.0, owners.1)

-- a word, and each thing of a list behind a blank
pub listed : {A : Type 0} (word : List ℕ) (f : A → List ℕ) (xs : List A) → spaced (word ∷ map f xs) ≡ word ++ flat_map (λ x. 32 ∷ f x) xs
listed word f [] = sym (append-nil word)
listed word f (x ∷ xs) = ap (λ text. word ++ 32 ∷ text) (spaced_is f x xs)

-- no name goes on here: neither at once nor after one blank
abbrev pub ends_names : List ℕ → Bool
ends_names [] = true
ends_names (c ∷ cs) = not (goes_on c) && not (eqb c 32 && begins is_letter cs)

front_false : (a more : Bool) → (not a && more) ≡ true → a ≡ false
front_false true more e = absurd (false≢true e)
front_false false more e = refl

no_name_goes_on : (text : List ℕ) → ends_names text ≡ true → begins goes_on text ≡ false
no_name_goes_on [] e = refl
no_name_goes_on (c ∷ cs) e = front_false (goes_on c) (not (eqb c 32 && begins is_letter cs)) e

pub begins_letter : (name rest : List ℕ) → IsName name → begins is_letter (name ++ rest) ≡ true
begins_letter [] rest h = absurd (false≢true h)
begins_letter (x ∷ name) rest h = (name_parts x name h).0

abbrev EndsDigits : List ℕ → Type 0
EndsDigits text = begins is_digit text ≡ false

abbrev EndsNumbers : List ℕ → Type 0
EndsNumbers text = ends_numbers text ≡ true

abbrev EndsNames : List ℕ → Type 0
EndsNames text = ends_names text ≡ true

abbrev NoNameGoesOn : List ℕ → Type 0
NoNameGoesOn text = begins goes_on text ≡ false

abbrev Counted : ℕ → Type 0
Counted n = n < 2 ^ 64

starts_digit : (text : List ℕ) → begins is_digit text ≡ true → begins starts_number text ≡ true
starts_digit [] e = absurd (false≢true e)
starts_digit (c ∷ cs) e = ap (λ b. b || eqb c 152) e

parties_read : Reads (λ n. 32 ∷ decimal n) Counted EndsNumbers EndsDigits
parties_read = record {
  unlike = λ n rest left a stop e. false≢true (sym (ap not (starts_digit (decimal n ++ rest) (begins_count n rest a))) ∙ (ap ends_numbers e ∙ stop));
  split = λ m n rest left a b stop halt e. same_count m n rest left a b stop halt (let after : decimal m ++ rest ≡ decimal n ++ left = cc in after);
  last = no_digit_here;
  next = λ n rest a. refl;
}

names_read : Reads (λ name. 32 ∷ name) IsName EndsNames NoNameGoesOn
names_read = record {
  unlike = λ name rest left a stop e. false≢true (sym (ap not (begins_letter name rest a)) ∙ (ap ends_names e ∙ stop));
  split = λ k l rest left a b stop halt e. same_span goes_on k l rest left (name_goes_on k a) (name_goes_on l b) stop halt (let after : k ++ rest ≡ l ++ left = cc in after);
  last = no_name_goes_on;
  next = λ name rest a. refl;
}

same_parties : (xs ys : List ℕ) (rest left : List ℕ) → AllByRecursion Counted xs → AllByRecursion Counted ys → EndsNumbers rest → EndsNumbers left → answer_text (parties xs) ++ rest ≡ answer_text (parties ys) ++ left → (xs ≡ ys) × (rest ≡ left)
same_parties xs ys rest left p q stop halt e =
    let whole : (codes "parties" ++ flat_map (λ n. 32 ∷ decimal n) xs) ++ rest ≡ (codes "parties" ++ flat_map (λ n. 32 ∷ decimal n) ys) ++ left =
    ap (λ text. text ++ rest) (sym (listed (codes "parties") decimal xs)) ∙ (e ∙ ap (λ text. text ++ left) (listed (codes "parties") decimal ys)) in
    let inner : flat_map (λ n. 32 ∷ decimal n) xs ++ rest ≡ flat_map (λ n. 32 ∷ decimal n) ys ++ left = cc in
    same_list (λ n. 32 ∷ decimal n) Counted EndsNumbers EndsDigits parties_read xs ys rest left p q stop halt inner

pub names_listed : (xs : List (List ℕ)) → answer_text (names xs) ≡ codes "names" ++ flat_map (λ name. 32 ∷ name) xs
names_listed xs = ap (λ texts. spaced (codes "names" ∷ texts)) (sym (map_same xs)) ∙ listed (codes "names") (λ name. name) xs
  where
    map_same : (texts : List (List ℕ)) → map (λ name. name) texts ≡ texts
    map_same [] = refl
    map_same (x ∷ texts) = ap (λ more. x ∷ more) (map_same texts)

same_names : (xs ys : List (List ℕ)) (rest left : List ℕ) → AllByRecursion IsName xs → AllByRecursion IsName ys → EndsNames rest → EndsNames left → answer_text (names xs) ++ rest ≡ answer_text (names ys) ++ left → (xs ≡ ys) × (rest ≡ left)
same_names xs ys rest left p q stop halt e =
    let whole : (codes "names" ++ flat_map (λ name. 32 ∷ name) xs) ++ rest ≡ (codes "names" ++ flat_map (λ name. 32 ∷ name) ys) ++ left =
    ap (λ text. text ++ rest) (sym (names_listed xs)) ∙ (e ∙ ap (λ text. text ++ left) (names_listed ys)) in
    let inner : flat_map (λ name. 32 ∷ name) xs ++ rest ≡ flat_map (λ name. 32 ∷ name) ys ++ left = cc in
    same_list (λ name. 32 ∷ name) IsName EndsNames NoNameGoesOn names_read xs ys rest left p q stop halt inner

same_kept : (m n : ℕ) (u v : Option PlainArray) (rest left : List ℕ) → IsPrintableAnswer (kept m u) → IsPrintableAnswer (kept n v) → EndsValue rest → EndsValue left → answer_text (kept m u) ++ rest ≡ answer_text (kept n v) ++ left → (kept m u ≡ kept n v) × (rest ≡ left)
same_kept m n u v rest left p q stop halt e =
    let inner : (decimal m ++ 32 ∷ value_text u) ++ rest ≡ (decimal n ++ 32 ∷ value_text v) ++ left = cc in
    let counts = same_count_first m n (value_text u ++ rest) (value_text v ++ left) p.0 q.0 (sym (append_assoc (decimal m) (32 ∷ value_text u) rest) ∙ (inner ∙ append_assoc (decimal n) (32 ∷ value_text v) left)) in
    let values = same_value u v rest left p.1 q.1 stop halt counts.1 in
    (ap (λ d. kept d u) counts.0 ∙ ap (kept n) values.0, values.1)

-- pairs or nothing: no number, quote or name goes on here
record EndsAnswer (text : List ℕ) : Type 0 where
  value : EndsValue text
  name : EndsNames text

-- an answer's word
abbrev word_of : PlainAnswer → List ℕ
word_of (degree d) = codes "degree"
word_of granted = codes "granted"
word_of (value got) = codes "value"
word_of no_value = codes "novalue"
word_of (held hold) = codes "held"
word_of (abandoned hold) = codes "abandoned"
word_of not_shared = codes "notshared"
word_of offer_limit = codes "limit"
word_of full = codes "full"
word_of (vector control) = codes "vector"
word_of (parties list) = codes "parties"
word_of (names list) = codes "names"
word_of (kept d known) = codes "kept"
word_of done = codes "done"

letters_of_word : (a : PlainAnswer) (rest : List ℕ) → first_letters (answer_text a ++ rest) ≡ first_letters (word_of a)
letters_of_word (degree d) rest = refl
letters_of_word granted rest = refl
letters_of_word (value got) rest = refl
letters_of_word no_value rest = refl
letters_of_word (held hold) rest = refl
letters_of_word (abandoned hold) rest = refl
letters_of_word not_shared rest = refl
letters_of_word offer_limit rest = refl
letters_of_word full rest = refl
letters_of_word (vector control) rest = refl
letters_of_word (parties list) rest = ap (λ text. first_letters (text ++ rest)) (listed (codes "parties") decimal list)
letters_of_word (names list) rest = ap (λ text. first_letters (text ++ rest)) (names_listed list)
letters_of_word (kept d known) rest = refl
letters_of_word done rest = refl

same_answer : (a b : PlainAnswer) (rest left : List ℕ) → IsPrintableAnswer a → IsPrintableAnswer b → EndsAnswer rest → EndsAnswer left → answer_text a ++ rest ≡ answer_text b ++ left → (a ≡ b) × (rest ≡ left)
same_answer (degree m) (degree n) rest left p q stop halt e =
    let inner : decimal m ++ rest ≡ decimal n ++ left = cc in
    let same = same_count m n rest left (omega (arith, p)) (omega (arith, q)) (no_digit_here rest stop.value.numbers) (no_digit_here left halt.value.numbers) inner in
    (ap degree same.0, same.1)
same_answer (value u) (value v) rest left p q stop halt e =
    let inner : array_text u ++ rest ≡ array_text v ++ left = cc in
    let same = same_array u v rest left p q stop.value halt.value inner in
    (ap value same.0, same.1)
same_answer granted granted rest left p q stop halt e = (refl, cc)
same_answer no_value no_value rest left p q stop halt e = (refl, cc)
same_answer (held g) (held h) rest left p q stop halt e =
    let inner : hold_text g ++ rest ≡ hold_text h ++ left = cc in
    let same = same_hold g h rest left p q inner in
    (ap held same.0, same.1)
same_answer (abandoned g) (abandoned h) rest left p q stop halt e =
    let inner : hold_text g ++ rest ≡ hold_text h ++ left = cc in
    let same = same_hold g h rest left p q inner in
    (ap abandoned same.0, same.1)
same_answer (vector c) (vector d) rest left p q stop halt e =
    let inner : control_text c ++ rest ≡ control_text d ++ left = cc in
    let same = same_control c d rest left stop.value.numbers halt.value.numbers inner in
    (ap vector same.0, same.1)
same_answer (parties xs) (parties ys) rest left p q stop halt e =
    let same = same_parties xs ys rest left (recursion_from_All Counted xs p) (recursion_from_All Counted ys q) stop.value.numbers halt.value.numbers e in
    (ap parties same.0, same.1)
same_answer (names xs) (names ys) rest left p q stop halt e =
    let same = same_names xs ys rest left (recursion_from_All IsName xs p) (recursion_from_All IsName ys q) stop.name halt.name e in
    (ap names same.0, same.1)
same_answer (kept m u) (kept n v) rest left p q stop halt e = same_kept m n u v rest left p q stop.value halt.value e
same_answer not_shared not_shared rest left p q stop halt e = (refl, cc)
same_answer offer_limit offer_limit rest left p q stop halt e = (refl, cc)
same_answer full full rest left p q stop halt e = (refl, cc)
same_answer done done rest left p q stop halt e = (refl, cc)
same_answer a b rest left p q stop halt e =
    let letters : first_letters (word_of a) ≡ first_letters (word_of b) = sym (letters_of_word a rest) ∙ (ap first_letters e ∙ letters_of_word b left) in
    absurd (omega (arith, letters))

-- pairs, up to the end of the line

abbrev IsNothing : List ℕ → Type 0
IsNothing text = text ≡ []

no_pair : (pair : Pair) (rest left : List ℕ) → IsNothing left → pair_text pair ++ rest ≡ left → ⊥
no_pair pair rest left stop e = cc

pair_of : ℕ → ℕ → Pair
pair_of a b = record { a = a; b = b }

same_pair : (x y : Pair) (rest left : List ℕ) → IsPrintablePair x → IsPrintablePair y → EndsDigits rest → EndsDigits left → pair_text x ++ rest ≡ pair_text y ++ left → (x ≡ y) × (rest ≡ left)
unfolding pair_of
same_pair x y rest left p q stop halt e =
    let inner : (decimal x.a ++ 32 ∷ decimal x.b) ++ rest ≡ (decimal y.a ++ 32 ∷ decimal y.b) ++ left = cc in
    let lower = same_count_first x.a y.a (decimal x.b ++ rest) (decimal y.b ++ left) p.a q.a (sym (append_assoc (decimal x.a) (32 ∷ decimal x.b) rest) ∙ (inner ∙ append_assoc (decimal y.a) (32 ∷ decimal y.b) left)) in
    let higher = same_count x.b y.b rest left p.b q.b stop halt lower.1 in
    (ap (λ a. pair_of a x.b) lower.0 ∙ ap (λ b. pair_of y.a b) higher.0, higher.1)

pairs_read : Reads pair_text IsPrintablePair IsNothing EndsDigits
pairs_read = record {
  unlike = λ pair rest left a stop e. no_pair pair rest left stop e;
  split = same_pair;
  last = λ rest stop. ap (begins is_digit) stop;
  next = λ pair rest a. refl;
}

same_pairs : (xs ys : List Pair) → AllByRecursion IsPrintablePair xs → AllByRecursion IsPrintablePair ys → flat_map pair_text xs ≡ flat_map pair_text ys → xs ≡ ys
same_pairs xs ys p q e =
    (same_list pair_text IsPrintablePair IsNothing EndsDigits pairs_read xs ys [] [] p q refl refl (append-nil (flat_map pair_text xs) ∙ (e ∙ sym (append-nil (flat_map pair_text ys))))).0

ends_answer : (made : List Pair) → EndsAnswer (flat_map pair_text made)
ends_answer [] = record { value = record { numbers = refl; quotes = refl }; name = refl }
ends_answer (pair ∷ made) = record { value = record { numbers = refl; quotes = refl }; name = refl }

-- entries

entry_of : ℕ → Act → PlainAnswer → List Pair → PlainEntry
entry_of party act answer made = record { party = party; act = act; answer = answer; made = made }

-- what stands after the party of an entry, with its blank
unfoldable pub after_party : PlainEntry → List ℕ
after_party e = act_text e.act ++ (32 ∷ 58 ∷ 32 ∷ (answer_text e.answer ++ flat_map pair_text e.made))

pub entry_parts : (place : ℕ) (e : PlainEntry) → entry_text place e ≡ decimal place ++ (32 ∷ (decimal e.party ++ (32 ∷ after_party e)))
unfolding after_party
entry_parts place e =
    let pairs : List ℕ = flat_map pair_text e.made in
    let act : List ℕ = act_text e.act in
    let answer : List ℕ = answer_text e.answer in
    append_assoc (decimal place) (32 ∷ (decimal e.party ++ 32 ∷ (act ++ 32 ∷ 58 ∷ 32 ∷ answer))) pairs
    ∙ (ap (λ text. decimal place ++ 32 ∷ text) (append_assoc (decimal e.party) (32 ∷ (act ++ 32 ∷ 58 ∷ 32 ∷ answer)) pairs)
    ∙ ap (λ text. decimal place ++ 32 ∷ (decimal e.party ++ 32 ∷ text)) (append_assoc act (32 ∷ 58 ∷ 32 ∷ answer) pairs))

same_after_party : (e f : PlainEntry) → IsPrintableEntry e → IsPrintableEntry f → after_party e ≡ after_party f → (e.act ≡ f.act) × ((e.answer ≡ f.answer) × (e.made ≡ f.made))
unfolding after_party
same_after_party e f p q same =
    let acts = same_act e.act f.act (32 ∷ (answer_text e.answer ++ flat_map pair_text e.made)) (32 ∷ (answer_text f.answer ++ flat_map pair_text f.made)) p.act q.act same in
    let inner : answer_text e.answer ++ flat_map pair_text e.made ≡ answer_text f.answer ++ flat_map pair_text f.made = cc acts.1 in
    let answers = same_answer e.answer f.answer (flat_map pair_text e.made) (flat_map pair_text f.made) p.answer q.answer (ends_answer e.made) (ends_answer f.made) inner in
    (acts.0, (answers.0, same_pairs e.made f.made (recursion_from_All IsPrintablePair e.made p.made) (recursion_from_All IsPrintablePair f.made q.made) answers.1))

-- the text of an entry tells its place and the entry
pub same_entry : (m n : ℕ) (e f : PlainEntry) → m < 2 ^ 64 → n < 2 ^ 64 → IsPrintableEntry e → IsPrintableEntry f → entry_text m e ≡ entry_text n f → (m ≡ n) × (e ≡ f)
unfolding entry_of
same_entry m n e f a b p q same =
    let places = same_count_first m n (decimal e.party ++ (32 ∷ after_party e)) (decimal f.party ++ (32 ∷ after_party f)) a b (sym (entry_parts m e) ∙ (same ∙ entry_parts n f)) in
    let parties = same_count_first e.party f.party (after_party e) (after_party f) (omega (arith, p.party)) (omega (arith, q.party)) places.1 in
    let rest = same_after_party e f p q parties.1 in
    (places.0, ap (λ party. entry_of party e.act e.answer e.made) parties.0 ∙ (ap (λ act. entry_of f.party act e.answer e.made) rest.0 ∙ (ap (λ answer. entry_of f.party f.act answer e.made) rest.1.0 ∙ ap (λ made. entry_of f.party f.act f.answer made) rest.1.1)))
