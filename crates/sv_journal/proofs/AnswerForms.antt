-- Reading answers.
use Rattle.std.proofs.Common.{◌≡◌, ℕ, ◌+◌, ◌-◌, ◌*◌, true, List, [], ◌∷◌, ◌++◌, Option, None, Ok, codes, get_or, inl, inr, refl, sym, ap, ◌∙◌, subst, arith}
use Rattle.std.specs.Fmt.{decimal}
use Rattle.std.specs.List.{flat_map, AllByRecursion}
use Rattle.apl_arrays.specs.Array.{PlainArray}
use Rattle.apl_arrays.specs.Name.{IsName}
use Rattle.sv_access.specs.declared.control.Control.{Control}
use Rattle.sv_access.specs.declared.verdict.Owners.{Owners}
use Rattle.sv_access.specs.declared.verdict.Owners.TheVariants.{Mine, Partner, Both}
use Rattle.sv_events.specs.Answer.{PlainAnswer, degree, granted, value, no_value, held, abandoned, not_shared, offer_limit, full, vector, parties, names, kept, done}
use Rattle.sv_events.specs.Row.{answer_row}
use Rattle.sv_events.specs.declared.event.Hold.{Hold}
use Rattle.sv_events.specs.declared.row.AnswerKind.{AnswerKind}
use Rattle.sv_events.specs.declared.row.AnswerKind.TheVariants.{Degree, Granted, Value, NoValue, Held, Abandoned, NotShared, OfferLimit, Full, Vector, Parties, Names, Kept, Done}
use Rattle.text_reader.specs.Reading.{Reader, ◌>>=◌, as_read, read_literal}
use Rattle.text_reader.specs.NumberReading.{read_number}
use Rattle.sv_text.specs.Value.{IsValue, IsValueOrNone}
use Rattle.sv_text.specs.ValueReading.{read_array, read_value}
use Rattle.sv_text.specs.ValueText.{array_text, value_text}
use Rattle.sv_text.proofs.ArrayForms.{reads_array, reads_value, a_value}
use Rattle.text_reader.proofs.NumberForms.{InRange, NoDigit, reads_number}
use Rattle.text_reader.proofs.Readers.{SameFirst, Anything, IsReader, farther, reformed, after_text, then_read, made, made_of, nothing_more, no_further}
use Rattle.sv_journal.specs.AnswerReading.{kind_word, read_degree, read_told, read_kept_parts, read_parties, read_names, answer_behind, read_answer}
use Rattle.sv_journal.specs.EntryText.{owners_text, hold_text, answer_text}
use Rattle.sv_journal.specs.HoldReading.{read_control, read_hold}
use Rattle.sv_journal.specs.IsEntry.{IsPartyNumber, IsControl}
use Rattle.sv_journal.specs.WordReading.{read_word}
use Rattle.sv_journal.proofs.ControlForms.{control_behind_text, reads_control}
use Rattle.sv_journal.proofs.FieldForms.{party_text, local_text}
use Rattle.sv_journal.proofs.SameEntries.{listed, names_listed}
use Rattle.sv_journal.proofs.WordForms.{Member, AreApart, reads_word}
use Rattle.sv_journal.proofs.ListedForms.{PairsBehind, Farther, no_farther, ends_pairs, reads_parties, reads_names}

-- degrees, values, holds

degree_behind_text : ℕ → List ℕ
degree_behind_text d = 32 ∷ decimal d

abbrev pub IsDegree : ℕ → Type 0
IsDegree d = InRange 0 2 d

nought_is_degree : IsDegree 0
nought_is_degree = record { least = omega arith; most = omega arith }

reads_degree : IsReader degree_behind_text IsDegree NoDigit SameFirst read_degree
unfolding read_degree degree_behind_text
reads_degree = after_text (codes " ") decimal IsDegree NoDigit SameFirst (read_number 0 2) 0 nought_is_degree (reads_number 0 2 (omega arith) (omega arith))

value_behind_text : PlainArray → List ℕ
value_behind_text v = 32 ∷ array_text v

reads_told : IsReader value_behind_text IsValue NoDigit SameFirst read_told
unfolding read_told value_behind_text
reads_told = after_text (codes " ") array_text IsValue NoDigit SameFirst read_array a_value.0 a_value.1 reads_array

abbrev pub HoldOk : Hold → Type 0
HoldOk h = InRange 1 4 h.element

hold_of : ℕ → Owners → Hold
hold_of element owners = record { element = element; owners = owners }

owners_apart : AreApart owners_text
owners_apart Mine Mine behind z e = refl
owners_apart Partner Partner behind z e = refl
owners_apart Both Both behind z e = refl
owners_apart v w behind z e = absurd (omega (arith, ap (λ text. get_or text 0 0) e))

every_owner : (o : Owners) → Member o (Mine ∷ Partner ∷ Both ∷ [])
every_owner Mine = inl refl
every_owner Partner = inr (inl refl)
every_owner Both = inr (inr (inl refl))

owners_part : (element : ℕ) → InRange 1 4 element → IsReader (λ h. codes " " ++ owners_text h.owners) (λ h. (h.element ≡ element) × HoldOk h) Anything SameFirst (λ line. read_literal (codes " ") line >>= λ rest. as_read (hold_of element) (read_word owners_text 0 (Mine ∷ Partner ∷ Both ∷ []) rest))
unfolding hold_of
owners_part element fits =
    after_text (codes " ") (λ h. owners_text h.owners) (λ h. (h.element ≡ element) × HoldOk h) Anything SameFirst (λ rest. as_read (hold_of element) (read_word owners_text 0 (Mine ∷ Partner ∷ Both ∷ []) rest)) (hold_of element Mine) (refl, fits)
    (made owners_text (λ o. Member o (Mine ∷ Partner ∷ Both ∷ [])) Anything SameFirst (read_word owners_text 0 (Mine ∷ Partner ∷ Both ∷ [])) (hold_of element) (λ h. h.owners) (λ h. (h.element ≡ element) × HoldOk h) (reads_word owners_text (Mine ∷ Partner ∷ Both ∷ []) owners_apart Mine (inl refl)) (λ h f. every_owner h.owners) (λ h f. ap (λ e. hold_of e h.owners) (sym f.0)) (λ o f. (refl, fits)) (λ o f. refl))

hold_behind_text : Hold → List ℕ
hold_behind_text h = 32 ∷ hold_text h

reads_hold : IsReader hold_behind_text HoldOk Anything SameFirst read_hold
unfolding read_hold hold_behind_text hold_of
reads_hold =
    after_text (codes " ") (λ h. decimal h.element ++ (codes " " ++ owners_text h.owners)) HoldOk Anything SameFirst (λ rest. read_number 1 4 rest >>= λ found. (read_literal (codes " ") found.1 >>= λ behind. as_read (hold_of found.0) (read_word owners_text 0 (Mine ∷ Partner ∷ Both ∷ []) behind))) (hold_of 1 Mine) (record { least = omega arith; most = omega arith })
    (then_read decimal (InRange 1 4) NoDigit (λ h. h.element) (λ h. codes " " ++ owners_text h.owners) HoldOk Anything SameFirst (read_number 1 4) (λ element line. read_literal (codes " ") line >>= λ behind. as_read (hold_of element) (read_word owners_text 0 (Mine ∷ Partner ∷ Both ∷ []) behind)) no_further (reads_number 1 4 (omega arith) (omega arith)) owners_part (λ h f. f) (λ h behind f follow. refl) (λ n f. (hold_of n Mine, refl, f)))

-- what is kept

abbrev pub KeptParts : Type 0
KeptParts = ℕ × Option PlainArray

abbrev pub KeptOk : KeptParts → Type 0
KeptOk p = IsDegree p.0 × IsValueOrNone p.1

kept_parts : ℕ → Option PlainArray → KeptParts
kept_parts d known = (d, known)

reads_kept_parts : IsReader (λ p. degree_behind_text p.0 ++ (codes " " ++ value_text p.1)) KeptOk NoDigit SameFirst read_kept_parts
unfolding read_kept_parts kept_parts
reads_kept_parts =
    then_read degree_behind_text IsDegree NoDigit (λ p. p.0) (λ p. codes " " ++ value_text p.1) KeptOk NoDigit SameFirst read_degree (λ d line. read_literal (codes " ") line >>= λ rest. as_read (kept_parts d) (read_value rest)) no_further reads_degree
    (λ d h. after_text (codes " ") (λ p. value_text p.1) (λ p. (p.0 ≡ d) × KeptOk p) NoDigit SameFirst (λ rest. as_read (kept_parts d) (read_value rest)) (d, None) (refl, (h, tt))
    (made value_text IsValueOrNone NoDigit SameFirst read_value (kept_parts d) (λ p. p.1) (λ p. (p.0 ≡ d) × KeptOk p) reads_value (λ e f. f.1.1) (λ e f. ap (λ x. kept_parts x e.1) (sym f.0)) (λ v f. (refl, (h, f))) (λ v f. refl)))
    (λ e h. h.0) (λ e behind h follow. refl) (λ d h. ((d, None), refl, (h, tt)))

-- answers by their kinds

abbrev pub kind_of : PlainAnswer → AnswerKind
kind_of answer = (answer_row answer).row.kind

-- what stands behind the word of an answer
args_text : PlainAnswer → List ℕ
args_text (degree d) = degree_behind_text d
args_text granted = []
args_text (value got) = value_behind_text got
args_text no_value = []
args_text (held hold) = hold_behind_text hold
args_text (abandoned hold) = hold_behind_text hold
args_text not_shared = []
args_text offer_limit = []
args_text full = []
args_text (vector control) = control_behind_text control
args_text (parties list) = flat_map party_text list
args_text (names list) = flat_map local_text list
args_text (kept d known) = degree_behind_text d ++ (codes " " ++ value_text known)
args_text done = []

answer_spelled : (a : PlainAnswer) → kind_word (kind_of a) ++ args_text a ≡ answer_text a
unfolding args_text degree_behind_text value_behind_text hold_behind_text
answer_spelled (degree d) = refl
answer_spelled granted = refl
answer_spelled (value got) = refl
answer_spelled no_value = refl
answer_spelled (held hold) = refl
answer_spelled (abandoned hold) = refl
answer_spelled not_shared = refl
answer_spelled offer_limit = refl
answer_spelled full = refl
answer_spelled (vector control) = refl
answer_spelled (parties list) = sym (listed (codes "parties") decimal list)
answer_spelled (names list) = sym (names_listed list)
answer_spelled (kept d known) = refl
answer_spelled done = refl

-- an answer whose numbers are in their ranges
abbrev pub Ranged : PlainAnswer → Type 0
Ranged (degree d) = IsDegree d
Ranged granted = Unit {0}
Ranged (value got) = IsValue got
Ranged no_value = Unit {0}
Ranged (held hold) = HoldOk hold
Ranged (abandoned hold) = HoldOk hold
Ranged not_shared = Unit {0}
Ranged offer_limit = Unit {0}
Ranged full = Unit {0}
Ranged (vector control) = IsControl control
Ranged (parties list) = AllByRecursion IsPartyNumber list
Ranged (names list) = AllByRecursion IsName list
Ranged (kept d known) = KeptOk (d, known)
Ranged done = Unit {0}

AnswerOk : AnswerKind → PlainAnswer → Type 0
AnswerOk Degree a = (d : ℕ) × (a ≡ degree d) × IsDegree d
AnswerOk Granted a = a ≡ granted
AnswerOk Value a = (v : PlainArray) × (a ≡ value v) × IsValue v
AnswerOk NoValue a = a ≡ no_value
AnswerOk Held a = (h : Hold) × (a ≡ held h) × HoldOk h
AnswerOk Abandoned a = (h : Hold) × (a ≡ abandoned h) × HoldOk h
AnswerOk NotShared a = a ≡ not_shared
AnswerOk OfferLimit a = a ≡ offer_limit
AnswerOk Full a = a ≡ full
AnswerOk Vector a = (c : Control) × (a ≡ vector c) × IsControl c
AnswerOk Parties a = (l : List ℕ) × (a ≡ parties l) × AllByRecursion IsPartyNumber l
AnswerOk Names a = (l : List (List ℕ)) × (a ≡ names l) × AllByRecursion IsName l
AnswerOk Kept a = (p : KeptParts) × (a ≡ kept p.0 p.1) × KeptOk p
AnswerOk Done a = a ≡ done

answer_parts : (a : PlainAnswer) → Ranged a → AnswerOk (kind_of a) a
unfolding AnswerOk
answer_parts (degree d) h = (d, refl, h)
answer_parts granted h = refl
answer_parts (value got) h = (got, refl, h)
answer_parts no_value h = refl
answer_parts (held hold) h = (hold, refl, h)
answer_parts (abandoned hold) h = (hold, refl, h)
answer_parts not_shared h = refl
answer_parts offer_limit h = refl
answer_parts full h = refl
answer_parts (vector control) h = (control, refl, h)
answer_parts (parties list) h = (list, refl, h)
answer_parts (names list) h = (list, refl, h)
answer_parts (kept d known) h = ((d, known), refl, h)
answer_parts done h = refl

abbrev pub IsOf : AnswerKind → PlainAnswer → Type 0
IsOf kind a = (kind_of a ≡ kind) × Ranged a

answer_there : (kind : AnswerKind) (a : PlainAnswer) → AnswerOk kind a → IsOf kind a
unfolding AnswerOk
answer_there Degree a h = subst (IsOf Degree) (sym h.1) (refl, h.2)
answer_there Granted a h = subst (IsOf Granted) (sym h) (refl, tt)
answer_there Value a h = subst (IsOf Value) (sym h.1) (refl, h.2)
answer_there NoValue a h = subst (IsOf NoValue) (sym h) (refl, tt)
answer_there Held a h = subst (IsOf Held) (sym h.1) (refl, h.2)
answer_there Abandoned a h = subst (IsOf Abandoned) (sym h.1) (refl, h.2)
answer_there NotShared a h = subst (IsOf NotShared) (sym h) (refl, tt)
answer_there OfferLimit a h = subst (IsOf OfferLimit) (sym h) (refl, tt)
answer_there Full a h = subst (IsOf Full) (sym h) (refl, tt)
answer_there Vector a h = subst (IsOf Vector) (sym h.1) (refl, h.2)
answer_there Parties a h = subst (IsOf Parties) (sym h.1) (refl, h.2)
answer_there Names a h = subst (IsOf Names) (sym h.1) (refl, h.2)
answer_there Kept a h = subst (IsOf Kept) (sym h.1) (refl, h.2)
answer_there Done a h = subst (IsOf Done) (sym h) (refl, tt)

answer_back : (kind : AnswerKind) (a : PlainAnswer) → IsOf kind a → AnswerOk kind a
answer_back kind a h = subst (λ k. AnswerOk k a) h.0 (answer_parts a h.1)

-- a reader that looks ahead no further, before pairs
nearer : {V : Type 0} (text : V → List ℕ) (ok : V → Type 0) (follows : List ℕ → Type 0) (reader : Reader V) → ((behind : List ℕ) → PairsBehind behind → follows behind) → IsReader text ok follows SameFirst reader → IsReader text ok PairsBehind Farther reader
nearer text ok follows reader weaker is line a =
    farther text ok PairsBehind SameFirst Farther no_farther line (reader line) (reformed text text ok ok follows PairsBehind SameFirst reader (λ e h. h) (λ e h. h) (λ e h. refl) weaker is line a)

digits_end : (behind : List ℕ) → PairsBehind behind → NoDigit behind
digits_end behind h = (ends_pairs behind h).digits

alone : (a : PlainAnswer) → args_text a ≡ [] → IsReader args_text (λ e. e ≡ a) PairsBehind Farther (λ line. Ok (a, line))
alone a none =
    reformed (λ e. []) args_text (λ e. e ≡ a) (λ e. e ≡ a) PairsBehind PairsBehind Farther (λ line. Ok (a, line)) (λ e h. h) (λ e h. h) (λ e h. sym (ap args_text h ∙ none)) (λ behind h. h) (nothing_more a (λ e. e ≡ a) PairsBehind Farther refl (λ e h. h))

reads_behind : (kind : AnswerKind) → IsReader args_text (AnswerOk kind) PairsBehind Farther (answer_behind kind)
unfolding AnswerOk args_text
reads_behind Degree = made_of degree_behind_text IsDegree PairsBehind Farther read_degree degree args_text (λ d h. refl) (nearer degree_behind_text IsDegree NoDigit read_degree digits_end reads_degree)
reads_behind Granted = alone granted refl
reads_behind Value = made_of value_behind_text IsValue PairsBehind Farther read_told value args_text (λ d h. refl) (nearer value_behind_text IsValue NoDigit read_told digits_end reads_told)
reads_behind NoValue = alone no_value refl
reads_behind Held = made_of hold_behind_text HoldOk PairsBehind Farther read_hold held args_text (λ d h. refl) (nearer hold_behind_text HoldOk Anything read_hold (λ behind h. tt) reads_hold)
reads_behind Abandoned = made_of hold_behind_text HoldOk PairsBehind Farther read_hold abandoned args_text (λ d h. refl) (nearer hold_behind_text HoldOk Anything read_hold (λ behind h. tt) reads_hold)
reads_behind NotShared = alone not_shared refl
reads_behind OfferLimit = alone offer_limit refl
reads_behind Full = alone full refl
reads_behind Vector = made_of control_behind_text IsControl PairsBehind Farther read_control vector args_text (λ d h. refl) (nearer control_behind_text IsControl NoDigit read_control digits_end reads_control)
reads_behind Parties = made_of (flat_map party_text) (AllByRecursion IsPartyNumber) PairsBehind Farther read_parties parties args_text (λ d h. refl) reads_parties
reads_behind Names = made_of (flat_map local_text) (AllByRecursion IsName) PairsBehind Farther read_names names args_text (λ d h. refl) reads_names
reads_behind Kept = made_of (λ p. degree_behind_text p.0 ++ (codes " " ++ value_text p.1)) KeptOk PairsBehind Farther read_kept_parts (λ parts. kept parts.0 parts.1) args_text (λ d h. refl) (nearer (λ p. degree_behind_text p.0 ++ (codes " " ++ value_text p.1)) KeptOk NoDigit read_kept_parts digits_end reads_kept_parts)
reads_behind Done = alone done refl

first_letters : List ℕ → ℕ
first_letters text = get_or text 0 0 * 65536 + get_or text 1 0 * 256 + get_or text 2 0

kinds_apart : AreApart kind_word
unfolding first_letters
kinds_apart Degree Degree behind z e = refl
kinds_apart Granted Granted behind z e = refl
kinds_apart Value Value behind z e = refl
kinds_apart NoValue NoValue behind z e = refl
kinds_apart Held Held behind z e = refl
kinds_apart Abandoned Abandoned behind z e = refl
kinds_apart NotShared NotShared behind z e = refl
kinds_apart OfferLimit OfferLimit behind z e = refl
kinds_apart Full Full behind z e = refl
kinds_apart Vector Vector behind z e = refl
kinds_apart Parties Parties behind z e = refl
kinds_apart Names Names behind z e = refl
kinds_apart Kept Kept behind z e = refl
kinds_apart Done Done behind z e = refl
kinds_apart v w behind z e = absurd (omega (arith, ap first_letters e))

pub some_answer : (kind : AnswerKind) → (a : PlainAnswer) × (kind_of a ≡ kind) × Ranged a
unfolding hold_of
some_answer Degree = (degree 0, refl, nought_is_degree)
some_answer Granted = (granted, refl, tt)
some_answer Value = (value a_value.0, refl, a_value.1)
some_answer NoValue = (no_value, refl, tt)
some_answer Held = (held (hold_of 1 Mine), refl, record { least = omega arith; most = omega arith })
some_answer Abandoned = (abandoned (hold_of 1 Mine), refl, record { least = omega arith; most = omega arith })
some_answer NotShared = (not_shared, refl, tt)
some_answer OfferLimit = (offer_limit, refl, tt)
some_answer Full = (full, refl, tt)
some_answer Vector = (vector (record { 0 = true ∷ true ∷ true ∷ true ∷ [] }), refl, refl)
some_answer Parties = (parties [], refl, tt)
some_answer Names = (names [], refl, tt)
some_answer Kept = (kept 0 None, refl, (nought_is_degree, tt))
some_answer Done = (done, refl, tt)

-- an answer of one of these kinds
pub record Listed (kinds : List AnswerKind) (a : PlainAnswer) : Type 0 where
  pub kind : Member (kind_of a) kinds
  pub ranged : Ranged a

listed_there : (kinds : List AnswerKind) (kind : AnswerKind) → Member kind kinds → (a : PlainAnswer) → AnswerOk kind a → (kind_of a ≡ kind) × Listed kinds a
listed_there kinds kind h a fits =
    let is = answer_there kind a fits in
    (is.0, record { kind = subst (λ k. Member k kinds) (sym is.0) h; ranged = is.1 })

listed_back : (kinds : List AnswerKind) (kind : AnswerKind) (a : PlainAnswer) → (kind_of a ≡ kind) × Listed kinds a → AnswerOk kind a
listed_back kinds kind a h = answer_back kind a (h.0, h.1.ranged)

pub some_listed : (kinds : List AnswerKind) (kind : AnswerKind) → Member kind kinds → (a : PlainAnswer) × (kind_of a ≡ kind) × Listed kinds a
some_listed kinds kind h =
    let some = some_answer kind in
    (some.0, some.1, record { kind = subst (λ k. Member k kinds) (sym some.1) h; ranged = some.2 })

-- an answer is read
pub reads_answer : (kinds : List AnswerKind) (some : AnswerKind) → Member some kinds → IsReader answer_text (Listed kinds) PairsBehind Farther (read_answer kinds)
unfolding read_answer
reads_answer kinds some here line a =
    let both : IsReader (λ e. kind_word (kind_of e) ++ args_text e) (Listed kinds) PairsBehind Farther (λ line. read_word kind_word 0 kinds line >>= λ kind. answer_behind kind.0 kind.1) =
    then_read kind_word (λ k. Member k kinds) Anything kind_of args_text (Listed kinds) PairsBehind Farther (read_word kind_word 0 kinds) answer_behind no_farther (reads_word kind_word kinds kinds_apart some here)
    (λ k h. reformed args_text args_text (AnswerOk k) (λ e. (kind_of e ≡ k) × Listed kinds e) PairsBehind PairsBehind Farther (answer_behind k) (listed_back kinds k) (listed_there kinds k h) (λ e f. refl) (λ behind f. f) (reads_behind k))
    (λ e h. h.kind) (λ e behind h follow. tt) (some_listed kinds) in
    reformed (λ e. kind_word (kind_of e) ++ args_text e) answer_text (Listed kinds) (Listed kinds) PairsBehind PairsBehind Farther (λ line. read_word kind_word 0 kinds line >>= λ kind. answer_behind kind.0 kind.1) (λ e h. h) (λ e h. h) (λ e h. answer_spelled e) (λ behind h. h) both line a
