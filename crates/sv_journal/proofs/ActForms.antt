-- Reading acts.
use Rattle.std.proofs.Common.{◌≡◌, ℕ, ◌+◌, ◌-◌, true, eqb, List, [], ◌∷◌, ◌++◌, Option, None, Ok, codes, get_or, inl, inr, refl, sym, ap, ◌∙◌, subst, arith}
use Rattle.std.specs.Prelude.{if◌then◌else◌}
use Rattle.apl_arrays.specs.Array.{PlainArray}
use Rattle.apl_arrays.specs.Name.{IsName}
use Rattle.sv_access.specs.declared.control.Control.{Control}
use Rattle.sv_access.specs.Control.{four_elements}
use Rattle.sv_events.specs.declared.event.Act.{Act}
use Rattle.sv_events.specs.declared.event.Act.TheVariants as act
use Rattle.text_reader.specs.Reading.{Reader, ◌>>=◌, as_read, read_literal}
use Rattle.sv_text.specs.Value.{IsValue, IsValueOrNone}
use Rattle.sv_text.specs.ValueReading.{read_array, read_value}
use Rattle.sv_text.specs.ValueText.{array_text, value_text}
use Rattle.sv_text.proofs.ArrayForms.{reads_array, reads_value, a_value}
use Rattle.text_reader.proofs.NameForms.{NoName}
use Rattle.text_reader.proofs.NumberForms.{NoDigit}
use Rattle.text_reader.proofs.Readers.{SameFirst, Anything, IsReader, reformed, after_text, then_read, made, made_of, nothing_more, no_further}
use Rattle.sv_journal.specs.declared.act_word.ActWord.{ActWord}
use Rattle.sv_journal.specs.declared.act_word.ActWord.TheVariants.{Offer, Retract, SetControl, AskControl, AskState, AskDegree, AskParties, AskNames, Set, Use, Leave}
use Rattle.sv_journal.specs.ActReading.{read_local, read_party, OfferParts, make_offer, read_offer_parts, read_set_control_parts, read_set_parts, act_behind, read_act}
use Rattle.sv_journal.specs.ActWord.{act_words, act_word, word_of_act}
use Rattle.sv_journal.specs.EntryText.{act_text}
use Rattle.sv_journal.specs.HoldReading.{read_control}
use Rattle.sv_journal.specs.IsEntry.{IsPartyNumber, IsControl, IsAct}
use Rattle.sv_journal.specs.WordReading.{read_word}
use Rattle.sv_journal.proofs.WordForms.{Member, AreApart, reads_word}
use Rattle.sv_journal.proofs.FieldForms.{Ends, party_text, local_text, reads_party, a_name, reads_local}
use Rattle.sv_journal.proofs.ControlForms.{control_behind_text, reads_control, some_control, some_control_is}

-- offers

OfferOk : OfferParts → Type 0
OfferOk p = IsPartyNumber p.0 × IsName p.1 × IsName p.2 × IsValueOrNone p.3

AtParty : ℕ → OfferParts → Type 0
AtParty to p = (p.0 ≡ to) × OfferOk p

AtLocal : ℕ → List ℕ → OfferParts → Type 0
AtLocal to local p = (p.1 ≡ local) × AtParty to p

AtSurrogate : ℕ → List ℕ → List ℕ → OfferParts → Type 0
AtSurrogate to local surrogate p = (p.2 ≡ surrogate) × AtLocal to local p

parts_of : ℕ → List ℕ → List ℕ → Option PlainArray → OfferParts
parts_of to local surrogate handed = (to, local, surrogate, handed)

parts_again : (to : ℕ) (local surrogate : List ℕ) (p : OfferParts) → AtSurrogate to local surrogate p → parts_of to local surrogate p.3 ≡ p
unfolding parts_of AtSurrogate AtLocal AtParty
parts_again to local surrogate p h =
    ap (λ n. parts_of n local surrogate p.3) (sym h.1.1.0) ∙ (ap (λ l. parts_of p.0 l surrogate p.3) (sym h.1.0) ∙ ap (λ s. parts_of p.0 p.1 s p.3) (sym h.0))

parts_value : (to : ℕ) (local surrogate : List ℕ) (p : OfferParts) → AtSurrogate to local surrogate p → IsValueOrNone p.3
unfolding AtSurrogate AtLocal AtParty OfferOk
parts_value to local surrogate p h = h.1.1.1.3

parts_fit : (to : ℕ) (local surrogate : List ℕ) → IsPartyNumber to → IsName local → IsName surrogate → (v : Option PlainArray) → IsValueOrNone v → AtSurrogate to local surrogate (parts_of to local surrogate v)
unfolding parts_of AtSurrogate AtLocal AtParty OfferOk
parts_fit to local surrogate a b c v d = (refl, (refl, (refl, (a, b, c, d))))

abbrev pub value_part : OfferParts → List ℕ
value_part p = codes " " ++ value_text p.3

abbrev pub surrogate_part : OfferParts → List ℕ
surrogate_part p = local_text p.2 ++ value_part p

abbrev pub local_part : OfferParts → List ℕ
local_part p = local_text p.1 ++ surrogate_part p

abbrev pub offer_parts_text : OfferParts → List ℕ
offer_parts_text p = party_text p.0 ++ local_part p

handed_at : ℕ → List ℕ → List ℕ → Reader OfferParts
handed_at to local surrogate line = read_literal (codes " ") line >>= λ rest. as_read (λ v. parts_of to local surrogate v) (read_value rest)

reads_handed : (to : ℕ) (local surrogate : List ℕ) → IsPartyNumber to → IsName local → IsName surrogate → IsReader value_part (AtSurrogate to local surrogate) NoDigit SameFirst (handed_at to local surrogate)
unfolding handed_at parts_of
reads_handed to local surrogate a b c =
    after_text (codes " ") (λ p. value_text p.3) (AtSurrogate to local surrogate) NoDigit SameFirst (λ rest. as_read (λ v. parts_of to local surrogate v) (read_value rest)) (parts_of to local surrogate None) (parts_fit to local surrogate a b c None tt)
    (made value_text IsValueOrNone NoDigit SameFirst read_value (λ v. parts_of to local surrogate v) (λ p. p.3) (AtSurrogate to local surrogate) reads_value (parts_value to local surrogate) (parts_again to local surrogate) (parts_fit to local surrogate a b c) (λ v h. refl))

surrogate_fits : (to : ℕ) (local : List ℕ) (p : OfferParts) → AtLocal to local p → IsName p.2
unfolding AtLocal AtParty OfferOk
surrogate_fits to local p h = h.1.1.2

local_fits : (to : ℕ) (p : OfferParts) → AtParty to p → IsName p.1
unfolding AtParty OfferOk
local_fits to p h = h.1.1

party_fits : (p : OfferParts) → OfferOk p → IsPartyNumber p.0
unfolding OfferOk
party_fits p h = h.0

some_surrogate : (to : ℕ) (local surrogate : List ℕ) → IsPartyNumber to → IsName local → IsName surrogate → (p : OfferParts) × (p.2 ≡ surrogate) × AtLocal to local p
unfolding parts_of AtSurrogate
some_surrogate to local surrogate a b c =
    let h = parts_fit to local surrogate a b c None tt in
    (parts_of to local surrogate None, h.0, h.1)

some_local : (to : ℕ) (local : List ℕ) → IsPartyNumber to → IsName local → (p : OfferParts) × (p.1 ≡ local) × AtParty to p
unfolding parts_of AtSurrogate AtLocal
some_local to local a b =
    let h = parts_fit to local (65 ∷ []) a b a_name None tt in
    (parts_of to local (65 ∷ []) None, h.1.0, h.1.1)

some_party : (to : ℕ) → IsPartyNumber to → (p : OfferParts) × (p.0 ≡ to) × OfferOk p
unfolding parts_of AtSurrogate AtLocal AtParty
some_party to a =
    let h = parts_fit to (65 ∷ []) (65 ∷ []) a a_name a_name None tt in
    (parts_of to (65 ∷ []) (65 ∷ []) None, h.1.1.0, h.1.1.1)

surrogate_at : ℕ → List ℕ → Reader OfferParts
surrogate_at to local line = read_local line >>= λ found. handed_at to local found.0 found.1

reads_surrogate : (to : ℕ) (local : List ℕ) → IsPartyNumber to → IsName local → IsReader surrogate_part (AtLocal to local) NoDigit SameFirst (surrogate_at to local)
unfolding surrogate_at AtSurrogate
reads_surrogate to local a b =
    then_read local_text IsName NoName (λ p. p.2) value_part (AtLocal to local) NoDigit SameFirst read_local (handed_at to local) no_further reads_local (λ s c. reads_handed to local s a b c) (surrogate_fits to local) (λ e behind h follow. refl) (λ s c. some_surrogate to local s a b c)

local_and_more_at : ℕ → Reader OfferParts
local_and_more_at to line = read_local line >>= λ found. surrogate_at to found.0 found.1

reads_local_part : (to : ℕ) → IsPartyNumber to → IsReader local_part (AtParty to) NoDigit SameFirst (local_and_more_at to)
unfolding local_and_more_at AtLocal
reads_local_part to a =
    then_read local_text IsName NoName (λ p. p.1) surrogate_part (AtParty to) NoDigit SameFirst read_local (surrogate_at to) no_further reads_local (λ l b. reads_surrogate to l a b) (local_fits to) (λ e behind h follow. refl) (λ l b. some_local to l a b)

reads_offer_parts : IsReader offer_parts_text OfferOk NoDigit SameFirst read_offer_parts
unfolding read_offer_parts local_and_more_at surrogate_at handed_at parts_of AtParty
reads_offer_parts =
    then_read party_text IsPartyNumber NoDigit (λ p. p.0) local_part OfferOk NoDigit SameFirst read_party local_and_more_at no_further reads_party reads_local_part party_fits (λ e behind h follow. refl) some_party

-- a name and a control

abbrev pub ControlParts : Type 0
ControlParts = List ℕ × Control

ControlOk : ControlParts → Type 0
ControlOk p = IsName p.0 × IsControl p.1

control_parts : List ℕ → Control → ControlParts
control_parts local control = (local, control)

reads_control_parts : IsReader (λ p. local_text p.0 ++ control_behind_text p.1) ControlOk NoDigit SameFirst read_set_control_parts
unfolding read_set_control_parts ControlOk control_parts some_control
reads_control_parts =
    then_read local_text IsName NoName (λ p. p.0) (λ p. control_behind_text p.1) ControlOk NoDigit SameFirst read_local (λ l line. as_read (control_parts l) (read_control line)) no_further reads_local
    (λ l h. made control_behind_text IsControl NoDigit SameFirst read_control (control_parts l) (λ p. p.1) (λ p. (p.0 ≡ l) × ControlOk p) reads_control (λ e f. f.1.1) (λ e f. ap (λ x. control_parts x e.1) (sym f.0)) (λ c f. (refl, (h, f))) (λ c f. refl))
    (λ e h. h.0) (λ e behind h follow. refl) (λ l h. ((l, some_control), refl, (h, some_control_is)))

-- a name and an array

abbrev pub SetParts : Type 0
SetParts = List ℕ × PlainArray

SetOk : SetParts → Type 0
SetOk p = IsName p.0 × IsValue p.1

set_parts : List ℕ → PlainArray → SetParts
set_parts local new = (local, new)

reads_set_parts : IsReader (λ p. local_text p.0 ++ (codes " " ++ array_text p.1)) SetOk NoDigit SameFirst read_set_parts
unfolding read_set_parts SetOk set_parts
reads_set_parts =
    then_read local_text IsName NoName (λ p. p.0) (λ p. codes " " ++ array_text p.1) SetOk NoDigit SameFirst read_local (λ l line. read_literal (codes " ") line >>= λ rest. as_read (set_parts l) (read_array rest)) no_further reads_local
    (λ l h. after_text (codes " ") (λ p. array_text p.1) (λ p. (p.0 ≡ l) × SetOk p) NoDigit SameFirst (λ rest. as_read (set_parts l) (read_array rest)) (l, a_value.0) (refl, (h, a_value.1))
    (made array_text IsValue NoDigit SameFirst read_array (set_parts l) (λ p. p.1) (λ p. (p.0 ≡ l) × SetOk p) reads_array (λ e f. f.1.1) (λ e f. ap (λ x. set_parts x e.1) (sym f.0)) (λ c f. (refl, (h, f))) (λ c f. refl)))
    (λ e h. h.0) (λ e behind h follow. refl) (λ l h. ((l, a_value.0), refl, (h, a_value.1)))

-- what stands behind the word of an act
abbrev pub args_text : Act → List ℕ
args_text (act.Offer to local surrogate handed) = offer_parts_text (to, local, surrogate, handed)
args_text (act.Retract local) = local_text local
args_text (act.SetControl local control) = local_text local ++ control_behind_text control
args_text (act.AskControl local) = local_text local
args_text (act.AskState local) = local_text local
args_text (act.AskDegree local) = local_text local
args_text act.AskParties = []
args_text (act.AskNames party) = party_text party
args_text (act.Set local new) = local_text local ++ (codes " " ++ array_text new)
args_text (act.Use local) = local_text local
args_text act.Leave = []

act_spelled : (a : Act) → act_word (word_of_act a) ++ args_text a ≡ act_text a
act_spelled (act.Offer to local surrogate handed) = refl
act_spelled (act.Retract local) = refl
act_spelled (act.SetControl local control) = refl
act_spelled (act.AskControl local) = refl
act_spelled (act.AskState local) = refl
act_spelled (act.AskDegree local) = refl
act_spelled act.AskParties = refl
act_spelled (act.AskNames party) = refl
act_spelled (act.Set local new) = refl
act_spelled (act.Use local) = refl
act_spelled act.Leave = refl

-- the acts of a word, by what they are made of
ActOk : ActWord → Act → Type 0
ActOk Offer a = (p : OfferParts) × (a ≡ make_offer p) × OfferOk p
ActOk Retract a = (l : List ℕ) × (a ≡ act.Retract l) × IsName l
ActOk SetControl a = (p : ControlParts) × (a ≡ act.SetControl p.0 p.1) × ControlOk p
ActOk AskControl a = (l : List ℕ) × (a ≡ act.AskControl l) × IsName l
ActOk AskState a = (l : List ℕ) × (a ≡ act.AskState l) × IsName l
ActOk AskDegree a = (l : List ℕ) × (a ≡ act.AskDegree l) × IsName l
ActOk AskParties a = a ≡ act.AskParties
ActOk AskNames a = (n : ℕ) × (a ≡ act.AskNames n) × IsPartyNumber n
ActOk Set a = (p : SetParts) × (a ≡ act.Set p.0 p.1) × SetOk p
ActOk Use a = (l : List ℕ) × (a ≡ act.Use l) × IsName l
ActOk Leave a = a ≡ act.Leave

act_parts : (a : Act) → IsAct a → ActOk (word_of_act a) a
unfolding ActOk OfferOk ControlOk SetOk
act_parts (act.Offer to local surrogate handed) h = ((to, local, surrogate, handed), refl, h)
act_parts (act.Retract local) h = (local, refl, h)
act_parts (act.SetControl local control) h = ((local, control), refl, h)
act_parts (act.AskControl local) h = (local, refl, h)
act_parts (act.AskState local) h = (local, refl, h)
act_parts (act.AskDegree local) h = (local, refl, h)
act_parts act.AskParties h = refl
act_parts (act.AskNames party) h = (party, refl, h)
act_parts (act.Set local new) h = ((local, new), refl, h)
act_parts (act.Use local) h = (local, refl, h)
act_parts act.Leave h = refl

abbrev pub IsOf : ActWord → Act → Type 0
IsOf word a = (word_of_act a ≡ word) × IsAct a

act_there : (word : ActWord) (a : Act) → ActOk word a → IsOf word a
unfolding ActOk OfferOk ControlOk SetOk
act_there Offer a h = subst (IsOf Offer) (sym h.1) (refl, h.2)
act_there Retract a h = subst (IsOf Retract) (sym h.1) (refl, h.2)
act_there SetControl a h = subst (IsOf SetControl) (sym h.1) (refl, h.2)
act_there AskControl a h = subst (IsOf AskControl) (sym h.1) (refl, h.2)
act_there AskState a h = subst (IsOf AskState) (sym h.1) (refl, h.2)
act_there AskDegree a h = subst (IsOf AskDegree) (sym h.1) (refl, h.2)
act_there AskParties a h = subst (IsOf AskParties) (sym h) (refl, tt)
act_there AskNames a h = subst (IsOf AskNames) (sym h.1) (refl, h.2)
act_there Set a h = subst (IsOf Set) (sym h.1) (refl, h.2)
act_there Use a h = subst (IsOf Use) (sym h.1) (refl, h.2)
act_there Leave a h = subst (IsOf Leave) (sym h) (refl, tt)

act_back : (word : ActWord) (a : Act) → IsOf word a → ActOk word a
act_back word a h = subst (λ w. ActOk w a) h.0 (act_parts a h.1)

local_ends : (reader : Reader (List ℕ)) → IsReader local_text IsName NoName SameFirst reader → IsReader local_text IsName Ends SameFirst reader
local_ends reader is =
    reformed local_text local_text IsName IsName NoName Ends SameFirst reader (λ e h. h) (λ e h. h) (λ e h. refl) (λ behind h. h.names) is

reads_named : (make : List ℕ → Act) → ((l : List ℕ) → local_text l ≡ args_text (make l)) → IsReader args_text (λ a. (l : List ℕ) × (a ≡ make l) × IsName l) Ends SameFirst (λ line. as_read make (read_local line))
reads_named make same =
    made_of local_text IsName Ends SameFirst read_local make args_text (λ l h. same l) (local_ends read_local reads_local)

numbers_end : {V : Type 0} (text : V → List ℕ) (ok : V → Type 0) (reader : Reader V) → IsReader text ok NoDigit SameFirst reader → IsReader text ok Ends SameFirst reader
numbers_end text ok reader is =
    reformed text text ok ok NoDigit Ends SameFirst reader (λ e h. h) (λ e h. h) (λ e h. refl) (λ behind h. h.digits) is

alone : (a : Act) → args_text a ≡ [] → IsReader args_text (λ e. e ≡ a) Ends SameFirst (λ line. Ok (a, line))
alone a none =
    reformed (λ e. []) args_text (λ e. e ≡ a) (λ e. e ≡ a) Ends Ends SameFirst (λ line. Ok (a, line)) (λ e h. h) (λ e h. h) (λ e h. sym (ap args_text h ∙ none)) (λ behind h. h) (nothing_more a (λ e. e ≡ a) Ends SameFirst refl (λ e h. h))

reads_behind : (word : ActWord) → IsReader args_text (ActOk word) Ends SameFirst (act_behind word)
unfolding ActOk
reads_behind Offer =
    made_of offer_parts_text OfferOk Ends SameFirst read_offer_parts make_offer args_text (λ p h. refl) (numbers_end offer_parts_text OfferOk read_offer_parts reads_offer_parts)
reads_behind Retract = reads_named act.Retract (λ l. refl)
reads_behind SetControl =
    made_of (λ p. local_text p.0 ++ control_behind_text p.1) ControlOk Ends SameFirst read_set_control_parts (λ parts. act.SetControl parts.0 parts.1) args_text (λ p h. refl) (numbers_end (λ p. local_text p.0 ++ control_behind_text p.1) ControlOk read_set_control_parts reads_control_parts)
reads_behind AskControl = reads_named act.AskControl (λ l. refl)
reads_behind AskState = reads_named act.AskState (λ l. refl)
reads_behind AskDegree = reads_named act.AskDegree (λ l. refl)
reads_behind AskParties = alone act.AskParties refl
reads_behind AskNames =
    made_of party_text IsPartyNumber Ends SameFirst read_party act.AskNames args_text (λ n h. refl) (numbers_end party_text IsPartyNumber read_party reads_party)
reads_behind Set =
    made_of (λ p. local_text p.0 ++ (codes " " ++ array_text p.1)) SetOk Ends SameFirst read_set_parts (λ parts. act.Set parts.0 parts.1) args_text (λ p h. refl) (numbers_end (λ p. local_text p.0 ++ (codes " " ++ array_text p.1)) SetOk read_set_parts reads_set_parts)
reads_behind Use = reads_named act.Use (λ l. refl)
reads_behind Leave = alone act.Leave refl

-- words of acts

word_key : List ℕ → ℕ
word_key text = if eqb (get_or text 0 0) 97 then 256 + get_or text 3 0 else get_or text 0 0

acts_apart : AreApart act_word
unfolding word_key
acts_apart Offer Offer behind z e = refl
acts_apart Retract Retract behind z e = refl
acts_apart SetControl SetControl behind z e = refl
acts_apart AskControl AskControl behind z e = refl
acts_apart AskState AskState behind z e = refl
acts_apart AskDegree AskDegree behind z e = refl
acts_apart AskParties AskParties behind z e = refl
acts_apart AskNames AskNames behind z e = refl
acts_apart Set Set behind z e = refl
acts_apart Use Use behind z e = refl
acts_apart Leave Leave behind z e = refl
acts_apart v w behind z e = absurd (omega (arith, ap word_key e))

every_word : (w : ActWord) → Member w act_words
every_word Offer = inl refl
every_word Retract = inr (inl refl)
every_word SetControl = inr (inr (inl refl))
every_word AskControl = inr (inr (inr (inl refl)))
every_word AskState = inr (inr (inr (inr (inl refl))))
every_word AskDegree = inr (inr (inr (inr (inr (inl refl)))))
every_word AskParties = inr (inr (inr (inr (inr (inr (inl refl))))))
every_word AskNames = inr (inr (inr (inr (inr (inr (inr (inl refl)))))))
every_word Set = inr (inr (inr (inr (inr (inr (inr (inr (inl refl))))))))
every_word Use = inr (inr (inr (inr (inr (inr (inr (inr (inr (inl refl)))))))))
every_word Leave = inr (inr (inr (inr (inr (inr (inr (inr (inr (inr (inl refl))))))))))

pub some_act : (w : ActWord) → (a : Act) × (word_of_act a ≡ w) × IsAct a
some_act Offer = (act.Offer 0 (65 ∷ []) (65 ∷ []) None, refl, (omega arith, a_name, a_name, tt))
some_act Retract = (act.Retract (65 ∷ []), refl, a_name)
some_act SetControl = (act.SetControl (65 ∷ []) (four_elements true true true true), refl, (a_name, refl))
some_act AskControl = (act.AskControl (65 ∷ []), refl, a_name)
some_act AskState = (act.AskState (65 ∷ []), refl, a_name)
some_act AskDegree = (act.AskDegree (65 ∷ []), refl, a_name)
some_act AskParties = (act.AskParties, refl, tt)
some_act AskNames = (act.AskNames 0, refl, omega arith)
some_act Set = (act.Set (65 ∷ []) a_value.0, refl, (a_name, a_value.1))
some_act Use = (act.Use (65 ∷ []), refl, a_name)
some_act Leave = (act.Leave, refl, tt)

-- an act is read
pub reads_act : IsReader act_text IsAct Ends SameFirst read_act
unfolding read_act
reads_act line a =
    let both : IsReader (λ e. act_word (word_of_act e) ++ args_text e) IsAct Ends SameFirst (λ line. read_word act_word 0 act_words line >>= λ word. act_behind word.0 word.1) =
    then_read act_word (λ w. Member w act_words) Anything word_of_act args_text IsAct Ends SameFirst (read_word act_word 0 act_words) act_behind no_further (reads_word act_word act_words acts_apart Offer (inl refl))
    (λ w h. reformed args_text args_text (ActOk w) (IsOf w) Ends Ends SameFirst (act_behind w) (act_back w) (act_there w) (λ e f. refl) (λ behind f. f) (reads_behind w))
    (λ e h. every_word (word_of_act e)) (λ e behind h follow. tt) (λ w h. some_act w) in
    reformed (λ e. act_word (word_of_act e) ++ args_text e) act_text IsAct IsAct Ends Ends SameFirst (λ line. read_word act_word 0 act_words line >>= λ word. act_behind word.0 word.1) (λ e h. h) (λ e h. h) (λ e h. act_spelled e) (λ behind h. h) both line a
