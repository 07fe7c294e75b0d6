-- The answers that fit an act are those that are listed for its word.
use Rattle.std.proofs.Common.{◌≡◌, ℕ, ◌+◌, ◌-◌, ◌<◌, ◌≤◌, ◌^◌, Bool, true, false, ◌&&◌, leb, List, [], ◌∷◌, ◌⊎◌, inl, inr, Some, None, refl, sym, ap, ◌∙◌, subst, arith}
use Rattle.std.proofs.lemmas.Bool.{false≢true, and_parts, and_from}
use Rattle.std.proofs.lemmas.Bool.Decides.{nat_tests}
use Rattle.std.proofs.lemmas.List.Elements.{recursion_from_All, All-from_recursion}
use Rattle.apl_arrays.specs.Name.{IsName}
use Rattle.sv_events.specs.Answer.{PlainAnswer, degree, granted, value, no_value, held, abandoned, not_shared, offer_limit, full, vector, parties, names, kept, done}
use Rattle.sv_events.specs.Entry.{PlainEntry}
use Rattle.sv_events.specs.Fits.{fits_kind, is_full_kind, is_degree_in_range, is_hold_in_range, answer_fits}
use Rattle.sv_events.specs.Row.{act_row, answer_row}
use Rattle.sv_events.specs.declared.event.Act.{Act}
use Rattle.sv_events.specs.declared.event.Act.TheVariants as act
use Rattle.sv_events.specs.declared.row.AnswerKind.{AnswerKind}
use Rattle.sv_events.specs.declared.row.AnswerKind.TheVariants.{Degree, Granted, Value, NoValue, Held, Abandoned, NotShared, OfferLimit, Full, Vector, Parties, Names, Kept, Done}
use Rattle.text_reader.proofs.NumberForms.{InRange}
use Rattle.sv_journal.specs.ActWord.{word_of_act, answers_to}
use Rattle.sv_journal.specs.IsEntry.{IsPartyNumber, IsAnswer, IsPair, IsEntry}
use Rattle.sv_journal.proofs.AnswerForms.{kind_of, Ranged, Listed}
use Rattle.sv_journal.proofs.EntryForms.{EntryOk}
use Rattle.sv_journal.proofs.WordForms.{Member}

-- an answer other than Full that fits is listed

NotFull : AnswerKind → Type 0
NotFull kind = is_full_kind kind ≡ false

fit_is_listed : (a : Act) (kind : AnswerKind) → NotFull kind → fits_kind (act_row a).row kind ≡ true → Member kind (answers_to (word_of_act a))
unfolding NotFull
fit_is_listed (act.Offer to local surrogate handed) Degree other e = inl refl
fit_is_listed (act.Offer to local surrogate handed) OfferLimit other e = inr (inl refl)
fit_is_listed (act.Offer to local surrogate handed) Full other e = absurd (false≢true (sym other))
fit_is_listed (act.Offer to local surrogate handed) kind other e = absurd (false≢true e)
fit_is_listed (act.Retract local) Kept other e = inl refl
fit_is_listed (act.Retract local) NotShared other e = inr (inl refl)
fit_is_listed (act.Retract local) Full other e = absurd (false≢true (sym other))
fit_is_listed (act.Retract local) kind other e = absurd (false≢true e)
fit_is_listed (act.SetControl local control) Vector other e = inl refl
fit_is_listed (act.SetControl local control) NotShared other e = inr (inl refl)
fit_is_listed (act.SetControl local control) Full other e = absurd (false≢true (sym other))
fit_is_listed (act.SetControl local control) kind other e = absurd (false≢true e)
fit_is_listed (act.AskControl local) Vector other e = inl refl
fit_is_listed (act.AskControl local) Full other e = absurd (false≢true (sym other))
fit_is_listed (act.AskControl local) kind other e = absurd (false≢true e)
fit_is_listed (act.AskState local) Vector other e = inl refl
fit_is_listed (act.AskState local) Full other e = absurd (false≢true (sym other))
fit_is_listed (act.AskState local) kind other e = absurd (false≢true e)
fit_is_listed (act.AskDegree local) Degree other e = inl refl
fit_is_listed (act.AskDegree local) Full other e = absurd (false≢true (sym other))
fit_is_listed (act.AskDegree local) kind other e = absurd (false≢true e)
fit_is_listed act.AskParties Parties other e = inl refl
fit_is_listed act.AskParties Full other e = absurd (false≢true (sym other))
fit_is_listed act.AskParties kind other e = absurd (false≢true e)
fit_is_listed (act.AskNames party) Names other e = inl refl
fit_is_listed (act.AskNames party) Full other e = absurd (false≢true (sym other))
fit_is_listed (act.AskNames party) kind other e = absurd (false≢true e)
fit_is_listed (act.Set local new) Granted other e = inl refl
fit_is_listed (act.Set local new) Held other e = inr (inl refl)
fit_is_listed (act.Set local new) Abandoned other e = inr (inr (inl refl))
fit_is_listed (act.Set local new) NotShared other e = inr (inr (inr (inl refl)))
fit_is_listed (act.Set local new) Full other e = absurd (false≢true (sym other))
fit_is_listed (act.Set local new) kind other e = absurd (false≢true e)
fit_is_listed (act.Use local) Value other e = inl refl
fit_is_listed (act.Use local) NoValue other e = inr (inl refl)
fit_is_listed (act.Use local) Held other e = inr (inr (inl refl))
fit_is_listed (act.Use local) Abandoned other e = inr (inr (inr (inl refl)))
fit_is_listed (act.Use local) NotShared other e = inr (inr (inr (inr (inl refl))))
fit_is_listed (act.Use local) Full other e = absurd (false≢true (sym other))
fit_is_listed (act.Use local) kind other e = absurd (false≢true e)
fit_is_listed act.Leave Done other e = inl refl
fit_is_listed act.Leave kind other e = absurd (false≢true e)

-- what is listed fits
listed_fits : (a : Act) (kind : AnswerKind) → Member kind (answers_to (word_of_act a)) → fits_kind (act_row a).row kind ≡ true
listed_fits (act.Offer to local surrogate handed) kind (inl e) = ap (fits_kind (act_row (act.Offer to local surrogate handed)).row) e
listed_fits (act.Offer to local surrogate handed) kind (inr (inl e)) = ap (fits_kind (act_row (act.Offer to local surrogate handed)).row) e
listed_fits (act.Retract local) kind (inl e) = ap (fits_kind (act_row (act.Retract local)).row) e
listed_fits (act.Retract local) kind (inr (inl e)) = ap (fits_kind (act_row (act.Retract local)).row) e
listed_fits (act.SetControl local control) kind (inl e) = ap (fits_kind (act_row (act.SetControl local control)).row) e
listed_fits (act.SetControl local control) kind (inr (inl e)) = ap (fits_kind (act_row (act.SetControl local control)).row) e
listed_fits (act.AskControl local) kind (inl e) = ap (fits_kind (act_row (act.AskControl local)).row) e
listed_fits (act.AskState local) kind (inl e) = ap (fits_kind (act_row (act.AskState local)).row) e
listed_fits (act.AskDegree local) kind (inl e) = ap (fits_kind (act_row (act.AskDegree local)).row) e
listed_fits act.AskParties kind (inl e) = ap (fits_kind (act_row act.AskParties).row) e
listed_fits (act.AskNames party) kind (inl e) = ap (fits_kind (act_row (act.AskNames party)).row) e
listed_fits (act.Set local new) kind (inl e) = ap (fits_kind (act_row (act.Set local new)).row) e
listed_fits (act.Set local new) kind (inr (inl e)) = ap (fits_kind (act_row (act.Set local new)).row) e
listed_fits (act.Set local new) kind (inr (inr (inl e))) = ap (fits_kind (act_row (act.Set local new)).row) e
listed_fits (act.Set local new) kind (inr (inr (inr (inl e)))) = ap (fits_kind (act_row (act.Set local new)).row) e
listed_fits (act.Use local) kind (inl e) = ap (fits_kind (act_row (act.Use local)).row) e
listed_fits (act.Use local) kind (inr (inl e)) = ap (fits_kind (act_row (act.Use local)).row) e
listed_fits (act.Use local) kind (inr (inr (inl e))) = ap (fits_kind (act_row (act.Use local)).row) e
listed_fits (act.Use local) kind (inr (inr (inr (inl e)))) = ap (fits_kind (act_row (act.Use local)).row) e
listed_fits (act.Use local) kind (inr (inr (inr (inr (inl e))))) = ap (fits_kind (act_row (act.Use local)).row) e
listed_fits act.Leave kind (inl e) = ap (fits_kind (act_row act.Leave).row) e
listed_fits (act.Offer to local surrogate handed) kind (inr (inr none)) = absurd none
listed_fits (act.Retract local) kind (inr (inr none)) = absurd none
listed_fits (act.SetControl local control) kind (inr (inr none)) = absurd none
listed_fits (act.AskControl local) kind (inr none) = absurd none
listed_fits (act.AskState local) kind (inr none) = absurd none
listed_fits (act.AskDegree local) kind (inr none) = absurd none
listed_fits act.AskParties kind (inr none) = absurd none
listed_fits (act.AskNames party) kind (inr none) = absurd none
listed_fits (act.Set local new) kind (inr (inr (inr (inr none)))) = absurd none
listed_fits (act.Use local) kind (inr (inr (inr (inr (inr none))))) = absurd none
listed_fits act.Leave kind (inr none) = absurd none

-- and is not Full
listed_not_full : (a : Act) (kind : AnswerKind) → Member kind (answers_to (word_of_act a)) → NotFull kind
unfolding NotFull
listed_not_full (act.Offer to local surrogate handed) kind (inl e) = ap is_full_kind e
listed_not_full (act.Offer to local surrogate handed) kind (inr (inl e)) = ap is_full_kind e
listed_not_full (act.Retract local) kind (inl e) = ap is_full_kind e
listed_not_full (act.Retract local) kind (inr (inl e)) = ap is_full_kind e
listed_not_full (act.SetControl local control) kind (inl e) = ap is_full_kind e
listed_not_full (act.SetControl local control) kind (inr (inl e)) = ap is_full_kind e
listed_not_full (act.AskControl local) kind (inl e) = ap is_full_kind e
listed_not_full (act.AskState local) kind (inl e) = ap is_full_kind e
listed_not_full (act.AskDegree local) kind (inl e) = ap is_full_kind e
listed_not_full act.AskParties kind (inl e) = ap is_full_kind e
listed_not_full (act.AskNames party) kind (inl e) = ap is_full_kind e
listed_not_full (act.Set local new) kind (inl e) = ap is_full_kind e
listed_not_full (act.Set local new) kind (inr (inl e)) = ap is_full_kind e
listed_not_full (act.Set local new) kind (inr (inr (inl e))) = ap is_full_kind e
listed_not_full (act.Set local new) kind (inr (inr (inr (inl e)))) = ap is_full_kind e
listed_not_full (act.Use local) kind (inl e) = ap is_full_kind e
listed_not_full (act.Use local) kind (inr (inl e)) = ap is_full_kind e
listed_not_full (act.Use local) kind (inr (inr (inl e))) = ap is_full_kind e
listed_not_full (act.Use local) kind (inr (inr (inr (inl e)))) = ap is_full_kind e
listed_not_full (act.Use local) kind (inr (inr (inr (inr (inl e))))) = ap is_full_kind e
listed_not_full act.Leave kind (inl e) = ap is_full_kind e
listed_not_full (act.Offer to local surrogate handed) kind (inr (inr none)) = absurd none
listed_not_full (act.Retract local) kind (inr (inr none)) = absurd none
listed_not_full (act.SetControl local control) kind (inr (inr none)) = absurd none
listed_not_full (act.AskControl local) kind (inr none) = absurd none
listed_not_full (act.AskState local) kind (inr none) = absurd none
listed_not_full (act.AskDegree local) kind (inr none) = absurd none
listed_not_full act.AskParties kind (inr none) = absurd none
listed_not_full (act.AskNames party) kind (inr none) = absurd none
listed_not_full (act.Set local new) kind (inr (inr (inr (inr none)))) = absurd none
listed_not_full (act.Use local) kind (inr (inr (inr (inr (inr none))))) = absurd none
listed_not_full act.Leave kind (inr none) = absurd none

-- ranges

in_range_of_hold : (element : ℕ) → (leb 1 element && leb element 4) ≡ true → InRange 1 4 element
in_range_of_hold element e =
    let parts = and_parts (leb 1 element) (leb element 4) e in
    let least : leb 1 element ≡ true = parts.0 in
    let most : leb element 4 ≡ true = parts.1 in
    record { least = grind (arith, nat_tests, least); most = grind (arith, nat_tests, most) }

hold_in_range : (element : ℕ) → InRange 1 4 element → (leb 1 element && leb element 4) ≡ true
hold_in_range element h =
    let least : 1 ≤ element = h.least in
    let most : element ≤ 4 = h.most in
    and_from (leb 1 element) (leb element 4) (grind (arith, nat_tests, least)) (grind (arith, nat_tests, most))

in_range_of_degree : (d : ℕ) → leb d 2 ≡ true → InRange 0 2 d
in_range_of_degree d e = record { least = omega arith; most = grind (arith, nat_tests, e) }

degree_in_range : (d : ℕ) → InRange 0 2 d → leb d 2 ≡ true
degree_in_range d h = let most : d ≤ 2 = h.most in grind (arith, nat_tests, most)

ranged : (a : PlainAnswer) → is_degree_in_range (answer_row a).row.degree ≡ true → is_hold_in_range (answer_row a).row.hold ≡ true → IsAnswer a → Ranged a
ranged (degree d) p q h = in_range_of_degree d p
ranged granted p q h = tt
ranged (value got) p q h = h
ranged no_value p q h = tt
ranged (held hold) p q h = in_range_of_hold hold.element q
ranged (abandoned hold) p q h = in_range_of_hold hold.element q
ranged not_shared p q h = tt
ranged offer_limit p q h = tt
ranged full p q h = tt
ranged (vector control) p q h = h
ranged (parties list) p q h = recursion_from_All IsPartyNumber list h
ranged (names list) p q h = recursion_from_All IsName list h
ranged (kept d known) p q h = (in_range_of_degree d p, h)
ranged done p q h = tt

ranged_degree : (a : PlainAnswer) → Ranged a → is_degree_in_range (answer_row a).row.degree ≡ true
ranged_degree (degree d) h = degree_in_range d h
ranged_degree granted h = refl
ranged_degree (value got) h = refl
ranged_degree no_value h = refl
ranged_degree (held hold) h = refl
ranged_degree (abandoned hold) h = refl
ranged_degree not_shared h = refl
ranged_degree offer_limit h = refl
ranged_degree full h = refl
ranged_degree (vector control) h = refl
ranged_degree (parties list) h = refl
ranged_degree (names list) h = refl
ranged_degree (kept d known) h = degree_in_range d h.0
ranged_degree done h = refl

ranged_hold : (a : PlainAnswer) → Ranged a → is_hold_in_range (answer_row a).row.hold ≡ true
ranged_hold (degree d) h = refl
ranged_hold granted h = refl
ranged_hold (value got) h = refl
ranged_hold no_value h = refl
ranged_hold (held hold) h = hold_in_range hold.element h
ranged_hold (abandoned hold) h = hold_in_range hold.element h
ranged_hold not_shared h = refl
ranged_hold offer_limit h = refl
ranged_hold full h = refl
ranged_hold (vector control) h = refl
ranged_hold (parties list) h = refl
ranged_hold (names list) h = refl
ranged_hold (kept d known) h = refl
ranged_hold done h = refl

answer_not_full : (a : PlainAnswer) → IsAnswer a → NotFull (kind_of a)
unfolding NotFull
answer_not_full (degree d) h = refl
answer_not_full granted h = refl
answer_not_full (value got) h = refl
answer_not_full no_value h = refl
answer_not_full (held hold) h = refl
answer_not_full (abandoned hold) h = refl
answer_not_full not_shared h = refl
answer_not_full offer_limit h = refl
answer_not_full full h = absurd h
answer_not_full (vector control) h = refl
answer_not_full (parties list) h = refl
answer_not_full (names list) h = refl
answer_not_full (kept d known) h = refl
answer_not_full done h = refl

is_answer : (a : PlainAnswer) → NotFull (kind_of a) → Ranged a → IsAnswer a
unfolding NotFull
is_answer (degree d) other h = tt
is_answer granted other h = tt
is_answer (value got) other h = h
is_answer no_value other h = tt
is_answer (held hold) other h = tt
is_answer (abandoned hold) other h = tt
is_answer not_shared other h = tt
is_answer offer_limit other h = tt
is_answer full other h = absurd (false≢true (sym other))
is_answer (vector control) other h = h
is_answer (parties list) other h = All-from_recursion IsPartyNumber list h
is_answer (names list) other h = All-from_recursion IsName list h
is_answer (kept d known) other h = h.1
is_answer done other h = tt

-- entries

pub entry_is_ok : (place : ℕ) (e : PlainEntry) → IsEntry place e → EntryOk (place, e)
entry_is_ok place e h =
    let degree_fits : Bool = is_degree_in_range (answer_row e.answer).row.degree in
    let hold_fits : Bool = is_hold_in_range (answer_row e.answer).row.hold in
    let kind_fits : Bool = fits_kind (act_row e.act).row (kind_of e.answer) in
    let parts = and_parts (degree_fits && hold_fits) kind_fits h.answered in
    let ranges = and_parts degree_fits hold_fits parts.0 in
    record {
      place = record { least = h.least; most = omega (arith, h.most) };
      party = h.party;
      act = h.act;
      answer = record { kind = fit_is_listed e.act (kind_of e.answer) (answer_not_full e.answer h.answer) parts.1; ranged = ranged e.answer ranges.0 ranges.1 h.answer };
      made = recursion_from_All IsPair e.made h.made;
    }

pub ok_is_entry : (place : ℕ) (e : PlainEntry) → EntryOk (place, e) → IsEntry place e
ok_is_entry place e h =
    let degree_fits : Bool = is_degree_in_range (answer_row e.answer).row.degree in
    let hold_fits : Bool = is_hold_in_range (answer_row e.answer).row.hold in
    let kind_fits : Bool = fits_kind (act_row e.act).row (kind_of e.answer) in
    record {
      least = h.place.least;
      most = omega (arith, h.place.most);
      party = h.party;
      act = h.act;
      answer = is_answer e.answer (listed_not_full e.act (kind_of e.answer) h.answer.kind) h.answer.ranged;
      answered = and_from (degree_fits && hold_fits) kind_fits (and_from degree_fits hold_fits (ranged_degree e.answer h.answer.ranged) (ranged_hold e.answer h.answer.ranged)) (listed_fits e.act (kind_of e.answer) h.answer.kind);
      made = All-from_recursion IsPair e.made h.made;
    }
