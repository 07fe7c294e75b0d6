-- Turns and readings that are added, or refused.
use Rattle.std.proofs.Common.{◌≡◌, ℕ, ℤ, pos, ◌+◌, ◌-◌, ◌<◌, ◌≤◌, ◌^◌, Bool, true, false, List, ◌++◌, length, map, refl, sym, ap, ap₂, ◌∙◌, subst, arith}
use Rattle.std.specs.List.{All, list_all}
use Rattle.std.proofs.lemmas.Bool.{le-leb, lt-leb}
use Rattle.std.proofs.lemmas.List.{length-map}
use Rattle.bundle_text.specs.Rules.{IsBundle, is_party}
use Rattle.bundle_text.specs.BundleLine.{IsBundleLine, order, clock}
use Rattle.bundle_text.specs.Draft.{PlainDraft, turns, readings, users_so_far, names_parties, line_keeps_limits, section_begun, with_line, bundle_of}
use Rattle.bundle_text.specs.Heading.{kept_numbers}
use Rattle.bundle_text.specs.Limits.{most_turns, most_readings}
use Rattle.text_reader.specs.Numeral.{capped, number_of_digits}
use Rattle.bundle_text.specs.User.{PlainUser}
use Rattle.bundle_text.proofs.Turns.{parties_kept, parties_small, kept_parties, kept_readings}

kept_length : (numbers : List ℕ) (digits : List (List ℕ)) → numbers ≡ kept_numbers digits → length numbers ≡ length digits
kept_length numbers digits is = ap length is ∙ length-map digits (λ word. capped (number_of_digits word))

-- turns name parties where what is kept of them does
pub parties_named : (old : PlainDraft) (users : List PlainUser) (numbers : List ℕ) (digits : List (List ℕ)) (named : Bool) → IsBundle (bundle_of old) → users ≡ users_so_far old → numbers ≡ kept_numbers digits → named ≡ list_all (is_party users) numbers → names_parties (users_so_far old) (order digits) ≡ named
parties_named old users numbers digits named rules are is e =
    sym (e ∙ (ap₂ (λ (us : List PlainUser) (ns : List ℕ). list_all (is_party us) ns) are is ∙ parties_kept (users_so_far old) digits rules.each))

pub small_parties : (old : PlainDraft) (users : List PlainUser) (numbers : List ℕ) → IsBundle (bundle_of old) → users ≡ users_so_far old → list_all (is_party users) numbers ≡ true → All (λ n. n < 2 ^ 32) numbers
small_parties old users numbers rules are named = parties_small (users_so_far old) numbers rules.each (ap (λ (us : List PlainUser). list_all (is_party us) numbers) (sym are) ∙ named)

-- how many turns there may be

pub turns_fit : (old : PlainDraft) (turned numbers : List ℕ) (digits : List (List ℕ)) → IsBundle (bundle_of old) → turned ≡ old.order → numbers ≡ kept_numbers digits → length numbers ≤ most_turns - length turned → line_keeps_limits old (order digits) ≡ true
turns_fit old turned numbers digits rules are is room = le-leb _ _ (omega (arith, rules.few_turns, ap length are, kept_length numbers digits is, room))

pub too_many_turns : (old : PlainDraft) (turned numbers : List ℕ) (digits : List (List ℕ)) → IsBundle (bundle_of old) → turned ≡ old.order → numbers ≡ kept_numbers digits → most_turns - length turned < length numbers → line_keeps_limits old (order digits) ≡ false
too_many_turns old turned numbers digits rules are is over =
    lt-leb _ _ (omega (arith, rules.few_turns, ap length are, kept_length numbers digits is, over))

pub turns_more : (old middle new : PlainDraft) (numbers : List ℕ) (digits : List (List ℕ)) → IsBundle (bundle_of old) → middle ≡ section_begun old turns → numbers ≡ kept_numbers digits → names_parties (users_so_far old) (order digits) ≡ true → new ≡ record middle { order = middle.order ++ numbers }
    → new ≡ with_line old (order digits)
turns_more old middle new numbers digits rules began is parties now =
    now ∙ (ap (λ (m : PlainDraft). record m { order = m.order ++ numbers }) began ∙ ap (λ (ns : List ℕ). record (section_begun old turns) { order = old.order ++ ns }) (is ∙ kept_parties (users_so_far old) digits rules.each parties))

-- how many readings there may be

pub readings_fit : (old : PlainDraft) (read : List ℤ) (numbers : List ℕ) (digits : List (List ℕ)) → IsBundle (bundle_of old) → read ≡ old.clock → numbers ≡ kept_numbers digits → length numbers ≤ most_readings - length read → line_keeps_limits old (clock digits) ≡ true
readings_fit old read numbers digits rules are is room = le-leb _ _ (omega (arith, rules.few_readings, ap length are, kept_length numbers digits is, room))

pub too_many_readings : (old : PlainDraft) (read : List ℤ) (numbers : List ℕ) (digits : List (List ℕ)) → IsBundle (bundle_of old) → read ≡ old.clock → numbers ≡ kept_numbers digits → most_readings - length read < length numbers → line_keeps_limits old (clock digits) ≡ false
too_many_readings old read numbers digits rules are is over =
    lt-leb _ _ (omega (arith, rules.few_readings, ap length are, kept_length numbers digits is, over))

pub readings_more : (old middle new : PlainDraft) (numbers : List ℕ) (digits : List (List ℕ)) → middle ≡ section_begun old readings → numbers ≡ kept_numbers digits → IsBundleLine (clock digits) → new ≡ record middle { clock = middle.clock ++ map pos numbers } → new ≡ with_line old (clock digits)
readings_more old middle new numbers digits began is form now =
    now ∙ (ap (λ (m : PlainDraft). record m { clock = m.clock ++ map pos numbers }) began ∙ ap (λ (zs : List ℤ). record (section_begun old readings) { clock = old.clock ++ zs }) (ap (map pos) is ∙ kept_readings digits form.1))
