-- The first line feed.
use Rattle.std.proofs.Common.{◌≡◌, ℕ, ◌+◌, ◌<◌, ◌≤◌, Bool, true, false, cond, List, ◌∷◌, ◌++◌, length, take, drop, get_or, eqb, ltb, Some, None, refl, sym, ap, ◌∙◌, arith, add-one, drop-cons}
use Rattle.std.specs.List.{position, position_or_len}
use Rattle.std.proofs.lemmas.Bool.{ltb-false, eqb-true, false≢true}
use Rattle.std.proofs.lemmas.List.{take-append-drop, get_or-take, length-take}
use Rattle.std.proofs.lemmas.List.Quantifiers.{position-Some}
use Rattle.std.proofs.lemmas.List.Sums.{fails_before_first}
use Rattle.line_text.specs.Lines.{HasNoFeed}

none_is_false : (b : Bool) (n : ℕ) → cond b (Some n) None ≡ None → b ≡ false
none_is_false true n e = absurd cc
none_is_false false n e = refl

pub no_feed_found : (bytes : List ℕ) → position (λ byte. eqb byte 10) bytes ≡ None → HasNoFeed bytes
no_feed_found bytes none k d within e =
    let beyond : length bytes ≤ position_or_len (λ byte. eqb byte 10) bytes = ltb-false _ _ (none_is_false (ltb (position_or_len (λ byte. eqb byte 10) bytes) (length bytes)) (position_or_len (λ byte. eqb byte 10) bytes) none) in
    let fails = fails_before_first (λ byte. eqb byte 10) bytes k d (omega arith) in
    false≢true (sym (rw e at fails))

pub feed_found : (bytes : List ℕ) (place : ℕ) → position (λ byte. eqb byte 10) bytes ≡ Some place → (bytes ≡ take place bytes ++ 10 ∷ drop (place + 1) bytes) × HasNoFeed (take place bytes)
feed_found bytes place found =
    let at = position-Some (λ byte. eqb byte 10) bytes place 0 found in
    let feed : get_or bytes place 0 ≡ 10 = eqb-true (get_or bytes place 0) 10 at.1 in
    let rest : drop place bytes ≡ 10 ∷ drop (place + 1) bytes = rw add-one (drop-cons bytes place 0 at.0) ∙ ap (λ byte. byte ∷ drop (place + 1) bytes) feed in
    let none : HasNoFeed (take place bytes) = λ k d within e.
    let below : k < place = omega (arith, length-take place bytes) in
    let same : get_or bytes k d ≡ 10 = sym (get_or-take place bytes k d below) ∙ e in
    let fails : eqb (get_or bytes k d) 10 ≡ false = (position-Some (λ byte. eqb byte 10) bytes place d found).2 k below in
    false≢true (sym (rw same at fails)) in
    (sym (take-append-drop place bytes) ∙ ap (λ (end : List ℕ). take place bytes ++ end) rest, none)
