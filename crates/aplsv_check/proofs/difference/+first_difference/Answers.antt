use Rattle.std.proofs.Common.{◌≡◌, ◌∙◌, ℕ, ◌∷◌, List, Option, None, length, map, rules, subst, subst₂, sym}
use Rattle.std.specs.Prelude.{MatchOption}
use Rattle.apl_arrays.specs.List.{glyphs_in}
use Rattle.party_turns.specs.declared.seat.UserSeat.{UserSeat}
use Rattle.printed_text.specs.Printed.{plain_printed}
use Rattle.printed_text.specs.declared.printed.PrintedTranscript.{PrintedTranscript}
use Rattle.check_rules.specs.Saw.{AllSaw, DifferAt, IsFirstDifference}
use Rattle.aplsv_check.specs.Followed.{AreSeatsOf}
use Rattle.aplsv_check.proofs.WhatTheySaw.{first_differs, no_seats, nobody_saw, others_differ}
use Rattle.aplsv_check.proofs.difference.+first_difference.Goals as goal

pub returns-in_err-seat : goal.returns-in_err-seat
returns-in_err-seat t c =
    let empty : length c.args.seats.now ≡ 0 = search rules in
    let is = no_seats c.args.seats.now empty in
    let none : c.from_residual.result ≡ None = search rules in
    λ journal users h left named.
    subst (λ (o : Option (ℕ × ℕ)). MatchOption o (AllSaw journal users (map plain_printed c.args.printed.now)) (λ found. IsFirstDifference journal users (map plain_printed c.args.printed.now) found.0 found.1)) (sym none)
    (nobody_saw journal users (map plain_printed c.args.printed.now) (subst (λ (list : List (UserSeat _)). AreSeatsOf journal users list) is h) named)

pub returns-in-Some : goal.returns-in-Some
returns-in-Some t c =
    let seat = c.in_ok-seat.seat.now in
    let first = c.in_ok-first.first.now in
    let is : c.args.seats.now ≡ c.in_ok-seat.seat.now ∷ c.in_ok-seat.others.now = search rules in
    let are : c.args.printed.now ≡ c.in_ok-first.first.now ∷ c.in_ok-first.rest.now = search rules in
    λ journal users h left named.
    let differ = subst (λ (lines : List (List ℕ)). DifferAt lines (map glyphs_in c.transcript.result.now) c.in-Some.line) c.as_slice.ensures c.in-Some.ensures in
    subst₂ (λ (list : List PrintedTranscript) (number : ℕ). IsFirstDifference journal users (map plain_printed list) number c.in-Some.line) (sym are) (sym c.user.ensures)
    (first_differs journal users seat c.in_ok-seat.others.now (plain_printed first) (map plain_printed c.in_ok-first.rest.now) (map glyphs_in c.transcript.result.now) c.in-Some.line
    (subst (λ (list : List (UserSeat _)). AreSeatsOf journal users list) is h) left c.transcript.ensures differ)

pub returns-in-None : goal.returns-in-None
returns-in-None t c =
    let seat = c.in_ok-seat.seat.now in
    let first = c.in_ok-first.first.now in
    let is : c.args.seats.now ≡ c.in_ok-seat.seat.now ∷ c.in_ok-seat.others.now = search rules in
    let are : c.args.printed.now ≡ c.in_ok-first.first.now ∷ c.in_ok-first.rest.now = search rules in
    λ journal users h left named.
    subst (λ (list : List PrintedTranscript). MatchOption c.first_difference.result (AllSaw journal users (map plain_printed list)) (λ found. IsFirstDifference journal users (map plain_printed list) found.0 found.1)) (sym are)
    (others_differ journal users seat c.in_ok-seat.others.now (plain_printed first) (map plain_printed c.in_ok-first.rest.now) (map glyphs_in c.transcript.result.now) c.first_difference.result
    (subst (λ (list : List (UserSeat _)). AreSeatsOf journal users list) is h) left
    (subst (λ (list : List PrintedTranscript). map (λ transcript. transcript.user) (map plain_printed list) ≡ map (λ user. user.number) users) are named) c.transcript.ensures (sym c.as_slice.ensures ∙ c.in-None.ensures)
    (λ others. c.first_difference.ensures journal others))
