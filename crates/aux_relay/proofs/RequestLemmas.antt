-- Texts in requests: they are no longer than what they stand in, and requests are read as they are written.
use Rattle.std.proofs.Common.{◌≡◌, ◌∙◌, ℕ, ◌<◌, ◌≤◌, true, cond, leb, List, ◌∷◌, ◌++◌, length, Some, None, codes, ap, arith, length-append}
use Rattle.std.specs.Fmt.{decimal}
use Rattle.std.specs.List.{list_all}
use Rattle.std.proofs.lemmas.Bool.{and_parts, leb-true}
use Rattle.apl_arrays.specs.Glyph.{blank}
use Rattle.apl_arrays.specs.Parties.{is_user_number}
use Rattle.apl_arrays.specs.Word.{is_no_blank}
use Rattle.auxiliaries.specs.Protocol.{line_answer}
use Rattle.aux_words.specs.Fields.{cut_at_blank}
use Rattle.aux_words.specs.Number.{greatest_number, number_of}
use Rattle.aux_relay.specs.Request.{Request, send, take_from, waiting, other, HasTextUpTo, request_of, send_of, send_to, take_request, user_number, user_in}

-- a text that is no longer than a bound is no longer than a greater one
pub up_to : (request : Request) (few most : ℕ) → HasTextUpTo few request → few ≤ most → HasTextUpTo most request
up_to (send user text) few most short fits = omega (arith, short, fits)
up_to (take_from user) few most short fits = tt
up_to waiting few most short fits = tt
up_to other few most short fits = tt

-- what stands behind a word is no longer than the line
pub behind_is_shorter : (line word rest : List ℕ) → line ≡ word ++ rest → length rest ≤ length line
behind_is_shorter line word rest whole = omega (arith, ap length whole, length-append word rest)

-- a user's number is small, and greater than 0
user_fits : (user : ℕ) → is_user_number user ≡ true → (0 < user) × (user ≤ greatest_number)
user_fits user is =
    let parts = and_parts (leb 1001 user) (leb user 1999) is in
    (omega (arith, leb-true 1001 user parts.0), omega (arith, leb-true user 1999 parts.1))

-- a user's number as it is written
user_is_read : ((number : ℕ) → 0 < number → number ≤ greatest_number → number_of (decimal number) ≡ Some number) → (user : ℕ) → is_user_number user ≡ true → user_in (decimal user) ≡ Some user
user_is_read read user is =
    ap user_number (read user (user_fits user is).0 (user_fits user is).1) ∙ ap (λ b. cond b (Some user) None) is

pub send_is_read : ((number : ℕ) → 0 < number → number ≤ greatest_number → number_of (decimal number) ≡ Some number)
    → ((front rest : List ℕ) → list_all is_no_blank front ≡ true → cut_at_blank (front ++ blank ∷ rest) ≡ Some (front, rest))
    → ((number : ℕ) → number ≤ greatest_number → list_all is_no_blank (decimal number) ≡ true)
    → (user : ℕ) (text : List ℕ) → is_user_number user ≡ true → request_of (line_answer (codes "SEND " ++ (decimal user ++ 32 ∷ text))) ≡ send user text
send_is_read read cut none user text is =
    ap send_of (cut (decimal user) text (none user (user_fits user is).1)) ∙ ap (λ found. send_to found text) (user_is_read read user is)

pub take_is_read : ((number : ℕ) → 0 < number → number ≤ greatest_number → number_of (decimal number) ≡ Some number)
    → (user : ℕ) → is_user_number user ≡ true → request_of (line_answer (codes "TAKE " ++ decimal user)) ≡ take_from user
take_is_read read user is = ap take_request (user_is_read read user is)
