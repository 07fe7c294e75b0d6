-- The lines of a page before its end, and one line more.
use Rattle.std.proofs.Common.{◌≡◌, ℕ, ℤ, pos, List, [], ◌∷◌, ◌++◌, map, sym, ap, ◌∙◌, append-nil, append_assoc}
use Rattle.std.specs.List.{flat_map}
use Rattle.std.proofs.lemmas.List.{map-append}
use Rattle.std.proofs.lemmas.List.Concat.{flat_map-append}
use Rattle.bundle_text.specs.BundleLine.{PlainLine, input, user, order, file, clock}
use Rattle.text_reader.specs.Numeral.{number_of_digits}
use Rattle.bundle_text.specs.Bundle.{Sheet, user_section, file_section}
use Rattle.bundle_text.specs.User.{PlainUser}

-- the lines of a page before its end
abbrev pub body : List PlainUser → List (List (List ℕ)) → List Sheet → List (List (List ℕ)) → List PlainLine
body users orders sheets clocks =
    flat_map user_section users ++ map (λ numbers. order numbers) orders ++ flat_map file_section sheets
    ++ map (λ numbers. clock numbers) clocks

abbrev pub numbers_in : List (List (List ℕ)) → List ℕ
numbers_in lines = map number_of_digits (flat_map (λ numbers. numbers) lines)

abbrev pub readings_in : List (List (List ℕ)) → List ℤ
readings_in lines = map (λ digits. pos (number_of_digits digits)) (flat_map (λ numbers. numbers) lines)

-- one line of numbers more

lists_push : (lines : List (List (List ℕ))) (numbers : List (List ℕ)) → flat_map (λ ns. ns) (lines ++ numbers ∷ []) ≡ flat_map (λ ns. ns) lines ++ numbers
lists_push lines numbers =
    flat_map-append (λ (ns : List (List ℕ)). ns) lines (numbers ∷ []) ∙ ap (λ (last : List (List ℕ)). flat_map (λ ns. ns) lines ++ last) (append-nil numbers)

pub numbers_push : (lines : List (List (List ℕ))) (numbers : List (List ℕ)) (so_far : List ℕ) → numbers_in lines ≡ so_far → numbers_in (lines ++ numbers ∷ []) ≡ so_far ++ map number_of_digits numbers
numbers_push lines numbers so_far e =
    ap (map number_of_digits) (lists_push lines numbers) ∙ map-append number_of_digits (flat_map (λ ns. ns) lines) numbers ∙ ap (λ (front : List ℕ). front ++ map number_of_digits numbers) e

pub readings_push : (lines : List (List (List ℕ))) (numbers : List (List ℕ)) (so_far : List ℤ) → readings_in lines ≡ so_far → readings_in (lines ++ numbers ∷ []) ≡ so_far ++ map (λ digits. pos (number_of_digits digits)) numbers
readings_push lines numbers so_far e =
    let read = λ (digits : List ℕ). pos (number_of_digits digits) in
    ap (map read) (lists_push lines numbers) ∙ map-append read (flat_map (λ ns. ns) lines) numbers ∙ ap (λ (front : List ℤ). front ++ map read numbers) e

-- one line more at the end of the body

after_two : {A : Type 0} (x y : List A) (z : A) → x ++ (y ++ z ∷ []) ≡ (x ++ y) ++ z ∷ []
after_two x y z = sym (append_assoc x y (z ∷ []))

bare_two : (front : List PlainLine) → (front ++ []) ++ [] ≡ front
bare_two front = append-nil (front ++ []) ∙ append-nil front

bare_three : (front : List PlainLine) → ((front ++ []) ++ []) ++ [] ≡ front
bare_three front = append-nil ((front ++ []) ++ []) ∙ bare_two front

pub users_push : (users : List PlainUser) (one : PlainUser) → flat_map user_section (users ++ one ∷ []) ≡ flat_map user_section users ++ user_section one
users_push users one =
    flat_map-append user_section users (one ∷ []) ∙ ap (λ (last : List PlainLine). flat_map user_section users ++ last) (append-nil (user_section one))

pub sheets_push : (sheets : List Sheet) (one : Sheet) → flat_map file_section (sheets ++ one ∷ []) ≡ flat_map file_section sheets ++ file_section one
sheets_push sheets one =
    flat_map-append file_section sheets (one ∷ []) ∙ ap (λ (last : List PlainLine). flat_map file_section sheets ++ last) (append-nil (file_section one))

pub user_longer : (users : List PlainUser) (one : PlainUser) (line : List ℕ) → flat_map user_section (users ++ record { number = one.number; lines = one.lines ++ line ∷ [] } ∷ []) ≡ flat_map user_section (users ++ one ∷ []) ++ input line ∷ []
user_longer users one line =
    let next : PlainUser = record { number = one.number; lines = one.lines ++ line ∷ [] } in
    let longer : user_section next ≡ user_section one ++ input line ∷ [] = ap (λ (ls : List PlainLine). user one.number ∷ ls) (map-append (λ l. input l) one.lines (line ∷ [])) in
    users_push users next ∙ ap (λ (last : List PlainLine). flat_map user_section users ++ last) longer ∙ after_two (flat_map user_section users) (user_section one) (input line)
    ∙ ap (λ (front : List PlainLine). front ++ input line ∷ []) (sym (users_push users one))

pub sheet_longer : (sheets : List Sheet) (one : Sheet) (line : List ℕ) → flat_map file_section (sheets ++ record { name = one.name; lines = one.lines ++ line ∷ [] } ∷ []) ≡ flat_map file_section (sheets ++ one ∷ []) ++ input line ∷ []
sheet_longer sheets one line =
    let next : Sheet = record { name = one.name; lines = one.lines ++ line ∷ [] } in
    let longer : file_section next ≡ file_section one ++ input line ∷ [] = ap (λ (ls : List PlainLine). file one.name ∷ ls) (map-append (λ l. input l) one.lines (line ∷ [])) in
    sheets_push sheets next ∙ ap (λ (last : List PlainLine). flat_map file_section sheets ++ last) longer ∙ after_two (flat_map file_section sheets) (file_section one) (input line)
    ∙ ap (λ (front : List PlainLine). front ++ input line ∷ []) (sym (sheets_push sheets one))

pub body_user : (users more : List PlainUser) (line : PlainLine) → flat_map user_section more ≡ flat_map user_section users ++ line ∷ [] → body more [] [] [] ≡ body users [] [] [] ++ line ∷ []
body_user users more line e =
    bare_three (flat_map user_section more) ∙ (e ∙ ap (λ (front : List PlainLine). front ++ line ∷ []) (sym (bare_three (flat_map user_section users))))

pub body_turns : (users : List PlainUser) (orders : List (List (List ℕ))) (numbers : List (List ℕ)) → body users (orders ++ numbers ∷ []) [] [] ≡ body users orders [] [] ++ order numbers ∷ []
body_turns users orders numbers =
    let front = flat_map user_section users in
    let turned = λ (ns : List (List ℕ)). order ns in
    bare_two (front ++ map turned (orders ++ numbers ∷ []))
    ∙ (ap (λ (some : List PlainLine). front ++ some) (map-append turned orders (numbers ∷ []))
    ∙ (after_two front (map turned orders) (order numbers) ∙ ap (λ (some : List PlainLine). some ++ order numbers ∷ []) (sym (bare_two (front ++ map turned orders)))))

pub body_file : (users : List PlainUser) (orders : List (List (List ℕ))) (sheets more : List Sheet) (line : PlainLine) → flat_map file_section more ≡ flat_map file_section sheets ++ line ∷ [] → body users orders more [] ≡ body users orders sheets [] ++ line ∷ []
body_file users orders sheets more line e =
    let front = flat_map user_section users ++ map (λ (ns : List (List ℕ)). order ns) orders in
    append-nil (front ++ flat_map file_section more)
    ∙ (ap (λ (some : List PlainLine). front ++ some) e
    ∙ (after_two front (flat_map file_section sheets) line ∙ ap (λ (some : List PlainLine). some ++ line ∷ []) (sym (append-nil (front ++ flat_map file_section sheets)))))

pub body_clock : (users : List PlainUser) (orders : List (List (List ℕ))) (sheets : List Sheet) (clocks : List (List (List ℕ))) (numbers : List (List ℕ)) → body users orders sheets (clocks ++ numbers ∷ []) ≡ body users orders sheets clocks ++ clock numbers ∷ []
body_clock users orders sheets clocks numbers =
    let front = (flat_map user_section users ++ map (λ (ns : List (List ℕ)). order ns) orders) ++ flat_map file_section sheets in
    let read = λ (ns : List (List ℕ)). clock ns in
    ap (λ (some : List PlainLine). front ++ some) (map-append read clocks (numbers ∷ [])) ∙ after_two front (map read clocks) (clock numbers)
