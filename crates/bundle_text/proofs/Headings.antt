-- Headings are read as they are written.
use Rattle.std.proofs.Common.{◌≡◌, ◌≢◌, ℕ, zero, suc, ◌+◌, ◌<◌, ◌≤◌, ◌^◌, min, Bool, true, false, ◌&&◌, cond, leb, List, [], ◌∷◌, ◌++◌, length, codes, Option, Some, None, MatchOption, Result, Ok, Err, refl, sym, ap, ◌∙◌, subst, arith, append-nil, append_assoc}
use Rattle.std.specs.Fmt.{decimal}
use Rattle.std.specs.Prelude.{IfOk, nat_le}
use Rattle.std.specs.List.{All, list_all}
use Rattle.std.proofs.lemmas.Bool.{false≢true, leb-true}
use Rattle.std.proofs.lemmas.Bool.Decides.{nat_tests}
use Rattle.std.proofs.lemmas.List.Elements.{All-nil, All-cons, All-head, All-tail}
use Rattle.apl_arrays.specs.File.{IsFileName, is_file_name}
use Rattle.line_text.specs.Spaced.{spaced}
use Rattle.line_text.proofs.Spans.{both}
use Rattle.text_reader.specs.declared.unread.Unread.{Unread}
use Rattle.text_reader.specs.declared.unread.Unread.TheVariants.{Left, WantOfMemory}
use Rattle.text_reader.specs.Reading.{Reading, ◌>>=◌, IsLeft, Stops, as_read, begins_with, read_file_name, read_list, read_literal, read_behind}
use Rattle.text_reader.specs.NumberReading.{read_number}
use Rattle.text_reader.specs.Numeral.{is_numeral, number_of_digits, capped, read_count}
use Rattle.text_reader.proofs.Literals.{literal_is, literal_then}
use Rattle.text_reader.proofs.NumberForms.{InRange, NoDigit, number_reads}
use Rattle.text_reader.proofs.Numerals.{CountFound, count_found, count_reads}
use Rattle.text_reader.proofs.Readers.{SameFirst, Reads, Found, again_by}
use Rattle.text_reader.proofs.Told.{tell, first_told, second_told, bind_ok}
use Rattle.bundle_text.specs.Rules.{IsUserNumber}
use Rattle.bundle_text.specs.BundleLine.{PlainLine, input, user, order, file, clock, end, IsBundleLine, IsReadingText, line_glyphs}
use Rattle.bundle_text.specs.Heading.{PlainHeading, user_heading, turns_heading, file_heading, readings_heading, end_heading, IsHeading, IsHeadingLine, IsNoHeading, IsSaidBy, kept_numbers, plain_heading}
use Rattle.bundle_text.specs.HeadingReading.{read_next_count, read_counts, read_user, read_turns, read_file, readings_of, read_readings, read_end, read_later_heading, read_heading}
use Rattle.bundle_text.specs.Limits.{greatest_reading}
use Rattle.bundle_text.specs.declared.heading.Heading.{Heading}
use Rattle.bundle_text.proofs.Texts.{no_digit_begins, reading_numerals, spaced_words, tails}

-- ---- numbers, each behind a blank

-- numbers by their digits, each behind a blank, up to what follows them
record Listed (line numbers rest : List ℕ) : Type 0 where
  words : List (List ℕ)
  are : list_all is_numeral words ≡ true
  kept_ : numbers ≡ kept_numbers words
  whole : line ≡ tails words ++ rest

-- a number behind a blank
next_found : (line : List ℕ) (number : ℕ) (rest : List ℕ) → read_next_count line ≡ Ok (number, rest) → (after : List ℕ) × (line ≡ 32 ∷ after) × CountFound after number rest
unfolding read_next_count
next_found line number rest e =
    let one = literal_then (read_literal (codes " ") line) read_count (number, rest) e in
    (one.0, literal_is (codes " ") line one.0 one.1, count_found one.0 number rest one.2)

-- one more in front
listed_more : (line after number_line numbers others rest : List ℕ) (number : ℕ) → line ≡ 32 ∷ after → CountFound after number number_line → number ∷ others ≡ numbers → Listed number_line others rest → Listed line numbers rest
listed_more line after number_line numbers others rest number front found all listed = record {
  words = found.word ∷ listed.words;
  are = ap (λ b. b && list_all is_numeral listed.words) found.are ∙ listed.are;
  kept_ = sym all ∙ (ap (λ n. n ∷ others) found.number_is ∙ ap (λ ns. capped (number_of_digits found.word) ∷ ns) listed.kept_);
  whole = front ∙ ap (λ (text : List ℕ). 32 ∷ text) (found.whole ∙ (ap (λ (text : List ℕ). found.word ++ text) listed.whole ∙ sym (append_assoc found.word (tails listed.words) rest)));
}

-- what is read as a list, where it goes on and where it ends
listed_step : (most : ℕ) (line numbers rest : List ℕ)
    → ((more others behind : List ℕ) → read_list (begins_with 32) read_next_count most more ≡ Ok (others, behind) → Listed more others behind) → (b : Bool)
    → cond b (read_next_count line >>= λ first. read_behind (first.0 ∷ []) (read_list (begins_with 32) read_next_count most first.1)) (Ok ([], line)) ≡ Ok (numbers, rest) → Listed line numbers rest
listed_step most line numbers rest inner true e =
    let one = bind_ok (read_next_count line) (λ first. read_behind (first.0 ∷ []) (read_list (begins_with 32) read_next_count most first.1)) (numbers, rest) e in
    let two = bind_ok (read_list (begins_with 32) read_next_count most one.0.1) (λ found. tell ((one.0.0 ∷ []) ++ found.0) found.1) (numbers, rest) one.2 in
    let next = next_found line one.0.0 one.0.1 one.1 in
    let all : one.0.0 ∷ two.0.0 ≡ numbers = first_told (one.0.0 ∷ two.0.0) two.0.1 numbers rest two.2 in
    let last : two.0.1 ≡ rest = second_told (one.0.0 ∷ two.0.0) two.0.1 numbers rest two.2 in
    listed_more line next.0 one.0.1 numbers two.0.0 rest one.0.0 next.1 next.2 all (subst (Listed one.0.1 two.0.0) last (inner one.0.1 two.0.0 two.0.1 two.1))
listed_step most line numbers rest inner false e = record {
  words = [];
  are = refl;
  kept_ = sym (first_told [] line numbers rest e);
  whole = second_told [] line numbers rest e;
}

listed : (most : ℕ) (line numbers rest : List ℕ) → read_list (begins_with 32) read_next_count most line ≡ Ok (numbers, rest) → Listed line numbers rest
unfolding read_list
listed zero line numbers rest e = record {
  words = [];
  are = refl;
  kept_ = sym (first_told [] line numbers rest e);
  whole = second_told [] line numbers rest e;
}
listed (suc most) line numbers rest e = listed_step most line numbers rest (listed most) (begins_with 32 line) e

-- what stands behind a blank and a word is shorter than they are
shorter : (word rest : List ℕ) (most : ℕ) → length (32 ∷ (word ++ rest)) ≤ suc most → length rest ≤ most
shorter [] rest most fits = omega (arith, fits)
shorter (x ∷ word) rest most fits = shorter word rest most (omega (arith, fits))

-- and numbers behind blanks are read as a list
reads_listed : (most : ℕ) (words : List (List ℕ)) → list_all is_numeral words ≡ true → length (tails words) ≤ most → read_list (begins_with 32) read_next_count most (tails words) ≡ Ok (kept_numbers words, [])
unfolding read_list read_next_count
reads_listed zero [] all fits = refl
reads_listed (suc most) [] all fits = refl
reads_listed zero (word ∷ words) all fits = absurd (omega (arith, fits))
reads_listed (suc most) (word ∷ words) all fits =
    let parts = both (is_numeral word) (list_all is_numeral words) all in
    let fewer : length (tails words) ≤ most = shorter word (tails words) most fits in
    let item : read_count (word ++ tails words) ≡ Ok (capped (number_of_digits word), tails words) = count_reads word (tails words) parts.0 (no_digit_begins words) in
    let inner = reads_listed most words parts.1 fewer in
    ap (λ (read : Reading ℕ). read >>= λ first. read_behind (first.0 ∷ []) (read_list (begins_with 32) read_next_count most first.1)) item
    ∙ ap (λ (read : Reading (List ℕ)). read_behind (capped (number_of_digits word) ∷ []) read) inner

-- ---- one number at least, with one blank between each two

-- numbers by their digits, up to what follows them
record Spaced (line numbers rest : List ℕ) : Type 0 where
  word : List ℕ
  words : List (List ℕ)
  are : list_all is_numeral (word ∷ words) ≡ true
  kept_ : numbers ≡ kept_numbers (word ∷ words)
  whole : line ≡ spaced (word ∷ words) ++ rest

spaced_found : (line numbers rest : List ℕ) → read_counts line ≡ Ok (numbers, rest) → Spaced line numbers rest
unfolding read_counts
spaced_found line numbers rest e =
    let one = bind_ok (read_count line) (λ first. read_behind (first.0 ∷ []) (read_list (begins_with 32) read_next_count (length first.1) first.1)) (numbers, rest) e in
    let two = bind_ok (read_list (begins_with 32) read_next_count (length one.0.1) one.0.1) (λ found. tell ((one.0.0 ∷ []) ++ found.0) found.1) (numbers, rest) one.2 in
    let first = count_found line one.0.0 one.0.1 one.1 in
    let others = listed (length one.0.1) one.0.1 two.0.0 two.0.1 two.1 in
    let all : one.0.0 ∷ two.0.0 ≡ numbers = first_told (one.0.0 ∷ two.0.0) two.0.1 numbers rest two.2 in
    let last : two.0.1 ≡ rest = second_told (one.0.0 ∷ two.0.0) two.0.1 numbers rest two.2 in
    record {
      word = first.word;
      words = others.words;
      are = ap (λ b. b && list_all is_numeral others.words) first.are ∙ others.are;
      kept_ = sym all ∙ (ap (λ n. n ∷ two.0.0) first.number_is ∙ ap (λ ns. capped (number_of_digits first.word) ∷ ns) others.kept_);
      whole = first.whole
          ∙ (ap (λ (text : List ℕ). first.word ++ text) (others.whole ∙ ap (λ (text : List ℕ). tails others.words ++ text) last)
          ∙ (sym (append_assoc first.word (tails others.words) rest) ∙ ap (λ (text : List ℕ). text ++ rest) (sym (spaced_words first.word others.words))));
    }

spaced_reads : (word : List ℕ) (words : List (List ℕ)) → list_all is_numeral (word ∷ words) ≡ true → read_counts (spaced (word ∷ words)) ≡ Ok (kept_numbers (word ∷ words), [])
unfolding read_counts
spaced_reads word words all =
    let parts = both (is_numeral word) (list_all is_numeral words) all in
    let item : read_count (word ++ tails words) ≡ Ok (capped (number_of_digits word), tails words) = count_reads word (tails words) parts.0 (no_digit_begins words) in
    ap read_counts (spaced_words word words)
    ∙ (ap (λ (read : Reading ℕ). read >>= λ first. read_behind (first.0 ∷ []) (read_list (begins_with 32) read_next_count (length first.1) first.1)) item
    ∙ ap (λ (read : Reading (List ℕ)). read_behind (capped (number_of_digits word) ∷ []) read) (reads_listed (length (tails words)) words parts.1 (omega arith)))

-- ---- numbers that are readings

small_test : (value : ℕ) → value ≤ greatest_reading → leb (capped value) greatest_reading ≡ true
small_test value small =
    let least : min value 18446744073709551615 ≤ 9223372036854775807 = omega (arith, small) in
    grind (arith, nat_tests, least)

small_value : (value : ℕ) → leb (capped value) greatest_reading ≡ true → value ≤ greatest_reading
small_value value is =
    let least = leb-true (capped value) greatest_reading is in omega (arith, least)

are_small : (words : List (List ℕ)) → All IsReadingText words → list_all (λ number. nat_le number greatest_reading) (kept_numbers words) ≡ true
are_small [] each = refl
are_small (word ∷ words) each =
    ap (λ b. b && list_all (λ number. nat_le number greatest_reading) (kept_numbers words)) (small_test (number_of_digits word) (All-head IsReadingText word words each).small)
    ∙ are_small words (All-tail IsReadingText word words each)

are_readings : (words : List (List ℕ)) → list_all is_numeral words ≡ true → list_all (λ number. nat_le number greatest_reading) (kept_numbers words) ≡ true → All IsReadingText words
are_readings [] are small = All-nil IsReadingText
are_readings (word ∷ words) are small =
    let one = both (is_numeral word) (list_all is_numeral words) are in
    let other = both (leb (capped (number_of_digits word)) greatest_reading) (list_all (λ number. nat_le number greatest_reading) (kept_numbers words)) small in
    All-cons IsReadingText word words (record { numeral = one.0; small = small_value (number_of_digits word) other.0 }) (are_readings words one.1 other.1)

-- ---- what is read as a heading is one, where nothing follows it

user_sound : (line : List ℕ) (heading : PlainHeading) → read_user line ≡ Ok (heading, []) → IsHeadingLine heading line
unfolding read_user
user_sound line heading e =
    let one = literal_then (read_literal (codes "user ") line) (λ rest. as_read user_heading (read_number 1001 1999 rest)) (heading, []) e in
    let two = bind_ok (read_number 1001 1999 one.0) (λ found. tell (user_heading found.0) found.1) (heading, []) one.2 in
    let found : Found decimal (InRange 1001 1999) NoDigit SameFirst one.0 two.0.0 two.0.1 =
    subst (Reads decimal (InRange 1001 1999) NoDigit SameFirst one.0) two.1 (number_reads 1001 1999 (omega arith) (omega arith) one.0) in
    let is : user_heading two.0.0 ≡ heading = first_told (user_heading two.0.0) two.0.1 heading [] two.2 in
    let last : two.0.1 ≡ [] = second_told (user_heading two.0.0) two.0.1 heading [] two.2 in
    let text : one.0 ≡ decimal two.0.0 = found.whole ∙ (ap (λ (rest : List ℕ). decimal two.0.0 ++ rest) last ∙ append-nil (decimal two.0.0)) in
    subst (λ (h : PlainHeading). IsHeadingLine h line) is (record {
      line = user two.0.0;
      is = refl;
      form = (found.fits.least, found.fits.most);
      spelled = literal_is (codes "user ") line one.0 one.1 ∙ ap (λ (rest : List ℕ). codes "user " ++ rest) text;
    })

turns_sound : (line : List ℕ) (heading : PlainHeading) → read_turns line ≡ Ok (heading, []) → IsHeadingLine heading line
unfolding read_turns
turns_sound line heading e =
    let one = literal_then (read_literal (codes "order ") line) (λ rest. as_read turns_heading (read_counts rest)) (heading, []) e in
    let two = bind_ok (read_counts one.0) (λ found. tell (turns_heading found.0) found.1) (heading, []) one.2 in
    let found = spaced_found one.0 two.0.0 two.0.1 two.1 in
    let is : turns_heading two.0.0 ≡ heading = first_told (turns_heading two.0.0) two.0.1 heading [] two.2 in
    let last : two.0.1 ≡ [] = second_told (turns_heading two.0.0) two.0.1 heading [] two.2 in
    let text : one.0 ≡ spaced (found.word ∷ found.words) =
    found.whole ∙ (ap (λ (rest : List ℕ). spaced (found.word ∷ found.words) ++ rest) last ∙ append-nil (spaced (found.word ∷ found.words))) in
    subst (λ (h : PlainHeading). IsHeadingLine h line) is (record {
      line = order (found.word ∷ found.words);
      is = (found.word ∷ found.words, refl, found.kept_);
      form = (omega arith, found.are);
      spelled = literal_is (codes "order ") line one.0 one.1 ∙ ap (λ (rest : List ℕ). codes "order " ++ rest) text;
    })

readings_by : (numbers rest : List ℕ) (heading : PlainHeading) → (b : Bool) → cond b (tell (readings_heading numbers) rest) (Err (length rest)) ≡ Ok (heading, []) → (b ≡ true) × (readings_heading numbers ≡ heading) × (rest ≡ [])
readings_by numbers rest heading true e =
    (refl, first_told (readings_heading numbers) rest heading [] e, second_told (readings_heading numbers) rest heading [] e)
readings_by numbers rest heading false e = absurd (let none : ⊥ = cc in none)

readings_sound : (line : List ℕ) (heading : PlainHeading) → read_readings line ≡ Ok (heading, []) → IsHeadingLine heading line
unfolding read_readings
readings_sound line heading e =
    let one = literal_then (read_literal (codes "clock ") line) (λ rest. read_counts rest >>= λ numbers. readings_of numbers.0 numbers.1) (heading, []) e in
    let two = bind_ok (read_counts one.0) (λ numbers. readings_of numbers.0 numbers.1) (heading, []) one.2 in
    let found = spaced_found one.0 two.0.0 two.0.1 two.1 in
    let last = readings_by two.0.0 two.0.1 heading (list_all (λ number. nat_le number greatest_reading) two.0.0) two.2 in
    let small : list_all (λ number. nat_le number greatest_reading) (kept_numbers (found.word ∷ found.words)) ≡ true = ap (list_all (λ number. nat_le number greatest_reading)) (sym found.kept_) ∙ last.0 in
    let text : one.0 ≡ spaced (found.word ∷ found.words) =
    found.whole ∙ (ap (λ (rest : List ℕ). spaced (found.word ∷ found.words) ++ rest) last.2 ∙ append-nil (spaced (found.word ∷ found.words))) in
    subst (λ (h : PlainHeading). IsHeadingLine h line) last.1 (record {
      line = clock (found.word ∷ found.words);
      is = (found.word ∷ found.words, refl, found.kept_);
      form = (omega arith, are_readings (found.word ∷ found.words) found.are small);
      spelled = literal_is (codes "clock ") line one.0 one.1 ∙ ap (λ (rest : List ℕ). codes "clock " ++ rest) text;
    })

name_by : (name : List ℕ) (heading : PlainHeading) → (b : Bool) → (as_read file_heading (cond b (tell name []) (Err (length name))) ≡ Ok (heading, [])) → (b ≡ true) × (file_heading name ≡ heading)
name_by name heading true e = (refl, first_told (file_heading name) [] heading [] e)
name_by name heading false e = absurd (let none : ⊥ = cc in none)

file_sound : (line : List ℕ) (heading : PlainHeading) → read_file line ≡ Ok (heading, []) → IsHeadingLine heading line
unfolding read_file
file_sound line heading e =
    let one = literal_then (read_literal (codes "file ") line) (λ rest. as_read file_heading (read_file_name rest)) (heading, []) e in
    let name = name_by one.0 heading (is_file_name one.0) one.2 in
    subst (λ (h : PlainHeading). IsHeadingLine h line) name.1 (record {
      line = file one.0;
      is = refl;
      form = name.0;
      spelled = literal_is (codes "file ") line one.0 one.1;
    })

end_sound : (line : List ℕ) (heading : PlainHeading) → read_end line ≡ Ok (heading, []) → IsHeadingLine heading line
unfolding read_end
end_sound line heading e =
    let one = literal_then (read_literal (codes "end") line) (λ rest. tell end_heading rest) (heading, []) e in
    let last : one.0 ≡ [] = second_told end_heading one.0 heading [] one.2 in
    subst (λ (h : PlainHeading). IsHeadingLine h line) (first_told end_heading one.0 heading [] one.2) (record {
      line = end;
      is = refl;
      form = tt;
      spelled = literal_is (codes "end") line one.0 one.1 ∙ ap (λ (rest : List ℕ). codes "end" ++ rest) last;
    })

-- what holds of each of two readings holds of the one that is chosen
chosen_reading : (P : Reading PlainHeading → Type 0) (b : Bool) (one other : Reading PlainHeading) → P one → P other → P (cond b one other)
chosen_reading P true one other p q = p
chosen_reading P false one other p q = q

-- a reading with nothing behind it is a heading's
abbrev IsSound : List ℕ → Reading PlainHeading → Type 0
IsSound line read = (heading : PlainHeading) → read ≡ Ok (heading, []) → IsHeadingLine heading line

heading_sound : (line : List ℕ) → IsSound line (read_heading line)
unfolding read_heading read_later_heading
heading_sound line =
    let readings_or_end : Reading PlainHeading = cond (begins_with 99 line) (read_readings line) (read_end line) in
    let file_or_more : Reading PlainHeading = cond (begins_with 102 line) (read_file line) readings_or_end in
    let turns_or_more : Reading PlainHeading = cond (begins_with 111 line) (read_turns line) file_or_more in
    chosen_reading (IsSound line) (begins_with 117 line) (read_user line) turns_or_more (user_sound line)
    (chosen_reading (IsSound line) (begins_with 111 line) (read_turns line) file_or_more (turns_sound line)
    (chosen_reading (IsSound line) (begins_with 102 line) (read_file line) readings_or_end (file_sound line)
    (chosen_reading (IsSound line) (begins_with 99 line) (read_readings line) (read_end line) (readings_sound line) (end_sound line))))

-- ---- and each heading is read, with nothing behind it

user_reads : (number : ℕ) → IsUserNumber number → read_user (codes "user " ++ decimal number) ≡ Ok (user_heading number, [])
unfolding read_user
user_reads number range =
    let again : read_number 1001 1999 (decimal number ++ []) ≡ Ok (number, []) =
    again_by decimal (InRange 1001 1999) NoDigit SameFirst number [] (λ rest. refl) (record { least = range.0; most = range.1 }) refl (read_number 1001 1999 (decimal number ++ []))
    (number_reads 1001 1999 (omega arith) (omega arith) (decimal number ++ [])) in
    let whole : read_number 1001 1999 (decimal number) ≡ Ok (number, []) = subst (λ (text : List ℕ). read_number 1001 1999 text ≡ Ok (number, [])) (append-nil (decimal number)) again in
    ap (λ (read : Reading ℕ). as_read user_heading read) whole

turns_reads : (word : List ℕ) (words : List (List ℕ)) → list_all is_numeral (word ∷ words) ≡ true → read_turns (codes "order " ++ spaced (word ∷ words)) ≡ Ok (turns_heading (kept_numbers (word ∷ words)), [])
unfolding read_turns
turns_reads word words all = ap (λ (read : Reading (List ℕ)). as_read turns_heading read) (spaced_reads word words all)

readings_reads : (word : List ℕ) (words : List (List ℕ)) → All IsReadingText (word ∷ words) → read_readings (codes "clock " ++ spaced (word ∷ words)) ≡ Ok (readings_heading (kept_numbers (word ∷ words)), [])
unfolding read_readings
readings_reads word words each =
    ap (λ (read : Reading (List ℕ)). read >>= λ numbers. readings_of numbers.0 numbers.1) (spaced_reads word words (reading_numerals (word ∷ words) each))
    ∙ ap (λ b. cond b (tell (readings_heading (kept_numbers (word ∷ words))) []) (Err 0)) (are_small (word ∷ words) each)

file_reads : (name : List ℕ) → IsFileName name → read_file (codes "file " ++ name) ≡ Ok (file_heading name, [])
unfolding read_file
file_reads name is = ap (λ b. as_read file_heading (cond b (tell name []) (Err (length name)))) is

heading_reads : (line : PlainLine) → IsHeading line → IsBundleLine line → (heading : PlainHeading) × (read_heading (line_glyphs line) ≡ Ok (heading, []))
unfolding read_heading read_later_heading read_end
heading_reads (input line) is form = absurd is
heading_reads (user number) is form = (user_heading number, user_reads number form)
heading_reads (order []) is form = absurd (omega (arith, form.0))
heading_reads (order (word ∷ words)) is form = (turns_heading (kept_numbers (word ∷ words)), turns_reads word words form.1)
heading_reads (file name) is form = (file_heading name, file_reads name form)
heading_reads (clock []) is form = absurd (omega (arith, form.0))
heading_reads (clock (word ∷ words)) is form = (readings_heading (kept_numbers (word ∷ words)), readings_reads word words form.1)
heading_reads end is form = (end_heading, refl)

-- ---- what a call finds

-- a line that is read in another way, or not, is that of no heading
none_read : (line : List ℕ) → ((heading : PlainHeading) → read_heading line ≡ Ok (heading, []) → ⊥) → IsNoHeading line
none_read line never other is form same =
    let one = heading_reads other is form in
    never one.0 (ap read_heading same ∙ one.1)

longer : (one other : PlainHeading) (x : ℕ) (rest : List ℕ) → tell one (x ∷ rest) ≡ tell other [] → ⊥
longer one other x rest e =
    let same : x ∷ rest ≡ [] = second_told one (x ∷ rest) other [] e in
    let none : ⊥ = cc in none

-- the heading that was read, where nothing is left
pub whole_found : (line : List ℕ) (heading : Heading) (rest : List ℕ) → read_heading line ≡ Ok (plain_heading heading, rest) → (found : Option Heading) → (length rest ≡ 0 → found ≡ Some heading) → ((length rest ≡ 0 → ⊥) → found ≡ None)
    → MatchOption found (IsNoHeading line) (λ heading. IsHeadingLine (plain_heading heading) line)
whole_found line heading [] read found whole more =
    subst (λ (o : Option Heading). MatchOption o (IsNoHeading line) (λ heading. IsHeadingLine (plain_heading heading) line)) (sym (whole refl)) (heading_sound line (plain_heading heading) read)
whole_found line heading (x ∷ rest) read found whole more =
    subst (λ (o : Option Heading). MatchOption o (IsNoHeading line) (λ heading. IsHeadingLine (plain_heading heading) line)) (sym (more (λ none. omega (arith, none))))
    (none_read line (λ other again. longer (plain_heading heading) other x rest (sym read ∙ again)))

stops_for_good : (left : ℕ) (heading : PlainHeading) (read : Reading PlainHeading) → read ≡ Err left → read ≡ Ok (heading, []) → ⊥
stops_for_good left heading read stops again = let none : ⊥ = cc in none

-- or none, where the reading stops
pub nothing_found : {E : Type 0} (line : List ℕ) (why : Unread) (result : Result (Option Heading) E) → Stops why (read_heading line) → IfOk result (λ found. (found ≡ None) × IsLeft why)
    → IfOk result (λ found. MatchOption found (IsNoHeading line) (λ heading. IsHeadingLine (plain_heading heading) line))
nothing_found line WantOfMemory (Ok found) stops is = absurd is.1
nothing_found line WantOfMemory (Err error) stops is = tt
nothing_found line (Left left) (Ok found) stops is =
    subst (λ (o : Option Heading). MatchOption o (IsNoHeading line) (λ heading. IsHeadingLine (plain_heading heading) line)) (sym is.0)
    (none_read line (λ other again. stops_for_good left other (read_heading line) stops again))
nothing_found line (Left left) (Err error) stops is = tt
