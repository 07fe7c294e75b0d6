-- The heading of a user is read as it is written.
use Rattle.std.proofs.Common.{◌≡◌, ◌≢◌, ℕ, ◌≤◌, List, [], ◌∷◌, ◌++◌, codes, length, Ok, Err, refl, sym, ap, ◌∙◌, subst, arith, append-nil}
use Rattle.std.specs.Fmt.{decimal}
use Rattle.line_text.specs.Lines.{heading}
use Rattle.text_reader.specs.Reading.{Reading, Stops, read_literal}
use Rattle.text_reader.specs.NumberReading.{read_number}
use Rattle.text_reader.specs.declared.unread.Unread.{Unread}
use Rattle.text_reader.specs.declared.unread.Unread.TheVariants.{Left, WantOfMemory}
use Rattle.text_reader.proofs.Literals.{literal_is, literal_then}
use Rattle.text_reader.proofs.NumberForms.{InRange, NoDigit, number_reads}
use Rattle.text_reader.proofs.Readers.{Found, Reads, SameFirst, again_by}
use Rattle.text_reader.proofs.Told.{second_told, tell}
use Rattle.printed_text.specs.Line.{IsUserNumber}
use Rattle.printed_text.specs.UserReading.{read_user}

-- what is read with nothing behind it is a heading
pub user_found : (line : List ℕ) (number : ℕ) → read_user line ≡ Ok (number, []) → IsUserNumber number × (line ≡ heading number)
unfolding read_user
user_found line number e =
    let one = literal_then (read_literal (codes "user ") line) (λ rest. read_number 1001 1999 rest) (number, []) e in
    let found : Found decimal (InRange 1001 1999) NoDigit SameFirst one.0 number [] =
    subst (Reads decimal (InRange 1001 1999) NoDigit SameFirst one.0) one.2 (number_reads 1001 1999 (omega arith) (omega arith) one.0) in
    let text : one.0 ≡ decimal number = found.whole ∙ append-nil (decimal number) in
    ((found.fits.least, found.fits.most), literal_is (codes "user ") line one.0 one.1 ∙ ap (λ (rest : List ℕ). codes "user " ++ rest) text)

-- and a heading is read with nothing behind it
pub user_reads : (number : ℕ) → IsUserNumber number → read_user (heading number) ≡ Ok (number, [])
unfolding read_user
user_reads number range =
    let again : read_number 1001 1999 (decimal number ++ []) ≡ Ok (number, []) =
    again_by decimal (InRange 1001 1999) NoDigit SameFirst number [] (λ rest. refl) (record { least = range.0; most = range.1 }) refl (read_number 1001 1999 (decimal number ++ []))
    (number_reads 1001 1999 (omega arith) (omega arith) (decimal number ++ [])) in
    subst (λ (text : List ℕ). read_number 1001 1999 text ≡ Ok (number, [])) (append-nil (decimal number)) again

-- a line that is read so that something is left is no heading
pub more_left : (line : List ℕ) (number : ℕ) (rest : List ℕ) → read_user line ≡ Ok (number, rest) → (length rest ≡ 0 → ⊥) → (other : ℕ) → IsUserNumber other → line ≢ heading other
more_left line number rest read some other is same =
    let told : tell number rest ≡ tell other [] = sym read ∙ (ap read_user same ∙ user_reads other is) in
    some (ap length (second_told number rest other [] told))

-- nor is one at which the reading stops
pub none_read : (line : List ℕ) (why : Unread) → Stops why (read_user line) → (why ≡ WantOfMemory → ⊥) → (number : ℕ) → IsUserNumber number → line ≢ heading number
none_read line WantOfMemory stops free number is same = free refl
none_read line (Left left) stops free number is same =
    let told : tell number [] ≡ Err left = sym (user_reads number is) ∙ (ap read_user (sym same) ∙ stops) in
    absurd (let never : ⊥ = cc in never)

pub nothing_left : (rest : List ℕ) → length rest ≡ 0 → rest ≡ []
nothing_left [] none = refl
nothing_left (x ∷ rest) none = absurd (omega arith)
