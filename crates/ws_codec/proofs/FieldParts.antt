-- What single fields are read as, and of what bytes.
use Rattle.std.proofs.Common.{◌≡◌, ℕ, ℤ, ◌-◌, ◌^◌, ◌<◌, Bool, true, false, List, [], ◌∷◌, ◌++◌, Some, None, Ok, Err, length, take, drop, refl, sym, ap, ◌∙◌, subst, append-nil, take-append-drop, length-take-le, length-append, leb-true, le-leb, w64, FitsSigned, arith}
use Rattle.std.specs.Prelude.{nat_le, if◌then◌else◌}
use Rattle.std.specs.Int.{cast_signed, cast_unsigned}
use Rattle.std.specs.List.{list_all, prefix_len}
use Rattle.std.proofs.Math.Seq.{take-append_seam, drop-append_seam}
use mir.Val.{Fits}
use mir.ValLaws.{of_z_fits, to_z-Fits, of_z-to_z, to_z-of_z}
use Rattle.byteorder.specs.Endian.{big_bytes, big_from, big_number}
use Rattle.byteorder.specs.Numbers.{big_from-lt, big_number-reads_back, length-bytes_high_first}
use Rattle.apl_arrays.specs.Name.{is_name}
use Rattle.ws_codec.specs.Fields.{read_byte, read_bytes, cut, read_glyphs, read_integer, is_code, read_name, name_of_codes, read_number}
use Rattle.ws_codec.specs.Reading.{Reading, ◌>>=◌, keeps, required}
use Rattle.ws_codec.specs.SavedText.{name_bytes}
use Rattle.ws_codec.specs.Sound.{AreBytes}
use Rattle.ws_codec.specs.declared.saved.SavedRule.TheVariants.{Glyph, Name}
use Rattle.ws_codec.proofs.NumberParts.{byte_below, bytes_again, front_bytes}
use Rattle.ws_codec.proofs.Told.{after_keeps, after_known, bind_ok, same_behind, same_first, tell}

-- a byte

pub byte_there : (byte : ℕ) (rest : List ℕ) → read_byte (byte ∷ rest) ≡ Ok (byte, rest)
unfolding read_byte
byte_there byte rest = refl

pub byte_back : (bytes : List ℕ) (byte : ℕ) (rest : List ℕ) → read_byte bytes ≡ Ok (byte, rest) → bytes ≡ byte ∷ rest
unfolding read_byte
byte_back [] byte rest e = absurd (let none : ⊥ = cc in none)
byte_back (x ∷ xs) byte rest e =
    let first = same_first x xs byte rest e in
    let behind = same_behind x xs byte rest e in
    λ i. first i ∷ behind i

-- bytes

pub bytes_there : (count : ℕ) (xs rest : List ℕ) → length xs ≡ count → read_bytes count (xs ++ rest) ≡ Ok (xs, rest)
unfolding read_bytes
bytes_there count xs rest len =
    let fits : nat_le (length xs) (length (xs ++ rest)) ≡ true = le-leb (length xs) (length (xs ++ rest)) (omega (arith, length-append xs rest)) in
    rw (← len, fits, take-append_seam xs rest, drop-append_seam xs rest) refl

bytes_by : (count : ℕ) (bytes xs rest : List ℕ) (b : Bool) → nat_le count (length bytes) ≡ b → (if b then tell (take count bytes) (drop count bytes) else Err cut) ≡ tell xs rest → (length xs ≡ count) × (bytes ≡ xs ++ rest)
bytes_by count bytes xs rest true fits e =
    let front = same_first (take count bytes) (drop count bytes) xs rest e in
    let behind = same_behind (take count bytes) (drop count bytes) xs rest e in (
      ap length (sym front) ∙ length-take-le count bytes (leb-true count (length bytes) fits),
      sym (take-append-drop count bytes) ∙ ap (λ (t : List ℕ). t ++ drop count bytes) front ∙ ap (λ (t : List ℕ). xs ++ t) behind,
    )
bytes_by count bytes xs rest false fits e = absurd (let none : ⊥ = cc in none)

pub bytes_back : (count : ℕ) (bytes xs rest : List ℕ) → read_bytes count bytes ≡ Ok (xs, rest) → (length xs ≡ count) × (bytes ≡ xs ++ rest)
unfolding read_bytes
bytes_back count bytes xs rest e = bytes_by count bytes xs rest (nat_le count (length bytes)) refl e

-- numbers

pub number_there : (count number : ℕ) (rest : List ℕ) → number < 256 ^ count → read_number count (big_bytes count number ++ rest) ≡ Ok (number, rest)
unfolding read_number
number_there count number rest fits =
    let field = bytes_there count (big_bytes count number) rest (length-bytes_high_first count number) in
    let again : big_number count (big_bytes count number) ≡ number = ap (big_from 0 count) (sym (append-nil (big_bytes count number))) ∙ big_number-reads_back count number [] fits in
    ap (λ (r : Reading (List ℕ)). r >>= λ found. tell (big_number count found.0) found.1) field ∙ ap (λ (n : ℕ). tell n rest) again

-- the number of a field of so many bytes
told_number : (count : ℕ) (xs : List ℕ) → length xs ≡ count → AreBytes xs → (big_number count xs < 256 ^ count) × (big_bytes count (big_number count xs) ≡ xs)
told_number count xs len are =
    (big_from-lt 0 count xs (byte_below xs are), subst (λ (n : ℕ). big_bytes n (big_number n xs) ≡ xs) len (bytes_again xs are))

pub number_back : (count : ℕ) (bytes : List ℕ) (number : ℕ) (rest : List ℕ) → AreBytes bytes → read_number count bytes ≡ Ok (number, rest) → (number < 256 ^ count) × (bytes ≡ big_bytes count number ++ rest)
unfolding read_number
number_back count bytes number rest are e =
    let first = bind_ok (read_bytes count bytes) (λ field. tell (big_number count field.0) field.1) (number, rest) e in
    let field = bytes_back count bytes first.0.0 first.0.1 first.1 in
    let told = told_number count first.0.0 field.0 (front_bytes first.0.0 first.0.1 (subst AreBytes field.1 are)) in
    let same = same_first (big_number count first.0.0) first.0.1 number rest first.2 in
    let behind = same_behind (big_number count first.0.0) first.0.1 number rest first.2 in (
      subst (λ (n : ℕ). n < 256 ^ count) same told.0,
      field.1 ∙ ap (λ (t : List ℕ). t ++ first.0.1) (sym told.1 ∙ ap (big_bytes count) same) ∙ ap (λ (t : List ℕ). big_bytes count number ++ t) behind,
    )

-- numbers with a sign

unsigned_fits : (number : ℤ) → FitsSigned w64 number → cast_unsigned w64 number < 256 ^ 8
unsigned_fits number fits = (of_z_fits w64 number fits).fits

pub integer_there : (number : ℤ) (rest : List ℕ) → FitsSigned w64 number → read_integer (big_bytes 8 (cast_unsigned w64 number) ++ rest) ≡ Ok (number, rest)
unfolding read_integer
integer_there number rest fits =
    let field = bytes_there 8 (big_bytes 8 (cast_unsigned w64 number)) rest (length-bytes_high_first 8 (cast_unsigned w64 number)) in
    let again : big_number 8 (big_bytes 8 (cast_unsigned w64 number)) ≡ cast_unsigned w64 number =
    ap (big_from 0 8) (sym (append-nil (big_bytes 8 (cast_unsigned w64 number)))) ∙ big_number-reads_back 8 (cast_unsigned w64 number) [] (unsigned_fits number fits) in
    ap (λ (r : Reading (List ℕ)). r >>= λ found. tell (cast_signed w64 (big_number 8 found.0)) found.1) field
    ∙ ap (λ (n : ℤ). tell n rest) (ap (cast_signed w64) again ∙ to_z-of_z w64 number fits)

pub integer_back : (bytes : List ℕ) (number : ℤ) (rest : List ℕ) → AreBytes bytes → read_integer bytes ≡ Ok (number, rest) → FitsSigned w64 number × (bytes ≡ big_bytes 8 (cast_unsigned w64 number) ++ rest)
unfolding read_integer
integer_back bytes number rest are e =
    let first = bind_ok (read_bytes 8 bytes) (λ field. tell (cast_signed w64 (big_number 8 field.0)) field.1) (number, rest) e in
    let field = bytes_back 8 bytes first.0.0 first.0.1 first.1 in
    let told = told_number 8 first.0.0 field.0 (front_bytes first.0.0 first.0.1 (subst AreBytes field.1 are)) in
    let fits : Fits w64 (big_number 8 first.0.0) = record { fits = told.0 } in
    let same = same_first (cast_signed w64 (big_number 8 first.0.0)) first.0.1 number rest first.2 in
    let behind = same_behind (cast_signed w64 (big_number 8 first.0.0)) first.0.1 number rest first.2 in
    let again : big_number 8 first.0.0 ≡ cast_unsigned w64 number = sym (of_z-to_z w64 (big_number 8 first.0.0) fits) ∙ ap (cast_unsigned w64) same in (
      subst (FitsSigned w64) same (to_z-Fits w64 (big_number 8 first.0.0) fits),
      field.1 ∙ ap (λ (t : List ℕ). t ++ first.0.1) (sym told.1 ∙ ap (big_bytes 8) again) ∙ ap (λ (t : List ℕ). big_bytes 8 (cast_unsigned w64 number) ++ t) behind,
    )

-- codes of glyphs

pub glyphs_there : (count : ℕ) (xs rest : List ℕ) → length xs ≡ count → list_all is_code xs ≡ true → read_glyphs count (xs ++ rest) ≡ Ok (xs, rest)
unfolding read_glyphs keeps
glyphs_there count xs rest len coded = rw (bytes_there count xs rest len, coded) refl

pub glyphs_back : (count : ℕ) (bytes xs rest : List ℕ) → read_glyphs count bytes ≡ Ok (xs, rest) → (length xs ≡ count) × (list_all is_code xs ≡ true) × (bytes ≡ xs ++ rest)
unfolding read_glyphs
glyphs_back count bytes xs rest e =
    let first = bind_ok (read_bytes count bytes) (λ field. keeps (list_all is_code field.0) Glyph (length bytes - prefix_len is_code field.0) >>= λ coded. tell field.0 field.1) (xs, rest) e in
    let field = bytes_back count bytes first.0.0 first.0.1 first.1 in
    let coded = after_keeps (list_all is_code first.0.0) Glyph (length bytes - prefix_len is_code first.0.0) (λ coded. tell first.0.0 first.0.1) (xs, rest) first.2 in
    let same = same_first first.0.0 first.0.1 xs rest coded.1 in
    let behind = same_behind first.0.0 first.0.1 xs rest coded.1 in
    (ap length (sym same) ∙ field.0, ap (list_all is_code) (sym same) ∙ coded.0, field.1 ∙ ap (λ (t : List ℕ). t ++ first.0.1) same ∙ ap (λ (t : List ℕ). xs ++ t) behind)

-- names

pub name_there : (name rest : List ℕ) → is_name name ≡ true → read_name (name_bytes name ++ rest) ≡ Ok (name, rest)
unfolding read_name read_byte required
name_there name rest is = rw (bytes_there (length name) name rest refl, is) refl

name_by : (bytes name : List ℕ) (b : Bool) → is_name bytes ≡ b → (if b then Some bytes else None) ≡ Some name → (is_name name ≡ true) × (bytes ≡ name)
name_by bytes name true is e = let same : bytes ≡ name = cc in (ap is_name (sym same) ∙ is, same)
name_by bytes name false is e = absurd (let none : ⊥ = cc in none)

pub name_back : (bytes name rest : List ℕ) → read_name bytes ≡ Ok (name, rest) → (is_name name ≡ true) × (bytes ≡ name_bytes name ++ rest)
unfolding read_name
name_back bytes name rest e =
    let first = bind_ok (read_byte bytes) (λ count. read_bytes count.0 count.1 >>= λ field. required (name_of_codes field.0) Name (length bytes) >>= λ found. tell found field.1) (name, rest) e in
    let second = bind_ok (read_bytes first.0.0 first.0.1) (λ field. required (name_of_codes field.0) Name (length bytes) >>= λ found. tell found field.1) (name, rest) first.2 in
    let third = after_known (name_of_codes second.0.0) Name (length bytes) (λ found. tell found second.0.1) (name, rest) second.2 in
    let one = byte_back bytes first.0.0 first.0.1 first.1 in
    let field = bytes_back first.0.0 first.0.1 second.0.0 second.0.1 second.1 in
    let known_as = name_by second.0.0 third.0 (is_name second.0.0) refl third.1 in
    let same : second.0.0 ≡ name = known_as.1 ∙ same_first third.0 second.0.1 name rest third.2 in
    let behind = same_behind third.0 second.0.1 name rest third.2 in
    let is : is_name name ≡ true = subst (λ (n : List ℕ). is_name n ≡ true) (same_first third.0 second.0.1 name rest third.2) known_as.0 in
    let count : first.0.0 ≡ length name = sym field.0 ∙ ap length same in
    let after : first.0.1 ≡ name ++ rest = field.1 ∙ ap (λ (t : List ℕ). t ++ second.0.1) same ∙ ap (λ (t : List ℕ). name ++ t) behind in
    (is, one ∙ (λ i. count i ∷ after i))
