-- Names of files are ASCII.
use Rattle.std.proofs.Common.{◌≡◌, ◌<◌, ◌≤◌, ℕ, zero, suc, List, [], ◌∷◌, Bool, true, false, ◌&&◌, ◌||◌, eqb, leb, refl, arith, lit<, eqb-true}
use Rattle.std.specs.List.{list_all}
use Rattle.std.specs.Str.{IsUtf8, IsAscii}
use Rattle.std.proofs.lemmas.Str.{IsUtf8-from_ascii}
use Rattle.std.proofs.lemmas.Bool.{leb-true, false≢true}
use Rattle.apl_arrays.specs.Glyph.{is_between}
use Rattle.apl_arrays.specs.File.{is_file_byte, IsFileName}

-- both of two tests that pass together
second : (a b : Bool) → (a && b) ≡ true → b ≡ true
second true b both = both
second false b both = absurd (false≢true both)

first : (a b : Bool) → (a && b) ≡ true → a ≡ true
first true b both = refl
first false b both = absurd (false≢true both)

-- one of two tests passes
either : (P : Type 0) (a b : Bool) → (a ≡ true → P) → (b ≡ true → P) → (a || b) ≡ true → P
either P true b left right one = left refl
either P false b left right one = right one

-- what stands between others is no greater than the greater one
below : (low high byte : ℕ) → high < 128 → is_between low high byte ≡ true → byte < 128
below low high byte small between =
    let le : byte ≤ high = leb-true byte high (second (leb low byte) (leb byte high) between) in omega (arith, le, small)

-- what is equal to a small number is small
equal : (number byte : ℕ) → number < 128 → eqb byte number ≡ true → byte < 128
equal number byte small same = let is : byte ≡ number = eqb-true byte number same in omega (arith, is, small)

-- a byte of a name is ASCII
byte_is_ascii : (byte : ℕ) → is_file_byte byte ≡ true → byte < 128
byte_is_ascii byte = either (byte < 128) _ _ (either (byte < 128) _ _ (either (byte < 128) _ _ (either (byte < 128) _ _ (either (byte < 128) _ _ (below 65 90 byte (lit< tt)) (below 97 122 byte (lit< tt))) (below 48 57 byte (lit< tt))) (equal 95 byte (lit< tt))) (equal 46 byte (lit< tt))) (equal 45 byte (lit< tt))

-- the bytes of a name are ASCII
are_ascii : (bytes : List ℕ) → list_all is_file_byte bytes ≡ true → IsAscii bytes
are_ascii [] all i = lit< tt
are_ascii (byte ∷ bytes) all zero = byte_is_ascii byte (first (is_file_byte byte) (list_all is_file_byte bytes) all)
are_ascii (byte ∷ bytes) all (suc i) = are_ascii bytes (second (is_file_byte byte) (list_all is_file_byte bytes) all) i

-- a name of a file is UTF-8
pub name_is_utf8 : (bytes : List ℕ) → IsFileName bytes → IsUtf8 bytes
name_is_utf8 [] is = absurd (false≢true is)
name_is_utf8 (byte ∷ bytes) is =
    IsUtf8-from_ascii (byte ∷ bytes) (are_ascii (byte ∷ bytes) (second _ (list_all is_file_byte (byte ∷ bytes)) is))
