-- The fields of saved bytes: single bytes, numbers, codes and names.
use Rattle.std.specs.Prelude.{◌&&◌, ◌-◌, ◌==◌, ◌∷◌, [], ℕ, ℤ, Bool, not, List, Option, Some, None, Ok, Err, length, nat_le, take, drop, if◌then◌else◌}
use Rattle.std.specs.Cmp.Lexicographic.{pointwise}
use Rattle.std.specs.Int.{w64, cast_signed}
use Rattle.std.specs.List.{list_all, prefix_len}
use Rattle.byteorder.specs.Endian.{big_number}
use Rattle.apl_arrays.specs.Glyph.{is_between}
use Rattle.apl_arrays.specs.Name.{is_name}
use Rattle.ws_codec.specs.Reading.{Reader, ◌>>=◌, keeps, required}
use Rattle.ws_codec.specs.declared.saved.SavedRule.TheVariants.{Glyph, Name, Short}
use Rattle.ws_codec.specs.declared.unread.Flaw.{Flaw}

-- the input ends in a field
abbrev pub cut : Flaw
cut = record { rule = Short; left = 0 }

-- a byte
unfoldable pub read_byte : Reader ℕ
read_byte [] = Err cut
read_byte (byte ∷ rest) = Ok (byte, rest)

-- so many bytes
unfoldable pub read_bytes : ℕ → Reader (List ℕ)
read_bytes count rest = if nat_le count (length rest) then Ok (take count rest, drop count rest) else Err cut

-- whether the bytes in front are these
unfoldable pub read_same : List ℕ → Reader Bool
read_same front rest = do
  field ← read_bytes (length front) rest
  Ok (pointwise ◌==◌ field.0 front, field.1)

-- a number of so many bytes, the highest first
unfoldable pub read_number : ℕ → Reader ℕ
read_number count rest = do
  field ← read_bytes count rest
  Ok (big_number count field.0, field.1)

-- a number of eight bytes with a sign
unfoldable pub read_integer : Reader ℤ
read_integer rest = do
  field ← read_bytes 8 rest
  Ok (cast_signed w64 (big_number 8 field.0), field.1)

-- the byte is the code of a glyph
abbrev pub is_code : ℕ → Bool
is_code byte = is_between 32 162 byte && not (byte == 127)

-- so many codes of glyphs; of the bytes that are none the first is reported
unfoldable pub read_glyphs : ℕ → Reader (List ℕ)
read_glyphs count rest = do
  field ← read_bytes count rest
  coded ← keeps (list_all is_code field.0) Glyph (length rest - prefix_len is_code field.0)
  Ok field

-- the name that bytes are the codes of
abbrev pub name_of_codes : List ℕ → Option (List ℕ)
name_of_codes bytes = if is_name bytes then Some bytes else None

-- a length of one byte and the codes of a name
unfoldable pub read_name : Reader (List ℕ)
read_name rest = do
  count ← read_byte rest
  field ← read_bytes count.0 count.1
  name ← required (name_of_codes field.0) Name (length rest)
  Ok (name, field.1)
