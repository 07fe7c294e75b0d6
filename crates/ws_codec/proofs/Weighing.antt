-- What saved bytes hold weighs no more than they are many.
use Rattle.std.proofs.Common.{◌≡◌, ℕ, ℤ, ◌+◌, ◌≤◌, ◌⊎◌, inl, inr, List, [], ◌∷◌, ◌++◌, Ok, length, ap, length-append, w64, arith}
use Rattle.std.specs.Int.{cast_unsigned}
use Rattle.std.specs.List.{flat_map}
use Rattle.std.specs.Map.{values_of}
use Rattle.std.proofs.lemmas.List.Sums.{sum_by-cons}
use Rattle.byteorder.specs.Endian.{big_bytes}
use Rattle.byteorder.specs.Numbers.{length-bytes_high_first}
use Rattle.apl_arrays.specs.Array.{PlainItems, numbers, chars, item_count}
use Rattle.apl_workspace.specs.Function.{lines_weight}
use Rattle.apl_workspace.specs.Meaning.{NameTable, meaning_weight, table_weight}
use Rattle.apl_workspace.specs.declared.meaning.Meaning.{Meaning}
use Rattle.apl_workspace.specs.declared.meaning.Meaning.TheVariants.{Nothing, Value, Function, Label, Shared}
use Rattle.apl_workspace.specs.declared.remake.Remake.{Remake}
use Rattle.ws_codec.specs.Saved.{saved_reading, saved_of}
use Rattle.ws_codec.specs.SavedText.{array_bytes, first_version, function_bytes, items_bytes, line_bytes, magic, name_bytes, object_bytes, objects_bytes, offer_bytes, offers_bytes, second_version}
use Rattle.ws_codec.specs.Sound.{AreBytes, Follow, IsMeaning, IsObject}
use Rattle.ws_codec.proofs.SavedParts.{read_back}

numbers_weigh : (list : List ℤ) → length list ≤ length (flat_map (λ (z : ℤ). big_bytes 8 (cast_unsigned w64 z)) list)
numbers_weigh [] = omega arith
numbers_weigh (x ∷ xs) =
    omega (arith, numbers_weigh xs, length-append (big_bytes 8 (cast_unsigned w64 x)) (flat_map (λ (z : ℤ). big_bytes 8 (cast_unsigned w64 z)) xs), length-bytes_high_first 8 (cast_unsigned w64 x))

items_weigh : (items : PlainItems) → item_count items ≤ length (items_bytes items)
items_weigh (numbers list) = numbers_weigh list
items_weigh (chars list) = omega arith

lines_weigh_less : (lines : List (List ℕ)) → lines_weight lines ≤ length (flat_map line_bytes lines)
lines_weigh_less [] = omega arith
lines_weigh_less (line ∷ lines) =
    omega (
      arith,
      lines_weigh_less lines,
      sum_by-cons (λ (l : List ℕ). length l + 1) line lines,
      length-append (line_bytes line) (flat_map line_bytes lines),
      length-append (big_bytes 2 (length line)) line,
      length-bytes_high_first 2 (length line),
    )

object_weighs : (name : List ℕ) (weight : ℕ) (meaning : Meaning) → IsMeaning name weight meaning → meaning_weight meaning ≤ length (object_bytes name meaning)
object_weighs name weight Nothing is = absurd is
object_weighs name weight (Value value) is =
    omega (
      arith,
      items_weigh value.items,
      length-append (name_bytes name) (array_bytes value),
      length-append (flat_map (big_bytes 4) value.shape) (items_bytes value.items),
    )
object_weighs name weight (Function function) is =
    omega (
      arith,
      lines_weigh_less function.lines,
      length-append (name_bytes name) (function_bytes function),
      length-append (line_bytes function.text) (big_bytes 2 (length function.lines) ++ flat_map line_bytes function.lines),
      length-append (big_bytes 2 (length function.text)) function.text,
      length-append (big_bytes 2 (length function.lines)) (flat_map line_bytes function.lines),
    )
object_weighs name weight (Label line) is = absurd is
object_weighs name weight (Shared copy) is = absurd is

objects_weigh : (front table : NameTable) → Follow IsObject front table → table_weight table ≤ length (flat_map (λ (e : List ℕ × Meaning). object_bytes e.0 e.1) table)
objects_weigh front [] follow = omega arith
objects_weigh front (e ∷ es) follow =
    omega (
      arith,
      object_weighs e.0 (table_weight front) e.1 follow.0.meaning,
      objects_weigh (front ++ e ∷ []) es follow.1,
      sum_by-cons meaning_weight e.1 (values_of es),
      length-append (object_bytes e.0 e.1) (flat_map (λ (o : List ℕ × Meaning). object_bytes o.0 o.1) es),
    )

offers_weigh : (offers : List Remake) → length offers ≤ length (flat_map offer_bytes offers)
offers_weigh [] = omega arith
offers_weigh (o ∷ os) =
    omega (arith, offers_weigh os, length-append (offer_bytes o) (flat_map offer_bytes os), length-append (name_bytes o.local) (name_bytes o.surrogate ++ big_bytes 4 o.to))

second_length : (table : NameTable) (offers : List Remake) → length (flat_map (λ (e : List ℕ × Meaning). object_bytes e.0 e.1) table) + length (flat_map offer_bytes offers) ≤ length (second_version table offers)
second_length table offers =
    omega (
      arith,
      length-append magic (2 ∷ (objects_bytes table ++ offers_bytes offers)),
      length-append (objects_bytes table) (offers_bytes offers),
      length-append (big_bytes 4 (length table)) (flat_map (λ (e : List ℕ × Meaning). object_bytes e.0 e.1) table),
    )

first_length : (table : NameTable) → length (flat_map (λ (e : List ℕ × Meaning). object_bytes e.0 e.1) table) ≤ length (first_version table)
first_length table =
    omega (
      arith,
      length-append magic (1 ∷ objects_bytes table),
      length-append (big_bytes 4 (length table)) (flat_map (λ (e : List ℕ × Meaning). object_bytes e.0 e.1) table),
    )

text_weighs : (bytes : List ℕ) (table : NameTable) (offers : List Remake) → Follow IsObject [] table → (bytes ≡ second_version table offers) ⊎ ((bytes ≡ first_version table) × (offers ≡ [])) → table_weight table + length offers ≤ length bytes
text_weighs bytes table offers follow (inl second) =
    omega (arith, objects_weigh [] table follow, offers_weigh offers, second_length table offers, ap length second)
text_weighs bytes table offers follow (inr first) =
    omega (arith, objects_weigh [] table follow, first_length table, ap length first.0, ap length first.1)

-- what is read weighs no more than the bytes are many
pub read_weighs : (bytes : List ℕ) (table : NameTable) (offers : List Remake) → AreBytes bytes → saved_reading bytes ≡ Ok (saved_of table offers) → table_weight table + length offers ≤ length bytes
read_weighs bytes table offers are e =
    let back = read_back bytes table offers are e in
    text_weighs bytes table offers back.0.objects back.1
