-- Objects are read of their bytes, and of no others.
use Rattle.std.proofs.Common.{◌≡◌, ℕ, ◌<◌, Bool, true, false, eqb, List, [], ◌∷◌, ◌++◌, Some, None, Ok, length, refl, sym, ap, ◌∙◌, subst, append_assoc, eqb-true}
use Rattle.std.specs.Prelude.{if◌then◌else◌}
use Rattle.std.specs.List.{flat_map}
use Rattle.byteorder.specs.Endian.{big_bytes}
use Rattle.apl_arrays.specs.Array.{PlainArray, PlainItems, numbers, chars}
use Rattle.apl_arrays.specs.Name.{is_name}
use Rattle.apl_workspace.specs.Function.{PlainFunction}
use Rattle.apl_workspace.specs.Meaning.{NameTable, table_weight}
use Rattle.apl_workspace.specs.declared.meaning.Meaning.{Meaning}
use Rattle.apl_workspace.specs.declared.meaning.Meaning.TheVariants.{Nothing, Value, Function, Label, Shared}
use Rattle.ws_codec.specs.Fields.{read_byte, read_name, read_number}
use Rattle.ws_codec.specs.Functions.{read_function}
use Rattle.ws_codec.specs.Objects.{is_above, read_kind, kind_of_byte, last_name, read_meaning, read_next_object, object_behind, read_objects}
use Rattle.ws_codec.specs.Reading.{◌>>=◌, keeps, required, repeated}
use Rattle.ws_codec.specs.SavedText.{array_bytes, function_bytes, name_bytes, object_bytes, objects_bytes}
use Rattle.ws_codec.specs.Sound.{AreBytes, Follow, IsMeaning, IsObject}
use Rattle.ws_codec.specs.Values.{read_char_array, read_number_array}
use Rattle.ws_codec.specs.declared.kind.ObjectKind.{ObjectKind}
use Rattle.ws_codec.specs.declared.kind.ObjectKind.TheVariants.{Numbers, Chars, Defined}
use Rattle.ws_codec.specs.declared.saved.SavedRule.TheVariants.{Kind as KindRule, Order}
use Rattle.ws_codec.proofs.FieldParts.{byte_back, name_back, name_there, number_back, number_there}
use Rattle.ws_codec.proofs.FunctionParts.{function_back, function_there}
use Rattle.ws_codec.proofs.NumberParts.{rest_bytes}
use Rattle.ws_codec.proofs.Repeats.{IsBack, IsThere, all_back, all_there}
use Rattle.ws_codec.proofs.Told.{after_keeps, after_known, bind_ok, same_behind, same_first, tell}
use Rattle.ws_codec.proofs.ValueParts.{IsVariableOf, char_array_back, char_array_there, number_array_back, number_array_there}

-- an object by its name and what it is
abbrev bytes_of_object : List ℕ × Meaning → List ℕ
bytes_of_object object = object_bytes object.0 object.1

value_there : (front : NameTable) (name shape : List ℕ) (items : PlainItems) (rest : List ℕ) → IsObject front (name, Value (record { shape = shape; items = items })) → object_behind front (object_bytes name (Value (record { shape = shape; items = items })) ++ rest) ≡ Ok ((name, Value (record { shape = shape; items = items })), rest)
unfolding object_behind read_kind read_byte required keeps read_meaning
value_there front name shape (numbers list) rest h =
    rw (
      append_assoc (name_bytes name) (array_bytes (record { shape = shape; items = numbers list })) rest,
      name_there name (array_bytes (record { shape = shape; items = numbers list }) ++ rest) h.name,
      h.above,
      number_array_there (table_weight front) shape list rest h.meaning,
    ) refl
value_there front name shape (chars list) rest h =
    rw (
      append_assoc (name_bytes name) (array_bytes (record { shape = shape; items = chars list })) rest,
      name_there name (array_bytes (record { shape = shape; items = chars list }) ++ rest) h.name,
      h.above,
      char_array_there (table_weight front) shape list rest h.meaning,
    ) refl

defined_there : (front : NameTable) (name : List ℕ) (function : PlainFunction) (rest : List ℕ) → IsObject front (name, Function function) → object_behind front (object_bytes name (Function function) ++ rest) ≡ Ok ((name, Function function), rest)
unfolding object_behind read_kind read_byte required keeps read_meaning
defined_there front name function rest h =
    rw (
      append_assoc (name_bytes name) (function_bytes function) rest,
      name_there name (function_bytes function ++ rest) h.name,
      h.above,
      function_there name (table_weight front) function rest h.meaning,
    ) refl

object_there : (front : NameTable) (name : List ℕ) (meaning : Meaning) (rest : List ℕ) → IsObject front (name, meaning) → object_behind front (object_bytes name meaning ++ rest) ≡ Ok ((name, meaning), rest)
object_there front name Nothing rest h = absurd h.meaning
object_there front name (Value value) rest h = value_there front name value.shape value.items rest h
object_there front name (Function function) rest h = defined_there front name function rest h
object_there front name (Label line) rest h = absurd h.meaning
object_there front name (Shared copy) rest h = absurd h.meaning

objects_there_one : IsThere object_behind bytes_of_object IsObject
objects_there_one front object rest h = object_there front object.0 object.1 rest h

-- kinds

pub byte_of_kind : ObjectKind → ℕ
byte_of_kind Numbers = 1
byte_of_kind Chars = 2
byte_of_kind Defined = 3

third_kind : (byte : ℕ) (kind : ObjectKind) (b : Bool) → eqb byte 3 ≡ b → (if b then Some Defined else None) ≡ Some kind → byte ≡ byte_of_kind kind
unfolding byte_of_kind
third_kind byte kind true is e = subst (λ (k : ObjectKind). byte ≡ byte_of_kind k) (let same : Defined ≡ kind = cc in same) (eqb-true byte 3 is)
third_kind byte kind false is e = absurd (let none : ⊥ = cc in none)

second_kind : (byte : ℕ) (kind : ObjectKind) (b : Bool) → eqb byte 2 ≡ b → (if b then Some Chars else if eqb byte 3 then Some Defined else None) ≡ Some kind → byte ≡ byte_of_kind kind
unfolding byte_of_kind
second_kind byte kind true is e = subst (λ (k : ObjectKind). byte ≡ byte_of_kind k) (let same : Chars ≡ kind = cc in same) (eqb-true byte 2 is)
second_kind byte kind false is e = third_kind byte kind (eqb byte 3) refl e

first_kind : (byte : ℕ) (kind : ObjectKind) (b : Bool) → eqb byte 1 ≡ b → (if b then Some Numbers else if eqb byte 2 then Some Chars else if eqb byte 3 then Some Defined else None) ≡ Some kind → byte ≡ byte_of_kind kind
unfolding byte_of_kind
first_kind byte kind true is e = subst (λ (k : ObjectKind). byte ≡ byte_of_kind k) (let same : Numbers ≡ kind = cc in same) (eqb-true byte 1 is)
first_kind byte kind false is e = second_kind byte kind (eqb byte 2) refl e

kind_back : (bytes : List ℕ) (kind : ObjectKind) (rest : List ℕ) → read_kind bytes ≡ Ok (kind, rest) → bytes ≡ byte_of_kind kind ∷ rest
unfolding read_kind
kind_back bytes kind rest e =
    let first = bind_ok (read_byte bytes) (λ byte. required (kind_of_byte byte.0) KindRule (length bytes) >>= λ found. tell found byte.1) (kind, rest) e in
    let found = after_known (kind_of_byte first.0.0) KindRule (length bytes) (λ found. tell found first.0.1) (kind, rest) first.2 in
    let same = same_first found.0 first.0.1 kind rest found.2 in
    let behind = same_behind found.0 first.0.1 kind rest found.2 in
    let byte : first.0.0 ≡ byte_of_kind kind = first_kind first.0.0 found.0 (eqb first.0.0 1) refl found.1 ∙ ap byte_of_kind same in
    byte_back bytes first.0.0 first.0.1 first.1 ∙ (λ i. byte i ∷ behind i)

-- what was read as what an object is
pub record IsMeaningOf (kind : ObjectKind) (name : List ℕ) (weight : ℕ) (bytes : List ℕ) (object : List ℕ × Meaning) (rest : List ℕ) : Type 0 where
  pub named : object.0 ≡ name
  pub meaning : IsMeaning name weight object.1
  pub spelled : byte_of_kind kind ∷ (name_bytes name ++ bytes) ≡ object_bytes name object.1 ++ rest

told_object : (kind : ObjectKind) (name : List ℕ) (weight : ℕ) (bytes : List ℕ) (meaning : Meaning) (behind : List ℕ) (object : List ℕ × Meaning) (rest : List ℕ) → IsMeaningOf kind name weight bytes (name, meaning) behind → tell (name, meaning) behind ≡ tell object rest → IsMeaningOf kind name weight bytes object rest
told_object kind name weight bytes meaning behind object rest h e =
    subst (λ (o : List ℕ × Meaning). IsMeaningOf kind name weight bytes o rest) (same_first (name, meaning) behind object rest e) (subst (IsMeaningOf kind name weight bytes (name, meaning)) (same_behind (name, meaning) behind object rest e) h)

value_back : (kind : ObjectKind) (name : List ℕ) (weight : ℕ) (bytes : List ℕ) (value : PlainArray) (rest : List ℕ) → IsVariableOf (byte_of_kind kind) weight bytes value rest → IsMeaningOf kind name weight bytes (name, Value value) rest
value_back kind name weight bytes value rest h =
    let tail : name_bytes name ++ bytes ≡ (name_bytes name ++ array_bytes value) ++ rest = ap (λ (t : List ℕ). name_bytes name ++ t) h.spelled ∙ sym (append_assoc (name_bytes name) (array_bytes value) rest) in
    record {
      named = refl;
      meaning = h.is;
      spelled = λ i. sym h.of_kind i ∷ tail i;
    }

meaning_back : (kind : ObjectKind) (name : List ℕ) (weight : ℕ) (bytes : List ℕ) (object : List ℕ × Meaning) (rest : List ℕ) → AreBytes bytes → read_meaning kind name weight bytes ≡ Ok (object, rest) → IsMeaningOf kind name weight bytes object rest
unfolding read_meaning byte_of_kind
meaning_back Numbers name weight bytes object rest are e =
    let first = bind_ok (read_number_array weight bytes) (λ found. tell (name, Value found.0) found.1) (object, rest) e in
    told_object Numbers name weight bytes (Value first.0.0) first.0.1 object rest (value_back Numbers name weight bytes first.0.0 first.0.1 (number_array_back weight bytes first.0.0 first.0.1 are first.1)) first.2
meaning_back Chars name weight bytes object rest are e =
    let first = bind_ok (read_char_array weight bytes) (λ found. tell (name, Value found.0) found.1) (object, rest) e in
    told_object Chars name weight bytes (Value first.0.0) first.0.1 object rest (value_back Chars name weight bytes first.0.0 first.0.1 (char_array_back weight bytes first.0.0 first.0.1 are first.1)) first.2
meaning_back Defined name weight bytes object rest are e =
    let first = bind_ok (read_function name weight bytes) (λ found. tell (name, Function found.0) found.1) (object, rest) e in
    let read = function_back name weight bytes first.0.0 first.0.1 are first.1 in
    let made : IsMeaningOf Defined name weight bytes (name, Function first.0.0) first.0.1 = record {
      named = refl;
      meaning = read.0;
      spelled = ap (λ (t : List ℕ). 3 ∷ (name_bytes name ++ t)) read.1 ∙ ap (λ (t : List ℕ). 3 ∷ t) (sym (append_assoc (name_bytes name) (function_bytes first.0.0) first.0.1));
    } in
    told_object Defined name weight bytes (Function first.0.0) first.0.1 object rest made first.2

objects_back_one : IsBack object_behind bytes_of_object IsObject
unfolding object_behind
objects_back_one front bytes object rest are e =
    let kind = bind_ok (read_kind bytes) (λ kind. read_name kind.1 >>= λ name. keeps (is_above (last_name front) name.0) Order (length kind.1) >>= λ above. read_meaning kind.0 name.0 (table_weight front) name.1) (object, rest) e in
    let name = bind_ok (read_name kind.0.1) (λ name. keeps (is_above (last_name front) name.0) Order (length kind.0.1) >>= λ above. read_meaning kind.0.0 name.0 (table_weight front) name.1) (object, rest) kind.2 in
    let above = after_keeps (is_above (last_name front) name.0.0) Order (length kind.0.1) (λ above. read_meaning kind.0.0 name.0.0 (table_weight front) name.0.1) (object, rest) name.2 in
    let byte = kind_back bytes kind.0.0 kind.0.1 kind.1 in
    let known_as = name_back kind.0.1 name.0.0 name.0.1 name.1 in
    let left = rest_bytes (name_bytes name.0.0) name.0.1 (subst AreBytes known_as.1 ((subst AreBytes byte are).1)) in
    let meaning = meaning_back kind.0.0 name.0.0 (table_weight front) name.0.1 object rest left above.1 in (
      record {
        name = subst (λ (n : List ℕ). is_name n ≡ true) (sym meaning.named) known_as.0;
        above = subst (λ (n : List ℕ). is_above (last_name front) n ≡ true) (sym meaning.named) above.0;
        meaning = subst (λ (n : List ℕ). IsMeaning n (table_weight front) object.1) (sym meaning.named) meaning.meaning;
      },
      byte ∙ ap (λ (t : List ℕ). byte_of_kind kind.0.0 ∷ t) known_as.1 ∙ meaning.spelled ∙ ap (λ (n : List ℕ). object_bytes n object.1 ++ rest) (sym meaning.named),
    )

-- all objects

pub objects_there : (table : NameTable) (rest : List ℕ) → length table < 4294967296 → Follow IsObject [] table → read_objects (objects_bytes table ++ rest) ≡ Ok (table, rest)
unfolding read_objects
objects_there table rest count follow =
    rw (
      append_assoc (big_bytes 4 (length table)) (flat_map bytes_of_object table) rest,
      number_there 4 (length table) (flat_map bytes_of_object table ++ rest) count,
    ) (all_there object_behind bytes_of_object IsObject objects_there_one [] table rest follow)

pub record AreObjectsOf (bytes : List ℕ) (table : NameTable) (rest : List ℕ) : Type 0 where
  pub count : length table < 4294967296
  pub follow : Follow IsObject [] table
  pub spelled : bytes ≡ objects_bytes table ++ rest

pub objects_back : (bytes : List ℕ) (table : NameTable) (rest : List ℕ) → AreBytes bytes → read_objects bytes ≡ Ok (table, rest) → AreObjectsOf bytes table rest
unfolding read_objects
objects_back bytes table rest are e =
    let first = bind_ok (read_number 4 bytes) (λ count. repeated read_next_object count.0 [] count.1) (table, rest) e in
    let count = number_back 4 bytes first.0.0 first.0.1 are first.1 in
    let left = rest_bytes (big_bytes 4 first.0.0) first.0.1 (subst AreBytes count.1 are) in
    let read = all_back object_behind bytes_of_object IsObject objects_back_one first.0.0 [] first.0.1 table rest left first.2 in
    let same : read.list ≡ table = sym read.whole in
    let many : first.0.0 ≡ length table = sym read.many ∙ ap length same in
    record {
      count = subst (λ (n : ℕ). n < 4294967296) many count.0;
      follow = subst (Follow IsObject []) same read.follow;
      spelled = count.1 ∙ ap (λ (n : ℕ). big_bytes 4 n ++ first.0.1) many ∙ ap (λ (t : List ℕ). big_bytes 4 (length table) ++ t) (read.spelled ∙ ap (λ (t : NameTable). flat_map bytes_of_object t ++ rest) same)
          ∙ sym (append_assoc (big_bytes 4 (length table)) (flat_map bytes_of_object table) rest);
    }
