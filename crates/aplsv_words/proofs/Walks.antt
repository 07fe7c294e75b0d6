-- The table as the parser builds it, and the rows that it keeps.
use Rattle.std.proofs.Common.{◌≡◌, ◌||◌, ◌&&◌, ◌++◌, ℕ, Bool, true, false, cond, List, [], ◌∷◌, map, length, nat_lt, Option, Some, None, codes, refl, sym, ap, ap₂, ◌∙◌, append-nil}
use Rattle.std.specs.List.{list_all}
use Rattle.std.specs.Option.{option_map, option_map_or}
use Rattle.std.specs.Str.{bytes_eq}
use Rattle.std.proofs.lemmas.Bool.{or_parts}
use Rattle.std.proofs.lemmas.List.{map_push}
use Rattle.clap.specs.Faults.{is_simple_and_free, settle_fault, use_fault}
use Rattle.clap.specs.Kinds.{Kinds, or_else}
use Rattle.clap.specs.Simple.{App, Shape, built, is_simple}
use Rattle.clap.specs.Walk.{Held, Row, Rule, arg_by_id, arg_by_index, arg_by_long, at_row, has_row, more_values, settled, settled_rows, used, used_by_id, with_values, without}
use Rattle.clap.specs.declared.builder.action.ArgAction.TheVariants.{Set, SetTrue}
use Rattle.clap.specs.declared.builder.value_parser.Reading.TheVariants.{AsWritten}
use Rattle.clap.specs.declared.builder.value_parser.ValueParser.TheVariants as vp
use Rattle.clap.specs.declared.error.kind.ErrorKind.{ErrorKind}
use Rattle.clap.specs.declared.error.kind.ErrorKind.TheVariants as kind
use Rattle.clap.specs.declared.parser.matches.ValueSource.TheVariants.{CommandLine}
use Rattle.aplsv_words.specs.CommandLine.{command_of}
use Rattle.aplsv_words.specs.Table.{Word, flag, look_table, table, word_with_value}
use Rattle.aplsv_words.specs.Meaning.{AreFine, Setting, Text, has_setting, word_of}
use Rattle.aplsv_words.proofs.Lexing.{is_name}
use Rattle.aplsv_words.proofs.Settings.{alone, fine_more, fine_next, known_value, value_known, with_value}

-- ---- the command

-- the argument of a word, with what building adds
abbrev pub argument : Word → Rule
argument word = record {
  id = word.name;
  long = Some word.name;
  aliases = [];
  short = None;
  short_aliases = [];
  index = None;
  action = Some (cond word.takes_value Set SetTrue);
  range = Some (record { start_inclusive = cond word.takes_value 1 0; end_inclusive = cond word.takes_value 1 0 });
  value_names = 0;
  defaults = cond word.takes_value [] (codes "false" ∷ []);
  missing = cond word.takes_value [] (codes "true" ∷ []);
  trailing_var_arg = false;
  parser = Some (cond word.takes_value vp.NonEmptyString vp.Bool);
  ignore_case = false;
  required = false;
  is_simple = true;
  is_free = true;
}

abbrev pub arguments : List Word → List Rule
arguments words = map argument words

abbrev pub shape : List Word → Shape
shape words = record {
  name = codes "aplsv";
  aliases = [];
  rules = arguments words;
  is_plain = true;
  is_leaf = true;
  no_binary_name = true;
  disable_help_flag = true;
  disable_help_subcommand = true;
  disable_version_flag = false;
  propagate_version = false;
  has_version = false;
  has_long_version = false;
  args_override_self = false;
  arg_required_else_help = false;
  subcommand_required = false;
  subcommand_negates_reqs = false;
  is_built = true;
}

abbrev pub app : List Word → App
app words = record { top = shape words; subs = [] }

-- the parser builds these words as they stand, tells all of its parses, and `=` can end each name
pub record IsTable (words : List Word) : Type 0 where
  pub built : built (command_of words) ≡ app words
  pub free : is_simple_and_free (command_of words) ≡ true
  pub told : is_simple (command_of words) ≡ true
  pub names : list_all (λ word. is_name word.name) words ≡ true

-- the words of a run are such a table, and so are those of a look
pub words_are_a_table : IsTable table
words_are_a_table = record { built = refl; free = refl; told = refl; names = refl }

pub looks_are_a_table : IsTable look_table
looks_are_a_table = record { built = refl; free = refl; told = refl; names = refl }

-- ---- look-ups

pub long_is : (words : List Word) (name : Text) → arg_by_long (arguments words) name ≡ option_map argument (word_of words name)
long_is [] name = refl
long_is (word ∷ words) name = by (bytes_eq word.name name) (long_is words name) where
  by : (b : Bool) → arg_by_long (arguments words) name ≡ option_map argument (word_of words name)
      → cond (b || false) (Some (argument word)) (arg_by_long (arguments words) name) ≡ option_map argument (cond b (Some word) (word_of words name))
  by true later = refl
  by false later = later

pub id_is : (words : List Word) (name : Text) → arg_by_id (arguments words) name ≡ option_map argument (word_of words name)
id_is [] name = refl
id_is (word ∷ words) name = by (bytes_eq word.name name) (id_is words name) where
  by : (b : Bool) → arg_by_id (arguments words) name ≡ option_map argument (word_of words name)
      → cond b (Some (argument word)) (arg_by_id (arguments words) name) ≡ option_map argument (cond b (Some word) (word_of words name))
  by true later = refl
  by false later = later

-- no word stands by its place
pub index_is_none : (words : List Word) (place : ℕ) → arg_by_index (arguments words) place ≡ None
index_is_none [] place = refl
index_is_none (word ∷ words) place = index_is_none words place

-- ---- rows

-- the row of a setting
abbrev pub row_for : Setting → Row
row_for s = record {
  id = s.name;
  values = option_map_or (λ value. value ∷ []) s.value (codes "true" ∷ []);
  count = None;
  source = Some CommandLine;
  reading = AsWritten;
}

pub has_row_is : (name : Text) (settings : List Setting) → has_row name (map row_for settings) ≡ has_setting name settings
has_row_is name [] = refl
has_row_is name (s ∷ settings) = ap (λ (b : Bool). bytes_eq s.name name || b) (has_row_is name settings)

-- where the name has no row, another one comes behind
pub row_missing : (name : Text) (change : Row → List Row) (missing rows : List Row) → has_row name rows ≡ false → at_row name change missing rows ≡ rows ++ missing
row_missing name change missing [] none = refl
row_missing name change missing (r ∷ rows) none =
    let apart = or_parts (bytes_eq r.id name) (has_row name rows) none in
    ap (λ (b : Bool). cond b (change r ++ rows) (r ∷ at_row name change missing rows)) apart.0 ∙ ap (λ (more : List Row). r ∷ more) (row_missing name change missing rows apart.1)

pub nothing_goes : (name : Text) (rows : List Row) → has_row name rows ≡ false → without name rows ≡ rows
nothing_goes name rows none = row_missing name (λ _. []) [] rows none ∙ append-nil rows

pub flag_used : (name : Text) (rows : List Row) → has_row name rows ≡ false → used (argument (flag name)) [] rows ≡ rows ++ row_for (alone name) ∷ []
flag_used name rows none =
    ap (with_values name AsWritten CommandLine (codes "true" ∷ [])) (nothing_goes name rows none)
    ∙ row_missing name (more_values CommandLine (codes "true" ∷ [])) (row_for (alone name) ∷ []) rows none

pub value_used : (name value : Text) (rows : List Row) → has_row name rows ≡ false → used (argument (word_with_value name)) (value ∷ []) rows ≡ rows ++ row_for (with_value name value) ∷ []
value_used name value rows none =
    ap (with_values name AsWritten CommandLine (value ∷ [])) (nothing_goes name rows none)
    ∙ row_missing name (more_values CommandLine (value ∷ [])) (row_for (with_value name value) ∷ []) rows none

-- ---- faults

pub no_kinds : (k : ErrorKind) (ks : Kinds) → ◌≡◌ {A = Kinds} (k ∷ ks) [] → ⊥
no_kinds k ks e = cc

pub both_none : (a b : Kinds) → a ≡ [] → b ≡ [] → or_else a b ≡ []
both_none a b first second = ap (λ (ks : Kinds). or_else ks b) first ∙ second

pub none_of : (a b : Kinds) → or_else a b ≡ [] → (a ≡ []) × (b ≡ [])
none_of [] b e = (refl, e)
none_of (k ∷ ks) b e = absurd (no_kinds k ks e)

-- the faults of a use, by whether the name has a row
abbrev repeated : Bool → Kinds
repeated b = cond (b && true) (kind.ArgumentConflict ∷ []) []

-- and whether its value is not empty
abbrev valued_fault : Bool → Bool → Kinds
valued_fault b filled = or_else (repeated b) (or_else (cond filled [] (kind.InvalidValue ∷ [])) [])

pub flag_free : (name : Text) (rows : List Row) → has_row name rows ≡ false → use_fault false (argument (flag name)) [] rows ≡ []
flag_free name rows none = ap (λ (b : Bool). or_else (repeated b) []) none

pub flag_none : (name : Text) (rows : List Row) → use_fault false (argument (flag name)) [] rows ≡ [] → has_row name rows ≡ false
flag_none name rows e = by (has_row name rows) refl e where
  by : (b : Bool) → has_row name rows ≡ b → or_else (repeated b) [] ≡ [] → has_row name rows ≡ false
  by true is e = absurd (no_kinds kind.ArgumentConflict [] e)
  by false is e = is

pub value_free : (name value : Text) (rows : List Row) → has_row name rows ≡ false → nat_lt 0 (length value) ≡ true → use_fault false (argument (word_with_value name)) (value ∷ []) rows ≡ []
value_free name value rows none filled = ap₂ valued_fault none filled

pub value_none : (name value : Text) (rows : List Row) → use_fault false (argument (word_with_value name)) (value ∷ []) rows ≡ [] → (has_row name rows ≡ false) × (nat_lt 0 (length value) ≡ true)
value_none name value rows e = by (has_row name rows) refl (nat_lt 0 (length value)) refl e where
  by : (b : Bool) → has_row name rows ≡ b → (filled : Bool) → nat_lt 0 (length value) ≡ filled → valued_fault b filled ≡ [] → (has_row name rows ≡ false) × (nat_lt 0 (length value) ≡ true)
  by true is filled whole e = absurd (no_kinds kind.ArgumentConflict [] e)
  by false is true whole e = (is, whole)
  by false is false whole e = absurd (no_kinds kind.InvalidValue [] e)

-- a value that is missing is a fault
pub value_missing : (name : Text) (rows : List Row) → use_fault false (argument (word_with_value name)) [] rows ≡ [] → ⊥
value_missing name rows e = no_kinds kind.InvalidValue [] e

-- ---- what is held between two words

abbrev pub holding : List Row → Option (Text × List Text) → Held
holding rows pending = record { rows = rows; pending = pending; skip = 0 }

-- a name that waits to be used with its value
abbrev pub last_value : Option (Text × Text) → Option (Text × List Text)
last_value last = option_map (λ p. (p.0, p.1 ∷ [])) last

-- the settings so far, with the last one
abbrev pub so_far : List Setting → Option (Text × Text) → List Setting
so_far done None = done
so_far done (Some p) = done ++ with_value p.0 p.1 ∷ []

-- the name that waits is a word with a value
abbrev pub MayWait : List Word → Option (Text × Text) → Type 0
MayWait words None = Unit {0}
MayWait words (Some p) = word_of words p.0 ≡ Some (word_with_value p.0)

module _ (words : List Word) where
  -- the fault and the rows of what waits, by the argument of its name
  abbrev fault_by : Text → List Row → Option Rule → Kinds
  fault_by value rows found = option_map_or (λ a. use_fault false a (value ∷ []) rows) found []

  found_id : (name : Text) → word_of words name ≡ Some (word_with_value name) → arg_by_id (arguments words) name ≡ Some (argument (word_with_value name))
  found_id name found = id_is words name ∙ ap (option_map argument) found

  rows_settled : (done : List Setting) (name value : Text) → word_of words name ≡ Some (word_with_value name) → has_row name (map row_for done) ≡ false
      → settled_rows (arguments words) (Some (name, value ∷ [])) (map row_for done) ≡ map row_for (done ++ with_value name value ∷ [])
  rows_settled done name value found none =
      ap (λ (a : Option Rule). used_by_id a (value ∷ []) (map row_for done)) (found_id name found)
      ∙ (value_used name value (map row_for done) none ∙ sym (map_push row_for done (with_value name value)))

  -- what waits can be used where the settings are fine with it
  pub settles : (done : List Setting) (last : Option (Text × Text)) → MayWait words last → AreFine words (so_far done last)
      → (settle_fault (arguments words) false (holding (map row_for done) (last_value last)) ≡ []) × ((settled (arguments words) (holding (map row_for done) (last_value last))).rows ≡ map row_for (so_far done last))
  settles done None waits fine = (refl, refl)
  settles done (Some p) waits fine =
      let next = fine_next words done (with_value p.0 p.1) [] fine in
      let none : has_row p.0 (map row_for done) ≡ false = has_row_is p.0 done ∙ next.0 in (
        ap (fault_by p.1 (map row_for done)) (found_id p.0 waits) ∙ value_free p.0 p.1 (map row_for done) none (known_value words p.0 p.1 next.1).1,
        rows_settled done p.0 p.1 waits none,
      )

  -- and where it can be used, they are fine with it
  pub settled_fine : (done : List Setting) (last : Option (Text × Text)) → MayWait words last → AreFine words done
      → settle_fault (arguments words) false (holding (map row_for done) (last_value last)) ≡ [] → AreFine words (so_far done last)
  settled_fine done None waits fine e = fine
  settled_fine done (Some p) waits fine e =
      let parts = value_none p.0 p.1 (map row_for done) (sym (ap (fault_by p.1 (map row_for done)) (found_id p.0 waits)) ∙ e) in
      fine_more words done (with_value p.0 p.1) fine (value_known words p.0 p.1 waits parts.1) (sym (has_row_is p.0 done) ∙ parts.0)

  -- a name whose value is missing can't be used
  pub nothing_settles : (rows : List Row) (name : Text) → word_of words name ≡ Some (word_with_value name) → settle_fault (arguments words) false (holding rows (Some (name, []))) ≡ [] → ⊥
  nothing_settles rows name found e =
      value_missing name rows (sym (ap (λ (a : Option Rule). option_map_or (λ b. use_fault false b [] rows) a []) (found_id name found)) ∙ e)
