-- What the parser makes of one word.
use Rattle.std.proofs.Common.{◌≡◌, Bool, true, false, cond, List, [], ◌∷◌, nat_lt, Option, Some, None, is_some, refl, sym, ap, ap₂, ◌∙◌}
use Rattle.std.specs.Option.{option_map, option_map_or}
use Rattle.std.specs.Str.{bytes_eq}
use Rattle.clap.specs.Faults.{bundle_fault, flag_word_fault, long_fault, option_fault, other_fault, positional_fault, settle_fault, step_fault, stray_fault, turn_fault, use_fault}
use Rattle.clap.specs.Kinds.{Kinds, or_else}
use Rattle.clap.specs.Lexer.{long_of}
use Rattle.clap.specs.Walk.{Held, Row, Rule, Step, Waiting, Walk, after_flag, after_step, arg_by_long, idle, long_met, long_or_other, next, option, option_word, positional, settled, short_or_plain, subcommand_met, subcommand_or_other, takes_values, trailing, used, walked}
use Rattle.clap.specs.declared.error.kind.ErrorKind.TheVariants as kind
use Rattle.aplsv_words.specs.Table.{Word, flag, word_with_value}
use Rattle.aplsv_words.specs.Meaning.{Text, word_of}
use Rattle.aplsv_words.proofs.Lexing.{IsLong, IsPlain, bare}
use Rattle.aplsv_words.proofs.Texts.{same}
use Rattle.aplsv_words.proofs.Walks.{argument, arguments, holding, id_is, index_is_none, long_is, no_kinds, none_of, shape}

-- where the walk stands between two words
abbrev pub between : List Row → Option (Text × List Text) → Waiting → Walk
between rows pending waiting = record { held = holding rows pending; waiting = waiting; position = 1; is_trailing = false; stopped = None }

-- the faults where what waits is used, and then an argument
abbrev pub faults_now : List Word → Held → Rule → List Text → Kinds
faults_now words h a values = or_else (or_else (settle_fault (arguments words) false h) (use_fault false a values (settled (arguments words) h).rows)) []

-- and the rows behind it
abbrev pub rows_now : List Word → Held → Rule → List Text → List Row
rows_now words h a values = used a values (settled (arguments words) h).rows

-- there is no subcommand
nothing_met : (waiting : Waiting) (word : Text) → subcommand_met [] waiting word ≡ None
nothing_met idle word = refl
nothing_met (option id) word = refl
nothing_met positional word = refl

module _ (words : List Word) (rows : List Row) (pending : Option (Text × List Text)) (waiting : Waiting) (word : Text) where
  -- what a word meets, by the subcommand that it names
  abbrev met_named : Option Text → Held × Step
  met_named named = subcommand_or_other (arguments words) named waiting 1 word (holding rows pending)

  -- by whether it is two hyphens, and how it is read as a name
  abbrev met_by : Bool → Option (Text × Option Text) → Held × Step
  met_by two long = cond two (holding rows pending, trailing 1) (long_or_other (arguments words) waiting word long (holding rows pending))

  abbrev fault_named : Option Text → Kinds
  fault_named named = or_else (other_fault (shape words) named word (holding rows pending)) (step_fault (shape words) 1 (met_named named).0 (met_named named).1)

  abbrev fault_by : Bool → Option (Text × Option Text) → Kinds
  fault_by two long =
      or_else (cond two [] (flag_word_fault (arguments words) false long word (holding rows pending)))
      (step_fault (shape words) 1 (met_by two long).0 (met_by two long).1)

  abbrev walk_met : Held × Step → Walk
  walk_met met = after_step (arguments words) word (between rows pending waiting) met.0 met.1

  turn_is : (two : Bool) (long : Option (Text × Option Text)) → bytes_eq word bare ≡ two → long_of word ≡ long → turn_fault (shape words) [] (between rows pending waiting) word ≡ fault_by two long
  turn_is two long bare_is reads = ap fault_named (nothing_met waiting word) ∙ ap₂ fault_by bare_is reads

  walk_is : (two : Bool) (long : Option (Text × Option Text)) → bytes_eq word bare ≡ two → long_of word ≡ long → walked (arguments words) [] (between rows pending waiting) word ≡ walk_met (met_by two long)
  unfolding walked
  walk_is two long bare_is reads =
      ap (λ (named : Option Text). walk_met (met_named named)) (nothing_met waiting word) ∙ ap₂ (λ (b : Bool) (o : Option (Text × Option Text)). walk_met (met_by b o)) bare_is reads

  -- ---- a name in its word, by its argument

  abbrev step_by : Option Text → Option Rule → Held × Step
  step_by value found =
      after_flag (arguments words) waiting word (long_met (arguments words) found value (holding rows pending)).0 (long_met (arguments words) found value (holding rows pending)).1

  abbrev long_by : Option Text → Option Rule → Kinds
  long_by value found =
      or_else (long_fault (arguments words) false found value (holding rows pending)) (step_fault (shape words) 1 (step_by value found).0 (step_by value found).1)

  found_by : (name : Text) (found : Option Word) → word_of words name ≡ found → arg_by_long (arguments words) name ≡ option_map argument found
  found_by name found is = long_is words name ∙ ap (option_map argument) is

  named_turn : (name : Text) (value : Option Text) → IsLong word name value → (found : Option Word) → word_of words name ≡ found
      → turn_fault (shape words) [] (between rows pending waiting) word ≡ long_by value (option_map argument found)
  named_turn name value long found is = turn_is false (Some (name, value)) long.longer long.long ∙ ap (long_by value) (found_by name found is)

  named_walk : (name : Text) (value : Option Text) → IsLong word name value → (found : Option Word) → word_of words name ≡ found
      → walked (arguments words) [] (between rows pending waiting) word ≡ walk_met (step_by value (option_map argument found))
  named_walk name value long found is = walk_is false (Some (name, value)) long.longer long.long ∙ ap (λ (a : Option Rule). walk_met (step_by value a)) (found_by name found is)

  -- a name that is no word of the table is a fault
  pub unknown_fails : (name : Text) (value : Option Text) → IsLong word name value → word_of words name ≡ None → turn_fault (shape words) [] (between rows pending waiting) word ≡ [] → ⊥
  unknown_fails name value long none e = no_kinds kind.UnknownArgument [] (sym (named_turn name value long None none) ∙ e)

  -- and so is a value of a word without one
  pub flag_with_value_fails : (name value : Text) → IsLong word name (Some value) → word_of words name ≡ Some (flag name) → turn_fault (shape words) [] (between rows pending waiting) word ≡ [] → ⊥
  flag_with_value_fails name value long found e = no_kinds kind.TooManyValues [] (sym (named_turn name (Some value) long (Some (flag name)) found) ∙ e)

  pub flag_turn : (name : Text) → IsLong word name None → word_of words name ≡ Some (flag name)
      → turn_fault (shape words) [] (between rows pending waiting) word ≡ faults_now words (holding rows pending) (argument (flag name)) []
  flag_turn name long found = named_turn name None long (Some (flag name)) found

  pub flag_walk : (name : Text) → IsLong word name None → word_of words name ≡ Some (flag name)
      → walked (arguments words) [] (between rows pending waiting) word ≡ between (rows_now words (holding rows pending) (argument (flag name)) []) None idle
  flag_walk name long found = named_walk name None long (Some (flag name)) found

  pub joined_turn : (name value : Text) → IsLong word name (Some value) → word_of words name ≡ Some (word_with_value name)
      → turn_fault (shape words) [] (between rows pending waiting) word ≡ faults_now words (holding rows pending) (argument (word_with_value name)) (value ∷ [])
  joined_turn name value long found = named_turn name (Some value) long (Some (word_with_value name)) found

  pub joined_walk : (name value : Text) → IsLong word name (Some value) → word_of words name ≡ Some (word_with_value name)
      → walked (arguments words) [] (between rows pending waiting) word ≡ between (rows_now words (holding rows pending) (argument (word_with_value name)) (value ∷ [])) None idle
  joined_walk name value long found = named_walk name (Some value) long (Some (word_with_value name)) found

  -- a name whose value is to come
  pub opening_turn : (name : Text) → IsLong word name None → word_of words name ≡ Some (word_with_value name)
      → turn_fault (shape words) [] (between rows pending waiting) word ≡ or_else (settle_fault (arguments words) false (holding rows pending)) []
  opening_turn name long found = named_turn name None long (Some (word_with_value name)) found

  pub opening_walk : (name : Text) → IsLong word name None → word_of words name ≡ Some (word_with_value name)
      → walked (arguments words) [] (between rows pending waiting) word ≡ between (settled (arguments words) (holding rows pending)).rows (Some (name, [])) (option name)
  opening_walk name long found = named_walk name None long (Some (word_with_value name)) found

  -- ---- where what waits can't be used, no name may follow

  abbrev fault_of_use : Rule → List Text → Kinds
  fault_of_use a values = use_fault false a values (settled (arguments words) (holding rows pending)).rows

  abbrev fault_taken : Bool → Rule → Option Text → Kinds
  fault_taken b a value =
      cond b (option_fault (arguments words) false a value (holding rows pending))
      (cond (is_some value) (kind.TooManyValues ∷ []) (or_else (settle_fault (arguments words) false (holding rows pending)) (fault_of_use a [])))

  taken_fails : (b : Bool) (a : Rule) (value : Option Text) → (settle_fault (arguments words) false (holding rows pending) ≡ [] → ⊥) → fault_taken b a value ≡ [] → ⊥
  taken_fails true a (Some v) fails e = fails (none_of (settle_fault (arguments words) false (holding rows pending)) (fault_of_use a (v ∷ [])) e).0
  taken_fails true a None fails e = fails e
  taken_fails false a (Some v) fails e = no_kinds kind.TooManyValues [] e
  taken_fails false a None fails e = fails (none_of (settle_fault (arguments words) false (holding rows pending)) (fault_of_use a []) e).0

  long_fails : (found : Option Rule) (value : Option Text) → (settle_fault (arguments words) false (holding rows pending) ≡ [] → ⊥) → long_fault (arguments words) false found value (holding rows pending) ≡ [] → ⊥
  long_fails None value fails e = no_kinds kind.UnknownArgument [] e
  long_fails (Some a) value fails e = taken_fails (takes_values a) a value fails e

  pub no_name_follows : (name : Text) (value : Option Text) → IsLong word name value → (settle_fault (arguments words) false (holding rows pending) ≡ [] → ⊥) → turn_fault (shape words) [] (between rows pending waiting) word ≡ [] → ⊥
  no_name_follows name value long fails e =
      let faults : long_by value (arg_by_long (arguments words) name) ≡ [] = sym (turn_is false (Some (name, value)) long.longer long.long) ∙ e in
      long_fails (arg_by_long (arguments words) name) value fails
      (none_of (long_fault (arguments words) false (arg_by_long (arguments words) name) value (holding rows pending))
      (step_fault (shape words) 1 (step_by value (arg_by_long (arguments words) name)).0 (step_by value (arg_by_long (arguments words) name)).1) faults).0

  -- ---- a word that is no name

  abbrev plain_by : Option Text → Kinds
  plain_by short =
      or_else (option_map_or (λ flags. bundle_fault (arguments words) false flags (holding rows pending)) short [])
      (step_fault (shape words) 1 (short_or_plain (arguments words) waiting word short (holding rows pending)).0 (short_or_plain (arguments words) waiting word short (holding rows pending)).1)

  plain_turn : IsPlain word → turn_fault (shape words) [] (between rows pending waiting) word ≡ plain_by None
  plain_turn plain = turn_is false None plain.longer plain.long ∙ ap plain_by plain.short

  plain_walk : IsPlain word → walked (arguments words) [] (between rows pending waiting) word ≡ walk_met (short_or_plain (arguments words) waiting word None (holding rows pending))
  plain_walk plain =
      walk_is false None plain.longer plain.long
      ∙ ap (λ (short : Option Text). walk_met (short_or_plain (arguments words) waiting word short (holding rows pending))) plain.short

-- such a word is a fault where no value is to come
pub stray_fails : (words : List Word) (rows : List Row) (pending : Option (Text × List Text)) (word : Text) → IsPlain word → turn_fault (shape words) [] (between rows pending idle) word ≡ [] → ⊥
stray_fails words rows pending word plain e =
    let strays : plain_by words rows pending idle word None ≡ kind.UnknownArgument ∷ [] =
    ap (λ (a : Option Rule). option_map_or (λ r. positional_fault (arguments words) false r (holding rows pending)) a (stray_fault (shape words))) (index_is_none words 1) in
    no_kinds kind.UnknownArgument [] (sym strays ∙ (sym (plain_turn words rows pending idle word plain) ∙ e))

-- and the value, where one is
pub value_turn : (words : List Word) (rows : List Row) (name word : Text) → IsPlain word → turn_fault (shape words) [] (between rows (Some (name, [])) (option name)) word ≡ []
value_turn words rows name word plain = plain_turn words rows (Some (name, [])) (option name) word plain

pub value_walk : (words : List Word) (rows : List Row) (name word : Text) → IsPlain word → word_of words name ≡ Some (word_with_value name)
    → walked (arguments words) [] (between rows (Some (name, [])) (option name)) word ≡ between rows (Some (name, word ∷ [])) idle
value_walk words rows name word plain found =
    plain_walk words rows (Some (name, [])) (option name) word plain
    ∙ (ap (λ (a : Option Rule). walk_met words rows (Some (name, [])) (option name) word ((option_word a name word (holding rows (Some (name, [])))).0, next (option_word a name word (holding rows (Some (name, [])))).1))
    (id_is words name ∙ ap (option_map argument) found)
    ∙ ap (λ (b : Bool). between rows (Some (name, word ∷ [])) (cond (nat_lt (cond b 1 0) 1) (option name) idle)) (same name))
