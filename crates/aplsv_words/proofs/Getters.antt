-- What the parser tells of settings, with its defaults, and when it has a fault.
use Rattle.std.proofs.Common.{◌≡◌, ◌⊎◌, ◌||◌, ◌&&◌, Bool, true, false, not, cond, List, [], ◌∷◌, map, Option, Some, None, is_some, slice_get, codes, refl, sym, ap, ◌∙◌, inl, inr, subst}
use Rattle.std.specs.List.{find, fold, list_all, list_any}
use Rattle.std.specs.Option.{option_and_then, option_map, option_map_or, option_or}
use Rattle.std.specs.Str.{bytes_eq}
use Rattle.std.proofs.lemmas.Bool.{and_parts, false≢true, not-true, true≢false}
use Rattle.std.proofs.lemmas.List.Folds.{find-append}
use Rattle.std.proofs.lemmas.Option.{same_Some}
use Rattle.std.proofs.lemmas.Slice.Eq.{bytes_eq-Decides}
use Rattle.clap.specs.Faults.{built_fault, check_fault, default_fault, defaults_fault, entered_fault, fault_of, given_default_fault, settle_fault, walk_fault}
use Rattle.clap.specs.Kinds.{Kinds, check_kinds, or_else}
use Rattle.clap.specs.Matches.{first_value, found_of, one_text}
use Rattle.clap.specs.Simple.{App, HasMatchesOf, entered, matches_of, names_of}
use Rattle.clap.specs.Takes.{is_given}
use Rattle.clap.specs.Walk.{Held, Row, default_rows, finished, first_of, has_row, is_empty, more_values, nothing_held, one_of, reading_by, row_text, rows_after, rows_of, settled, walk, with_default}
use Rattle.clap.specs.declared.builder.value_parser.Reading.TheVariants.{AsWritten}
use Rattle.clap.specs.declared.parser.matches.ArgMatches.{ArgMatches}
use Rattle.clap.specs.declared.parser.matches.ValueSource.TheVariants.{DefaultValue}
use Rattle.clap.proofs.WalkLemmas.{first_value-rows, one_text-rows}
use Rattle.aplsv_words.specs.CommandLine.{IsFlagOf, command_of}
use Rattle.aplsv_words.specs.Table.{Word, flag, table, word_with_value}
use Rattle.aplsv_words.specs.Meaning.{AreFine, Said, Setting, Spell, Text, is_known, is_named, has_setting, said_by, said_in, value_fits, value_written_for, word_of}
use Rattle.aplsv_words.specs.declared.written.Written.{Written}
use Rattle.aplsv_words.proofs.Readings.{IsFree, ended, spelled_are_read, standing}
use Rattle.aplsv_words.proofs.Settings.{known_word, word_with}
use Rattle.aplsv_words.proofs.Texts.{found_holds, found_passes}
use Rattle.aplsv_words.proofs.Walks.{IsTable, app, argument, arguments, both_none, none_of, row_for, row_missing, shape, words_are_a_table}

-- ---- faults

module _ (words : List Word) where
  entered_none : (stop : Option (Text × List Text)) → entered (app words) stop ≡ None
  entered_none None = refl
  entered_none (Some p) = refl

  entered_free : (stop : Option (Text × List Text)) → entered_fault (app words) stop ≡ []
  entered_free None = refl
  entered_free (Some p) = refl

default_by : (name : Text) (has takes_value : Bool)
    → cond (has || is_empty (argument (word_with name takes_value)).defaults) [] (given_default_fault (argument (word_with name takes_value)) (argument (word_with name takes_value)).defaults) ≡ []
default_by name true takes_value = refl
default_by name false true = refl
default_by name false false = refl

default_free : (rows : List Row) (word : Word) → default_fault rows (argument word) ≡ []
default_free rows word = default_by word.name (has_row word.name rows) word.takes_value

defaults_free : (words : List Word) (rows : List Row) → defaults_fault rows (arguments words) ≡ []
unfolding defaults_fault
defaults_free [] rows = refl
defaults_free (word ∷ words) rows =
    both_none (default_fault rows (argument word)) (defaults_fault (with_default rows (argument word)) (arguments words)) (default_free rows word) (defaults_free words (with_default rows (argument word)))

required_none : (words : List Word) (rows : List Row) → list_any (λ a. a.required && not (is_given a.id rows)) (arguments words) ≡ false
required_none [] rows = refl
required_none (word ∷ words) rows = required_none words rows

check_free : (words : List Word) (rows : List Row) → check_fault (shape words) rows false ≡ []
check_free words rows = ap (λ (wanted : Bool). check_kinds false false wanted) (required_none words rows)

module _ (words : List Word) (texts : List Text) where
  abbrev end : Held
  end = ended words (standing words [] None) texts

  abbrev stop : Option (Text × List Text)
  stop = (walk (arguments words) [] nothing_held texts).stopped

  abbrev walk_faults : Kinds
  walk_faults = walk_fault (shape words) [] (standing words [] None) texts

  abbrev defaults : Kinds
  defaults = defaults_fault (settled (arguments words) end).rows (arguments words)

  abbrev checks : Kinds
  checks = check_fault (shape words) (finished (arguments words) end) (is_some (entered (app words) stop))

  abbrev end_faults : Kinds
  end_faults = or_else (settle_fault (arguments words) false end) (or_else defaults checks)

  checks_free : checks ≡ []
  checks_free = ap (λ (o : Option (Text × List Row)). check_fault (shape words) (finished (arguments words) end) (is_some o)) (entered_none words stop) ∙ check_free words (finished (arguments words) end)

  free_has_no_fault : IsFree words (standing words [] None) texts → built_fault (app words) nothing_held texts ≡ []
  free_has_no_fault free =
      both_none walk_faults (or_else (entered_fault (app words) stop) end_faults) free.walk
      (both_none (entered_fault (app words) stop) end_faults (entered_free words stop)
      (both_none (settle_fault (arguments words) false end) (or_else defaults checks) free.end
      (both_none defaults checks (defaults_free words (settled (arguments words) end).rows) checks_free)))

  no_fault_is_free : built_fault (app words) nothing_held texts ≡ [] → IsFree words (standing words [] None) texts
  no_fault_is_free e =
      let parts = none_of walk_faults (or_else (entered_fault (app words) stop) end_faults) e in
      let later = none_of (entered_fault (app words) stop) end_faults parts.1 in
      record { walk = parts.0; end = (none_of (settle_fault (arguments words) false end) (or_else defaults checks) later.1).0 }

-- the parser has no fault at words of a table exactly where they are free
module _ (words : List Word) (t : IsTable words) (texts : List Text) where
  pub free_is_taken : IsFree words (standing words [] None) texts → fault_of (command_of words) texts ≡ []
  free_is_taken free = ap (λ (a : App). built_fault a nothing_held texts) t.built ∙ free_has_no_fault words texts free

  pub taken_is_free : fault_of (command_of words) texts ≡ [] → IsFree words (standing words [] None) texts
  taken_is_free e = no_fault_is_free words texts (sym (ap (λ (a : App). built_fault a nothing_held texts) t.built) ∙ e)

-- ---- the rows at the end

abbrev has_id : Text → Row → Bool
has_id id r = bytes_eq r.id id

found_row : (name : Text) (settings : List Setting) → find (has_id name) (map row_for settings) ≡ option_map row_for (find (is_named name) settings)
found_row name [] = refl
found_row name (s ∷ settings) = by (bytes_eq s.name name) (found_row name settings) where
  by : (b : Bool) → find (has_id name) (map row_for settings) ≡ option_map row_for (find (is_named name) settings)
      → cond b (Some (row_for s)) (find (has_id name) (map row_for settings)) ≡ option_map row_for (cond b (Some s) (find (is_named name) settings))
  by true later = refl
  by false later = later

-- the row of a word that was not written
abbrev default_row : Text → Row
default_row name = record { id = name; values = codes "false" ∷ []; count = None; source = Some DefaultValue; reading = AsWritten }

module _ (id : Text) where
  abbrev found_in : List Row → Option Row
  found_in rows = find (has_id id) rows

  -- the rows with a default, by whether the word has a row and whether it takes a value
  abbrev default_to : Text → List Row → Bool → Bool → List Row
  default_to name rows has takes_value =
      cond has rows (default_rows name (reading_by (argument (word_with name takes_value))) (argument (word_with name takes_value)).defaults rows)

  flag_added : (name : Text) (rows : List Row) → has_row name rows ≡ false → found_in (default_to name rows false false) ≡ option_or (found_in rows) (found_in (default_row name ∷ []))
  flag_added name rows none =
      ap found_in (row_missing name (more_values DefaultValue (codes "false" ∷ [])) (default_row name ∷ []) rows none) ∙ find-append (has_id id) rows (default_row name ∷ [])

  kept_by : (name : Text) (rows : List Row) (r : Row) → found_in rows ≡ Some r → (has : Bool) → has_row name rows ≡ has → (takes_value : Bool) → found_in (default_to name rows has takes_value) ≡ Some r
  kept_by name rows r found true is takes_value = found
  kept_by name rows r found false is true = found
  kept_by name rows r found false is false = flag_added name rows is ∙ ap (λ (o : Option Row). option_or o (found_in (default_row name ∷ []))) found

  -- a row that is there stays
  kept : (words : List Word) (rows : List Row) (r : Row) → found_in rows ≡ Some r → found_in (fold with_default rows (arguments words)) ≡ Some r
  kept [] rows r found = found
  kept (word ∷ words) rows r found = kept words (with_default rows (argument word)) r (kept_by word.name rows r found (has_row word.name rows) refl word.takes_value)

  -- there is no row, or a default one
  abbrev IsDefault : List Row → Type 0
  IsDefault rows = (found_in rows ≡ None) ⊎ ((name : Text) × (found_in rows ≡ Some (default_row name)))

  added_by : (name : Text) (b : Bool) → (let o : Option Row = cond b (Some (default_row name)) None in (o ≡ None) ⊎ ((other : Text) × (o ≡ Some (default_row other))))
  added_by name true = inr (name, refl)
  added_by name false = inl refl

  default_step : (name : Text) (rows : List Row) → found_in rows ≡ None → (has : Bool) → has_row name rows ≡ has → (takes_value : Bool) → IsDefault (default_to name rows has takes_value)
  default_step name rows none true is takes_value = inl none
  default_step name rows none false is true = inl none
  default_step name rows none false is false =
      let added : found_in (default_to name rows false false) ≡ found_in (default_row name ∷ []) = flag_added name rows is ∙ ap (λ (o : Option Row). option_or o (found_in (default_row name ∷ []))) none in
      by added (added_by name (bytes_eq name id)) where
        by : found_in (default_to name rows false false) ≡ found_in (default_row name ∷ [])
            → ((found_in (default_row name ∷ []) ≡ None) ⊎ ((other : Text) × (found_in (default_row name ∷ []) ≡ Some (default_row other)))) → IsDefault (default_to name rows false false)
        by added (inl e) = inl (added ∙ e)
        by added (inr e) = inr (e.0, added ∙ e.1)

  stays_default : (words : List Word) (rows : List Row) → IsDefault rows → IsDefault (fold with_default rows (arguments words))
  stays_default [] rows d = d
  stays_default (word ∷ words) rows (inl none) = stays_default words (with_default rows (argument word)) (default_step word.name rows none (has_row word.name rows) refl word.takes_value)
  stays_default (word ∷ words) rows (inr d) = inr (d.0, kept (word ∷ words) rows (default_row d.0) d.1)

  -- the words of this name take a value
  abbrev takes_if_named : Word → Bool
  takes_if_named word = word.takes_value || not (bytes_eq word.name id)

  none_step : (name : Text) (rows : List Row) → found_in rows ≡ None → (has : Bool) → has_row name rows ≡ has → (takes_value : Bool) → (takes_value || not (bytes_eq name id)) ≡ true
      → found_in (default_to name rows has takes_value) ≡ None
  none_step name rows none true is takes_value fit = none
  none_step name rows none false is true fit = none
  none_step name rows none false is false fit =
      flag_added name rows is ∙ (ap (λ (o : Option Row). option_or o (found_in (default_row name ∷ []))) none ∙ ap (λ (b : Bool). cond b (Some (default_row name)) None) (not-true (bytes_eq name id) fit))

  stays_none : (words : List Word) (rows : List Row) → list_all takes_if_named words ≡ true → found_in rows ≡ None → found_in (fold with_default rows (arguments words)) ≡ None
  stays_none [] rows fit none = none
  stays_none (word ∷ words) rows fit none =
      let parts = and_parts (takes_if_named word) (list_all takes_if_named words) fit in
      stays_none words (with_default rows (argument word)) parts.1 (none_step word.name rows none (has_row word.name rows) refl word.takes_value parts.0)

-- ---- what is told of a name

set_is_found : (name : Text) (settings : List Setting) → has_setting name settings ≡ is_some (find (is_named name) settings)
set_is_found name [] = refl
set_is_found name (s ∷ settings) = by (is_named name s) (set_is_found name settings) where
  by : (b : Bool) → has_setting name settings ≡ is_some (find (is_named name) settings) → (b || has_setting name settings) ≡ is_some (cond b (Some s) (find (is_named name) settings))
  by true later = refl
  by false later = later

takes_no_value : (value : Option Text) → value_fits false value ≡ true → value ≡ None
takes_no_value None e = refl
takes_no_value (Some v) e = absurd (false≢true e)

takes_a_value : (value : Option Text) → value_fits true value ≡ true → (v : Text) × (value ≡ Some v)
takes_a_value None e = absurd (false≢true e)
takes_a_value (Some v) e = (v, refl)

-- a word without a value tells `true` where it stands, and else nothing or `false`
abbrev pub TellsFlag : Text → List Row → Bool → Type 0
TellsFlag name rows true = one_of name rows ≡ Some (codes "true")
TellsFlag name rows false = (one_of name rows ≡ None) ⊎ (one_of name rows ≡ Some (codes "false"))

abbrev is_true_text : Option Text → Bool
is_true_text told = option_map_or (λ text. bytes_eq text (codes "true")) told false

-- and it tells one of them
flags_differ : (name : Text) (rows : List Row) → TellsFlag name rows true → TellsFlag name rows false → ⊥
flags_differ name rows one (inl other) = true≢false (ap is_true_text (sym one ∙ other))
flags_differ name rows one (inr other) = true≢false (ap is_true_text (sym one ∙ other))

one_flag : (name : Text) (rows : List Row) (a b : Bool) → TellsFlag name rows a → TellsFlag name rows b → a ≡ b
one_flag name rows true true one other = refl
one_flag name rows true false one other = absurd (flags_differ name rows one other)
one_flag name rows false true one other = absurd (flags_differ name rows other one)
one_flag name rows false false one other = refl

module _ (words : List Word) (settings : List Setting) (fine : AreFine words settings) (name : Text) where
  -- the rows at the end
  abbrev pub told : List Row
  told = fold with_default (map row_for settings) (arguments words)

  taken_by : (word : Word) → word_of words name ≡ Some word → (s : Setting) → find (is_named name) settings ≡ Some s → value_fits word.takes_value s.value ≡ true
  taken_by word found s set =
      let known = known_word words s (found_holds (is_named name) (is_known words) settings s set fine.known) in
      let same_name : s.name ≡ name = (bytes_eq-Decides s.name name).0 (found_passes (is_named name) settings s set) in
      let same_word : known.0 ≡ word = same_Some known.0 word (sym known.1 ∙ (ap (word_of words) same_name ∙ found)) in
      ap (λ (w : Word). value_fits w.takes_value s.value) (sym same_word) ∙ known.2

  row_kept : (s : Setting) → find (is_named name) settings ≡ Some s → find (has_id name) told ≡ Some (row_for s)
  row_kept s set = kept name words (map row_for settings) (row_for s) (found_row name settings ∙ ap (option_map row_for) set)

  no_row_yet : find (is_named name) settings ≡ None → find (has_id name) (map row_for settings) ≡ None
  no_row_yet none = found_row name settings ∙ ap (option_map row_for) none

  flag_set : word_of words name ≡ Some (flag name) → (found : Option Setting) → find (is_named name) settings ≡ found → TellsFlag name told (is_some found)
  flag_set word None none = by (stays_default name words (map row_for settings) (inl (no_row_yet none))) where
    by : IsDefault name told → TellsFlag name told false
    by (inl e) = inl (ap (option_and_then row_text) e)
    by (inr e) = inr (ap (option_and_then row_text) e.1)
  flag_set word (Some s) set =
      ap (option_and_then row_text) (row_kept s set)
      ∙ ap (λ (value : Option Text). row_text (row_for (record { name = s.name; value = value }))) (takes_no_value s.value (taken_by (flag name) word s set))

  pub flag_is : word_of words name ≡ Some (flag name) → (b : Bool) → IsFlagOf (one_of name told) b → b ≡ has_setting name settings
  flag_is word b tells = by (has_setting name settings) (subst (TellsFlag name told) (sym (set_is_found name settings)) (flag_set word (find (is_named name) settings) refl)) where
    by : (set : Bool) → TellsFlag name told set → b ≡ set
    by true e = tells.1 e
    by false (inl e) = tells.0 e
    by false (inr e) = tells.2 e

  pub flag_tells : word_of words name ≡ Some (flag name) → TellsFlag name told (has_setting name settings)
  flag_tells word = subst (TellsFlag name told) (sym (set_is_found name settings)) (flag_set word (find (is_named name) settings) refl)

  -- a word with one tells its value
  value_set : word_of words name ≡ Some (word_with_value name) → list_all (takes_if_named name) words ≡ true → (found : Option Setting) → find (is_named name) settings ≡ found
      → first_of name told ≡ option_and_then (λ s. s.value) found
  value_set word fit None none = ap (option_and_then (λ (r : Row). slice_get r.values 0)) (stays_none name words (map row_for settings) fit (no_row_yet none))
  value_set word fit (Some s) set =
      let value = takes_a_value s.value (taken_by (word_with_value name) word s set) in
      ap (option_and_then (λ (r : Row). slice_get r.values 0)) (row_kept s set)
      ∙ (ap (λ (v : Option Text). slice_get (option_map_or (λ text. text ∷ []) v (codes "true" ∷ [])) 0) value.1 ∙ sym value.1)

  pub value_is : word_of words name ≡ Some (word_with_value name) → list_all (takes_if_named name) words ≡ true → first_of name told ≡ value_written_for name settings
  value_is word fit = value_set word fit (find (is_named name) settings) refl

-- ---- the parse of words that spell settings

module _ (words : List Word) (t : IsTable words) (texts : List Text) (settings : List Setting) (spelled : Spell settings texts) (fine : AreFine words settings) where
  pub spelled_are_told : matches_of (command_of words) texts ≡ fold with_default (map row_for settings) (arguments words)
  spelled_are_told =
      let read = spelled_are_read words t.names settings texts spelled fine in
      ap (λ (a : App). rows_after a.top.rules (names_of a) texts) t.built ∙ ap (λ (rows : List Row). fold with_default rows (arguments words)) read.rows

  pub spelled_are_taken : fault_of (command_of words) texts ≡ []
  spelled_are_taken = free_is_taken words t texts (spelled_are_read words t.names settings texts spelled fine).free

  -- what a parse tells of a name is what the settings say of it
  module _ (m : ArgMatches) (has : HasMatchesOf (command_of words) texts m) (name : Text) where
    told_rows : rows_of (found_of m) ≡ fold with_default (map row_for settings) (arguments words)
    told_rows = (has t.told).0 ∙ spelled_are_told

    pub flag_read : word_of words name ≡ Some (flag name) → (b : Bool) → IsFlagOf (one_text (found_of m) name) b → b ≡ has_setting name settings
    flag_read word b is =
        flag_is words settings fine name word b (subst (λ (o : Option Text). IsFlagOf o b) (one_text-rows (found_of m) name ∙ ap (one_of name) told_rows) is)

    pub value_read : word_of words name ≡ Some (word_with_value name) → list_all (takes_if_named name) words ≡ true → (value : Option Text) → value ≡ first_value (found_of m) name → value ≡ value_written_for name settings
    value_read word fit value is = is ∙ ((first_value-rows (found_of m) name ∙ ap (first_of name) told_rows) ∙ value_is words settings fine name word fit)

-- what words that spell two lists of settings say of a name
module _ (words : List Word) (t : IsTable words) (texts : List Text) (settings others : List Setting) (spelled : Spell settings texts) (fine : AreFine words settings) (spells : Spell others texts) (good : AreFine words others) (name : Text) where
  same_rows : fold with_default (map row_for others) (arguments words) ≡ fold with_default (map row_for settings) (arguments words)
  same_rows = sym (spelled_are_told words t texts others spells good) ∙ spelled_are_told words t texts settings spelled fine

  pub same_flag : word_of words name ≡ Some (flag name) → has_setting name settings ≡ has_setting name others
  same_flag word =
      one_flag name (told words settings fine name) (has_setting name settings) (has_setting name others) (flag_tells words settings fine name word)
      (subst (λ (rs : List Row). TellsFlag name rs (has_setting name others)) same_rows (flag_tells words others good name word))

  pub same_value : word_of words name ≡ Some (word_with_value name) → list_all (takes_if_named name) words ≡ true → value_written_for name settings ≡ value_written_for name others
  same_value word fit = sym (value_is words settings fine name word fit) ∙ (ap (first_of name) (sym same_rows) ∙ value_is words others good name word fit)

abbrev says : Bool → Option Text → Option Text → Option Text → Bool → Option Text → Bool → Bool → Said
says replay workers library text clock load components relay =
    record { replay = replay; workers = workers; library = library; text = text; clock = clock; load = load; components = components; relay = relay }

says_alike : (a b : Bool) (one other c d e f : Option Text) (g h : Bool) (k l : Option Text) (m n v w : Bool) → a ≡ b → one ≡ other → c ≡ d → e ≡ f → g ≡ h → k ≡ l → m ≡ n → v ≡ w → says a one c e g k m v ≡ says b other d f h l n w
says_alike a b one other c d e f g h k l m n v w p o q r s t x y = λ i. says (p i) (o i) (q i) (r i) (s i) (t i) (x i) (y i)

-- what is read is what the settings say
pub read_is_said : (m : ArgMatches) (written : Written) (texts : List Text) (settings : List Setting) → HasMatchesOf (command_of table) texts m → Spell settings texts → AreFine table settings
    → IsFlagOf (one_text (found_of m) (codes "replay")) written.replay
    → (said_in written).workers ≡ first_value (found_of m) (codes "workers")
    → (said_in written).library ≡ first_value (found_of m) (codes "library")
    → (said_in written).text ≡ first_value (found_of m) (codes "text")
    → IsFlagOf (one_text (found_of m) (codes "clock")) written.clock
    → (said_in written).load ≡ first_value (found_of m) (codes "load")
    → IsFlagOf (one_text (found_of m) (codes "components")) written.components
    → IsFlagOf (one_text (found_of m) (codes "relay")) written.relay
    → said_by settings ≡ said_in written
read_is_said m written texts settings has spelled fine replay workers library text clock load components relay =
    let flags = flag_read table words_are_a_table texts settings spelled fine m has in
    let values = value_read table words_are_a_table texts settings spelled fine m has in
    sym (says_alike written.replay (has_setting (codes "replay") settings) (said_in written).workers (value_written_for (codes "workers") settings) (said_in written).library (value_written_for (codes "library") settings) (said_in written).text (value_written_for (codes "text") settings)
    written.clock (has_setting (codes "clock") settings) (said_in written).load (value_written_for (codes "load") settings) written.components (has_setting (codes "components") settings) written.relay (has_setting (codes "relay") settings)
    (flags (codes "replay") refl written.replay replay) (values (codes "workers") refl refl (said_in written).workers workers) (values (codes "library") refl refl (said_in written).library library) (values (codes "text") refl refl (said_in written).text text)
    (flags (codes "clock") refl written.clock clock) (values (codes "load") refl refl (said_in written).load load) (flags (codes "components") refl written.components components) (flags (codes "relay") refl written.relay relay))

-- words that spell two lists of settings say the same
pub one_meaning : (texts : List Text) (settings others : List Setting) → Spell settings texts → AreFine table settings → Spell others texts → AreFine table others → said_by settings ≡ said_by others
one_meaning texts settings others spelled fine spells good =
    let flags = same_flag table words_are_a_table texts settings others spelled fine spells good in
    let values = same_value table words_are_a_table texts settings others spelled fine spells good in
    says_alike (has_setting (codes "replay") settings) (has_setting (codes "replay") others) (value_written_for (codes "workers") settings) (value_written_for (codes "workers") others) (value_written_for (codes "library") settings) (value_written_for (codes "library") others)
    (value_written_for (codes "text") settings) (value_written_for (codes "text") others) (has_setting (codes "clock") settings) (has_setting (codes "clock") others)
    (value_written_for (codes "load") settings) (value_written_for (codes "load") others)
    (has_setting (codes "components") settings) (has_setting (codes "components") others) (has_setting (codes "relay") settings) (has_setting (codes "relay") others)
    (flags (codes "replay") refl) (values (codes "workers") refl refl) (values (codes "library") refl refl) (values (codes "text") refl refl) (flags (codes "clock") refl) (values (codes "load") refl refl)
    (flags (codes "components") refl) (flags (codes "relay") refl)
