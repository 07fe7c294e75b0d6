-- Settings of a table, of which each name stands once.
use Rattle.std.proofs.Common.{◌≡◌, ◌++◌, Bool, true, false, List, [], ◌∷◌, Option, Some, None, length, nat_lt, refl, sym, ap, ap₂, ◌∙◌}
use Rattle.std.specs.List.{list_all}
use Rattle.std.specs.Option.{option_map_or}
use Rattle.std.specs.Str.{bytes_eq}
use Rattle.std.proofs.lemmas.Bool.{and_from, and_parts, false≢true, or_from, or_parts}
use Rattle.std.proofs.lemmas.List.Folds.{list_all-append, list_any-append}
use Rattle.std.proofs.lemmas.Slice.Eq.{bytes_eq-Decides}
use Rattle.aplsv_words.specs.Table.{Word, flag, word_with_value}
use Rattle.aplsv_words.specs.Meaning.{AreFine, NamesDiffer, Setting, Text, is_known, is_named, has_setting, value_fits, word_of}
use Rattle.aplsv_words.proofs.Texts.{differs, found_passes}

-- a name without a value, and one with
abbrev pub alone : Text → Setting
alone name = record { name = name; value = None }

abbrev pub with_value : Text → Text → Setting
with_value name value = record { name = name; value = Some value }

-- a word, by its parts
abbrev pub word_with : Text → Bool → Word
word_with name takes_value = record { name = name; takes_value = takes_value }

once_front : (one other : List Setting) → NamesDiffer (one ++ other) → NamesDiffer one
once_front [] other once = tt
once_front (s ∷ one) other once =
    ((or_parts (has_setting s.name one) (has_setting s.name other) (sym (list_any-append (is_named s.name) one other) ∙ once.0)).0, once_front one other once.1)

once_next : (one : List Setting) (s : Setting) (other : List Setting) → NamesDiffer (one ++ s ∷ other) → has_setting s.name one ≡ false
once_next [] s other once = refl
once_next (t ∷ one) s other once =
    let apart = or_parts (has_setting t.name one) (has_setting t.name (s ∷ other)) (sym (list_any-append (is_named t.name) one (s ∷ other)) ∙ once.0) in
    or_from (is_named s.name t) (has_setting s.name one) (differs s.name t.name (or_parts (is_named t.name s) (has_setting t.name other) apart.1).0) (once_next one s other once.1)

once_more : (one : List Setting) (s : Setting) → NamesDiffer one → has_setting s.name one ≡ false → NamesDiffer (one ++ s ∷ [])
once_more [] s once none = (refl, tt)
once_more (t ∷ one) s once none =
    let apart = or_parts (is_named s.name t) (has_setting s.name one) none in (
      list_any-append (is_named t.name) one (s ∷ []) ∙ or_from (has_setting t.name one) (has_setting t.name (s ∷ [])) once.0 (or_from (is_named t.name s) false (differs t.name s.name apart.0) refl),
      once_more one s once.1 apart.1,
    )

module _ (words : List Word) where
  -- the first settings are fine where all are
  pub fine_front : (one other : List Setting) → AreFine words (one ++ other) → AreFine words one
  fine_front one other fine = record {
    known = (and_parts (list_all (is_known words) one) (list_all (is_known words) other) (sym (list_all-append (is_known words) one other) ∙ fine.known)).0;
    once = once_front one other fine.once;
  }

  -- and the next one is known, and none of them
  pub fine_next : (one : List Setting) (s : Setting) (other : List Setting) → AreFine words (one ++ s ∷ other) → (has_setting s.name one ≡ false) × (is_known words s ≡ true)
  fine_next one s other fine =
      let known = and_parts (list_all (is_known words) one) (list_all (is_known words) (s ∷ other)) (sym (list_all-append (is_known words) one (s ∷ other)) ∙ fine.known) in
      (once_next one s other fine.once, (and_parts (is_known words s) (list_all (is_known words) other) known.1).0)

  -- one setting more
  pub fine_more : (one : List Setting) (s : Setting) → AreFine words one → is_known words s ≡ true → has_setting s.name one ≡ false → AreFine words (one ++ s ∷ [])
  fine_more one s fine known none = record {
    known = list_all-append (is_known words) one (s ∷ []) ∙ and_from (list_all (is_known words) one) (list_all (is_known words) (s ∷ [])) fine.known (and_from (is_known words s) true known refl);
    once = once_more one s fine.once none;
  }

  -- the word that is found has the name
  pub found_name : (name : Text) (word : Word) → word_of words name ≡ Some word → word.name ≡ name
  found_name name word found = (bytes_eq-Decides word.name name).0 (found_passes (λ w. bytes_eq w.name name) words word found)

  -- a word is found as it stands in the table
  pub found_word : (name : Text) (word : Word) (takes_value : Bool) → word_of words name ≡ Some word → word.takes_value ≡ takes_value → word_of words name ≡ Some (word_with name takes_value)
  found_word name word takes_value found is =
      let whole : word ≡ word_with name takes_value = ap₂ word_with (found_name name word found) is in
      found ∙ ap (λ (w : Word). Some w) whole

  takes_none : (b : Bool) → value_fits b None ≡ true → b ≡ false
  takes_none true e = absurd (false≢true e)
  takes_none false e = refl

  takes_some : (b : Bool) (value : Text) → value_fits b (Some value) ≡ true → (b ≡ true) × (nat_lt 0 (length value) ≡ true)
  takes_some true value e = (refl, e)
  takes_some false value e = absurd (false≢true e)

  -- the word of a setting, which takes its value
  abbrev pub IsFoundFor : Setting → Type 0
  IsFoundFor s = (word : Word) × (word_of words s.name ≡ Some word) × (value_fits word.takes_value s.value ≡ true)

  pub known_word : (s : Setting) → is_known words s ≡ true → IsFoundFor s
  known_word s known = by (word_of words s.name) refl known where
    by : (found : Option Word) → word_of words s.name ≡ found → option_map_or (λ word. value_fits word.takes_value s.value) found false ≡ true → IsFoundFor s
    by None is e = absurd (false≢true e)
    by (Some word) is e = (word, is, e)

  -- a name that is known alone is a word without a value
  pub known_alone : (name : Text) → is_known words (alone name) ≡ true → word_of words name ≡ Some (flag name)
  known_alone name known =
      let found = known_word (alone name) known in
      found_word name found.0 false found.1 (takes_none found.0.takes_value found.2)

  -- and one that is known with a value is a word with one, which is not empty
  pub known_value : (name value : Text) → is_known words (with_value name value) ≡ true → (word_of words name ≡ Some (word_with_value name)) × (nat_lt 0 (length value) ≡ true)
  known_value name value known =
      let found = known_word (with_value name value) known in
      let takes = takes_some found.0.takes_value value found.2 in
      (found_word name found.0 true found.1 takes.0, takes.1)

  pub flag_known : (name : Text) → word_of words name ≡ Some (flag name) → is_known words (alone name) ≡ true
  flag_known name found = ap (λ (word : Option Word). option_map_or (λ w. value_fits w.takes_value None) word false) found

  pub value_known : (name value : Text) → word_of words name ≡ Some (word_with_value name) → nat_lt 0 (length value) ≡ true → is_known words (with_value name value) ≡ true
  value_known name value found filled = ap (λ (word : Option Word). option_map_or (λ w. value_fits w.takes_value (Some value)) word false) found ∙ filled
