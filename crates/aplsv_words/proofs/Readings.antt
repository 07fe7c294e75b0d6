-- The parser takes the words exactly where they have a meaning, and keeps a row for each setting.
use Rattle.std.proofs.Common.{◌≡◌, ◌⊎◌, ◌++◌, Bool, true, false, List, [], ◌∷◌, map, nat_lt, length, Option, Some, None, refl, sym, ap, ap₂, ◌∙◌, inl, inr, subst, append_assoc, append-nil}
use Rattle.std.proofs.lemmas.List.{map_push}
use Rattle.std.specs.List.{fold, list_all, list_any}
use Rattle.std.proofs.lemmas.Bool.{or_parts}
use Rattle.clap.specs.Faults.{settle_fault, turn_fault, use_fault, walk_fault}
use Rattle.clap.specs.Kinds.{or_else}
use Rattle.clap.specs.Walk.{Held, Row, Walk, has_row, idle, option, settled, walked}
use Rattle.aplsv_words.specs.Table.{Word, flag, word_with_value}
use Rattle.aplsv_words.specs.Meaning.{AreFine, BeginsWith, Setting, Spell, Text, begins_with_hyphen, hyphened, has_setting, as_one_word, word_of}
use Rattle.aplsv_words.specs.Stray.{is_stray}
use Rattle.aplsv_words.proofs.Lexing.{IsLong, IsRead, alone_is_long, fit_name, is_name, joined_is_long, unhyphened_is_plain, word_is_read, written}
use Rattle.aplsv_words.proofs.Settings.{alone, fine_front, fine_more, fine_next, flag_known, found_word, known_alone, known_value, value_known, with_value, word_with}
use Rattle.aplsv_words.proofs.Turns.{between, faults_now, flag_turn, flag_walk, flag_with_value_fails, joined_turn, joined_walk, no_name_follows, opening_turn, opening_walk, rows_now, stray_fails, unknown_fails, value_turn, value_walk}
use Rattle.aplsv_words.proofs.Walks.{MayWait, argument, arguments, both_none, flag_free, flag_none, flag_used, has_row_is, holding, last_value, none_of, nothing_settles, row_for, settled_fine, settles, shape, so_far, value_free, value_none, value_used}

module _ (words : List Word) where
  -- what is held when the words are over
  abbrev pub ended : Walk → List Text → Held
  ended w texts = (fold (walked (arguments words) []) w texts).held

  -- the words have no fault
  pub record IsFree (w : Walk) (texts : List Text) : Type 0 where
    pub walk : walk_fault (shape words) [] w texts ≡ []
    pub end : settle_fault (arguments words) false (ended w texts) ≡ []

  -- and their rows are those of settings
  pub record AreRead (w : Walk) (texts : List Text) (settings : List Setting) : Type 0 where
    pub free : IsFree w texts
    pub rows : (settled (arguments words) (ended w texts)).rows ≡ map row_for settings

  -- one word more at the front
  more_free : (w after : Walk) (word : Text) (texts : List Text) → turn_fault (shape words) [] w word ≡ [] → walked (arguments words) [] w word ≡ after → IsFree after texts → IsFree w (word ∷ texts)
  unfolding walk_fault
  more_free w after word texts turn step free = record {
    walk = both_none (turn_fault (shape words) [] w word) (walk_fault (shape words) [] (walked (arguments words) [] w word) texts) turn
        (subst (λ (v : Walk). walk_fault (shape words) [] v texts ≡ []) (sym step) free.walk);
    end = subst (λ (v : Walk). settle_fault (arguments words) false (ended v texts) ≡ []) (sym step) free.end;
  }

  more_read : (w after : Walk) (word : Text) (texts : List Text) (settings : List Setting) → turn_fault (shape words) [] w word ≡ [] → walked (arguments words) [] w word ≡ after → AreRead after texts settings
      → AreRead w (word ∷ texts) settings
  more_read w after word texts settings turn step read = record {
    free = more_free w after word texts turn step read.free;
    rows = subst (λ (v : Walk). (settled (arguments words) (ended v texts)).rows ≡ map row_for settings) (sym step) read.rows;
  }

  no_word_left : (w : Walk) → walk_fault (shape words) [] w [] ≡ []
  unfolding walk_fault
  no_word_left w = refl

  -- where words have no fault, the first has none, and those behind it
  first_free : (w : Walk) (word : Text) (texts : List Text) → IsFree w (word ∷ texts) → turn_fault (shape words) [] w word ≡ []
  unfolding walk_fault
  first_free w word texts free = (none_of (turn_fault (shape words) [] w word) (walk_fault (shape words) [] (walked (arguments words) [] w word) texts) free.walk).0

  later_free : (w after : Walk) (word : Text) (texts : List Text) → walked (arguments words) [] w word ≡ after → IsFree w (word ∷ texts) → IsFree after texts
  unfolding walk_fault
  later_free w after word texts step free = record {
    walk = subst (λ (v : Walk). walk_fault (shape words) [] v texts ≡ []) step
        (none_of (turn_fault (shape words) [] w word) (walk_fault (shape words) [] (walked (arguments words) [] w word) texts) free.walk).1;
    end = subst (λ (v : Walk). settle_fault (arguments words) false (ended v texts) ≡ []) step free.end;
  }

  -- where the walk stands behind settings, of which the last may wait with its value, and behind a name whose value is to come
  abbrev pub standing : List Setting → Option (Text × Text) → Walk
  standing done last = between (map row_for done) (last_value last) idle

  abbrev waiting : List Setting → Text → Walk
  waiting done name = between (map row_for done) (Some (name, [])) (option name)

  -- what is held there
  abbrev held_at : List Setting → Option (Text × Text) → Held
  held_at done last = holding (map row_for done) (last_value last)

  -- one setting more in a list
  regrouped : (one : List Setting) (s : Setting) (other : List Setting) → AreFine words (one ++ s ∷ other) → AreFine words ((one ++ s ∷ []) ++ other)
  regrouped one s other fine = subst (AreFine words) (sym (append_assoc one (s ∷ []) other)) fine

  grouped : (one : List Setting) (s : Setting) (other : List Setting) → AreFine words ((one ++ s ∷ []) ++ other) → AreFine words (one ++ s ∷ other)
  grouped one s other fine = subst (AreFine words) (append_assoc one (s ∷ []) other) fine

  -- a row of none
  none_there : (name : Text) (settings : List Setting) (rows : List Row) → rows ≡ map row_for settings → has_setting name settings ≡ false → has_row name rows ≡ false
  none_there name settings rows is none = ap (has_row name) is ∙ (has_row_is name settings ∙ none)

  none_set : (name : Text) (settings : List Setting) (rows : List Row) → rows ≡ map row_for settings → has_row name rows ≡ false → has_setting name settings ≡ false
  none_set name settings rows is none = sym (has_row_is name settings) ∙ (sym (ap (has_row name) is) ∙ none)

  pushed : (settings : List Setting) (s : Setting) (rows : List Row) → rows ≡ map row_for settings → rows ++ row_for s ∷ [] ≡ map row_for (settings ++ s ∷ [])
  pushed settings s rows is = ap (λ (rs : List Row). rs ++ row_for s ∷ []) is ∙ sym (map_push row_for settings s)

  -- the rows there, once what waits is used
  abbrev rows_at : List Setting → Option (Text × Text) → List Row
  rows_at done last = (settled (arguments words) (held_at done last)).rows

  rows_settled : (done : List Setting) (last : Option (Text × Text)) → MayWait words last → AreFine words (so_far done last) → rows_at done last ≡ map row_for (so_far done last)
  rows_settled done last waits fine = (settles words done last waits fine).1

  -- a word without a value is used
  flag_is_free : (done : List Setting) (last : Option (Text × Text)) → MayWait words last → AreFine words (so_far done last) → (name : Text) → has_setting name (so_far done last) ≡ false
      → faults_now words (held_at done last) (argument (flag name)) [] ≡ []
  flag_is_free done last waits fine name none =
      let used : use_fault false (argument (flag name)) [] (rows_at done last) ≡ [] = flag_free name (rows_at done last) (none_there name (so_far done last) (rows_at done last) (rows_settled done last waits fine) none) in
      both_none (or_else (settle_fault (arguments words) false (held_at done last)) (use_fault false (argument (flag name)) [] (rows_at done last))) []
      (both_none (settle_fault (arguments words) false (held_at done last)) (use_fault false (argument (flag name)) [] (rows_at done last)) (settles words done last waits fine).0 used) refl

  flag_rows : (done : List Setting) (last : Option (Text × Text)) → MayWait words last → AreFine words (so_far done last) → (name : Text) → has_setting name (so_far done last) ≡ false
      → rows_now words (held_at done last) (argument (flag name)) [] ≡ map row_for (so_far done last ++ alone name ∷ [])
  flag_rows done last waits fine name none =
      let settles_so = rows_settled done last waits fine in
      flag_used name (rows_at done last) (none_there name (so_far done last) (rows_at done last) settles_so none) ∙ pushed (so_far done last) (alone name) (rows_at done last) settles_so

  -- and a word with its value
  value_is_free : (done : List Setting) (last : Option (Text × Text)) → MayWait words last → AreFine words (so_far done last) → (name value : Text) → has_setting name (so_far done last) ≡ false → nat_lt 0 (length value) ≡ true
      → faults_now words (held_at done last) (argument (word_with_value name)) (value ∷ []) ≡ []
  value_is_free done last waits fine name value none filled =
      let used : use_fault false (argument (word_with_value name)) (value ∷ []) (rows_at done last) ≡ [] =
      value_free name value (rows_at done last) (none_there name (so_far done last) (rows_at done last) (rows_settled done last waits fine) none) filled in
      both_none (or_else (settle_fault (arguments words) false (held_at done last)) (use_fault false (argument (word_with_value name)) (value ∷ []) (rows_at done last))) []
      (both_none (settle_fault (arguments words) false (held_at done last)) (use_fault false (argument (word_with_value name)) (value ∷ []) (rows_at done last)) (settles words done last waits fine).0 used) refl

  value_rows : (done : List Setting) (last : Option (Text × Text)) → MayWait words last → AreFine words (so_far done last) → (name value : Text) → has_setting name (so_far done last) ≡ false
      → rows_now words (held_at done last) (argument (word_with_value name)) (value ∷ []) ≡ map row_for (so_far done last ++ with_value name value ∷ [])
  value_rows done last waits fine name value none =
      let settles_so = rows_settled done last waits fine in
      value_used name value (rows_at done last) (none_there name (so_far done last) (rows_at done last) settles_so none) ∙ pushed (so_far done last) (with_value name value) (rows_at done last) settles_so

  -- ---- words with a meaning are read

  module _ (names : list_all (λ word. is_name word.name) words ≡ true) where
    -- words that stand behind settings are read as these and theirs
    abbrev ReadsOn : List Text → List Setting → List Setting → Option (Text × Text) → Type 0
    ReadsOn texts settings done last = MayWait words last → AreFine words (so_far done last ++ settings) → AreRead (standing done last) texts (so_far done last ++ settings)

    over : (done : List Setting) (last : Option (Text × Text)) (texts : List Text) → texts ≡ [] → ReadsOn texts [] done last
    over done last texts is waits fine =
        let fine_now : AreFine words (so_far done last) = fine_front words (so_far done last) [] fine in
        let read : AreRead (standing done last) [] (so_far done last ++ []) = record {
          free = record { walk = no_word_left (standing done last); end = (settles words done last waits fine_now).0 };
          rows = rows_settled done last waits fine_now ∙ ap (map row_for) (sym (append-nil (so_far done last)));
        } in
        subst (λ (t : List Text). AreRead (standing done last) t (so_far done last ++ [])) (sym is) read

    flag_reads : (name : Text) (left : List Text) (settings : List Setting) (done : List Setting) (last : Option (Text × Text)) → ReadsOn left settings (so_far done last ++ alone name ∷ []) None
        → ReadsOn (hyphened name ∷ left) (alone name ∷ settings) done last
    flag_reads name left settings done last later waits fine =
        let next = fine_next words (so_far done last) (alone name) settings fine in
        let fine_now = fine_front words (so_far done last) (alone name ∷ settings) fine in
        let found = known_alone words name next.1 in
        let long = alone_is_long name (fit_name words names name (flag name) found) in
        let read : AreRead (standing (so_far done last ++ alone name ∷ []) None) left ((so_far done last ++ alone name ∷ []) ++ settings) = later tt (regrouped (so_far done last) (alone name) settings fine) in
        let turn = flag_turn words (map row_for done) (last_value last) idle (hyphened name) name long found ∙ flag_is_free done last waits fine_now name next.0 in
        let step : walked (arguments words) [] (standing done last) (hyphened name) ≡ standing (so_far done last ++ alone name ∷ []) None =
        flag_walk words (map row_for done) (last_value last) idle (hyphened name) name long found ∙ ap (λ (rows : List Row). between rows None idle) (flag_rows done last waits fine_now name next.0) in
        more_read (standing done last) (standing (so_far done last ++ alone name ∷ []) None) (hyphened name) left (so_far done last ++ alone name ∷ settings) turn step
        (subst (AreRead (standing (so_far done last ++ alone name ∷ []) None) left) (append_assoc (so_far done last) (alone name ∷ []) settings) read)

    joined_reads : (name value : Text) (left : List Text) (settings : List Setting) (done : List Setting) (last : Option (Text × Text)) → ReadsOn left settings (so_far done last ++ with_value name value ∷ []) None
        → ReadsOn (as_one_word name value ∷ left) (with_value name value ∷ settings) done last
    joined_reads name value left settings done last later waits fine =
        let next = fine_next words (so_far done last) (with_value name value) settings fine in
        let fine_now = fine_front words (so_far done last) (with_value name value ∷ settings) fine in
        let found = known_value words name value next.1 in
        let long = joined_is_long name value (fit_name words names name (word_with_value name) found.0) in
        let read : AreRead (standing (so_far done last ++ with_value name value ∷ []) None) left ((so_far done last ++ with_value name value ∷ []) ++ settings) = later tt (regrouped (so_far done last) (with_value name value) settings fine) in
        let turn = joined_turn words (map row_for done) (last_value last) idle (as_one_word name value) name value long found.0 ∙ value_is_free done last waits fine_now name value next.0 found.1 in
        let step : walked (arguments words) [] (standing done last) (as_one_word name value) ≡ standing (so_far done last ++ with_value name value ∷ []) None =
        joined_walk words (map row_for done) (last_value last) idle (as_one_word name value) name value long found.0 ∙ ap (λ (rows : List Row). between rows None idle) (value_rows done last waits fine_now name value next.0) in
        more_read (standing done last) (standing (so_far done last ++ with_value name value ∷ []) None) (as_one_word name value) left (so_far done last ++ with_value name value ∷ settings) turn step
        (subst (AreRead (standing (so_far done last ++ with_value name value ∷ []) None) left) (append_assoc (so_far done last) (with_value name value ∷ []) settings) read)

    parted_reads : (name value : Text) (left : List Text) (settings : List Setting) (done : List Setting) (last : Option (Text × Text)) → begins_with_hyphen value ≡ false
        → ReadsOn left settings (so_far done last) (Some (name, value)) → ReadsOn (hyphened name ∷ value ∷ left) (with_value name value ∷ settings) done last
    parted_reads name value left settings done last bare later waits fine =
        let next = fine_next words (so_far done last) (with_value name value) settings fine in
        let fine_now = fine_front words (so_far done last) (with_value name value ∷ settings) fine in
        let found = known_value words name value next.1 in
        let long = alone_is_long name (fit_name words names name (word_with_value name) found.0) in
        let plain = unhyphened_is_plain value bare in
        let read : AreRead (standing (so_far done last) (Some (name, value))) left ((so_far done last ++ with_value name value ∷ []) ++ settings) = later found.0 (regrouped (so_far done last) (with_value name value) settings fine) in
        let behind : AreRead (waiting (so_far done last) name) (value ∷ left) ((so_far done last ++ with_value name value ∷ []) ++ settings) =
        more_read (waiting (so_far done last) name) (standing (so_far done last) (Some (name, value))) value left ((so_far done last ++ with_value name value ∷ []) ++ settings)
        (value_turn words (map row_for (so_far done last)) name value plain) (value_walk words (map row_for (so_far done last)) name value plain found.0) read in
        let turn = opening_turn words (map row_for done) (last_value last) idle (hyphened name) name long found.0
        ∙ both_none (settle_fault (arguments words) false (held_at done last)) [] (settles words done last waits fine_now).0 refl in
        let step : walked (arguments words) [] (standing done last) (hyphened name) ≡ waiting (so_far done last) name =
        opening_walk words (map row_for done) (last_value last) idle (hyphened name) name long found.0
        ∙ ap (λ (rows : List Row). between rows (Some (name, [])) (option name)) (rows_settled done last waits fine_now) in
        more_read (standing done last) (waiting (so_far done last) name) (hyphened name) (value ∷ left) (so_far done last ++ with_value name value ∷ settings) turn step
        (subst (AreRead (waiting (so_far done last) name) (value ∷ left)) (append_assoc (so_far done last) (with_value name value ∷ []) settings) behind)

    abbrev AlwaysReads : List Text → List Setting → Type 0
    AlwaysReads texts settings = (done : List Setting) (last : Option (Text × Text)) → ReadsOn texts settings done last

    one_reads : (name : Text) (value : Option Text) (texts left : List Text) (settings : List Setting) → BeginsWith name value texts left → AlwaysReads left settings → AlwaysReads texts (record { name = name; value = value } ∷ settings)
    one_reads name None texts left settings is later = λ done last.
        subst (λ (t : List Text). ReadsOn t (alone name ∷ settings) done last) (sym is) (flag_reads name left settings done last (later (so_far done last ++ alone name ∷ []) None))
    one_reads name (Some value) texts left settings (inl is) later = λ done last.
        subst (λ (t : List Text). ReadsOn t (with_value name value ∷ settings) done last) (sym is) (joined_reads name value left settings done last (later (so_far done last ++ with_value name value ∷ []) None))
    one_reads name (Some value) texts left settings (inr is) later = λ done last.
        subst (λ (t : List Text). ReadsOn t (with_value name value ∷ settings) done last) (sym is.1) (parted_reads name value left settings done last is.0 (later (so_far done last) (Some (name, value))))

    always_reads : (settings : List Setting) (texts : List Text) → Spell settings texts → AlwaysReads texts settings
    always_reads [] texts is = λ done last. over done last texts is
    always_reads (s ∷ settings) texts spelled = one_reads s.name s.value texts spelled.0 settings spelled.1 (always_reads settings spelled.0 spelled.2)

    -- words that spell settings of the table, each once, are read as these
    pub spelled_are_read : (settings : List Setting) (texts : List Text) → Spell settings texts → AreFine words settings → AreRead (standing [] None) texts settings
    spelled_are_read settings texts spelled fine = always_reads settings texts spelled [] None tt fine

  -- ---- words that are read have a meaning

  -- the words go on with settings that are fine behind others
  abbrev GoesOn : List Setting → List Text → Type 0
  GoesOn done texts = (settings : List Setting) × Spell settings texts × AreFine words (done ++ settings)

  -- a value stands first, and then the words go on
  abbrev ValueAndMore : List Setting → Text → List Text → Type 0
  ValueAndMore done name texts = (value : Text) × (left : List Text) × (texts ≡ value ∷ left) × (begins_with_hyphen value ≡ false) × GoesOn (done ++ with_value name value ∷ []) left

  -- where words are free they go on
  pub record FreeGoesOn (texts : List Text) : Type 0 where
    pub here : (done : List Setting) (last : Option (Text × Text)) → MayWait words last → AreFine words done → IsFree (standing done last) texts → GoesOn (so_far done last) texts
    pub waits : (done : List Setting) (name : Text) → word_of words name ≡ Some (word_with_value name) → AreFine words done → IsFree (waiting done name) texts → ValueAndMore done name texts

  nothing_more : FreeGoesOn []
  nothing_more = record {
    here = λ done last waits fine free.
        ([], refl, subst (AreFine words) (sym (append-nil (so_far done last))) (settled_fine words done last waits fine free.end));
    waits = λ done name found fine free. absurd (nothing_settles words (map row_for done) name found free.end);
  }

  module _ (word : Text) (texts : List Text) (later : FreeGoesOn texts) where
    -- a setting is read, and the words go on behind it
    one_more : (one : List Setting) (s : Setting) (all left : List Text) → BeginsWith s.name s.value all left → GoesOn (one ++ s ∷ []) left → GoesOn one all
    one_more one s all left begins more = (s ∷ more.0, (left, begins, more.1), grouped one s more.0 more.2)

    module _ (done : List Setting) (last : Option (Text × Text)) (waits : MayWait words last) (fine : AreFine words done) (free : IsFree (standing done last) (word ∷ texts)) where
      turn_free : turn_fault (shape words) [] (standing done last) word ≡ []
      turn_free = first_free (standing done last) word texts free

      flag_goes_on : (name : Text) → IsLong word name None → word ≡ hyphened name → word_of words name ≡ Some (flag name) → GoesOn (so_far done last) (word ∷ texts)
      flag_goes_on name long is found =
          let faults : faults_now words (held_at done last) (argument (flag name)) [] ≡ [] = sym (flag_turn words (map row_for done) (last_value last) idle word name long found) ∙ turn_free in
          let parts = none_of (settle_fault (arguments words) false (held_at done last)) (use_fault false (argument (flag name)) [] (rows_at done last))
          (none_of (or_else (settle_fault (arguments words) false (held_at done last)) (use_fault false (argument (flag name)) [] (rows_at done last))) [] faults).0 in
          let fine_now = settled_fine words done last waits fine parts.0 in
          let none = none_set name (so_far done last) (rows_at done last) (rows_settled done last waits fine_now) (flag_none name (rows_at done last) parts.1) in
          let fine_then = fine_more words (so_far done last) (alone name) fine_now (flag_known words name found) none in
          let step : walked (arguments words) [] (standing done last) word ≡ standing (so_far done last ++ alone name ∷ []) None =
          flag_walk words (map row_for done) (last_value last) idle word name long found ∙ ap (λ (rows : List Row). between rows None idle) (flag_rows done last waits fine_now name none) in
          let more = later.here (so_far done last ++ alone name ∷ []) None tt fine_then (later_free (standing done last) (standing (so_far done last ++ alone name ∷ []) None) word texts step free) in
          one_more (so_far done last) (alone name) (word ∷ texts) texts (ap (λ (t : Text). t ∷ texts) is) more

      joined_goes_on : (name value : Text) → IsLong word name (Some value) → word ≡ as_one_word name value → word_of words name ≡ Some (word_with_value name) → GoesOn (so_far done last) (word ∷ texts)
      joined_goes_on name value long is found =
          let faults : faults_now words (held_at done last) (argument (word_with_value name)) (value ∷ []) ≡ [] = sym (joined_turn words (map row_for done) (last_value last) idle word name value long found) ∙ turn_free in
          let parts = none_of (settle_fault (arguments words) false (held_at done last)) (use_fault false (argument (word_with_value name)) (value ∷ []) (rows_at done last))
          (none_of (or_else (settle_fault (arguments words) false (held_at done last)) (use_fault false (argument (word_with_value name)) (value ∷ []) (rows_at done last))) [] faults).0 in
          let fine_now = settled_fine words done last waits fine parts.0 in
          let taken = value_none name value (rows_at done last) parts.1 in
          let none = none_set name (so_far done last) (rows_at done last) (rows_settled done last waits fine_now) taken.0 in
          let fine_then = fine_more words (so_far done last) (with_value name value) fine_now (value_known words name value found taken.1) none in
          let step : walked (arguments words) [] (standing done last) word ≡ standing (so_far done last ++ with_value name value ∷ []) None =
          joined_walk words (map row_for done) (last_value last) idle word name value long found ∙ ap (λ (rows : List Row). between rows None idle) (value_rows done last waits fine_now name value none) in
          let more = later.here (so_far done last ++ with_value name value ∷ []) None tt fine_then (later_free (standing done last) (standing (so_far done last ++ with_value name value ∷ []) None) word texts step free) in
          one_more (so_far done last) (with_value name value) (word ∷ texts) texts (inl (ap (λ (t : Text). t ∷ texts) is)) more

      opening_goes_on : (name : Text) → IsLong word name None → word ≡ hyphened name → word_of words name ≡ Some (word_with_value name) → GoesOn (so_far done last) (word ∷ texts)
      opening_goes_on name long is found =
          let faults : or_else (settle_fault (arguments words) false (held_at done last)) [] ≡ [] = sym (opening_turn words (map row_for done) (last_value last) idle word name long found) ∙ turn_free in
          let fine_now = settled_fine words done last waits fine (none_of (settle_fault (arguments words) false (held_at done last)) [] faults).0 in
          let step : walked (arguments words) [] (standing done last) word ≡ waiting (so_far done last) name =
          opening_walk words (map row_for done) (last_value last) idle word name long found
          ∙ ap (λ (rows : List Row). between rows (Some (name, [])) (option name)) (rows_settled done last waits fine_now) in
          let more = later.waits (so_far done last) name found fine_now (later_free (standing done last) (waiting (so_far done last) name) word texts step free) in
          one_more (so_far done last) (with_value name more.0) (word ∷ texts) more.1 (inr (more.3, ap₂ (λ (t : Text) (ts : List Text). t ∷ ts) is more.2)) more.4

      known_goes_on : (name : Text) (value : Option Text) → IsLong word name value → word ≡ written name value → (takes_value : Bool)
          → word_of words name ≡ Some (word_with name takes_value) → GoesOn (so_far done last) (word ∷ texts)
      known_goes_on name None long is true found = opening_goes_on name long is found
      known_goes_on name None long is false found = flag_goes_on name long is found
      known_goes_on name (Some value) long is true found = joined_goes_on name value long is found
      known_goes_on name (Some value) long is false found = absurd (flag_with_value_fails words (map row_for done) (last_value last) idle word name value long found turn_free)

      named_goes_on : (name : Text) (value : Option Text) → IsLong word name value → word ≡ written name value → (found : Option Word) → word_of words name ≡ found → GoesOn (so_far done last) (word ∷ texts)
      named_goes_on name value long is None found = absurd (unknown_fails words (map row_for done) (last_value last) idle word name value long found turn_free)
      named_goes_on name value long is (Some w) found = known_goes_on name value long is w.takes_value (found_word words name w w.takes_value found refl)

      word_goes_on : (begins_with_hyphen word ≡ false) ⊎ IsRead word → GoesOn (so_far done last) (word ∷ texts)
      word_goes_on (inl none) = absurd (stray_fails words (map row_for done) (last_value last) word (unhyphened_is_plain word none) turn_free)
      word_goes_on (inr read) = named_goes_on read.0 read.1 read.2 read.3 (word_of words read.0) refl

    value_goes_on : (begins_with_hyphen word ≡ false) ⊎ IsRead word → (done : List Setting) (name : Text) → word_of words name ≡ Some (word_with_value name) → AreFine words done → IsFree (waiting done name) (word ∷ texts)
        → ValueAndMore done name (word ∷ texts)
    value_goes_on (inl none) done name found fine free =
        let plain = unhyphened_is_plain word none in (
          word,
          texts,
          refl,
          none,
          later.here done (Some (name, word)) found fine
              (later_free (waiting done name) (standing done (Some (name, word))) word texts (value_walk words (map row_for done) name word plain found) free),
        )
    value_goes_on (inr read) done name found fine free =
        absurd (no_name_follows words (map row_for done) (Some (name, [])) (option name) word read.0 read.1 read.2 (nothing_settles words (map row_for done) name found) (first_free (waiting done name) word texts free))

    more_words : (begins_with_hyphen word ≡ false) ⊎ IsRead word → FreeGoesOn (word ∷ texts)
    more_words read = record {
      here = λ done last waits fine free. word_goes_on done last waits fine free read;
      waits = value_goes_on read;
    }

  free_goes_on : (texts : List Text) → list_any is_stray texts ≡ false → FreeGoesOn texts
  free_goes_on [] fit = nothing_more
  free_goes_on (word ∷ texts) fit =
      let parts = or_parts (is_stray word) (list_any is_stray texts) fit in
      more_words word texts (free_goes_on texts parts.1) (word_is_read word parts.0)

  -- words without faults, of which none is a stray one, spell settings of the table, each once
  pub read_are_spelled : (texts : List Text) → list_any is_stray texts ≡ false → IsFree (standing [] None) texts → (settings : List Setting) × Spell settings texts × AreFine words settings
  read_are_spelled texts fit free = (free_goes_on texts fit).here [] None tt (record { known = refl; once = tt }) free
