use Rattle.std.proofs.Common.{◌≡◌, Bool, true, false, [], ◌∷◌, Option, Some, None, codes, decimal, length, nat_lt, refl, sym, inl, inr, arith}
use Rattle.std.proofs.lemmas.Bool.{and_from}
use Rattle.std.proofs.lemmas.Fmt.{decimal_digit}
use Rattle.std.specs.Fmt.{digits}
use Rattle.clap.specs.Faults.{fault_of}
use Rattle.clap.specs.declared.error.kind.ErrorKind.TheVariants as kind
use Rattle.clap.proofs.OnLiterals.{clap_on_literals}
use Rattle.aplsv_words.specs.CommandLine.{command_of}
use Rattle.aplsv_words.specs.Laws.{MeanNothing, nothing, replay_alone}
use Rattle.aplsv_words.specs.Meaning.{AsksFor, IsCount, NoCount, Say, Text, begins_with_hyphen, hyphened, is_known, as_one_word, said_by, word_of}
use Rattle.aplsv_words.specs.Table.{table, word_with_value}
use Rattle.aplsv_words.proofs.Counts.{low_counts_not, no_load_by, no_workers_by, other_counts_not, replay_without_load, replay_without_workers, workers_without_load}
use Rattle.aplsv_words.proofs.Settings.{alone, value_known, with_value}
use Rattle.aplsv_words.proofs.Worked.{a_stray_means_nothing, faults_mean_nothing, means_by, say_by}
use Rattle.aplsv_words.proofs.laws.worked_words.Goals as goal

-- nothing but these four words is asked for
four : (replay : Bool) (library text : Option Text) (clock : Bool)
    → AsksFor (record { replay = replay; workers = None; library = library; text = text; clock = clock; load = None; components = false; relay = false }) (record { replay = replay; workers = None; library = library; text = text; clock = clock; load = None; components = false; relay = false })
four true library text clock = record { replay = refl; workers = tt; library = refl; text = refl; clock = refl; load = tt; components = refl; relay = refl; single = refl }
four false library text clock = record { replay = refl; workers = tt; library = refl; text = refl; clock = refl; load = tt; components = refl; relay = refl; single = refl }

pub returns-clause-none : goal.returns-clause-none
returns-clause-none c = means_by [] [] nothing refl (record { known = refl; once = tt }) (four false None None false)

pub returns-clause-replay : goal.returns-clause-replay
returns-clause-replay c =
    means_by (codes "--replay" ∷ []) (alone (codes "replay") ∷ []) replay_alone ([], refl, refl) (record { known = refl; once = (refl, tt) }) (four true None None false)

pub returns-clause-all : goal.returns-clause-all
returns-clause-all c =
    means_by (codes "--clock" ∷ codes "--text=NOTES" ∷ codes "--replay" ∷ codes "--library" ∷ codes "SAVED" ∷ [])
    (alone (codes "clock") ∷ with_value (codes "text") (codes "NOTES") ∷ alone (codes "replay") ∷ with_value (codes "library") (codes "SAVED") ∷ [])
    (record replay_alone { library = Some (codes "SAVED"); text = Some (codes "NOTES"); clock = true }) (
      codes "--text=NOTES" ∷ codes "--replay" ∷ codes "--library" ∷ codes "SAVED" ∷ [],
      refl,
      (
        codes "--replay" ∷ codes "--library" ∷ codes "SAVED" ∷ [],
        inl refl,
        (codes "--library" ∷ codes "SAVED" ∷ [], refl, ([], inr (refl, refl), refl)),
      ),
    )
    (record { known = refl; once = (refl, (refl, (refl, (refl, tt)))) })
    (four true (Some (codes "SAVED")) (Some (codes "NOTES")) true)

pub returns-clause-hyphen : goal.returns-clause-hyphen
returns-clause-hyphen c =
    means_by (codes "--library=-x" ∷ []) (with_value (codes "library") (codes "-x") ∷ []) (record nothing { library = Some (codes "-x") }) ([], inl refl, refl)
    (record { known = refl; once = (refl, tt) }) (four false (Some (codes "-x")) None false)

pub returns-clause-equals : goal.returns-clause-equals
returns-clause-equals c =
    means_by (codes "--text=a=b" ∷ []) (with_value (codes "text") (codes "a=b") ∷ []) (record nothing { text = Some (codes "a=b") }) ([], inl refl, refl)
    (record { known = refl; once = (refl, tt) }) (four false None (Some (codes "a=b")) false)

-- a load and its count

five : IsCount 100000 (codes "5") 5
five = record { digits = sym (decimal_digit 5 (omega arith)); some = omega arith; few = omega arith }

most_digits : codes "100000" ≡ decimal 100000
unfolding digits
most_digits = refl

past_digits : codes "100001" ≡ decimal 100001
unfolding digits
past_digits = refl

most : IsCount 100000 (codes "100000") 100000
most = record { digits = most_digits; some = omega arith; few = omega arith }

pub returns-clause-load : goal.returns-clause-load
returns-clause-load c =
    means_by (codes "--load" ∷ codes "5" ∷ []) (with_value (codes "load") (codes "5") ∷ []) (record nothing { load = Some 5 }) ([], inr (refl, refl), refl)
    (record { known = refl; once = (refl, tt) }) (record { replay = refl; workers = tt; library = refl; text = refl; clock = refl; load = five; components = refl; relay = refl; single = refl })

pub returns-clause-load_beside : goal.returns-clause-load_beside
returns-clause-load_beside c =
    means_by (codes "--clock" ∷ codes "--load=100000" ∷ []) (alone (codes "clock") ∷ with_value (codes "load") (codes "100000") ∷ []) (record nothing { clock = true; load = Some 100000 })
    (codes "--load=100000" ∷ [], refl, ([], inl refl, refl)) (record { known = refl; once = (refl, (refl, tt)) })
    (record { replay = refl; workers = tt; library = refl; text = refl; clock = refl; load = most; components = refl; relay = refl; single = refl })

-- workers and how many

two : IsCount 34 (codes "2") 2
two = record { digits = sym (decimal_digit 2 (omega arith)); some = omega arith; few = omega arith }

most_workers_digits : codes "34" ≡ decimal 34
unfolding digits
most_workers_digits = refl

past_workers_digits : codes "35" ≡ decimal 35
unfolding digits
past_workers_digits = refl

most_workers : IsCount 34 (codes "34") 34
most_workers = record { digits = most_workers_digits; some = omega arith; few = omega arith }

pub returns-clause-workers : goal.returns-clause-workers
returns-clause-workers c =
    means_by (codes "--workers" ∷ codes "2" ∷ []) (with_value (codes "workers") (codes "2") ∷ []) (record nothing { workers = Some 2 }) ([], inr (refl, refl), refl)
    (record { known = refl; once = (refl, tt) }) (record { replay = refl; workers = two; library = refl; text = refl; clock = refl; load = tt; components = refl; relay = refl; single = refl })

pub returns-clause-workers_beside : goal.returns-clause-workers_beside
returns-clause-workers_beside c =
    means_by (codes "--workers=34" ∷ codes "--clock" ∷ []) (with_value (codes "workers") (codes "34") ∷ alone (codes "clock") ∷ []) (record nothing { workers = Some 34; clock = true })
    (codes "--clock" ∷ [], inl refl, ([], refl, refl)) (record { known = refl; once = (refl, (refl, tt)) })
    (record { replay = refl; workers = most_workers; library = refl; text = refl; clock = refl; load = tt; components = refl; relay = refl; single = refl })

-- what is no count, in one word and in two

joined_says : (name text : Text) → word_of table name ≡ Some (word_with_value name) → nat_lt 0 (length text) ≡ true → Say (as_one_word name text ∷ []) (said_by (with_value name text ∷ []))
joined_says name text known filled =
    say_by (as_one_word name text ∷ []) (with_value name text ∷ []) ([], inl refl, refl) (record { known = and_from (is_known table (with_value name text)) true (value_known table name text known filled) refl; once = (refl, tt) })

parted_says : (name text : Text) → word_of table name ≡ Some (word_with_value name) → nat_lt 0 (length text) ≡ true → begins_with_hyphen text ≡ false → Say (hyphened name ∷ text ∷ []) (said_by (with_value name text ∷ []))
parted_says name text known filled plain =
    say_by (hyphened name ∷ text ∷ []) (with_value name text ∷ []) ([], inr (plain, refl), refl) (record { known = and_from (is_known table (with_value name text)) true (value_known table name text known filled) refl; once = (refl, tt) })

joined_load : (text : Text) → nat_lt 0 (length text) ≡ true → NoCount 100000 text → MeanNothing (as_one_word (codes "load") text ∷ [])
joined_load text filled none asked means =
    no_load_by (as_one_word (codes "load") text ∷ []) (said_by (with_value (codes "load") text ∷ [])) (joined_says (codes "load") text refl filled) asked means text refl none

parted_load : (text : Text) → nat_lt 0 (length text) ≡ true → begins_with_hyphen text ≡ false → NoCount 100000 text → MeanNothing (hyphened (codes "load") ∷ text ∷ [])
parted_load text filled plain none asked means =
    no_load_by (hyphened (codes "load") ∷ text ∷ []) (said_by (with_value (codes "load") text ∷ [])) (parted_says (codes "load") text refl filled plain) asked means text refl none

joined_workers : (text : Text) → nat_lt 0 (length text) ≡ true → NoCount 34 text → MeanNothing (as_one_word (codes "workers") text ∷ [])
joined_workers text filled none asked means =
    no_workers_by (as_one_word (codes "workers") text ∷ []) (said_by (with_value (codes "workers") text ∷ [])) (joined_says (codes "workers") text refl filled) asked means text refl none

parted_workers : (text : Text) → nat_lt 0 (length text) ≡ true → begins_with_hyphen text ≡ false → NoCount 34 text → MeanNothing (hyphened (codes "workers") ∷ text ∷ [])
parted_workers text filled plain none asked means =
    no_workers_by (hyphened (codes "workers") ∷ text ∷ []) (said_by (with_value (codes "workers") text ∷ [])) (parted_says (codes "workers") text refl filled plain) asked means text refl none

pub returns-clause-load_of_none : goal.returns-clause-load_of_none
returns-clause-load_of_none c = parted_load (codes "0") refl refl (low_counts_not 100000 (omega arith) (codes "0") (omega arith))

pub returns-clause-load_past : goal.returns-clause-load_past
returns-clause-load_past c = joined_load (codes "100001") refl (other_counts_not 100000 (omega arith) (codes "100001") 100001 (omega arith) (omega arith) past_digits)

pub returns-clause-load_zero : goal.returns-clause-load_zero
returns-clause-load_zero c = parted_load (codes "05") refl refl (low_counts_not 100000 (omega arith) (codes "05") (omega arith))

pub returns-clause-load_plus : goal.returns-clause-load_plus
returns-clause-load_plus c = joined_load (codes "+5") refl (low_counts_not 100000 (omega arith) (codes "+5") (omega arith))

pub returns-clause-load_minus : goal.returns-clause-load_minus
returns-clause-load_minus c = joined_load (codes "-5") refl (low_counts_not 100000 (omega arith) (codes "-5") (omega arith))

pub returns-clause-workers_none : goal.returns-clause-workers_none
returns-clause-workers_none c = parted_workers (codes "0") refl refl (low_counts_not 34 (omega arith) (codes "0") (omega arith))

pub returns-clause-workers_past : goal.returns-clause-workers_past
returns-clause-workers_past c = joined_workers (codes "35") refl (other_counts_not 34 (omega arith) (codes "35") 35 (omega arith) (omega arith) past_workers_digits)

pub returns-clause-workers_zero : goal.returns-clause-workers_zero
returns-clause-workers_zero c = parted_workers (codes "07") refl refl (low_counts_not 34 (omega arith) (codes "07") (omega arith))

-- two of a replay, workers and a load together

load_replayed : Say (codes "--load" ∷ codes "5" ∷ codes "--replay" ∷ []) (said_by (with_value (codes "load") (codes "5") ∷ alone (codes "replay") ∷ []))
load_replayed =
    say_by (codes "--load" ∷ codes "5" ∷ codes "--replay" ∷ []) (with_value (codes "load") (codes "5") ∷ alone (codes "replay") ∷ []) (codes "--replay" ∷ [], inr (refl, refl), ([], refl, refl))
    (record { known = refl; once = (refl, (refl, tt)) })

workers_replayed : Say (codes "--workers" ∷ codes "2" ∷ codes "--replay" ∷ []) (said_by (with_value (codes "workers") (codes "2") ∷ alone (codes "replay") ∷ []))
workers_replayed =
    say_by (codes "--workers" ∷ codes "2" ∷ codes "--replay" ∷ []) (with_value (codes "workers") (codes "2") ∷ alone (codes "replay") ∷ []) (codes "--replay" ∷ [], inr (refl, refl), ([], refl, refl))
    (record { known = refl; once = (refl, (refl, tt)) })

workers_loaded : Say (codes "--workers" ∷ codes "2" ∷ codes "--load=5" ∷ []) (said_by (with_value (codes "workers") (codes "2") ∷ with_value (codes "load") (codes "5") ∷ []))
workers_loaded =
    say_by (codes "--workers" ∷ codes "2" ∷ codes "--load=5" ∷ []) (with_value (codes "workers") (codes "2") ∷ with_value (codes "load") (codes "5") ∷ []) (codes "--load=5" ∷ [], inr (refl, refl), ([], inl refl, refl))
    (record { known = refl; once = (refl, (refl, tt)) })

pub returns-clause-load_replayed : goal.returns-clause-load_replayed
returns-clause-load_replayed c = λ asked means.
    replay_without_load (codes "--load" ∷ codes "5" ∷ codes "--replay" ∷ []) (said_by (with_value (codes "load") (codes "5") ∷ alone (codes "replay") ∷ [])) load_replayed asked means (codes "5") refl refl

pub returns-clause-workers_replayed : goal.returns-clause-workers_replayed
returns-clause-workers_replayed c = λ asked means.
    replay_without_workers (codes "--workers" ∷ codes "2" ∷ codes "--replay" ∷ []) (said_by (with_value (codes "workers") (codes "2") ∷ alone (codes "replay") ∷ [])) workers_replayed asked means (codes "2") refl refl

pub returns-clause-workers_loaded : goal.returns-clause-workers_loaded
returns-clause-workers_loaded c = λ asked means.
    workers_without_load (codes "--workers" ∷ codes "2" ∷ codes "--load=5" ∷ []) (said_by (with_value (codes "workers") (codes "2") ∷ with_value (codes "load") (codes "5") ∷ [])) workers_loaded asked means (codes "2") (codes "5") refl refl

-- other auxiliaries

pub returns-clause-components : goal.returns-clause-components
returns-clause-components c =
    means_by (codes "--replay" ∷ codes "--components" ∷ []) (alone (codes "replay") ∷ alone (codes "components") ∷ []) (record replay_alone { components = true }) (codes "--components" ∷ [], refl, ([], refl, refl))
    (record { known = refl; once = (refl, (refl, tt)) }) (record { replay = refl; workers = tt; library = refl; text = refl; clock = refl; load = tt; components = refl; relay = refl; single = refl })

pub returns-clause-relay : goal.returns-clause-relay
returns-clause-relay c =
    means_by (codes "--relay" ∷ codes "--replay" ∷ []) (alone (codes "relay") ∷ alone (codes "replay") ∷ []) (record replay_alone { relay = true }) (codes "--replay" ∷ [], refl, ([], refl, refl))
    (record { known = refl; once = (refl, (refl, tt)) }) (record { replay = refl; workers = tt; library = refl; text = refl; clock = refl; load = tt; components = refl; relay = refl; single = refl })

pub returns-clause-both_beside : goal.returns-clause-both_beside
returns-clause-both_beside c =
    means_by (codes "--relay" ∷ codes "--load=5" ∷ codes "--components" ∷ codes "--text=A" ∷ [])
    (alone (codes "relay") ∷ with_value (codes "load") (codes "5") ∷ alone (codes "components") ∷ with_value (codes "text") (codes "A") ∷ [])
    (record nothing { text = Some (codes "A"); load = Some 5; components = true; relay = true })
    (codes "--load=5" ∷ codes "--components" ∷ codes "--text=A" ∷ [], refl, (codes "--components" ∷ codes "--text=A" ∷ [], inl refl, (codes "--text=A" ∷ [], refl, ([], inl refl, refl))))
    (record { known = refl; once = (refl, (refl, (refl, (refl, tt)))) })
    (record { replay = refl; workers = tt; library = refl; text = refl; clock = refl; load = five; components = refl; relay = refl; single = refl })

pub returns-clause-hyphen_apart : goal.returns-clause-hyphen_apart
returns-clause-hyphen_apart c = a_stray_means_nothing (codes "--library" ∷ codes "-x" ∷ []) refl

-- faults at words that are written out

fault_name_apart : fault_of (command_of table) (codes "--text" ∷ codes "--clock" ∷ []) ≡ kind.InvalidValue ∷ []
unfolding clap_on_literals
fault_name_apart = refl

fault_empty : fault_of (command_of table) (codes "--text=" ∷ []) ≡ kind.InvalidValue ∷ []
unfolding clap_on_literals
fault_empty = refl

fault_empty_apart : fault_of (command_of table) (codes "--text" ∷ [] ∷ []) ≡ kind.InvalidValue ∷ []
unfolding clap_on_literals
fault_empty_apart = refl

fault_missing : fault_of (command_of table) (codes "--replay" ∷ codes "--library" ∷ []) ≡ kind.InvalidValue ∷ []
unfolding clap_on_literals
fault_missing = refl

fault_untaken : fault_of (command_of table) (codes "--replay=yes" ∷ []) ≡ kind.TooManyValues ∷ []
unfolding clap_on_literals
fault_untaken = refl

fault_untaken_apart : fault_of (command_of table) (codes "--clock" ∷ codes "now" ∷ []) ≡ kind.UnknownArgument ∷ []
unfolding clap_on_literals
fault_untaken_apart = refl

fault_twice : fault_of (command_of table) (codes "--replay" ∷ codes "--replay" ∷ []) ≡ kind.ArgumentConflict ∷ []
unfolding clap_on_literals
fault_twice = refl

fault_value_twice : fault_of (command_of table) (codes "--text=A" ∷ codes "--text" ∷ codes "B" ∷ []) ≡ kind.ArgumentConflict ∷ []
unfolding clap_on_literals
fault_value_twice = refl

fault_cut : fault_of (command_of table) (codes "--rep" ∷ []) ≡ kind.UnknownArgument ∷ []
unfolding clap_on_literals
fault_cut = refl

fault_help : fault_of (command_of table) (codes "--help" ∷ []) ≡ kind.UnknownArgument ∷ []
unfolding clap_on_literals
fault_help = refl

fault_workers_missing : fault_of (command_of table) (codes "--workers" ∷ []) ≡ kind.InvalidValue ∷ []
unfolding clap_on_literals
fault_workers_missing = refl

fault_load_twice : fault_of (command_of table) (codes "--load=5" ∷ codes "--load=5" ∷ []) ≡ kind.ArgumentConflict ∷ []
unfolding clap_on_literals
fault_load_twice = refl

fault_components_untaken : fault_of (command_of table) (codes "--components=A" ∷ []) ≡ kind.TooManyValues ∷ []
unfolding clap_on_literals
fault_components_untaken = refl

fault_relay_twice : fault_of (command_of table) (codes "--relay" ∷ codes "--replay" ∷ codes "--relay" ∷ []) ≡ kind.ArgumentConflict ∷ []
unfolding clap_on_literals
fault_relay_twice = refl

pub returns-clause-components_untaken : goal.returns-clause-components_untaken
returns-clause-components_untaken c = faults_mean_nothing (codes "--components=A" ∷ []) kind.TooManyValues [] fault_components_untaken

pub returns-clause-relay_twice : goal.returns-clause-relay_twice
returns-clause-relay_twice c = faults_mean_nothing (codes "--relay" ∷ codes "--replay" ∷ codes "--relay" ∷ []) kind.ArgumentConflict [] fault_relay_twice

pub returns-clause-name_apart : goal.returns-clause-name_apart
returns-clause-name_apart c = faults_mean_nothing (codes "--text" ∷ codes "--clock" ∷ []) kind.InvalidValue [] fault_name_apart

pub returns-clause-empty : goal.returns-clause-empty
returns-clause-empty c = faults_mean_nothing (codes "--text=" ∷ []) kind.InvalidValue [] fault_empty

pub returns-clause-empty_apart : goal.returns-clause-empty_apart
returns-clause-empty_apart c = faults_mean_nothing (codes "--text" ∷ [] ∷ []) kind.InvalidValue [] fault_empty_apart

pub returns-clause-missing : goal.returns-clause-missing
returns-clause-missing c = faults_mean_nothing (codes "--replay" ∷ codes "--library" ∷ []) kind.InvalidValue [] fault_missing

pub returns-clause-untaken : goal.returns-clause-untaken
returns-clause-untaken c = faults_mean_nothing (codes "--replay=yes" ∷ []) kind.TooManyValues [] fault_untaken

pub returns-clause-untaken_apart : goal.returns-clause-untaken_apart
returns-clause-untaken_apart c = faults_mean_nothing (codes "--clock" ∷ codes "now" ∷ []) kind.UnknownArgument [] fault_untaken_apart

pub returns-clause-twice : goal.returns-clause-twice
returns-clause-twice c = faults_mean_nothing (codes "--replay" ∷ codes "--replay" ∷ []) kind.ArgumentConflict [] fault_twice

pub returns-clause-value_twice : goal.returns-clause-value_twice
returns-clause-value_twice c = faults_mean_nothing (codes "--text=A" ∷ codes "--text" ∷ codes "B" ∷ []) kind.ArgumentConflict [] fault_value_twice

pub returns-clause-short : goal.returns-clause-short
returns-clause-short c = a_stray_means_nothing (codes "-r" ∷ []) refl

pub returns-clause-cut : goal.returns-clause-cut
returns-clause-cut c = faults_mean_nothing (codes "--rep" ∷ []) kind.UnknownArgument [] fault_cut

pub returns-clause-bare : goal.returns-clause-bare
returns-clause-bare c = a_stray_means_nothing (codes "--replay" ∷ codes "--" ∷ []) refl

pub returns-clause-one_hyphen : goal.returns-clause-one_hyphen
returns-clause-one_hyphen c = a_stray_means_nothing (codes "-" ∷ []) refl

pub returns-clause-help : goal.returns-clause-help
returns-clause-help c = faults_mean_nothing (codes "--help" ∷ []) kind.UnknownArgument [] fault_help

pub returns-clause-workers_missing : goal.returns-clause-workers_missing
returns-clause-workers_missing c = faults_mean_nothing (codes "--workers" ∷ []) kind.InvalidValue [] fault_workers_missing

pub returns-clause-load_twice : goal.returns-clause-load_twice
returns-clause-load_twice c = faults_mean_nothing (codes "--load=5" ∷ codes "--load=5" ∷ []) kind.ArgumentConflict [] fault_load_twice
