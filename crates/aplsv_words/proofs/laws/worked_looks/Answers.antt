use Rattle.std.proofs.Common.{◌≡◌, [], ◌∷◌, None, Some, codes, refl, sym, inl, inr, arith}
use Rattle.std.proofs.lemmas.Fmt.{decimal_digit}
use Rattle.clap.specs.Faults.{fault_of}
use Rattle.clap.specs.declared.error.kind.ErrorKind.TheVariants as kind
use Rattle.clap.proofs.OnLiterals.{clap_on_literals}
use Rattle.aplsv_words.specs.CommandLine.{command_of}
use Rattle.aplsv_words.specs.Looks.{greatest_place, look_said_by}
use Rattle.aplsv_words.specs.Meaning.{IsCount}
use Rattle.aplsv_words.specs.Table.{look_table}
use Rattle.aplsv_words.specs.declared.look.Look.TheVariants.{Picture, Why}
use Rattle.aplsv_words.proofs.Counts.{low_counts_not, no_count_counts}
use Rattle.aplsv_words.proofs.Looks.{asks_no_look, faults_mean_no_look, looks_by, no_look_at, no_look_beside, no_look_to, no_look_without, places_fit}
use Rattle.aplsv_words.proofs.Settings.{alone, with_value}
use Rattle.aplsv_words.proofs.laws.worked_looks.Goals as goal

seven : IsCount greatest_place (codes "7") 7
seven = record { digits = sym (decimal_digit 7 (omega arith)); some = omega arith; few = omega arith }

nine : IsCount greatest_place (codes "9") 9
nine = record { digits = sym (decimal_digit 9 (omega arith)); some = omega arith; few = omega arith }

pub returns-clause-picture : goal.returns-clause-picture
returns-clause-picture c = looks_by (codes "--picture" ∷ []) (alone (codes "picture") ∷ []) (Picture None None) ([], refl, refl) (record { known = refl; once = (refl, tt) }) (refl, refl, tt, tt)

pub returns-clause-from : goal.returns-clause-from
returns-clause-from c =
    looks_by (codes "--picture" ∷ codes "--from" ∷ codes "7" ∷ []) (alone (codes "picture") ∷ with_value (codes "from") (codes "7") ∷ []) (Picture (Some 7) None)
    (codes "--from" ∷ codes "7" ∷ [], refl, ([], inr (refl, refl), refl)) (record { known = refl; once = (refl, (refl, tt)) }) (refl, refl, seven, tt)

pub returns-clause-stretch : goal.returns-clause-stretch
returns-clause-stretch c =
    looks_by (codes "--to=9" ∷ codes "--picture" ∷ codes "--from=7" ∷ []) (with_value (codes "to") (codes "9") ∷ alone (codes "picture") ∷ with_value (codes "from") (codes "7") ∷ []) (Picture (Some 7) (Some 9))
    (codes "--picture" ∷ codes "--from=7" ∷ [], inl refl, (codes "--from=7" ∷ [], refl, ([], inl refl, refl))) (record { known = refl; once = (refl, (refl, (refl, tt))) }) (refl, refl, seven, nine)

pub returns-clause-why : goal.returns-clause-why
returns-clause-why c = looks_by (codes "--why" ∷ codes "7" ∷ []) (with_value (codes "why") (codes "7") ∷ []) (Why 7) ([], inr (refl, refl), refl) (record { known = refl; once = (refl, tt) }) (refl, refl, refl, seven)

pub returns-clause-none : goal.returns-clause-none
returns-clause-none c = asks_no_look [] [] refl (record { known = refl; once = tt }) (no_look_without (look_said_by []) refl refl)

pub returns-clause-to_alone : goal.returns-clause-to_alone
returns-clause-to_alone c =
    asks_no_look (codes "--to=9" ∷ []) (with_value (codes "to") (codes "9") ∷ []) ([], inl refl, refl) (record { known = refl; once = (refl, tt) })
    (no_look_without (look_said_by (with_value (codes "to") (codes "9") ∷ [])) refl refl)

pub returns-clause-why_beside : goal.returns-clause-why_beside
returns-clause-why_beside c =
    asks_no_look (codes "--picture" ∷ codes "--why=7" ∷ []) (alone (codes "picture") ∷ with_value (codes "why") (codes "7") ∷ []) (codes "--why=7" ∷ [], refl, ([], inl refl, refl))
    (record { known = refl; once = (refl, (refl, tt)) }) (no_look_beside (look_said_by (alone (codes "picture") ∷ with_value (codes "why") (codes "7") ∷ [])) (codes "7") refl refl)

pub returns-clause-why_from : goal.returns-clause-why_from
returns-clause-why_from c =
    asks_no_look (codes "--why=7" ∷ codes "--from=7" ∷ []) (with_value (codes "why") (codes "7") ∷ with_value (codes "from") (codes "7") ∷ []) (codes "--from=7" ∷ [], inl refl, ([], inl refl, refl))
    (record { known = refl; once = (refl, (refl, tt)) }) (no_look_beside (look_said_by (with_value (codes "why") (codes "7") ∷ with_value (codes "from") (codes "7") ∷ [])) (codes "7") refl refl)

pub returns-clause-zero : goal.returns-clause-zero
returns-clause-zero c =
    asks_no_look (codes "--why=0" ∷ []) (with_value (codes "why") (codes "0") ∷ []) ([], inl refl, refl) (record { known = refl; once = (refl, tt) })
    (no_look_at (look_said_by (with_value (codes "why") (codes "0") ∷ [])) (codes "0") refl (low_counts_not greatest_place places_fit (codes "0") (omega arith)))

pub returns-clause-leading_zero : goal.returns-clause-leading_zero
returns-clause-leading_zero c =
    asks_no_look (codes "--why=07" ∷ []) (with_value (codes "why") (codes "07") ∷ []) ([], inl refl, refl) (record { known = refl; once = (refl, tt) })
    (no_look_at (look_said_by (with_value (codes "why") (codes "07") ∷ [])) (codes "07") refl (low_counts_not greatest_place places_fit (codes "07") (omega arith)))

pub returns-clause-plus : goal.returns-clause-plus
returns-clause-plus c =
    asks_no_look (codes "--picture" ∷ codes "--to=+9" ∷ []) (alone (codes "picture") ∷ with_value (codes "to") (codes "+9") ∷ []) (codes "--to=+9" ∷ [], refl, ([], inl refl, refl)) (record { known = refl; once = (refl, (refl, tt)) })
    (no_look_to (look_said_by (alone (codes "picture") ∷ with_value (codes "to") (codes "+9") ∷ [])) refl (no_count_counts greatest_place (codes "+9") (low_counts_not greatest_place places_fit (codes "+9") (omega arith))))

-- faults at words that are written out

fault_missing : fault_of (command_of look_table) (codes "--why" ∷ []) ≡ kind.InvalidValue ∷ []
unfolding clap_on_literals
fault_missing = refl

fault_twice : fault_of (command_of look_table) (codes "--picture" ∷ codes "--picture" ∷ []) ≡ kind.ArgumentConflict ∷ []
unfolding clap_on_literals
fault_twice = refl

fault_untaken : fault_of (command_of look_table) (codes "--picture=9" ∷ []) ≡ kind.TooManyValues ∷ []
unfolding clap_on_literals
fault_untaken = refl

fault_other : fault_of (command_of look_table) (codes "--picture" ∷ codes "--replay" ∷ []) ≡ kind.UnknownArgument ∷ []
unfolding clap_on_literals
fault_other = refl

pub returns-clause-missing : goal.returns-clause-missing
returns-clause-missing c = faults_mean_no_look (codes "--why" ∷ []) kind.InvalidValue [] fault_missing

pub returns-clause-twice : goal.returns-clause-twice
returns-clause-twice c = faults_mean_no_look (codes "--picture" ∷ codes "--picture" ∷ []) kind.ArgumentConflict [] fault_twice

pub returns-clause-untaken : goal.returns-clause-untaken
returns-clause-untaken c = faults_mean_no_look (codes "--picture=9" ∷ []) kind.TooManyValues [] fault_untaken

pub returns-clause-other : goal.returns-clause-other
returns-clause-other c = faults_mean_no_look (codes "--picture" ∷ codes "--replay" ∷ []) kind.UnknownArgument [] fault_other
