use Rattle.sv_offer_laws.proofs.EndingLemmas.{endings_make_next_pairs, endings_leave_none_open, leaves_reopen_few, retractions_reopen_one, endings_reopen_one_of_a_pair}
use Rattle.sv_offer_laws.proofs.laws.ending_law.Goals as goal

pub returns-clause-next : goal.returns-clause-next
returns-clause-next c = endings_make_next_pairs

pub returns-clause-none_open : goal.returns-clause-none_open
returns-clause-none_open c = endings_leave_none_open

pub returns-clause-few : goal.returns-clause-few
returns-clause-few c = leaves_reopen_few

pub returns-clause-one : goal.returns-clause-one
returns-clause-one c = retractions_reopen_one

pub returns-clause-one_of_a_pair : goal.returns-clause-one_of_a_pair
returns-clause-one_of_a_pair c = endings_reopen_one_of_a_pair
