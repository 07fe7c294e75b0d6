use Rattle.run_reasons.proofs.UnplacedLemmas as unplaced_lemmas
use Rattle.run_reasons.proofs.laws.what_is_named_is_what_the_rules_ask.Goals as goal

pub returns-clause-grounds : goal.returns-clause-grounds
returns-clause-grounds c = unplaced_lemmas.grounds

pub returns-clause-known : goal.returns-clause-known
returns-clause-known c = unplaced_lemmas.known-unplaced
