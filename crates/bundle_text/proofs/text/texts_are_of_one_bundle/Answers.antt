use Rattle.bundle_text.proofs.Reading.{one_bundle}
use Rattle.bundle_text.proofs.text.texts_are_of_one_bundle.Goals as goal

pub returns : goal.returns
returns c = one_bundle
