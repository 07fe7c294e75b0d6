-- What a call finds is the one verdict.
use Rattle.std.proofs.Common.{◌≡◌, ◌↔◌, List, ℕ, Result, Ok, Err, subst}
use Rattle.std.specs.Prelude.{IfOk}
use Rattle.bundle_text.specs.Rules.{IsBundle, PlainBundle}
use Rattle.check_rules.specs.Verdict.{IsLegalOutput, IsVerdict}
use Rattle.check_rules.specs.declared.verdict.Verdict.{Verdict}
use Rattle.check_rules.specs.declared.verdict.Verdict.TheVariants.{Yes}
use Rattle.check_rules.proofs.OneVerdict.{one_verdict}

module _ {E : Type 0} (bundle : PlainBundle) (text : List ℕ) (rules : IsBundle bundle) where
  pub yes_found : (found : Result Verdict E) → IfOk found (λ verdict. IsVerdict bundle text verdict) → IfOk found (λ verdict. (verdict ≡ Yes) ↔ IsLegalOutput bundle text)
  yes_found (Err why) is = tt
  yes_found (Ok verdict) is = ((λ same. subst (λ (v : Verdict). IsVerdict bundle text v) same is), (λ legal. one_verdict bundle text rules verdict Yes is legal))

  pub only_found : (found : Result Verdict E) → IfOk found (λ verdict. IsVerdict bundle text verdict) → (verdict : Verdict) → IsVerdict bundle text verdict → IfOk found (λ one. one ≡ verdict)
  only_found (Err why) is verdict also = tt
  only_found (Ok one) is verdict also = one_verdict bundle text rules one verdict is also
