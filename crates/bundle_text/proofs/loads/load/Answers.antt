use Rattle.std.proofs.Common.{rules, ◌≡◌, ◌<◌, ◌^◌, ◌∙◌, ℕ, List, subst, sym, arith}
use Rattle.bundle_text.specs.Bundle.{BundleText}
use Rattle.bundle_text.specs.declared.refused.BundleRefused.TheVariants as refused
use Rattle.bundle_text.specs.declared.refused.BundleRule.{BundleRule}
use Rattle.bundle_text.proofs.LoadTexts.{load_is_text, load_of}
use Rattle.bundle_text.proofs.loads.load.Goals as goal

malformed_is_no_want : (offset : ℕ) (rule : BundleRule) → refused.Malformed offset rule ≡ refused.WantOfMemory → ⊥
malformed_is_no_want offset rule e = cc

pub unreachable-requires : goal.unreachable-requires
unreachable-requires c =
    let fits : c.args.n < 2 ^ 64 = omega (arith, c.requires.few) in
    let said = subst (λ (bytes : List ℕ). BundleText bytes (load_of c.args.n)) (sym (c.as_bytes.ensures.value ∙ c.in_ok-text.ensures)) (load_is_text c.args.n fits) in
    malformed_is_no_want c.in-Err-Malformed.field-0-0 c.in-Err-Malformed.field-0-1 (sym c.in-Err-Malformed.field-0-is ∙ c.in-Err-Malformed.ensures.only (load_of c.args.n) said)
