use Rattle.std.proofs.Common.{◌≡◌, ◌+◌, ◌∷◌, ◌++◌, ℕ, List, [], get_or, length, sym, ap, ◌∙◌, arith, rules, w64, to_z}
use Rattle.std.specs.Prelude.{ℤ, pos, unsigned_abs}
use Rattle.std.proofs.lemmas.Int.{to_z-of_z}
use Rattle.std.proofs.lemmas.List.{length_push}
use Rattle.apl_items.specs.Extension.{number_at}
use Rattle.apl_meaning.specs.Deeds as plain
use Rattle.apl_values.specs.Rows.{plain_naming}
use Rattle.apl_values.proofs.MadeRows.{made_more, number_lone, number_own}
use Rattle.apl_acts.proofs.sharing.offers.Goals as goal
use Rattle.apl_acts.proofs.sharing.offers.Goals.{then-parties-eq1, else-parties-eq1}

pub loop-names-preserved : goal.loop-names-preserved
loop-names-preserved c =
    let parties : List ℤ = c.args.parties.now in
    let place : ℕ = length c.loop-names.yielded in
    let party : to_z w64 c.if-parties-eq1.party-bits ≡ number_at parties place = elim c.if-parties-eq1.branch [
      | then-parties-eq1 w ↦ w.party-is ∙ to_z-of_z w64 (get_or parties 0 (pos 0)) (search rules) ∙ sym (number_lone parties place w.if-parties-eq1.true)
      | else-parties-eq1 w ↦ w.party-is ∙ to_z-of_z w64 (get_or parties c.loop-names.at (pos 0)) (search rules) ∙ ap (λ (k : ℕ). get_or parties k (pos 0)) c.loop-names.invariant.at ∙ sym (number_own parties place w.if-parties-eq1.false)
    ] in
    record {
      at = (let more = length_push c.loop-names.yielded c.in-Some.names in let here = c.loop-names.invariant.at in let same : c.loop-names.at + 1 ≡ length (c.loop-names.yielded ++ c.in-Some.names ∷ []) = omega (arith, more, here) in same);
      rows = made_more (λ row. plain.offer (unsigned_abs (number_at parties row))) c.loop-names.yielded c.in-Some.names c.loop-names.rows.items c.push.new.self.items _ c.loop-names.invariant.rows c.in_ok-push.ensures.items
          (ap (λ (to : ℕ). (plain_naming c.in-Some.names, plain.offer to)) (c.unsigned_abs.ensures.value ∙ ap unsigned_abs party));
    }
