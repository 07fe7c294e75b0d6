use Rattle.std.proofs.Common.{◌≡◌, true, subst, ℕ, List}
use Rattle.std.specs.BTreeSet.{IsKeyRangeOf, contains}
use Rattle.std.specs.declared.ops.Bound.{Bound}
use Rattle.std.specs.declared.ops.Bound.TheVariants.{Unbounded}
use Rattle.sv_offers.proofs.KeyLemmas.{behind_start, found_above, found_lowest, found_there}
use Rattle.sv_offers.specs.Senders.{key_order, start_after}
use Rattle.sv_offers.proofs.senders.Senders.next.Goals as goal

pub returns-in_err-key-clause-lowest : goal.returns-in_err-key-clause-lowest
returns-in_err-key-clause-lowest c = λ from place above has.
    let to = c.args.to in
    let range = subst (λ (start : Bound (ℕ × ℕ × ℕ)). IsKeyRangeOf key_order start Unbounded c.args.self.now.sent c.range.result) c.start_after.ensures (c.range.ensures.in_range tt) in
    let none = range.5 c.in_err-key.ensures.steps.0 (to, from, place) (behind_start to c.args.last from place above, tt) in
    cc

pub returns-clause-above : goal.returns-clause-above
returns-clause-above c =
    let range = subst (λ (start : Bound (ℕ × ℕ × ℕ)). IsKeyRangeOf key_order start Unbounded c.args.self.now.sent c.range.result) c.start_after.ensures (c.range.ensures.in_range tt) in
    let first = subst (λ (keys : List (ℕ × ℕ × ℕ)). IsKeyRangeOf key_order (start_after c.args.to c.args.last) Unbounded c.args.self.now.sent keys) c.in_ok-key.ensures.steps range in
    found_above c.args.to c.args.last c.in_ok-key.key.now c.sender.result first.1.0.0 c.sender.ensures.fits c.sender.ensures.sender

pub returns-clause-made : goal.returns-clause-made
returns-clause-made c =
    let range = subst (λ (start : Bound (ℕ × ℕ × ℕ)). IsKeyRangeOf key_order start Unbounded c.args.self.now.sent c.range.result) c.start_after.ensures (c.range.ensures.in_range tt) in
    let first = subst (λ (keys : List (ℕ × ℕ × ℕ)). IsKeyRangeOf key_order (start_after c.args.to c.args.last) Unbounded c.args.self.now.sent keys) c.in_ok-key.ensures.steps range in
    found_there (λ key. contains key_order c.args.self.now.sent key ≡ true) c.args.to c.in_ok-key.key.now c.sender.result first.1.1 c.sender.ensures.sender

pub returns-clause-lowest : goal.returns-clause-lowest
returns-clause-lowest c = λ from place above has.
    let to = c.args.to in
    let range = subst (λ (start : Bound (ℕ × ℕ × ℕ)). IsKeyRangeOf key_order start Unbounded c.args.self.now.sent c.range.result) c.start_after.ensures (c.range.ensures.in_range tt) in
    let first = subst (λ (keys : List (ℕ × ℕ × ℕ)). IsKeyRangeOf key_order (start_after to c.args.last) Unbounded c.args.self.now.sent keys) c.in_ok-key.ensures.steps range in
    found_lowest to c.args.last c.in_ok-key.key.now c.sender.result from place first.1.0.0
    (first.2 (to, from, place) (behind_start to c.args.last from place above, tt) has) c.sender.ensures.sender
