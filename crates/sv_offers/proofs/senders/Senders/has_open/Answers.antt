use Rattle.std.proofs.Common.{◌≡◌, ◌∙◌, sym, ap, ℕ, Bool, rules, tests}
use Rattle.std.specs.List.{list_any}
use Rattle.std.proofs.lemmas.Iterator.Consumers.{YieldsList-from_rest}
use Rattle.std.proofs.lemmas.Iterator.Search.{any_from_yields_List}
use Rattle.std.proofs.lemmas.Bool.{OnFalse_from, OnTrue_from}
use Rattle.sv_offers.proofs.KeyLemmas.{is_open_key, no_open_key, some_open_key}
use Rattle.sv_offers.proofs.senders.Senders.has_open.Goals as goal

pub returns-clause-some : goal.returns-clause-some
returns-clause-some c =
    let open' : (ℕ × ℕ × ℕ) → Bool = is_open_key c.args.coupled.now.items in
    let listed : c.any.result ≡ list_any open' c.range.result =
    any_from_yields_List open' _ _ c.any.result c.any.ensures.ran (YieldsList-from_rest c.range.result cc) (λ x b q k. search (rules, tests)) in
    OnTrue_from c.any.result _ (λ some.
    some_open_key c.args.self.now.sent.keys c.args.to c.args.from c.args.coupled.now.items (ap (list_any open') (sym (c.range.ensures.between tt)) ∙ sym listed ∙ some))

pub returns-clause-none : goal.returns-clause-none
returns-clause-none c =
    let open' : (ℕ × ℕ × ℕ) → Bool = is_open_key c.args.coupled.now.items in
    let listed : c.any.result ≡ list_any open' c.range.result =
    any_from_yields_List open' _ _ c.any.result c.any.ensures.ran (YieldsList-from_rest c.range.result cc) (λ x b q k. search (rules, tests)) in
    OnFalse_from c.any.result _ (λ none.
    no_open_key c.args.self.now.sent.keys c.args.to c.args.from c.args.coupled.now.items (ap (list_any open') (sym (c.range.ensures.between tt)) ∙ sym listed ∙ none))
