-- What answers behind the auxiliaries goes on through turns.
use Rattle.std.proofs.Common.{◌≡◌, ℕ, sym, subst}
use Rattle.apl_arrays.specs.Array.{PlainArray}
use Rattle.party_turns.specs.Serving.{CameBehind, ComesOn}
use Rattle.aplsv_replay.specs.Together.{BothComeOn}
use Rattle.aplsv_replay.specs.declared.parties.Parties.{Parties}
use Rattle.party_turns.specs.declared.auxiliary.Auxiliary.{Auxiliary}

module _ {X Y K : Type 0} (forgets_ten : X → ℕ → X → Type 0) (replies_ten : X → ℕ → PlainArray → PlainArray → X → Type 0) (wants_ten : X → ℕ → PlainArray → X → Type 0)
    (forgets_twenty : Y → ℕ → Y → Type 0) (replies_twenty : Y → ℕ → PlainArray → PlainArray → Y → Type 0) (wants_twenty : Y → ℕ → PlainArray → Y → Type 0) where
  -- where nothing of them changed
  pub both_stay : (before after : Parties X Y K) → after.ten ≡ before.ten → after.twenty ≡ before.twenty → BothComeOn forgets_ten replies_ten wants_ten forgets_twenty replies_twenty wants_twenty before after
  both_stay before after ten twenty = record {
    ten = λ start came. subst (λ (a : Auxiliary X). CameBehind forgets_ten replies_ten wants_ten start a) (sym ten) came;
    twenty = λ start came. subst (λ (a : Auxiliary Y). CameBehind forgets_twenty replies_twenty wants_twenty start a) (sym twenty) came;
  }

  -- one thing after another
  pub both_then : (before middle after : Parties X Y K) → BothComeOn forgets_ten replies_ten wants_ten forgets_twenty replies_twenty wants_twenty before middle
      → BothComeOn forgets_ten replies_ten wants_ten forgets_twenty replies_twenty wants_twenty middle after → BothComeOn forgets_ten replies_ten wants_ten forgets_twenty replies_twenty wants_twenty before after
  both_then before middle after first next = record {
    ten = λ start came. next.ten start (first.ten start came);
    twenty = λ start came. next.twenty start (first.twenty start came);
  }
