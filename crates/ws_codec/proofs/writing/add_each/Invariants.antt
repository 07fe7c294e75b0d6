use Rattle.std.proofs.Common.{◌≡◌, ◌++◌, take}
use Rattle.std.specs.List.{flat_map}
use Rattle.ws_codec.specs.SavedText.{offer_bytes}
use Rattle.ws_codec.proofs.writing.add_each.Given as goal

abbrev pub invariant-loop-offer : goal.invariant-loop-offer
invariant-loop-offer l = l.bytes.items ≡ l.fn.bytes.items ++ flat_map offer_bytes (take l.offer-index l.offers)
