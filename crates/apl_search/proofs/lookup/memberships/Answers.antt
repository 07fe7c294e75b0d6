use Rattle.std.proofs.Common.{ℕ, ℤ, List, map, pos, ap, ◌∙◌}
use Rattle.std.specs.Prelude.{int_le}
use Rattle.apl_arrays.specs.Array.{item_count, seen_items}
use Rattle.apl_scalar.specs.Table.{truth}
use Rattle.apl_search.proofs.MemberLemmas.{places_tell}
use Rattle.apl_search.proofs.lookup.memberships.Goals as goal

pub returns : goal.returns
returns c =
    c.flags_of.ensures ∙ ap (λ (n : ℕ). map (λ place. truth (int_le place (pos n))) c.in_ok-places.places.items) c.len-count.ensures
    ∙ ap (λ (xs : List ℤ). map (λ place. truth (int_le place (pos (item_count (seen_items c.args.b))))) xs) c.in_ok-places.ensures
    ∙ places_tell (seen_items c.args.a) (seen_items c.args.b)
