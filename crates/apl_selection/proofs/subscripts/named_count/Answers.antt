use Rattle.std.proofs.Common.{sym}
use Rattle.apl_arrays.specs.Array.{seen_items}
use Rattle.apl_selection.proofs.SubscriptLemmas.{all_named, as_many_numbers, numbers_named, whole_axis}
use Rattle.apl_selection.proofs.subscripts.named_count.Goals as goal

pub returns-in-None : goal.returns-in-None
returns-in-None c = record { value = rw c.in-None.is (sym (all_named c.args.axis)); whole = rw c.in-None.is (λ kind. whole_axis c.args.axis) }

pub returns-in-Some : goal.returns-in-Some
returns-in-Some c = record {
  value = rw c.in-Some.is (numbers_named c.args.axis c.in-Some.array.now (seen_items c.items.result) c.count_of_numbers.result c.items.ensures.value c.count_of_numbers.ensures);
  whole = rw c.in-Some.is (λ kind. as_many_numbers c.in-Some.array.now (seen_items c.items.result) c.count_of_numbers.result c.items.ensures.array c.items.ensures.value c.count_of_numbers.ensures kind);
}
