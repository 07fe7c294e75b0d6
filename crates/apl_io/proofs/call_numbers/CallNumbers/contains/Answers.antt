use Rattle.apl_io.proofs.Ascending.{is_ok_search}
use Rattle.apl_io.proofs.call_numbers.CallNumbers.contains.Goals as goal

pub returns : goal.returns
returns c =
    let numbers = c.as_slice.result.now in
    rw (c.is_ok.ensures.value, ← c.as_slice.ensures.items) (is_ok_search numbers c.args.number c.binary_search.result c.as_slice.ensures.ascending c.binary_search.ensures.position)
