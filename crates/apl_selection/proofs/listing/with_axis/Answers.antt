use Rattle.apl_selection.proofs.ListingLemmas.{set_between}
use Rattle.apl_selection.proofs.listing.with_axis.Goals as goal

pub returns : goal.returns
returns c =
    let grown = rw c.unwrap.ensures at c.try_extend_from_slice.ensures.ok in
    set_between c.args.shape.now c.joined_shape-axes.result.items c.try_extend_from_slice.new.self.items c.args.axis c.args.long c.requires.axis c.joined_shape-axes.ensures grown
