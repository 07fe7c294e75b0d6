use Rattle.std.proofs.Common.{map}
use Rattle.sv_events.specs.Entry.{plain_entry}
use Rattle.run_picture.proofs.Links.{few_links}
use Rattle.run_picture.proofs.link.links_of.Goals as goal

pub returns-clause-few : goal.returns-clause-few
returns-clause-few c = few_links c.args.lanes.now (map plain_entry c.args.entries.now) c.new-links.result.items c.add_link.new.links.items c.add_couplings.new.links.items c.offered.result c.as_slice.result.now c.new-links.ensures c.in_ok-add_link.ensures c.in_ok-add_couplings.ensures
