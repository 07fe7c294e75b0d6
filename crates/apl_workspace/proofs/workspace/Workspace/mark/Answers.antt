use Rattle.std.proofs.Common.{refl, reverse}
use Rattle.apl_workspace.specs.declared.meaning.Meaning.TheVariants.{Shared}
use Rattle.apl_workspace.proofs.Giving.{with_frames}
use Rattle.apl_workspace.proofs.Inside.{marked_inside, put_inside}
use Rattle.apl_workspace.proofs.workspace.Workspace.mark.Goals as goal

pub invariant_of-self : goal.invariant_of-self
invariant_of-self c =
    put_inside c.put.result (with_frames c.self.inside.globals c.self.inside.offers.items c.self.inside.printed (reverse c.self.inside.frames.items)) c.put.new.self c.args.name.now (Shared c.args.value) c.self.inside.frames_weight c.self.invariant
    tt (λ shared. refl) c.put.ensures.ok c.put.ensures.err c.put.ensures.fits

pub invariant_of-self-2 : goal.invariant_of-self-2
invariant_of-self-2 c =
    marked_inside (with_frames c.self.inside.globals c.self.inside.offers.items c.self.inside.printed (reverse c.self.inside.frames.items)) c.args.self.now c.put-2.new.self c.reserve_one.new.list.items c.push_reserved.new.self.items
    (record { local = c.args.name.now; surrogate = c.args.surrogate; to = c.args.to }) c.args.value c.self.inside.frames_weight c.takes_offer.result c.self.invariant c.self.view_is c.takes_offer.ensures c.if-not-takes_offer.false c.requires.addressee
    c.in_ok-put.ensures.ok c.in_ok-put.ensures.fits c.reserve_one.ensures.items c.push_reserved.ensures.items
