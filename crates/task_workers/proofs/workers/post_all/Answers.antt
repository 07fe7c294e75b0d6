use Rattle.std.proofs.Common.{arith, map}
use Rattle.std.proofs.lemmas.Iterator.Adapters.{YieldsList-from_vec}
use Rattle.std.proofs.lemmas.Iterator.Consumers.{YieldsList-turn}
use Rattle.std.proofs.lemmas.List.{length_push}
use Rattle.std.specs.Prelude.{Vec}
use Rattle.std.specs.declared.alloc.Global.{Global}
use Rattle.task_workers.specs.Posts.{IsPostIn, names_at}
use Rattle.task_workers.proofs.Changing.{holds_more, named_more}
use Rattle.task_workers.proofs.workers.post_all.Goals as goal

pub push_reserved-requires : goal.push_reserved-requires
push_reserved-requires g c =
    let road = YieldsList-from_vec {s = c.into_iter-load-iterator.result} c.args.loads.items (cc) (cc) in
    let place = YieldsList-turn road c.loop-load.yielded c.loop-load.load-iterator c.loop-load.yielded_by c.next.result c.next.new.self c.in-Some.load c.in-Some.is c.next.ensures.steps in
    omega (arith, place.0, c.args.loads.ok.0, c.loop-load.invariant.count, c.loop-load.invariant.places)

pub loop-load-preserved : goal.loop-load-preserved
loop-load-preserved g c =
    let loop = c.loop-load in
    let more = length_push loop.yielded c.in-Some.load in
    record {
      posts = holds_more (IsPostIn g.T.Task.stands c.args.hall.now) loop.posts.items c.push_reserved.new.self.items c.post_for.result c.push_reserved.ensures.items loop.invariant.posts c.post_for.ensures.post;
      names = named_more (names_at g.T.Task.name) (λ (load : Vec g.row.T.Denot Global). map g.T.Task.name load.items) loop.posts.items c.push_reserved.new.self.items loop.yielded c.post_for.result c.in-Some.load c.push_reserved.ensures.items loop.invariant.names c.post_for.ensures.names;
      count = omega (arith, more, loop.invariant.count, c.push_reserved.ensures.len);
      places = omega (arith, loop.invariant.places, c.push_reserved.ensures.capacity);
    }
