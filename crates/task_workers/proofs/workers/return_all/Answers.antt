use Rattle.std.proofs.Common.{All, arith, map}
use Rattle.std.proofs.lemmas.Iterator.Adapters.{YieldsList-from_vec}
use Rattle.std.proofs.lemmas.Iterator.Consumers.{YieldsList-turn}
use Rattle.std.proofs.lemmas.List.{length_push}
use Rattle.std.specs.Prelude.{Vec}
use Rattle.std.specs.declared.alloc.Global.{Global}
use Rattle.task_workers.specs.Posts.{IsPostIn, names_at}
use Rattle.task_workers.proofs.Changing.{holds_more, holds_there, named_more}
use Rattle.task_workers.proofs.workers.return_all.Goals as goal

pub come_back-requires : goal.come_back-requires
come_back-requires g c =
    let road = YieldsList-from_vec {s = c.into_iter-post-iterator.result} c.args.posts.items (cc) (cc) in
    let place = YieldsList-turn road c.loop-post.yielded c.loop-post.post-iterator c.loop-post.yielded_by c.next.result c.next.new.self c.in-Some.post c.in-Some.is c.next.ensures.steps in
    holds_there (IsPostIn g.T.Task.stands c.args.hall.now) c.args.posts.items _ c.in-Some.post place.0 place.1 c.requires.posts

pub push_reserved-requires : goal.push_reserved-requires
push_reserved-requires g c =
    let road = YieldsList-from_vec {s = c.into_iter-post-iterator.result} c.args.posts.items (cc) (cc) in
    let place = YieldsList-turn road c.loop-post.yielded c.loop-post.post-iterator c.loop-post.yielded_by c.next.result c.next.new.self c.in-Some.post c.in-Some.is c.next.ensures.steps in
    omega (arith, place.0, c.args.posts.ok.0, c.loop-post.invariant.count, c.loop-post.invariant.places)

pub loop-post-preserved : goal.loop-post-preserved
loop-post-preserved g c =
    let loop = c.loop-post in
    let more = length_push loop.yielded c.in-Some.post in
    record {
      stand = holds_more (λ (load : Vec g.row.T.Denot Global). All (g.T.Task.stands c.args.hall.now) load.items) loop.returned.items c.push_reserved.new.self.items c.come_back.result c.push_reserved.ensures.items loop.invariant.stand c.come_back.ensures.stand;
      names = named_more (λ (load : Vec g.row.T.Denot Global). map g.T.Task.name load.items) (names_at g.T.Task.name) loop.returned.items c.push_reserved.new.self.items loop.yielded c.come_back.result c.in-Some.post c.push_reserved.ensures.items loop.invariant.names c.come_back.ensures.names;
      count = omega (arith, more, loop.invariant.count, c.push_reserved.ensures.len);
      places = omega (arith, loop.invariant.places, c.push_reserved.ensures.capacity);
    }
