-- Where the tasks of workers are.
use Rattle.std.specs.Prelude.{◌≡◌, List, All, Vec, map}
use Rattle.std.specs.declared.alloc.Global.{Global}
use Rattle.task_workers.specs.declared.post.Keeps.{Keeps}
use Rattle.task_workers.specs.declared.post.Post.{Post}
use Rattle.task_workers.specs.declared.post.Post.TheVariants.{Away, Here}

module _ {H T N : Type 0} (name : T → N) (stands : H → T → Type 0) where
  -- the tasks of a worker came back: each stands, and they are those that it was given, in their order
  pub record CameBack (hall : H) (given back : List T) : Type 0 where
    pub names : map name back ≡ map name given
    pub stand : All (stands hall) back

  -- what a worker promises
  abbrev pub KeepsTasks : Keeps H T → Vec T Global → Type 0
  KeepsTasks promise back = CameBack promise.hall.value promise.tasks.value.items back.items

module _ {H T N : Type 0} (name : T → N) where
  -- the names of the tasks of a post
  abbrev pub names_at : Post H T N → List N
  names_at (Here load) = map name load.items
  names_at (Away handle) = map name handle.promise.tasks.value.items

module _ {H T N : Type 0} (stands : H → T → Type 0) where
  -- the tasks that are here stand, and a thread that has its own works in this hall
  abbrev pub IsPostIn : H → Post H T N → Type 0
  IsPostIn hall (Here load) = All (stands hall) load.items
  IsPostIn hall (Away handle) = handle.promise.hall.value ≡ hall
