-- Lists that go on behind another.
use Rattle.std.specs.Prelude.{◌≡◌, List, ◌++◌}

-- this stands at the front of a list, with or without more behind it
pub record KeepsFront {A : Type 0} (front list : List A) : Type 0 where
  pub more : List A
  pub whole : list ≡ front ++ more
