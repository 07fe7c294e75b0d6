-- What sources and sinks in memory do.
use Rattle.std.specs.Prelude.{ℕ, ◌-◌, List, [], ◌++◌, take, drop}
use Rattle.apl_io.specs.Faults.{one_more}

-- a source in memory: the bytes left, how many of them a call gives at most, the calls so far, the numbers of the
-- calls that are to fail, and the faults so far
pub record Supply : Type 0 where
  pub left : List ℕ
  pub piece : ℕ
  pub calls : ℕ
  pub fails : List ℕ
  pub faults : ℕ

-- before the first call
abbrev pub new_supply : List ℕ → ℕ → List ℕ → Supply
new_supply bytes piece fails = record { left = bytes; piece = piece; calls = 0; fails = fails; faults = 0 }

-- after a call that gave so many bytes
abbrev pub after_read : ℕ → Supply → Supply
after_read count supply = record supply { left = drop count supply.left; calls = one_more supply.calls }

-- after a call that failed
abbrev pub after_failed_read : Supply → Supply
after_failed_read supply = record supply { calls = one_more supply.calls; faults = one_more supply.faults }

-- a sink in memory: the bytes held, how many more it can hold, how many a call takes at most, the calls so far, the
-- numbers of the calls that are to fail, and the faults so far
pub record Store : Type 0 where
  pub held : List ℕ
  pub room : ℕ
  pub piece : ℕ
  pub calls : ℕ
  pub fails : List ℕ
  pub faults : ℕ

-- before the first call
abbrev pub new_store : ℕ → ℕ → List ℕ → Store
new_store room piece fails = record { held = []; room = room; piece = piece; calls = 0; fails = fails; faults = 0 }

-- after a call that took so many of these bytes
abbrev pub after_write : ℕ → List ℕ → Store → Store
after_write count bytes store = record store { held = store.held ++ take count bytes; room = store.room - count; calls = one_more store.calls }

-- after a call that failed
abbrev pub after_failed_write : Store → Store
after_failed_write store = record store { calls = one_more store.calls; faults = one_more store.faults }
