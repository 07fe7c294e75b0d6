-- What a source keeps of what it gave.
use Rattle.std.specs.Prelude.{◌≡◌, ℕ, List, ◌++◌, take, Option, Result, IfSome, IsSomeAnd, MatchResult}
use Rattle.apl_io.specs.declared.failed.Failed.{Failed}

-- bytes that were given stand behind those that were kept, unless nothing is kept any more; a call that failed changes nothing
abbrev pub KeepsRead : Option (List ℕ) → Result ℕ Failed → List ℕ → Option (List ℕ) → Type 0
KeepsRead before answer given now =
    MatchResult answer (λ count. IfSome now (λ bytes. IsSomeAnd before (λ old. bytes ≡ old ++ take count given))) (λ _. now ≡ before)
