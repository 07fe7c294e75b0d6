-- What stood at the front of a list stays there while it goes on.
use Rattle.std.proofs.Common.{◌≡◌, ◌∙◌, List, [], ◌++◌, Result, Ok, Err, sym, ap, append-nil, append_assoc}
use Rattle.std.specs.Prelude.{OnErr}
use Rattle.apl_arrays.specs.Front.{KeepsFront}

-- nothing is added
pub goes_same : {A : Type 0} (front list : List A) → list ≡ front → KeepsFront front list
goes_same front list same = record { more = []; whole = same ∙ sym (append-nil front) }

-- a text is added
pub goes_with : {A : Type 0} (front text list : List A) → list ≡ front ++ text → KeepsFront front list
goes_with front text list is = record { more = text; whole = is }

-- a text is added, and the list goes on behind it
pub goes_behind : {A : Type 0} (front text line list : List A) → line ≡ front ++ text → KeepsFront line list → KeepsFront front list
goes_behind front text line list is goes = record {
  more = text ++ goes.more;
  whole = goes.whole ∙ (ap (λ some. some ++ goes.more) is ∙ append_assoc front text goes.more);
}

-- so far as a call fails
pub failed : {A T E : Type 0} (result : Result T E) (front list : List A) → KeepsFront front list → OnErr result (KeepsFront front list)
failed (Ok x) front list goes = tt
failed (Err error) front list goes = goes

pub fails_same : {A T E : Type 0} (result : Result T E) (front list : List A) → OnErr result (list ≡ front) → OnErr result (KeepsFront front list)
fails_same (Ok x) front list same = tt
fails_same (Err error) front list same = goes_same front list same

pub fails_behind : {A T E : Type 0} (result : Result T E) (front text line list : List A) → line ≡ front ++ text → OnErr result (KeepsFront line list) → OnErr result (KeepsFront front list)
fails_behind (Ok x) front text line list is goes = tt
fails_behind (Err error) front text line list is goes = goes_behind front text line list is goes
