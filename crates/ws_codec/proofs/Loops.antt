-- Steps that are repeated, as a loop makes them.
use Rattle.std.proofs.Common.{◌≡◌, ℕ, suc, ◌-◌, ◌+◌, ◌≤◌, ◌<◌, List, Ok, Err, refl, sym, ◌∙◌, arith}
use Rattle.ws_codec.specs.declared.unread.Unread.{Unread}
use Rattle.ws_codec.specs.declared.unread.Unread.TheVariants.{Flawed, WantOfMemory}
use Rattle.ws_codec.specs.Reading.{Reader, Reading, Stops, repeated}

-- one step more
pub one_more : {S : Type 0} (step : S → Reader S) (count i : ℕ) (made next : S) (rest after : List ℕ) (total : Reading S) → i < count → step made rest ≡ Ok (next, after) → repeated step (count - i) made rest ≡ total → repeated step (count - (i + 1)) next after ≡ total
unfolding repeated
one_more step count i made next rest after total lt read so_far =
    let k : count - i ≡ suc (count - (i + 1)) = omega arith in
    let one : repeated step (count - i) made rest ≡ repeated step (count - (i + 1)) next after = rw (k, read) refl in
    sym one ∙ so_far

-- a step stops the reading
pub stops_at : {S : Type 0} (step : S → Reader S) (why : Unread) (count i : ℕ) (made : S) (rest : List ℕ) (total : Reading S) → i < count → Stops why (step made rest) → repeated step (count - i) made rest ≡ total → Stops why total
unfolding repeated
stops_at step WantOfMemory count i made rest total lt stop so_far = tt
stops_at step (Flawed flaw) count i made rest total lt stop so_far =
    let k : count - i ≡ suc (count - (i + 1)) = omega arith in
    let one : repeated step (count - i) made rest ≡ Err flaw = rw (k, stop) refl in
    sym so_far ∙ one

-- as many steps as were wanted
pub is_done : {S : Type 0} (step : S → Reader S) (count i : ℕ) (made : S) (rest : List ℕ) (total : Reading S) → count ≤ i → repeated step (count - i) made rest ≡ total → total ≡ Ok (made, rest)
unfolding repeated
is_done step count i made rest total le so_far =
    let k : count - i ≡ 0 = omega arith in
    let one : repeated step (count - i) made rest ≡ Ok (made, rest) = rw k refl in
    sym so_far ∙ one
