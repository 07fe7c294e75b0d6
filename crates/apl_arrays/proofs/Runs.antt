-- The longest run at the front that passes a test.
use Rattle.std.proofs.Common.{◌≡◌, ℕ, suc, ◌+◌, ◌≤◌, Bool, true, false, List, [], ◌∷◌, ◌++◌, length, take, drop, refl, sym, arith}
use Rattle.std.specs.List.{prefix_len, list_all}
use Rattle.std.proofs.Math.Seq.{take-append_seam, drop-append_seam}
use Rattle.std.proofs.lemmas.Bool.{and_parts}
use Rattle.std.proofs.lemmas.List.{take-append-drop}
use Rattle.std.proofs.lemmas.List.Sums.{prefix_len-le-length}
use Rattle.apl_arrays.specs.Run.{begins}

all_by : (p : ℕ → Bool) (x : ℕ) (xs : List ℕ) (b : Bool) → p x ≡ b → list_all p (take (prefix_len p xs) xs) ≡ true → list_all p (take (prefix_len p (x ∷ xs)) (x ∷ xs)) ≡ true
all_by p x xs true e h = let k : 1 + prefix_len p xs ≡ suc (prefix_len p xs) = omega arith in rw (e, k, e) h
all_by p x xs false e h = rw e refl

-- a run passes
pub run_passes : (p : ℕ → Bool) (xs : List ℕ) → list_all p (take (prefix_len p xs) xs) ≡ true
run_passes p [] = refl
run_passes p (x ∷ xs) = all_by p x xs (p x) refl (run_passes p xs)

stops_by : (p : ℕ → Bool) (x : ℕ) (xs : List ℕ) (b : Bool) → p x ≡ b → begins p (drop (prefix_len p xs) xs) ≡ false → begins p (drop (prefix_len p (x ∷ xs)) (x ∷ xs)) ≡ false
stops_by p x xs true e h = let k : 1 + prefix_len p xs ≡ suc (prefix_len p xs) = omega arith in rw (e, k) h
stops_by p x xs false e h = rw (e, e) refl

-- behind a run nothing passes
pub run_stops : (p : ℕ → Bool) (xs : List ℕ) → begins p (drop (prefix_len p xs) xs) ≡ false
run_stops p [] = refl
run_stops p (x ∷ xs) = stops_by p x xs (p x) refl (run_stops p xs)

-- a run and what is behind it
pub run_splits : (p : ℕ → Bool) (xs : List ℕ) → xs ≡ take (prefix_len p xs) xs ++ drop (prefix_len p xs) xs
run_splits p xs = sym (take-append-drop (prefix_len p xs) xs)

-- what passes, and nothing more behind it, is the run
pub run_is : (p : ℕ → Bool) (xs ys : List ℕ) → list_all p xs ≡ true → begins p ys ≡ false → prefix_len p (xs ++ ys) ≡ length xs
run_is p [] [] all stop = refl
run_is p [] (y ∷ ys) all stop = rw stop refl
run_is p (x ∷ xs) ys all stop =
    let parts = and_parts (p x) (list_all p xs) all in
    let rest = run_is p xs ys parts.1 stop in
    rw (parts.0, rest) (omega arith)

pub take_run : (p : ℕ → Bool) (xs ys : List ℕ) → list_all p xs ≡ true → begins p ys ≡ false → take (prefix_len p (xs ++ ys)) (xs ++ ys) ≡ xs
take_run p xs ys all stop = rw (run_is p xs ys all stop) (take-append_seam xs ys)

pub drop_run : (p : ℕ → Bool) (xs ys : List ℕ) → list_all p xs ≡ true → begins p ys ≡ false → drop (prefix_len p (xs ++ ys)) (xs ++ ys) ≡ ys
drop_run p xs ys all stop = rw (run_is p xs ys all stop) (drop-append_seam xs ys)

-- the first glyph of two lists
pub begins_both : (p : ℕ → Bool) (xs ys : List ℕ) → begins p xs ≡ false → begins p ys ≡ false → begins p (xs ++ ys) ≡ false
begins_both p [] ys first second = second
begins_both p (x ∷ xs) ys first second = first

pub begins_front : (p : ℕ → Bool) (xs ys : List ℕ) → begins p (xs ++ ys) ≡ false → begins p xs ≡ false
begins_front p [] ys e = refl
begins_front p (x ∷ xs) ys e = e

-- a run is no longer than the list
pub run_fits : (p : ℕ → Bool) (xs : List ℕ) → prefix_len p xs ≤ length xs
run_fits p xs = prefix_len-le-length p xs
