-- Where a text of many parts ends.
use Rattle.std.proofs.Common.{◌≡◌, ℕ, Bool, true, false, ◌&&◌, List, [], ◌∷◌, ◌++◌, refl, sym, ap, ◌∙◌, append_assoc}
use Rattle.std.proofs.lemmas.Bool.{false≢true}
use Rattle.std.specs.List.{list_all, flat_map, AllByRecursion}
use Rattle.apl_arrays.specs.Run.{begins}

pub both : (a b : Bool) → (a && b) ≡ true → (a ≡ true) × (b ≡ true)
both true b e = (refl, e)
both false b e = absurd (false≢true e)

-- numbers that pass a test, up to one that does not, are read in one way
pub same_span : (p : ℕ → Bool) (xs ys rest left : List ℕ) → list_all p xs ≡ true → list_all p ys ≡ true → begins p rest ≡ false → begins p left ≡ false → xs ++ rest ≡ ys ++ left → (xs ≡ ys) × (rest ≡ left)
same_span p [] [] rest left a b stop halt e = (refl, e)
same_span p [] (y ∷ ys) rest left a b stop halt e =
    absurd (false≢true (sym stop ∙ (ap (begins p) e ∙ (both (p y) (list_all p ys) b).0)))
same_span p (x ∷ xs) [] rest left a b stop halt e =
    absurd (false≢true (sym halt ∙ (ap (begins p) (sym e) ∙ (both (p x) (list_all p xs) a).0)))
same_span p (x ∷ xs) (y ∷ ys) rest left a b stop halt e =
    let heads : x ≡ y = cc in
    let tails : xs ++ rest ≡ ys ++ left = cc in
    let same = same_span p xs ys rest left (both (p x) (list_all p xs) a).1 (both (p y) (list_all p ys) b).1 stop halt tails in
    (cc (heads, same.0), same.1)

-- what begins with numbers that pass
pub begins_span : (p : ℕ → Bool) (xs rest : List ℕ) → list_all p xs ≡ true → begins p rest ≡ true → begins p (xs ++ rest) ≡ true
begins_span p [] rest a e = e
begins_span p (x ∷ xs) rest a e = (both (p x) (list_all p xs) a).0

-- the texts of a list of things follow one another, and something else follows the last: read in one way
pub record Reads {A B : Type 0} (f : A → List B) (ok : A → Type 0) (stops follows : List B → Type 0) : Type 0 where
  pub unlike : (x : A) (rest left : List B) → ok x → stops left → f x ++ rest ≡ left → ⊥
  pub split : (x y : A) (rest left : List B) → ok x → ok y → follows rest → follows left → f x ++ rest ≡ f y ++ left → (x ≡ y) × (rest ≡ left)
  pub last : (rest : List B) → stops rest → follows rest
  pub next : (x : A) (rest : List B) → ok x → follows (f x ++ rest)

pub follows_all : {A B : Type 0} (f : A → List B) (ok : A → Type 0) (stops follows : List B → Type 0) → Reads f ok stops follows → (xs : List A) (rest : List B) → AllByRecursion ok xs → stops rest → follows (flat_map f xs ++ rest)
follows_all f ok stops follows reads [] rest a stop = reads.last rest stop
follows_all f ok stops follows reads (x ∷ xs) rest a stop =
    rw (append_assoc (f x) (flat_map f xs) rest) (reads.next x (flat_map f xs ++ rest) a.0)

pub same_list : {A B : Type 0} (f : A → List B) (ok : A → Type 0) (stops follows : List B → Type 0) → Reads f ok stops follows → (xs ys : List A) (rest left : List B) → AllByRecursion ok xs → AllByRecursion ok ys → stops rest → stops left → flat_map f xs ++ rest ≡ flat_map f ys ++ left → (xs ≡ ys) × (rest ≡ left)
same_list f ok stops follows reads [] [] rest left a b stop halt e = (refl, e)
same_list f ok stops follows reads [] (y ∷ ys) rest left a b stop halt e =
    absurd (reads.unlike y (flat_map f ys ++ left) rest b.0 stop (sym (append_assoc (f y) (flat_map f ys) left) ∙ sym e))
same_list f ok stops follows reads (x ∷ xs) [] rest left a b stop halt e =
    absurd (reads.unlike x (flat_map f xs ++ rest) left a.0 halt (sym (append_assoc (f x) (flat_map f xs) rest) ∙ e))
same_list f ok stops follows reads (x ∷ xs) (y ∷ ys) rest left a b stop halt e =
    let front = follows_all f ok stops follows reads xs rest a.1 stop in
    let other = follows_all f ok stops follows reads ys left b.1 halt in
    let heads = reads.split x y (flat_map f xs ++ rest) (flat_map f ys ++ left) a.0 b.0 front other (sym (append_assoc (f x) (flat_map f xs) rest) ∙ (e ∙ append_assoc (f y) (flat_map f ys) left)) in
    let tails = same_list f ok stops follows reads xs ys rest left a.1 b.1 stop halt heads.1 in
    (cc (heads.0, tails.0), tails.1)
