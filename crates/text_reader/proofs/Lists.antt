-- Reading a list one thing after another, as a loop does.
use Rattle.std.proofs.Common.{◌≡◌, ℕ, zero, suc, ◌-◌, ◌+◌, ◌≤◌, ◌<◌, Bool, true, false, cond, List, [], ◌∷◌, ◌++◌, Result, Ok, Err, refl, sym, ap, ◌∙◌, subst, append-nil, append_assoc, arith}
use Rattle.text_reader.specs.declared.unread.Unread.{Unread}
use Rattle.text_reader.specs.declared.unread.Unread.TheVariants.{Left, WantOfMemory}
use Rattle.text_reader.specs.Reading.{Reader, Reading, ◌>>=◌, Stops, read_list, read_behind, read_step}
use Rattle.text_reader.proofs.Told.{first_told, second_told, bind_ok}

regrouped : {A : Type 0} (front : List A) (x : A) (read : Reading (List A)) → read_behind front (read_behind (x ∷ []) read) ≡ read_behind (front ++ x ∷ []) read
regrouped front x (Ok found) = ap (λ list. Ok (list, found.1)) (sym (append_assoc front (x ∷ []) found.0))
regrouped front x (Err left) = refl

-- nothing was read before
pub begun : {A : Type 0} (read : Reading (List A)) → read_behind [] read ≡ read
begun (Ok found) = refl
begun (Err left) = refl

-- the list does not go on, however many may come
pub ended : {A : Type 0} (goes_on : List ℕ → Bool) (item : Reader A) (most : ℕ) (line : List ℕ) → goes_on line ≡ false → read_list goes_on item most line ≡ Ok ([], line)
unfolding read_list
ended goes_on item zero line never = refl
ended goes_on item (suc most) line never = rw never refl

-- one thing more
pub one_more : {A : Type 0} (goes_on : List ℕ → Bool) (item : Reader A) (front : List A) (count i : ℕ) (line : List ℕ) (x : A) (after : List ℕ) (total : Reading (List A)) → i < count → goes_on line ≡ true → item line ≡ Ok (x, after) → read_behind front (read_list goes_on item (count - i) line) ≡ total → read_behind (front ++ x ∷ []) (read_list goes_on item (count - (i + 1)) after) ≡ total
unfolding read_list
one_more goes_on item front count i line x after total lt going read so_far =
    let k : count - i ≡ suc (count - (i + 1)) = omega arith in
    let one : read_behind front (read_list goes_on item (count - i) line) ≡ read_behind (front ++ x ∷ []) (read_list goes_on item (count - (i + 1)) after) = rw (k, going, read) (regrouped front x (read_list goes_on item (count - (i + 1)) after)) in
    sym one ∙ so_far

-- the list has ended already
pub none_more : {A : Type 0} (goes_on : List ℕ → Bool) (item : Reader A) (front : List A) (count i : ℕ) (line : List ℕ) (total : Reading (List A)) → goes_on line ≡ false → read_behind front (read_list goes_on item (count - i) line) ≡ total → read_behind front (read_list goes_on item (count - (i + 1)) line) ≡ total
none_more goes_on item front count i line total never so_far =
    ap (read_behind front) (ended goes_on item (count - (i + 1)) line never ∙ sym (ended goes_on item (count - i) line never)) ∙ so_far

-- the reading stops at a thing
pub stops_at : {A : Type 0} (goes_on : List ℕ → Bool) (item : Reader A) (why : Unread) (front : List A) (count i : ℕ) (line : List ℕ) (total : Reading (List A)) → i < count → goes_on line ≡ true → Stops why (item line) → read_behind front (read_list goes_on item (count - i) line) ≡ total → Stops why total
unfolding read_list
stops_at goes_on item WantOfMemory front count i line total lt going stop so_far = tt
stops_at goes_on item (Left left) front count i line total lt going stop so_far =
    let k : count - i ≡ suc (count - (i + 1)) = omega arith in
    let one : read_behind front (read_list goes_on item (count - i) line) ≡ Err left = rw (k, going, stop) refl in
    sym so_far ∙ one

-- as many as were wanted
pub is_done : {A : Type 0} (goes_on : List ℕ → Bool) (item : Reader A) (front : List A) (count i : ℕ) (line : List ℕ) (total : Reading (List A)) → count ≤ i → read_behind front (read_list goes_on item (count - i) line) ≡ total → total ≡ Ok (front, line)
unfolding read_list
is_done goes_on item front count i line total le so_far =
    let k : count - i ≡ 0 = omega arith in
    let one : read_behind front (read_list goes_on item (count - i) line) ≡ Ok (front, line) = rw k (ap (λ list. Ok (list, line)) (append-nil front)) in
    sym so_far ∙ one

-- a thing behind others
abbrev pub added : {A : Type 0} → List A → A × List ℕ → Reading (List A)
added front found = Ok (front ++ found.0 ∷ [], found.1)

-- the list goes on as it is told, or has ended

step_by : {A : Type 0} (goes_on : List ℕ → Bool) (item : Reader A) (front more : List A) (count i : ℕ) (line after : List ℕ) (total : Reading (List A)) → i < count → (b : Bool) → goes_on line ≡ b → cond b (item line >>= added front) (Ok (front, line)) ≡ Ok (more, after) → read_behind front (read_list goes_on item (count - i) line) ≡ total → read_behind more (read_list goes_on item (count - (i + 1)) after) ≡ total
step_by goes_on item front more count i line after total lt true going read so_far =
    let first = bind_ok (item line) (added front) (more, after) read in
    let next = one_more goes_on item front count i line first.0.0 first.0.1 total lt going first.1 so_far in
    let longer : front ++ first.0.0 ∷ [] ≡ more = first_told (front ++ first.0.0 ∷ []) first.0.1 more after first.2 in
    let rest : first.0.1 ≡ after = second_told (front ++ first.0.0 ∷ []) first.0.1 more after first.2 in
    subst (λ list. read_behind list (read_list goes_on item (count - (i + 1)) after) ≡ total) longer (subst (λ left. read_behind (front ++ first.0.0 ∷ []) (read_list goes_on item (count - (i + 1)) left) ≡ total) rest next)
step_by goes_on item front more count i line after total lt false never read so_far =
    let same : front ≡ more = first_told front line more after read in
    let rest : line ≡ after = second_told front line more after read in
    subst (λ list. read_behind list (read_list goes_on item (count - (i + 1)) after) ≡ total) same (subst (λ left. read_behind front (read_list goes_on item (count - (i + 1)) left) ≡ total) rest (none_more goes_on item front count i line total never so_far))

pub step_more : {A : Type 0} (goes_on : List ℕ → Bool) (item : Reader A) (front more : List A) (count i : ℕ) (line after : List ℕ) (total : Reading (List A)) → i < count → read_step goes_on item front line ≡ Ok (more, after) → read_behind front (read_list goes_on item (count - i) line) ≡ total → read_behind more (read_list goes_on item (count - (i + 1)) after) ≡ total
step_more goes_on item front more count i line after total lt read so_far =
    step_by goes_on item front more count i line after total lt (goes_on line) refl read so_far

bind_err : {A : Type 0} (read : Reading A) (front : List A) (left : ℕ) → (read >>= added front) ≡ Err left → read ≡ Err left
bind_err (Ok found) front left e = absurd (let none : ⊥ = cc in none)
bind_err (Err gone) front left e = ap (λ n. Err n) (let same : gone ≡ left = cc in same)

stops_by : {A : Type 0} (goes_on : List ℕ → Bool) (item : Reader A) (left : ℕ) (front : List A) (line : List ℕ) (b : Bool) → goes_on line ≡ b → cond b (item line >>= added front) (Ok (front, line)) ≡ Err left → (goes_on line ≡ true) × (item line ≡ Err left)
stops_by goes_on item left front line true going e = (going, bind_err (item line) front left e)
stops_by goes_on item left front line false never e = absurd (let none : ⊥ = cc in none)

pub step_stops : {A : Type 0} (goes_on : List ℕ → Bool) (item : Reader A) (why : Unread) (front : List A) (count i : ℕ) (line : List ℕ) (total : Reading (List A)) → i < count → Stops why (read_step goes_on item front line) → read_behind front (read_list goes_on item (count - i) line) ≡ total → Stops why total
step_stops goes_on item WantOfMemory front count i line total lt stop so_far = tt
step_stops goes_on item (Left left) front count i line total lt stop so_far =
    let at = stops_by goes_on item left front line (goes_on line) refl stop in
    stops_at goes_on item (Left left) front count i line total lt at.0 at.1 so_far
