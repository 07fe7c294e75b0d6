-- The nodes of an expression, one after another, give what the expression gives.
use Rattle.std.proofs.Common.{◌≡◌, ℕ, List, [], ◌∷◌, ◌++◌, refl, sym, ap, ◌∙◌, append_assoc, append-nil}
use Rattle.std.specs.Prelude.{Option, Some, None}
use Rattle.std.specs.List.{filter_map}
use Rattle.apl_arrays.specs.Array.{PlainArray}
use Rattle.apl_arrays.specs.declared.report.Report.TheVariants.{Value}
use Rattle.apl_selection.specs.Indexing.{selection_of}
use Rattle.line_trees.specs.declared.tree.Fun.{Fun}
use Rattle.line_trees.specs.Nodes as node
use Rattle.line_trees.specs.Nodes.{PlainNode}
use Rattle.line_trees.specs.Trees.{Expr, constant, value, niladic, paren, indexed, monadic, monadic_along, dyadic, dyadic_along, assign, assign_at, Subscripts, no_more, omitted, given, Placed, PlacedList, list_with, with_node, placed, placed_subscripts}
use Rattle.apl_meaning.specs.State.{State, Outcome, gives, refuses, asks, and_then, outcome_of}
use Rattle.apl_meaning.specs.Variables.{assignment, items_assignment, reference}
use Rattle.apl_meaning.specs.Tasks.{Run}
use Rattle.apl_meaning.specs.Calls.{call}
use Rattle.apl_meaning.specs.Expressions.{Found, constant_outcome, needed, valued, performed, performed_along, evaluated, evaluated_subscripts}
use Rattle.apl_meaning.specs.Nodes.{Values, ready, wanting, with_found, leaving_values, Popped, popped, with_sub, items_step, after_nodes, found_in}

-- ---- one part after another

-- the later part may be another that does the same
then_same : {A B : Type 0} (o : Outcome A) (g k : A → State → Outcome B) → ((v : A) (t : State) → g v t ≡ k v t) → and_then o g ≡ and_then o k
then_same (gives v t) g k h = h v t
then_same (refuses r t) g k h = refl
then_same (asks a t) g k h = refl

-- what a node gives goes before the values, and then to the nodes that follow
left_then : (run : Run) (others : List PlainNode) (values : List PlainArray) (o : Outcome Found)
    → and_then (leaving_values values o) (λ v s. after_nodes run others v s) ≡ and_then o (λ v s. after_nodes run others (with_found v values) s)
left_then run others values (gives v t) = refl
left_then run others values (refuses r t) = refl
left_then run others values (asks a t) = refl

-- a value that is needed, then a part, then the nodes that follow
needed_then : (run : Run) (nodes others : List PlainNode) (below values : List PlainArray) (next : PlainArray → State → Outcome Found) (o : Outcome Found)
    → ((t : State) → after_nodes run nodes (wanting below) t ≡ refuses Value t)
    → ((v : PlainArray) (t : State) → after_nodes run nodes (ready (v ∷ below)) t ≡ and_then (next v t) (λ v s. after_nodes run others (with_found v values) s))
    → and_then o (λ v s. after_nodes run nodes (with_found v below) s) ≡ and_then (and_then (needed o) next) (λ v s. after_nodes run others (with_found v values) s)
needed_then run nodes others below values next (gives None t) none some = none t
needed_then run nodes others below values next (gives (Some v) t) none some = some v t
needed_then run nodes others below values next (refuses r t) none some = refl
needed_then run nodes others below values next (asks a t) none some = refl

-- ---- nodes of an expression

-- nodes that follow take no wanting value
abbrev pub RefuseWanting : Run → List PlainNode → Type 0
RefuseWanting run nodes = (values : List PlainArray) (t : State) → after_nodes run nodes (wanting values) t ≡ refuses Value t

-- nodes behind others give what an expression gives, and begin with one that takes no wanting value
pub record Give (run : Run) (nodes : List PlainNode) (p : Placed) (e : Expr) : Type 0 where
  pub fresh : List PlainNode
  pub whole : p.0 ≡ nodes ++ fresh
  pub give : (others : List PlainNode) (values : List PlainArray) (s : State) → after_nodes run (fresh ++ others) (ready values) s ≡ and_then (evaluated run e s) (λ v t. after_nodes run others (with_found v values) t)
  pub first : (others : List PlainNode) → RefuseWanting run (fresh ++ others)

-- the values of the subscripts that are given
abbrev pub given_values : List (Option PlainArray) → List PlainArray
given_values subs = filter_map (λ sub. sub) subs

-- an outcome gives only what is so
abbrev pub GivesOnly : {A : Type 0} → (A → Type 0) → Outcome A → Type 0
GivesOnly fact (gives v t) = fact v
GivesOnly fact (refuses r t) = Unit {0}
GivesOnly fact (asks a t) = Unit {0}

-- nodes behind others give the values of the subscripts that are given, the first one first
pub record GiveAll (run : Run) (nodes : List PlainNode) (p : PlacedList) (subs : Subscripts) : Type 0 where
  pub fresh : List PlainNode
  pub whole : p.0 ≡ nodes ++ fresh
  pub give : (others : List PlainNode) (values : List PlainArray) (s : State) → RefuseWanting run others
      → after_nodes run (fresh ++ others) (ready values) s ≡ and_then (evaluated_subscripts run subs s) (λ list t. after_nodes run others (ready (given_values list ++ values)) t)
  pub first : (others : List PlainNode) → RefuseWanting run others → RefuseWanting run (fresh ++ others)
  pub taken : (s : State) → GivesOnly (λ list. (values : List PlainArray) → popped p.1 (given_values list ++ values) ≡ record { subs = list; values = values }) (evaluated_subscripts run subs s)

-- ---- lists of nodes

regrouped : (run : Run) (a b others : List PlainNode) (v : Values) (s : State) → after_nodes run (a ++ b ++ others) v s ≡ after_nodes run (a ++ (b ++ others)) v s
regrouped run a b others v s = ap (λ (nodes : List PlainNode). after_nodes run nodes v s) (append_assoc a b others)

-- the same of three lists
regrouped_twice : (run : Run) (a b c others : List PlainNode) (v : Values) (s : State) → after_nodes run (a ++ (b ++ c) ++ others) v s ≡ after_nodes run (a ++ (b ++ (c ++ others))) v s
regrouped_twice run a b c others v s = regrouped run a (b ++ c) others v s ∙ ap (λ (nodes : List PlainNode). after_nodes run (a ++ nodes) v s) (append_assoc b c others)

-- the same of four
regrouped_thrice : (run : Run) (a b c d others : List PlainNode) (v : Values) (s : State) → after_nodes run (a ++ (b ++ (c ++ d)) ++ others) v s ≡ after_nodes run (a ++ (b ++ (c ++ (d ++ others)))) v s
regrouped_thrice run a b c d others v s = regrouped_twice run a b (c ++ d) others v s ∙ ap (λ (nodes : List PlainNode). after_nodes run (a ++ (b ++ nodes)) v s) (append_assoc c d others)

one_more : (nodes a x : List PlainNode) (p : List PlainNode) → p ≡ nodes ++ a → p ++ x ≡ nodes ++ (a ++ x)
one_more nodes a x p e = ap (λ (front : List PlainNode). front ++ x) e ∙ append_assoc nodes a x

two_more : (nodes a b x : List PlainNode) (p q : List PlainNode) → p ≡ nodes ++ a → q ≡ p ++ b → q ++ x ≡ nodes ++ (a ++ (b ++ x))
two_more nodes a b x p q e d = one_more p b x q d ∙ one_more nodes a (b ++ x) p e

three_more : (nodes a b c x : List PlainNode) (p q r : List PlainNode) → p ≡ nodes ++ a → q ≡ p ++ b → r ≡ q ++ c → r ++ x ≡ nodes ++ (a ++ (b ++ (c ++ x)))
three_more nodes a b c x p q r e d f = one_more q c x r f ∙ two_more nodes a b (c ++ x) p q e d

-- ---- parts with subscripts

grouped : {A B C : Type 0} (o : Outcome A) (f : A → State → Outcome B) (g : B → State → Outcome C) → and_then (and_then o f) g ≡ and_then o (λ v s. and_then (f v s) g)
grouped (gives v t) f g = refl
grouped (refuses r t) f g = refl
grouped (asks a t) f g = refl

-- the later part may be another that does the same where the first gives only what is so
only_then : {A B C : Type 0} (fact : A → Type 0) (o : Outcome A) (g : A → State → Outcome C) (f : A → State → Outcome B) (k : B → State → Outcome C) → GivesOnly fact o → ((v : A) (t : State) → fact v → g v t ≡ and_then (f v t) k)
    → and_then o g ≡ and_then (and_then o f) k
only_then fact (gives v t) g f k is h = h v t is
only_then fact (refuses r t) g f k is h = refl
only_then fact (asks a t) g f k is h = refl

-- one subscript more, and then the nodes that follow
sub_then : (run : Run) (others : List PlainNode) (list : List (Option PlainArray)) (values : List PlainArray) (o : Outcome Found) → RefuseWanting run others
    → and_then o (λ v t. after_nodes run others (with_found v (given_values list ++ values)) t) ≡ and_then (and_then (needed o) (λ sub u. gives (Some sub ∷ list) u)) (λ l t. after_nodes run others (ready (given_values l ++ values)) t)
sub_then run others list values (gives None t) h = h (given_values list ++ values) t
sub_then run others list values (gives (Some v) t) h = refl
sub_then run others list values (refuses r t) h = refl
sub_then run others list values (asks a t) h = refl

-- what a list of subscripts takes off is the list
abbrev pub IsTaken : List (Option ℕ) → List (Option PlainArray) → Type 0
IsTaken places list = (values : List PlainArray) → popped places (given_values list ++ values) ≡ record { subs = list; values = values }

omitted_taken : (places : List (Option ℕ)) (o : Outcome (List (Option PlainArray))) → GivesOnly (IsTaken places) o → GivesOnly (IsTaken (None ∷ places)) (and_then o (λ others t. gives (None ∷ others) t))
omitted_taken places (gives list t) h = λ values. ap (with_sub None) (h values)
omitted_taken places (refuses r t) h = tt
omitted_taken places (asks a t) h = tt

given_taken_by : (places : List (Option ℕ)) (k : ℕ) (list : List (Option PlainArray)) → IsTaken places list → (o : Outcome PlainArray) → GivesOnly (IsTaken (Some k ∷ places)) (and_then o (λ sub u. gives (Some sub ∷ list) u))
given_taken_by places k list h (gives v t) = λ values. ap (with_sub (Some v)) (h values)
given_taken_by places k list h (refuses r t) = tt
given_taken_by places k list h (asks a t) = tt

given_taken : (run : Run) (e : Expr) (places : List (Option ℕ)) (k : ℕ) (o : Outcome (List (Option PlainArray))) → GivesOnly (IsTaken places) o
    → GivesOnly (IsTaken (Some k ∷ places)) (and_then o (λ others t. and_then (needed (evaluated run e t)) (λ sub u. gives (Some sub ∷ others) u)))
given_taken run e places k (gives list t) h = given_taken_by places k list h (needed (evaluated run e t))
given_taken run e places k (refuses r t) h = tt
given_taken run e places k (asks a t) h = tt

-- ---- the law

-- parentheses stand around what is in them
through : (run : Run) (k : ℕ) (others : List PlainNode) (values : List PlainArray) (v : Found) (t : State) → after_nodes run (node.paren k ∷ others) (with_found v values) t ≡ after_nodes run others (with_found v values) t
through run k others values None t = refl
through run k others values (Some x) t = refl

-- ---- the nodes of an expression, where those of its parts give what they do

module _ (run : Run) (nodes : List PlainNode) where
  -- parentheses give what is given in them
  paren_gives : (p : Placed) (e : Expr) → Give run nodes p e → Give run nodes (with_node p.0 (node.paren p.1)) (paren e)
  paren_gives p e h =
      let n = node.paren p.1 in
      record {
        fresh = h.fresh ++ n ∷ [];
        whole = one_more nodes h.fresh (n ∷ []) p.0 h.whole;
        give = λ others values s.
            regrouped run h.fresh (n ∷ []) others (ready values) s ∙ h.give (n ∷ others) values s
            ∙ then_same (evaluated run e s) (λ v t. after_nodes run (n ∷ others) (with_found v values) t) (λ v t. after_nodes run others (with_found v values) t) (λ v t. through run p.1 others values v t);
        first = λ others values t. regrouped run h.fresh (n ∷ []) others (wanting values) t ∙ h.first (n ∷ others) values t;
      }

  -- a function of its right argument: the argument, then the function
  monadic_gives : (p : Placed) (f : Fun) (right : Expr) → Give run nodes p right → Give run nodes (with_node p.0 (node.apply f None p.1 None)) (monadic f right)
  monadic_gives p f right h =
      let n = node.apply f None p.1 None in
      record {
        fresh = h.fresh ++ n ∷ [];
        whole = one_more nodes h.fresh (n ∷ []) p.0 h.whole;
        give = λ others values s.
            regrouped run h.fresh (n ∷ []) others (ready values) s ∙ h.give (n ∷ others) values s
            ∙ needed_then run (n ∷ others) others values values (λ r t. performed run f None r None t) (evaluated run right s) (λ t. refl) (λ r t. left_then run others values (performed run f None r None t));
        first = λ others values t. regrouped run h.fresh (n ∷ []) others (wanting values) t ∙ h.first (n ∷ others) values t;
      }

  -- along an axis: the right argument, the axis, then the function
  monadic_along_gives : (r k : Placed) (f : Fun) (axis right : Expr) → Give run nodes r right → Give run r.0 k axis → Give run nodes (with_node k.0 (node.apply f None r.1 (Some k.1))) (monadic_along f axis right)
  monadic_along_gives r k f axis right h a =
      let n = node.apply f None r.1 (Some k.1) in
      record {
        fresh = h.fresh ++ (a.fresh ++ n ∷ []);
        whole = two_more nodes h.fresh a.fresh (n ∷ []) r.0 k.0 h.whole a.whole;
        give = λ others values s.
            regrouped_twice run h.fresh a.fresh (n ∷ []) others (ready values) s ∙ h.give (a.fresh ++ n ∷ others) values s
            ∙ needed_then run (a.fresh ++ n ∷ others) others values values (λ x t. and_then (needed (evaluated run axis t)) (λ y u. performed_along run f None y x u)) (evaluated run right s) (λ t. a.first (n ∷ others) values t) (λ x t.
            a.give (n ∷ others) (x ∷ values) t
            ∙ needed_then run (n ∷ others) others (x ∷ values) values (λ y u. performed_along run f None y x u) (evaluated run axis t) (λ u. refl) (λ y u. left_then run others values (performed_along run f None y x u)));
        first = λ others values t. regrouped_twice run h.fresh a.fresh (n ∷ []) others (wanting values) t ∙ h.first (a.fresh ++ n ∷ others) values t;
      }

  -- a function of two arguments: the right one, the left one, then the function
  dyadic_gives : (r l : Placed) (f : Fun) (left right : Expr) → Give run nodes r right → Give run r.0 l left → Give run nodes (with_node l.0 (node.apply f (Some l.1) r.1 None)) (dyadic f left right)
  dyadic_gives r l f left right h a =
      let n = node.apply f (Some l.1) r.1 None in
      record {
        fresh = h.fresh ++ (a.fresh ++ n ∷ []);
        whole = two_more nodes h.fresh a.fresh (n ∷ []) r.0 l.0 h.whole a.whole;
        give = λ others values s.
            regrouped_twice run h.fresh a.fresh (n ∷ []) others (ready values) s ∙ h.give (a.fresh ++ n ∷ others) values s
            ∙ needed_then run (a.fresh ++ n ∷ others) others values values (λ x t. and_then (needed (evaluated run left t)) (λ y u. performed run f (Some y) x None u)) (evaluated run right s) (λ t. a.first (n ∷ others) values t) (λ x t.
            a.give (n ∷ others) (x ∷ values) t
            ∙ needed_then run (n ∷ others) others (x ∷ values) values (λ y u. performed run f (Some y) x None u) (evaluated run left t) (λ u. refl) (λ y u. left_then run others values (performed run f (Some y) x None u)));
        first = λ others values t. regrouped_twice run h.fresh a.fresh (n ∷ []) others (wanting values) t ∙ h.first (a.fresh ++ n ∷ others) values t;
      }

  -- along an axis: the right argument, the axis, the left argument, then the function
  dyadic_along_gives : (r k l : Placed) (f : Fun) (left axis right : Expr) → Give run nodes r right → Give run r.0 k axis → Give run k.0 l left
      → Give run nodes (with_node l.0 (node.apply f (Some l.1) r.1 (Some k.1))) (dyadic_along f left axis right)
  dyadic_along_gives r k l f left axis right h a b =
      let n = node.apply f (Some l.1) r.1 (Some k.1) in
      record {
        fresh = h.fresh ++ (a.fresh ++ (b.fresh ++ n ∷ []));
        whole = three_more nodes h.fresh a.fresh b.fresh (n ∷ []) r.0 k.0 l.0 h.whole a.whole b.whole;
        give = λ others values s.
            regrouped_thrice run h.fresh a.fresh b.fresh (n ∷ []) others (ready values) s ∙ h.give (a.fresh ++ (b.fresh ++ n ∷ others)) values s
            ∙ needed_then run (a.fresh ++ (b.fresh ++ n ∷ others)) others values values (λ x t. and_then (needed (evaluated run axis t)) (λ y u. and_then (needed (evaluated run left u)) (λ z w. performed_along run f (Some z) y x w))) (evaluated run right s)
            (λ t. a.first (b.fresh ++ n ∷ others) values t) (λ x t.
            a.give (b.fresh ++ n ∷ others) (x ∷ values) t
            ∙ needed_then run (b.fresh ++ n ∷ others) others (x ∷ values) values (λ y u. and_then (needed (evaluated run left u)) (λ z w. performed_along run f (Some z) y x w)) (evaluated run axis t) (λ u. b.first (n ∷ others) (x ∷ values) u) (λ y u.
            b.give (n ∷ others) (y ∷ x ∷ values) u
            ∙ needed_then run (n ∷ others) others (y ∷ x ∷ values) values (λ z w. performed_along run f (Some z) y x w) (evaluated run left u) (λ w. refl) (λ z w. left_then run others values (performed_along run f (Some z) y x w))));
        first = λ others values t. regrouped_thrice run h.fresh a.fresh b.fresh (n ∷ []) others (wanting values) t ∙ h.first (a.fresh ++ (b.fresh ++ n ∷ others)) values t;
      }

  -- a value with subscripts: the subscripts, the value, then what they select of it
  indexed_gives : (p : PlacedList) (v : Placed) (e : Expr) (subs : Subscripts) → GiveAll run nodes p subs → Give run p.0 v e → Give run nodes (with_node v.0 (node.indexed v.1 p.1)) (indexed e subs)
  indexed_gives p v e subs h a =
      let n = node.indexed v.1 p.1 in
      record {
        fresh = h.fresh ++ (a.fresh ++ n ∷ []);
        whole = two_more nodes h.fresh a.fresh (n ∷ []) p.0 v.0 h.whole a.whole;
        give = λ others values s.
            regrouped_twice run h.fresh a.fresh (n ∷ []) others (ready values) s ∙ h.give (a.fresh ++ n ∷ others) values s (a.first (n ∷ others))
            ∙ only_then (IsTaken p.1) (evaluated_subscripts run subs s) (λ list t. after_nodes run (a.fresh ++ n ∷ others) (ready (given_values list ++ values)) t) (λ list t. and_then (needed (evaluated run e t)) (λ array u. valued (outcome_of (selection_of array list) u)))
            (λ v t. after_nodes run others (with_found v values) t) (h.taken s) (λ list t is.
            a.give (n ∷ others) (given_values list ++ values) t
            ∙ needed_then run (n ∷ others) others (given_values list ++ values) values (λ array u. valued (outcome_of (selection_of array list) u)) (evaluated run e t) (λ u. refl) (λ array u.
            ap (λ (q : Popped). and_then (leaving_values q.values (valued (outcome_of (selection_of array q.subs) u))) (λ v w. after_nodes run others v w)) (is values) ∙ left_then run others values (valued (outcome_of (selection_of array list) u))));
        first = λ others values t. regrouped_twice run h.fresh a.fresh (n ∷ []) others (wanting values) t ∙ h.first (a.fresh ++ n ∷ others) (a.first (n ∷ others)) values t;
      }

  -- an assignment: the right side, then the name
  assign_gives : (p : Placed) (name : List ℕ) (right : Expr) → Give run nodes p right → Give run nodes (with_node p.0 (node.assign name p.1)) (assign name right)
  assign_gives p name right h =
      let n = node.assign name p.1 in
      record {
        fresh = h.fresh ++ n ∷ [];
        whole = one_more nodes h.fresh (n ∷ []) p.0 h.whole;
        give = λ others values s.
            regrouped run h.fresh (n ∷ []) others (ready values) s ∙ h.give (n ∷ others) values s
            ∙ needed_then run (n ∷ others) others values values (λ r t. and_then (assignment name r t) (λ _ u. gives (Some r) u)) (evaluated run right s) (λ t. refl) (λ r t. left_then run others values (and_then (assignment name r t) (λ _ u. gives (Some r) u)));
        first = λ others values t. regrouped run h.fresh (n ∷ []) others (wanting values) t ∙ h.first (n ∷ others) values t;
      }

  -- an assignment to items: the right side, the subscripts, then the name
  assign_at_gives : (r : Placed) (p : PlacedList) (name : List ℕ) (subs : Subscripts) (right : Expr) → Give run nodes r right → GiveAll run r.0 p subs
      → Give run nodes (with_node p.0 (node.assign_at name p.1 r.1)) (assign_at name subs right)
  assign_at_gives r p name subs right h a =
      let n = node.assign_at name p.1 r.1 in
      record {
        fresh = h.fresh ++ (a.fresh ++ n ∷ []);
        whole = two_more nodes h.fresh a.fresh (n ∷ []) r.0 p.0 h.whole a.whole;
        give = λ others values s.
            regrouped_twice run h.fresh a.fresh (n ∷ []) others (ready values) s ∙ h.give (a.fresh ++ n ∷ others) values s
            ∙ needed_then run (a.fresh ++ n ∷ others) others values values (λ x t. and_then (evaluated_subscripts run subs t) (λ list u. and_then (items_assignment name list x u) (λ _ w. gives (Some x) w))) (evaluated run right s)
            (λ t. a.first (n ∷ others) (λ below u. refl) values t) (λ x t.
            a.give (n ∷ others) (x ∷ values) t (λ below u. refl)
            ∙ only_then (IsTaken p.1) (evaluated_subscripts run subs t) (λ list u. after_nodes run (n ∷ others) (ready (given_values list ++ x ∷ values)) u) (λ list u. and_then (items_assignment name list x u) (λ _ w. gives (Some x) w))
            (λ v u. after_nodes run others (with_found v values) u) (a.taken t) (λ list u is.
            ap (λ (q : Popped). and_then (items_step name q.subs q.values u) (λ v w. after_nodes run others v w)) (is (x ∷ values)) ∙ left_then run others values (and_then (items_assignment name list x u) (λ _ w. gives (Some x) w))));
        first = λ others values t. regrouped_twice run h.fresh a.fresh (n ∷ []) others (wanting values) t ∙ h.first (a.fresh ++ n ∷ others) values t;
      }

  -- a subscript that is omitted gives no value before those of the others
  omitted_give : (p : PlacedList) (more : Subscripts) → GiveAll run nodes p more → GiveAll run nodes (list_with None p.0 p.1) (omitted more)
  omitted_give p more h = record {
    fresh = h.fresh;
    whole = h.whole;
    give = λ others values s refuse.
        h.give others values s refuse ∙ sym (grouped (evaluated_subscripts run more s) (λ list t. gives (None ∷ list) t) (λ list t. after_nodes run others (ready (given_values list ++ values)) t));
    first = h.first;
    taken = λ s. omitted_taken p.1 (evaluated_subscripts run more s) (h.taken s);
  }

  -- one that is given gives its value before them
  given_give : (p : PlacedList) (v : Placed) (e : Expr) (more : Subscripts) → GiveAll run nodes p more → Give run p.0 v e → GiveAll run nodes (list_with (Some v.1) v.0 p.1) (given e more)
  given_give p v e more h a = record {
    fresh = h.fresh ++ a.fresh;
    whole = a.whole ∙ one_more nodes h.fresh a.fresh p.0 h.whole;
    give = λ others values s refuse.
        regrouped run h.fresh a.fresh others (ready values) s ∙ h.give (a.fresh ++ others) values s (a.first others)
        ∙ then_same (evaluated_subscripts run more s) (λ list t. after_nodes run (a.fresh ++ others) (ready (given_values list ++ values)) t)
        (λ list t. and_then (and_then (needed (evaluated run e t)) (λ sub u. gives (Some sub ∷ list) u)) (λ l u. after_nodes run others (ready (given_values l ++ values)) u))
        (λ list t. a.give others (given_values list ++ values) t ∙ sub_then run others list values (evaluated run e t) refuse)
        ∙ sym (grouped (evaluated_subscripts run more s) (λ list t. and_then (needed (evaluated run e t)) (λ sub u. gives (Some sub ∷ list) u)) (λ list t. after_nodes run others (ready (given_values list ++ values)) t));
    first = λ others refuse values t. regrouped run h.fresh a.fresh others (wanting values) t ∙ h.first (a.fresh ++ others) (a.first others) values t;
    taken = λ s. given_taken run e p.1 v.1 (evaluated_subscripts run more s) (h.taken s);
  }

-- the nodes of each expression give what it gives, and those of each list of subscripts
mutual
  pub nodes_give : (run : Run) (nodes : List PlainNode) (e : Expr) → Give run nodes (placed nodes e) e
  nodes_give run nodes (constant items) = record { fresh = node.constant items ∷ []; whole = refl; give = λ others values s. left_then run others values (valued (constant_outcome items s)); first = λ others values t. refl }
  nodes_give run nodes (value name) =
      record { fresh = node.value name ∷ []; whole = refl; give = λ others values s. left_then run others values (valued (reference name s)); first = λ others values t. refl }
  nodes_give run nodes (niladic name) =
      record {
        fresh = node.niladic name ∷ [];
        whole = refl;
        give = λ others values s. left_then run others values (call run name (record { left = None; right = None }) s);
        first = λ others values t. refl;
      }
  nodes_give run nodes (paren e) = paren_gives run nodes (placed nodes e) e (nodes_give run nodes e)
  nodes_give run nodes (monadic f right) = monadic_gives run nodes (placed nodes right) f right (nodes_give run nodes right)
  nodes_give run nodes (monadic_along f axis right) =
      let r : Placed = placed nodes right in
      monadic_along_gives run nodes r (placed r.0 axis) f axis right (nodes_give run nodes right) (nodes_give run r.0 axis)
  nodes_give run nodes (dyadic f left right) =
      let r : Placed = placed nodes right in
      dyadic_gives run nodes r (placed r.0 left) f left right (nodes_give run nodes right) (nodes_give run r.0 left)
  nodes_give run nodes (dyadic_along f left axis right) =
      let r : Placed = placed nodes right in
      let k : Placed = placed r.0 axis in
      dyadic_along_gives run nodes r k (placed k.0 left) f left axis right (nodes_give run nodes right) (nodes_give run r.0 axis) (nodes_give run k.0 left)
  nodes_give run nodes (indexed e subs) =
      let p : PlacedList = placed_subscripts nodes subs in
      indexed_gives run nodes p (placed p.0 e) e subs (nodes_give_all run nodes subs) (nodes_give run p.0 e)
  nodes_give run nodes (assign name right) = assign_gives run nodes (placed nodes right) name right (nodes_give run nodes right)
  nodes_give run nodes (assign_at name subs right) =
      let r : Placed = placed nodes right in
      assign_at_gives run nodes r (placed_subscripts r.0 subs) name subs right (nodes_give run nodes right) (nodes_give_all run r.0 subs)

  pub nodes_give_all : (run : Run) (nodes : List PlainNode) (subs : Subscripts) → GiveAll run nodes (placed_subscripts nodes subs) subs
  nodes_give_all run nodes no_more = record { fresh = []; whole = sym (append-nil nodes); give = λ others values s h. refl; first = λ others h. h; taken = λ s values. refl }
  nodes_give_all run nodes (omitted more) = omitted_give run nodes (placed_subscripts nodes more) more (nodes_give_all run nodes more)
  nodes_give_all run nodes (given e more) =
      let p : PlacedList = placed_subscripts nodes more in
      given_give run nodes p (placed p.0 e) e more (nodes_give_all run nodes more) (nodes_give run p.0 e)

-- what the last node gave
last_found : (o : Outcome Found) → and_then (and_then o (λ v t. gives (with_found v []) t)) (λ v t. gives (found_in v) t) ≡ o
last_found (gives None t) = refl
last_found (gives (Some v) t) = refl
last_found (refuses r t) = refl
last_found (asks a t) = refl

-- the nodes of a tree give what the tree gives
pub nodes_are_trees : (run : Run) (e : Expr) (s : State) → and_then (after_nodes run (placed [] e).0 (ready []) s) (λ v t. gives (found_in v) t) ≡ evaluated run e s
nodes_are_trees run e s =
    let p : Placed = placed [] e in
    let h = nodes_give run [] e in
    ap (λ (o : Outcome Values). and_then o (λ v t. gives (found_in v) t))
    (ap (λ (nodes : List PlainNode). after_nodes run nodes (ready []) s) (h.whole ∙ sym (append-nil h.fresh)) ∙ h.give [] [] s)
    ∙ last_found (evaluated run e s)
