-- The nodes of a tree stand for that tree.
use Rattle.std.proofs.Common.{◌≡◌, ℕ, zero, suc, ◌+◌, ◌<◌, List, [], ◌∷◌, ◌++◌, Option, Some, None, length, get_or, refl, ap, ◌∙◌, arith, length-append}
use Rattle.line_trees.specs.declared.tree.Fun.{Fun}
use Rattle.line_trees.specs.Nodes as node
use Rattle.line_trees.specs.Nodes.{PlainNode}
use Rattle.line_trees.specs.Trees.{Expr, constant, value, niladic, paren, indexed, monadic, monadic_along, dyadic, dyadic_along, assign, assign_at, Subscripts, no_more, omitted, given, Statement, nothing, branch, whole, execute, LineTree, Placed, PlacedList, with_node, placed, placed_subscripts, as_nodes, subscripts_at, expr_of, trees_from, tree_numbered, line_tree_of}

-- one node more
trees_more : (made : List Expr) (nodes : List PlainNode) (n : PlainNode) → trees_from made (nodes ++ n ∷ []) ≡ trees_from made nodes ++ expr_of (trees_from made nodes) n ∷ []
unfolding trees_from
trees_more made [] n = refl
trees_more made (first ∷ nodes) n = trees_more (made ++ expr_of made first ∷ []) nodes n

trees_length : (made : List Expr) (nodes : List PlainNode) → length (trees_from made nodes) ≡ length made + length nodes
unfolding trees_from
trees_length made [] = omega arith
trees_length made (n ∷ nodes) = omega (arith, trees_length (made ++ expr_of made n ∷ []) nodes, length-append made (expr_of made n ∷ []))

front_at : (xs ys : List Expr) (k : ℕ) (d : Expr) → k < length xs → get_or (xs ++ ys) k d ≡ get_or xs k d
front_at [] ys k d h = absurd (omega arith)
front_at (x ∷ xs) ys zero d h = refl
front_at (x ∷ xs) ys (suc k) d h = front_at xs ys k d (omega arith)

last_at : (xs : List Expr) (x d : Expr) (k : ℕ) → k ≡ length xs → get_or (xs ++ x ∷ []) k d ≡ x
last_at xs x d k e = ap (λ (i : ℕ). get_or (xs ++ x ∷ []) i d) e ∙ at_end xs x d
  where
    at_end : (xs : List Expr) (x d : Expr) → get_or (xs ++ x ∷ []) (length xs) d ≡ x
    at_end [] x d = refl
    at_end (y ∷ ys) x d = at_end ys x d

-- a number stands for a tree
pub record Holds (nodes : List PlainNode) (k : ℕ) (e : Expr) : Type 0 where
  pub below : k < length nodes
  pub is : tree_numbered nodes k ≡ e

-- what stood for a tree still does
abbrev pub Keeps : List PlainNode → List PlainNode → Type 0
Keeps nodes more = (k : ℕ) (e : Expr) → Holds nodes k e → Holds more k e

keeps_added : (nodes : List PlainNode) (n : PlainNode) → Keeps nodes (nodes ++ n ∷ [])
keeps_added nodes n k e h = record {
  below = omega (arith, h.below, length-append nodes (n ∷ []));
  is = ap (λ (x : List Expr). get_or x k (value [])) (trees_more [] nodes n) ∙ front_at (trees_from [] nodes) (expr_of (trees_from [] nodes) n ∷ []) k (value []) (omega (arith, h.below, trees_length [] nodes)) ∙ h.is;
}

-- a node more stands for its tree
holds_added : (nodes : List PlainNode) (n : PlainNode) (e : Expr) → expr_of (trees_from [] nodes) n ≡ e → Holds (with_node nodes n).0 (with_node nodes n).1 e
holds_added nodes n e h = record {
  below = omega (arith, length-append nodes (n ∷ []));
  is = ap (λ (x : List Expr). get_or x (length nodes) (value [])) (trees_more [] nodes n) ∙ last_at (trees_from [] nodes) (expr_of (trees_from [] nodes) n) (value []) (length nodes) (omega (arith, trees_length [] nodes)) ∙ h;
}

-- numbers stand for subscripts
abbrev pub HoldAll : List PlainNode → List (Option ℕ) → Subscripts → Type 0
HoldAll nodes [] no_more = Unit {0}
HoldAll nodes (None ∷ places) (omitted more) = HoldAll nodes places more
HoldAll nodes (Some k ∷ places) (given e more) = Holds nodes k e × HoldAll nodes places more
HoldAll nodes places subs = ⊥

pub keeps_all : (nodes more : List PlainNode) (places : List (Option ℕ)) (subs : Subscripts) → Keeps nodes more → HoldAll nodes places subs → HoldAll more places subs
keeps_all nodes more [] no_more h k = tt
keeps_all nodes more (None ∷ places) (omitted subs) h k = keeps_all nodes more places subs h k
keeps_all nodes more (Some i ∷ places) (given e subs) h k = (h i e k.0, keeps_all nodes more places subs h k.1)
keeps_all nodes more places subs h k = absurd k

subscripts_are : (nodes : List PlainNode) (places : List (Option ℕ)) (subs : Subscripts) → HoldAll nodes places subs → subscripts_at (trees_from [] nodes) places ≡ subs
subscripts_are nodes [] no_more h = refl
subscripts_are nodes (None ∷ places) (omitted subs) h = ap omitted (subscripts_are nodes places subs h)
subscripts_are nodes (Some i ∷ places) (given e subs) h = ap (λ (x : Expr). given x (subscripts_at (trees_from [] nodes) places)) h.0.is ∙ ap (given e) (subscripts_are nodes places subs h.1)
subscripts_are nodes places subs h = absurd h

-- nodes of a tree behind others stand for it, and those before for what they stood for
pub record Stands (nodes : List PlainNode) (p : Placed) (e : Expr) : Type 0 where
  pub holds : Holds p.0 p.1 e
  pub keeps : Keeps nodes p.0

pub record StandAll (nodes : List PlainNode) (p : PlacedList) (subs : Subscripts) : Type 0 where
  pub hold : HoldAll p.0 p.1 subs
  pub keeps : Keeps nodes p.0

stands_added : (nodes last : List PlainNode) (n : PlainNode) (e : Expr) → Keeps nodes last → expr_of (trees_from [] last) n ≡ e → Stands nodes (with_node last n) e
stands_added nodes last n e keeps h = record { holds = holds_added last n e h; keeps = λ k x was. keeps_added last n k x (keeps k x was) }

-- ---- a node behind the nodes of its parts

module _ (nodes : List PlainNode) where
  -- a value with subscripts stands behind the subscripts and the value
  indexed_stands : (s : PlacedList) (p : Placed) (v : Expr) (subs : Subscripts) → StandAll nodes s subs → Stands s.0 p v → Stands nodes (with_node p.0 (node.indexed p.1 s.1)) (indexed v subs)
  indexed_stands s p v subs h k =
      stands_added nodes p.0 (node.indexed p.1 s.1) (indexed v subs) (λ i x was. k.keeps i x (h.keeps i x was))
      (ap (λ (x : Expr). indexed x (subscripts_at (trees_from [] p.0) s.1)) k.holds.is ∙ ap (indexed v) (subscripts_are p.0 s.1 subs (keeps_all s.0 p.0 s.1 subs k.keeps h.hold)))

  -- a function along an axis stands behind its right argument and the axis
  monadic_along_stands : (r p : Placed) (f : Fun) (axis right : Expr) → Stands nodes r right → Stands r.0 p axis → Stands nodes (with_node p.0 (node.apply f None r.1 (Some p.1))) (monadic_along f axis right)
  monadic_along_stands r p f axis right h k =
      stands_added nodes p.0 (node.apply f None r.1 (Some p.1)) (monadic_along f axis right) (λ i x was. k.keeps i x (h.keeps i x was))
      (ap (λ (x : Expr). monadic_along f x (tree_numbered p.0 r.1)) k.holds.is ∙ ap (monadic_along f axis) (k.keeps r.1 right h.holds).is)

  -- a function of two arguments stands behind the right one and the left one
  dyadic_stands : (r p : Placed) (f : Fun) (left right : Expr) → Stands nodes r right → Stands r.0 p left → Stands nodes (with_node p.0 (node.apply f (Some p.1) r.1 None)) (dyadic f left right)
  dyadic_stands r p f left right h k =
      stands_added nodes p.0 (node.apply f (Some p.1) r.1 None) (dyadic f left right) (λ i x was. k.keeps i x (h.keeps i x was))
      (ap (λ (x : Expr). dyadic f x (tree_numbered p.0 r.1)) k.holds.is ∙ ap (dyadic f left) (k.keeps r.1 right h.holds).is)

  -- along an axis it stands behind the right argument, the axis and the left argument
  dyadic_along_stands : (r a p : Placed) (f : Fun) (left axis right : Expr) → Stands nodes r right → Stands r.0 a axis → Stands a.0 p left
      → Stands nodes (with_node p.0 (node.apply f (Some p.1) r.1 (Some a.1))) (dyadic_along f left axis right)
  dyadic_along_stands r a p f left axis right h k l =
      stands_added nodes p.0 (node.apply f (Some p.1) r.1 (Some a.1)) (dyadic_along f left axis right) (λ i x was. l.keeps i x (k.keeps i x (h.keeps i x was)))
      (ap (λ (x : Expr). dyadic_along f x (tree_numbered p.0 a.1) (tree_numbered p.0 r.1)) l.holds.is ∙ ap (λ (x : Expr). dyadic_along f left x (tree_numbered p.0 r.1)) (l.keeps a.1 axis k.holds).is
      ∙ ap (dyadic_along f left axis) (l.keeps r.1 right (k.keeps r.1 right h.holds)).is)

  -- an assignment to items stands behind the right side and the subscripts
  assign_at_stands : (r : Placed) (s : PlacedList) (n : List ℕ) (subs : Subscripts) (right : Expr) → Stands nodes r right → StandAll r.0 s subs
      → Stands nodes (with_node s.0 (node.assign_at n s.1 r.1)) (assign_at n subs right)
  assign_at_stands r s n subs right h k =
      stands_added nodes s.0 (node.assign_at n s.1 r.1) (assign_at n subs right) (λ i x was. k.keeps i x (h.keeps i x was))
      (ap (λ (x : Subscripts). assign_at n x (tree_numbered s.0 r.1)) (subscripts_are s.0 s.1 subs k.hold) ∙ ap (assign_at n subs) (k.keeps r.1 right h.holds).is)

-- the nodes of each expression stand for it, and those of each list of subscripts
mutual
  pub stands : (nodes : List PlainNode) (e : Expr) → Stands nodes (placed nodes e) e
  stands nodes (constant items) = stands_added nodes nodes (node.constant items) (constant items) (λ k x h. h) refl
  stands nodes (value n) = stands_added nodes nodes (node.value n) (value n) (λ k x h. h) refl
  stands nodes (niladic n) = stands_added nodes nodes (node.niladic n) (niladic n) (λ k x h. h) refl
  stands nodes (paren e) =
      let p : Placed = placed nodes e in
      let h = stands nodes e in
      stands_added nodes p.0 (node.paren p.1) (paren e) h.keeps (ap paren h.holds.is)
  stands nodes (indexed v subs) =
      let s : PlacedList = placed_subscripts nodes subs in
      indexed_stands nodes s (placed s.0 v) v subs (stand_all nodes subs) (stands s.0 v)
  stands nodes (monadic f right) =
      let p : Placed = placed nodes right in
      let h = stands nodes right in
      stands_added nodes p.0 (node.apply f None p.1 None) (monadic f right) h.keeps (ap (monadic f) h.holds.is)
  stands nodes (monadic_along f axis right) =
      let r : Placed = placed nodes right in
      monadic_along_stands nodes r (placed r.0 axis) f axis right (stands nodes right) (stands r.0 axis)
  stands nodes (dyadic f left right) =
      let r : Placed = placed nodes right in
      dyadic_stands nodes r (placed r.0 left) f left right (stands nodes right) (stands r.0 left)
  stands nodes (dyadic_along f left axis right) =
      let r : Placed = placed nodes right in
      let a : Placed = placed r.0 axis in
      dyadic_along_stands nodes r a (placed a.0 left) f left axis right (stands nodes right) (stands r.0 axis) (stands a.0 left)
  stands nodes (assign n right) =
      let p : Placed = placed nodes right in
      let h = stands nodes right in
      stands_added nodes p.0 (node.assign n p.1) (assign n right) h.keeps (ap (assign n) h.holds.is)
  stands nodes (assign_at n subs right) =
      let r : Placed = placed nodes right in
      assign_at_stands nodes r (placed_subscripts r.0 subs) n subs right (stands nodes right) (stand_all r.0 subs)

  pub stand_all : (nodes : List PlainNode) (subs : Subscripts) → StandAll nodes (placed_subscripts nodes subs) subs
  stand_all nodes no_more = record { hold = tt; keeps = λ k x h. h }
  stand_all nodes (omitted more) = let h = stand_all nodes more in record { hold = h.hold; keeps = h.keeps }
  stand_all nodes (given e more) =
      let s : PlacedList = placed_subscripts nodes more in
      let p : Placed = placed s.0 e in
      let h = stand_all nodes more in
      let k = stands s.0 e in
      record { hold = (k.holds, keeps_all s.0 p.0 s.1 more k.keeps h.hold); keeps = λ i x was. k.keeps i x (h.keeps i x was) }

-- a line of a label and a statement
abbrev labelled : Option (List ℕ) → Statement → LineTree
labelled label s = record { label = label; statement = s }

again : (label : Option (List ℕ)) (s : Statement) → line_tree_of (as_nodes (labelled label s)) ≡ labelled label s
again label nothing = refl
again label (branch e) = ap (λ (x : Expr). labelled label (branch x)) (stands [] e).holds.is
again label (whole e) = ap (λ (x : Expr). labelled label (whole x)) (stands [] e).holds.is
again label (execute e) = ap (λ (x : Expr). labelled label (execute x)) (stands [] e).holds.is

-- the nodes of a line stand for it
pub line_again : (line : LineTree) → line_tree_of (as_nodes line) ≡ line
line_again line = again line.label line.statement
