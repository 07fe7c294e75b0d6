-- Each node of a line stands after those that it names.
use Rattle.std.proofs.Common.{◌≡◌, ℕ, ◌+◌, List, [], ◌∷◌, ◌++◌, Option, Some, None, Ok, length, sym, subst, arith}
use Rattle.line_scanner.specs.Token.{PlainToken}
use Rattle.line_trees.specs.declared.class.Class.{Class}
use Rattle.line_trees.specs.Nodes as node
use Rattle.line_trees.specs.Nodes.{PlainNode}
use Rattle.line_trees.specs.Parsing.{PlainTree, parsed}
use Rattle.line_trees.specs.Trees.{Expr, constant, value, niladic, paren, indexed, monadic, monadic_along, dyadic, dyadic_along, assign, assign_at, Subscripts, no_more, omitted, given, Statement, nothing, branch, whole, execute, Placed, PlacedList, with_node, placed, placed_subscripts, nodes_of_statement}
use Rattle.line_trees.specs.Order.{AreBelow, NamesBelow, NameEarlier, IsTreeInOrder}
use Rattle.line_trees.proofs.TreeLaw.{HoldAll, keeps_all, stands, stand_all}
use Rattle.line_trees.proofs.Places.{tree_is_line}

-- one node more
names_more : (at count : ℕ) (nodes : List PlainNode) (n : PlainNode) → count ≡ at + length nodes → NameEarlier at nodes → NamesBelow count n → NameEarlier at (nodes ++ n ∷ [])
names_more at count [] n e h k = (subst (λ (x : ℕ). NamesBelow x n) (let same : count ≡ at = omega (arith, e) in same) k, tt)
names_more at count (first ∷ nodes) n e h k = (h.0, names_more (at + 1) count nodes n (omega (arith, e)) h.1 k)

names_added : (nodes : List PlainNode) (n : PlainNode) → NameEarlier 0 nodes → NamesBelow (length nodes) n → NameEarlier 0 (with_node nodes n).0
names_added nodes n h k = names_more 0 (length nodes) nodes n (omega arith) h k

-- the numbers of subscripts that stand for trees are those of nodes
are_below : (nodes : List PlainNode) (places : List (Option ℕ)) (subs : Subscripts) → HoldAll nodes places subs → AreBelow (length nodes) places
are_below nodes [] no_more h = tt
are_below nodes (None ∷ places) (omitted subs) h = (tt, are_below nodes places subs h)
are_below nodes (Some k ∷ places) (given e subs) h = (h.0.below, are_below nodes places subs h.1)
are_below nodes places subs h = absurd h

mutual
  earlier : (nodes : List PlainNode) (e : Expr) → NameEarlier 0 nodes → NameEarlier 0 (placed nodes e).0
  earlier nodes (constant items) w = names_added nodes (node.constant items) w tt
  earlier nodes (value n) w = names_added nodes (node.value n) w tt
  earlier nodes (niladic n) w = names_added nodes (node.niladic n) w tt
  earlier nodes (paren e) w =
      let p : Placed = placed nodes e in
      names_added p.0 (node.paren p.1) (earlier nodes e w) (stands nodes e).holds.below
  earlier nodes (indexed v subs) w =
      let s : PlacedList = placed_subscripts nodes subs in
      let p : Placed = placed s.0 v in
      let k = stands s.0 v in
      names_added p.0 (node.indexed p.1 s.1) (earlier s.0 v (all_earlier nodes subs w)) (k.holds.below, are_below p.0 s.1 subs (keeps_all s.0 p.0 s.1 subs k.keeps (stand_all nodes subs).hold))
  earlier nodes (monadic f right) w =
      let p : Placed = placed nodes right in
      names_added p.0 (node.apply f None p.1 None) (earlier nodes right w) (tt, (stands nodes right).holds.below, tt)
  earlier nodes (monadic_along f axis right) w =
      let r : Placed = placed nodes right in
      let p : Placed = placed r.0 axis in
      let k = stands r.0 axis in
      names_added p.0 (node.apply f None r.1 (Some p.1)) (earlier r.0 axis (earlier nodes right w)) (tt, (k.keeps r.1 right (stands nodes right).holds).below, k.holds.below)
  earlier nodes (dyadic f left right) w =
      let r : Placed = placed nodes right in
      let p : Placed = placed r.0 left in
      let k = stands r.0 left in
      names_added p.0 (node.apply f (Some p.1) r.1 None) (earlier r.0 left (earlier nodes right w)) (k.holds.below, (k.keeps r.1 right (stands nodes right).holds).below, tt)
  earlier nodes (dyadic_along f left axis right) w =
      let r : Placed = placed nodes right in
      let a : Placed = placed r.0 axis in
      let p : Placed = placed a.0 left in
      let k = stands r.0 axis in
      let l = stands a.0 left in
      names_added p.0 (node.apply f (Some p.1) r.1 (Some a.1)) (earlier a.0 left (earlier r.0 axis (earlier nodes right w)))
      (l.holds.below, (l.keeps r.1 right (k.keeps r.1 right (stands nodes right).holds)).below, (l.keeps a.1 axis k.holds).below)
  earlier nodes (assign n right) w =
      let p : Placed = placed nodes right in
      names_added p.0 (node.assign n p.1) (earlier nodes right w) (stands nodes right).holds.below
  earlier nodes (assign_at n subs right) w =
      let r : Placed = placed nodes right in
      let s : PlacedList = placed_subscripts r.0 subs in
      let k = stand_all r.0 subs in
      names_added s.0 (node.assign_at n s.1 r.1) (all_earlier r.0 subs (earlier nodes right w)) (are_below s.0 s.1 subs k.hold, (k.keeps r.1 right (stands nodes right).holds).below)

  all_earlier : (nodes : List PlainNode) (subs : Subscripts) → NameEarlier 0 nodes → NameEarlier 0 (placed_subscripts nodes subs).0
  all_earlier nodes no_more w = w
  all_earlier nodes (omitted more) w = all_earlier nodes more w
  all_earlier nodes (given e more) w = let s : PlacedList = placed_subscripts nodes more in earlier s.0 e (all_earlier nodes more w)

statement_in_order : (label : Option (List ℕ)) (s : Statement) → IsTreeInOrder (nodes_of_statement label s)
statement_in_order label nothing = record { nodes = tt; form = tt }
statement_in_order label (branch e) = record { nodes = earlier [] e tt; form = (stands [] e).holds.below }
statement_in_order label (whole e) = record { nodes = earlier [] e tt; form = (stands [] e).holds.below }
statement_in_order label (execute e) = record { nodes = earlier [] e tt; form = (stands [] e).holds.below }

-- each node that is parsed stands after those that it names
pub tree_in_order : (classes : List Class) (tokens : List PlainToken) (len : ℕ) (t : PlainTree) → parsed classes tokens len ≡ Ok t → IsTreeInOrder t
tree_in_order classes tokens len t e = let (line, h, same) = tree_is_line classes tokens len t e in subst IsTreeInOrder (sym same) (statement_in_order line.label line.statement)
