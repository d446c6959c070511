-- Laws of the size of an expansion.
use Rattle.std.proofs.Common.{◌<◌, ◌≤◌, ◌^◌, arith}
use Rattle.pgo_sections.specs.Expansion.{Expansion, With, In, Skip, Await, Assert, Print, If, Either, End, Expansions, no_expansions, more_expansions}
use Rattle.pgo_sections.specs.Nodes.{nodes, arms_total, most_names, most_of_arms}

mutual
  -- a path binds no more names than the expansion has nodes
  pub names_below_nodes : (x : Expansion) → most_names x ≤ nodes x
  names_below_nodes (With x e rest) = omega (arith, names_below_nodes rest)
  names_below_nodes (In x e rest) = omega (arith, names_below_nodes rest)
  names_below_nodes (Skip rest) = omega (arith, names_below_nodes rest)
  names_below_nodes (Await e rest) = omega (arith, names_below_nodes rest)
  names_below_nodes (Assert e rest) = omega (arith, names_below_nodes rest)
  names_below_nodes (Print e rest) = omega (arith, names_below_nodes rest)
  names_below_nodes (If e a b) = omega (arith, names_below_nodes a, names_below_nodes b)
  names_below_nodes (Either xs) = omega (arith, names_of_arms xs)
  names_below_nodes (End changes label) = omega arith

  pub names_of_arms : (xs : Expansions) → most_of_arms xs ≤ arms_total xs
  names_of_arms no_expansions = omega arith
  names_of_arms (more_expansions x xs) = omega (arith, names_below_nodes x, names_of_arms xs)

-- each expansion has a node
pub some_nodes : (x : Expansion) → 0 < nodes x
some_nodes (With x e rest) = omega arith
some_nodes (In x e rest) = omega arith
some_nodes (Skip rest) = omega arith
some_nodes (Await e rest) = omega arith
some_nodes (Assert e rest) = omega arith
some_nodes (Print e rest) = omega arith
some_nodes (If e a b) = omega arith
some_nodes (Either xs) = omega arith
some_nodes (End changes label) = omega arith

-- so an expansion of at most 1,048,576 nodes binds fewer than 2^64 names on a path
pub few_names : (x : Expansion) → nodes x ≤ 1048576 → most_names x < 2 ^ 64
few_names x few = omega (arith, names_below_nodes x, few)
