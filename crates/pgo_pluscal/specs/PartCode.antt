-- Expansions as trees of numbers, by which a proof tells them apart.
use Rattle.std.specs.Prelude.{◌≡◌, ℕ, cond, ◌==◌, List, refl}
use Rattle.std.specs.Coded.{Coded}
use base.Stored.{Gv, gnil, gnum, gcons}
use Rattle.pgo_base.specs.Code.{num_of}
use Rattle.pgo_base.specs.Lookup.{Name}
use Rattle.pgo_syntax.specs.Packed.{Packed, packed_name, packed_tree, packed_list, packed×, coded_of}
use Rattle.pgo_sections.specs.Expansion.{Expansion, With, In, Skip, Await, Assert, Print, If, Either, End, Expansions, no_expansions, more_expansions}

abbrev packed_changes : Packed (List (Name × Name))
packed_changes = packed_list (packed× packed_name packed_name)

abbrev mutual
  pub expansion_code : Expansion → Gv
  expansion_code (With x e rest) = gcons (gnum 0) (gcons (packed_name.pack x) (gcons (packed_tree.pack e) (expansion_code rest)))
  expansion_code (In x e rest) = gcons (gnum 1) (gcons (packed_name.pack x) (gcons (packed_tree.pack e) (expansion_code rest)))
  expansion_code (Skip rest) = gcons (gnum 2) (gcons gnil (gcons gnil (expansion_code rest)))
  expansion_code (Await e rest) = gcons (gnum 3) (gcons gnil (gcons (packed_tree.pack e) (expansion_code rest)))
  expansion_code (Assert e rest) = gcons (gnum 4) (gcons gnil (gcons (packed_tree.pack e) (expansion_code rest)))
  expansion_code (Print e rest) = gcons (gnum 5) (gcons gnil (gcons (packed_tree.pack e) (expansion_code rest)))
  expansion_code (If e a b) = gcons (gnum 6) (gcons (expansion_code a) (gcons (packed_tree.pack e) (expansion_code b)))
  expansion_code (Either arms) = gcons (gnum 7) (gcons (expansions_code arms) (gcons gnil gnil))
  expansion_code (End changes label) = gcons (gnum 8) (gcons (packed_name.pack label) (gcons (packed_changes.pack changes) gnil))

  pub expansions_code : Expansions → Gv
  expansions_code no_expansions = gnil
  expansions_code (more_expansions x xs) = gcons (expansion_code x) (expansions_code xs)

-- what stands first, read in every way
record Slot : Type 0 where
  pub raw : Gv
  pub one : Expansion
  pub many : Expansions

abbrev build : ℕ → Slot → Gv → Expansion → Expansion
build n a e rest = cond (n == 0) (With (packed_name.unpack a.raw) (packed_tree.unpack e) rest) (cond (n == 1) (In (packed_name.unpack a.raw) (packed_tree.unpack e) rest) (cond (n == 2) (Skip rest) (cond (n == 3) (Await (packed_tree.unpack e) rest) (cond (n == 4) (Assert (packed_tree.unpack e) rest) (cond (n == 5) (Print (packed_tree.unpack e) rest) (cond (n == 6) (If (packed_tree.unpack e) a.one rest) (cond (n == 7) (Either a.many) (End (packed_changes.unpack e) (packed_name.unpack a.raw)))))))))

mutual
  pub expansion_from : Gv → Expansion
  expansion_from (gcons k (gcons a (gcons e rest))) = build (num_of k) (record { raw = a; one = expansion_from a; many = expansions_from a }) e (expansion_from rest)
  expansion_from _ = Either no_expansions

  pub expansions_from : Gv → Expansions
  expansions_from (gcons a b) = more_expansions (expansion_from a) (expansions_from b)
  expansions_from _ = no_expansions

mutual
  unfolding expansion_from expansions_from

  pub expansion_back : (x : Expansion) → expansion_from (expansion_code x) ≡ x
  expansion_back (With x e rest) = λ i. With (packed_name.back x i) (packed_tree.back e i) (expansion_back rest i)
  expansion_back (In x e rest) = λ i. In (packed_name.back x i) (packed_tree.back e i) (expansion_back rest i)
  expansion_back (Skip rest) = λ i. Skip (expansion_back rest i)
  expansion_back (Await e rest) = λ i. Await (packed_tree.back e i) (expansion_back rest i)
  expansion_back (Assert e rest) = λ i. Assert (packed_tree.back e i) (expansion_back rest i)
  expansion_back (Print e rest) = λ i. Print (packed_tree.back e i) (expansion_back rest i)
  expansion_back (If e a b) = λ i. If (packed_tree.back e i) (expansion_back a i) (expansion_back b i)
  expansion_back (Either arms) = λ i. Either (expansions_back arms i)
  expansion_back (End changes label) = λ i. End (packed_changes.back changes i) (packed_name.back label i)

  pub expansions_back : (xs : Expansions) → expansions_from (expansions_code xs) ≡ xs
  expansions_back no_expansions = refl
  expansions_back (more_expansions x xs) = λ i. more_expansions (expansion_back x i) (expansions_back xs i)

abbrev pub packed_expansion : Packed Expansion
packed_expansion = record { pack = expansion_code; unpack = expansion_from; back = expansion_back }

abbrev pub coded_expansion : Coded Expansion
coded_expansion = coded_of packed_expansion
