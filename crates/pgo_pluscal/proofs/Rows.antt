-- Texts of small trees and specifications, worked out by hand.
use Rattle.std.specs.Prelude.{◌≡◌, List, [], ◌∷◌, Some, None, codes, refl}
use Rattle.pgo_base.specs.declared.expr.Infix.TheVariants as infixs
use Rattle.pgo_base.specs.Tree.{Tree, name, binary, index, set_of, no_trees, more_trees}
use Rattle.pgo_base.specs.Lookup.{Name}
use Rattle.pgo_syntax.specs.Statement.{skip}
use Rattle.pgo_syntax.specs.declared.archetype.ParameterKind.TheVariants as kinds
use Rattle.pgo_syntax.specs.declared.binding.Origin.TheVariants.{Equals, In as InSet}
use Rattle.pgo_syntax.specs.declared.name.PlacedName.{PlacedName}
use Rattle.pgo_syntax.specs.declared.process.Argument.TheVariants as arguments
use Rattle.pgo_syntax.specs.declared.spec.Spec.{Spec}
use Rattle.pgo_sections.specs.Expansion.{With, In, Skip, Await, Assert, Print, If, Either, End, no_expansions, more_expansions}
use Rattle.pgo_pluscal.specs.PlusCalOf.{pluscal_of}
use Rattle.pgo_pluscal.specs.Text.{tree_text, pluscal_text}

abbrev placed : List Name → List PlacedName
placed [] = []
placed (x ∷ xs) = record { name = x; place = 0 } ∷ placed xs

abbrev at_self : Name → Tree
at_self x = index (name x) (more_trees (name (codes "self")) no_trees)

-- a local by its name alone, another's part as it is, and two blocks that are closed behind the end
a_local_by_its_name : tree_text (codes "P_q" ∷ []) 2 (With (codes "x") (at_self (codes "P_q")) (Await (at_self (codes "y")) (In (codes "z") (name (codes "S")) (End ((codes "P_q", codes "x") ∷ (codes "g", codes "z") ∷ []) (codes "Done")))))
    ≡ codes "    with (x = P_q) {\n      await y[self];\n      with (z \\in S) {\n        P_q := x;\n        g := z;\n        goto Done;\n      }\n    }\n"
a_local_by_its_name = refl

-- branch points, and a `skip` that prints nothing
branches : tree_text [] 0 (Skip (Print (name (codes "a")) (Either (more_expansions (If (binary infixs.Less (name (codes "a")) (name (codes "b"))) (End [] (codes "l")) (Assert (name (codes "c")) (End [] (codes "m")))) (more_expansions (End [] (codes "k")) no_expansions)))))
    ≡ codes "print a;\neither {\n  if ((a < b)) {\n    goto l;\n  } else {\n    assert c;\n    goto m;\n  }\n} or {\n  goto k;\n}\n"
branches = refl

-- `archetype A(v) variables w; { l: skip; }`, `process (P = a) == instance A(b)`, a global and two definitions
abbrev counter : Spec
counter = record {
  name = record { name = codes "M"; place = 0 };
  extends = [];
  constants = [];
  definitions = [];
  algorithm = record { name = codes "C"; place = 0 };
  define = Some (record { name = record { name = codes "D"; place = 0 }; params = []; body = binary infixs.Add (name (codes "a")) (name (codes "b")) } ∷ record { name = record { name = codes "F"; place = 0 }; params = placed (codes "x" ∷ codes "y" ∷ []); body = set_of (more_trees (name (codes "x")) no_trees) } ∷ []);
  macros = [];
  mappings = [];
  archetypes = record { name = record { name = codes "A"; place = 0 }; params = record { name = record { name = codes "v"; place = 0 }; kind = kinds.Value } ∷ []; locals = record { name = record { name = codes "w"; place = 0 }; initial = None } ∷ []; body = (Some (record { name = codes "l"; place = 0 }), skip 0) ∷ [] } ∷ [];
  globals = record { name = record { name = codes "g"; place = 0 }; initial = Some (InSet (name (codes "S"))) } ∷ [];
  processes = record { name = record { name = codes "P"; place = 0 }; ids = Equals (name (codes "a")); archetype = record { name = codes "A"; place = 0 }; arguments = arguments.Value 0 (name (codes "b")) ∷ []; clauses = [] } ∷ [];
}

the_whole : pluscal_text (pluscal_of counter)
    ≡ codes "--algorithm C {\n  variables g \\in S;\n  define {\n    D == a + b\n    F(x, y) == {x}\n  }\n  process (P \\in {a})\n  variables P_v = b, P_w = defaultInitValue;\n  {\n    P_l:\n    goto Done;\n  }\n}\n"
the_whole = refl
