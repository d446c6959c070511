-- The module of a specification with definitions, constants, all kinds of declarations and two processes; and that what is asked
-- of names can be met.
use Rattle.std.proofs.Common.{◌≡◌, Bool, true, false, List, [], ◌∷◌, codes, Option, Some, None, refl, ap, sym, ◌∙◌}
use Rattle.std.specs.Prelude.{◌||◌}
use Rattle.pgo_base.specs.declared.expr.Infix.TheVariants as op
use Rattle.pgo_base.specs.Tree.{Tree, name, text, binary, set_of, index, call, trees}
use Rattle.pgo_base.specs.Lookup.{Name, same_name, find}
use Rattle.pgo_model.specs.ModuleText.{Line, line, module_lines}
use Rattle.pgo_model.specs.Written.{written, made, self_name, done}
use Rattle.pgo_model.specs.Names.{same_name-is, same_name-self, is_among}
use Rattle.pgo_syntax.specs.Statement.{Statement, assign}
use Rattle.pgo_syntax.specs.declared.archetype.Archetype.{Archetype}
use Rattle.pgo_syntax.specs.declared.archetype.Extent.TheVariants as extent
use Rattle.pgo_syntax.specs.declared.archetype.ParameterKind.TheVariants as kind
use Rattle.pgo_syntax.specs.declared.binding.Origin.{Origin}
use Rattle.pgo_syntax.specs.declared.binding.Origin.TheVariants.{Equals, In}
use Rattle.pgo_syntax.specs.declared.declaration.Definition.{Definition}
use Rattle.pgo_syntax.specs.declared.name.PlacedName.{PlacedName}
use Rattle.pgo_syntax.specs.declared.process.Argument.TheVariants as argument
use Rattle.pgo_syntax.specs.declared.process.Process.{Process}
use Rattle.pgo_syntax.specs.declared.spec.Spec.{Spec}
use Rattle.pgo_bound.specs.Runs.{archetype_named}
use Rattle.pgo_sections.specs.Expansion as tree
use Rattle.pgo_sections.specs.Expansion.{Expansion, no_expansions, more_expansions}
use Rattle.pgo_pluscal.specs.declared.pluscal.ExpandedProcess.{ExpandedProcess}
use Rattle.pgo_pluscal.specs.declared.pluscal.PlusCal.{PlusCal}
use Rattle.pgo_pluscal.specs.PlusCalOf.{header_of, process_of as expanded_process}
use Rattle.pgo_meaning.specs.Expansions.{trees_of}
use Rattle.pgo_translate.specs.ModuleOf.{module_with}
use Rattle.pgo_translate.specs.Premises.{IsFree, ModuleNames, TreeNamed, StartNames, further_names, is_further}
use Rattle.pgo_translate.proofs.StartValues.{or_left, or_right}
use Rattle.pgo_sections.proofs.PlainTest.{not_made}
use Rattle.pgo_sections.specs.PlainTest.{looks_made}
use Rattle.pgo_bound.specs.State.{variables_of}
use Rattle.pgo_model.specs.Sequences.{operators}
use Rattle.pgo_base.specs.Data.{Data}
use Rattle.std.specs.List.{list_any}
use Rattle.std.specs.Prelude.{is_some}

abbrev at_0 : Name → PlacedName
at_0 x = record { name = x; place = 0 }

abbrev n : Name → Tree
n x = name x

abbrev own : Name → Name → Tree
own p x = index (name (written p x)) (trees (name self_name ∷ []))

abbrev defined : Name → List PlacedName → Tree → Definition
defined x ps e = record { name = at_0 x; params = ps; body = e }

abbrev two_archetype : Archetype
two_archetype = record {
  name = at_0 (codes "A");
  params = record { name = at_0 (codes "g"); kind = kind.Ref extent.Whole } ∷ record { name = at_0 (codes "k"); kind = kind.Value } ∷ [];
  locals = record { name = at_0 (codes "v"); initial = Some (Equals (n self_name)) } ∷ record { name = at_0 (codes "w"); initial = Some (In (n (codes "S"))) } ∷ record { name = at_0 (codes "z"); initial = None } ∷ [];
  body = (Some (at_0 (codes "l")), assign 0 ((record { left = record { name = at_0 (codes "g"); path = [] }; right = binary op.Add (n (codes "g")) (n (codes "k")) }) ∷ [])) ∷ [];
}

abbrev process_of : Name → Origin → Name → Tree → Process
process_of x ids g e = record { name = at_0 x; ids = ids; archetype = at_0 (codes "A"); arguments = argument.Ref (at_0 g) extent.Whole ∷ argument.Value 0 e ∷ []; clauses = [] }

abbrev first : Process
first = process_of (codes "P") (Equals (text (codes "p"))) (codes "x") (n (codes "K"))

abbrev second : Process
second = process_of (codes "Q") (In (n (codes "S"))) (codes "y") (call (codes "Op") (trees (n (codes "N") ∷ [])))

abbrev two : Spec
two = record {
  name = at_0 (codes "Two");
  extends = [];
  constants = at_0 (codes "N") ∷ at_0 (codes "K") ∷ [];
  definitions = defined (codes "Op") (at_0 (codes "a") ∷ []) (binary op.Add (n (codes "a")) (n (codes "N"))) ∷ [];
  algorithm = at_0 (codes "Two");
  define = Some (defined (codes "S") [] (set_of (trees (n (codes "N") ∷ n (codes "K") ∷ []))) ∷ defined (codes "T") [] (binary op.And (binary op.Greater (n (codes "N")) (n (codes "K"))) (binary op.Less (n (codes "K")) (n (codes "N")))) ∷ []);
  macros = [];
  mappings = [];
  archetypes = two_archetype ∷ [];
  globals = record { name = at_0 (codes "x"); initial = Some (Equals (n (codes "N"))) } ∷ record { name = at_0 (codes "y"); initial = Some (In (n (codes "S"))) } ∷ record { name = at_0 (codes "u"); initial = None } ∷ [];
  processes = first ∷ second ∷ [];
}

abbrev val_1 : Name
val_1 = codes "val__1"

abbrev q_1 : Name
q_1 = codes "q__1"

abbrev labels : Name → Name → List (Name × Expansion)
labels p g = (
  written p (codes "l"),
  tree.Either (
      more_expansions (tree.Await (binary op.Greater (n g) (own p (codes "k"))) (tree.With val_1 (binary op.Add (n g) (n (codes "N"))) (tree.End ((g, val_1) ∷ []) (written p (codes "m"))))) (
      more_expansions (tree.In q_1 (n (codes "S")) (tree.Print (n q_1) (tree.Assert (binary op.Greater (n q_1) (n (codes "K"))) (tree.End [] (written p (codes "m")))))) (
      more_expansions (tree.End [] (written p (codes "m"))) no_expansions))),
) ∷ (
  written p (codes "m"),
  tree.If (binary op.Equal (own p (codes "v")) (own p (codes "w"))) (tree.End [] (written p (codes "l")))
      (tree.With val_1 (call (codes "Op") (trees (own p (codes "v") ∷ []))) (tree.End ((written p (codes "v"), val_1) ∷ []) done)),
) ∷ []

-- the expansion with other trees, which have all that a tree may have
abbrev with_trees : ExpandedProcess → List (Name × Expansion) → ExpandedProcess
with_trees q ts = record { name = q.name; ids = q.ids; variables = q.variables; trees = ts }

abbrev expanded : PlusCal
expanded = record {
  header = header_of two;
  name = codes "Two";
  globals = two.globals;
  define = two.define;
  processes = with_trees (expanded_process two first) (labels (codes "P") (codes "x")) ∷ with_trees (expanded_process two second) (labels (codes "Q") (codes "y")) ∷ [];
}

abbrev two_lines : List Line
two_lines =
    line (codes "---- MODULE Two ----") ∷
    line (codes "EXTENDS Integers, Sequences, FiniteSets, TLC") ∷
    line (codes "CONSTANTS N, K, defaultInitValue") ∷
    line (codes "Op(a) == a + N") ∷
    line (codes "S == {N, K}") ∷
    line (codes "T ==") ∷
    line (codes "  /\\ N > K") ∷
    line (codes "  /\\ K < N") ∷
    line (codes "VARIABLES x, y, u, pc, P_k, P_v, P_w, P_z, Q_k, Q_v, Q_w, Q_z") ∷
    line (codes "vars == <<x, y, u, pc, P_k, P_v, P_w, P_z, Q_k, Q_v, Q_w, Q_z>>") ∷
    line (codes "ProcSet == {\"p\"} \\cup S") ∷
    line (codes "Init ==") ∷
    line (codes "  /\\ x = N") ∷
    line (codes "  /\\ y \\in S") ∷
    line (codes "  /\\ u = defaultInitValue") ∷
    line (codes "  /\\ pc = [self \\in ProcSet |-> (CASE (self \\in {\"p\"}) -> \"P_l\" [] (self \\in S) -> \"Q_l\")]") ∷
    line (codes "  /\\ P_k = [self \\in {\"p\"} |-> K]") ∷
    line (codes "  /\\ P_v = [self \\in {\"p\"} |-> self]") ∷
    line (codes "  /\\ P_w \\in [{\"p\"} -> S]") ∷
    line (codes "  /\\ P_z = [self \\in {\"p\"} |-> defaultInitValue]") ∷
    line (codes "  /\\ Q_k = [self \\in S |-> Op(N)]") ∷
    line (codes "  /\\ Q_v = [self \\in S |-> self]") ∷
    line (codes "  /\\ Q_w \\in [S -> S]") ∷
    line (codes "  /\\ Q_z = [self \\in S |-> defaultInitValue]") ∷
    line (codes "P_l(self) ==") ∷
    line (codes "  /\\ pc[self] = \"P_l\"") ∷
    line (codes "  /\\ (((x > P_k[self]) /\\ (\\E val__1 \\in {(x + N)} : (((x' = val__1) /\\ (pc' = [pc EXCEPT ![self] = \"P_m\"])) /\\ UNCHANGED <<y, u, P_k, P_v, P_w, P_z, Q_k, Q_v, Q_w, Q_z>>))) \\/ (\\E q__1 \\in S : (((PrintT(q__1) /\\ Assert((q__1 > K), \"assert\")) /\\ (pc' = [pc EXCEPT ![self] = \"P_m\"])) /\\ UNCHANGED <<x, y, u, P_k, P_v, P_w, P_z, Q_k, Q_v, Q_w, Q_z>>))) \\/ ((pc' = [pc EXCEPT ![self] = \"P_m\"]) /\\ UNCHANGED <<x, y, u, P_k, P_v, P_w, P_z, Q_k, Q_v, Q_w, Q_z>>)") ∷
    line (codes "P_m(self) ==") ∷
    line (codes "  /\\ pc[self] = \"P_m\"") ∷
    line (codes "  /\\ IF (P_v[self] = P_w[self]) THEN ((pc' = [pc EXCEPT ![self] = \"P_l\"]) /\\ UNCHANGED <<x, y, u, P_k, P_v, P_w, P_z, Q_k, Q_v, Q_w, Q_z>>) ELSE (\\E val__1 \\in {Op(P_v[self])} : (((pc' = [pc EXCEPT ![self] = \"Done\"]) /\\ (P_v' = [P_v EXCEPT ![self] = val__1])) /\\ UNCHANGED <<x, y, u, P_k, P_w, P_z, Q_k, Q_v, Q_w, Q_z>>))") ∷
    line (codes "P(self) == P_l(self) \\/ P_m(self)") ∷
    line (codes "Q_l(self) ==") ∷
    line (codes "  /\\ pc[self] = \"Q_l\"") ∷
    line (codes "  /\\ (((y > Q_k[self]) /\\ (\\E val__1 \\in {(y + N)} : (((y' = val__1) /\\ (pc' = [pc EXCEPT ![self] = \"Q_m\"])) /\\ UNCHANGED <<x, u, P_k, P_v, P_w, P_z, Q_k, Q_v, Q_w, Q_z>>))) \\/ (\\E q__1 \\in S : (((PrintT(q__1) /\\ Assert((q__1 > K), \"assert\")) /\\ (pc' = [pc EXCEPT ![self] = \"Q_m\"])) /\\ UNCHANGED <<x, y, u, P_k, P_v, P_w, P_z, Q_k, Q_v, Q_w, Q_z>>))) \\/ ((pc' = [pc EXCEPT ![self] = \"Q_m\"]) /\\ UNCHANGED <<x, y, u, P_k, P_v, P_w, P_z, Q_k, Q_v, Q_w, Q_z>>)") ∷
    line (codes "Q_m(self) ==") ∷
    line (codes "  /\\ pc[self] = \"Q_m\"") ∷
    line (codes "  /\\ IF (Q_v[self] = Q_w[self]) THEN ((pc' = [pc EXCEPT ![self] = \"Q_l\"]) /\\ UNCHANGED <<x, y, u, P_k, P_v, P_w, P_z, Q_k, Q_v, Q_w, Q_z>>) ELSE (\\E val__1 \\in {Op(Q_v[self])} : (((pc' = [pc EXCEPT ![self] = \"Done\"]) /\\ (Q_v' = [Q_v EXCEPT ![self] = val__1])) /\\ UNCHANGED <<x, y, u, P_k, P_v, P_w, P_z, Q_k, Q_w, Q_z>>))") ∷
    line (codes "Q(self) == Q_l(self) \\/ Q_m(self)") ∷
    line (codes "Terminating ==") ∷
    line (codes "  /\\ \\A self \\in ProcSet : (pc[self] = \"Done\")") ∷
    line (codes "  /\\ UNCHANGED <<x, y, u, pc, P_k, P_v, P_w, P_z, Q_k, Q_v, Q_w, Q_z>>") ∷
    line (codes "Next == ((\\E self \\in {\"p\"} : P(self)) \\/ (\\E self \\in S : Q(self))) \\/ Terminating") ∷
    line (codes "Spec == Init /\\ [][Next]_vars") ∷
    line (codes "====") ∷ []

pub same_module : module_lines (module_with expanded) ≡ two_lines
same_module = refl

-- its own trees
abbrev own_tree : Name → Name → Name × Expansion
own_tree p g = (written p (codes "l"), tree.With (made (codes "val") 1) (binary op.Add (n g) (own p (codes "k"))) (tree.End ((g, made (codes "val") 1) ∷ []) done))

own_trees : trees_of two ≡ own_tree (codes "P") (codes "x") ∷ own_tree (codes "Q") (codes "y") ∷ []
own_trees = refl

-- what passes no test on a list passes none on its names
none_passes : (f : Name → Bool) (xs : List Name) → list_any f xs ≡ false → (x : Name) → is_among x xs ≡ true → f x ≡ false
none_passes f [] e x h = absurd (cc)
none_passes f (y ∷ ys) e x h = go (same_name x y) refl h (none_passes f ys (or_right (f y) (list_any f ys) e) x)
  where
    go : (b : Bool) → same_name x y ≡ b → (b || is_among x ys) ≡ true → (is_among x ys ≡ true → f x ≡ false) → f x ≡ false
    go true q k r = ap f (same_name-is x y q) ∙ or_left (f y) (list_any f ys) e
    go false q k r = r k

no_operator : (o : Option (List Data → Option Data)) → is_some o ≡ false → o ≡ None
no_operator None h = refl
no_operator (Some f) h = absurd (cc)

-- what the laws ask of names holds of it
pub two_named : ModuleNames two
two_named = record {
  self_variable = refl;
  self_further = refl;
  written = λ x h. not_made x (none_passes looks_made (variables_of two) refl x h);
  further = λ x h. not_made x (none_passes looks_made (further_names two) refl x h);
  apart = λ x h. none_passes (is_further two) (variables_of two) refl x h;
  differ = ((refl, (refl, (refl, (refl, (refl, tt))))), ((refl, (refl, (refl, (refl, tt)))), ((refl, (refl, (refl, tt))), ((refl, (refl, tt)), ((refl, tt), (tt, tt))))));
  operators = λ x h. no_operator (find x operators) (none_passes (λ y. is_some (find y operators)) (further_names two) refl x h);
  assert = refl;
  content = refl;
}

-- each of its trees is named as they ask
tree_named : (p g : Name) → IsFree two (made (codes "val") 1) → (is_further two g ≡ false) × (is_further two (written p (codes "k")) ≡ false) → TreeNamed two (own_tree p g).1
tree_named p g free h = (free, (h.0, (h.1, (refl, tt))), (ap (λ b. b || false) (same_name-self (made (codes "val") 1)), tt))

first_named : TreeNamed two (own_tree (codes "P") (codes "x")).1
first_named = tree_named (codes "P") (codes "x") (record { self = refl; variable = refl }) (refl, refl)

second_named : TreeNamed two (own_tree (codes "Q") (codes "y")).1
second_named = tree_named (codes "Q") (codes "y") (record { self = refl; variable = refl }) (refl, refl)

pub two_starts : StartNames two []
two_starts = record {
  bodies = (tt, ((refl, refl), ((refl, (refl, tt)), (((refl, refl), (refl, refl)), tt))));
  globals = (refl, (refl, (tt, tt)));
  processes = (record { ids = tt; arguments = (tt, (refl, tt)) }, (record { ids = refl; arguments = (tt, ((refl, (refl, tt)), tt)) }, tt));
  archetypes = ((refl, (refl, (tt, tt))), tt);
  default = refl;
  default_defined = refl;
  places = (at_label, (at_label, tt));
}
  where
    at_label : (a : Archetype) (l : PlacedName) (t : Statement) (rest : List (Option PlacedName × Statement)) → archetype_named (codes "A") two.archetypes ≡ Some a → a.body ≡ (Some l, t) ∷ rest → same_name l.name done ≡ false
    at_label a l t rest e f = ap (λ b. is_done b) (sym (ap (λ o. body_of o) e ∙ f))
      where
        is_done : List (Option PlacedName × Statement) → Bool
        is_done [] = false
        is_done (p ∷ ps) = elim p.0 as (λ _. Bool) [ None ↦ false | Some x ↦ same_name x.name done ]

        body_of : Option Archetype → List (Option PlacedName × Statement)
        body_of None = []
        body_of (Some b) = b.body
