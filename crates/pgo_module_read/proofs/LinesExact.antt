-- The lines that are read are the parts of a module, and the parts of a module are read.
use Rattle.std.proofs.Common.{◌≡◌, Bool, true, false, nat_eq, List, [], ◌∷◌, ◌++◌, length, map, Some, None, refl, ap, sym, ◌∙◌, subst, arith, cond, codes}
use Rattle.std.proofs.lemmas.Bool.{eqb-true}
use Rattle.std.proofs.lemmas.List.{append_assoc, append-nil, map-append}
use Rattle.pgo_base.specs.Lookup.{Name}
use Rattle.pgo_base.specs.Tree.{Tree}
use Rattle.pgo_base.specs.declared.module.Action.{Action}
use Rattle.pgo_base.specs.declared.module.Defined as base
use Rattle.pgo_lexer.specs.declared.symbol.Bracket.TheVariants as bracket
use Rattle.pgo_lexer.specs.declared.symbol.Symbol.TheVariants as symbol
use Rattle.pgo_lexer.specs.declared.token.Lexeme.{Lexeme}
use Rattle.pgo_expr_read.specs.Lookahead.{tokens_of, has_mapped}
use Rattle.pgo_model.specs.Module.{Module, WrittenProcess, proc_set_of, process_body, process_definitions, terminating_body, next_body, action_definition}
use Rattle.pgo_model.specs.ModuleView.{defined_view}
use Rattle.pgo_model.specs.Val.{Defined, Means}
use Rattle.pgo_model.specs.Written.{self_name, proc_set, terminating, default_init_value}
use Rattle.pgo_syntax.specs.declared.name.PlacedName.{PlacedName}
use Rattle.pgo_mpcal_read.specs.Elements.{Spot, at, word, IsName, Items, Row}
use Rattle.pgo_mpcal_read.specs.Elements as elements
use Rattle.pgo_mpcal_read.specs.Reading.{Outcome}
use Rattle.pgo_mpcal_read.specs.ReadingSpec.{whole}
use Rattle.pgo_syntax.specs.PlacedNames.{names_of}
use Rattle.pgo_module_spells.specs.Grammar.{IsExpression, IsDefined, IsHeading, AreListed, IsEnding, AreParts}
use Rattle.pgo_module_spells.specs.Grammar as g
use Rattle.pgo_module_spells.specs.Parts.{Parts, parts_of, tuple_of}
use Rattle.pgo_module_spells.specs.Parts as parts
use Rattle.pgo_module_read.specs.declared.lines.Lines.{Lines}
use Rattle.pgo_module_read.specs.Reading.{declared_of, further_of, lines_of, read_lines, all_lines}
use Rattle.pgo_module_read.proofs.Definitions.{IsBase, Written, IsAction, IsBody, base_of}
use Rattle.pgo_module_read.proofs.Definitions as d
use Rattle.pgo_module_read.proofs.LinesRead.{AreLines, AreFurther, sound_lines, reach_lines}
use Rattle.pgo_module_read.proofs.Pairs.{pair, as_mapped}

-- ---- the parts that lines have

abbrev pub defined_action : Action → Defined
defined_action a = Means a.name (self_name ∷ []) a.body

abbrev pub further_in : Lines → List Defined
further_in l =
    Means (codes "vars") [] l.further.vars ∷ Means proc_set [] l.further.sets ∷ Means (codes "Init") [] l.further.init
    ∷ (map defined_action l.further.actions ++ (Means terminating [] l.further.ending ∷ Means (codes "Next") [] l.further.next ∷ []))

abbrev pub parts_in : Lines → Parts
parts_in l = record {
  name = l.declared.name;
  constants = l.declared.constants;
  definitions = map defined_view l.declared.definitions;
  variables = l.declared.variables;
  further = further_in l;
}

-- ---- what is read is so

base_row : {ts : List Lexeme} {ds : List base.Defined} → Row IsBase ts ds → Row IsDefined ts (map defined_view ds)
base_row elements.nothing = elements.nothing
base_row (elements.another o m) = elements.another o.is (base_row m)

body_defined : {w : Name} {ts : List Lexeme} {e : Tree} → IsBody w ts e → IsDefined ts (Means w [] e)
body_defined (d.body m) = g.without_parameters m

action_defined : {ts : List Lexeme} {a : Action} → IsAction ts a → IsDefined ts (defined_action a)
action_defined (d.action_of {s = s} {c = c} {d = d} m) = g.with_parameters c d (elements.items (elements.name {p = s} {x = self_name}) elements.no_more) m

action_row : {xs ys : List Lexeme} {as' : List Action} {ds : List Defined} → Row IsAction xs as' → Row IsDefined ys ds → Row IsDefined (xs ++ ys) (map defined_action as' ++ ds)
action_row elements.nothing m = m
action_row {ys = zs} {ds = ds} (elements.another {xs = xs} {ys = ys} {a = a} {as' = as'} o r) m =
    let P : List Lexeme → Type 0 = λ z. Row IsDefined z (defined_action a ∷ (map defined_action as' ++ ds)) in
    subst P (sym (append_assoc xs ys zs)) (elements.another (action_defined o) (action_row r m))

further_row : {as' bs cs xs es fs : List Lexeme} {v s i t n : Tree} {acts : List Action} → IsBody (codes "vars") as' v → IsBody proc_set bs s → IsBody (codes "Init") cs i → Row IsAction xs acts → IsBody terminating es t → IsBody (codes "Next") fs n
    → Row IsDefined (as' ++ (bs ++ (cs ++ (xs ++ (es ++ (fs ++ []))))))
    (Means (codes "vars") [] v ∷ Means proc_set [] s ∷ Means (codes "Init") [] i ∷ (map defined_action acts ++ (Means terminating [] t ∷ Means (codes "Next") [] n ∷ [])))
further_row a b c r e f =
    elements.another (body_defined a) (elements.another (body_defined b) (elements.another (body_defined c) (action_row r (elements.another (body_defined e) (elements.another (body_defined f) elements.nothing)))))

regrouped : (h c d v a b i x t n e : List Lexeme) → ((h ++ c) ++ (d ++ v)) ++ (((a ++ (b ++ i)) ++ (x ++ (t ++ n))) ++ e) ≡ h ++ (c ++ (d ++ (v ++ ((a ++ (b ++ (i ++ (x ++ (t ++ (n ++ [])))))) ++ e))))
regrouped h c d v a b i x t n e = simp (append_assoc, append-nil)

parts_put : (ts us : List Lexeme) (l : Lines) → ts ≡ us → AreParts us (parts_in l) → AreParts ts (parts_in l)
parts_put ts us l e d = let P : List Lexeme → Type 0 = λ z. AreParts z (parts_in l) in subst P (sym e) d

parts_read : {ts : List Lexeme} {l : Lines} → AreLines IsBase ts l → AreParts ts (parts_in l)
parts_read (as_mapped (pair (as_mapped (pair (pair {xs = h} {ys = c} {a = x0} {b = c0} kh kc) (pair {xs = o} {ys = v} {a = d0} {b = u0} ko kv)))
    (pair {ys = e} (as_mapped (pair (pair {xs = a} {a = v0} ka (pair {xs = b} {ys = i} {a = s0} {b = i0} kb ki)) (pair {xs = x} {a = a0} kx (pair {xs = t} {ys = n} {a = t0} {b = n0} kt kn)))) ke))) =
    parts_put _ _ (lines_of (declared_of ((x0, c0), (d0, u0)), (further_of ((v0, (s0, i0)), (a0, (t0, n0))), tt))) (regrouped h c o v a b i x t n e) (g.parts kh kc (base_row ko) kv (further_row ka kb ki kx kt kn) ke)

-- ---- all tokens

whole_by : (o : Outcome Lines) (l : Lines) → whole o ≡ Some l → o ≡ Some (l, [])
whole_by None l e = cc
whole_by (Some p) l e = go p.0 p.1 (nat_eq (length p.1) 0) refl e
  where
    go : (a : Lines) (rest : List Lexeme) (b : Bool) → nat_eq (length rest) 0 ≡ b → cond b (Some a) None ≡ Some l → ◌≡◌ {A = Outcome Lines} (Some (a, rest)) (Some (l, []))
    go a [] b is e = let same : a ≡ l = by b is e in ap (λ z. Some (z, [])) same
      where
        by : (b : Bool) → nat_eq (length {A = Lexeme} []) 0 ≡ b → cond b (Some a) None ≡ Some l → a ≡ l
        by true is e = cc
        by false is e = cc
    go a (x ∷ rest) true is e = absurd (let z = eqb-true (length (x ∷ rest)) 0 is in omega (arith, z))
    go a (x ∷ rest) false is e = cc

record AllRead (i : List Lexeme) (l : Lines) : Type 0 where
  plain : has_mapped (tokens_of i) ≡ false
  read : read_lines i ≡ Some (l, [])

all_read : (b : Bool) (i : List Lexeme) (l : Lines) → has_mapped (tokens_of i) ≡ b → cond b None (whole (read_lines i)) ≡ Some l → AllRead i l
all_read true i l is e = cc
all_read false i l is e = record { plain = is; read = whole_by (read_lines i) l e }

-- these tokens are those of lines that have these parts
pub record HasParts (i : List Lexeme) (l : Lines) : Type 0 where
  pub plain : has_mapped (tokens_of i) ≡ false
  pub parts : AreParts i (parts_in l)

pub all_sound : (i : List Lexeme) (l : Lines) → all_lines i ≡ Some l → HasParts i l
unfolding all_lines
all_sound i l e =
    let r = all_read (has_mapped (tokens_of i)) i l refl e in
    let k = sound_lines i l [] r.read in
    let P : List Lexeme → Type 0 = λ z. AreParts z (parts_in l) in
    record { plain = r.plain; parts = subst P (sym (k.split ∙ append-nil k.front)) (parts_read k.holds) }

-- ---- what is so is read

abbrev pub action_from : Name × Tree → Action
action_from a = record { name = a.0; body = a.1 }

-- a process's label actions, and its own definition
abbrev pub all_actions : List WrittenProcess → List Action
all_actions [] = []
all_actions (p ∷ ps) = map action_from p.actions ++ (record { name = p.name; body = process_body p } ∷ all_actions ps)

-- the lines of a module
abbrev pub lines_from : Module → Lines
lines_from m = record {
  declared = record { name = m.name; constants = m.constants ++ (default_init_value ∷ []); definitions = map base_of m.definitions; variables = m.variables };
  further = record { vars = tuple_of m.variables; sets = proc_set_of m; init = m.init; actions = all_actions m.processes; ending = terminating_body m; next = next_body m };
}

actions_defined : (as' : List (Name × Tree)) → map defined_action (map action_from as') ≡ map action_definition as'
actions_defined [] = refl
actions_defined (a ∷ as') = ap (λ z. action_definition a ∷ z) (actions_defined as')

pub processes_defined : (ps : List WrittenProcess) → map defined_action (all_actions ps) ≡ process_definitions ps
processes_defined [] = refl
processes_defined (p ∷ ps) =
    map-append defined_action (map action_from p.actions) (record { name = p.name; body = process_body p } ∷ all_actions ps)
    ∙ (λ i. actions_defined p.actions i ++ (Means p.name (self_name ∷ []) (process_body p) ∷ processes_defined ps i))

written_row : {ts : List Lexeme} {ds : List Defined} → Row IsDefined ts ds → Row Written ts (map base_of ds)
written_row elements.nothing = elements.nothing
written_row (elements.another o m) = elements.another (d.written o) (written_row m)

base_view : {ts : List Lexeme} {x : Defined} → IsDefined ts x → defined_view (base_of x) ≡ x
base_view (g.without_parameters m) = refl
base_view (g.with_parameters c d n m) = refl

pub base_views : {ts : List Lexeme} {ds : List Defined} → Row IsDefined ts ds → map defined_view (map base_of ds) ≡ ds
base_views elements.nothing = refl
base_views (elements.another o m) = λ i. base_view o i ∷ base_views m i

-- the first definition of a row, and the others
record First (fs : List Lexeme) (x : Defined) (ds : List Defined) : Type 0 where
  front : List Lexeme
  others : List Lexeme
  split : fs ≡ front ++ others
  is : IsDefined front x
  row : Row IsDefined others ds

first_of : {fs : List Lexeme} {os : List Defined} → Row IsDefined fs os → (x : Defined) (ds : List Defined) → os ≡ x ∷ ds → First fs x ds
first_of elements.nothing x ds q = cc
first_of (elements.another {xs = xs} {ys = ys} {a = a} {as' = as'} o m) x ds q =
    let same : a ≡ x = cc in
    let rest_is : as' ≡ ds = cc in
    record { front = xs; others = ys; split = refl; is = subst (λ z. IsDefined xs z) same o; row = subst (λ z. Row IsDefined ys z) rest_is m }

some_names : {xs : List Lexeme} {ps : List PlacedName} → Items IsName symbol.Comma xs ps → names_of ps ≡ [] → ⊥
some_names (elements.items elements.name m) q = cc

body_named : (n o : Spot) (x w : Name) (ts : List Lexeme) (f e : Tree) → x ≡ w → f ≡ e → IsExpression ts f → IsBody w (word n x ∷ (at o symbol.Defines ∷ ts)) e
body_named n o x w ts f e q r m =
    let P : Name → Type 0 = λ z. IsBody z (word n x ∷ (at o symbol.Defines ∷ ts)) e in
    let Q : Tree → Type 0 = λ z. IsBody x (word n x ∷ (at o symbol.Defines ∷ ts)) z in
    subst P q (subst Q r (d.body m))

body_is : {ts : List Lexeme} {x : Defined} → IsDefined ts x → (w : Name) (e : Tree) → x ≡ Means w [] e → IsBody w ts e
body_is (g.without_parameters {n = n} {d = o} {x = x} {ts = ts} {e = f} m) w e q = body_named n o x w ts f e (let z : x ≡ w = cc in z) (let z : f ≡ e = cc in z) m
body_is (g.with_parameters c o {ps = ps} n m) w e q = absurd (some_names n (let z : names_of ps ≡ [] = cc in z))

selved : (n o s c k : Spot) (x w y : Name) (ts : List Lexeme) (f e : Tree) → x ≡ w → y ≡ self_name → f ≡ e → IsExpression ts f
    → IsAction (word n x ∷ (at o (symbol.Open bracket.Round) ∷ (word s y ∷ (at c (symbol.Close bracket.Round) ∷ (at k symbol.Defines ∷ ts))))) (record { name = w; body = e })
selved n o s c k x w y ts f e q r v m =
    let P : Name → Type 0 = λ z. IsAction (word n x ∷ (at o (symbol.Open bracket.Round) ∷ (word s y ∷ (at c (symbol.Close bracket.Round) ∷ (at k symbol.Defines ∷ ts))))) (record { name = z; body = e }) in
    let R : Name → Type 0 = λ z. IsAction (word n x ∷ (at o (symbol.Open bracket.Round) ∷ (word s z ∷ (at c (symbol.Close bracket.Round) ∷ (at k symbol.Defines ∷ ts))))) (record { name = x; body = e }) in
    let Q : Tree → Type 0 = λ z. IsAction (word n x ∷ (at o (symbol.Open bracket.Round) ∷ (word s self_name ∷ (at c (symbol.Close bracket.Round) ∷ (at k symbol.Defines ∷ ts))))) (record { name = x; body = z }) in
    subst P q (subst R (sym r) (subst Q v (d.action_of m)))

one_name : (n o c k : Spot) (x w : Name) (ts xs : List Lexeme) (ps : List PlacedName) (f e : Tree) → Items IsName symbol.Comma xs ps → x ≡ w → names_of ps ≡ self_name ∷ [] → f ≡ e → IsExpression ts f
    → IsAction (word n x ∷ (at o (symbol.Open bracket.Round) ∷ (xs ++ (at c (symbol.Close bracket.Round) ∷ (at k symbol.Defines ∷ ts))))) (record { name = w; body = e })
one_name n o c k x w ts front all f e (elements.items (elements.name {p = s} {x = y}) elements.no_more) q r v m = selved n o s c k x w y ts f e q (let z : y ≡ self_name = cc in z) v m
one_name n o c k x w ts front all f e (elements.items elements.name (elements.one_more elements.name u)) q r v m = cc

action_is : {ts : List Lexeme} {x : Defined} → IsDefined ts x → (a : Action) → x ≡ defined_action a → IsAction ts a
action_is (g.without_parameters m) a q = cc
action_is (g.with_parameters {n = n} {o = o} c k {x = x} {xs = xs} {ts = ts} {ps = ps} {e = f} u m) a q =
    one_name n o c k x a.name ts xs ps f a.body u (let z : x ≡ a.name = cc in z) (let z : names_of ps ≡ self_name ∷ [] = cc in z) (let z : f ≡ a.body = cc in z) m

-- a row of actions, and the others
record Actions (fs : List Lexeme) (as' : List Action) (ds : List Defined) : Type 0 where
  front : List Lexeme
  others : List Lexeme
  split : fs ≡ front ++ others
  are : Row IsAction front as'
  row : Row IsDefined others ds

actions_first : (as' : List Action) (ds : List Defined) (fs : List Lexeme) → Row IsDefined fs (map defined_action as' ++ ds) → Actions fs as' ds
actions_first [] ds fs r = record { front = []; others = fs; split = refl; are = elements.nothing; row = r }
actions_first (a ∷ as') ds fs r =
    let h = first_of r (defined_action a) (map defined_action as' ++ ds) refl in
    let k = actions_first as' ds h.others h.row in
    record {
      front = h.front ++ k.front;
      others = k.others;
      split = h.split ∙ ap (λ z. h.front ++ z) k.split ∙ sym (append_assoc h.front k.front k.others);
      are = elements.another (action_is h.is a refl) k.are;
      row = k.row;
    }

no_more : {fs : List Lexeme} {os : List Defined} → Row IsDefined fs os → os ≡ [] → fs ≡ []
no_more elements.nothing q = refl
no_more (elements.another o m) q = cc

further_is : (fs : List Lexeme) (l : Lines) → Row IsDefined fs (further_in l) → AreFurther fs l.further
further_is fs l r =
    let a = first_of r (Means (codes "vars") [] l.further.vars) _ refl in
    let b = first_of a.row (Means proc_set [] l.further.sets) _ refl in
    let c = first_of b.row (Means (codes "Init") [] l.further.init) _ refl in
    let x = actions_first l.further.actions (Means terminating [] l.further.ending ∷ Means (codes "Next") [] l.further.next ∷ []) c.others c.row in
    let t = first_of x.row (Means terminating [] l.further.ending) _ refl in
    let n = first_of t.row (Means (codes "Next") [] l.further.next) _ refl in
    let last : n.others ≡ [] = no_more n.row refl in
    let P : List Lexeme → Type 0 = λ z. AreFurther z l.further in
    subst P (sym (a.split ∙ ap (λ z. a.front ++ z) (b.split ∙ ap (λ z. b.front ++ z) (c.split ∙ ap (λ z. c.front ++ z) (x.split ∙ ap (λ z. x.front ++ z) (t.split ∙ ap (λ z. t.front ++ z) (n.split ∙ ap (λ z. n.front ++ z) last)))))
    ∙ joined a.front b.front c.front x.front t.front n.front))
    (as_mapped (pair (pair (body_is a.is (codes "vars") l.further.vars refl) (pair (body_is b.is proc_set l.further.sets refl) (body_is c.is (codes "Init") l.further.init refl)))
    (pair x.are (pair (body_is t.is terminating l.further.ending refl) (body_is n.is (codes "Next") l.further.next refl)))))
  where
    joined : (a b i x t n : List Lexeme) → a ++ (b ++ (i ++ (x ++ (t ++ (n ++ []))))) ≡ (a ++ (b ++ i)) ++ (x ++ (t ++ n))
    joined a b i x t n = simp (append_assoc, append-nil)

lines_is : (m : Module) {xs cs ds vs fs es : List Lexeme} {x : Name} {ns us : List Name} {ms os : List Defined} → IsHeading xs x → AreListed (codes "CONSTANTS") cs ns → Row IsDefined ds ms → AreListed (codes "VARIABLES") vs us → Row IsDefined fs os → IsEnding es
    → x ≡ m.name → ns ≡ m.constants ++ (default_init_value ∷ []) → ms ≡ m.definitions → us ≡ m.variables → os ≡ parts.further_of m → AreLines Written (((xs ++ cs) ++ (ds ++ vs)) ++ (fs ++ es)) (lines_from m)
lines_is m {xs = xs} {cs = cs} {ds = ds} {vs = vs} {fs = fs} kh kc kd kv kf ke q1 q2 q3 q4 q5 =
    as_mapped (pair (as_mapped (pair (pair (subst (λ z. IsHeading xs z) q1 kh) (subst (λ z. AreListed (codes "CONSTANTS") cs z) q2 kc)) (pair (written_row (subst (λ z. Row IsDefined ds z) q3 kd)) (subst (λ z. AreListed (codes "VARIABLES") vs z) q4 kv))))
    (pair (further_is fs (lines_from m) (subst (λ z. Row IsDefined fs z) (q5 ∙ further_same m) kf)) ke))
  where
    further_same : (m : Module) → parts.further_of m ≡ further_in (lines_from m)
    further_same m = λ i. Means (codes "vars") [] (tuple_of m.variables) ∷ Means proc_set [] (proc_set_of m) ∷ Means (codes "Init") [] m.init ∷ (sym (processes_defined m.processes) i ++ (Means terminating [] (terminating_body m) ∷ Means (codes "Next") [] (next_body m) ∷ []))

-- what is said of the lines of a module
pub record IsRead (i : List Lexeme) (m : Module) : Type 0 where
  pub read : read_lines i ≡ Some (lines_from m, [])
  pub views : map defined_view (map base_of m.definitions) ≡ m.definitions

parts_by : (i : List Lexeme) (p : Parts) (m : Module) → AreParts i p → p ≡ parts_of m → IsRead i m
parts_by i p m (g.parts {xs = xs} {cs = cs} {ds = ds} {vs = vs} {fs = fs} {es = es} kh kc kd kv kf ke) q =
    let k = lines_is m kh kc kd kv kf ke (ap (λ z. z.name) q) (ap (λ z. z.constants) q) (ap (λ z. z.definitions) q) (ap (λ z. z.variables) q) (ap (λ z. z.further) q) in
    let same : xs ++ (cs ++ (ds ++ (vs ++ (fs ++ es)))) ≡ (((xs ++ cs) ++ (ds ++ vs)) ++ (fs ++ es)) ++ [] = regroup xs cs ds vs fs es in
    record { read = ap read_lines same ∙ reach_lines (((xs ++ cs) ++ (ds ++ vs)) ++ (fs ++ es)) (lines_from m) k [] tt; views = subst (λ z. map defined_view (map base_of z) ≡ z) (ap (λ z. z.definitions) q) (base_views kd) }
  where
    regroup : (h c d v f e : List Lexeme) → h ++ (c ++ (d ++ (v ++ (f ++ e)))) ≡ (((h ++ c) ++ (d ++ v)) ++ (f ++ e)) ++ []
    regroup h c d v f e = simp (append_assoc, append-nil)

all_given : (i : List Lexeme) (b : Bool) (l : Lines) → has_mapped (tokens_of i) ≡ b → b ≡ false → read_lines i ≡ Some (l, []) → cond b None (whole (read_lines i)) ≡ Some l
all_given i true l is plain e = cc
all_given i false l is plain e = ap whole e

pub all_complete : (i : List Lexeme) (m : Module) → has_mapped (tokens_of i) ≡ false → AreParts i (parts_of m) → (all_lines i ≡ Some (lines_from m)) × (map defined_view (map base_of m.definitions) ≡ m.definitions)
unfolding all_lines
all_complete i m plain p =
    let r = parts_by i (parts_of m) m p refl in
    (all_given i (has_mapped (tokens_of i)) (lines_from m) refl plain r.read, r.views)
