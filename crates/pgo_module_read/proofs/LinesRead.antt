-- The lines of a module: what is read is so, and what is so is read.
use Rattle.std.proofs.Common.{◌≡◌, true, false, not, List, [], ◌∷◌, ◌++◌, Some, refl, ap, sym, ◌∙◌, subst, codes}
use Rattle.std.proofs.lemmas.List.{append_assoc}
use Rattle.pgo_base.specs.declared.expr.Infix.TheVariants as operator
use Rattle.pgo_base.specs.Lookup.{Name}
use Rattle.pgo_base.specs.Tree.{Tree}
use Rattle.pgo_base.specs.declared.module.Action.{Action}
use Rattle.pgo_base.specs.declared.module.Defined.{Defined}
use Rattle.pgo_lexer.specs.declared.symbol.Symbol.TheVariants as symbol
use Rattle.pgo_lexer.specs.declared.token.Lexeme.{Lexeme}
use Rattle.pgo_model.specs.Written.{proc_set, terminating}
use Rattle.pgo_syntax.specs.declared.name.PlacedName.{PlacedName}
use Rattle.pgo_mpcal_read.specs.Elements.{Spot, at, word, placed, IsName, Items, Row}
use Rattle.pgo_mpcal_read.specs.Elements as elements
use Rattle.pgo_mpcal_read.specs.Spells.{IsDashes}
use Rattle.pgo_mpcal_read.specs.Reading.{name, sees_name}
use Rattle.pgo_mpcal_read.specs.ReadingSpec.{dashes}
use Rattle.pgo_mpcal_read.specs.Signs.{sees}
use Rattle.pgo_mpcal_read.proofs.Dashes.{IsDashesUnit, sound_dashes, reach_dashes}
use Rattle.pgo_expr_read.proofs.Steps.{some_pair, next_step}
use Rattle.pgo_mpcal_read.proofs.Parts.{Front, Sound, Reach, Quiet, front_then, expect_then, name_then, expect_gives}
use Rattle.pgo_syntax.specs.PlacedNames.{names_of}
use Rattle.pgo_module_spells.specs.Grammar.{IsHeading, AreListed, IsEnding, extended}
use Rattle.pgo_module_spells.specs.Grammar as g
use Rattle.pgo_module_read.specs.declared.lines.Declared.{Declared}
use Rattle.pgo_module_read.specs.declared.lines.Further.{Further}
use Rattle.pgo_module_read.specs.declared.lines.Lines.{Lines}
use Rattle.pgo_module_read.specs.Reading.{fixed, both, first_modules, last_modules, heading, names_behind, spec_begins, all_steps, ending, definitions, is_definition, actions, is_action, body_of, title, definitions_and_variables, declared_of, read_declared, bodies_before, bodies_behind, further_of, read_further, lines_of, read_lines}
use Rattle.pgo_module_read.specs.Reading as reading
use Rattle.pgo_module_read.proofs.FixedRows.{AreFixed, FixedUnit, word_then, word_gives, sound_fixed, fixed_gives}
use Rattle.pgo_module_read.proofs.FixedRows as f
use Rattle.pgo_module_read.proofs.Definitions.{IsBase, Written, IsAction, IsBody, sound_names, reach_names, sound_definitions, reach_definitions, sound_actions, reach_actions, sound_body, reach_body}
use Rattle.pgo_module_read.proofs.Definitions as d
use Rattle.pgo_module_read.proofs.Pairs.{Both, pair, Mapped, as_mapped, sound_both, reach_both, sound_mapped, reach_mapped}

-- ---- the heading

-- the line of EXTENDS
record Modules (ts : List Lexeme) : Type 0 where
  spot : Spot
  names : List Lexeme
  listed : List PlacedName
  split : ts ≡ word spot (codes "EXTENDS") ∷ names
  items : Items IsName symbol.Comma names listed
  is : names_of listed ≡ extended

modules_of : {ts us : List Lexeme} → AreFixed first_modules ts → AreFixed last_modules us → Modules (ts ++ us)
modules_of (f.word_next {p = e} (f.word_next {p = a} (f.sign_next {p = x} (f.word_next {p = b} f.none)))) (f.sign_next {p = y} (f.word_next {p = c} (f.sign_next {p = z} (f.word_next {p = o} f.none)))) = record {
  spot = e;
  names = word a (codes "Integers") ∷ (at x symbol.Comma ∷ (word b (codes "Sequences") ∷ (at y symbol.Comma ∷ (word c (codes "FiniteSets") ∷ (at z symbol.Comma ∷ (word o (codes "TLC") ∷ []))))));
  listed = placed a (codes "Integers") ∷ (placed b (codes "Sequences") ∷ (placed c (codes "FiniteSets") ∷ (placed o (codes "TLC") ∷ [])));
  split = refl;
  items = elements.items elements.name (elements.one_more elements.name (elements.one_more elements.name (elements.one_more elements.name elements.no_more)));
  is = refl;
}

headed : (xs ys ts us rest i i1 i2 i3 i4 i5 i6 : List Lexeme) (p n : Spot) (x a : Name) → i ≡ xs ++ i1 → i1 ≡ word p (codes "MODULE") ∷ i2 → i2 ≡ word n x ∷ i3 → i3 ≡ ys ++ i4 → i4 ≡ ts ++ i5 → i5 ≡ us ++ i6 → i6 ≡ rest
    → IsDashes xs → IsDashes ys → Modules (ts ++ us) → x ≡ a → Front IsHeading i a rest
headed xs ys ts us rest i i1 i2 i3 i4 i5 i6 p n x a e1 e2 e3 e4 e5 e6 e7 k l m q =
    let P : Name → Type 0 = λ z. Front IsHeading i z rest in
    subst P q (record {
      front = xs ++ (word p (codes "MODULE") ∷ (word n x ∷ (ys ++ (word m.spot (codes "EXTENDS") ∷ m.names))));
      split = e1 ∙ ap (λ z. xs ++ z) (e2 ∙ ap (λ z. word p (codes "MODULE") ∷ z) (e3 ∙ ap (λ z. word n x ∷ z)
          (e4 ∙ ap (λ z. ys ++ z) (e5 ∙ ap (λ z. ts ++ z) (e6 ∙ ap (λ z. us ++ z) e7) ∙ sym (append_assoc ts us rest) ∙ ap (λ z. z ++ rest) m.split)
          ∙ sym (append_assoc ys (word m.spot (codes "EXTENDS") ∷ m.names) rest))))
          ∙ sym (append_assoc xs (word p (codes "MODULE") ∷ (word n x ∷ (ys ++ (word m.spot (codes "EXTENDS") ∷ m.names)))) rest);
      holds = g.heading p n m.spot k l m.items m.is;
    })

pub sound_heading : Sound IsHeading heading
unfolding heading
sound_heading i a rest got =
    front_then IsDashesUnit dashes sound_dashes i _ _ _ got (λ xs v i1 e1 k got.
    word_then (codes "MODULE") i1 _ _ _ got (λ p i2 e2 got.
    name_then i2 _ _ _ got (λ n x i3 e3 got.
    front_then IsDashesUnit dashes sound_dashes i3 _ _ _ got (λ ys v i4 e4 l got.
    front_then (FixedUnit first_modules) (fixed first_modules) (sound_fixed first_modules) i4 _ _ _ got (λ ts v i5 e5 m got.
    front_then (FixedUnit last_modules) (fixed last_modules) (sound_fixed last_modules) i5 _ _ _ got (λ us v i6 e6 o got.
    let q = some_pair _ _ _ _ got in
    headed xs ys ts us rest i i1 i2 i3 i4 i5 i6 p n x a e1 e2 e3 e4 e5 e6 q.1 k l (modules_of m o) q.0))))))

-- the two halves of the line of EXTENDS
record Halves (ts : List Lexeme) : Type 0 where
  first : List Lexeme
  last : List Lexeme
  split : ts ≡ first ++ last
  first_is : AreFixed first_modules first
  last_is : AreFixed last_modules last

four : (e a b c o x y z : Spot) (i j k l : Name) → i ≡ codes "Integers" → j ≡ codes "Sequences" → k ≡ codes "FiniteSets" → l ≡ codes "TLC"
    → Halves (word e (codes "EXTENDS") ∷ (word a i ∷ (at x symbol.Comma ∷ (word b j ∷ (at y symbol.Comma ∷ (word c k ∷ (at z symbol.Comma ∷ (word o l ∷ []))))))))
four e a b c o x y z i j k l p q r s = record {
  first = word e (codes "EXTENDS") ∷ (word a (codes "Integers") ∷ (at x symbol.Comma ∷ (word b (codes "Sequences") ∷ [])));
  last = at y symbol.Comma ∷ (word c (codes "FiniteSets") ∷ (at z symbol.Comma ∷ (word o (codes "TLC") ∷ [])));
  split = λ u. word e (codes "EXTENDS") ∷ (word a (p u) ∷ (at x symbol.Comma ∷ (word b (q u) ∷ (at y symbol.Comma ∷ (word c (r u) ∷ (at z symbol.Comma ∷ (word o (s u) ∷ [])))))));
  first_is = f.word_next (f.word_next (f.sign_next (f.word_next f.none)));
  last_is = f.sign_next (f.word_next (f.sign_next (f.word_next f.none)));
}

halves_of : {zs : List Lexeme} {es : List PlacedName} → Items IsName symbol.Comma zs es → names_of es ≡ extended → (e : Spot) → Halves (word e (codes "EXTENDS") ∷ zs)
halves_of (elements.items elements.name elements.no_more) q e = cc
halves_of (elements.items elements.name (elements.one_more elements.name elements.no_more)) q e = cc
halves_of (elements.items elements.name (elements.one_more elements.name (elements.one_more elements.name elements.no_more))) q e = cc
halves_of (elements.items (elements.name {p = a} {x = i}) (elements.one_more {p = x} (elements.name {p = b} {x = j}) (elements.one_more {p = y} (elements.name {p = c} {x = k}) (elements.one_more {p = z} (elements.name {p = o} {x = l}) elements.no_more)))) q e =
    four e a b c o x y z i j k l (cc) (cc) (cc) (cc)
halves_of (elements.items elements.name (elements.one_more elements.name (elements.one_more elements.name (elements.one_more elements.name (elements.one_more elements.name m))))) q e = cc

no_minus : {ts : List Lexeme} → AreFixed first_modules ts → (j : List Lexeme) → sees (symbol.Infix operator.Subtract) (ts ++ j) ≡ false
no_minus (f.word_next m) j = refl

heading_gives : (xs ys zs : List Lexeme) (p n e : Spot) (x : Name) → IsDashes xs → IsDashes ys → Halves (word e (codes "EXTENDS") ∷ zs) → (rest : List Lexeme)
    → heading ((xs ++ (word p (codes "MODULE") ∷ (word n x ∷ (ys ++ (word e (codes "EXTENDS") ∷ zs))))) ++ rest) ≡ Some (x, rest)
unfolding heading
heading_gives xs ys zs p n e x k l m rest =
    ap heading (append_assoc xs (word p (codes "MODULE") ∷ (word n x ∷ (ys ++ (word e (codes "EXTENDS") ∷ zs)))) rest
    ∙ ap (λ i. xs ++ (word p (codes "MODULE") ∷ (word n x ∷ i))) (append_assoc ys (word e (codes "EXTENDS") ∷ zs) rest ∙ ap (λ i. ys ++ i) (ap (λ i. i ++ rest) m.split ∙ append_assoc m.first m.last rest)))
    ∙ next_step _ _ _ _ _ (reach_dashes xs tt k (word p (codes "MODULE") ∷ (word n x ∷ (ys ++ (m.first ++ (m.last ++ rest))))) refl)
    (next_step _ _ _ _ _ (word_gives (codes "MODULE") p (word n x ∷ (ys ++ (m.first ++ (m.last ++ rest)))))
    (next_step _ _ _ _ _ (reach_dashes ys tt l (m.first ++ (m.last ++ rest)) (no_minus m.first_is (m.last ++ rest)))
    (next_step _ _ _ _ _ (fixed_gives m.first_is (m.last ++ rest)) (next_step _ _ _ _ _ (fixed_gives m.last_is rest) refl))))

abbrev pub Anything : List Lexeme → Type 0
Anything rest = Unit {0}

pub reach_heading : Reach IsHeading heading Anything
reach_heading front a (g.heading p n e {x = x} {xs = xs} {ys = ys} {zs = zs} k l m q) rest u = heading_gives xs ys zs p n e x k l (halves_of m q e) rest

-- ---- the ending

abbrev pub EndingUnit : List Lexeme → Unit {0} → Type 0
EndingUnit ts u = IsEnding ts

ended : {xs ys : List Lexeme} (p q : Spot) → AreFixed spec_begins xs → AreFixed all_steps ys → IsEnding (xs ++ (ys ++ (at p symbol.Defines ∷ (at q symbol.Defines ∷ []))))
ended p q (f.word_next (f.sign_next (f.word_next (f.sign_next (f.sign_next f.none))))) (f.sign_next (f.word_next (f.sign_next (f.word_next f.none)))) = g.ending

pub sound_ending : Sound EndingUnit ending
unfolding ending
sound_ending i a rest got =
    front_then (FixedUnit spec_begins) (fixed spec_begins) (sound_fixed spec_begins) i _ _ _ got (λ xs v i1 e1 m got.
    front_then (FixedUnit all_steps) (fixed all_steps) (sound_fixed all_steps) i1 _ _ _ got (λ ys v i2 e2 o got.
    expect_then symbol.Defines i2 _ _ _ got (λ p i3 e3 got.
    expect_then symbol.Defines i3 _ _ _ got (λ q i4 e4 got.
    let z = some_pair _ _ _ _ got in
    record {
      front = xs ++ (ys ++ (at p symbol.Defines ∷ (at q symbol.Defines ∷ [])));
      split = e1 ∙ ap (λ w. xs ++ w) (e2 ∙ ap (λ w. ys ++ w) (e3 ∙ ap (λ w. at p symbol.Defines ∷ w) (e4 ∙ ap (λ w. at q symbol.Defines ∷ w) z.1)) ∙ sym (append_assoc ys (at p symbol.Defines ∷ (at q symbol.Defines ∷ [])) rest)) ∙ sym (append_assoc xs (ys ++ (at p symbol.Defines ∷ (at q symbol.Defines ∷ []))) rest);
      holds = ended p q m o;
    }))))

pub reach_ending : Reach EndingUnit ending Anything
unfolding ending
reach_ending front a (g.ending {n = n} {d = e} {i = i} {a = b} {b = c} {o = o} {x = x} {c = k} {v = v} {p = p} {q = q}) rest u =
    next_step _ _ _ _ _ (fixed_gives (f.word_next {p = n} (f.sign_next {p = e} (f.word_next {p = i} (f.sign_next {p = b} (f.sign_next {p = c} f.none))))) (at o _ ∷ (word x _ ∷ (at k _ ∷ (word v _ ∷ (at p symbol.Defines ∷ (at q symbol.Defines ∷ rest)))))))
    (next_step _ _ _ _ _ (fixed_gives (f.sign_next {p = o} (f.word_next {p = x} (f.sign_next {p = k} (f.word_next {p = v} f.none)))) (at p symbol.Defines ∷ (at q symbol.Defines ∷ rest)))
    (next_step _ _ _ _ _ (expect_gives symbol.Defines p (at q symbol.Defines ∷ rest)) (next_step _ _ _ _ _ (expect_gives symbol.Defines q rest) refl)))

-- ---- the relations of all lines, by the relation of a definition

abbrev pub Title : List Lexeme → Name × List Name → Type 0
Title = Both IsHeading (AreListed (codes "CONSTANTS"))

module _ (D : List Lexeme → Defined → Type 0) where
  abbrev pub Variables : List Lexeme → List Defined × List Name → Type 0
  Variables = Both (Row D) (AreListed (codes "VARIABLES"))

  abbrev pub AreDeclared : List Lexeme → Declared → Type 0
  AreDeclared = Mapped declared_of (Both Title Variables)

abbrev pub Before : List Lexeme → Tree × (Tree × Tree) → Type 0
Before = Both (IsBody (codes "vars")) (Both (IsBody proc_set) (IsBody (codes "Init")))

abbrev pub Behind : List Lexeme → Tree × Tree → Type 0
Behind = Both (IsBody terminating) (IsBody (codes "Next"))

abbrev pub AreFurther : List Lexeme → Further → Type 0
AreFurther = Mapped further_of (Both Before (Both (Row IsAction) Behind))

abbrev pub AreLines : (List Lexeme → Defined → Type 0) → List Lexeme → Lines → Type 0
AreLines D = Mapped lines_of (Both (AreDeclared D) (Both AreFurther EndingUnit))

-- ---- what is read is so

sound_title : Sound Title title
unfolding title
sound_title = sound_both IsHeading (AreListed (codes "CONSTANTS")) heading (names_behind (codes "CONSTANTS")) sound_heading (sound_names (codes "CONSTANTS"))

sound_variables : Sound (Variables IsBase) definitions_and_variables
unfolding definitions_and_variables
sound_variables = sound_both (Row IsBase) (AreListed (codes "VARIABLES")) definitions (names_behind (codes "VARIABLES")) sound_definitions (sound_names (codes "VARIABLES"))

sound_declared : Sound (AreDeclared IsBase) read_declared
unfolding read_declared
sound_declared = sound_mapped declared_of (Both Title (Variables IsBase)) (both title definitions_and_variables) (sound_both Title (Variables IsBase) title definitions_and_variables sound_title sound_variables)

sound_before : Sound Before bodies_before
unfolding bodies_before
sound_before =
    sound_both (IsBody (codes "vars")) (Both (IsBody proc_set) (IsBody (codes "Init"))) (body_of (codes "vars")) (both (body_of proc_set) (body_of (codes "Init"))) (sound_body (codes "vars"))
    (sound_both (IsBody proc_set) (IsBody (codes "Init")) (body_of proc_set) (body_of (codes "Init")) (sound_body proc_set) (sound_body (codes "Init")))

sound_behind : Sound Behind bodies_behind
unfolding bodies_behind
sound_behind = sound_both (IsBody terminating) (IsBody (codes "Next")) (body_of terminating) (body_of (codes "Next")) (sound_body terminating) (sound_body (codes "Next"))

sound_further : Sound AreFurther read_further
unfolding read_further
sound_further =
    sound_mapped further_of (Both Before (Both (Row IsAction) Behind)) (both bodies_before (both actions bodies_behind))
    (sound_both Before (Both (Row IsAction) Behind) bodies_before (both actions bodies_behind) sound_before (sound_both (Row IsAction) Behind actions bodies_behind sound_actions sound_behind))

pub sound_lines : Sound (AreLines IsBase) read_lines
unfolding read_lines
sound_lines =
    sound_mapped lines_of (Both (AreDeclared IsBase) (Both AreFurther EndingUnit)) (both read_declared (both read_further ending))
    (sound_both (AreDeclared IsBase) (Both AreFurther EndingUnit) read_declared (both read_further ending) sound_declared (sound_both AreFurther EndingUnit read_further ending sound_further sound_ending))

-- ---- what is so is read

abbrev NoComma : List Lexeme → Type 0
NoComma rest = sees symbol.Comma rest ≡ false

names_begin : {xs : List Lexeme} {ns : List PlacedName} → Items IsName symbol.Comma xs ns → (j : List Lexeme) → sees_name (xs ++ j) ≡ true
names_begin (elements.items elements.name m) j = refl

at_variables : (ys : List Lexeme) (b : List Name) (rest : List Lexeme) → AreListed (codes "VARIABLES") ys b → NoComma rest → Quiet (ys ++ rest) × (is_definition (ys ++ rest) ≡ false)
at_variables front b rest (g.listed p {xs = xs} m) e = (refl, ap not (names_begin m rest))

at_definitions : (ys : List Lexeme) (b : List Defined × List Name) (rest : List Lexeme) → Variables Written ys b → NoComma rest → NoComma (ys ++ rest)
at_definitions front b rest (pair elements.nothing (g.listed p m)) e = refl
at_definitions front b rest (pair (elements.another (d.written (g.without_parameters m)) o) v) e = refl
at_definitions front b rest (pair (elements.another (d.written (g.with_parameters x y n m)) o) v) e = refl

reach_title : Reach Title title NoComma
unfolding title
reach_title = reach_both IsHeading (AreListed (codes "CONSTANTS")) heading (names_behind (codes "CONSTANTS")) Anything NoComma reach_heading (reach_names (codes "CONSTANTS")) (λ ys b rest s e. tt)

reach_variables : Reach (Variables Written) definitions_and_variables NoComma
unfolding definitions_and_variables
reach_variables =
    reach_both (Row Written) (AreListed (codes "VARIABLES")) definitions (names_behind (codes "VARIABLES")) (λ rest. Quiet rest × (is_definition rest ≡ false)) NoComma reach_definitions (reach_names (codes "VARIABLES")) at_variables

reach_declared : Reach (AreDeclared Written) read_declared NoComma
unfolding read_declared
reach_declared =
    reach_mapped declared_of (Both Title (Variables Written)) (both title definitions_and_variables) NoComma
    (reach_both Title (Variables Written) title definitions_and_variables NoComma NoComma reach_title reach_variables at_definitions)

at_body : (w : Name) (ys : List Lexeme) (b : Tree) (rest : List Lexeme) → IsBody w ys b → Quiet rest → Quiet (ys ++ rest)
at_body w front b rest (d.body m) q = refl

at_bodies : (ys : List Lexeme) (b : Tree × Tree) (rest : List Lexeme) → Both (IsBody proc_set) (IsBody (codes "Init")) ys b → Quiet rest → Quiet (ys ++ rest)
at_bodies front b rest (pair (d.body m) o) q = refl

at_behind : (ys : List Lexeme) (b : Tree × Tree) (rest : List Lexeme) → Behind ys b → Quiet rest → Quiet (ys ++ rest) × (is_action (ys ++ rest) ≡ false)
at_behind front b rest (pair (d.body m) o) q = (refl, refl)

at_actions : (ys : List Lexeme) (b : List Action × (Tree × Tree)) (rest : List Lexeme) → Both (Row IsAction) Behind ys b → Quiet rest → Quiet (ys ++ rest)
at_actions front b rest (pair elements.nothing (pair (d.body m) o)) q = refl
at_actions front b rest (pair (elements.another (d.action_of m) o) n) q = refl

at_ending : (ys : List Lexeme) (b : Unit {0}) (rest : List Lexeme) → EndingUnit ys b → Anything rest → Quiet (ys ++ rest)
at_ending front b rest g.ending u = refl

at_further : (ys : List Lexeme) (b : Further × Unit {0}) (rest : List Lexeme) → Both AreFurther EndingUnit ys b → Anything rest → NoComma (ys ++ rest)
at_further front b rest (pair (as_mapped (pair (pair (d.body m) o) n)) e) u = refl

reach_before : Reach Before bodies_before Quiet
unfolding bodies_before
reach_before =
    reach_both (IsBody (codes "vars")) (Both (IsBody proc_set) (IsBody (codes "Init"))) (body_of (codes "vars")) (both (body_of proc_set) (body_of (codes "Init"))) Quiet Quiet (reach_body (codes "vars"))
    (reach_both (IsBody proc_set) (IsBody (codes "Init")) (body_of proc_set) (body_of (codes "Init")) Quiet Quiet (reach_body proc_set) (reach_body (codes "Init")) (at_body (codes "Init"))) at_bodies

reach_behind : Reach Behind bodies_behind Quiet
unfolding bodies_behind
reach_behind = reach_both (IsBody terminating) (IsBody (codes "Next")) (body_of terminating) (body_of (codes "Next")) Quiet Quiet (reach_body terminating) (reach_body (codes "Next")) (at_body (codes "Next"))

reach_further : Reach AreFurther read_further Quiet
unfolding read_further
reach_further =
    reach_mapped further_of (Both Before (Both (Row IsAction) Behind)) (both bodies_before (both actions bodies_behind)) Quiet
    (reach_both Before (Both (Row IsAction) Behind) bodies_before (both actions bodies_behind) Quiet Quiet reach_before
    (reach_both (Row IsAction) Behind actions bodies_behind (λ rest. Quiet rest × (is_action rest ≡ false)) Quiet reach_actions reach_behind at_behind) at_actions)

pub reach_lines : Reach (AreLines Written) read_lines Anything
unfolding read_lines
reach_lines =
    reach_mapped lines_of (Both (AreDeclared Written) (Both AreFurther EndingUnit)) (both read_declared (both read_further ending)) Anything
    (reach_both (AreDeclared Written) (Both AreFurther EndingUnit) read_declared (both read_further ending) NoComma Anything reach_declared
    (reach_both AreFurther EndingUnit read_further ending Quiet Anything reach_further reach_ending at_ending) at_further)
