-- A quantifier as what it gives over all choices of members.
use Rattle.std.proofs.Common.{◌≡◌, suc, ◌<◌, length, arith, List, [], ◌∷◌, ◌++◌, refl, ap, sym, ◌∙◌}
use Rattle.std.specs.Prelude.{Bool, true, false, Option, Some, None, option_and_then}
use Rattle.pgo_base.specs.declared.expr.Quantifier.{Quantifier}
use Rattle.pgo_base.specs.declared.expr.Quantifier.TheVariants as quantifiers
use Rattle.pgo_base.specs.Data.{Data}
use Rattle.pgo_base.specs.Lookup.{Name, Names}
use Rattle.pgo_base.specs.Tree.{Tree, BoundTrees, quantified}
use Rattle.pgo_base.specs.declared.bindings.BoundName.{BoundName}
use Rattle.pgo_model.specs.Operators.{or3, and3, any3, all3, put, spread, choices, truth_of, from_truth}
use Rattle.pgo_model.specs.Val.{Scope, val, ranges, with_names, quantify, name_values, names_over, sets_over}
use Rattle.pgo_eval.specs.Choices.{over_bound, sets_of, chosen, left, still_left, join, over_none, is_decided, over_choices}

or3_assoc : (p q r : Option Bool) → or3 p (or3 q r) ≡ or3 (or3 p q) r
or3_assoc (Some true) q r = refl
or3_assoc (Some false) q r = refl
or3_assoc None (Some true) r = refl
or3_assoc None (Some false) r = refl
or3_assoc None None (Some true) = refl
or3_assoc None None (Some false) = refl
or3_assoc None None None = refl

and3_assoc : (p q r : Option Bool) → and3 p (and3 q r) ≡ and3 (and3 p q) r
and3_assoc (Some true) (Some true) (Some true) = refl
and3_assoc (Some true) (Some true) (Some false) = refl
and3_assoc (Some true) (Some true) None = refl
and3_assoc (Some true) (Some false) (Some true) = refl
and3_assoc (Some true) (Some false) (Some false) = refl
and3_assoc (Some true) (Some false) None = refl
and3_assoc (Some true) None (Some true) = refl
and3_assoc (Some true) None (Some false) = refl
and3_assoc (Some true) None None = refl
and3_assoc (Some false) (Some true) (Some true) = refl
and3_assoc (Some false) (Some true) (Some false) = refl
and3_assoc (Some false) (Some true) None = refl
and3_assoc (Some false) (Some false) (Some true) = refl
and3_assoc (Some false) (Some false) (Some false) = refl
and3_assoc (Some false) (Some false) None = refl
and3_assoc (Some false) None (Some true) = refl
and3_assoc (Some false) None (Some false) = refl
and3_assoc (Some false) None None = refl
and3_assoc None (Some true) (Some true) = refl
and3_assoc None (Some true) (Some false) = refl
and3_assoc None (Some true) None = refl
and3_assoc None (Some false) (Some true) = refl
and3_assoc None (Some false) (Some false) = refl
and3_assoc None (Some false) None = refl
and3_assoc None None (Some true) = refl
and3_assoc None None (Some false) = refl
and3_assoc None None None = refl

pub join_assoc : (o : Quantifier) (p q r : Option Bool) → join o p (join o q r) ≡ join o (join o p q) r
join_assoc quantifiers.Exists p q r = or3_assoc p q r
join_assoc quantifiers.Forall p q r = and3_assoc p q r

join_none : (q : Quantifier) (p : Option Bool) → join q p (over_none q) ≡ p
join_none quantifiers.Exists (Some true) = refl
join_none quantifiers.Exists (Some false) = refl
join_none quantifiers.Exists None = refl
join_none quantifiers.Forall (Some true) = refl
join_none quantifiers.Forall (Some false) = refl
join_none quantifiers.Forall None = refl

pub none_join : (q : Quantifier) (p : Option Bool) → join q (over_none q) p ≡ p
none_join quantifiers.Exists p = refl
none_join quantifiers.Forall (Some true) = refl
none_join quantifiers.Forall (Some false) = refl
none_join quantifiers.Forall None = refl

over_joined : (q : Quantifier) (P : List Data → Option Bool) (cs ds : List (List Data)) → over_choices q P (cs ++ ds) ≡ join q (over_choices q P cs) (over_choices q P ds)
over_joined q P [] ds = sym (none_join q (over_choices q P ds))
over_joined q P (c ∷ cs) ds = ap (join q (P c)) (over_joined q P cs ds) ∙ join_assoc q (P c) (over_choices q P cs) (over_choices q P ds)

over_put : (q : Quantifier) (P : List Data → Option Bool) (m : Data) (cs : List (List Data)) → over_choices q P (put m cs) ≡ over_choices q (λ c. P (m ∷ c)) cs
over_put q P m [] = refl
over_put q P m (c ∷ cs) = ap (join q (P (m ∷ c))) (over_put q P m cs)

-- some member, or every member
abbrev over_members : Quantifier → (Data → Option Bool) → List Data → Option Bool
over_members quantifiers.Exists = any3
over_members quantifiers.Forall = all3

none_over : (q : Quantifier) (f : Data → Option Bool) → over_members q f [] ≡ over_none q
none_over quantifiers.Exists f = refl
none_over quantifiers.Forall f = refl

first_over : (q : Quantifier) (f : Data → Option Bool) (m : Data) (ms : List Data) → over_members q f (m ∷ ms) ≡ join q (f m) (over_members q f ms)
first_over quantifiers.Exists f m ms = refl
first_over quantifiers.Forall f m ms = refl

quantify_first : (q : Quantifier) (b : Name × List Data) (bs : List (Name × List Data)) (p : Names → Option Bool) (ns : Names) → quantify q (b ∷ bs) p ns ≡ over_members q (λ m. quantify q bs p ((b.0, Some m) ∷ ns)) b.1
quantify_first quantifiers.Exists b bs p ns = refl
quantify_first quantifiers.Forall b bs p ns = refl

quantify_done : (q : Quantifier) (p : Names → Option Bool) (ns : Names) → quantify q [] p ns ≡ p ns
quantify_done quantifiers.Exists p ns = refl
quantify_done quantifiers.Forall p ns = refl

abbrev pub at_choice : List (Name × List Data) → (Names → Option Bool) → Names → List Data → Option Bool
at_choice bs p ns vs = p (name_values (names_over bs) vs ns)

-- a quantifier asks at every choice
pub quantify_is : (q : Quantifier) (bs : List (Name × List Data)) (p : Names → Option Bool) (ns : Names) → quantify q bs p ns ≡ over_choices q (at_choice bs p ns) (choices (sets_over bs))
quantify_is q [] p ns = quantify_done q p ns ∙ sym (join_none q (p ns))
quantify_is q (b ∷ bs) p ns = quantify_first q b bs p ns ∙ go (quantify_is q bs p) b.1
  where
    go : ((ns : Names) → quantify q bs p ns ≡ over_choices q (at_choice bs p ns) (choices (sets_over bs))) → (ms : List Data) → over_members q (λ m. quantify q bs p ((b.0, Some m) ∷ ns)) ms ≡ over_choices q (at_choice (b ∷ bs) p ns) (spread ms (choices (sets_over bs)))
    go ih [] = none_over q _
    go ih (m ∷ ms) =
        first_over q (λ m. quantify q bs p ((b.0, Some m) ∷ ns)) m ms
        ∙ (λ i. join q (ih ((b.0, Some m) ∷ ns) i) (go ih ms i))
        ∙ ap (λ o. join q o (over_choices q (at_choice (b ∷ bs) p ns) (spread ms (choices (sets_over bs))))) (sym (over_put q (at_choice (b ∷ bs) p ns) m (choices (sets_over bs))))
        ∙ sym (over_joined q (at_choice (b ∷ bs) p ns) (put m (choices (sets_over bs))) (spread ms (choices (sets_over bs))))

-- what a quantifier has found stays where it is decided
decided_join : (q : Quantifier) (p r : Option Bool) → is_decided q p ≡ true → join q p r ≡ p
decided_join quantifiers.Exists (Some true) r h = refl
decided_join quantifiers.Exists (Some false) r h = absurd (cc)
decided_join quantifiers.Exists None r h = absurd (cc)
decided_join quantifiers.Forall (Some true) r h = absurd (cc)
decided_join quantifiers.Forall (Some false) r h = refl
decided_join quantifiers.Forall None r h = absurd (cc)

-- one choice more is asked
pub asked_more : (q : Quantifier) (P : List Data → Option Bool) (names next : List BoundName) (now more : Bool) (all found after : Option Bool) → now ≡ true → left names ≡ chosen names ∷ still_left more next → after ≡ join q found (P (chosen names)) → all ≡ join q found (over_choices q P (still_left now names)) → all ≡ join q after (over_choices q P (still_left more next))
asked_more q P names next now more all found after n l a h =
    h ∙ ap (λ b. join q found (over_choices q P (still_left b names))) n ∙ ap (λ cs. join q found (over_choices q P cs)) l
    ∙ join_assoc q found (P (chosen names)) (over_choices q P (still_left more next)) ∙ ap (λ o. join q o (over_choices q P (still_left more next))) (sym a)

-- nothing is left to be asked
pub asked_all : (q : Quantifier) (P : List Data → Option Bool) (names : List BoundName) (more : Bool) (all found : Option Bool) → more ≡ false → all ≡ join q found (over_choices q P (still_left more names)) → all ≡ found
asked_all q P names more all found n h = h ∙ ap (λ b. join q found (over_choices q P (still_left b names))) n ∙ join_none q found

-- what is left to be asked does not matter
pub asked_enough : (q : Quantifier) (rest all found : Option Bool) → is_decided q found ≡ true → all ≡ join q found rest → all ≡ found
asked_enough q rest all found d h = h ∙ decided_join q found rest d

-- what a quantifier asks of a choice
abbrev pub asks : List BoundName → Tree → Scope → List Data → Option Bool
asks names p s = at_choice (over_bound names) (λ (ns : Names). truth_of (val p (with_names ns s))) s.names

-- a quantifier has what was found over all choices
pub quantified_is : (q : Quantifier) (bs : BoundTrees) (p : Tree) (s : Scope) (old names : List BoundName) (more : Bool) (found : Option Bool) → Some (over_bound old) ≡ ranges bs s → over_bound names ≡ over_bound old → still_left more names ≡ choices (sets_of old) → over_choices q (asks names p s) (still_left more names) ≡ found → from_truth found ≡ val (quantified q bs p) s
quantified_is q bs p s old names more found r o l f =
    ap from_truth (sym f ∙ (λ i. over_choices q (at_choice (o i) (λ (ns : Names). truth_of (val p (with_names ns s))) s.names) (l i)) ∙ sym (quantify_is q (over_bound old) (λ ns. truth_of (val p (with_names ns s))) s.names))
    ∙ ap (option_and_then (λ over. from_truth (quantify q over (λ ns. truth_of (val p (with_names ns s))) s.names))) r

-- what is asked at the choice at which the names stand
pub asked_here : (p : Tree) (s : Scope) (first names lent : List BoundName) (v : Option Data) (t : Option Bool) → over_bound names ≡ over_bound first → lent ≡ names → t ≡ truth_of v → v ≡ val p (with_names (name_values (names_over (over_bound lent)) (chosen lent) s.names) s) → t ≡ asks first p s (chosen names)
asked_here p s first names lent v t o l a b =
    a ∙ ap truth_of (b ∙ (λ i. val p (with_names (name_values (names_over ((ap over_bound l ∙ o) i)) (chosen (l i)) s.names) s)))

-- fewer choices are left
pub fewer_left : (names next : List BoundName) (now more : Bool) → now ≡ true → left names ≡ chosen names ∷ still_left more next → length (still_left more next) < length (still_left now names)
fewer_left names next now more n l =
    let e : length (still_left now names) ≡ suc (length (still_left more next)) = ap (λ b. length (still_left b names)) n ∙ ap length l in
    omega arith
