-- What is written is written once: a constant, a definition or a fixed name is no variable, nor is what an expression binds.
use Rattle.std.proofs.Common.{◌≡◌, ◌≤◌, ℕ, ◌+◌, Bool, true, false, not, ◌&&◌, if◌then◌else◌, List, [], ◌∷◌, ◌++◌, refl, ap, sym, ◌∙◌, subst, inl, inr, append_assoc, append-nil, arith}
use Rattle.std.specs.Prelude.{nat_le, ◌⊎◌}
use Rattle.pgo_base.specs.Lookup.{Name, same_name, find}
use Rattle.pgo_model.specs.Names.{same_name-self}
use Rattle.pgo_syntax.specs.declared.name.PlacedName.{PlacedName}
use Rattle.pgo_syntax.specs.declared.process.Process.{Process}
use Rattle.pgo_syntax.specs.declared.spec.Spec.{Spec}
use Rattle.pgo_uses.specs.AllUses.{all_uses}
use Rattle.pgo_uses.specs.Heads.{declared_names, definition_names, shared_names}
use Rattle.pgo_uses.specs.Tables.{all_definitions}
use Rattle.pgo_uses.specs.declared.uses.Use.{Use}
use Rattle.pgo_uses.specs.declared.uses.Form.TheVariants as forms
use Rattle.pgo_scope.specs.declared.errors.ScopeError.TheVariants as errors
use Rattle.pgo_scope.specs.declared.module_names.ModuleName.{ModuleName}
use Rattle.pgo_scope.specs.TextOrder.{in_place, in_text_order}
use Rattle.pgo_scope.specs.Clash.{itself, fixed_names, fixed_module_names, shared_module_names, bound_module_name, bound_module_names, own_rows, or_none, own_module_name, own_module_names, process_module_names, clash, clash_with, clashes_from, name_clashes}
use Rattle.pgo_bound.specs.Among.{IsAmong, among_left, among_right, none_left, none_right}
use Rattle.pgo_accept.proofs.Counted.{one_if}
use Rattle.pgo_accept.proofs.Variables.{shared-append, once, parts_written}
use Rattle.pgo_accept.proofs.WrittenOnce.{is_written, writes, found_none}

-- ---- counts

pub writes_some : (x : Name) (t : ModuleName) (ts : List ModuleName) → IsAmong t ts → is_written x t ≡ true → 1 ≤ writes x ts
writes_some x t [] a h = absurd a
writes_some x t (u ∷ ts) (inl e) h = let k : one_if (is_written x u) ≡ 1 = ap one_if (ap (is_written x) (sym e) ∙ h) in omega (arith, k)
writes_some x t (u ∷ ts) (inr a) h = omega (arith, writes_some x t ts a h)

abbrev pub rows_of : Spec → List (Name × List Name)
rows_of s = own_rows 0 s.archetypes

abbrev pub written_by : Spec → List ModuleName
written_by s = process_module_names (rows_of s) s.processes

-- of the fixed names, constants, definitions, globals and what processes write one at most has the name
pub counted : (s : Spec) → name_clashes s ≡ [] → (x : Name) → writes x (fixed_module_names fixed_names) + (writes x (shared_module_names s.constants) + writes x (shared_module_names (definition_names (all_definitions s))) + writes x (shared_module_names (declared_names s.globals))) + writes x (written_by s) ≤ 1
counted s h x =
    let constants = s.constants in
    let definitions = definition_names (all_definitions s) in
    let globals = declared_names s.globals in
    let e = shared-append x (constants ++ definitions) globals in
    let f = shared-append x constants definitions in
    omega (arith, once x s h, parts_written x s, e, f)

-- ---- bound names

put_among : (place : ModuleName → ℕ) (t v : ModuleName) (vs : List ModuleName) → (t ≡ v) ⊎ IsAmong t vs → IsAmong t (in_place place v vs)
put_among place t v [] b = b
put_among place t v (w ∷ vs) b = go (nat_le (place v) (place w)) b (put_among place t v vs)
  where
    go : (c : Bool) → (t ≡ v) ⊎ IsAmong t (w ∷ vs) → ((t ≡ v) ⊎ IsAmong t vs → IsAmong t (in_place place v vs)) → IsAmong t (if c then v ∷ w ∷ vs else w ∷ in_place place v vs)
    go true d more = d
    go false (inl e) more = inr (more (inl e))
    go false (inr (inl e)) more = inl e
    go false (inr (inr d)) more = inr (more (inr d))

pub among_ordered : (place : ModuleName → ℕ) (t : ModuleName) (ts : List ModuleName) → IsAmong t ts → IsAmong t (in_text_order place ts)
among_ordered place t [] a = absurd a
among_ordered place t (u ∷ ts) (inl e) = put_among place t u (in_text_order place ts) (inl e)
among_ordered place t (u ∷ ts) (inr a) = put_among place t u (in_text_order place ts) (inr (among_ordered place t ts a))

clash_none : (us : List ModuleName) (t u : ModuleName) → clash_with us t ≡ [] → IsAmong u us → clash t u ≡ false
clash_none [] t u h a = absurd a
clash_none (v ∷ us) t u h a =
    let r = found_none (clash t v) (record { place = t.place; error = errors.NameClash v.shown t.shown }) (clash_with us t) h in go a r.0 (clash_none us t u r.1)
  where
    go : IsAmong u (v ∷ us) → clash t v ≡ false → (IsAmong u us → clash t u ≡ false) → clash t u ≡ false
    go (inl e) f rest = ap (clash t) e ∙ f
    go (inr b) f rest = rest b

later : (before ts : List ModuleName) (t u : ModuleName) → clashes_from before ts ≡ [] → IsAmong u before → IsAmong t ts → clash t u ≡ false
later before [] t u h b a = absurd a
later before (v ∷ ts) t u h b (inl e) =
    ap (λ w. clash w u) e ∙ clash_none before v u (none_left (clash_with before v) (clashes_from (before ++ v ∷ []) ts) h) b
later before (v ∷ ts) t u h b (inr a) =
    later (before ++ v ∷ []) ts t u (none_right (clash_with before v) (clashes_from (before ++ v ∷ []) ts) h) (among_left u before (v ∷ []) b) a

-- one that is bound and one that is not, of one name
clashing : (x : Name) (t u : ModuleName) → t.written ≡ x → u.written ≡ x → t.bound && u.bound ≡ false → clash t u ≡ true
clashing x t u e f b =
    let s : same_name t.written u.written ≡ true = (λ i. same_name (e i) (f i)) ∙ same_name-self x in
    (λ i. s i && not (b i))

record Pair (x : Name) (t u : ModuleName) : Type 0 where
  pub bound : t.bound ≡ true
  pub free : u.bound ≡ false
  pub here : t.written ≡ x
  pub there : u.written ≡ x

not_both : (x : Name) (t u : ModuleName) → Pair x t u → (t.bound && u.bound ≡ false) × (u.bound && t.bound ≡ false)
not_both x t u p = (go t.bound u.bound p.free, λ i. p.free i && t.bound)
  where
    go : (a b : Bool) → b ≡ false → a && b ≡ false
    go true b h = h
    go false b h = refl

no_pair : (x : Name) (before ts : List ModuleName) (t u : ModuleName) → clashes_from before ts ≡ [] → IsAmong t ts → IsAmong u ts → Pair x t u → ⊥
no_pair x before [] t u h a b p = a
no_pair x before (v ∷ ts) t u h (inl e) (inl f) p =
    let q : true ≡ false = sym p.bound ∙ ap (λ w. w.bound) (e ∙ sym f) ∙ p.free in cc
no_pair x before (v ∷ ts) t u h (inl e) (inr b) p =
    let l = later (before ++ v ∷ []) ts u t (none_right (clash_with before v) (clashes_from (before ++ v ∷ []) ts) h) (among_right t before (v ∷ []) (inl e)) b in
    let c = clashing x u t p.there p.here (not_both x t u p).1 in
    let q : true ≡ false = sym c ∙ l in cc
no_pair x before (v ∷ ts) t u h (inr a) (inl f) p =
    let l = later (before ++ v ∷ []) ts t u (none_right (clash_with before v) (clashes_from (before ++ v ∷ []) ts) h) (among_right u before (v ∷ []) (inl f)) a in
    let c = clashing x t u p.here p.there (not_both x t u p).0 in
    let q : true ≡ false = sym c ∙ l in cc
no_pair x before (v ∷ ts) t u h (inr a) (inr b) p =
    no_pair x (before ++ v ∷ []) ts t u (none_right (clash_with before v) (clashes_from (before ++ v ∷ []) ts) h) a b p

-- ---- where they stand

bound_among : (u : Use) (us : List Use) → IsAmong u us → u.form ≡ forms.Bound → IsAmong (itself true u.name u.around.place) (bound_module_names us)
bound_among u [] a f = absurd a
bound_among u (v ∷ us) (inl e) f =
    among_left (itself true u.name u.around.place) (bound_module_name v v.form) (bound_module_names us)
    (subst (λ w. IsAmong (itself true u.name u.around.place) (bound_module_name w w.form)) e (subst (λ g. IsAmong (itself true u.name u.around.place) (bound_module_name u g)) (sym f) (inl refl)))
bound_among u (v ∷ us) (inr a) f = among_right (itself true u.name u.around.place) (bound_module_name v v.form) (bound_module_names us) (bound_among u us a f)

pub shared_among : (x : PlacedName) (xs : List PlacedName) → IsAmong x xs → IsAmong (itself false x.name x.place) (shared_module_names xs)
shared_among x [] a = absurd a
shared_among x (y ∷ xs) (inl e) = inl (ap (λ z. itself false z.name z.place) e)
shared_among x (y ∷ xs) (inr a) = inr (shared_among x xs a)

pub own_among : (p : Process) (y : Name) (ys : List Name) → IsAmong y ys → IsAmong (own_module_name p y) (own_module_names p ys)
own_among p y [] a = absurd a
own_among p y (z ∷ ys) (inl e) = inl (ap (own_module_name p) e)
own_among p y (z ∷ ys) (inr a) = inr (own_among p y ys a)

pub process_among : (rows : List (Name × List Name)) (p : Process) (y : Name) (ps : List Process) → IsAmong p ps → IsAmong y (or_none (find p.archetype.name rows)) → IsAmong (own_module_name p y) (process_module_names rows ps)
process_among rows p y [] a h = absurd a
process_among rows p y (q ∷ ps) (inl e) h =
    inr (among_left (own_module_name p y) (own_module_names q (or_none (find q.archetype.name rows))) (process_module_names rows ps) (subst (λ (r : Process). IsAmong (own_module_name p y) (own_module_names r (or_none (find r.archetype.name rows)))) e (own_among p y (or_none (find p.archetype.name rows)) h)))
process_among rows p y (q ∷ ps) (inr a) h =
    inr (among_right (own_module_name p y) (own_module_names q (or_none (find q.archetype.name rows))) (process_module_names rows ps) (process_among rows p y ps a h))

module _ (s : Spec) (h : name_clashes s ≡ []) where
  -- what an expression binds is no declared name, and no name that a process writes
  abbrev Rest : List ModuleName
  Rest = shared_module_names (shared_names s) ++ written_by s ++ bound_module_names (all_uses s)

  rest_none : clashes_from (fixed_module_names fixed_names) (in_text_order (λ t. t.place) Rest) ≡ []
  rest_none = behind [] (fixed_module_names fixed_names) (in_text_order (λ t. t.place) Rest) h
    where
      behind : (before xs ys : List ModuleName) → clashes_from before (xs ++ ys) ≡ [] → clashes_from (before ++ xs) ys ≡ []
      behind before [] ys k = subst (λ (zs : List ModuleName). clashes_from zs ys ≡ []) (sym (append-nil before)) k
      behind before (x ∷ xs) ys k =
          subst (λ (zs : List ModuleName). clashes_from zs ys ≡ []) (append_assoc before (x ∷ []) xs) (behind (before ++ x ∷ []) xs ys (none_right (clash_with before x) (clashes_from (before ++ x ∷ []) (xs ++ ys)) k))

  pub bound_apart : (u : Use) → IsAmong u (all_uses s) → u.form ≡ forms.Bound → (t : ModuleName) → IsAmong t (shared_module_names (shared_names s) ++ written_by s) → t.bound ≡ false → t.written ≡ u.name → ⊥
  bound_apart u a f t b g e =
      let first = shared_module_names (shared_names s) ++ written_by s in
      no_pair u.name (fixed_module_names fixed_names) (in_text_order (λ t. t.place) Rest) (itself true u.name u.around.place) t rest_none
      (among_ordered (λ t. t.place) (itself true u.name u.around.place) Rest (among_right (itself true u.name u.around.place) first (bound_module_names (all_uses s)) (bound_among u (all_uses s) a f)))
      (among_ordered (λ t. t.place) t Rest (among_left t first (bound_module_names (all_uses s)) b))
      (record { bound = refl; free = g; here = refl; there = e })

  -- nor a fixed name
  pub bound_not_fixed : (u : Use) → IsAmong u (all_uses s) → u.form ≡ forms.Bound → (x : Name) → IsAmong (itself false x 0) (fixed_module_names fixed_names) → x ≡ u.name → ⊥
  bound_not_fixed u a f x b e =
      let t = itself true u.name u.around.place in
      let first = shared_module_names (shared_names s) ++ written_by s in
      let l = later (fixed_module_names fixed_names) (in_text_order (λ t. t.place) Rest) t (itself false x 0) rest_none b (among_ordered (λ t. t.place) t Rest (among_right t first (bound_module_names (all_uses s)) (bound_among u (all_uses s) a f))) in
      let c = clashing u.name t (itself false x 0) refl e refl in
      let q : true ≡ false = sym c ∙ l in cc
