-- States whose variables have the names of others; what an expression's value is in such states, and whether an action is TRUE.
use Rattle.std.proofs.Common.{◌≡◌, ℕ, ◌+◌, ◌<◌, length, map, drop, get_or, Bool, true, false, if◌then◌else◌, List, ◌∷◌, ap, sym, ◌∙◌, subst}
use Rattle.std.specs.Prelude.{[], IsTrue, ◌↔◌, reverse, Option, None, Some, Result, IfOk}
use Rattle.std.proofs.lemmas.Result.{IfOk-weaker}
use Rattle.std.proofs.lemmas.List.{drop_more}
use Rattle.pgo_base.specs.Data.{Data, boolean}
use Rattle.pgo_base.specs.Lookup.{Name, Names, Vars, same_name, find}
use Rattle.pgo_base.specs.Tree.{Tree}
use Rattle.pgo_base.specs.View.{data_of, named_data}
use Rattle.pgo_base.specs.declared.value.Value.{Value}
use Rattle.pgo_model.specs.Acts.{Acts}
use Rattle.pgo_model.specs.Module.{Module, actions_of, defs_of}
use Rattle.pgo_model.specs.Val.{Defined, Val, val, meanings}
use Rattle.pgo_model.specs.Written.{self_name}
use Rattle.pgo_check.specs.Assigned.{HasVariablesOf}
use Rattle.pgo_check.proofs.Places.{name_is}

-- one variable more on both sides, of one name
pub one_more : (a b : Name) (v w : Data) (s t : Vars) → same_name a b ≡ true → HasVariablesOf s t → HasVariablesOf ((a, v) ∷ s) ((b, w) ∷ t)
one_more a b v w s t e h x = subst (λ z. find x ((a, v) ∷ s) ≡ None → find x ((z, w) ∷ t) ≡ None) ((name_is a b).0 e) (go (same_name x a) (h x))
  where
    go : (c : Bool) → (find x s ≡ None → find x t ≡ None) → (if c then Some v else find x s) ≡ None → (if c then Some w else find x t) ≡ None
    go true k n = absurd (cc)
    go false k n = k n

-- the same of the rest of two lists in memory, from one place on
pub names_more : (xs ys : List (Name × Value)) (i : ℕ) (p q : Name × Value) → i < length xs → i < length ys → p ≡ get_or xs i p → q ≡ get_or ys i q → same_name p.0 q.0 ≡ true → HasVariablesOf (map named_data (drop (i + 1) xs)) (map named_data (drop (i + 1) ys)) → HasVariablesOf (map named_data (drop i xs)) (map named_data (drop i ys))
names_more xs ys i p q h g e f s r =
    let left = drop_more xs i p h ∙ ap (λ x. x ∷ drop (i + 1) xs) (sym e) in
    let right = drop_more ys i q g ∙ ap (λ x. x ∷ drop (i + 1) ys) (sym f) in
    let more = one_more p.0 q.0 (data_of p.1) (data_of q.1) (map named_data (drop (i + 1) xs)) (map named_data (drop (i + 1) ys)) s r in
    subst (λ ps. HasVariablesOf (map named_data ps) (map named_data (drop i ys))) (sym left) (subst (λ qs. HasVariablesOf (map named_data (p ∷ drop (i + 1) xs)) (map named_data qs)) (sym right) more)

-- definitions with one meaning give an expression one value
pub value_seen : (ds es : List Defined) (e : Tree) (names : Names) (s : Vars) (next : Option Vars) → meanings ds s next ≡ meanings es s next → Val ds e names s next ≡ Val es e names s next
value_seen ds es e names s next h = ap (λ ms. val e (record { names = names; part = None; now = s; next = next; defs = ms })) h

-- no action of the name
pub acts_not : (m : Module) (consts : List (Name × Data)) (a : Name) (id : Data) (s t : Vars) → find a (reverse (actions_of m)) ≡ None → Acts m consts a id s t → ⊥
acts_not m consts a id s t h k = let e : None ≡ Some k.0 = sym h ∙ k.1 in cc

-- the body of the last action of the name is TRUE by definitions that mean what the module's do
pub acts_when : {E : Type 0} (r : Result Bool E) (ds : List Defined) (m : Module) (consts : List (Name × Data)) (self a : Name) (id : Data) (s t : Vars) (body : Tree)
    → self ≡ self_name → find a (reverse (actions_of m)) ≡ Some body → meanings ds s (Some t) ≡ meanings (defs_of m consts) s (Some t)
    → IfOk r (λ b. IsTrue b ↔ Val ds body ((self, Some id) ∷ []) s (Some t) ≡ Some (boolean true)) → IfOk r (λ b. IsTrue b ↔ Acts m consts a id s t)
acts_when r ds m consts self a id s t body n f h k =
    IfOk-weaker r (λ b. IsTrue b ↔ Val ds body ((self, Some id) ∷ []) s (Some t) ≡ Some (boolean true)) (λ b. IsTrue b ↔ Acts m consts a id s t) (λ b. one b) k
  where
    seen : Val ds body ((self, Some id) ∷ []) s (Some t) ≡ Val (defs_of m consts) body ((self_name, Some id) ∷ []) s (Some t)
    seen = ap (λ x. Val ds body ((x, Some id) ∷ []) s (Some t)) n ∙ value_seen ds (defs_of m consts) body ((self_name, Some id) ∷ []) s (Some t) h

    one : (b : Bool) → (IsTrue b ↔ Val ds body ((self, Some id) ∷ []) s (Some t) ≡ Some (boolean true)) → (IsTrue b ↔ Acts m consts a id s t)
    one b k = (
      λ p. (body, f, sym seen ∙ k.0 p),
      λ w. (
          let same : w.0 ≡ body = cc (w.1, f) in
          k.1 (seen ∙ subst (λ e. Val (defs_of m consts) e ((self_name, Some id) ∷ []) s (Some t) ≡ Some (boolean true)) same w.2)
          ),
    )
