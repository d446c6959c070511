-- The invariant between a place in a section's code and a place in its expansion.
use Rattle.std.proofs.Common.{◌≡◌, ℕ, suc, ◌≤◌, Bool, true, false, ◌||◌, if◌then◌else◌, List, [], ◌∷◌, ◌++◌, length, Option, Some, None, ◌⊎◌, refl, sym, ap, ◌∙◌, subst, arith, inl, inr, append_assoc, option_map}
use Rattle.pgo_base.specs.Data.{Data}
use Rattle.pgo_base.specs.Lookup.{Name, Names, Vars, same_name, find}
use Rattle.pgo_base.specs.Tree.{Tree, name}
use Rattle.pgo_model.specs.Names.{same_name-self, same_name-is, is_among}
use Rattle.pgo_model.specs.Options.{on}
use Rattle.pgo_model.specs.Sequences.{operators}
use Rattle.pgo_model.specs.Val.{or_else, Meaning, Scope, sem, val, plain, call_def, value_of_name, value_of_call}
use Rattle.pgo_model.specs.Written.{made, self_name}
use Rattle.pgo_sections.specs.SectionsAgree.{IsPlace}
use Rattle.pgo_sections.specs.Code.{Place, Whole, Own, variable_of, content_name}
use Rattle.pgo_sections.specs.Context.{Context, value_before, value_now, view, value_of, content_state}
use Rattle.pgo_sections.specs.Expand.{Renames, Current, untouched, current, placed, named, current_tree, content_now}
use Rattle.pgo_sections.specs.Plain.{All}
use Rattle.pgo_sections.specs.WellFormed.{NotMade, Bindable, Alone, Applied, PlainTree}
use Rattle.pgo_sections.proofs.May.{block_of}
use Rattle.pgo_sections.proofs.Later.{find_in, find_on, find_past, AllLater, later_less, made_later, bindable_later, later_append, source_apart, Ext, found_ext}
use Rattle.pgo_sections.proofs.Under.{names, under}

-- the names that the code bound
abbrev pub sources : Renames → List Name
sources [] = []
sources (p ∷ ren) = p.0 ∷ sources ren

if_or : (b c : Bool) → b || c ≡ true → b ≡ false → c ≡ true
if_or true c h e = absurd (grind (arith, e))
if_or false c h e = h

pub among_found : (ren : Renames) (x : Name) → is_among x (sources ren) ≡ true → (y : Name) × (find x ren ≡ Some y)
among_found [] x h = absurd (grind (arith, h))
among_found (p ∷ ren) x h = go (same_name x p.0) refl (λ k. among_found ren x k)
  where
    go : (b : Bool) → same_name x p.0 ≡ b → (is_among x (sources ren) ≡ true → (y : Name) × (find x ren ≡ Some y)) → (y : Name) × (find x (p ∷ ren) ≡ Some y)
    go true e more = (p.1, find_in x p ren e)
    go false e more = let r = more (if_or (same_name x p.0) (is_among x (sources ren)) h e) in (r.0, find_on x p ren e ∙ r.1)

or_out : (b c : Bool) → b || c ≡ false → (b ≡ false) × (c ≡ false)
or_out true c h = absurd (grind (arith, h))
or_out false c h = (refl, h)

pub among_not : (ren : Renames) (x : Name) → is_among x (sources ren) ≡ false → find x ren ≡ None
among_not [] x h = refl
among_not (p ∷ ren) x h =
    let o = or_out (same_name x p.0) (is_among x (sources ren)) h in find_on x p ren o.0 ∙ among_not ren x o.1

-- past some names, or among them
pub find_front : (l m : Names) (x : Name) (v : Option Data) → find x l ≡ Some v → find x (l ++ m) ≡ Some v
find_front [] m x v h = absurd (grind (arith, h))
find_front (p ∷ l) m x v h = go (same_name x p.0) h (λ k. find_front l m x v k)
  where
    go : (b : Bool) → (if b then Some p.1 else find x l) ≡ Some v → (find x l ≡ Some v → find x (l ++ m) ≡ Some v) → (if b then Some p.1 else find x (l ++ m)) ≡ Some v
    go true e more = e
    go false e more = more e

pub find_behind : (l m : Names) (x : Name) → find x l ≡ None → find x (l ++ m) ≡ find x m
find_behind [] m x h = refl
find_behind (p ∷ l) m x h = go (same_name x p.0) h (λ k. find_behind l m x k)
  where
    go : (b : Bool) → (if b then Some p.1 else find x l) ≡ None → (find x l ≡ None → find x (l ++ m) ≡ find x m) → (if b then Some p.1 else find x (l ++ m)) ≡ find x m
    go true e more = absurd (grind (arith, e))
    go false e more = more e

found_step : (b c : Bool) → b || c ≡ true → (b ≡ true) ⊎ (c ≡ true)
found_step true c h = inl refl
found_step false c h = inr h

found_within : (Γ : Names) (x : Name) → is_among x (names Γ) ≡ true → (v : Option Data) × ((env : Names) → find x (Γ ++ env) ≡ Some v)
found_within [] x h = absurd (grind (arith, h))
found_within (p ∷ Γ) x h = go (same_name x p.0) refl (λ k. found_within Γ x k)
  where
    go : (b : Bool) → same_name x p.0 ≡ b → (is_among x (names Γ) ≡ true → (v : Option Data) × ((env : Names) → find x (Γ ++ env) ≡ Some v)) → (v : Option Data) × ((env : Names) → find x ((p ∷ Γ) ++ env) ≡ Some v)
    go true e more = (p.1, λ env. find_in x p (Γ ++ env) e)
    go false e more =
        let r = more (if_or (same_name x p.0) (is_among x (names Γ)) h e) in (r.0, λ env. find_on x p (Γ ++ env) e ∙ r.1 env)

-- the names of the variables
pub view_some : (k : Context) (ps : List (Name × Place)) (ch : Vars) (x : Name) (p : Place) → find x ps ≡ Some p → find x (view k ps ch) ≡ Some (value_now k p ch)
view_some k [] ch x p h = absurd (grind (arith, h))
view_some k (q ∷ ps) ch x p h = go (same_name x q.0) h (λ e. view_some k ps ch x p e)
  where
    go : (b : Bool) → (if b then Some q.1 else find x ps) ≡ Some p → (find x ps ≡ Some p → find x (view k ps ch) ≡ Some (value_now k p ch)) → (if b then Some (value_now k q.1 ch) else find x (view k ps ch)) ≡ Some (value_now k p ch)
    go true e more = ap (option_map (λ r. value_now k r ch)) e
    go false e more = more e

pub view_none : (k : Context) (ps : List (Name × Place)) (ch : Vars) (x : Name) → find x ps ≡ None → find x (view k ps ch) ≡ (if same_name x self_name then Some (Some k.id) else None)
view_none k [] ch x h = refl
view_none k (q ∷ ps) ch x h = go (same_name x q.0) h (λ e. view_none k ps ch x e)
  where
    go : (b : Bool) → (if b then Some q.1 else find x ps) ≡ None → (find x ps ≡ None → find x (view k ps ch) ≡ (if same_name x self_name then Some (Some k.id) else None)) → (if b then Some (value_now k q.1 ch) else find x (view k ps ch)) ≡ (if same_name x self_name then Some (Some k.id) else None)
    go true e more = absurd (grind (arith, e))
    go false e more = more e

module _ (vs : List Name) (L : ℕ) (apart : (b b' : Name) (m m' : ℕ) → m ≤ L → m' ≤ L → same_name (made b m) (made b' m') ≡ true → m ≡ m') (s t : Vars) (ds : List Meaning) (not_there : (x : Name) → is_among x vs ≡ false → find x s ≡ None) where
  -- what the expressions of a path see
  abbrev pub on_path : Option Data → Names → Scope
  on_path part env = record { names = env; part = part; now = s; next = Some t; defs = ds }

  -- the names of a context's variables are places, and the path sees its definitions
  pub record Fits (k : Context) : Type 0 where
    pub places : (x : Name) (p : Place) → find x k.places ≡ Some p → IsPlace k p
    pub defs : (x : Name) (args : List Data) → call_def x args ds ≡ call_def x args k.defs

  -- under the path's names and any that may still be bound, the made name of a name that the code bound has its value
  abbrev pub SimName : ℕ → Names → Option Name → Option (Option Data) → Type 0
  SimName n env None None = Unit {0}
  SimName n env None (Some w) = ⊥
  SimName n env (Some y) None = ⊥
  SimName n env (Some y) (Some w) =
      (v : Data) × (w ≡ Some v) × ((Δ : Names) → AllLater vs L apart n Δ → find y (Δ ++ env) ≡ Some (Some v))

  -- the same variables changed, as often, and each made name has its variable's value
  abbrev pub Changed : ℕ → Current → Names → Vars → Type 0
  Changed n cur env ch = (length cur ≡ length ch) × ((x : Name) → SimName n env (find x cur) (option_map (λ v. Some v) (find x ch)))

  -- n names are bound above
  pub record Here (k : Context) (n : ℕ) (ren : Renames) (cur : Current) (env wenv : Names) (ch : Vars) : Type 0 where
    pub named : (x : Name) → SimName n env (find x ren) (find x wenv)
    pub valued : (p : Place) → IsPlace k p → (Δ : Names) → AllLater vs L apart n Δ → (part : Option Data) → sem (current cur p) (on_path part (Δ ++ env)) ≡ plain (value_now k p ch)
    pub self_is : (Δ : Names) → AllLater vs L apart n Δ → find self_name (Δ ++ env) ≡ Some (Some k.id)
    pub others : (x : Name) → NotMade x → same_name x self_name ≡ false → find x env ≡ None
    pub long : Changed n cur env ch

  pub sim_ext : (n n' : ℕ) (env env' : Names) (o : Option Name) (w : Option (Option Data)) → n ≤ n' → Ext vs L apart n env env' → SimName n env o w → SimName n' env' o w
  sim_ext n n' env env' None None le x h = tt
  sim_ext n n' env env' None (Some w) le x h = h
  sim_ext n n' env env' (Some y) None le x h = h
  sim_ext n n' env env' (Some y) (Some w) le x h =
      (h.0, h.1, λ Δ later. ap (λ l. find y (Δ ++ l)) (sym x.is) ∙ ap (λ l. find y l) (sym (append_assoc Δ x.more env)) ∙ h.2 (Δ ++ x.more) (later_append vs L apart n Δ x.more (later_less vs L apart n n' Δ le later) (made_later vs L apart n x.more x.past)))

  sim_none : (n : ℕ) (env : Names) (o : Option Name) (w : Option (Option Data)) → SimName n env o w → o ≡ None → w ≡ None
  sim_none n env None None h e = refl
  sim_none n env None (Some w) h e = absurd h
  sim_none n env (Some y) w h e = absurd (grind (arith, e))

  -- more names are bound
  pub here_ext : (k : Context) (n n' : ℕ) (ren : Renames) (cur : Current) (env env' wenv : Names) (ch : Vars) → n ≤ n' → Ext vs L apart n env env' → Here k n ren cur env wenv ch → Here k n' ren cur env' wenv ch
  here_ext k n n' ren cur env env' wenv ch le x h = record {
    named = λ y. sim_ext n n' env env' (find y ren) (find y wenv) le x (h.named y);
    valued = λ p is Δ later part.
        ap (λ l. sem (current cur p) (on_path part (Δ ++ l))) (sym x.is)
        ∙ ap (λ l. sem (current cur p) (on_path part l)) (sym (append_assoc Δ x.more env))
        ∙ h.valued p is (Δ ++ x.more) (later_append vs L apart n Δ x.more (later_less vs L apart n n' Δ le later) (made_later vs L apart n x.more x.past)) part;
    self_is = λ Δ later.
        ap (λ l. find self_name (Δ ++ l)) (sym x.is)
        ∙ ap (λ l. find self_name l) (sym (append_assoc Δ x.more env))
        ∙ h.self_is (Δ ++ x.more) (later_append vs L apart n Δ x.more (later_less vs L apart n n' Δ le later) (made_later vs L apart n x.more x.past));
    others = λ y s not_self.
        ap (λ l. find y l) (sym x.is) ∙ find_past x.more env y (source_apart vs L apart y n x.more s x.past) ∙ h.others y s not_self;
    long = (h.long.0, λ y. sim_ext n n' env env' (find y cur) (option_map (λ v. Some v) (find y ch)) le x (h.long.1 y));
  }

  -- a name that the code binds
  pub here_with : (k : Context) (b : Name) (n : ℕ) (w : Name) (v : Data) (ren : Renames) (cur : Current) (env env' wenv : Names) (ch : Vars) → suc n ≤ L → Ext vs L apart (suc n) ((made b (suc n), Some v) ∷ env) env' → Here k (suc n) ren cur env' wenv ch → Here k (suc n) ((w, made b (suc n)) ∷ ren) cur env' ((w, Some v) ∷ wenv) ch
  here_with k b n w v ren cur env env' wenv ch top x h = record {
    named = λ y. go y (same_name y w);
    valued = h.valued;
    self_is = h.self_is;
    others = h.others;
    long = h.long;
  }
    where
      go : (y : Name) (same : Bool) → SimName (suc n) env' (if same then Some (made b (suc n)) else find y ren) (if same then Some (Some v) else find y wenv)
      go y true = (v, refl, λ Δ later. found_ext vs L apart b n (Some v) env env' Δ top x later)
      go y false = h.named y

  -- a place has a new value, under this made name
  pub here_set : (k : Context) (y : Name) (n : ℕ) (p : Place) (v : Data) (ren : Renames) (cur : Current) (env wenv : Names) (ch : Vars) → ((Δ : Names) → AllLater vs L apart n Δ → find y (Δ ++ env) ≡ Some (Some v)) → Here k n ren cur env wenv ch → Here k n ren ((variable_of p, y) ∷ cur) env wenv ((variable_of p, v) ∷ ch)
  here_set k y n p v ren cur env wenv ch found h = record {
    named = h.named;
    valued = λ q is Δ later part. go q is Δ later part (same_name (variable_of q) (variable_of p));
    self_is = h.self_is;
    others = h.others;
    long = (ap suc h.long.0, λ z. again z (same_name z (variable_of p)));
  }
    where
      again : (z : Name) (same : Bool) → SimName n env (if same then Some y else find z cur) (option_map (λ v. Some v) (if same then Some v else find z ch))
      again z true = (v, refl, found)
      again z false = h.long.1 z

      go : (q : Place) → IsPlace k q → (Δ : Names) → AllLater vs L apart n Δ → (part : Option Data) → (same : Bool) → sem (on (untouched q) (if same then Some y else find (variable_of q) cur) (λ z. name z)) (on_path part (Δ ++ env)) ≡ plain (on (value_before k q) (if same then Some v else find (variable_of q) ch) (λ z. Some z))
      go q is Δ later part true = ap (λ o. plain (or_else o (λ z. z) (or_else (find y s) (λ z. Some z) (call_def y [] ds)))) (found Δ later)
      go q is Δ later part false = h.valued q is Δ later part

  -- a block begins with its content
  pub fits_block : (k : Context) → Fits k → Fits (block_of k)
  fits_block k f = record { places = λ x p e. go x p (same_name x content_name) e; defs = f.defs }
    where
      go : (x : Name) (p : Place) (b : Bool) → (if b then Some (Whole content_name) else None) ≡ Some p → IsPlace (block_of k) p
      go x p true e = subst (IsPlace (block_of k)) (ap (λ o. elim o as (λ o. Place) [ None ↦ Whole content_name | Some q ↦ q ]) e) (ap (λ b. b || false) (same_name-self content_name))
      go x p false e = absurd (grind (arith, e))

  or_first : (b : Bool) → b || false ≡ true → b ≡ true
  or_first true h = refl
  or_first false h = h

  pub here_block : (k : Context) (b : Name) (n : ℕ) (old : Data) (ren wren : Renames) (cur : Current) (env env' wenv wwenv : Names) (ch : Vars) → suc n ≤ L → Ext vs L apart (suc n) ((made b (suc n), Some old) ∷ env) env' → Here k (suc n) ren cur env' wenv ch → ((x : Name) → SimName (suc n) env' (find x wren) (find x wwenv)) → Here (block_of k) (suc n) wren (content_now (made b (suc n))) env' wwenv (content_state old)
  here_block k b n old ren wren cur env env' wenv wwenv ch top x h handed = record {
    named = handed;
    valued = valued;
    self_is = h.self_is;
    others = h.others;
    long = (refl, λ z. first z (same_name z content_name));
  }
    where
      first : (z : Name) (same : Bool) → SimName (suc n) env' (if same then Some (made b (suc n)) else None) (option_map (λ v. Some v) (if same then Some old else None))
      first z true = (old, refl, λ Δ later. found_ext vs L apart b n (Some old) env env' Δ top x later)
      first z false = tt

      go : (g : Name) (Δ : Names) → AllLater vs L apart (suc n) Δ → (part : Option Data) → (same : Bool) → same ≡ true → sem (on (name g) (if same then Some (made b (suc n)) else None) (λ z. name z)) (on_path part (Δ ++ env')) ≡ plain (on None (if same then Some old else None) (λ z. Some z))
      go g Δ later part true e = ap (λ o. plain (or_else o (λ z. z) (or_else (find (made b (suc n)) s) (λ z. Some z) (call_def (made b (suc n)) [] ds)))) (found_ext vs L apart b n (Some old) env env' Δ top x later)
      go g Δ later part false e = absurd (grind (arith, e))

      valued : (p : Place) → IsPlace (block_of k) p → (Δ : Names) → AllLater vs L apart (suc n) Δ → (part : Option Data) → sem (current (content_now (made b (suc n))) p) (on_path part (Δ ++ env')) ≡ plain (value_now (block_of k) p (content_state old))
      valued (Whole g) is Δ later part = go g Δ later part (same_name g content_name) (or_first (same_name g content_name) is)
      valued (Own g) is Δ later part = absurd (grind (arith, is))

  -- ---- expressions
  module _ (k : Context) (f : Fits k) (n : ℕ) (ren : Renames) (cur : Current) (env wenv : Names) (ch : Vars) (h : Here k n ren cur env wenv ch) where
    later_of : (Γ : Names) → All (Bindable vs) (names Γ) → AllLater vs L apart n Γ
    later_of Γ ok = bindable_later vs L apart n Γ ok

    name_is : (x : Name) (Γ : Names) (part : Option Data) → All (Bindable vs) (names Γ) → Alone vs k.places (sources ren) x → is_among x (names Γ) ≡ false → sem (named k.places cur x (find x ren)) (on_path part (Γ ++ env)) ≡ plain (value_of_name x (record { names = Γ ++ (wenv ++ view k k.places ch); part = part; now = []; next = None; defs = k.defs }))
    name_is x Γ part ok alone out = go (find x ren) (find x wenv) refl refl (h.named x)
      where
        right : (q : Option (Option Data)) → find x (wenv ++ view k k.places ch) ≡ q → value_of_name x (record { names = Γ ++ (wenv ++ view k k.places ch); part = part; now = []; next = None; defs = k.defs }) ≡ or_else q (λ o. o) (call_def x [] k.defs)
        right q e =
            ap (λ o. or_else o (λ z. z) (call_def x [] k.defs)) (find_past Γ (wenv ++ view k k.places ch) x out ∙ e)

        not_variable : find x ren ≡ None → find x k.places ≡ None → (is_among x (sources ren) ≡ true) ⊎ (((p : Place) × (find x k.places ≡ Some p)) ⊎ (is_among x vs ≡ false)) → is_among x vs ≡ false
        not_variable er ep (inl a) = absurd (let r = among_found ren x a in let e : None ≡ Some r.0 = sym er ∙ r.1 in grind (arith, e))
        not_variable er ep (inr (inl q)) = absurd (let e : None ≡ Some q.0 = sym ep ∙ q.1 in grind (arith, e))
        not_variable er ep (inr (inr nv)) = nv

        constant : find x ren ≡ None → find x wenv ≡ None → find x k.places ≡ None → (b : Bool) → same_name x self_name ≡ b → sem (name x) (on_path part (Γ ++ env)) ≡ plain (value_of_name x (record { names = Γ ++ (wenv ++ view k k.places ch); part = part; now = []; next = None; defs = k.defs }))
        constant er ew ep true es =
            ap (λ o. plain (or_else o (λ z. z) (or_else (find x s) (λ z. Some z) (call_def x [] ds)))) (ap (λ y. find y (Γ ++ env)) (same_name-is x self_name es) ∙ h.self_is Γ (later_of Γ ok))
            ∙ sym (ap plain (right (Some (Some k.id)) (find_behind wenv (view k k.places ch) x ew ∙ view_none k k.places ch x ep ∙ ap (λ b. if b then Some (Some k.id) else None) es)))
        constant er ew ep false es =
            ap (λ o. plain (or_else o (λ z. z) (or_else (find x s) (λ z. Some z) (call_def x [] ds)))) (find_past Γ env x out ∙ h.others x alone.0 es)
            ∙ ap (λ o. plain (or_else o (λ z. Some z) (call_def x [] ds))) (not_there x (not_variable er ep alone.1))
            ∙ ap plain (f.defs x [])
            ∙ sym (ap plain (right None (find_behind wenv (view k k.places ch) x ew ∙ view_none k k.places ch x ep ∙ ap (λ b. if b then Some (Some k.id) else None) es)))

        variable : find x ren ≡ None → find x wenv ≡ None → (o : Option Place) → find x k.places ≡ o → sem (placed cur x (find x k.places)) (on_path part (Γ ++ env)) ≡ plain (value_of_name x (record { names = Γ ++ (wenv ++ view k k.places ch); part = part; now = []; next = None; defs = k.defs }))
        variable er ew (Some p) ep =
            ap (λ o. sem (placed cur x o) (on_path part (Γ ++ env))) ep
            ∙ h.valued p (f.places x p ep) Γ (later_of Γ ok) part
            ∙ sym (ap plain (right (Some (value_now k p ch)) (find_behind wenv (view k k.places ch) x ew ∙ view_some k k.places ch x p ep)))
        variable er ew None ep =
            ap (λ o. sem (placed cur x o) (on_path part (Γ ++ env))) ep ∙ constant er ew ep (same_name x self_name) refl

        go : (o : Option Name) (w : Option (Option Data)) → find x ren ≡ o → find x wenv ≡ w → SimName n env o w → sem (named k.places cur x (find x ren)) (on_path part (Γ ++ env)) ≡ plain (value_of_name x (record { names = Γ ++ (wenv ++ view k k.places ch); part = part; now = []; next = None; defs = k.defs }))
        go None None er ew sim =
            ap (λ o. sem (named k.places cur x o) (on_path part (Γ ++ env))) er ∙ variable er ew (find x k.places) refl
        go None (Some w) er ew sim = absurd sim
        go (Some y) None er ew sim = absurd sim
        go (Some y) (Some w) er ew sim =
            ap (λ o. sem (named k.places cur x o) (on_path part (Γ ++ env))) er
            ∙ ap (λ o. plain (or_else o (λ z. z) (or_else (find y s) (λ z. Some z) (call_def y [] ds)))) (sim.2 Γ (later_of Γ ok))
            ∙ sym (ap plain (right (Some (Some sim.0)) (find_front wenv (view k k.places ch) x w ew ∙ ap Some sim.1)))

    call_is : (x : Name) (args : List Data) (Γ : Names) (part : Option Data) → All (Bindable vs) (names Γ) → Applied vs k.places (sources ren) x → value_of_call x args (on_path part (Γ ++ env)) ≡ value_of_call x args (record { names = Γ ++ (wenv ++ view k k.places ch); part = part; now = []; next = None; defs = k.defs })
    call_is x args Γ part ok applied = go (is_among x (names Γ)) refl
      where
        senv : Names
        senv = wenv ++ view k k.places ch

        none_there : find x (wenv ++ view k k.places ch) ≡ None
        none_there =
            find_behind wenv (view k k.places ch) x (sim_none n env (find x ren) (find x wenv) (h.named x) (among_not ren x applied.3))
            ∙ view_none k k.places ch x applied.2
            ∙ ap (λ b. if b then Some (Some k.id) else None) applied.4

        go : (b : Bool) → is_among x (names Γ) ≡ b → value_of_call x args (on_path part (Γ ++ env)) ≡ value_of_call x args (record { names = Γ ++ (wenv ++ view k k.places ch); part = part; now = []; next = None; defs = k.defs })
        go true e =
            let r = found_within Γ x e in
            ap (λ o. or_else (find x operators) (λ g. g args) (or_else o (λ z. None) (or_else (find x s) (λ z. None) (call_def x args ds)))) (r.1 env)
            ∙ sym (ap (λ o. or_else (find x operators) (λ g. g args) (or_else o (λ z. None) (call_def x args k.defs))) (r.1 (wenv ++ view k k.places ch)))
        go false e =
            ap (λ o. or_else (find x operators) (λ g. g args) (or_else o (λ z. None) (or_else (find x s) (λ z. None) (call_def x args ds)))) (find_past Γ env x e ∙ h.others x applied.0 applied.4)
            ∙ ap (λ o. or_else (find x operators) (λ g. g args) (or_else o (λ z. None) (call_def x args ds))) (not_there x applied.1)
            ∙ ap (λ o. or_else (find x operators) (λ g. g args) o) (f.defs x args)
            ∙ sym (ap (λ o. or_else (find x operators) (λ g. g args) (or_else o (λ z. None) (call_def x args k.defs))) (find_past Γ (wenv ++ view k k.places ch) x e ∙ none_there))

    -- an expression has the same value on the path as in the section
    pub tree_is : (e : Tree) → PlainTree vs k.places (sources ren) e → val (current_tree k.places ren cur e) (on_path None env) ≡ value_of k e wenv ch
    tree_is e plain_e =
        ap (λ o. o.value) (under (Alone vs k.places (sources ren)) (Applied vs k.places (sources ren)) (Bindable vs) (λ x. named k.places cur x (find x ren)) env (wenv ++ view k k.places ch) s [] (Some t) None ds k.defs (λ Γ part x ok alone out. name_is x Γ part ok alone out) (λ Γ part x args ok applied. call_is x args Γ part ok applied) e plain_e None [] tt)
