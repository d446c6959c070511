-- The paths through an expansion go where the section may.
use Rattle.std.proofs.Common.{◌≡◌, ℕ, suc, ◌+◌, ◌<◌, ◌≤◌, Bool, true, false, ◌||◌, if◌then◌else◌, List, [], ◌∷◌, ◌++◌, length, Option, Some, None, ◌↔◌, refl, sym, ap, ◌∙◌, subst, arith, inr, option_and_then, option_map}
use Rattle.std.specs.Prelude.{unwrap_or}
use Rattle.std.proofs.lemmas.Option.{same_Some}
use Rattle.pgo_base.specs.Data.{Data, boolean}
use Rattle.pgo_base.specs.Lookup.{Name, Names, Vars, same_name, find}
use Rattle.pgo_base.specs.Tree.{Tree, name, index, except, trees, no_paths, more_paths}
use Rattle.pgo_model.specs.Names.{same_name-self, is_among}
use Rattle.pgo_model.specs.Operators.{apply, both, members_of, put_at, lookup, graph_of, function_of, replace_at}
use Rattle.pgo_model.specs.Options.{on}
use Rattle.pgo_model.specs.Val.{or_else, Scope, sem, plain, call_def, meanings, index_of}
use Rattle.pgo_model.specs.Written.{made}
use Rattle.pgo_sections.specs.SectionsAgree.{IsPlace}
use Rattle.pgo_sections.specs.Code.{Place, Whole, variable_of, Code, Empty, Skip, Let, Pick, Become, Set, Await, Assert, Print, If, Either, Seq, Goto, Yield, Read, Write, Codes, no_codes, more_codes, content_name, content_places, value_name, old_base, val_base, new_base}
use Rattle.pgo_sections.specs.Context.{Context, value_now, content, with_content, put_content, content_state, index_value, is_assigned}
use Rattle.pgo_sections.specs.BoundValues.{bindable, value_under, put_part}
use Rattle.pgo_sections.specs.Expand.{Renames, Current, current, current_tree, content_tree, content_put, becoming, content_now, value_handed, OnGo, OnJump, OnYield, no_go, no_jump, put_back, left_behind, expand, expand_arms}
use Rattle.pgo_sections.specs.Expansion.{Expansion, With, PathContext, Path, SomePath, value_on}
use Rattle.pgo_sections.specs.Nodes.{most_names, most_of_arms}
use Rattle.pgo_sections.specs.WellFormed.{PlainCode, PlainCodes, KnownIndex}
use Rattle.pgo_sections.proofs.Here.{sim_ext, sources, among_found, on_path, Fits, SimName, Changed, Here, here_ext, here_with, here_set, fits_block, here_block, tree_is}
use Rattle.pgo_sections.proofs.Iff.{iff_same, iff_then, sum_iff, with_iff, guard_iff, pick_iff, known_iff, map_iff, iff_along, read_iff}
use Rattle.pgo_sections.proofs.Later.{AllLater, Ext, ext_same, ext_more, ext_then, just_bound}
use Rattle.pgo_sections.proofs.May.{block_of, left_content, May, SomeMay, never, never_at}

put_none : (i : Data) (f : Option Data) → option_and_then (λ v. put_at (i ∷ []) (λ part. None) (Some v)) f ≡ None
put_none i None = refl
put_none i (Some f) = pairs (graph_of f)
  where
    there : (ps : List (Data × Data)) (o : Option Data) → (elim o as (λ o. Option Data) [ None ↦ option_map (λ v. f) (put_at [] (λ part. None) None) | Some part ↦ option_and_then (λ v. function_of (replace_at i v ps)) (put_at [] (λ part. None) (Some part)) ]) ≡ None
    there ps None = refl
    there ps (Some part) = refl

    pairs : (o : Option (List (Data × Data))) → option_and_then (λ ps. elim (lookup i ps) as (λ o. Option Data) [ None ↦ option_map (λ v. f) (put_at [] (λ part. None) None) | Some part ↦ option_and_then (λ v. function_of (replace_at i v ps)) (put_at [] (λ part. None) (Some part)) ]) o ≡ None
    pairs None = refl
    pairs (Some ps) = there ps (lookup i ps)

same_assigned : {A B : Type 0} → (as' : List A) (bs : List B) → length as' ≡ length bs → is_assigned as' ≡ is_assigned bs
same_assigned [] [] e = refl
same_assigned [] (b ∷ bs) e = absurd (omega (arith, e))
same_assigned (a ∷ as') [] e = absurd (omega (arith, e))
same_assigned (a ∷ []) (b ∷ []) e = refl
same_assigned (a ∷ []) (b ∷ c ∷ bs) e = absurd (omega (arith, e))
same_assigned (a ∷ b ∷ as') (c ∷ []) e = absurd (omega (arith, e))
same_assigned (a ∷ b ∷ as') (c ∷ d ∷ bs) e = refl

on_some : {A : Type 0} → (o : Option A) → on None o (λ v. Some v) ≡ o
on_some None = refl
on_some (Some a) = refl

module _ (vs : List Name) (L : ℕ) (apart : (b b' : Name) (m m' : ℕ) → m ≤ L → m' ≤ L → same_name (made b m) (made b' m') ≡ true → m ≡ m') (a : PathContext) (s t : Vars) (not_there : (x : Name) → is_among x vs ≡ false → find x s ≡ None) where
  abbrev pub ThePath : Option Data → Names → Scope
  ThePath part env = on_path vs L apart s t (meanings a.defs s (Some t)) not_there part env

  abbrev pub IsHere : Context → ℕ → Renames → Current → Names → Names → Vars → Type 0
  IsHere k n ren cur env wenv ch = Here vs L apart s t (meanings a.defs s (Some t)) not_there k n ren cur env wenv ch

  abbrev pub Fit : Context → Type 0
  Fit k = Fits vs L apart s t (meanings a.defs s (Some t)) not_there k

  abbrev pub Valued : Context → ℕ → Current → Names → Vars → Type 0
  Valued k n cur env ch = (p : Place) → IsPlace k p → (Δ : Names) → AllLater vs L apart n Δ → (part : Option Data) → sem (current cur p) (ThePath part (Δ ++ env)) ≡ plain (value_now k p ch)

  abbrev pub Change : ℕ → Current → Names → Vars → Type 0
  Change n cur env ch = Changed vs L apart s t (meanings a.defs s (Some t)) not_there n cur env ch

  -- what follows agrees, wherever the code leads, if no more than L names are bound there
  pub record Ways (k : Context) (n : ℕ) (env : Names) (go : OnGo) (jump : OnJump) (yield : OnYield) (P : Vars → Type 0) (J : Name → Vars → Type 0) (Y : Data → Vars → Type 0) : Type 0 where
    pub on_go : (cur : Current) (n' : ℕ) (env' : Names) (ch : Vars) → n ≤ n' → n' + most_names (go cur n') ≤ L → Ext vs L apart n env env' → Valued k n' cur env' ch → Change n' cur env' ch → Path a (go cur n') env' s t ↔ P ch
    pub on_jump : (l : Name) (cur : Current) (n' : ℕ) (env' : Names) (ch : Vars) → n ≤ n' → n' + most_names (jump l cur n') ≤ L → Ext vs L apart n env env' → Valued k n' cur env' ch → Change n' cur env' ch → Path a (jump l cur n') env' s t ↔ J l ch
    pub on_yield : (e : Tree) (cur : Current) (n' : ℕ) (env' : Names) (ch : Vars) → n ≤ n' → n' + most_names (yield e cur n') ≤ L → Ext vs L apart n env env' → Valued k n' cur env' ch → Change n' cur env' ch → Path a (yield e cur n') env' s t ↔ ((v : Data) × (bindable (value_on a e env' s t) ≡ Some v) × Y v ch)

  ways_ext : (k : Context) (n n1 : ℕ) (env env1 : Names) (go : OnGo) (jump : OnJump) (yield : OnYield) (P : Vars → Type 0) (J : Name → Vars → Type 0) (Y : Data → Vars → Type 0) → n ≤ n1 → Ext vs L apart n env env1 → Ways k n env go jump yield P J Y → Ways k n1 env1 go jump yield P J Y
  ways_ext k n n1 env env1 go jump yield P J Y le x w = record {
    on_go = λ cur n' env' ch l m y. w.on_go cur n' env' ch (omega (arith, le, l)) m (ext_then vs L apart n n1 env env1 env' le x y);
    on_jump = λ q cur n' env' ch l m y. w.on_jump q cur n' env' ch (omega (arith, le, l)) m (ext_then vs L apart n n1 env env1 env' le x y);
    on_yield = λ e cur n' env' ch l m y. w.on_yield e cur n' env' ch (omega (arith, le, l)) m (ext_then vs L apart n n1 env env1 env' le x y);
  }

  -- the names of the code's start, and the variables now
  here_again : (k : Context) (n n' : ℕ) (ren : Renames) (cur cur' : Current) (env env' wenv : Names) (ch ch' : Vars) → n ≤ n' → Ext vs L apart n env env' → IsHere k n ren cur env wenv ch → Valued k n' cur' env' ch' → Change n' cur' env' ch' → IsHere k n' ren cur' env' wenv ch'
  here_again k n n' ren cur cur' env env' wenv ch ch' le x h valued long =
      let h' = here_ext vs L apart s t (meanings a.defs s (Some t)) not_there k n n' ren cur env env' wenv ch le x h in
      record { named = h'.named; valued = valued; self_is = h'.self_is; others = h'.others; long = long }

  -- a name that the code bound
  record Known (n : ℕ) (ren : Renames) (env wenv : Names) (w : Name) : Type 0 where
    made_as : Name
    value : Data
    is_made : find w ren ≡ Some made_as
    is_value : value_under w wenv ≡ Some value
    found : (Δ : Names) → AllLater vs L apart n Δ → find made_as (Δ ++ env) ≡ Some (Some value)

  known : (k : Context) (n : ℕ) (ren : Renames) (cur : Current) (env wenv : Names) (ch : Vars) (w : Name) → IsHere k n ren cur env wenv ch → is_among w (sources ren) ≡ true → Known n ren env wenv w
  known k n ren cur env wenv ch w h is = go (find w ren) (find w wenv) refl refl (h.named w) (among_found ren w is)
    where
      go : (o : Option Name) (v : Option (Option Data)) → find w ren ≡ o → find w wenv ≡ v → SimName vs L apart s t (meanings a.defs s (Some t)) not_there n env o v → (y : Name) × (find w ren ≡ Some y) → Known n ren env wenv w
      go None v er ev sim f = absurd (let e : None ≡ Some f.0 = sym er ∙ f.1 in grind (arith, e))
      go (Some y) None er ev sim f = absurd sim
      go (Some y) (Some v) er ev sim f =
          record { made_as = y; value = sim.0; is_made = er; is_value = ap (option_and_then (λ o. o)) ev ∙ sim.1; found = sim.2 }

  plain_name : (y : Name) (v : Data) (env : Names) (part : Option Data) → find y env ≡ Some (Some v) → sem (name y) (ThePath part env) ≡ plain (Some v)
  plain_name y v env part e =
      ap (λ o. plain (or_else o (λ z. z) (or_else (find y s) (λ z. Some z) (call_def y [] (meanings a.defs s (Some t)))))) e

  -- an index that is known: the made name that stands for it has its value
  abbrev IndexIs : ℕ → Renames → Names → Names → Option Name → Option Data → Type 0
  IndexIs n ren env wenv None None = Unit {0}
  IndexIs n ren env wenv None (Some j) = ⊥
  IndexIs n ren env wenv (Some i) None = ⊥
  IndexIs n ren env wenv (Some i) (Some j) =
      (y : Name) × (find i ren ≡ Some y) × (value_under i wenv ≡ Some j) × ((Δ : Names) → AllLater vs L apart n Δ → find y (Δ ++ env) ≡ Some (Some j))

  known_index : (k : Context) (n : ℕ) (ren : Renames) (cur : Current) (env wenv : Names) (ch : Vars) (i : Option Name) → IsHere k n ren cur env wenv ch → KnownIndex (sources ren) i → (j : Option Data) × (index_value i wenv ≡ Some j) × IndexIs n ren env wenv i j
  known_index k n ren cur env wenv ch None h is = (None, refl, tt)
  known_index k n ren cur env wenv ch (Some i) h is =
      let x = known k n ren cur env wenv ch i h is in (Some x.value, ap (option_map (λ v. Some v)) x.is_value, (x.made_as, x.is_made, x.is_value, x.found))

  -- the content on the path is that of the section
  content_is : (k : Context) (n : ℕ) (ren : Renames) (cur : Current) (env wenv : Names) (ch : Vars) (g : Name) (i : Option Name) (j : Option Data) → is_among g k.globals ≡ true → IsHere k n ren cur env wenv ch → IndexIs n ren env wenv i j → value_on a (content_tree ren cur g i) env s t ≡ content k g j ch
  content_is k n ren cur env wenv ch g None None is h x = ap (λ o. o.value) (h.valued (Whole g) is [] tt None)
  content_is k n ren cur env wenv ch g None (Some j) is h x = absurd x
  content_is k n ren cur env wenv ch g (Some i) None is h x = absurd x
  content_is k n ren cur env wenv ch g (Some i) (Some j) is h x =
      ap (λ o. value_on a (index (current cur (Whole g)) (trees (name (unwrap_or o i) ∷ []))) env s t) x.1
      ∙ (let p = h.valued (Whole g) is [] tt None in let q = plain_name x.0 j env None (x.3 [] tt) in
      λ z. both apply (p z).value (option_and_then index_of (both (λ v rest. Some (v ∷ rest)) (q z).value (Some []))))

  -- so is the global with another content
  put_is : (k : Context) (n : ℕ) (ren : Renames) (cur : Current) (env wenv : Names) (ch : Vars) (g : Name) (i : Option Name) (j : Option Data) (e : Tree) (o : Option Data) → is_among g k.globals ≡ true → IsHere k n ren cur env wenv ch → IndexIs n ren env wenv i j → ((part : Option Data) → sem e (ThePath part env) ≡ plain o) → value_on a (content_put ren cur g i e) env s t ≡ with_content k g j o ch
  put_is k n ren cur env wenv ch g None None e o is h x e_is = ap (λ o. o.value) (e_is None)
  put_is k n ren cur env wenv ch g None (Some j) e o is h x e_is = absurd x
  put_is k n ren cur env wenv ch g (Some i) None e o is h x e_is = absurd x
  put_is k n ren cur env wenv ch g (Some i) (Some j) e o is h x e_is =
      ap (λ o. value_on a (except (current cur (Whole g)) (more_paths (trees (name (unwrap_or o i) ∷ [])) e no_paths)) env s t) x.1
      ∙ (let p = h.valued (Whole g) is [] tt None in let q = plain_name x.0 j env None (x.3 [] tt) in
      λ z. option_and_then (λ path. option_and_then (λ v. put_at path (λ part. (e_is part z).value) (Some v)) (p z).value) (both (λ v rest. Some (v ∷ rest)) (q z).value (Some [])))
      ∙ go o
    where
      go : (o : Option Data) → option_and_then (λ v. put_at (j ∷ []) (λ part. o) (Some v)) (value_now k (Whole g) ch) ≡ put_part j (value_now k (Whole g) ch) o
      go None = put_none j (value_now k (Whole g) ch)
      go (Some w) = refl

  no_ways : (k : Context) (n : ℕ) (env : Names) (yield : OnYield) (Y : Data → Vars → Type 0) → ((e : Tree) (cur : Current) (n' : ℕ) (env' : Names) (ch : Vars) → n ≤ n' → n' + most_names (yield e cur n') ≤ L → Ext vs L apart n env env' → Valued k n' cur env' ch → Change n' cur env' ch → Path a (yield e cur n') env' s t ↔ ((v : Data) × (bindable (value_on a e env' s t) ≡ Some v) × Y v ch)) → Ways k n env no_go no_jump yield never never_at Y
  no_ways k n env yield Y h = record {
    on_go = λ cur n' env' ch l m x v long. iff_same;
    on_jump = λ q cur n' env' ch l m x v long. iff_same;
    on_yield = h;
  }

  -- the paths of the code's expansion go where the code may
  abbrev pub Agree : Code → Type 1
  Agree c = (k : Context) (f : Fit k) (n : ℕ) (ren : Renames) (cur : Current) (env wenv : Names) (ch : Vars) (go : OnGo) (jump : OnJump) (yield : OnYield) (P : Vars → Type 0) (J : Name → Vars → Type 0) (Y : Data → Vars → Type 0) → PlainCode vs k.globals k.places (sources ren) c → n + most_names (expand k.places c ren cur n go jump yield) ≤ L → IsHere k n ren cur env wenv ch → Ways k n env go jump yield P J Y → Path a (expand k.places c ren cur n go jump yield) env s t ↔ May k c wenv ch P J Y

  -- a name is bound, and the code goes on
  bound : (c : Code) → Agree c → (k : Context) (f : Fit k) (b x : Name) (n : ℕ) (v : Data) (ren : Renames) (cur : Current) (env wenv : Names) (ch : Vars) (go : OnGo) (jump : OnJump) (yield : OnYield) (P : Vars → Type 0) (J : Name → Vars → Type 0) (Y : Data → Vars → Type 0) → PlainCode vs k.globals k.places (x ∷ sources ren) c → n + suc (most_names (expand k.places c ((x, made b (suc n)) ∷ ren) cur (suc n) go jump yield)) ≤ L → IsHere k n ren cur env wenv ch → Ways k n env go jump yield P J Y → Path a (expand k.places c ((x, made b (suc n)) ∷ ren) cur (suc n) go jump yield) ((made b (suc n), Some v) ∷ env) s t ↔ May k c ((x, Some v) ∷ wenv) ch P J Y
  bound c agree k f b x n v ren cur env wenv ch go jump yield P J Y pl top h w =
      let le : n ≤ suc n = omega arith in
      let more : suc n ≤ L = omega (arith, top) in
      let env1 = (made b (suc n), Some v) ∷ env in
      let x1 = ext_more vs L apart n b (suc n) (Some v) env env (omega arith) more (ext_same vs L apart n env) in
      let h1 = here_ext vs L apart s t (meanings a.defs s (Some t)) not_there k n (suc n) ren cur env env1 wenv ch le x1 h in
      let h2 = here_with vs L apart s t (meanings a.defs s (Some t)) not_there k b n x v ren cur env env1 wenv ch more (ext_same vs L apart (suc n) env1) h1 in
      agree k f (suc n) ((x, made b (suc n)) ∷ ren) cur env1 ((x, Some v) ∷ wenv) ch go jump yield P J Y pl (omega (arith, top)) h2 (ways_ext k n (suc n) env env1 go jump yield P J Y le x1 w)

  -- a place becomes what a name stands for
  become_may : (k : Context) (p : Place) (x : Name) (n : ℕ) (ren : Renames) (cur : Current) (env wenv : Names) (ch : Vars) (go : OnGo) (jump : OnJump) (yield : OnYield) (P : Vars → Type 0) (J : Name → Vars → Type 0) (Y : Data → Vars → Type 0) → is_among x (sources ren) ≡ true → n + most_names (go (becoming p (find x ren) cur) n) ≤ L → IsHere k n ren cur env wenv ch → Ways k n env go jump yield P J Y → Path a (go (becoming p (find x ren) cur) n) env s t ↔ ((v : Data) × (value_under x wenv ≡ Some v) × P ((variable_of p, v) ∷ ch))
  become_may k p x n ren cur env wenv ch go jump yield P J Y is top h w =
      let q = known k n ren cur env wenv ch x h is in
      let h1 = here_set vs L apart s t (meanings a.defs s (Some t)) not_there k q.made_as n p q.value ren cur env wenv ch q.found h in
      let top1 : n + most_names (go ((variable_of p, q.made_as) ∷ cur) n) ≤ L = subst (λ o. n + most_names (go (becoming p o cur) n) ≤ L) q.is_made top in
      known_iff (value_under x wenv) q.value _ (λ v. P ((variable_of p, v) ∷ ch)) q.is_value (iff_along (λ o. Path a (go (becoming p o cur) n) env s t) (sym q.is_made) (w.on_go ((variable_of p, q.made_as) ∷ cur) n env ((variable_of p, q.value) ∷ ch) (omega arith) top1 (ext_same vs L apart n env) h1.valued h1.long))

  -- a place becomes the value that was just bound
  set_may : (k : Context) (p : Place) (b : Name) (n : ℕ) (v : Data) (ren : Renames) (cur : Current) (env wenv : Names) (ch : Vars) (go : OnGo) (jump : OnJump) (yield : OnYield) (P : Vars → Type 0) (J : Name → Vars → Type 0) (Y : Data → Vars → Type 0) → n + suc (most_names (go ((variable_of p, made b (suc n)) ∷ cur) (suc n))) ≤ L → IsHere k n ren cur env wenv ch → Ways k n env go jump yield P J Y → Path a (go ((variable_of p, made b (suc n)) ∷ cur) (suc n)) ((made b (suc n), Some v) ∷ env) s t ↔ P ((variable_of p, v) ∷ ch)
  set_may k p b n v ren cur env wenv ch go jump yield P J Y few h w =
      let top : suc n ≤ L = omega (arith, few) in
      let env1 = (made b (suc n), Some v) ∷ env in
      let x1 = ext_more vs L apart n b (suc n) (Some v) env env (omega arith) top (ext_same vs L apart n env) in
      let h1 = here_ext vs L apart s t (meanings a.defs s (Some t)) not_there k n (suc n) ren cur env env1 wenv ch (omega arith) x1 h in
      let h2 = here_set vs L apart s t (meanings a.defs s (Some t)) not_there k (made b (suc n)) (suc n) p v ren cur env1 wenv ch (λ Δ later. just_bound vs L apart b n (Some v) env Δ top later) h1 in
      w.on_go ((variable_of p, made b (suc n)) ∷ cur) (suc n) env1 ((variable_of p, v) ∷ ch) (omega arith) (omega (arith, few)) x1 h2.valued h2.long

  index_ext : (n n' : ℕ) (ren : Renames) (env env' wenv : Names) (i : Option Name) (j : Option Data) → n ≤ n' → Ext vs L apart n env env' → IndexIs n ren env wenv i j → IndexIs n' ren env' wenv i j
  index_ext n n' ren env env' wenv None None le x h = tt
  index_ext n n' ren env env' wenv None (Some j) le x h = h
  index_ext n n' ren env env' wenv (Some i) None le x h = h
  index_ext n n' ren env env' wenv (Some i) (Some j) le x h =
      let sim = sim_ext vs L apart s t (meanings a.defs s (Some t)) not_there n n' env env' (Some h.0) (Some (Some j)) le x (j, refl, h.3) in
      (h.0, h.1, h.2, λ Δ later. sim.2 Δ later ∙ ap (λ v. Some (Some v)) (same_Some _ _ (sym sim.1)))

  -- a block's content on the path
  content_now_is : (k : Context) (n : ℕ) (cur : Current) (env : Names) (mem : Vars) (Δ : Names) (part : Option Data) → AllLater vs L apart n Δ → Valued (block_of k) n cur env mem → sem (current cur (Whole content_name)) (ThePath part (Δ ++ env)) ≡ plain (find content_name mem)
  content_now_is k n cur env mem Δ part later valued =
      valued (Whole content_name) (ap (λ b. b || false) (same_name-self content_name)) Δ later part ∙ ap plain (on_some (find content_name mem))

  -- g has a new content, and what follows agrees
  put_may : (k : Context) (n : ℕ) (ren : Renames) (cur : Current) (env wenv : Names) (ch : Vars) (g : Name) (i : Option Name) (j : Option Data) (e : Tree) (o : Option Data) (rest : Expansion) (B : Vars → Type 0) → is_among g k.globals ≡ true → IsHere k n ren cur env wenv ch → IndexIs n ren env wenv i j → ((part : Option Data) → sem e (ThePath part env) ≡ plain o) → ((v : Data) → Path a rest ((made g (suc n), Some v) ∷ env) s t ↔ B ((g, v) ∷ ch)) → Path a (With (made g (suc n)) (content_put ren cur g i e) rest) env s t ↔ ((ch' : Vars) × (put_content k g j o ch ≡ Some ch') × B ch')
  put_may k n ren cur env wenv ch g i j e o rest B is h x e_is next =
      map_iff (bindable (value_on a (content_put ren cur g i e) env s t)) (bindable (with_content k g j o ch)) (λ v. (g, v) ∷ ch) (λ v. Path a rest ((made g (suc n), Some v) ∷ env) s t) B (ap bindable (put_is k n ren cur env wenv ch g i j e o is h x e_is)) next

  -- behind the block of a read
  behind_may : (x g : Name) (i : Option Name) (c : Code) → Agree c → (k : Context) (f : Fit k) (n n' : ℕ) (j : Option Data) (v : Data) (ren : Renames) (cur cur' : Current) (env env' wenv : Names) (ch mem : Vars) (go : OnGo) (jump : OnJump) (yield : OnYield) (P : Vars → Type 0) (J : Name → Vars → Type 0) (Y : Data → Vars → Type 0) → is_among g k.globals ≡ true → PlainCode vs k.globals k.places (x ∷ sources ren) c → n ≤ n' → suc n' + most_names (left_behind (is_assigned cur') ren cur g i (current cur' (Whole content_name)) (suc n') (λ cur2 n2. expand k.places c ((x, made val_base (suc n')) ∷ ren) cur2 n2 go jump yield)) ≤ L → Ext vs L apart n env env' → IsHere k n ren cur env wenv ch → IndexIs n ren env wenv i j → Valued (block_of k) n' cur' env' mem → Change n' cur' env' mem → Ways k n env go jump yield P J Y → Path a (left_behind (is_assigned cur') ren cur g i (current cur' (Whole content_name)) (suc n') (λ cur2 n2. expand k.places c ((x, made val_base (suc n')) ∷ ren) cur2 n2 go jump yield)) ((made val_base (suc n'), Some v) ∷ env') s t ↔ ((ch' : Vars) × (left_content k g j mem ch ≡ Some ch') × May k c ((x, Some v) ∷ wenv) ch' P J Y)
  behind_may x g i c agree k f n n' j v ren cur cur' env env' wenv ch mem go jump yield P J Y is pl le top x0 h known_at valued long w =
      cases (is_assigned cur') (is_assigned mem) (same_assigned cur' mem long.0) top
    where
      env2 : Names
      env2 = (made val_base (suc n'), Some v) ∷ env'

      top1 : suc n' ≤ L
      top1 = omega (arith, top)

      x2 : Ext vs L apart n env ((made val_base (suc n'), Some v) ∷ env')
      x2 = ext_more vs L apart n val_base (suc n') (Some v) env env' (omega (arith, le)) top1 x0

      h2 : IsHere k (suc n') ren cur ((made val_base (suc n'), Some v) ∷ env') wenv ch
      h2 = here_ext vs L apart s t (meanings a.defs s (Some t)) not_there k n (suc n') ren cur env ((made val_base (suc n'), Some v) ∷ env') wenv ch (omega (arith, le)) x2 h

      h3 : IsHere k (suc n') ((x, made val_base (suc n')) ∷ ren) cur ((made val_base (suc n'), Some v) ∷ env') ((x, Some v) ∷ wenv) ch
      h3 = here_with vs L apart s t (meanings a.defs s (Some t)) not_there k val_base n' x v ren cur env' ((made val_base (suc n'), Some v) ∷ env') wenv ch top1 (ext_same vs L apart (suc n') ((made val_base (suc n'), Some v) ∷ env')) h2

      assigned : suc n' + suc (most_names (expand k.places c ((x, made val_base (suc n')) ∷ ren) ((g, made g (suc (suc n'))) ∷ cur) (suc (suc n')) go jump yield)) ≤ L → (gv : Data) → Path a (expand k.places c ((x, made val_base (suc n')) ∷ ren) ((g, made g (suc (suc n'))) ∷ cur) (suc (suc n')) go jump yield) ((made g (suc (suc n')), Some gv) ∷ ((made val_base (suc n'), Some v) ∷ env')) s t ↔ May k c ((x, Some v) ∷ wenv) ((g, gv) ∷ ch) P J Y
      assigned few gv =
          let top2 : suc (suc n') ≤ L = omega (arith, few) in
          let before = (made val_base (suc n'), Some v) ∷ env' in
          let env4 = (made g (suc (suc n')), Some gv) ∷ before in
          let x3 = ext_more vs L apart (suc n') g (suc (suc n')) (Some gv) before before (omega arith) top2 (ext_same vs L apart (suc n') before) in
          let x4 = ext_more vs L apart n g (suc (suc n')) (Some gv) env before (omega (arith, le)) top2 x2 in
          let h4 = here_ext vs L apart s t (meanings a.defs s (Some t)) not_there k (suc n') (suc (suc n')) ((x, made val_base (suc n')) ∷ ren) cur before env4 ((x, Some v) ∷ wenv) ch (omega arith) x3 h3 in
          let h5 = here_set vs L apart s t (meanings a.defs s (Some t)) not_there k (made g (suc (suc n'))) (suc (suc n')) (Whole g) gv ((x, made val_base (suc n')) ∷ ren) cur env4 ((x, Some v) ∷ wenv) ch (λ Δ later. just_bound vs L apart g (suc n') (Some gv) before Δ top2 later) h4 in
          agree k f (suc (suc n')) ((x, made val_base (suc n')) ∷ ren) ((g, made g (suc (suc n'))) ∷ cur) env4 ((x, Some v) ∷ wenv) ((g, gv) ∷ ch) go jump yield P J Y pl (omega (arith, few)) h5 (ways_ext k n (suc (suc n')) env env4 go jump yield P J Y (omega (arith, le)) x4 w)

      cases : (b b' : Bool) → b ≡ b' → suc n' + most_names (left_behind b ren cur g i (current cur' (Whole content_name)) (suc n') (λ cur2 n2. expand k.places c ((x, made val_base (suc n')) ∷ ren) cur2 n2 go jump yield)) ≤ L → Path a (left_behind b ren cur g i (current cur' (Whole content_name)) (suc n') (λ cur2 n2. expand k.places c ((x, made val_base (suc n')) ∷ ren) cur2 n2 go jump yield)) ((made val_base (suc n'), Some v) ∷ env') s t ↔ ((ch' : Vars) × ((if b' then put_content k g j (find content_name mem) ch else Some ch) ≡ Some ch') × May k c ((x, Some v) ∷ wenv) ch' P J Y)
      cases false false e few =
          known_iff (Some ch) ch _ (λ ch'. May k c ((x, Some v) ∷ wenv) ch' P J Y) refl (agree k f (suc n') ((x, made val_base (suc n')) ∷ ren) cur ((made val_base (suc n'), Some v) ∷ env') ((x, Some v) ∷ wenv) ch go jump yield P J Y pl few h3 (ways_ext k n (suc n') env ((made val_base (suc n'), Some v) ∷ env') go jump yield P J Y (omega (arith, le)) x2 w))
      cases true true e few =
          put_may k (suc n') ren cur ((made val_base (suc n'), Some v) ∷ env') wenv ch g i j (current cur' (Whole content_name)) (find content_name mem) (expand k.places c ((x, made val_base (suc n')) ∷ ren) ((g, made g (suc (suc n'))) ∷ cur) (suc (suc n')) go jump yield) (λ ch'. May k c ((x, Some v) ∷ wenv) ch' P J Y) is h2 (index_ext n (suc n') ren env ((made val_base (suc n'), Some v) ∷ env') wenv i j (omega (arith, le)) x2 known_at) (λ part. content_now_is k n' cur' env' mem ((made val_base (suc n'), Some v) ∷ []) part (inr (val_base, suc n', refl, (let lt : n' < suc n' = omega arith in lt), top1), tt) valued) (assigned few)
      cases true false e few = absurd (grind (arith, e))
      cases false true e few = absurd (grind (arith, e))

  read_may : (x g : Name) (i : Option Name) (m c : Code) → Agree m → Agree c → (k : Context) (f : Fit k) (n : ℕ) (ren : Renames) (cur : Current) (env wenv : Names) (ch : Vars) (go : OnGo) (jump : OnJump) (yield : OnYield) (P : Vars → Type 0) (J : Name → Vars → Type 0) (Y : Data → Vars → Type 0) → PlainCode vs k.globals k.places (sources ren) (Read x g i m c) → n + most_names (expand k.places (Read x g i m c) ren cur n go jump yield) ≤ L → IsHere k n ren cur env wenv ch → Ways k n env go jump yield P J Y → Path a (expand k.places (Read x g i m c) ren cur n go jump yield) env s t ↔ May k (Read x g i m c) wenv ch P J Y
  read_may x g i m c am ac k f n ren cur env wenv ch go jump yield P J Y pl top h w =
      let q = known_index k n ren cur env wenv ch i h pl.1 in
      read_iff (index_value i wenv) q.0 (bindable (value_on a (content_tree ren cur g i) env s t)) (λ j. bindable (content k g j ch)) _ (λ j old. May (block_of k) m [] (content_state old) never never_at (λ v mem. (ch' : Vars) × (left_content k g j mem ch ≡ Some ch') × May k c ((x, Some v) ∷ wenv) ch' P J Y)) q.1 (ap bindable (content_is k n ren cur env wenv ch g i q.0 pl.0 h q.2)) (λ old.
      let top1 : suc n ≤ L = omega (arith, top) in
      let env1 = (made old_base (suc n), Some old) ∷ env in
      let x1 = ext_more vs L apart n old_base (suc n) (Some old) env env (omega arith) top1 (ext_same vs L apart n env) in
      let h1 = here_ext vs L apart s t (meanings a.defs s (Some t)) not_there k n (suc n) ren cur env env1 wenv ch (omega arith) x1 h in
      am (block_of k) (fits_block vs L apart s t (meanings a.defs s (Some t)) not_there k f) (suc n) [] (content_now (made old_base (suc n))) env1 [] (content_state old) no_go no_jump _ never never_at (λ v mem. (ch' : Vars) × (left_content k g q.0 mem ch ≡ Some ch') × May k c ((x, Some v) ∷ wenv) ch' P J Y) pl.2 (omega (arith, top)) (here_block vs L apart s t (meanings a.defs s (Some t)) not_there k old_base n old ren [] cur env env1 wenv [] ch top1 (ext_same vs L apart (suc n) env1) h1 (λ z. tt)) (no_ways (block_of k) (suc n) env1 _ _ (λ e cur' n' env' mem l less x2 valued long.
      with_iff _ _ _ _ refl (λ v _.
      behind_may x g i c ac k f n n' q.0 v ren cur cur' env env' wenv ch mem go jump yield P J Y pl.0 pl.3 (omega (arith, l)) (omega (arith, less)) (ext_then vs L apart n (suc n) env env1 env' (omega arith) x1 x2) h q.2 valued long w))))

  -- what a write hands its block
  handed_sim : (n : ℕ) (env : Names) (y : Name) (w : Option Data) (v : Data) → w ≡ Some v → ((Δ : Names) → AllLater vs L apart n Δ → find y (Δ ++ env) ≡ Some (Some v)) → (z : Name) → SimName vs L apart s t (meanings a.defs s (Some t)) not_there n env (find z ((value_name, y) ∷ [])) (find z ((value_name, w) ∷ []))
  handed_sim n env y w v e found z = go (same_name z value_name)
    where
      go : (b : Bool) → SimName vs L apart s t (meanings a.defs s (Some t)) not_there n env (if b then Some y else None) (if b then Some w else None)
      go true = (v, e, found)
      go false = tt

  -- behind the block of a write
  written_may : (g : Name) (i : Option Name) (k : Context) (n n' : ℕ) (j : Option Data) (v : Data) (ren : Renames) (cur : Current) (env env' wenv : Names) (ch : Vars) (go : OnGo) (jump : OnJump) (yield : OnYield) (P : Vars → Type 0) (J : Name → Vars → Type 0) (Y : Data → Vars → Type 0) → is_among g k.globals ≡ true → n ≤ n' → suc n' + suc (most_names (go ((g, made g (suc (suc n'))) ∷ cur) (suc (suc n')))) ≤ L → Ext vs L apart n env env' → IsHere k n ren cur env wenv ch → IndexIs n ren env wenv i j → Ways k n env go jump yield P J Y → Path a (put_back ren cur g i (name (made new_base (suc n'))) (suc n') go) ((made new_base (suc n'), Some v) ∷ env') s t ↔ ((ch' : Vars) × (put_content k g j (Some v) ch ≡ Some ch') × P ch')
  written_may g i k n n' j v ren cur env env' wenv ch go jump yield P J Y is le few x0 h known_at w =
      let top : suc (suc n') ≤ L = omega (arith, few) in
      let top1 : suc n' ≤ L = omega (arith, top) in
      let env2 = (made new_base (suc n'), Some v) ∷ env' in
      let x2 = ext_more vs L apart n new_base (suc n') (Some v) env env' (omega (arith, le)) top1 x0 in
      let h2 = here_ext vs L apart s t (meanings a.defs s (Some t)) not_there k n (suc n') ren cur env env2 wenv ch (omega (arith, le)) x2 h in
      put_may k (suc n') ren cur env2 wenv ch g i j (name (made new_base (suc n'))) (Some v) (go ((g, made g (suc (suc n'))) ∷ cur) (suc (suc n'))) P is h2 (index_ext n (suc n') ren env env2 wenv i j (omega (arith, le)) x2 known_at) (λ part. plain_name (made new_base (suc n')) v env2 part (just_bound vs L apart new_base n' (Some v) env' [] top1 tt)) (λ gv.
      let env4 = (made g (suc (suc n')), Some gv) ∷ env2 in
      let x3 = ext_more vs L apart (suc n') g (suc (suc n')) (Some gv) env2 env2 (omega arith) top (ext_same vs L apart (suc n') env2) in
      let x4 = ext_more vs L apart n g (suc (suc n')) (Some gv) env env2 (omega (arith, le)) top x2 in
      let h4 = here_ext vs L apart s t (meanings a.defs s (Some t)) not_there k (suc n') (suc (suc n')) ren cur env2 env4 wenv ch (omega arith) x3 h2 in
      let h5 = here_set vs L apart s t (meanings a.defs s (Some t)) not_there k (made g (suc (suc n'))) (suc (suc n')) (Whole g) gv ren cur env4 wenv ch (λ Δ later. just_bound vs L apart g (suc n') (Some gv) env2 Δ top later) h4 in
      w.on_go ((g, made g (suc (suc n'))) ∷ cur) (suc (suc n')) env4 ((g, gv) ∷ ch) (omega (arith, le)) (omega (arith, few)) x4 h5.valued h5.long)

  -- the names of a write's block, whose value has a made name
  write_few : (g : Name) (i : Option Name) (x : Name) (m : Code) (k : Context) (n : ℕ) (ren : Renames) (cur : Current) (go : OnGo) (jump : OnJump) (yield : OnYield) (y : Name) → find x ren ≡ Some y → n + most_names (expand k.places (Write g i x m) ren cur n go jump yield) ≤ L → suc n + most_names (expand content_places m (value_handed (Some y)) (content_now (made old_base (suc n))) (suc n) no_go no_jump (λ e mem n'. With (made new_base (suc n')) e (put_back ren cur g i (name (made new_base (suc n'))) (suc n') go))) ≤ L
  write_few g i x m k n ren cur go jump yield y e top =
      let top1 : suc n + most_names (expand content_places m (value_handed (find x ren)) (content_now (made old_base (suc n))) (suc n) no_go no_jump (λ e mem n'. With (made new_base (suc n')) e (put_back ren cur g i (name (made new_base (suc n'))) (suc n') go))) ≤ L = omega (arith, top) in
      subst (λ o. suc n + most_names (expand content_places m (value_handed o) (content_now (made old_base (suc n))) (suc n) no_go no_jump (λ e mem n'. With (made new_base (suc n')) e (put_back ren cur g i (name (made new_base (suc n'))) (suc n') go))) ≤ L) e top1

  write_may : (g : Name) (i : Option Name) (x : Name) (m : Code) → Agree m → (k : Context) (f : Fit k) (n : ℕ) (ren : Renames) (cur : Current) (env wenv : Names) (ch : Vars) (go : OnGo) (jump : OnJump) (yield : OnYield) (P : Vars → Type 0) (J : Name → Vars → Type 0) (Y : Data → Vars → Type 0) → PlainCode vs k.globals k.places (sources ren) (Write g i x m) → n + most_names (expand k.places (Write g i x m) ren cur n go jump yield) ≤ L → IsHere k n ren cur env wenv ch → Ways k n env go jump yield P J Y → Path a (expand k.places (Write g i x m) ren cur n go jump yield) env s t ↔ May k (Write g i x m) wenv ch P J Y
  write_may g i x m am k f n ren cur env wenv ch go jump yield P J Y pl top h w =
      let q = known_index k n ren cur env wenv ch i h pl.1 in
      read_iff (index_value i wenv) q.0 (bindable (value_on a (content_tree ren cur g i) env s t)) (λ j. bindable (content k g j ch)) _ (λ j old. (value : Data) × (value_under x wenv ≡ Some value) × May (block_of k) m ((value_name, Some value) ∷ []) (content_state old) never never_at (λ v mem. (ch' : Vars) × (put_content k g j (Some v) ch ≡ Some ch') × P ch')) q.1 (ap bindable (content_is k n ren cur env wenv ch g i q.0 pl.0 h q.2)) (λ old.
      let top1 : suc n ≤ L = omega (arith, top) in
      let env1 = (made old_base (suc n), Some old) ∷ env in
      let x1 = ext_more vs L apart n old_base (suc n) (Some old) env env (omega arith) top1 (ext_same vs L apart n env) in
      let h1 = here_ext vs L apart s t (meanings a.defs s (Some t)) not_there k n (suc n) ren cur env env1 wenv ch (omega arith) x1 h in
      let kx = known k (suc n) ren cur env1 wenv ch x h1 pl.2 in
      let few1 = write_few g i x m k n ren cur go jump yield kx.made_as kx.is_made top in
      known_iff (value_under x wenv) kx.value _ (λ value. May (block_of k) m ((value_name, Some value) ∷ []) (content_state old) never never_at (λ v mem. (ch' : Vars) × (put_content k g q.0 (Some v) ch ≡ Some ch') × P ch')) kx.is_value (iff_along (λ o. Path a (expand content_places m (value_handed o) (content_now (made old_base (suc n))) (suc n) no_go no_jump (λ e mem n'. With (made new_base (suc n')) e (put_back ren cur g i (name (made new_base (suc n'))) (suc n') go))) env1 s t) (sym kx.is_made) (am (block_of k) (fits_block vs L apart s t (meanings a.defs s (Some t)) not_there k f) (suc n) (value_handed (Some kx.made_as)) (content_now (made old_base (suc n))) env1 ((value_name, Some kx.value) ∷ []) (content_state old) no_go no_jump (λ e mem n'. With (made new_base (suc n')) e (put_back ren cur g i (name (made new_base (suc n'))) (suc n') go)) never never_at (λ v mem. (ch' : Vars) × (put_content k g q.0 (Some v) ch ≡ Some ch') × P ch') pl.3 few1 (here_block vs L apart s t (meanings a.defs s (Some t)) not_there k old_base n old ren (value_handed (Some kx.made_as)) cur env env1 wenv ((value_name, Some kx.value) ∷ []) ch top1 (ext_same vs L apart (suc n) env1) h1 (handed_sim (suc n) env1 kx.made_as (Some kx.value) kx.value refl kx.found)) (no_ways (block_of k) (suc n) env1 (λ e mem n'. With (made new_base (suc n')) e (put_back ren cur g i (name (made new_base (suc n'))) (suc n') go)) (λ v mem. (ch' : Vars) × (put_content k g q.0 (Some v) ch ≡ Some ch') × P ch') (λ e cur' n' env' mem l less x2 valued long.
      with_iff _ _ _ _ refl (λ v _.
      written_may g i k n n' q.0 v ren cur env env' wenv ch go jump yield P J Y pl.0 (omega (arith, l)) (omega (arith, less)) (ext_then vs L apart n (suc n) env env1 env' (omega arith) x1 x2) h q.2 w))))))

  mutual
    pub path_may : (c : Code) (k : Context) (f : Fit k) (n : ℕ) (ren : Renames) (cur : Current) (env wenv : Names) (ch : Vars) (go : OnGo) (jump : OnJump) (yield : OnYield) (P : Vars → Type 0) (J : Name → Vars → Type 0) (Y : Data → Vars → Type 0) → PlainCode vs k.globals k.places (sources ren) c → n + most_names (expand k.places c ren cur n go jump yield) ≤ L → IsHere k n ren cur env wenv ch → Ways k n env go jump yield P J Y → Path a (expand k.places c ren cur n go jump yield) env s t ↔ May k c wenv ch P J Y
    path_may Empty k f n ren cur env wenv ch go jump yield P J Y pl top h w =
        w.on_go cur n env ch (omega arith) top (ext_same vs L apart n env) h.valued h.long
    path_may Skip k f n ren cur env wenv ch go jump yield P J Y pl top h w =
        w.on_go cur n env ch (omega arith) top (ext_same vs L apart n env) h.valued h.long
    path_may (Let b x e c) k f n ren cur env wenv ch go jump yield P J Y pl top h w =
        with_iff _ _ _ _ (ap bindable (tree_is vs L apart s t (meanings a.defs s (Some t)) not_there k f n ren cur env wenv ch h e pl.0)) (λ v _.
        bound c (λ k f n ren cur env wenv ch go jump yield P J Y pl top h w. path_may c k f n ren cur env wenv ch go jump yield P J Y pl top h w) k f b x n v ren cur env wenv ch go jump yield P J Y pl.1 top h w)
    path_may (Pick b x e c) k f n ren cur env wenv ch go jump yield P J Y pl top h w =
        pick_iff _ _ _ _ (ap (option_and_then members_of) (tree_is vs L apart s t (meanings a.defs s (Some t)) not_there k f n ren cur env wenv ch h e pl.0)) (λ v.
        bound c (λ k f n ren cur env wenv ch go jump yield P J Y pl top h w. path_may c k f n ren cur env wenv ch go jump yield P J Y pl top h w) k f b x n v ren cur env wenv ch go jump yield P J Y pl.1 top h w)
    path_may (Become p x) k f n ren cur env wenv ch go jump yield P J Y pl top h w =
        become_may k p x n ren cur env wenv ch go jump yield P J Y pl top h w
    path_may (Set b p e) k f n ren cur env wenv ch go jump yield P J Y pl top h w =
        with_iff _ _ _ _ (ap bindable (tree_is vs L apart s t (meanings a.defs s (Some t)) not_there k f n ren cur env wenv ch h e pl)) (λ v _.
        set_may k p b n v ren cur env wenv ch go jump yield P J Y top h w)
    path_may (Await e) k f n ren cur env wenv ch go jump yield P J Y pl top h w =
        guard_iff _ _ (Some (boolean true)) (tree_is vs L apart s t (meanings a.defs s (Some t)) not_there k f n ren cur env wenv ch h e pl) (w.on_go cur n env ch (omega arith) top (ext_same vs L apart n env) h.valued h.long)
    path_may (Assert e) k f n ren cur env wenv ch go jump yield P J Y pl top h w =
        guard_iff _ _ (Some (boolean true)) (tree_is vs L apart s t (meanings a.defs s (Some t)) not_there k f n ren cur env wenv ch h e pl) (w.on_go cur n env ch (omega arith) top (ext_same vs L apart n env) h.valued h.long)
    path_may (Print e) k f n ren cur env wenv ch go jump yield P J Y pl top h w =
        with_iff _ _ _ _ (tree_is vs L apart s t (meanings a.defs s (Some t)) not_there k f n ren cur env wenv ch h e pl) (λ v _.
        w.on_go cur n env ch (omega arith) top (ext_same vs L apart n env) h.valued h.long)
    path_may (If e x y) k f n ren cur env wenv ch go jump yield P J Y pl top h w =
        let same = tree_is vs L apart s t (meanings a.defs s (Some t)) not_there k f n ren cur env wenv ch h e pl.0 in
        sum_iff (guard_iff _ _ (Some (boolean true)) same (path_may x k f n ren cur env wenv ch go jump yield P J Y pl.1 (omega (arith, top)) h w)) (guard_iff _ _ (Some (boolean false)) same (path_may y k f n ren cur env wenv ch go jump yield P J Y pl.2 (omega (arith, top)) h w))
    path_may (Either cs) k f n ren cur env wenv ch go jump yield P J Y pl top h w =
        some_may cs k f n ren cur env wenv ch go jump yield P J Y pl top h w
    path_may (Seq x y) k f n ren cur env wenv ch go jump yield P J Y pl top h w =
        path_may x k f n ren cur env wenv ch (λ cur' n'. expand k.places y ren cur' n' go jump yield) jump yield (λ ch'. May k y wenv ch' P J Y) J Y pl.0 top h (record {
          on_go = λ cur' n' env' ch' l m x1 valued long.
              path_may y k f n' ren cur' env' wenv ch' go jump yield P J Y pl.1 m (here_again k n n' ren cur cur' env env' wenv ch ch' l x1 h valued long) (ways_ext k n n' env env' go jump yield P J Y l x1 w);
          on_jump = w.on_jump;
          on_yield = w.on_yield;
        })
    path_may (Goto l) k f n ren cur env wenv ch go jump yield P J Y pl top h w =
        w.on_jump l cur n env ch (omega arith) top (ext_same vs L apart n env) h.valued h.long
    path_may (Yield e) k f n ren cur env wenv ch go jump yield P J Y pl top h w =
        iff_then (w.on_yield (current_tree k.places ren cur e) cur n env ch (omega arith) top (ext_same vs L apart n env) h.valued h.long) (with_iff _ _ _ _ (ap bindable (tree_is vs L apart s t (meanings a.defs s (Some t)) not_there k f n ren cur env wenv ch h e pl)) (λ v _. iff_same))
    path_may (Read x g i m c) k f n ren cur env wenv ch go jump yield P J Y pl top h w =
        read_may x g i m c (λ k f n ren cur env wenv ch go jump yield P J Y pl top h w. path_may m k f n ren cur env wenv ch go jump yield P J Y pl top h w) (λ k f n ren cur env wenv ch go jump yield P J Y pl top h w. path_may c k f n ren cur env wenv ch go jump yield P J Y pl top h w) k f n ren cur env wenv ch go jump yield P J Y pl top h w
    path_may (Write g i x m) k f n ren cur env wenv ch go jump yield P J Y pl top h w =
        write_may g i x m (λ k f n ren cur env wenv ch go jump yield P J Y pl top h w. path_may m k f n ren cur env wenv ch go jump yield P J Y pl top h w) k f n ren cur env wenv ch go jump yield P J Y pl top h w

    some_may : (cs : Codes) (k : Context) (f : Fit k) (n : ℕ) (ren : Renames) (cur : Current) (env wenv : Names) (ch : Vars) (go : OnGo) (jump : OnJump) (yield : OnYield) (P : Vars → Type 0) (J : Name → Vars → Type 0) (Y : Data → Vars → Type 0) → PlainCodes vs k.globals k.places (sources ren) cs → n + most_of_arms (expand_arms k.places cs ren cur n go jump yield) ≤ L → IsHere k n ren cur env wenv ch → Ways k n env go jump yield P J Y → SomePath a (expand_arms k.places cs ren cur n go jump yield) env s t ↔ SomeMay k cs wenv ch P J Y
    some_may no_codes k f n ren cur env wenv ch go jump yield P J Y pl top h w = iff_same
    some_may (more_codes c cs) k f n ren cur env wenv ch go jump yield P J Y pl top h w =
        sum_iff (path_may c k f n ren cur env wenv ch go jump yield P J Y pl.0 (omega (arith, top)) h w) (some_may cs k f n ren cur env wenv ch go jump yield P J Y pl.1 (omega (arith, top)) h w)
