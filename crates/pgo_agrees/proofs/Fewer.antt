-- Code that is well formed over more names is so over fewer.
use Rattle.std.proofs.Common.{◌≡◌, true, false, List, [], ◌∷◌, Some, inl, inr}
use Rattle.std.specs.Prelude.{◌⊎◌}
use Rattle.pgo_base.specs.Lookup.{Name, find}
use Rattle.pgo_base.specs.Tree.{Tree, name, primed, number, text, truth, at, word, unary, binary, product, cond_of, case_of, case_other, let_in, quantified, choose, tuple, set_of, filter_of, image, fun_of, fun_set, record_of, record_set, except, index, field, call, unchanged, Trees, no_trees, more_trees, NamedTrees, no_named, more_named, TreePairs, no_arms, more_arms, BoundTrees, no_bound, more_bound, PathTrees, no_paths, more_paths}
use Rattle.pgo_model.specs.Val.{Defined, Given, Means}
use Rattle.pgo_sections.specs.Code.{Place, Code, Empty, Skip, Let, Pick, Become, Set, Await, Assert, Print, If, Either, Seq, Goto, Yield, Read, Write, Codes, no_codes, more_codes, content_name, content_places, value_name}
use Rattle.pgo_model.specs.Names.{is_among}
use Rattle.pgo_sections.specs.Closed.{Apart, AreClosed}
use Rattle.pgo_sections.specs.Plain.{All, Plain, PlainAll, PlainArms, PlainFields, PlainLet, PlainBound, PlainPaths}
use Rattle.pgo_sections.specs.WellFormed.{Bindable, Alone, Applied, PlainTree, PlainCode, PlainCodes}

module _ (N C B N' C' B' : Name → Type 0) (fn : (x : Name) → N x → N' x) (fc : (x : Name) → C x → C' x) (fb : (x : Name) → B x → B' x) where
  all_weaker : (xs : List Name) → All B xs → All B' xs
  all_weaker [] h = tt
  all_weaker (x ∷ xs) h = (fb x h.0, all_weaker xs h.1)

  mutual
    pub tree_weaker : (e : Tree) → Plain N C B e → Plain N' C' B' e
    tree_weaker (name x) h = fn x h
    tree_weaker (primed x) h = h
    tree_weaker (number z) h = tt
    tree_weaker (text s) h = tt
    tree_weaker (truth b) h = tt
    tree_weaker at h = tt
    tree_weaker (word w) h = tt
    tree_weaker (unary o a) h = tree_weaker a h
    tree_weaker (binary o a b) h = (tree_weaker a h.0, tree_weaker b h.1)
    tree_weaker (product ts) h = trees_weaker ts h
    tree_weaker (cond_of p a b) h = (tree_weaker p h.0, tree_weaker a h.1, tree_weaker b h.2)
    tree_weaker (case_of gs) h = arms_weaker gs h
    tree_weaker (case_other gs e) h = (arms_weaker gs h.0, tree_weaker e h.1)
    tree_weaker (let_in ds e) h = (let_weaker ds h.0, tree_weaker e h.1)
    tree_weaker (quantified q bs p) h = (bound_weaker bs h.0, tree_weaker p h.1)
    tree_weaker (choose x r p) h = (fb x h.0, tree_weaker r h.1, tree_weaker p h.2)
    tree_weaker (tuple ts) h = trees_weaker ts h
    tree_weaker (set_of ts) h = trees_weaker ts h
    tree_weaker (filter_of x r p) h = (fb x h.0, tree_weaker r h.1, tree_weaker p h.2)
    tree_weaker (image e x r) h = (fb x h.0, tree_weaker r h.1, tree_weaker e h.2)
    tree_weaker (fun_of bs e) h = (bound_weaker bs h.0, tree_weaker e h.1)
    tree_weaker (fun_set a b) h = (tree_weaker a h.0, tree_weaker b h.1)
    tree_weaker (record_of ds) h = fields_weaker ds h
    tree_weaker (record_set ds) h = fields_weaker ds h
    tree_weaker (except a us) h = (tree_weaker a h.0, paths_weaker us h.1)
    tree_weaker (index a ts) h = (tree_weaker a h.0, trees_weaker ts h.1)
    tree_weaker (field a x) h = tree_weaker a h
    tree_weaker (call x ts) h = (fc x h.0, trees_weaker ts h.1)
    tree_weaker (unchanged xs) h = h

    trees_weaker : (ts : Trees) → PlainAll N C B ts → PlainAll N' C' B' ts
    trees_weaker no_trees h = tt
    trees_weaker (more_trees t ts) h = (tree_weaker t h.0, trees_weaker ts h.1)

    arms_weaker : (gs : TreePairs) → PlainArms N C B gs → PlainArms N' C' B' gs
    arms_weaker no_arms h = tt
    arms_weaker (more_arms g e gs) h = (tree_weaker g h.0, tree_weaker e h.1, arms_weaker gs h.2)

    fields_weaker : (ds : NamedTrees) → PlainFields N C B ds → PlainFields N' C' B' ds
    fields_weaker no_named h = tt
    fields_weaker (more_named x t ts) h = (tree_weaker t h.0, fields_weaker ts h.1)

    let_weaker : (ds : NamedTrees) → PlainLet N C B ds → PlainLet N' C' B' ds
    let_weaker no_named h = tt
    let_weaker (more_named x t ts) h = (fb x h.0, tree_weaker t h.1, let_weaker ts h.2)

    bound_weaker : (bs : BoundTrees) → PlainBound N C B bs → PlainBound N' C' B' bs
    bound_weaker no_bound h = tt
    bound_weaker (more_bound xs r bs) h = (all_weaker xs h.0, tree_weaker r h.1, bound_weaker bs h.2)

    paths_weaker : (us : PathTrees) → PlainPaths N C B us → PlainPaths N' C' B' us
    paths_weaker no_paths h = tt
    paths_weaker (more_paths ps e us) h = (trees_weaker ps h.0, tree_weaker e h.1, paths_weaker us h.2)

module _ (big small : List Name) (fewer : (x : Name) → is_among x big ≡ false → is_among x small ≡ false) where
  plain_fewer : (ps : List (Name × Place)) (ws : List Name) (e : Tree) → PlainTree big ps ws e → PlainTree small ps ws e
  plain_fewer ps ws e h =
      tree_weaker (Alone big ps ws) (Applied big ps ws) (Bindable big) (Alone small ps ws) (Applied small ps ws) (Bindable small) (λ x k. (k.0, go x k.1)) (λ x k. (k.0, fewer x k.1, k.2, k.3, k.4)) (λ x k. (k.0, fewer x k.1, k.2)) e h
    where
      go : (x : Name) → (is_among x ws ≡ true) ⊎ (((p : Place) × (find x ps ≡ Some p)) ⊎ (is_among x big ≡ false)) → (is_among x ws ≡ true) ⊎ (((p : Place) × (find x ps ≡ Some p)) ⊎ (is_among x small ≡ false))
      go x (inl a) = inl a
      go x (inr (inl p)) = inr (inl p)
      go x (inr (inr n)) = inr (inr (fewer x n))

  mutual
    pub code_fewer : (gs : List Name) (ps : List (Name × Place)) (ws : List Name) (c : Code) → PlainCode big gs ps ws c → PlainCode small gs ps ws c
    code_fewer gs ps ws Empty h = tt
    code_fewer gs ps ws Skip h = tt
    code_fewer gs ps ws (Let b w e c) h = (plain_fewer ps ws e h.0, code_fewer gs ps (w ∷ ws) c h.1)
    code_fewer gs ps ws (Pick b w e c) h = (plain_fewer ps ws e h.0, code_fewer gs ps (w ∷ ws) c h.1)
    code_fewer gs ps ws (Become p w) h = h
    code_fewer gs ps ws (Set b p e) h = plain_fewer ps ws e h
    code_fewer gs ps ws (Await e) h = plain_fewer ps ws e h
    code_fewer gs ps ws (Assert e) h = plain_fewer ps ws e h
    code_fewer gs ps ws (Print e) h = plain_fewer ps ws e h
    code_fewer gs ps ws (If e c d) h = (plain_fewer ps ws e h.0, code_fewer gs ps ws c h.1, code_fewer gs ps ws d h.2)
    code_fewer gs ps ws (Either cs) h = codes_fewer gs ps ws cs h
    code_fewer gs ps ws (Seq c d) h = (code_fewer gs ps ws c h.0, code_fewer gs ps ws d h.1)
    code_fewer gs ps ws (Goto l) h = tt
    code_fewer gs ps ws (Yield e) h = plain_fewer ps ws e h
    code_fewer gs ps ws (Read w g i m c) h = (h.0, h.1, code_fewer (content_name ∷ []) (content_places) [] m h.2, code_fewer gs ps (w ∷ ws) c h.3)
    code_fewer gs ps ws (Write g i w m) h = (h.0, h.1, h.2, code_fewer (content_name ∷ []) (content_places) (value_name ∷ []) m h.3)

    codes_fewer : (gs : List Name) (ps : List (Name × Place)) (ws : List Name) (cs : Codes) → PlainCodes big gs ps ws cs → PlainCodes small gs ps ws cs
    codes_fewer gs ps ws no_codes h = tt
    codes_fewer gs ps ws (more_codes c cs) h = (code_fewer gs ps ws c h.0, codes_fewer gs ps ws cs h.1)

  pub closed_fewer : (ds : List Defined) → AreClosed big ds → AreClosed small ds
  closed_fewer [] h = tt
  closed_fewer (Given x v ∷ ds) h = (tt, closed_fewer ds h.1)
  closed_fewer (Means x ps e ∷ ds) h =
      (tree_weaker (Apart big) (Apart big) (λ y. Unit {0}) (Apart small) (Apart small) (λ y. Unit {0}) fewer fewer (λ y k. k) e h.0, closed_fewer ds h.1)
