-- Every expansion of well-formed code binds made names alone, its ends' names are bound above, and its expressions name
-- nothing bad.
use Rattle.std.proofs.Common.{◌≡◌, ℕ, suc, Bool, true, false, ◌||◌, if◌then◌else◌, List, [], ◌∷◌, ◌++◌, map, option_map, Option, Some, None, ◌⊎◌, inl, inr, arith, refl, sym, ap, ◌∙◌, subst, unwrap_or}
use Rattle.std.specs.List.{AllByRecursion, flat_map, cons_option}
use Rattle.pgo_base.specs.Lookup.{Name, same_name, find}
use Rattle.pgo_base.specs.Tree.{Tree, name}
use Rattle.pgo_model.specs.Names.{same_name-self, same_name-is, is_among}
use Rattle.pgo_model.specs.Options.{on}
use Rattle.pgo_model.specs.Written.{pc, made, self_name, written}
use Rattle.pgo_sections.specs.Code.{Place, Whole, Own, variable_of, Code, Empty, Skip, Let, Pick, Become, Set, Await, Assert, Print, If, Either, Seq, Goto, Yield, Read, Write, Codes, no_codes, more_codes, content_name, content_places, value_name, old_base, val_base, new_base}
use Rattle.pgo_sections.specs.Context.{is_assigned}
use Rattle.pgo_sections.specs.Expand.{Renames, Current, untouched, current, placed, named, current_tree, made_name, content_tree, content_put, becoming, content_now, value_handed, OnGo, OnJump, OnYield, no_go, no_jump, no_yield, put_back, left_behind, expand, expand_arms, to_end, settled, expansion}
use Rattle.pgo_sections.specs.Expansion.{With as EWith}
use Rattle.pgo_translate.specs.Avoids.{Avoids}
use Rattle.pgo_translate.specs.Premises.{IsNamed, ArmsNamed, IsFree, is_further, further_names, taken_names}
use Rattle.pgo_translate.specs.ModuleOf.{declared}
use Rattle.pgo_translate.proofs.Actions.{among_right, among_front}
use Rattle.pgo_sections.proofs.Apart.{self_not_made}
use Rattle.pgo_bound.specs.State.{variables_of, own_names}
use Rattle.pgo_translate.specs.Named.{TreesAreNamed}
use Rattle.pgo_sections.specs.WellFormed.{NotMade, Bindable, Alone, Applied, PlainTree, KnownIndex, PlainCode, PlainCodes}
use Rattle.pgo_sections.proofs.Here.{sources, among_found}
use Rattle.pgo_translate.proofs.Avoiding.{plain_avoids}

module _ (bad : Name → Bool) where
  -- what the names of code stand for is no bad name
  abbrev PlacesAvoid : List (Name × Place) → Type 0
  PlacesAvoid ps = (x : Name) (p : Place) → find x ps ≡ Some p → bad (variable_of p) ≡ false

  abbrev GlobalsAvoid : List Name → Type 0
  GlobalsAvoid gs = (g : Name) → is_among g gs ≡ true → bad g ≡ false

  -- what the expansion itself puts into expressions is none, and what it binds is free
  record MadeNames (free : Name → Type 0) : Type 0 where
    pub made_free : (b : Name) (m : ℕ) → free (made b m)
    pub made_good : (b : Name) (m : ℕ) → bad (made b m) ≡ false
    pub self_good : bad self_name ≡ false
    pub content_good : bad content_name ≡ false

or_right : (b c : Bool) → c ≡ true → b || c ≡ true
or_right true c h = refl
or_right false c h = h

-- what comes behind a mapped read's block, and behind a mapped write's
abbrev read_then : List (Name × Place) → Code → Name → Name → Option Name → Renames → Current → OnGo → OnJump → OnYield → OnYield
read_then ps d w g i ren cur k j y e' mem n' =
    EWith (made val_base (suc n')) e' (left_behind (is_assigned mem) ren cur g i (current mem (Whole content_name)) (suc n') (λ cur' n''. expand ps d ((w, made val_base (suc n')) ∷ ren) cur' n'' k j y))

abbrev write_then : Name → Option Name → Renames → Current → OnGo → OnYield
write_then g i ren cur k e' mem n' =
    EWith (made new_base (suc n')) e' (put_back ren cur g i (name (made new_base (suc n'))) (suc n') k)

module _ (vs : List Name) (bad : Name → Bool) (free : Name → Type 0) (m : MadeNames bad free) (taken : (x : Name) → is_among x vs ≡ false → bad x ≡ false) where
  -- bound above, and no bad name
  abbrev Good : List Name → Name → Type 0
  Good above y = (is_among y above ≡ true) × (bad y ≡ false)

  -- each name stands for a good one
  abbrev AllGood : List Name → List (Name × Name) → Type 0
  AllGood above ps = AllByRecursion (λ c. Good above c.1) ps

  abbrev IfGood : List Name → Option Name → Type 0
  IfGood above None = Unit {0}
  IfGood above (Some y) = Good above y

  -- what is bound above stays so
  abbrev Within : List Name → List Name → Type 0
  Within above more = (y : Name) → is_among y above ≡ true → is_among y more ≡ true

  within_cons : (above more : List Name) (z : Name) → Within above more → Within above (z ∷ more)
  within_cons above more z w y h = or_right (same_name y z) (is_among y more) (w y h)

  all_within : (above more : List Name) (ps : List (Name × Name)) → Within above more → AllGood above ps → AllGood more ps
  all_within above more [] w h = tt
  all_within above more (p ∷ ps) w h = ((w p.1 h.0.0, h.0.1), all_within above more ps w h.1)

  made_good : (above : List Name) (b : Name) (n : ℕ) → Good (made b n ∷ above) (made b n)
  made_good above b n = (ap (λ c. c || is_among (made b n) above) (same_name-self (made b n)), m.made_good b n)

  all_cons : (above : List Name) (z : Name) (ps : List (Name × Name)) → AllGood above ps → AllGood (z ∷ above) ps
  all_cons above z ps h = all_within above (z ∷ above) ps (within_cons above above z (λ y h. h)) h

  found : (above : List Name) (x : Name) (ps : List (Name × Name)) → AllGood above ps → IfGood above (find x ps)
  found above x [] h = tt
  found above x (p ∷ ps) h = go (same_name x p.0) (found above x ps h.1)
    where
      go : (b : Bool) → IfGood above (find x ps) → IfGood above (if b then Some p.1 else find x ps)
      go true r = h.0
      go false r = r

  -- the current expression of a place
  current_avoids : (above : List Name) (cur : Current) (p : Place) → AllGood above cur → bad (variable_of p) ≡ false → Avoids bad (current cur p)
  current_avoids above cur p h g = go (find (variable_of p) cur) (found above (variable_of p) cur h)
    where
      plain : (p : Place) → bad (variable_of p) ≡ false → Avoids bad (untouched p)
      plain (Whole x) g = g
      plain (Own x) g = (g, (m.self_good, tt))

      go : (o : Option Name) → IfGood above o → Avoids bad (on (untouched p) o (λ y. name y))
      go None k = plain p g
      go (Some y) k = k.1

  module _ (ps : List (Name × Place)) (places : PlacesAvoid bad ps) where
    tree_avoids : (above : List Name) (ren : Renames) (cur : Current) (e : Tree) → AllGood above ren → AllGood above cur → PlainTree vs ps (sources ren) e → Avoids bad (current_tree ps ren cur e)
    tree_avoids above ren cur e r c h =
        plain_avoids (Alone vs ps (sources ren)) (Applied vs ps (sources ren)) (Bindable vs) bad (λ x. named ps cur x (find x ren)) stands (λ x h. taken x h.1) (λ x h. taken x h.1) e [] (λ x e. absurd (grind (arith, e))) h
      where
        no_variable : (x : Name) → find x ren ≡ None → find x ps ≡ None → (is_among x (sources ren) ≡ true) ⊎ (((p : Place) × (find x ps ≡ Some p)) ⊎ (is_among x vs ≡ false)) → is_among x vs ≡ false
        no_variable x er ep (inl a) = absurd (let q = among_found ren x a in let e : None ≡ Some q.0 = sym er ∙ q.1 in grind (arith, e))
        no_variable x er ep (inr (inl q)) = absurd (let e : None ≡ Some q.0 = sym ep ∙ q.1 in grind (arith, e))
        no_variable x er ep (inr (inr nv)) = nv

        at_place : (x : Name) → Alone vs ps (sources ren) x → find x ren ≡ None → (o : Option Place) → find x ps ≡ o → Avoids bad (placed cur x o)
        at_place x h er None e = taken x (no_variable x er e h.1)
        at_place x h er (Some p) e = current_avoids above cur p c (places x p e)

        renamed : (x : Name) → Alone vs ps (sources ren) x → (o : Option Name) → find x ren ≡ o → IfGood above o → Avoids bad (named ps cur x o)
        renamed x h None e k = at_place x h e (find x ps) refl
        renamed x h (Some y) e k = k.1

        stands : (x : Name) → Alone vs ps (sources ren) x → Avoids bad (named ps cur x (find x ren))
        stands x h = renamed x h (find x ren) refl (found above x ren r)

  -- what stands for an index
  made_avoids : (above : List Name) (ren : Renames) (i : Name) → AllGood above ren → is_among i (sources ren) ≡ true → bad (made_name ren i) ≡ false
  made_avoids above ren i r g = let q = among_found ren i g in go (find i ren) q.0 q.1 (found above i ren r)
    where
      go : (o : Option Name) (y : Name) → o ≡ Some y → IfGood above o → bad (unwrap_or o i) ≡ false
      go None y e k = absurd (grind (arith, e))
      go (Some y') y e k = k.1

  content_avoids : (above : List Name) (ren : Renames) (cur : Current) (g : Name) (i : Option Name) → AllGood above ren → AllGood above cur → bad g ≡ false → KnownIndex (sources ren) i → Avoids bad (content_tree ren cur g i)
  content_avoids above ren cur g None r c h k = current_avoids above cur (Whole g) c h
  content_avoids above ren cur g (Some i) r c h k = (current_avoids above cur (Whole g) c h, (made_avoids above ren i r k, tt))

  put_avoids : (above : List Name) (ren : Renames) (cur : Current) (g : Name) (i : Option Name) (e : Tree) → AllGood above ren → AllGood above cur → bad g ≡ false → KnownIndex (sources ren) i → Avoids bad e → Avoids bad (content_put ren cur g i e)
  put_avoids above ren cur g None e r c h k a = a
  put_avoids above ren cur g (Some i) e r c h k a =
      (current_avoids above cur (Whole g) c h, ((made_avoids above ren i r k, tt), a, tt))

  -- the three ways on, from what is bound above
  abbrev GoNamed : List Name → OnGo → Type 0
  GoNamed above k = (more : List Name) (cur : Current) (n : ℕ) → Within above more → AllGood more cur → IsNamed bad free more (k cur n)

  abbrev JumpNamed : List Name → OnJump → Type 0
  JumpNamed above j = (more : List Name) (l : Name) (cur : Current) (n : ℕ) → Within above more → AllGood more cur → IsNamed bad free more (j l cur n)

  abbrev YieldNamed : List Name → OnYield → Type 0
  YieldNamed above y = (more : List Name) (e : Tree) (cur : Current) (n : ℕ) → Within above more → AllGood more cur → Avoids bad e → IsNamed bad free more (y e cur n)

  go_more : (above over : List Name) (k : OnGo) → Within above over → GoNamed above k → GoNamed over k
  go_more above over k w h more cur n v c = h more cur n (λ y a. v y (w y a)) c

  jump_more : (above over : List Name) (j : OnJump) → Within above over → JumpNamed above j → JumpNamed over j
  jump_more above over j w h more l cur n v c = h more l cur n (λ y a. v y (w y a)) c

  yield_more : (above over : List Name) (y : OnYield) → Within above over → YieldNamed above y → YieldNamed over y
  yield_more above over y w h more e cur n v c a = h more e cur n (λ x b. v x (w x b)) c a

  one_more : (above : List Name) (z : Name) → Within above (z ∷ above)
  one_more above z = within_cons above above z (λ y h. h)

  content_places_avoid : PlacesAvoid bad content_places
  content_places_avoid x p e = go (same_name x content_name) e
    where
      go : (b : Bool) → (if b then Some (Whole content_name) else None) ≡ Some p → bad (variable_of p) ≡ false
      go true e = subst (λ (p : Place). bad (variable_of p) ≡ false) (ap (λ o. elim o as (λ o. Place) [ None ↦ Whole content_name | Some q ↦ q ]) e) m.content_good
      go false e = absurd (cc)

  content_globals : GlobalsAvoid bad (content_name ∷ [])
  content_globals g h = go (same_name g content_name) refl h
    where
      go : (b : Bool) → same_name g content_name ≡ b → b || false ≡ true → bad g ≡ false
      go true e k = ap bad (same_name-is g content_name e) ∙ m.content_good
      go false e k = absurd (grind (arith, k))

  -- a block's code is over the name of the value that it is handed
  handed_plain : (gs : List Name) (ps : List (Name × Place)) (d : Code) (w : Name) (ren : Renames) → is_among w (sources ren) ≡ true → PlainCode vs gs ps (value_name ∷ []) d → PlainCode vs gs ps (sources (value_handed (find w ren))) d
  handed_plain gs ps d w ren h a = let q = among_found ren w h in subst (λ o. PlainCode vs gs ps (sources (value_handed o)) d) (sym q.1) a

  handed_good : (above : List Name) (o : Option Name) → IfGood above o → AllGood above (value_handed o)
  handed_good above None h = tt
  handed_good above (Some y) h = (h, tt)

  becoming_good : (above : List Name) (p : Place) (o : Option Name) (cur : Current) → IfGood above o → AllGood above cur → AllGood above (becoming p o cur)
  becoming_good above p None cur h c = c
  becoming_good above p (Some y) cur h c = (h, c)

  put_back_named : (above : List Name) (ren : Renames) (cur : Current) (g : Name) (i : Option Name) (e : Tree) (n : ℕ) (k : OnGo) → AllGood above ren → AllGood above cur → bad g ≡ false → KnownIndex (sources ren) i → Avoids bad e → GoNamed above k → IsNamed bad free above (put_back ren cur g i e n k)
  put_back_named above ren cur g i e n k r c h x a go =
      (m.made_free g (suc n), put_avoids above ren cur g i e r c h x a, go (made g (suc n) ∷ above) ((g, made g (suc n)) ∷ cur) (suc n) (one_more above (made g (suc n))) (made_good above g (suc n), all_cons above (made g (suc n)) cur c))

  left_named : (b : Bool) (above : List Name) (ren : Renames) (cur : Current) (g : Name) (i : Option Name) (e : Tree) (n : ℕ) (k : OnGo) → AllGood above ren → AllGood above cur → bad g ≡ false → KnownIndex (sources ren) i → Avoids bad e → GoNamed above k → IsNamed bad free above (left_behind b ren cur g i e n k)
  left_named false above ren cur g i e n k r c h x a go = go above cur n (λ y h. h) c
  left_named true above ren cur g i e n k r c h x a go = put_back_named above ren cur g i e n k r c h x a go

  read_named : (ps : List (Name × Place)) (d : Code) (w g : Name) (i : Option Name) (above : List Name) (ren : Renames) (cur : Current) (k : OnGo) (j : OnJump) (y : OnYield)
      → ((last : List Name) (z : Name) (cur' : Current) (n : ℕ) → AllGood last ((w, z) ∷ ren) → AllGood last cur' → GoNamed last k → JumpNamed last j → YieldNamed last y → IsNamed bad free last (expand ps d ((w, z) ∷ ren) cur' n k j y))
      → bad g ≡ false → KnownIndex (sources ren) i → AllGood above ren → AllGood above cur → GoNamed above k → JumpNamed above j → YieldNamed above y
      → (more : List Name) (e' : Tree) (mem : Current) (n' : ℕ) → Within above more → AllGood more mem → Avoids bad e' → IsNamed bad free more (read_then ps d w g i ren cur k j y e' mem n')
  read_named ps d w g i above ren cur k j y inner g_ok i_ok r c gk gj gy more e' mem n' w1 c' a' =
      let v = made val_base (suc n') in
      let over = v ∷ more in
      let w2 = within_cons above more v w1 in (
        m.made_free val_base (suc n'),
        a',
        left_named (is_assigned mem) over ren cur g i (current mem (Whole content_name)) (suc n') (λ cur' n''. expand ps d ((w, v) ∷ ren) cur' n'' k j y) (all_within above over ren w2 r) (all_within above over cur w2 c) g_ok i_ok (current_avoids more mem (Whole content_name) c' m.content_good)
            (λ last cur' n'' w3 c''.
            let w4 : Within above last = λ x h. w3 x (w2 x h) in
            inner last v cur' n'' ((w3 v (made_good more val_base (suc n')).0, m.made_good val_base (suc n')), all_within above last ren w4 r) c'' (go_more above last k w4 gk) (jump_more above last j w4 gj) (yield_more above last y w4 gy)),
      )

  write_named : (g : Name) (i : Option Name) (above : List Name) (ren : Renames) (cur : Current) (k : OnGo) → bad g ≡ false → KnownIndex (sources ren) i → AllGood above ren → AllGood above cur → GoNamed above k
      → (more : List Name) (e' : Tree) (mem : Current) (n' : ℕ) → Within above more → AllGood more mem → Avoids bad e' → IsNamed bad free more (write_then g i ren cur k e' mem n')
  write_named g i above ren cur k g_ok i_ok r c gk more e' mem n' w1 c' a' =
      let v = made new_base (suc n') in
      let over = v ∷ more in
      let w2 = within_cons above more v w1 in
      (m.made_free new_base (suc n'), a', put_back_named over ren cur g i (name v) (suc n') k (all_within above over ren w2 r) (all_within above over cur w2 c) g_ok i_ok (m.made_good new_base (suc n')) (go_more above over k w2 gk))

  mutual
    expand_named : (gs : List Name) (globals : GlobalsAvoid bad gs) (ps : List (Name × Place)) (places : PlacesAvoid bad ps) (d : Code) (above : List Name) (ren : Renames) (cur : Current) (n : ℕ) (k : OnGo) (j : OnJump) (y : OnYield)
        → PlainCode vs gs ps (sources ren) d → AllGood above ren → AllGood above cur → GoNamed above k → JumpNamed above j → YieldNamed above y
        → IsNamed bad free above (expand ps d ren cur n k j y)
    expand_named gs globals ps places Empty above ren cur n k j y a r c gk gj gy = gk above cur n (λ x h. h) c
    expand_named gs globals ps places Skip above ren cur n k j y a r c gk gj gy = gk above cur n (λ x h. h) c
    expand_named gs globals ps places (Let b w e d) above ren cur n k j y a r c gk gj gy =
        let z = made b (suc n) in let w1 = one_more above z in
        (m.made_free b (suc n), tree_avoids ps places above ren cur e r c a.0, expand_named gs globals ps places d (z ∷ above) ((w, z) ∷ ren) cur (suc n) k j y a.1 (made_good above b (suc n), all_cons above z ren r) (all_cons above z cur c) (go_more above (z ∷ above) k w1 gk) (jump_more above (z ∷ above) j w1 gj) (yield_more above (z ∷ above) y w1 gy))
    expand_named gs globals ps places (Pick b w e d) above ren cur n k j y a r c gk gj gy =
        let z = made b (suc n) in let w1 = one_more above z in
        (m.made_free b (suc n), tree_avoids ps places above ren cur e r c a.0, expand_named gs globals ps places d (z ∷ above) ((w, z) ∷ ren) cur (suc n) k j y a.1 (made_good above b (suc n), all_cons above z ren r) (all_cons above z cur c) (go_more above (z ∷ above) k w1 gk) (jump_more above (z ∷ above) j w1 gj) (yield_more above (z ∷ above) y w1 gy))
    expand_named gs globals ps places (Become p w) above ren cur n k j y a r c gk gj gy =
        gk above (becoming p (find w ren) cur) n (λ x h. h) (becoming_good above p (find w ren) cur (found above w ren r) c)
    expand_named gs globals ps places (Set b p e) above ren cur n k j y a r c gk gj gy =
        let z = made b (suc n) in
        (m.made_free b (suc n), tree_avoids ps places above ren cur e r c a, gk (z ∷ above) ((variable_of p, z) ∷ cur) (suc n) (one_more above z) (made_good above b (suc n), all_cons above z cur c))
    expand_named gs globals ps places (Await e) above ren cur n k j y a r c gk gj gy =
        (tree_avoids ps places above ren cur e r c a, gk above cur n (λ x h. h) c)
    expand_named gs globals ps places (Assert e) above ren cur n k j y a r c gk gj gy =
        (tree_avoids ps places above ren cur e r c a, gk above cur n (λ x h. h) c)
    expand_named gs globals ps places (Print e) above ren cur n k j y a r c gk gj gy =
        (tree_avoids ps places above ren cur e r c a, gk above cur n (λ x h. h) c)
    expand_named gs globals ps places (If e d f) above ren cur n k j y a r c gk gj gy =
        (tree_avoids ps places above ren cur e r c a.0, expand_named gs globals ps places d above ren cur n k j y a.1 r c gk gj gy, expand_named gs globals ps places f above ren cur n k j y a.2 r c gk gj gy)
    expand_named gs globals ps places (Either ds) above ren cur n k j y a r c gk gj gy = arms_named gs globals ps places ds above ren cur n k j y a r c gk gj gy
    expand_named gs globals ps places (Seq d f) above ren cur n k j y a r c gk gj gy =
        expand_named gs globals ps places d above ren cur n (λ cur' n'. expand ps f ren cur' n' k j y) j y a.0 r c
        (λ more cur' n' w c'. expand_named gs globals ps places f more ren cur' n' k j y a.1 (all_within above more ren w r) c' (go_more above more k w gk) (jump_more above more j w gj) (yield_more above more y w gy))
        gj gy
    expand_named gs globals ps places (Goto l) above ren cur n k j y a r c gk gj gy = gj above l cur n (λ x h. h) c
    expand_named gs globals ps places (Yield e) above ren cur n k j y a r c gk gj gy =
        gy above (current_tree ps ren cur e) cur n (λ x h. h) c (tree_avoids ps places above ren cur e r c a)
    expand_named gs globals ps places (Read w g i block d) above ren cur n k j y a r c gk gj gy =
        let z = made old_base (suc n) in (
          m.made_free old_base (suc n),
          content_avoids above ren cur g i r c (globals g a.0) a.1,
          expand_named (content_name ∷ []) content_globals content_places content_places_avoid block (z ∷ above) [] (content_now z) (suc n) no_go no_jump
              (read_then ps d w g i ren cur k j y) a.2 tt (made_good above old_base (suc n), tt) (λ more cur' n' w1 c'. tt) (λ more l cur' n' w1 c'. tt)
              (λ more e' mem n' w1 c' a'. read_named ps d w g i above ren cur k j y (λ last z' cur' n'' r' c'' gk' gj' gy'. expand_named gs globals ps places d last ((w, z') ∷ ren) cur' n'' k j y a.3 r' c'' gk' gj' gy') (globals g a.0) a.1 r c gk gj gy more e' mem n' (λ x h. w1 x (one_more above z x h)) c' a'),
        )
    expand_named gs globals ps places (Write g i w block) above ren cur n k j y a r c gk gj gy =
        let z = made old_base (suc n) in (
          m.made_free old_base (suc n),
          content_avoids above ren cur g i r c (globals g a.0) a.1,
          expand_named (content_name ∷ []) content_globals content_places content_places_avoid block (z ∷ above) (value_handed (find w ren)) (content_now z) (suc n) no_go no_jump
              (write_then g i ren cur k) (handed_plain (content_name ∷ []) content_places block w ren a.2 a.3) (handed_good (z ∷ above) (find w ren) (found (z ∷ above) w ren (all_cons above z ren r))) (made_good above old_base (suc n), tt) (λ more cur' n' w1 c'. tt) (λ more l cur' n' w1 c'. tt)
              (λ more e' mem n' w1 c' a'. write_named g i above ren cur k (globals g a.0) a.1 r c gk more e' mem n' (λ x h. w1 x (one_more above z x h)) c' a'),
        )

    arms_named : (gs : List Name) (globals : GlobalsAvoid bad gs) (ps : List (Name × Place)) (places : PlacesAvoid bad ps) (ds : Codes) (above : List Name) (ren : Renames) (cur : Current) (n : ℕ) (k : OnGo) (j : OnJump) (y : OnYield)
        → PlainCodes vs gs ps (sources ren) ds → AllGood above ren → AllGood above cur → GoNamed above k → JumpNamed above j → YieldNamed above y
        → ArmsNamed bad free above (expand_arms ps ds ren cur n k j y)
    arms_named gs globals ps places no_codes above ren cur n k j y a r c gk gj gy = tt
    arms_named gs globals ps places (more_codes d ds) above ren cur n k j y a r c gk gj gy =
        (expand_named gs globals ps places d above ren cur n k j y a.0 r c gk gj gy, arms_named gs globals ps places ds above ren cur n k j y a.1 r c gk gj gy)

  -- the end's names are bound above
  ends_named : (vs more : List Name) (cur : Current) → AllGood more cur → AllByRecursion (λ c. is_among c.1 more ≡ true) (settled vs cur)
  ends_named [] more cur h = tt
  ends_named (v ∷ vs) more cur h = go (find v cur) (found more v cur h) (ends_named vs more cur h)
    where
      go : (o : Option Name) → IfGood more o → AllByRecursion (λ c. is_among c.1 more ≡ true) (settled vs cur)
          → AllByRecursion (λ c. is_among c.1 more ≡ true) (cons_option (option_map (λ y. (v, y)) o) (settled vs cur))
      go None g r = r
      go (Some y) g r = (g.0, r)

  named_whole : (order gs : List Name) (ps : List (Name × Place)) (c : Code) → GlobalsAvoid bad gs → PlacesAvoid bad ps → PlainCode vs gs ps [] c → IsNamed bad free [] (expansion order ps c)
  named_whole order gs ps c globals places a =
      expand_named gs globals ps places c [] [] [] 0 no_go (to_end order) no_yield a tt tt (λ more cur n w h. tt) (λ more l cur n w h. ends_named order more cur h) (λ more e cur n w h g. tt)

-- what no made name is doesn't hold of a made name
not_made : (f : Name → Bool) (b : Name) (n : ℕ) → ((x : Name) → f x ≡ true → NotMade x) → f (made b n) ≡ false
not_made f b n h = go (f (made b n)) refl
  where
    go : (c : Bool) → f (made b n) ≡ c → c ≡ false
    go true e = absurd (let p : same_name (made b n) (made b n) ≡ false = h (made b n) e b n in let q : same_name (made b n) (made b n) ≡ true = same_name-self (made b n) in cc)
    go false e = refl

pub trees_are_named : TreesAreNamed
trees_are_named s ps c n places a =
    named_whole (taken_names s) (is_further s) (IsFree s) made_names (λ x k. among_right x (variables_of s) (further_names s) k) (variables_of s) (declared s.globals) ps c globals (λ x p e. n.apart (variable_of p) (places x p e)) a
  where
    made_names : MadeNames (is_further s) (IsFree s)
    made_names = record {
      made_free = λ b m. record { self = self_not_made b m; variable = not_made (λ x. is_among x (variables_of s)) b m n.written };
      made_good = λ b m. not_made (is_further s) b m n.further;
      self_good = n.self_further;
      content_good = n.content;
    }

    globals : GlobalsAvoid (is_further s) (declared s.globals)
    globals g h =
        n.apart g (among_front g (declared s.globals ++ (pc ∷ [])) (flat_map (λ p. map (written p.name.name) (own_names s p)) s.processes) (among_front g (declared s.globals) (pc ∷ []) h))
