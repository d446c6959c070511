-- The expansion of code with well-formed expressions has well-formed expressions, where it has at most 1,048,576 nodes.
use Rattle.std.proofs.Common.{◌≡◌, ◌≤◌, ◌+◌, ℕ, suc, Bool, true, false, ◌||◌, ◌⊎◌, inl, inr, if◌then◌else◌, List, [], ◌∷◌, Option, Some, None, option_map, unwrap_or, refl, sym, ◌∙◌, subst, arith}
use Rattle.std.specs.List.{AllByRecursion, cons_option}
use Rattle.pgo_base.specs.Lookup.{Name, same_name, find}
use Rattle.pgo_base.specs.Tree.{Tree, name}
use Rattle.pgo_model.specs.Options.{on}
use Rattle.pgo_model.specs.Written.{made}
use Rattle.pgo_expr_write.specs.WellFormed.{IsWellFormed, IsName, AreNames}
use Rattle.pgo_model.specs.Names.{is_among}
use Rattle.pgo_sections.specs.Code.{Place, Whole, Own, variable_of, Code, Empty, Skip, Let, Pick, Become, Set, Await, Assert, Print, If, Either, Seq, Goto, Yield, Read, Write, Codes, no_codes, more_codes, content_name, content_places, value_name, old_base, val_base, new_base}
use Rattle.pgo_sections.specs.Context.{is_assigned}
use Rattle.pgo_sections.specs.Expand.{Renames, Current, untouched, current, placed, named, current_name, current_tree, made_name, content_tree, content_put, becoming, content_now, value_handed, OnGo, OnJump, OnYield, no_go, no_jump, no_yield, put_back, left_behind, expand, expand_arms, to_end, settled, expansion}
use Rattle.pgo_sections.specs.Expansion.{With as EWith}
use Rattle.pgo_sections.specs.Nodes.{nodes, arms_total}
use Rattle.pgo_sections.proofs.Here.{sources, among_found}
use Rattle.pgo_written.specs.Formed.{Formed, RangeFormed}
use Rattle.pgo_sections.specs.WellFormed.{KnownIndex}
use Rattle.pgo_written.specs.FormedCode.{IsBase, IsText, Alone, CodeFormed, CodesFormed, ExpansionFormed, ExpansionsFormed}
use Rattle.pgo_written.proofs.FormedTrees.{well_formed, range_well, replaced_formed, range_replaced, bound_name}
use Rattle.pgo_written.proofs.WrittenNames as written_names
use Rattle.pgo_written.proofs.WrittenNames.{base_name, self_is_name}

-- the most nodes, and so the most names on a path
abbrev most : ℕ
most = 1048576

-- each name stands for an identifier
abbrev pub StandForNames : List (Name × Name) → Type 0
StandForNames ps = AllByRecursion (λ c. IsName c.1) ps

-- all these variables have current names
pub record Holds (held : List Name) (cur : Current) : Type 0 where
  pub names : StandForNames cur
  pub there : (x : Name) → is_among x held ≡ true → (y : Name) × (find x cur ≡ Some y)

-- what names of code stand for is an identifier, or has a current name
abbrev pub PlacesHeld : List Name → List (Name × Place) → Type 0
PlacesHeld held ps = (x : Name) (p : Place) → find x ps ≡ Some p → IsName (variable_of p) ⊎ (is_among (variable_of p) held ≡ true)

abbrev pub IfName : Option Name → Type 0
IfName None = Unit {0}
IfName (Some y) = IsName y

pub found : (x : Name) (ps : List (Name × Name)) → StandForNames ps → IfName (find x ps)
found x [] h = tt
found x (p ∷ ps) h = go (same_name x p.0) (found x ps h.1)
  where
    go : (b : Bool) → IfName (find x ps) → IfName (if b then Some p.1 else find x ps)
    go true r = h.0
    go false r = r

-- what stands for an index
index_name : (ren : Renames) (i : Name) → StandForNames ren → is_among i (sources ren) ≡ true → IsName (made_name ren i)
index_name ren i r g = let q = among_found ren i g in go (find i ren) q.0 q.1 (found i ren r)
  where
    go : (o : Option Name) (y : Name) → o ≡ Some y → IfName o → IsName (unwrap_or o i)
    go None y e k = absurd (cc)
    go (Some z) y e k = k

-- one more current name
holds_more : (held : List Name) (x y : Name) (cur : Current) → IsName y → Holds held cur → Holds held ((x, y) ∷ cur)
holds_more held x y cur n h = record {
  names = (n, h.names);
  there = λ z e. go z (same_name z x) (h.there z e);
}
  where
    go : (z : Name) (b : Bool) → (w : Name) × (find z cur ≡ Some w) → (w : Name) × ((if b then Some y else find z cur) ≡ Some w)
    go z true q = (y, refl)
    go z false q = q

becoming_holds : (held : List Name) (p : Place) (o : Option Name) (cur : Current) → IfName o → Holds held cur → Holds held (becoming p o cur)
becoming_holds held p None cur h c = c
becoming_holds held p (Some y) cur h c = holds_more held (variable_of p) y cur h c

content_holds : (y : Name) → IsName y → Holds (content_name ∷ []) (content_now y)
content_holds y h = record { names = (h, tt); there = λ x e. go x (same_name x content_name) e }
  where
    go : (x : Name) (b : Bool) → b || false ≡ true → (z : Name) × ((if b then Some y else None) ≡ Some z)
    go x true e = (y, refl)
    go x false e = absurd (cc)

content_places_held : PlacesHeld (content_name ∷ []) content_places
content_places_held x p e = go (same_name x content_name) e
  where
    go : (b : Bool) → (if b then Some (Whole content_name) else None) ≡ Some p → IsName (variable_of p) ⊎ (is_among (variable_of p) (content_name ∷ []) ≡ true)
    go true e = let same : Whole content_name ≡ p = cc in subst (λ (q : Place). IsName (variable_of q) ⊎ (is_among (variable_of q) (content_name ∷ []) ≡ true)) same (inr refl)
    go false e = absurd (cc)

handed_names : (o : Option Name) → IfName o → StandForNames (value_handed o)
handed_names None h = tt
handed_names (Some y) h = (h, tt)

-- a block's code is over the name of the value that it is handed
handed_formed : (ps : List (Name × Place)) (c : Code) (w : Name) (ren : Renames) → is_among w (sources ren) ≡ true → CodeFormed ps (value_name ∷ []) c → CodeFormed ps (sources (value_handed (find w ren))) c
handed_formed ps c w ren h f = let q = among_found ren w h in subst (λ o. CodeFormed ps (sources (value_handed o)) c) (sym q.1) f

-- what comes behind a mapped read's block, and behind a mapped write's
abbrev read_then : List (Name × Place) → Code → Name → Name → Option Name → Renames → Current → OnGo → OnJump → OnYield → OnYield
read_then ps d w g i ren cur k j y e' mem n' =
    EWith (made val_base (suc n')) e' (left_behind (is_assigned mem) ren cur g i (current mem (Whole content_name)) (suc n') (λ cur' n''. expand ps d ((w, made val_base (suc n')) ∷ ren) cur' n'' k j y))

abbrev write_then : Name → Option Name → Renames → Current → OnGo → OnYield
write_then g i ren cur k e' mem n' =
    EWith (made new_base (suc n')) e' (put_back ren cur g i (name (made new_base (suc n'))) (suc n') k)

-- ---- counts

made_fits : (b : Name) (n t r : ℕ) → IsBase b → n + suc (t + r) ≤ most → IsName (made b (suc n))
made_fits b n t r h e = written_names.made_name b (suc n) h (omega (arith, e))

bound_fits : (n t r : ℕ) → n + suc (t + r) ≤ most → suc n + r ≤ most
bound_fits n t r e = omega (arith, e)

rest_fits : (n t r : ℕ) → n + suc (t + r) ≤ most → n + r ≤ most
rest_fits n t r e = omega (arith, e)

-- ---- expressions

module _ (held : List Name) where
  current_formed : (cur : Current) (p : Place) → Holds held cur → IsName (variable_of p) ⊎ (is_among (variable_of p) held ≡ true) → Formed IsName (current cur p)
  current_formed cur p h g = go (find (variable_of p) cur) refl (found (variable_of p) cur h.names)
    where
      plain : (p : Place) → IsName (variable_of p) → Formed IsName (untouched p)
      plain (Whole x) n = n
      plain (Own x) n = (n, (self_is_name, tt))

      left : IsName (variable_of p) ⊎ (is_among (variable_of p) held ≡ true) → find (variable_of p) cur ≡ None → Formed IsName (untouched p)
      left (inl n) e = plain p n
      left (inr a) e = let q = h.there (variable_of p) a in absurd (let z : None ≡ Some q.0 = sym e ∙ q.1 in cc)

      go : (o : Option Name) → find (variable_of p) cur ≡ o → IfName o → Formed IsName (on (untouched p) o (λ y. name y))
      go None e k = left g e
      go (Some y) e k = k

  module _ (ps : List (Name × Place)) (places : PlacesHeld held ps) (ren : Renames) (cur : Current) (r : StandForNames ren) (c : Holds held cur) where
    stands : (u : List Name) (x : Name) → AreNames u → Alone ps (sources ren) x → Formed IsName (current_name ps ren cur u x)
    stands u x a h = under (is_among x u) refl
      where
        at_place : (o : Option Place) → find x ps ≡ o → find x ren ≡ None → Formed IsName (placed cur x o)
        at_place (Some p) e f = current_formed cur p c (places x p e)
        at_place None e f = alone h
          where
            alone : Alone ps (sources ren) x → IsName x
            alone (inl n) = n
            alone (inr (inl b)) = let q = among_found ren x b in absurd (let z : None ≡ Some q.0 = sym f ∙ q.1 in cc)
            alone (inr (inr q)) = absurd (let z : None ≡ Some q.0 = sym e ∙ q.1 in cc)

        renamed : (o : Option Name) → find x ren ≡ o → IfName o → Formed IsName (named ps cur x o)
        renamed None e k = at_place (find x ps) refl e
        renamed (Some y) e k = k

        under : (b : Bool) → is_among x u ≡ b → Formed IsName (if b then name x else named ps cur x (find x ren))
        under true e = bound_name x u a e
        under false e = renamed (find x ren) refl (found x ren r)

    tree_formed : (e : Tree) → Formed (Alone ps (sources ren)) e → IsWellFormed (current_tree ps ren cur e)
    tree_formed e h = well_formed (current_tree ps ren cur e) (replaced_formed (Alone ps (sources ren)) IsName (current_name ps ren cur) stands [] tt e h)

    yielded_formed : (e : Tree) → Formed (Alone ps (sources ren)) e → Formed IsName (current_tree ps ren cur e)
    yielded_formed e h = replaced_formed (Alone ps (sources ren)) IsName (current_name ps ren cur) stands [] tt e h

    range_formed : (e : Tree) → RangeFormed (Alone ps (sources ren)) e → RangeFormed IsName (current_tree ps ren cur e)
    range_formed e h = range_replaced (Alone ps (sources ren)) IsName (current_name ps ren cur) stands [] tt e h

  content_formed : (ren : Renames) (cur : Current) (g : Name) (i : Option Name) → StandForNames ren → Holds held cur → IsBase g → KnownIndex (sources ren) i → Formed IsName (content_tree ren cur g i)
  content_formed ren cur g None r c h k = current_formed cur (Whole g) c (inl (base_name g h))
  content_formed ren cur g (Some i) r c h k = (current_formed cur (Whole g) c (inl (base_name g h)), (index_name ren i r k, tt))

  put_formed : (ren : Renames) (cur : Current) (g : Name) (i : Option Name) (e : Tree) → StandForNames ren → Holds held cur → IsBase g → KnownIndex (sources ren) i → Formed IsName e → Formed IsName (content_put ren cur g i e)
  put_formed ren cur g None e r c h k a = a
  put_formed ren cur g (Some i) e r c h k a =
      (current_formed cur (Whole g) c (inl (base_name g h)), ((index_name ren i r k, tt), a, tt))

  -- ---- the three ways on

  abbrev GoFormed : OnGo → Type 0
  GoFormed k = (cur : Current) (n : ℕ) → Holds held cur → n + nodes (k cur n) ≤ most → ExpansionFormed (k cur n)

  abbrev JumpFormed : OnJump → Type 0
  JumpFormed j = (l : Name) (cur : Current) (n : ℕ) → IsText l → Holds held cur → n + nodes (j l cur n) ≤ most → ExpansionFormed (j l cur n)

  abbrev YieldFormed : OnYield → Type 0
  YieldFormed y = (e : Tree) (cur : Current) (n : ℕ) → Formed IsName e → Holds held cur → n + nodes (y e cur n) ≤ most → ExpansionFormed (y e cur n)

  put_back_formed : (ren : Renames) (cur : Current) (g : Name) (i : Option Name) (e : Tree) (n : ℕ) (k : OnGo) → StandForNames ren → Holds held cur → IsBase g → KnownIndex (sources ren) i → Formed IsName e → GoFormed k
      → n + nodes (put_back ren cur g i e n k) ≤ most → ExpansionFormed (put_back ren cur g i e n k)
  put_back_formed ren cur g i e n k r c h x a go fits =
      let z = made_fits g n _ _ h fits in
      (z, well_formed (content_put ren cur g i e) (put_formed ren cur g i e r c h x a), go ((g, made g (suc n)) ∷ cur) (suc n) (holds_more held g (made g (suc n)) cur z c) (bound_fits n _ _ fits))

  left_formed : (b : Bool) (ren : Renames) (cur : Current) (g : Name) (i : Option Name) (e : Tree) (n : ℕ) (k : OnGo) → StandForNames ren → Holds held cur → IsBase g → KnownIndex (sources ren) i → Formed IsName e → GoFormed k
      → n + nodes (left_behind b ren cur g i e n k) ≤ most → ExpansionFormed (left_behind b ren cur g i e n k)
  left_formed false ren cur g i e n k r c h x a go fits = go cur n c fits
  left_formed true ren cur g i e n k r c h x a go fits = put_back_formed ren cur g i e n k r c h x a go fits

abbrev Block : List Name
Block = content_name ∷ []

read_formed : (held : List Name) (ps : List (Name × Place)) (d : Code) (w g : Name) (i : Option Name) (ren : Renames) (cur : Current) (k : OnGo) (j : OnJump) (y : OnYield)
    → ((z : Name) → IsName z → GoFormed held (λ cur' n''. expand ps d ((w, z) ∷ ren) cur' n'' k j y))
    → IsBase g → KnownIndex (sources ren) i → StandForNames ren → Holds held cur → YieldFormed Block (read_then ps d w g i ren cur k j y)
read_formed held ps d w g i ren cur k j y inner h x r c e' mem n' a m fits =
    let v = made val_base (suc n') in
    let z = made_fits val_base n' _ _ (refl, omega arith) fits in (
      z,
      well_formed e' a,
      left_formed held (is_assigned mem) ren cur g i (current mem (Whole content_name)) (suc n') (λ cur' n''. expand ps d ((w, v) ∷ ren) cur' n'' k j y) r c h x (current_formed Block mem (Whole content_name) m (inr refl)) (inner v z) (bound_fits n' _ _ fits),
    )

write_formed : (held : List Name) (g : Name) (i : Option Name) (ren : Renames) (cur : Current) (k : OnGo) → IsBase g → KnownIndex (sources ren) i → StandForNames ren → Holds held cur → GoFormed held k → YieldFormed Block (write_then g i ren cur k)
write_formed held g i ren cur k h x r c go e' mem n' a m fits =
    let z = made_fits new_base n' _ _ (refl, omega arith) fits in
    (z, well_formed e' a, put_back_formed held ren cur g i (name (made new_base (suc n'))) (suc n') k r c h x z go (bound_fits n' _ _ fits))

-- no step is formed
no_go_formed : (held : List Name) → GoFormed held no_go
no_go_formed held cur n c fits = tt

no_jump_formed : (held : List Name) → JumpFormed held no_jump
no_jump_formed held l cur n a c fits = tt

no_yield_formed : (held : List Name) → YieldFormed held no_yield
no_yield_formed held e cur n a c fits = tt

mutual
  expand_formed : (held : List Name) (ps : List (Name × Place)) → PlacesHeld held ps → (d : Code) (ren : Renames) (cur : Current) (n : ℕ) (k : OnGo) (j : OnJump) (y : OnYield)
      → CodeFormed ps (sources ren) d → StandForNames ren → Holds held cur → GoFormed held k → JumpFormed held j → YieldFormed held y
      → n + nodes (expand ps d ren cur n k j y) ≤ most → ExpansionFormed (expand ps d ren cur n k j y)
  expand_formed held ps places Empty ren cur n k j y a r c gk gj gy fits = gk cur n c fits
  expand_formed held ps places Skip ren cur n k j y a r c gk gj gy fits = gk cur n c (omega (arith, fits))
  expand_formed held ps places (Let b w e d) ren cur n k j y a r c gk gj gy fits =
      let z = made_fits b n _ _ a.0 fits in
      (z, tree_formed held ps places ren cur r c e a.1, expand_formed held ps places d ((w, made b (suc n)) ∷ ren) cur (suc n) k j y a.2 (z, r) c gk gj gy (bound_fits n _ _ fits))
  expand_formed held ps places (Pick b w e d) ren cur n k j y a r c gk gj gy fits =
      let z = made_fits b n _ _ a.0 fits in
      (z, range_well (current_tree ps ren cur e) (range_formed held ps places ren cur r c e a.1), expand_formed held ps places d ((w, made b (suc n)) ∷ ren) cur (suc n) k j y a.2 (z, r) c gk gj gy (bound_fits n _ _ fits))
  expand_formed held ps places (Become p w) ren cur n k j y a r c gk gj gy fits =
      gk (becoming p (find w ren) cur) n (becoming_holds held p (find w ren) cur (found w ren r) c) fits
  expand_formed held ps places (Set b p e) ren cur n k j y a r c gk gj gy fits =
      let z = made_fits b n _ _ a.0 fits in
      (z, tree_formed held ps places ren cur r c e a.1, gk ((variable_of p, made b (suc n)) ∷ cur) (suc n) (holds_more held (variable_of p) (made b (suc n)) cur z c) (bound_fits n _ _ fits))
  expand_formed held ps places (Await e) ren cur n k j y a r c gk gj gy fits = (tree_formed held ps places ren cur r c e a, gk cur n c (rest_fits n _ _ fits))
  expand_formed held ps places (Assert e) ren cur n k j y a r c gk gj gy fits = (tree_formed held ps places ren cur r c e a, gk cur n c (rest_fits n _ _ fits))
  expand_formed held ps places (Print e) ren cur n k j y a r c gk gj gy fits = (tree_formed held ps places ren cur r c e a, gk cur n c (rest_fits n _ _ fits))
  expand_formed held ps places (If e d f) ren cur n k j y a r c gk gj gy fits =
      (tree_formed held ps places ren cur r c e a.0, expand_formed held ps places d ren cur n k j y a.1 r c gk gj gy (omega (arith, fits)), expand_formed held ps places f ren cur n k j y a.2 r c gk gj gy (omega (arith, fits)))
  expand_formed held ps places (Either ds) ren cur n k j y a r c gk gj gy fits = arms_formed held ps places ds ren cur n k j y a r c gk gj gy (omega (arith, fits))
  expand_formed held ps places (Seq d f) ren cur n k j y a r c gk gj gy fits =
      expand_formed held ps places d ren cur n (λ cur' n'. expand ps f ren cur' n' k j y) j y a.0 r c
      (λ cur' n' c' fits'. expand_formed held ps places f ren cur' n' k j y a.1 r c' gk gj gy fits') gj gy fits
  expand_formed held ps places (Goto l) ren cur n k j y a r c gk gj gy fits = gj l cur n a c fits
  expand_formed held ps places (Yield e) ren cur n k j y a r c gk gj gy fits = gy (current_tree ps ren cur e) cur n (yielded_formed held ps places ren cur r c e a) c fits
  expand_formed held ps places (Read w g i block d) ren cur n k j y a r c gk gj gy fits =
      let z = made_fits old_base n _ _ (refl, omega arith) fits in (
        z,
        well_formed (content_tree ren cur g i) (content_formed held ren cur g i r c a.0 a.1),
        expand_formed Block content_places content_places_held block [] (content_now (made old_base (suc n))) (suc n) no_go no_jump
            (read_then ps d w g i ren cur k j y) a.2 tt (content_holds (made old_base (suc n)) z) (no_go_formed Block) (no_jump_formed Block)
            (read_formed held ps d w g i ren cur k j y (λ v n' cur' n'' c' fits'. expand_formed held ps places d ((w, v) ∷ ren) cur' n'' k j y a.3 (n', r) c' gk gj gy fits') a.0 a.1 r c) (bound_fits n _ _ fits),
      )
  expand_formed held ps places (Write g i w block) ren cur n k j y a r c gk gj gy fits =
      let z = made_fits old_base n _ _ (refl, omega arith) fits in (
        z,
        well_formed (content_tree ren cur g i) (content_formed held ren cur g i r c a.0 a.1),
        expand_formed Block content_places content_places_held block (value_handed (find w ren)) (content_now (made old_base (suc n))) (suc n) no_go no_jump
            (write_then g i ren cur k) (handed_formed content_places block w ren a.2 a.3) (handed_names (find w ren) (found w ren r)) (content_holds (made old_base (suc n)) z) (no_go_formed Block) (no_jump_formed Block)
            (write_formed held g i ren cur k a.0 a.1 r c gk) (bound_fits n _ _ fits),
      )

  arms_formed : (held : List Name) (ps : List (Name × Place)) → PlacesHeld held ps → (ds : Codes) (ren : Renames) (cur : Current) (n : ℕ) (k : OnGo) (j : OnJump) (y : OnYield)
      → CodesFormed ps (sources ren) ds → StandForNames ren → Holds held cur → GoFormed held k → JumpFormed held j → YieldFormed held y
      → n + arms_total (expand_arms ps ds ren cur n k j y) ≤ most → ExpansionsFormed (expand_arms ps ds ren cur n k j y)
  arms_formed held ps places no_codes ren cur n k j y a r c gk gj gy fits = tt
  arms_formed held ps places (more_codes d ds) ren cur n k j y a r c gk gj gy fits =
      (expand_formed held ps places d ren cur n k j y a.0 r c gk gj gy (omega (arith, fits)), arms_formed held ps places ds ren cur n k j y a.1 r c gk gj gy (omega (arith, fits)))

-- the end's names
ends_formed : (vs : List Name) (cur : Current) → StandForNames cur → StandForNames (settled vs cur)
ends_formed [] cur h = tt
ends_formed (v ∷ vs) cur h = go (find v cur) (found v cur h) (ends_formed vs cur h)
  where
    go : (o : Option Name) → IfName o → StandForNames (settled vs cur) → StandForNames (cons_option (option_map (λ y. (v, y)) o) (settled vs cur))
    go None g r = r
    go (Some y) g r = (g, r)

-- what names of code stand for is an identifier
abbrev pub PlacesNamed : List (Name × Place) → Type 0
PlacesNamed ps = (x : Name) (p : Place) → find x ps ≡ Some p → IsName (variable_of p)

pub expansion_formed : (vs : List Name) (ps : List (Name × Place)) (c : Code) → PlacesNamed ps → CodeFormed ps [] c → nodes (expansion vs ps c) ≤ most → ExpansionFormed (expansion vs ps c)
expansion_formed vs ps c places a fits =
    expand_formed [] ps (λ x p e. inl (places x p e)) c [] [] 0 no_go (to_end vs) no_yield a tt (record { names = tt; there = λ x e. absurd (cc) }) (no_go_formed []) (λ l cur n t h f. (ends_formed vs cur h.names, t)) (no_yield_formed []) (omega (arith, fits))
