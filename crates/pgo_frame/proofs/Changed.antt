-- What has changed along a section on two states beside each other: what is no global that is bound by element has changed to the
-- same, and the elements on which the states agree are the same.
use Rattle.std.proofs.Common.{◌≡◌, Bool, true, false, ◌&&◌, ◌||◌, List, [], ◌∷◌, ◌++◌, Option, Some, None, ◌⊎◌, inl, refl, sym, ap, ◌∙◌, subst, arith, option_map}
use Rattle.std.specs.Prelude.{if◌then◌else◌}
use Rattle.pgo_base.specs.Data.{Data, function, Pairs, graph}
use Rattle.pgo_base.specs.Lookup.{Name, Names, Vars, same_name, find}
use Rattle.pgo_base.specs.Tree.{Tree}
use Rattle.pgo_model.specs.Names.{same_name-is, is_among}
use Rattle.pgo_model.specs.Occurrences.{first_occurrences}
use Rattle.pgo_model.specs.Operators.{lookup}
use Rattle.pgo_model.specs.Options.{on}
use Rattle.pgo_model.specs.State.{is_shallow}
use Rattle.pgo_model.specs.Variables.{HasOneDomain}
use Rattle.pgo_sections.specs.Access.{reads_among, touched_whole, unmapped_reads}
use Rattle.pgo_sections.specs.BoundValues.{bindable, put_part}
use Rattle.pgo_sections.specs.Code.{Place, Whole, Own}
use Rattle.pgo_sections.specs.Context.{Context, content, part_at, put_content, put_new, value_now, value_of, view}
use Rattle.pgo_sections.specs.Exec.{touched}
use Rattle.pgo_sections.specs.FreeNames.{free_names}
use Rattle.pgo_accesses.proofs.Ending.{shallow_at}
use Rattle.pgo_accesses.proofs.Evaluated.{all_of, among_first}
use Rattle.pgo_accesses.proofs.FreeValues.{there, same_value}
use Rattle.pgo_accesses.proofs.Parts.{size_is}
use Rattle.pgo_frame.specs.Agreement.{at_index}
use Rattle.pgo_frame.proofs.Near.{Near, near_start, near_there, Puts, neither, functions, puts_near, bound_near}
use Rattle.pgo_frame.proofs.Parted.{agrees, all_agree, agree_is, both_true}

-- ---- names in scope

find_more : (env l m : Names) (x : Name) → find x l ≡ find x m → find x (env ++ l) ≡ find x (env ++ m)
find_more [] l m x h = h
find_more (p ∷ env) l m x h = ap (λ o. if same_name x p.0 then Some p.1 else o) (find_more env l m x h)

known_more : (env l m : Names) (x : Name) → there (find x l) ≡ there (find x m) → there (find x (env ++ l)) ≡ there (find x (env ++ m))
known_more [] l m x h = h
known_more (p ∷ env) l m x h = go (same_name x p.0) (known_more env l m x h)
  where
    go : (b : Bool) → there (find x (env ++ l)) ≡ there (find x (env ++ m)) → there (if b then Some p.1 else find x (env ++ l)) ≡ there (if b then Some p.1 else find x (env ++ m))
    go true ih = refl
    go false ih = ih

module _ (C : Context) (s t : Vars) where
  abbrev pub K1 : Context
  K1 = record C { start = s }

  abbrev pub K2 : Context
  K2 = record C { start = t }

  -- a global that is bound by element
  abbrev pub by_elements : Name → Bool
  by_elements y = C.by_element y && is_among y C.globals

  -- what a global that is bound by element has now: the same on both, or functions that are near, and are the same at each element
  -- on which the states agree
  pub data Alike (y : Name) (o o' : Option Data) : Type 0 where
    same : o ≡ o' → Alike y o o'
    near : (ps qs : Pairs) → o ≡ Some (function ps) → o' ≡ Some (function qs) → Near (graph ps) (graph qs)
        → ((j : Data) → agrees s t (y, Some j) ≡ true → lookup j (graph ps) ≡ lookup j (graph qs)) → agrees s t (y, None) ≡ false → Alike y o o'

  pub alike_at : (y : Name) (j o o' : Option Data) → Alike y o o' → agrees s t (y, j) ≡ true → at_index j o ≡ at_index j o'
  alike_at y j o o' (same e) h = ap (at_index j) e
  alike_at y None o o' (near ps qs e f n each whole) h = absurd (let z : true ≡ false = sym h ∙ whole in grind (arith, z))
  alike_at y (Some j) o o' (near ps qs e f n each whole) h = ap (at_index (Some j)) e ∙ each j h ∙ sym (ap (at_index (Some j)) f)

  alike_there : (y : Name) (j o o' : Option Data) → Alike y o o' → there (at_index j o) ≡ there (at_index j o')
  alike_there y j o o' (same e) = ap (λ o. there (at_index j o)) e
  alike_there y None o o' (near ps qs e f n each whole) = ap there e ∙ sym (ap there f)
  alike_there y (Some j) o o' (near ps qs e f n each whole) = ap (λ o. there (at_index (Some j) o)) e ∙ near_there j (graph ps) (graph qs) n ∙ sym (ap (λ o. there (at_index (Some j) o)) f)

  -- both are bound, or neither
  pub data Binds (y : Name) (o o' : Option Data) : Type 0 where
    unbound : o ≡ None → o' ≡ None → Binds y o o'
    bound : (w w' : Data) → o ≡ Some w → o' ≡ Some w' → Alike y (Some w) (Some w') → Binds y o o'

  binds_same : (y : Name) (o o' : Option Data) → o ≡ o' → Binds y o o'
  binds_same y None o' e = unbound refl (sym e)
  binds_same y (Some w) o' e = bound w w refl (sym e) (same refl)

  alike_put : (y : Name) (i v : Data) (o o' : Option Data) → Alike y o o' → Binds y (bindable (put_part i o (Some v))) (bindable (put_part i o' (Some v)))
  alike_put y i v o o' (same e) = binds_same y (bindable (put_part i o (Some v))) (bindable (put_part i o' (Some v))) (ap (λ o. bindable (put_part i o (Some v))) e)
  alike_put y i v o o' (near ps qs e f n each whole) =
      let P : Option Data → Type 0 = λ q. Binds y (bindable (put_part i q (Some v))) (bindable (put_part i o' (Some v))) in
      let Q : Option Data → Type 0 = λ q. Binds y (bindable (put_part i (Some (function ps)) (Some v))) (bindable (put_part i q (Some v))) in
      subst P (sym e) (subst Q (sym f) (go _ _ (bound_near ps qs _ _ (puts_near i v ps qs n))))
    where
      go : (q q' : Option Data) → Puts ps qs q q' → Binds y q q'
      go q q' (neither e f) = unbound e f
      go q q' (functions us vs e f m kept) = bound (function us) (function vs) e f (near us vs refl refl m (λ j h. kept j (each j h)) whole)

  -- ---- the changes on both

  pub record Changed (ch ch' : Vars) : Type 0 where
    pub others : (y : Name) → by_elements y ≡ false → find y ch ≡ find y ch'
    pub elements : (y : Name) → by_elements y ≡ true → Alike y (value_now K1 (Whole y) ch) (value_now K2 (Whole y) ch')
    -- a global or an own variable has changed
    pub mine : (y : Name) (v : Data) → find y ch ≡ Some v → (is_among y C.globals ≡ true) ⊎ (is_among y C.owns ≡ true)

  mine_more : (y : Name) (v : Data) (ch : Vars) → (is_among y C.globals ≡ true) ⊎ (is_among y C.owns ≡ true)
      → ((z : Name) (w : Data) → find z ch ≡ Some w → (is_among z C.globals ≡ true) ⊎ (is_among z C.owns ≡ true))
      → (z : Name) (w : Data) → find z ((y, v) ∷ ch) ≡ Some w → (is_among z C.globals ≡ true) ⊎ (is_among z C.owns ≡ true)
  mine_more y v ch may h z w e = go (same_name z y) refl e
    where
      go : (b : Bool) → same_name z y ≡ b → (if b then Some v else find z ch) ≡ Some w → (is_among z C.globals ≡ true) ⊎ (is_among z C.owns ≡ true)
      go true n e = subst (λ x. (is_among x C.globals ≡ true) ⊎ (is_among x C.owns ≡ true)) (sym (same_name-is z y n)) may
      go false n e = h z w e

  -- a variable has become the same on both
  pub changed_same : (y : Name) (v : Data) (ch ch' : Vars) → (is_among y C.globals ≡ true) ⊎ (is_among y C.owns ≡ true) → Changed ch ch' → Changed ((y, v) ∷ ch) ((y, v) ∷ ch')
  changed_same y v ch ch' may h = record {
    others = λ z n. ap (λ o. if same_name z y then Some v else o) (h.others z n);
    elements = λ z e. go z (same_name z y) (h.elements z e);
    mine = mine_more y v ch may h.mine;
  }
    where
      go : (z : Name) (b : Bool) → Alike z (value_now K1 (Whole z) ch) (value_now K2 (Whole z) ch') → Alike z (on (find z s) (if b then Some v else find z ch) (λ v. Some v)) (on (find z t) (if b then Some v else find z ch') (λ v. Some v))
      go z true a = same refl
      go z false a = a

  -- a global that is bound by element has become alike
  pub changed_element : (y : Name) (w w' : Data) (ch ch' : Vars) → by_elements y ≡ true → Alike y (Some w) (Some w') → Changed ch ch' → Changed ((y, w) ∷ ch) ((y, w') ∷ ch')
  changed_element y w w' ch ch' is a h = record {
    others = λ z n. other z n (same_name z y) refl;
    elements = λ z e. go z (same_name z y) refl (h.elements z e);
    mine = mine_more y w ch (inl (both_true (C.by_element y) (is_among y C.globals) is).1) h.mine;
  }
    where
      other : (z : Name) → by_elements z ≡ false → (b : Bool) → same_name z y ≡ b → (if b then Some w else find z ch) ≡ (if b then Some w' else find z ch')
      other z n true e = absurd (let q : true ≡ false = sym is ∙ ap by_elements (sym (same_name-is z y e)) ∙ n in grind (arith, q))
      other z n false e = h.others z n

      go : (z : Name) (b : Bool) → same_name z y ≡ b → Alike z (value_now K1 (Whole z) ch) (value_now K2 (Whole z) ch')
          → Alike z (on (find z s) (if b then Some w else find z ch) (λ v. Some v)) (on (find z t) (if b then Some w' else find z ch') (λ v. Some v))
      go z true e b = subst (λ x. Alike x (Some w) (Some w')) (sym (same_name-is z y e)) a
      go z false e b = b

  -- nothing has changed at the start
  module _ (domains : (y : Name) → by_elements y ≡ true → HasOneDomain s t y) (low_s : is_shallow s ≡ true) (low_t : is_shallow t ≡ true) where
    begins : (y : Name) → HasOneDomain s t y → (b : Bool) → agrees s t (y, None) ≡ b → Alike y (find y s) (find y t)
    begins y h true e = same (agree_is s t (y, None) e)
    begins y h false e =
        let p = h.1 in let q = h.2 in
        let deep_p = shallow_at s y (function p.0) low_s p.1 in let deep_q = shallow_at t y (function q.0) low_t q.1 in
        let a = size_is p.0 in let c = size_is q.0 in
        near p.0 q.0 p.1 q.1 (near_start (graph p.0) (graph q.0) (p.2 ∙ sym q.2) (omega (arith, deep_p, a)) (omega (arith, deep_q, c)))
        (λ j k. sym (ap (at_index (Some j)) p.1) ∙ agree_is s t (y, Some j) k ∙ ap (at_index (Some j)) q.1) e

    pub changed_start : Changed [] []
    changed_start = record {
      others = λ y n. refl;
      elements = λ y e. begins y (domains y e) (agrees s t (y, None)) refl;
      mine = λ y v e. absurd (grind (arith, e));
    }

  -- ---- what a global has

  -- as a whole
  pub whole_same : (ch ch' : Vars) → Changed ch ch' → (g : Name) → agrees s t (g, None) ≡ true → value_now K1 (Whole g) ch ≡ value_now K2 (Whole g) ch'
  whole_same ch ch' h g a = go (by_elements g) refl
    where
      go : (b : Bool) → by_elements g ≡ b → value_now K1 (Whole g) ch ≡ value_now K2 (Whole g) ch'
      go true e = alike_at g None (value_now K1 (Whole g) ch) (value_now K2 (Whole g) ch') (h.elements g e) a
      go false e = λ i. on (agree_is s t (g, None) a i) (h.others g e i) (λ v. Some v)

  content_at : (K : Context) (g : Name) (j : Option Data) (ch : Vars) → content K g j ch ≡ at_index j (value_now K (Whole g) ch)
  content_at K g None ch = refl
  content_at K g (Some j) ch = refl

  touched_by : (g : Name) (j o o' : Option Data) → there o ≡ there o' → touched true g j o ≡ touched true g j o'
  touched_by g j None None h = refl
  touched_by g j None (Some w) h = absurd (grind (arith, h))
  touched_by g j (Some v) None h = absurd (grind (arith, h))
  touched_by g j (Some v) (Some w) h = refl

  -- both have changed further, or neither
  pub data PutBoth (o o' : Option Vars) : Type 0 where
    nowhere : o ≡ None → o' ≡ None → PutBoth o o'
    changes : (c c' : Vars) → o ≡ Some c → o' ≡ Some c' → Changed c c' → PutBoth o o'

  module _ (ch ch' : Vars) (h : Changed ch ch') (g : Name) (is : is_among g C.globals ≡ true) where
    elements_of : C.by_element g ≡ true → by_elements g ≡ true
    elements_of e = λ i. e i && is i

    content_there : (j : Option Data) → C.by_element g ≡ true → there (content K1 g j ch) ≡ there (content K2 g j ch')
    content_there j e =
        ap there (content_at K1 g j ch) ∙ alike_there g j (value_now K1 (Whole g) ch) (value_now K2 (Whole g) ch') (h.elements g (elements_of e)) ∙ sym (ap there (content_at K2 g j ch'))

    -- it is accessed on both
    pub touched_same : (j : Option Data) → touched (C.by_element g) g j (content K1 g j ch) ≡ touched (C.by_element g) g j (content K2 g j ch')
    touched_same j = go (C.by_element g) refl
      where
        go : (b : Bool) → C.by_element g ≡ b → touched b g j (content K1 g j ch) ≡ touched b g j (content K2 g j ch')
        go false e = refl
        go true e = touched_by g j (content K1 g j ch) (content K2 g j ch') (content_there j e)

    -- and has the same content, where the states agree on what is accessed
    pub content_same : (j : Option Data) → all_agree s t (touched (C.by_element g) g j (content K1 g j ch)) ≡ true → content K1 g j ch ≡ content K2 g j ch'
    content_same j a = go (C.by_element g) refl a
      where
        found : C.by_element g ≡ true → (o o' : Option Data) → content K1 g j ch ≡ o → content K2 g j ch' ≡ o' → there o ≡ there o' → all_agree s t (touched true g j o) ≡ true → content K1 g j ch ≡ content K2 g j ch'
        found b None None e f n a = e ∙ sym f
        found b None (Some w) e f n a = absurd (grind (arith, n))
        found b (Some v) o' e f n a =
            content_at K1 g j ch
            ∙ alike_at g j (value_now K1 (Whole g) ch) (value_now K2 (Whole g) ch') (h.elements g (elements_of b)) (both_true (agrees s t (g, j)) true a).0
            ∙ sym (content_at K2 g j ch')

        go : (b : Bool) → C.by_element g ≡ b → all_agree s t (touched b g j (content K1 g j ch)) ≡ true → content K1 g j ch ≡ content K2 g j ch'
        go false e a = content_at K1 g j ch ∙ ap (at_index j) (whole_same ch ch' h g (both_true (agrees s t (g, None)) true a).0) ∙ sym (content_at K2 g j ch')
        go true e a = found e (content K1 g j ch) (content K2 g j ch') refl refl (content_there j e) a

    -- ---- a new content on both

    put_bound : (b : Bool) → C.by_element g ≡ b → (o o' : Option Data) → Binds g o o' → (b ≡ false → o ≡ o') → PutBoth (option_map (λ w. (g, w) ∷ ch) o) (option_map (λ w. (g, w) ∷ ch') o')
    put_bound true e o o' (unbound x y) n = nowhere (ap (option_map (λ w. (g, w) ∷ ch)) x) (ap (option_map (λ w. (g, w) ∷ ch')) y)
    put_bound true e o o' (bound w w' x y a) n =
        changes ((g, w) ∷ ch) ((g, w') ∷ ch') (ap (option_map (λ w. (g, w) ∷ ch)) x) (ap (option_map (λ w. (g, w) ∷ ch')) y) (changed_element g w w' ch ch' (elements_of e) a h)
    put_bound false e None o' a n = nowhere refl (ap (option_map (λ w. (g, w) ∷ ch')) (sym (n refl)))
    put_bound false e (Some w) o' a n = changes ((g, w) ∷ ch) ((g, w) ∷ ch') refl (ap (option_map (λ w. (g, w) ∷ ch')) (sym (n refl))) (changed_same g w ch ch' (inl is) h)

    pub put_both : (j : Option Data) (v : Data) → all_agree s t (touched (C.by_element g) g j (content K1 g j ch)) ≡ true → PutBoth (put_content K1 g j (Some v) ch) (put_content K2 g j (Some v) ch')
    put_both None v a = put_bound (C.by_element g) refl (bindable (Some v)) (bindable (Some v)) (binds_same g (bindable (Some v)) (bindable (Some v)) refl) (λ e. refl)
    put_both (Some j) v a = go (C.by_element g) refl a
      where
        o : Option Data
        o = value_now K1 (Whole g) ch

        o' : Option Data
        o' = value_now K2 (Whole g) ch'

        go : (b : Bool) → C.by_element g ≡ b → all_agree s t (touched b g (Some j) (content K1 g (Some j) ch)) ≡ true → PutBoth (put_content K1 g (Some j) (Some v) ch) (put_content K2 g (Some j) (Some v) ch')
        go false e a =
            let w = whole_same ch ch' h g (both_true (agrees s t (g, None)) true a).0 in
            let p = ap (λ q. bindable (put_part j q (Some v))) w in
            put_bound false e (bindable (put_part j o (Some v))) (bindable (put_part j o' (Some v))) (binds_same g (bindable (put_part j o (Some v))) (bindable (put_part j o' (Some v))) p) (λ f. p)
        go true e a =
            put_bound true e (bindable (put_part j o (Some v))) (bindable (put_part j o' (Some v))) (alike_put g j v o o' (h.elements g (elements_of e))) (λ f. absurd (let z : true ≡ false = f in grind (arith, z)))

    pub new_both : (j q : Option Data) → all_agree s t (touched (C.by_element g) g j (content K1 g j ch)) ≡ true → PutBoth (put_new K1 g j q ch) (put_new K2 g j q ch')
    new_both j None a = changes ch ch' refl refl h
    new_both j (Some v) a = put_both j v a

  -- ---- expressions

  module _ (owned : (x y : Name) → find x C.places ≡ Some (Own y) → (is_among y C.globals ≡ false) × (part_at y C.id s ≡ part_at y C.id t)) where
    view_known : (ps : List (Name × Place)) (ch ch' : Vars) (x : Name) → there (find x (view K1 ps ch)) ≡ there (find x (view K2 ps ch'))
    view_known [] ch ch' x = refl
    view_known (q ∷ ps) ch ch' x = go (same_name x q.0) (view_known ps ch ch' x)
      where
        go : (b : Bool) → there (find x (view K1 ps ch)) ≡ there (find x (view K2 ps ch')) → there (if b then Some (value_now K1 q.1 ch) else find x (view K1 ps ch)) ≡ there (if b then Some (value_now K2 q.1 ch') else find x (view K2 ps ch'))
        go true ih = refl
        go false ih = ih

    view_same : (ps : List (Name × Place)) (ch ch' : Vars) (x : Name) → ((q : Place) → find x ps ≡ Some q → value_now K1 q ch ≡ value_now K2 q ch') → find x (view K1 ps ch) ≡ find x (view K2 ps ch')
    view_same [] ch ch' x h = refl
    view_same (q ∷ ps) ch ch' x h = go (same_name x q.0) h (λ k. view_same ps ch ch' x k)
      where
        go : (b : Bool) → ((p : Place) → (if b then Some q.1 else find x ps) ≡ Some p → value_now K1 p ch ≡ value_now K2 p ch')
            → (((p : Place) → find x ps ≡ Some p → value_now K1 p ch ≡ value_now K2 p ch') → find x (view K1 ps ch) ≡ find x (view K2 ps ch'))
            → (if b then Some (value_now K1 q.1 ch) else find x (view K1 ps ch)) ≡ (if b then Some (value_now K2 q.1 ch') else find x (view K2 ps ch'))
        go true h ih = ap Some (h q.1 refl)
        go false h ih = ih h

    -- an unmapped parameter that is read
    read_agrees : (x g : Name) (xs : List Name) → is_among x xs ≡ true → find x C.places ≡ Some (Whole g) → all_agree s t (reads_among C.places xs) ≡ true → agrees s t (g, None) ≡ true
    read_agrees x g [] m at a = absurd (grind (arith, m))
    read_agrees x g (y ∷ xs) m at a = go (same_name x y) refl m (λ k r. read_agrees x g xs k at r)
      where
        rest_agrees : (o : Option Place) → all_agree s t (touched_whole o (reads_among C.places xs)) ≡ true → all_agree s t (reads_among C.places xs) ≡ true
        rest_agrees None a = a
        rest_agrees (Some (Own z)) a = a
        rest_agrees (Some (Whole z)) a = (both_true (agrees s t (z, None)) (all_agree s t (reads_among C.places xs)) a).1

        here : find y C.places ≡ Some (Whole g) → agrees s t (g, None) ≡ true
        here e = (both_true (agrees s t (g, None)) (all_agree s t (reads_among C.places xs)) (subst (λ o. all_agree s t (touched_whole o (reads_among C.places xs)) ≡ true) e a)).0

        go : (b : Bool) → same_name x y ≡ b → b || is_among x xs ≡ true → (is_among x xs ≡ true → all_agree s t (reads_among C.places xs) ≡ true → agrees s t (g, None) ≡ true) → agrees s t (g, None) ≡ true
        go true n m ih = here (subst (λ k. find k C.places ≡ Some (Whole g)) (same_name-is x y n) at)
        go false n m ih = ih m (rest_agrees (find y C.places) a)

    place_same : (ch ch' : Vars) → Changed ch ch' → (xs : List Name) → all_agree s t (reads_among C.places xs) ≡ true → (x : Name) → is_among x xs ≡ true → (q : Place) → find x C.places ≡ Some q → value_now K1 q ch ≡ value_now K2 q ch'
    place_same ch ch' h xs a x m (Whole g) at = whole_same ch ch' h g (read_agrees x g xs m at a)
    place_same ch ch' h xs a x m (Own y) at =
        let o = owned x y at in
        let e = h.others y (none (C.by_element y) (is_among y C.globals) o.0) in
        λ i. on (o.1 i) (e i) (λ v. Some v)
      where
        none : (b c : Bool) → c ≡ false → b && c ≡ false
        none true c e = e
        none false c e = refl

    -- an expression has the same value, where the states agree on what it reads
    pub value_same : (ch ch' : Vars) → Changed ch ch' → (e : Tree) (env : Names) → all_agree s t (unmapped_reads C.places e) ≡ true → value_of K1 e env ch ≡ value_of K2 e env ch'
    value_same ch ch' h e env a =
        same_value (env ++ view K1 C.places ch) (env ++ view K2 C.places ch') [] None C.defs (λ x. known_more env (view K1 C.places ch) (view K2 C.places ch') x (view_known C.places ch ch' x)) e
        (all_of (λ x. find x (env ++ view K1 C.places ch) ≡ find x (env ++ view K2 C.places ch')) (free_names [] e) (λ x m.
        find_more env (view K1 C.places ch) (view K2 C.places ch') x (view_same C.places ch ch' x (λ q at. place_same ch ch' h (first_occurrences (free_names [] e)) a x (among_first x (free_names [] e) m) q at))))
