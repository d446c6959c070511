-- What a read or a write of a mapped parameter accesses, in the section and in its tree.
use Rattle.std.proofs.Common.{◌≡◌, ℕ, ◌≤◌, true, false, List, [], ◌∷◌, Option, Some, None, ◌⊎◌, inl, inr, refl, sym, ap, ◌∙◌, subst, arith, option_and_then}
use Rattle.std.specs.Prelude.{nat_le, if◌then◌else◌}
use Rattle.pgo_base.specs.Data.{Data, graph}
use Rattle.pgo_base.specs.Lookup.{Name, Vars}
use Rattle.pgo_base.specs.Size.{depth}
use Rattle.pgo_model.specs.Core.{number_among}
use Rattle.pgo_model.specs.Machine.{put}
use Rattle.pgo_model.specs.Operators.{apply, lookup}
use Rattle.pgo_model.specs.Options.{on}
use Rattle.pgo_model.specs.System.{Words, Resource, Touched}
use Rattle.pgo_sections.specs.BoundValues.{bindable, put_part}
use Rattle.pgo_sections.specs.Code.{Whole}
use Rattle.pgo_sections.specs.Context.{Context, content, with_content, value_now}
use Rattle.pgo_sections.specs.Exec.{touched}
use Rattle.pgo_sections.specs.SectionRun.{ChoiceMade}
use Rattle.pgo_workers.specs.Operations.{part_of, with_part}
use Rattle.pgo_workers.specs.Tried.{LeafTree}
use Rattle.pgo_workers.specs.Walk as walks
use Rattle.pgo_accesses.specs.Accesses.{Attempt, Progress, can_stand, becoming, accessing, no_value, with_value, with_whole}
use Rattle.pgo_accesses.proofs.Parts.{bindable_low, bindable_high, part_low, put_low, put_high, with_at, lookup_low, le_of, of_le}
use Rattle.pgo_accesses.proofs.Related.{Matches, attempt, IsWhole, IsElements, Elements, AsBound, Related, whole_changed, element_changed, same_again}

module _ (K : Context) (rs : List Resource) (at_start : walks.Own) (d : Words) where
  abbrev a : Attempt
  a = attempt K rs at_start d

  -- resource r, or a part of it, is what is accessed
  pub record Mapped (g : Name) (j : Option Data) (ch : Vars) (G : ℕ → Data) (r : ℕ) (at : Option Data) : Type 0 where
    pub event : Touched
    pub number : number_among rs event ≡ Some r
    pub trace : touched (K.by_element g) g j (content K g j ch) ≡ event ∷ []
    pub content_is : content K g j ch ≡ part_of at (G r)
    pub low : can_stand (K.by_element g) (G r) ≡ true
    pub part_low : (w : Data) → part_of at (G r) ≡ Some w → bindable (Some w) ≡ Some w
    pub none : (new : Data) → with_part at new (G r) ≡ None → bindable (with_content K g j (Some new) ch) ≡ None
    pub high : (new w : Data) → with_part at new (G r) ≡ Some w → can_stand (K.by_element g) w ≡ false → bindable (with_content K g j (Some new) ch) ≡ None
    pub change : (new w : Data) → with_part at new (G r) ≡ Some w → can_stand (K.by_element g) w ≡ true
        → (u : Data) × (bindable (with_content K g j (Some new) ch) ≡ Some u)
        × ((cs : List ChoiceMade) (ps : List Data) (p : Progress) → Related K rs at_start d ch cs ps p G → Related K rs at_start d ((g, u) ∷ ch) cs ps (becoming (K.by_element g) r w p) (put r w G))
    pub stays : (cs : List ChoiceMade) (ps : List Data) (p : Progress) → Related K rs at_start d ch cs ps p G → Related K rs at_start d ch cs ps (becoming (K.by_element g) r (G r) p) (put r (G r) G)

  -- there is no such element
  pub record Outside (g : Name) (j : Option Data) (ch : Vars) : Type 0 where
    pub trace : touched (K.by_element g) g j (content K g j ch) ≡ []
    pub content_is : content K g j ch ≡ None
    pub tree : (f : ℕ → Option Data → LeafTree) → accessing a g j f ≡ no_value

  pub record Inside (g : Name) (j : Option Data) (ch : Vars) (G : ℕ → Data) : Type 0 where
    pub r : ℕ
    pub at : Option Data
    pub tree : (f : ℕ → Option Data → LeafTree) → accessing a g j f ≡ f r at
    pub mapped : Mapped g j ch G r at

  abbrev pub IsMapped : Name → Option Data → Type 0
  IsMapped g j = IsWhole K rs at_start d g ⊎ (IsElements K rs at_start d g × ((i : Data) × (j ≡ Some i)))

  module _ (as_bound : AsBound K rs at_start d) where
    whole_inside : (g : Name) (j : Option Data) (ch : Vars) (cs : List ChoiceMade) (ps : List Data) (p : Progress) (G : ℕ → Data) → IsWhole K rs at_start d g → Related K rs at_start d ch cs ps p G → Inside g j ch G
    whole_inside g j ch cs ps p G is R =
        let by = is.0 in
        let r = is.1.0 in
        let num = is.1.1 in
        let w = R.whole g r num by in
        record {
          r = r;
          at = j;
          tree = λ f. ap (λ b. if b then on no_value j (λ i. with_value (number_among rs (g, Some i)) (λ r. f r None)) else with_whole a g (λ r. f r j)) by ∙ ap (λ o. with_value o (λ r. f r j)) num;
          mapped = record {
            event = (g, None);
            number = num;
            trace = ap (λ b. touched b g j (content K g j ch)) by;
            content_is = content_at j w.0;
            low = ap (λ b. can_stand b (G r)) by ∙ w.1;
            part_low = λ x e. bindable_low x (part_low j (G r) x e w.1);
            none = λ new e. ap bindable (content_with j new w.0 ∙ e);
            high = λ new x e high. ap bindable (content_with j new w.0 ∙ e) ∙ bindable_high x (sym (ap (λ b. can_stand b x) by) ∙ high);
            change = λ new x e low.
                let lower : nat_le (depth x) 2047 ≡ true = sym (ap (λ b. can_stand b x) by) ∙ low in
                (x, ap bindable (content_with j new w.0 ∙ e) ∙ bindable_low x lower, λ cs ps p h. whole_changed K rs at_start d as_bound g x r ch cs ps p G by num lower h);
            stays = λ cs ps p h. same_again K rs at_start d as_bound (g, None) r ch cs ps p G num by h;
          };
        }
      where
        content_at : (j : Option Data) {r : ℕ} → value_now K (Whole g) ch ≡ Some (G r) → content K g j ch ≡ part_of j (G r)
        content_at None e = e
        content_at (Some i) e = ap (option_and_then (λ f. apply f i)) e

        content_with : (j : Option Data) (new : Data) {r : ℕ} → value_now K (Whole g) ch ≡ Some (G r) → with_content K g j (Some new) ch ≡ with_part j new (G r)
        content_with None new e = refl
        content_with (Some i) new e = ap (λ o. put_part i o (Some new)) e

    element_at : (g : Name) (i : Data) (ch : Vars) (cs : List ChoiceMade) (ps : List Data) (p : Progress) (G : ℕ → Data) → IsElements K rs at_start d g → Related K rs at_start d ch cs ps p G → Outside g (Some i) ch ⊎ Inside g (Some i) ch G
    element_at g i ch cs ps p G is R = go (number_among rs (g, Some i)) refl (lookup i (graph E.pairs)) refl (E.each i)
      where
        E : Elements K rs at_start d g (value_now K (Whole g) ch) G
        E = R.elements g is

        content_at : content K g (Some i) ch ≡ lookup i (graph E.pairs)
        content_at = ap (option_and_then (λ f. apply f i)) E.is

        tree_at : (o : Option ℕ) → number_among rs (g, Some i) ≡ o → (f : ℕ → Option Data → LeafTree) → accessing a g (Some i) f ≡ with_value o (λ r. f r None)
        tree_at o e f = ap (λ b. if b then with_value (number_among rs (g, Some i)) (λ r. f r None) else with_whole a g (λ r. f r (Some i))) is.0 ∙ ap (λ o. with_value o (λ r. f r None)) e

        same_new : (new w : Data) → Some new ≡ Some w → new ≡ w
        same_new new w e = cc

        go : (o : Option ℕ) → number_among rs (g, Some i) ≡ o → (l : Option Data) → lookup i (graph E.pairs) ≡ l → Matches o l G → Outside g (Some i) ch ⊎ Inside g (Some i) ch G
        go None e None f m = inl (record {
          trace = (λ k. touched (is.0 k) g (Some i) ((content_at ∙ f) k));
          content_is = content_at ∙ f;
          tree = tree_at None e;
        })
        go None e (Some v) f m = absurd m
        go (Some r) e None f m = absurd m
        go (Some r) e (Some v) f m = inr (record {
          r = r;
          at = None;
          tree = tree_at (Some r) e;
          mapped = record {
            event = (g, Some i);
            number = e;
            trace = (λ k. touched (is.0 k) g (Some i) ((content_at ∙ f) k));
            content_is = content_at ∙ f ∙ ap Some m;
            low = ap (λ b. can_stand b (G r)) is.0 ∙ low;
            part_low = λ x q. bindable_low x (subst (λ z. nat_le (depth z) 2047 ≡ true) (same_new (G r) x q) lower);
            none = λ new q. absurd (let z : Some new ≡ None = q in grind (arith, z));
            high = λ new x q h.
                let at_x : nat_le (depth new) 2046 ≡ false = ap (λ z. nat_le (depth z) 2046) (same_new new x q) ∙ sym (ap (λ b. can_stand b x) is.0) ∙ h in
                ap (λ o. bindable (put_part i o (Some new))) E.is ∙ put_high i new v E.pairs f E.few at_x;
            change = λ new x q h.
                let new_x = same_new new x q in
                let at_x : nat_le (depth x) 2046 ≡ true = sym (ap (λ b. can_stand b x) is.0) ∙ h in
                let at_new : nat_le (depth new) 2046 ≡ true = ap (λ z. nat_le (depth z) 2046) new_x ∙ at_x in (
                  with_at i x E.pairs,
                  ap (λ o. bindable (put_part i o (Some new))) E.is ∙ put_low i new v E.pairs f E.few E.low at_new ∙ ap (λ z. Some (with_at i z E.pairs)) new_x,
                  λ cs ps p h. element_changed K rs at_start d as_bound g i x r ch cs ps p G is e at_x E h,
                );
            stays = λ cs ps p h. same_again K rs at_start d as_bound (g, Some i) r ch cs ps p G e is h;
          };
        })
          where
            under : depth v ≤ 2046
            under = lookup_low i v (graph E.pairs) 2046 f E.low

            low : nat_le (depth (G r)) 2046 ≡ true
            low = subst (λ z. nat_le (depth z) 2046 ≡ true) m (of_le (depth v) 2046 under)

            lower : nat_le (depth (G r)) 2047 ≡ true
            lower = let k = le_of (depth (G r)) 2046 low in of_le (depth (G r)) 2047 (omega (arith, k))

    pub mapped_at : (g : Name) (j : Option Data) (ch : Vars) (cs : List ChoiceMade) (ps : List Data) (p : Progress) (G : ℕ → Data) → IsMapped g j → Related K rs at_start d ch cs ps p G → Outside g j ch ⊎ Inside g j ch G
    mapped_at g j ch cs ps p G (inl is) R = inr (whole_inside g j ch cs ps p G is R)
    mapped_at g j ch cs ps p G (inr is) R =
        subst (λ j. Outside g j ch ⊎ Inside g j ch G) (sym is.1.1) (element_at g is.1.0 ch cs ps p G is.0 R)
