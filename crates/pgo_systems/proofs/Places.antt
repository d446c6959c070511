-- A section leaves each instance at a label of its process or at Done.
use Rattle.std.proofs.Common.{◌≡◌, ◌⊎◌, ℕ, Bool, true, false, List, Some, refl, sym, ap, ◌∙◌, subst}
use Rattle.std.proofs.lemmas.Option.{same_Some}
use Rattle.pgo_base.specs.Data.{Data}
use Rattle.pgo_base.specs.Lookup.{Name, Vars}
use Rattle.pgo_model.specs.Machine.{nth}
use Rattle.pgo_model.specs.Operators.{same_data}
use Rattle.pgo_model.specs.Outcome.{Next}
use Rattle.pgo_model.specs.System.{Words}
use Rattle.pgo_model.specs.Written.{done}
use Rattle.pgo_syntax.specs.declared.bound.Bound.{Bound}
use Rattle.pgo_syntax.specs.declared.bound.Instance.{Instance}
use Rattle.pgo_bound.specs.Lookups.{same_of}
use Rattle.pgo_bound.specs.Sound.{IsAtLabel, IsLabel, IsNumbered}
use Rattle.pgo_bound.specs.State.{IsState, id_of, identifiers}
use Rattle.pgo_meaning.specs.Sect.{context_of, Sect}
use Rattle.pgo_systems.specs.Premises.{AllAtLabels, EndsAtLabels}
use Rattle.pgo_systems.proofs.Jumping.{EndsAt, section_jumps}
use Rattle.pgo_systems.proofs.States.{from_label, identifier_there}

abbrev IsEnd : Instance → Name → Type 0
IsEnd i l = (l ≡ done) ⊎ IsLabel i l

module _ (b : Bound) (k : ℕ) (i : Instance) (at_k : nth b.instances k ≡ Some i) (s t : Vars) where
  ends_at : (d : Words) (prints : List Data) → IsState b s → EndsAtLabels b i → (Sect b k s d).end ≡ Next t prints → EndsAt (context_of b i s) (IsEnd i) t
  ends_at d prints is ends e =
      let f = from_label b k i s d t prints at_k e in
      section_jumps (IsEnd i) (context_of b i s) (identifiers b) is.places (identifier_there b k i at_k) f.code d t prints (ends f.label f.code f.there) f.ends

  pub at_label : (d : Words) (prints : List Data) → IsState b s → EndsAtLabels b i → (Sect b k s d).end ≡ Next t prints → IsAtLabel i t
  at_label d prints is ends e = let f = ends_at d prints is ends e in (f.label, f.here, f.meets)

  module _ (numbered : IsNumbered b) where
    same_instance : (n : ℕ) (j : Instance) → nth b.instances n ≡ Some j → id_of j ≡ id_of i → i ≡ j
    same_instance n j at_n e = let m = numbered.identifiers_differ n k j i at_n at_k e in same_Some i j (sym at_k ∙ ap (nth b.instances) (sym m) ∙ at_n)

    all_at : EndsAt (context_of b i s) (IsEnd i) t → AllAtLabels b s → AllAtLabels b t
    all_at e h n j at_n = go (same_data (id_of j) (id_of i)) refl
      where
        go : (c : Bool) → same_data (id_of j) (id_of i) ≡ c → IsAtLabel j t
        go true q = subst (λ (z : Instance). IsAtLabel z t) (same_instance n j at_n (same_of (id_of j) (id_of i) q)) (e.label, e.here, e.meets)
        go false q = let r = h n j at_n in (r.0, e.elsewhere (id_of j) q ∙ r.1, r.2)

    pub still_at_labels : (d : Words) (prints : List Data) → IsState b s → EndsAtLabels b i → (Sect b k s d).end ≡ Next t prints → AllAtLabels b s → AllAtLabels b t
    still_at_labels d prints is ends e h = all_at (ends_at d prints is ends e) h
