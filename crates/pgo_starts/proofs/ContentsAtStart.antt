-- Contents with what the start has at each resource fit it.
use Rattle.std.proofs.Common.{◌≡◌, inl, ℕ, zero, suc, List, [], ◌∷◌, length, map, Some, refl, sym, ap, ◌∙◌, arith}
use Rattle.std.proofs.lemmas.List.{length-map}
use Rattle.pgo_base.specs.Lookup.{Vars}
use Rattle.pgo_model.specs.Machine.{nth}
use Rattle.pgo_model.specs.System.{Resource}
use Rattle.pgo_resource.specs.PlainRows.{FitsStart}
use Rattle.pgo_workers.specs.Worlds.{Layout, value_in, or_nothing, component_of}
use Rattle.pgo_model.specs.Log.{content}
use Rattle.pgo_starts.specs.Contents.{cell_of}
use Rattle.pgo_starts.specs.ContentView.{content_shown}
use Rattle.pgo_starts.specs.declared.content.Content.{Content}

-- the content at a number is that of the resource there
at_number : (s : Vars) (cs : List Content) (rs : List Resource) (n : ℕ) (c : Content) → map content_shown cs ≡ map (cell_of s) rs → nth cs n ≡ Some c
    → (r : Resource) × (nth rs n ≡ Some r) × (content_shown c ≡ cell_of s r)
at_number s [] rs n c e h = absurd (grind (arith, h))
at_number s (x ∷ cs) [] n c e h = absurd (grind (arith, e))
at_number s (x ∷ cs) (r ∷ rs) zero c e h = let q : x ≡ c = grind (arith, h) in let f : content_shown x ≡ cell_of s r = grind (arith, e) in (r, refl, ap content_shown (sym q) ∙ f)
at_number s (x ∷ cs) (r ∷ rs) (suc n) c e h = let f : map content_shown cs ≡ map (cell_of s) rs = grind (arith, e) in at_number s cs rs n c f h

-- what is there by number
value_at : (y : Layout) (s : Vars) (n : ℕ) (r : Resource) → nth y.resources n ≡ Some r → or_nothing (content (component_of r.number (Some r)) s) ≡ value_in y s n
value_at y s n r h = sym (ap (λ o. or_nothing (content (component_of n o) s)) h)

pub contents_fit : (y : Layout) (cs : List Content) → map content_shown cs ≡ map (cell_of y.start) y.resources → FitsStart content_shown y cs
contents_fit y cs e n c h =
    let q = at_number y.start cs y.resources n c e h in
    let v = value_at y y.start n q.0 q.1 in
    (ap (λ s. s.base) q.2 ∙ v, ap (λ s. s.current) q.2 ∙ v, ap (λ s. s.count) q.2, inl (ap (λ s. s.number) q.2))

pub as_many : (y : Vars) (cs : List Content) (rs : List Resource) → map content_shown cs ≡ map (cell_of y) rs → length cs ≡ length rs
as_many y cs rs e = sym (length-map cs content_shown) ∙ ap length e ∙ length-map rs (cell_of y)
