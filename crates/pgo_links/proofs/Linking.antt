-- Lists of links.
use Rattle.std.proofs.Common.{◌≡◌, inl, inr, ◌⊎◌, ℕ, List, [], ◌∷◌, ◌++◌, length, Some, sym, ap, subst, ◌∙◌}
use Rattle.pgo_links.specs.LinkView.{AreLinked, link_view, numbered}
use Rattle.pgo_links.specs.declared.link.Link.{Link}
use Rattle.pgo_model.specs.Machine.{nth}
use Rattle.pgo_model.specs.MachineLists.{nth_end, nth_last, nth_left}
use Rattle.pgo_resource.specs.PlainRows.{FitsStart}
use Rattle.pgo_workers.specs.View.{Shown}
use Rattle.pgo_workers.specs.Worlds.{Layout}

-- one more, at the end
pub linked_more : {R : Type 0} (shows : R → Shown) (xs : List R) (ls : List (Link R)) (x : R) (l : Link R) → length ls ≡ length xs → link_view shows l ≡ numbered (length ls) (shows x)
    → AreLinked shows xs ls → AreLinked shows (xs ++ x ∷ []) (ls ++ l ∷ [])
linked_more {R} shows xs ls x l many shown linked n k h = go (nth_end ls l n k h)
  where
    go : (nth ls n ≡ Some k) ⊎ ((n ≡ length ls) × (l ≡ k)) → (y : R) × (nth (xs ++ x ∷ []) n ≡ Some y) × (link_view shows k ≡ numbered n (shows y))
    go (inl e) = let q = linked n k e in (q.0, nth_left xs (x ∷ []) n q.0 q.1, q.2)
    go (inr e) = (x, ap (nth (xs ++ x ∷ [])) (e.0 ∙ many) ∙ nth_last xs x, ap (link_view shows) (sym e.1) ∙ shown ∙ ap (λ m. numbered m (shows x)) (sym e.0))

-- contents as a run starts, in links
pub links_fit : {R : Type 0} (shows : R → Shown) (y : Layout) (xs : List R) (ls : List (Link R)) → AreLinked shows xs ls → FitsStart shows y xs → FitsStart (link_view shows) y ls
links_fit shows y xs ls linked fit n l h =
    let q = linked n l h in let f = fit n q.0 q.1 in
    (ap (λ s. s.base) q.2 ∙ f.0, ap (λ s. s.current) q.2 ∙ f.1, ap (λ s. s.count) q.2, inr (ap (λ s. s.number) q.2))

-- each has the number of its place
pub links_numbered : {R : Type 0} (shows : R → Shown) (xs : List R) (ls : List (Link R)) → AreLinked shows xs ls → (n : ℕ) (l : Link R) → nth ls n ≡ Some l → (link_view shows l).number ≡ Some n
links_numbered shows xs ls linked n l h = ap (λ s. s.number) (linked n l h).2
