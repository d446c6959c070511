-- Whether a block is among frames, in whatever order they stand.
use Rattle.std.proofs.Common.{◌≡◌, ◌∙◌, ℕ, true, false, List, [], ◌∷◌, ◌++◌, Option, Some, None, refl, ap, subst, sym}
use Rattle.pgo_model.specs.Options.{on}
use Rattle.std.specs.Prelude.{reverse}
use Rattle.std.proofs.lemmas.List.{reverse-append}
use Rattle.pgo_base.specs.Tree.{Tree}
use Rattle.pgo_base.specs.Lookup.{Name}
use Rattle.pgo_sections.specs.Expand.{Current, nowhere, settled}
use Rattle.pgo_sections.specs.Expansion.{End}
use Rattle.pgo_walk.specs.declared.frames.Frame.{Frame}
use Rattle.pgo_walk.specs.FrameView.{frames_view, frame_view}
use Rattle.pgo_walk.specs.Frames as spec
use Rattle.pgo_walk.specs.Frames.{has_block}

one_more : (f : spec.Frame) (fs gs : List spec.Frame) → has_block fs ≡ has_block gs → has_block (f ∷ fs) ≡ has_block (f ∷ gs)
one_more (spec.Run ps c ren) fs gs e = e
one_more (spec.Reading w g i ps c ren cur) fs gs e = refl
one_more (spec.Writing g i ren cur) fs gs e = refl
one_more (spec.Put g i ren t) fs gs e = e

more_before : (f : spec.Frame) (fs : List spec.Frame) → has_block fs ≡ true → has_block (f ∷ fs) ≡ true
more_before (spec.Run ps c ren) fs e = e
more_before (spec.Reading w g i ps c ren cur) fs e = refl
more_before (spec.Writing g i ren cur) fs e = refl
more_before (spec.Put g i ren t) fs e = e

pub last_is_block : (xs : List Frame) (x : Frame) → has_block (frame_view x ∷ []) ≡ true → has_block (frames_view (xs ++ x ∷ [])) ≡ true
last_is_block [] x e = e
last_is_block (y ∷ ys) x e = more_before (frame_view y) (frames_view (ys ++ x ∷ [])) (last_is_block ys x e)

pub last_is_none : (xs : List Frame) (x : Frame) → has_block (frame_view x ∷ []) ≡ false → has_block (frames_view (xs ++ x ∷ [])) ≡ has_block (frames_view xs)
last_is_none [] x e = e
last_is_none (y ∷ ys) x e = one_more (frame_view y) (frames_view (ys ++ x ∷ [])) (frames_view ys) (last_is_none ys x e)

pub found_block : (xs rest : List Frame) (x : Frame) → xs ≡ x ∷ rest → has_block (frame_view x ∷ []) ≡ true → has_block (frames_view (reverse xs)) ≡ true
found_block xs rest x e h = ap (λ ys. has_block (frames_view (reverse ys))) e ∙ ap (λ ys. has_block (frames_view ys)) (reverse-append (x ∷ []) rest) ∙ last_is_block (reverse rest) x h

pub passed_frame : (xs rest : List Frame) (x : Frame) → xs ≡ x ∷ rest → has_block (frame_view x ∷ []) ≡ false
    → has_block (frames_view (reverse xs)) ≡ has_block (frames_view (reverse rest))
passed_frame xs rest x e h = ap (λ ys. has_block (frames_view (reverse ys))) e ∙ ap (λ ys. has_block (frames_view ys)) (reverse-append (x ∷ []) rest) ∙ last_is_none (reverse rest) x h

pub jump_in_block : (vs : List Name) (fs : List spec.Frame) (l : Name) (cur : Current) (n : ℕ) → has_block fs ≡ true → spec.jumps vs fs l cur n ≡ nowhere
jump_in_block vs [] l cur n e = absurd (let p : false ≡ true = e in cc)
jump_in_block vs (spec.Run ps c ren ∷ fs) l cur n e = jump_in_block vs fs l cur n e
jump_in_block vs (spec.Reading w g i ps c ren before ∷ fs) l cur n e = refl
jump_in_block vs (spec.Writing g i ren before ∷ fs) l cur n e = refl
jump_in_block vs (spec.Put g i ren t ∷ fs) l cur n e = jump_in_block vs fs l cur n e

pub jump_ends : (vs : List Name) (fs : List spec.Frame) (l : Name) (cur : Current) (n : ℕ) → has_block fs ≡ false → spec.jumps vs fs l cur n ≡ End (settled vs cur) l
jump_ends vs [] l cur n e = refl
jump_ends vs (spec.Run ps c ren ∷ fs) l cur n e = jump_ends vs fs l cur n e
jump_ends vs (spec.Reading w g i ps c ren before ∷ fs) l cur n e = absurd (let p : true ≡ false = e in cc)
jump_ends vs (spec.Writing g i ren before ∷ fs) l cur n e = absurd (let p : true ≡ false = e in cc)
jump_ends vs (spec.Put g i ren t ∷ fs) l cur n e = jump_ends vs fs l cur n e

pub no_yields : (vs : List Name) (fs : List spec.Frame) (e : Tree) (cur : Current) (n : ℕ) → None ≡ spec.block_in fs → spec.yields vs fs e cur n ≡ nowhere
no_yields vs [] e cur n h = refl
no_yields vs (spec.Run ps c ren ∷ fs) e cur n h = no_yields vs fs e cur n h
no_yields vs (spec.Reading w g i ps c ren before ∷ fs) e cur n h = absurd (let p : ◌≡◌ {A = Option (spec.Frame × List spec.Frame)} None (Some (spec.Reading w g i ps c ren before, fs)) = h in cc)
no_yields vs (spec.Writing g i ren before ∷ fs) e cur n h = absurd (let p : ◌≡◌ {A = Option (spec.Frame × List spec.Frame)} None (Some (spec.Writing g i ren before, fs)) = h in cc)
no_yields vs (spec.Put g i ren t ∷ fs) e cur n h = no_yields vs fs e cur n h

-- the innermost block's frame f, and those behind it
pub record Found (vs : List Name) (fs : List spec.Frame) (f : spec.Frame) (gs : List spec.Frame) : Type 0 where
  pub block : has_block (f ∷ []) ≡ true
  pub same : (e : Tree) (cur : Current) (n : ℕ) → spec.yields vs fs e cur n ≡ spec.yields vs (f ∷ gs) e cur n

-- f and gs, read off an equation of options
found_as : (vs : List Name) (ks : List spec.Frame) (b : spec.Frame) (fs : List spec.Frame) (f : spec.Frame) (gs : List spec.Frame)
    → ◌≡◌ {A = Option (spec.Frame × List spec.Frame)} (Some (f, gs)) (Some (b, fs)) → has_block (b ∷ []) ≡ true → ((e : Tree) (cur : Current) (n : ℕ) → spec.yields vs ks e cur n ≡ spec.yields vs (b ∷ fs) e cur n)
    → Found vs ks f gs
found_as vs ks b fs f gs h is same =
    subst (λ (q : spec.Frame × List spec.Frame). Found vs ks q.0 q.1) (ap (λ (o : Option (spec.Frame × List spec.Frame)). on {A = spec.Frame × List spec.Frame} (b, fs) o (λ q. q)) (sym h)) (record { block = is; same = same })

pub found_block_in : (vs : List Name) (fs : List spec.Frame) (f : spec.Frame) (gs : List spec.Frame) → ◌≡◌ {A = Option (spec.Frame × List spec.Frame)} (Some (f, gs)) (spec.block_in fs) → Found vs fs f gs
found_block_in vs [] f gs h = absurd (let p : ◌≡◌ {A = Option (spec.Frame × List spec.Frame)} (Some (f, gs)) None = h in cc)
found_block_in vs (spec.Run ps c ren ∷ fs) f gs h = let r = found_block_in vs fs f gs h in record { block = r.block; same = r.same }
found_block_in vs (spec.Reading w g i ps c ren before ∷ fs) f gs h =
    found_as vs (spec.Reading w g i ps c ren before ∷ fs) (spec.Reading w g i ps c ren before) fs f gs h refl (λ e cur n. refl)
found_block_in vs (spec.Writing g i ren before ∷ fs) f gs h = found_as vs (spec.Writing g i ren before ∷ fs) (spec.Writing g i ren before) fs f gs h refl (λ e cur n. refl)
found_block_in vs (spec.Put g i ren t ∷ fs) f gs h = let r = found_block_in vs fs f gs h in record { block = r.block; same = r.same }
