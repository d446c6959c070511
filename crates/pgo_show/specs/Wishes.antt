-- What words ask for, and what is made of a bundle for it.
use Rattle.std.specs.Prelude.{◌≡◌, ℕ, if◌then◌else◌, List, [], ◌∷◌, codes, Option, Some, None}
use Rattle.pgo_bundle.specs.BundleLog.{BundleLog}
use Rattle.pgo_model.specs.Module.{Module}
use Rattle.pgo_model.specs.ModuleText.{Line}
use Rattle.pgo_model.specs.ValueText.{same_bytes}
use Rattle.pgo_show_changes.specs.Changes.{changes_lines}
use Rattle.pgo_show_picture.specs.Picture.{picture_lines}
use Rattle.pgo_show_text.specs.Shown.{shown_lines}
use Rattle.pgo_show.specs.declared.wish.Request.{Request}
use Rattle.pgo_show.specs.declared.wish.Request.TheVariants as requests

-- the text that explains a bundle, its picture, or the values of one component
pub data Wish : Type 0 where
  Explanation : Wish
  Picture : Wish
  Changes : (component : List ℕ) → Wish

-- no words; `--svg`; `--changes` and a component
abbrev pub asked : List (List ℕ) → Option Wish
asked [] = Some Explanation
asked (w ∷ []) = if same_bytes w (codes "--svg") then Some Picture else None
asked (w ∷ (c ∷ [])) = if same_bytes w (codes "--changes") then Some (Changes c) else None
asked (w ∷ (c ∷ (x ∷ xs))) = None

-- a wish as it lies in memory
abbrev pub wish_of : Request → Wish
wish_of requests.Explanation = Explanation
wish_of requests.Picture = Picture
wish_of (requests.Changes w) = Changes w.now

-- the lines that are asked for; none, where the log has no such component
abbrev pub lines_asked : Wish → Module → BundleLog → Option (List Line)
lines_asked Explanation m l = Some (shown_lines m l)
lines_asked Picture m l = Some (picture_lines l)
lines_asked (Changes c) m l = changes_lines c l

-- a component is asked for that the log doesn't have
abbrev pub IsLacking : Wish → BundleLog → Type 0
IsLacking Explanation l = ⊥
IsLacking Picture l = ⊥
IsLacking (Changes c) l = changes_lines c l ≡ None

-- the component that is asked for
abbrev pub component_of : Wish → List ℕ
component_of Explanation = []
component_of Picture = []
component_of (Changes c) = c

abbrev pub component_asked : Option Wish → List ℕ
component_asked None = []
component_asked (Some w) = component_of w
