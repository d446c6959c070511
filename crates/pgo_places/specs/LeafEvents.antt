-- The next event of a leaf, and where an access leads.
use Rattle.std.specs.Prelude.{◌≡◌, ℕ, List}
use Rattle.pgo_base.specs.Data.{Data}
use Rattle.pgo_syntax.specs.RecordView.{kind_view}
use Rattle.pgo_sections.specs.SectionRun.{ChoiceMade}
use Rattle.pgo_workers.specs.Tried.{Leads, LeafTree}
use Rattle.pgo_workers.specs.Walk.{Own, Stop, Touch, Goes}
use Rattle.pgo_resource.specs.Picked.{choices_of, attempt_words}
use Rattle.pgo_resource.specs.declared.sections.NextEvent.{NextEvent}
use Rattle.pgo_resource.specs.declared.sections.NextEvent.TheVariants as events
use Rattle.pgo_accesses.specs.Accesses.{stuck}
use Rattle.pgo_places.specs.declared.place.Place.{Place}

-- the choices that were made at a place, the newest first
abbrev pub points_at : Place → List ChoiceMade
points_at q = choices_of q.stand.picks

abbrev pub IsLeafTouch : LeafTree → Type 0
IsLeafTouch w = (r : ℕ) × (leave : Data → Data) × (rest : Data → LeafTree) × (w ≡ Touch r leave rest)

abbrev pub IsLeafEnd : LeafTree → Type 0
IsLeafEnd w = (own : Own) × (prints : List Data) × (w ≡ Stop (Leads (Goes own prints)))

-- behind the choices cs
abbrev pub LeafTells : (cs : List ChoiceMade) → LeafTree → NextEvent → Type 0
LeafTells cs w (events.Access r) = (leave : Data → Data) × (rest : Data → LeafTree) × (w ≡ Touch r leave rest)
LeafTells cs w events.Commit = IsLeafEnd w
LeafTells cs w (events.Note kind) = w ≡ Stop (stuck (kind_view kind) cs)

abbrev pub LeafLeadsOn : LeafTree → LeafTree → Data → Data → Type 0
LeafLeadsOn w v old new = (r : ℕ) (leave : Data → Data) (rest : Data → LeafTree) → w ≡ Touch r leave rest → (new ≡ leave old) × (v ≡ rest old)

-- the same section of the same attempt
abbrev pub Kept : (old new : Place) → Type 0
Kept old new = (new.instance ≡ old.instance) × (new.section ≡ old.section) × (new.fixed ≡ old.fixed) × (attempt_words new.stand.picks ≡ attempt_words old.stand.picks)
