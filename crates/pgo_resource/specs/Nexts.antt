-- What comes next in a section.
use Rattle.std.specs.Prelude.{◌≡◌, ℕ, List}
use Rattle.pgo_base.specs.Data.{Data}
use Rattle.pgo_workers.specs.Walk.{Own, Walk, Stop, Touch, Goes, Sticks}
use Rattle.pgo_syntax.specs.RecordView.{kind_view}
use Rattle.pgo_resource.specs.declared.sections.NextEvent.{NextEvent}
use Rattle.pgo_resource.specs.declared.sections.NextEvent.TheVariants as events

abbrev pub StopsWith : Walk → Type 0
StopsWith w = (own : Own) × (prints : List Data) × (w ≡ Stop (Goes own prints))

abbrev pub Tells : Walk → NextEvent → Type 0
Tells w (events.Access r) = (leave : Data → Data) × (rest : Data → Walk) × (w ≡ Touch r leave rest)
Tells w events.Commit = StopsWith w
Tells w (events.Note kind) = w ≡ Stop (Sticks (kind_view kind))

-- an access leads on
abbrev pub LeadsOn : Walk → Walk → Data → Data → Type 0
LeadsOn w v old new = (r : ℕ) (leave : Data → Data) (rest : Data → Walk) → w ≡ Touch r leave rest → (new ≡ leave old) × (v ≡ rest old)

abbrev pub IsTouch : Walk → Type 0
IsTouch w = (r : ℕ) × (leave : Data → Data) × (rest : Data → Walk) × (w ≡ Touch r leave rest)
