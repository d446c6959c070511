-- What a content with its resource's number shows, and a list of such contents.
use Rattle.std.specs.Prelude.{◌≡◌, ℕ, List, Some}
use Rattle.pgo_model.specs.Machine.{nth}
use Rattle.pgo_workers.specs.View.{Shown}
use Rattle.pgo_links.specs.declared.link.Link.{Link}

-- what is inside it, with another count and number
abbrev pub relabelled : ℕ → ℕ → Shown → Shown
relabelled count number s = record s { count = count; number = Some number }

-- a content with this number that was never pre-committed
abbrev pub numbered : ℕ → Shown → Shown
numbered number s = relabelled 0 number s

abbrev pub link_view : {R : Type 0} → (R → Shown) → Link R → Shown
link_view shows l = relabelled l.count l.number (shows l.inner)

-- each has the number of its place, and what is there is inside it
abbrev pub AreLinked : {R : Type 0} → (R → Shown) → List R → List (Link R) → Type 0
AreLinked {R} shows xs ls = (n : ℕ) (l : Link R) → nth ls n ≡ Some l → (x : R) × (nth xs n ≡ Some x) × (link_view shows l ≡ numbered n (shows x))
