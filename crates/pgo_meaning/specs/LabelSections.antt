-- What the rules on labels give, so that the sections of a process are those of its labels.
use Rattle.std.specs.Prelude.{◌≡◌, ℕ, false, List, [], Some}
use Rattle.std.specs.List.{AllByRecursion}
use Rattle.pgo_base.specs.Lookup.{Name, same_name}
use Rattle.pgo_model.specs.Machine.{nth}
use Rattle.pgo_model.specs.Written.{done}
use Rattle.pgo_syntax.specs.Statement.{labeled}
use Rattle.pgo_syntax.specs.declared.bound.Instance.{Instance}
use Rattle.pgo_syntax.specs.declared.macros.Macro.{Macro}
use Rattle.pgo_bound.specs.Sound.{labels_among}

-- no label stands in a macro
abbrev pub AreUnlabelled : List Macro → Type 0
AreUnlabelled ms = AllByRecursion (λ m. labels_among (labeled m.body) ≡ []) ms

-- no label of the instance's process has the name `Done`
abbrev pub NoneIsDone : Instance → Type 0
NoneIsDone i = (n : ℕ) (x : Name) → nth (labels_among (labeled i.archetype.body)) n ≡ Some x → same_name x done ≡ false
