-- The names that a written module has beside those of its specification, and those that mapping macros have.
use Rattle.std.specs.Prelude.{ℕ, ◌++◌, codes, decimal}
use Rattle.pgo_base.specs.Lookup.{Name}

abbrev pub pc : Name
pc = codes "pc"

abbrev pub self_name : Name
self_name = codes "self"

-- where an instance is once its body has ended
abbrev pub done : Name
done = codes "Done"

abbrev pub default_init_value : Name
default_init_value = codes "defaultInitValue"

abbrev pub proc_set : Name
proc_set = codes "ProcSet"

abbrev pub terminating : Name
terminating = codes "Terminating"

-- label or local l of process p
abbrev pub written : Name → Name → Name
written p l = p ++ codes "_" ++ l

-- the n-th name that the translation binds on a path; no identifier of a specification has two underscores
abbrev pub made : Name → ℕ → Name
made base n = base ++ codes "__" ++ decimal n

-- in a mapping macro's block: the content, and the value that is written
abbrev pub content_name : Name
content_name = codes "$variable"

abbrev pub value_name : Name
value_name = codes "$value"
