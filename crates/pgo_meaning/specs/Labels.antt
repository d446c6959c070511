-- The section of each label among statements: what is done from there up to the next label that is reached.
use Rattle.std.specs.Prelude.{List, [], ◌∷◌, ◌++◌, Option, Some, None}
use Rattle.pgo_base.specs.Lookup.{Name}
use Rattle.pgo_syntax.specs.Statement.{Statement, skip, assign, if_then, if_else, while_do, either_of, await_that, with_in, print_out, assert_that, go_to, call_macro, yield_as, block, Statements, no_statements, more_statements, LabeledStatements, no_labeled, more_labeled, GuardedStatements, no_guarded, more_guarded}
use Rattle.pgo_syntax.specs.declared.name.PlacedName.{PlacedName}
use Rattle.pgo_sections.specs.Code.{Code, Seq, Goto}
use Rattle.pgo_meaning.specs.Statements.{Setting, label_of, code, in_order}

module _ (s : Setting) where
  -- the section of a label, where c follows its statement; none where there is no label
  abbrev pub own : Option PlacedName → Statement → Code → List (Name × Code)
  own None t c = []
  own (Some x) t c = (label_of s.process x.name, Seq (code s (label_of s.process x.name) t) c) ∷ []

  -- the label, or else that of the last one above
  abbrev pub labelled : Name → Option PlacedName → Name
  labelled l None = l
  labelled l (Some x) = label_of s.process x.name

  abbrev mutual
    -- the sections of the labels in a statement; c is what follows it, and l the label of the last one above, which is that of a
    -- `while`
    pub within : Name → Statement → Code → List (Name × Code)
    within l (skip p) c = []
    within l (assign p as') c = []
    within l (if_then p bs) c = within_branches l bs c
    within l (if_else p bs t) c = within_branches l bs c ++ within l t c
    within l (while_do p e t) c = within l t (Goto l)
    within l (either_of p ts) c = within_arms l ts c
    within l (await_that p e) c = []
    within l (with_in p ws t) c = within l t c
    within l (print_out p e) c = []
    within l (assert_that p e) c = []
    within l (go_to p x) c = []
    within l (call_macro p m es) c = []
    within l (yield_as p e) c = []
    within l (block p ls) c = within_order l ls c

    pub within_branches : Name → GuardedStatements → Code → List (Name × Code)
    within_branches l no_guarded c = []
    within_branches l (more_guarded p e t bs) c = within l t c ++ within_branches l bs c

    pub within_arms : Name → Statements → Code → List (Name × Code)
    within_arms l no_statements c = []
    within_arms l (more_statements t ts) c = within l t c ++ within_arms l ts c

    pub within_order : Name → LabeledStatements → Code → List (Name × Code)
    within_order l no_labeled c = []
    within_order l (more_labeled x t ls) c =
        own x t (Seq (in_order s l ls) c) ++ within (labelled l x) t (Seq (in_order s l ls) c) ++ within_order l ls c
