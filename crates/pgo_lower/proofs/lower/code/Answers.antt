use Rattle.std.proofs.Common.{◌∙◌, List, Option, map, ap}
use Rattle.std.proofs.lemmas.Result.{IfOk-at_ok}
use Rattle.pgo_base.specs.Lookup.{Name}
use Rattle.pgo_meaning.specs.Parameters.{places_of}
use Rattle.pgo_meaning.specs.Sections.{sections_of}
use Rattle.pgo_code.specs.Steps.{Target}
use Rattle.pgo_lower.specs.Globals.{own_target}
use Rattle.pgo_lower.specs.Slots.{slot_views}
use Rattle.pgo_lower.proofs.AgreeLaws.{sections_there, variables_there}
use Rattle.pgo_lower.proofs.lower.code.Goals as goal

abbrev owns : List (Name × Target) → List (Name × Option Name)
owns qs = map {B = Name × Option Name} (λ q. (q.0, own_target q.1)) qs

pub returns : goal.returns
returns c =
    let b = c.args.globals.now.bound.now in
    let i = c.args.i.now in
    let p = c.in_ok-variables in
    record {
      variables = IfOk-at_ok _ p.ensures.first c.variables.ensures ∙ ap owns (ap slot_views (c.as_slice.ensures ∙ c.in_ok-slots.ensures) ∙ c.in_ok-slots_of.ensures) ∙ variables_there b (places_of i.process i.archetype i.bindings);
      sections = sections_there b i p.sections.items (sections_of b.spec.macros i.process i.archetype i.bindings) (IfOk-at_ok _ p.ensures.second c.sections_with-sections.ensures);
    }
