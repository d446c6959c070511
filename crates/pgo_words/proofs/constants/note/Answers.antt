use Rattle.std.proofs.Common.{ap, ◌∙◌}
use Rattle.std.specs.Prelude.{is_some}
use Rattle.pgo_base.specs.Lookup.{same_name}
use Rattle.pgo_model.specs.ValueText.{same_bytes}
use Rattle.pgo_base.specs.NameMaps.{found}
use Rattle.pgo_words.proofs.ConstantWords.{same_either, one_noted}
use Rattle.pgo_words.proofs.constants.note.Goals as goal

pub returns : goal.returns
returns c = λ x.
    let name = c.args.name.now in
    ap is_some (c.in_ok-set.ensures.noted x) ∙ one_noted (same_name x name) (same_bytes x name) tt (found c.args.names.now x) (same_either x name)
