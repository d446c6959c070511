use Rattle.std.proofs.Common.{ap, sym, ◌∙◌}
use Rattle.std.specs.Prelude.{filter, option_map}
use Rattle.pgo_syntax.specs.declared.process.MappingClause.{MappingClause}
use Rattle.pgo_bound.specs.Runs.{is_of_number, is_of_name, speaking}
use Rattle.pgo_heads.specs.Spoken.{first_of, spoken_view}
use Rattle.pgo_heads.proofs.SpokenLaws.{by_name_alone}
use Rattle.pgo_heads.proofs.mapping_clauses.MappingClauses.speaking.Goals as goal

pub returns-in-None : goal.returns-in-None
returns-in-None c =
    let list = c.self.inside.list.now in
    let none = sym (c.self.invariant.0 c.args.number) ∙ ap (option_map spoken_view) (sym c.get.ensures ∙ c.in-None.is) in
    ap (option_map spoken_view) (c.copied.ensures ∙ c.get-in-None.ensures)
    ∙ c.self.invariant.1 c.args.global.now
    ∙ sym (by_name_alone (filter (λ (k : MappingClause). is_of_number c.args.number k.target) list) (filter (λ (k : MappingClause). is_of_name c.args.global.now k.target) list) none)
    ∙ ap (λ cs. first_of (speaking c.args.number c.args.global.now cs)) c.self.view_is
