use Rattle.std.proofs.Common.{◌++◌, map, ap, ◌∙◌}
use Rattle.std.proofs.lemmas.Result.{IfOk-equal}
use Rattle.std.specs.Prelude.{codes}
use Rattle.std.specs.List.{flat_map}
use Rattle.pgo_pluscal.proofs.Added.{five, variables_line}
use Rattle.pgo_pluscal.specs.Text.{blanks, declaration_text}
use Rattle.pgo_pluscal.proofs.heads.push_some_variables.Goals as goal

pub returns : goal.returns
returns c =
    let first = declaration_text c.args.first.now in
    let rest = flat_map (λ y. codes ", " ++ y) (map declaration_text c.args.rest.now) in
    IfOk-equal c.push_words-2.result _ _ _ c.push_words-2.ensures
    (five c.args.bytes.now.items _ _ _ _ (blanks 1) (codes "variables ") first rest (codes ";\n") c.in_ok-push_blanks.ensures c.in_ok-push_words.ensures
    c.in_ok-push_declaration.ensures c.in_ok-push_declarations.ensures
    ∙ ap (λ l. c.args.bytes.now.items ++ l) (variables_line first rest))
