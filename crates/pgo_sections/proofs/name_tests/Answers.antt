use Rattle.pgo_sections.proofs.PlainTest.{code_sound, names_sound}
use Rattle.pgo_sections.proofs.name_tests.Goals as goal

pub returns-clause-code : goal.returns-clause-code
returns-clause-code c vs gs ps ws d h = code_sound vs gs ps ws d h

pub returns-clause-names : goal.returns-clause-names
returns-clause-names c vs gs os ps h = names_sound vs gs os ps h
