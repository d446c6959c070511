use Rattle.pgo_bundle.proofs.PlaceLaws.{two_line, migrated_line}
use Rattle.pgo_bundle.proofs.untied_lines.Goals as goal

pub returns-clause-two : goal.returns-clause-two
returns-clause-two c = two_line

pub returns-clause-migrated : goal.returns-clause-migrated
returns-clause-migrated c = migrated_line
