use Rattle.pgo_migrate.proofs.ReadBack.{read_back}
use Rattle.pgo_migrate.proofs.laws.migrations_are_read.Goals as goal

pub returns : goal.returns
returns c text m consts l b tied short =
    read_back text m consts l b tied short (c.canonical_modules_are_spelled.ensures m (c.spelled_modules_are_written.ensures b.form.module_text m b.form.spells) short)
