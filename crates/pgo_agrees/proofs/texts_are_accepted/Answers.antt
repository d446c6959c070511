use Rattle.pgo_agrees.proofs.OfText.{of_text}
use Rattle.pgo_agrees.proofs.texts_are_accepted.Goals as goal

pub returns-clause-of_text : goal.returns-clause-of_text
returns-clause-of_text c text s h = of_text text s h

pub returns-clause-accepted : goal.returns-clause-accepted
returns-clause-accepted c text s consts h names labels binding = record { of_text = of_text text s h; names = names; labels = labels; binding = binding }
