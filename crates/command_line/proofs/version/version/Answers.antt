use Rattle.command_line.proofs.Laws.Version.{version_answer}
use Rattle.command_line.proofs.version.version.Goals as goal

pub returns-clause-answer : goal.returns-clause-answer
returns-clause-answer c = λ files. version_answer files c.in_ok-text.text.items c.in_ok-text.ensures
