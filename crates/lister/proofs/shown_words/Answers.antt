-- `shown_words` stops at the last word whose normal form is not 0.
use mathlib.Core.Path.{sym}
use Rattle.std.proofs.Common.{rules}
use Rattle.lister.proofs.Laws.{shown_none, shown_to}
use Rattle.lister.proofs.shown_words.Goals as goal

pub returns-in-Some : goal.returns-in-Some
returns-in-Some c = sym (shown_to _ c.in-Some.last (search rules) (search rules) (search rules))

pub returns-in-None : goal.returns-in-None
returns-in-None c = sym (shown_none _ (search rules))
