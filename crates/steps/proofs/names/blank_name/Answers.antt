use Rattle.amount.specs.Canonical.{zeros}
use Rattle.book.specs.Book.{blank_book, blank_name}
use mathlib.Core.Path.{refl}
use Rattle.steps.proofs.names.blank_name.Goals as goal

pub returns : goal.returns
unfolding blank_book blank_name zeros
returns c = refl
