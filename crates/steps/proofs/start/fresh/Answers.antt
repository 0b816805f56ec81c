use Rattle.book.specs.Book.{blank_book, blank_place, blank_transfer}
use Rattle.steps.proofs.start.fresh.Goals as goal

pub returns : goal.returns
unfolding blank_book blank_place blank_transfer
returns c = cc c.blank_name.ensures
