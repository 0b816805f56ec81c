use Rattle.book.specs.Book.{blank_book, set_unit}
use Rattle.std.proofs.Common.{ap, ◌∙◌}
use Rattle.steps.proofs.Texts.{started}
use Rattle.steps.proofs.start.start_book.Goals as goal

pub returns : goal.returns
returns c = c.fresh.ensures ∙ ap (set_unit blank_book) c.short_name.ensures ∙ started _
