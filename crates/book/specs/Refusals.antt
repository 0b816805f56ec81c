-- Document 01, the refusal table, and document 02, requests 2 and 5: the number, the detail and the two amounts of each answer of the book.
use Rattle.registry.specs.Refusals as profile
use Rattle.registry.specs.declared.error.Answer.{Answer}
use Rattle.book.specs.declared.error.BookError.{BookError}
use Rattle.book.specs.declared.error.BookError.TheVariants.{Profile, UnderWay, OffTheBook, Idle, Itself, TooMuch, OtherUnit, LongName, BadBook, NotEmpty, Awaited, NotReserved}
use Rattle.std.specs.Prelude.{Result, Ok, Err}

-- what a step says
abbrev pub BookOutcome : Type 0
BookOutcome = Result (Unit {0}) BookError

-- detail: the name of the text that is too long; 0 unless named
abbrev pub book_refusal_of : BookError → Answer
book_refusal_of (Profile e) = profile.refusal_of e
book_refusal_of UnderWay = profile.numbered 21 0
book_refusal_of OffTheBook = profile.numbered 22 0
book_refusal_of Idle = profile.numbered 23 0
book_refusal_of Itself = profile.numbered 24 0
book_refusal_of TooMuch = profile.numbered 25 0
book_refusal_of OtherUnit = profile.numbered 26 0
book_refusal_of (LongName name) = profile.numbered 27 name
book_refusal_of BadBook = profile.numbered 28 0
book_refusal_of NotEmpty = profile.numbered 29 0
book_refusal_of Awaited = profile.numbered 30 0
book_refusal_of NotReserved = profile.numbered 31 0

-- 0 is accepted; a step writes no sheet, so its length is 0
abbrev pub book_answer_of : BookOutcome → Answer
book_answer_of (Ok _) = profile.numbered 0 0
book_answer_of (Err e) = book_refusal_of e
