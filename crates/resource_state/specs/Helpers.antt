-- For the private functions of `resource_state`: an amount, or a next state, of two sheets where the tests are passed.
use Rattle.std.specs.Prelude.{List, ℕ, Ok, Err}
use Rattle.amount.specs.declared.Amount.{Amount}
use Rattle.sheet.specs.Fields.{field, sight_of}
use Rattle.registry.specs.Readers.{amount_in}
use Rattle.registry.specs.Tests.{Test, first_of}
use Rattle.registry.specs.Refusals.{Outcome, Reading}
use Rattle.resource_state.specs.Next.{Next, Gives, Makes, unless_refused, amount_for, made}

abbrev pub unless_failed : Outcome → Amount → Reading
unless_failed (Ok _) a = Ok a
unless_failed (Err e) a = Err e

abbrev pub amount_over : List ℕ → List ℕ → List Test → Gives → Reading
amount_over s i tests g = unless_failed (first_of s i tests) (amount_for amount_in (sight_of s) (field i) g)

abbrev pub next_over : List ℕ → List ℕ → List Test → Makes → Next
next_over s i tests m = unless_refused (first_of s i tests) (Ok (made amount_in (sight_of s) (field i) m))
