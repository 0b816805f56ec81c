-- Laws of lists of tests with an amount or a next state behind them.
use mathlib.Core.Path.{◌≡◌, refl, ap, ◌∙◌}
use mathlib.Core.List.{List}
use Prim.Native.Nat.{ℕ}
use Rattle.amount.specs.declared.Amount.{Amount}
use Rattle.sheet.specs.Fields.{field, sight_of}
use Rattle.registry.specs.Readers.{amount_in}
use Rattle.registry.specs.Tests.{Test, first_of}
use Rattle.registry.specs.Refusals.{Outcome, Reading}
use Rattle.resource_state.specs.Next.{Gives, unless_refused, with_amount, amount_for, Next}
use Rattle.resource_state.specs.Helpers.{unless_failed, amount_over}
use Rattle.resource_state.specs.declared.ResourceState.{ResourceState}
use Rattle.std.specs.Prelude.{Ok, Err}

-- an amount that was read, put into a next state
with_amount_lem : (o : Outcome) (a : Amount) (make : Amount → ResourceState) → with_amount (unless_failed o a) make ≡ unless_refused o (Ok (make a))
with_amount_lem (Ok _) a make = refl
with_amount_lem (Err e) a make = refl

pub made_with : (s i : List ℕ) (tests : List Test) (g : Gives) (make : Amount → ResourceState) {q : Reading} {n : Next} → q ≡ amount_over s i tests g → n ≡ with_amount q make → n ≡ unless_refused (first_of s i tests) (Ok (make (amount_for amount_in (sight_of s) (field i) g)))
made_with s i tests g make e h =
    h ∙ ap (λ (r : Reading). with_amount r make) e ∙ with_amount_lem (first_of s i tests) (amount_for amount_in (sight_of s) (field i) g) make
