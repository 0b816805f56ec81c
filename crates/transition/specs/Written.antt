-- Document 01, section "Operations", the answer of apply and credit: 20 last; a refusal writes nothing, an accepted call the first bytes only.
use Rattle.std.specs.Prelude.{List, ℕ, ◌<◌, get_or, Option, Some, None, Ok, Err}
use Rattle.writer.specs.Encode.{put_into, put_answer}
use Rattle.sheet.specs.Fields.{field}
use Rattle.registry.specs.Refusals.{zero_amount, refusal_of}
use Rattle.registry.specs.declared.error.ProfileError.TheVariants.{Narrow}
use Rattle.registry.specs.declared.error.Answer.{Answer}
use Rattle.resource_state.specs.Next.{sheet_of, Next}
use Rattle.resource_state.specs.declared.ResourceState.{ResourceState}

-- accepted: the length written
abbrev pub written_of : ℕ → Answer
written_of n = record { number = 0; detail = 0; available = zero_amount; requested = zero_amount; length = n }

abbrev pub put_of : Option ℕ → Answer
put_of (Some n) = written_of n
put_of None = refusal_of Narrow

-- the answer, and the buffer at exit, of a next state whose texts stand in two sheets
abbrev pub state_answer : ResourceState → List ℕ → List ℕ → List ℕ → Answer
state_answer n s i old = put_of (put_answer (sheet_of (field s) (field i) n) old)

abbrev pub state_buffer : ResourceState → List ℕ → List ℕ → List ℕ → List ℕ
state_buffer n s i old = put_into (sheet_of (field s) (field i) n) old

unfoldable pub answer_to : Next → List ℕ → List ℕ → List ℕ → Answer
answer_to (Ok n) s i old = state_answer n s i old
answer_to (Err e) s i old = refusal_of e

unfoldable pub buffer_after : Next → List ℕ → List ℕ → List ℕ → List ℕ
buffer_after (Ok n) s i old = state_buffer n s i old
buffer_after (Err e) s i old = old

-- what every slice of bytes is: a premise of theorems
abbrev pub Bytes : List ℕ → Type 0
Bytes s = (k : ℕ) → get_or s k 0 < 256
