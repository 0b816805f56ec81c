-- Cases that stand one behind the other.
use Rattle.std.specs.Prelude.{ℕ, List}

-- from the bytes s one comes to t by cases, where `follows s t` says that s starts with a case, and t follows it
pub data Leads (follows : List ℕ → List ℕ → Type 0) : List ℕ → List ℕ → Type 0 where
  here : (s : List ℕ) → Leads follows s s
  on : (s t u : List ℕ) → Leads follows s t → follows t u → Leads follows s u
