-- What an accepted step of each kind leaves, stored, is its effect; and what the code needs to know of it, on any book value.
use mathlib.Core.Path.{◌≡◌, refl, sym, ap, ◌∙◌}
use mathlib.Core.Bool.{Bool, true, false, ◌||◌}
use mathlib.Core.List.{List}
use Prim.Native.Nat.{ℕ, ◌+◌, ◌-◌, ◌%◌, ◌^◌, ◌≤◌, ◌<◌}
use native.Mathlib.Nat.{mod-eq_of_lt}
use native.Mathlib.Omega.{arith}
use lib.Dec.{leb}
use lib.ListN.{length}
use borrow.Author.Tests.{le-leb, leb-false}
use Rattle.amount.specs.Numbers.{val, limit, halves}
use Rattle.amount.specs.declared.uint128.Uint128.{Uint128}
use Rattle.amount.proofs.Halves.{wrapped_sum}
use Rattle.registry.specs.Refusals.{zero_amount}
use Rattle.sheet.specs.Fields.{subject, balance, amount}
use Rattle.book.specs.Sets.{with_bit}
use Rattle.book.specs.Book.{whole_amount, set_balance, place_record, transfer_record, credits, total, is_well_formed, blank_place, blank_transfer, open_place, close_place, set_record, set_transfer}
use Rattle.book.specs.Steps.{Open, Act, Begin, Close, credits_in, bytes_in, doing, changed, Seen, seen, tests_of, tests_finish, answer, landed, act_on, effect, held_at, flow, Neither}
use Rattle.book.specs.declared.Book.{Book}
use Rattle.book.proofs.Facts.{or_l, or_r, acts_so, begins, Opens, opens, closes, accepted_tests}
use Rattle.book.proofs.Formed.{formed}
use Rattle.book.proofs.Views.{home}
use Rattle.book.proofs.Endings.{ending as book_ending, end, Ended, ended, lands}
use Rattle.book.proofs.Acts.{aside_apart}
use Rattle.book.proofs.Effects.{stock_part, end_fits}
use Rattle.steps.specs.Turn.{with_sheet, ending, short_name, whole_of, Shows, stored_at, stored}
use Rattle.steps.specs.declared.step.Step.TheVariants as Code
use Rattle.steps.specs.declared.step.View.{View}
use Rattle.audit.proofs.Sums.{place_in}
use Rattle.steps.proofs.Tested.{Here}
use Rattle.steps.proofs.Looks.{transfer_low, place_low}
use Rattle.steps.proofs.Turned.{carried_back, reserved_whole, stored_whole}
use Rattle.std.specs.Prelude.{Option, Ok}

-- ---- the views that are left

-- what is held is h, what is reserved r, and the total n
abbrev pub holding : View → Uint128 → Uint128 → Option Uint128 → View
holding x h r n =
    record { held = h; reserved = r; carried = x.carried; total = n; opened = x.opened; pending = x.pending; awaited = x.awaited; from = x.from; to = x.to; named = x.named }

-- with nothing reserved, and the open places are k
abbrev pub opening : View → Uint128 → Option Uint128 → ℕ → View
opening x h n k =
    record { held = h; reserved = zero_amount.mantissa; carried = x.carried; total = n; opened = k; pending = x.pending; awaited = x.awaited; from = x.from; to = x.to; named = x.named }

-- what is held is h, and the transfer goes from f to g with c
abbrev pub moving : View → Uint128 → Uint128 → ℕ → ℕ → ℕ → View
moving x h c f g k =
    record { held = h; reserved = x.reserved; carried = c; total = x.total; opened = x.opened; pending = k; awaited = x.awaited; from = f; to = g; named = x.named }

-- ---- finish and cancel

-- they are the book's ends, and what they share: the tests, that they issue and take nothing, and, with the end where the credits land, what
-- they look at and store
module _ (t : ℕ) (i : List ℕ) where
  ending_is : (back : Bool) → with_sheet (ending t back) i ≡ book_ending t back
  ending_is true = refl
  ending_is false = refl

  pub ending_tests : (back : Bool) (s : Seen) → tests_of s (with_sheet (ending t back) i) ≡ tests_finish s t
  ending_tests true s = refl
  ending_tests false s = refl

  pub ending_flow : (back : Bool) → flow (with_sheet (ending t back) i) ≡ Neither
  ending_flow true = refl
  ending_flow false = refl

  ending_looks : (back : Bool) {b : Book} {x : View} → Shows b (ending t back) x
      → let r = place_record b (home back (transfer_record b (t % 8)) % 16) in
      (x.held ≡ r.balance.mantissa) × (x.reserved ≡ r.reserved.mantissa) × (x.carried ≡ (transfer_record b (t % 8)).amount.mantissa)
  ending_looks true v = (v.held, v.reserved, v.carried)
  ending_looks false v = (v.held, v.reserved, v.carried)

  ending_stored : (back : Bool) (b : Book) (y : View)
      → let p = home back (transfer_record b (t % 8)) % 16 in stored b (ending t back) i (Ok y) ≡ stored_at b p (t % 8) (place_record b p).subject y
  ending_stored true b y = refl
  ending_stored false b y = refl

module _ (b : Book) (t : ℕ) (i : List ℕ) (back : Bool) (h : answer b (with_sheet (ending t back) i) ≡ Ok tt) (w : b.opened < 2 ^ 16) where
  told : Ended b t back
  told = ended b t back (rw (← ending_is t i back) h)

  room : (end b t back < 16) × (held_at b (end b t back) + credits (transfer_record b t).amount < limit)
  room = end_fits b t back w told

  pub stored_end : (x : View) (m : Uint128) (n : ℕ) → Shows b (ending t back) x
      → m ≡ halves ((val x.held + val x.carried) % limit) → n ≡ with_bit x.pending (t % 8) 0
      → stored b (ending t back) i (Ok (moving x m zero_amount.mantissa 0 0 n)) ≡ effect b (with_sheet (ending t back) i)
  unfolding set_transfer set_record blank_transfer
  stored_end x m n v e k =
      let g : ℕ = end b t back in
      let same : t % 8 ≡ t = mod-eq_of_lt told.facts.low in
      let there : g % 16 ≡ g = mod-eq_of_lt room.0 in
      let looks = ending_looks t i back v in
      let held : val x.held ≡ held_at b g = ap val looks.0 ∙ rw (same, there) in
      let carried : val x.carried ≡ credits (transfer_record b t).amount = ap val looks.2 ∙ rw same in
      let sound = (accepted_tests b (with_sheet (ending t back) i) h).0 in
      let kept : whole_of x.reserved ≡ (place_record b g).reserved = reserved_whole b sound g room.0 (looks.1 ∙ rw (same, there)) in
      let sum : m ≡ halves (held_at b g + credits (transfer_record b t).amount) = wrapped_sum _ _ (e ∙ rw (held, carried)) room.1 in
      let y : View = moving x m zero_amount.mantissa 0 0 n in
      let stores : stored_at b g t (place_record b g).subject y ≡ landed b t g =
      stored_whole b g t _ y sound room.0 told.facts.low ∙ rw (sum, k, v.opened, v.pending, same, kept) in
      ending_stored t i back b y ∙ (let z : stored_at b (home back (transfer_record b (t % 8)) % 16) (t % 8) (place_record b (home back (transfer_record b (t % 8)) % 16)).subject y ≡ landed b t g = rw (same, there) stores in z)
      ∙ sym (ap (effect b) (ending_is t i back) ∙ lands b t back)

-- ---- act

-- a place holds and has reserved no more than there is
pub stock_within : (b : Book) (p : ℕ) → is_well_formed b ≡ true → p < 16 → Here b p → held_at b p + credits (place_record b p).reserved ≤ total b
unfolding total
stock_within b p w low h = omega (arith, stock_part b (formed b w) p low (rw (place_in b p h)))

module _ (b : Book) (p o : ℕ) (i : List ℕ) (h : answer b (Act p o i) ≡ Ok tt) where
  pub stored_act : (x : View) (m r : Uint128) (n : Option Uint128) → Shows b (Code.Act p o) x → m ≡ halves (changed o (held_at b p) (credits_in amount i))
      → whole_of r ≡ (act_on o (credits_in amount i) (place_record b p)).reserved
      → stored b (Code.Act p o) i (Ok (holding x m r n)) ≡ effect b (Act p o i)
  unfolding set_record
  stored_act x m r n v e k =
      let low = (acts_so (seen b) p o i (accepted_tests b (Act p o i) h).1).low in
      let sound = (accepted_tests b (Act p o i) h).0 in
      let same : p % 16 ≡ p = mod-eq_of_lt low in
      let v' : ℕ = credits_in amount i in
      let apart = aside_apart v' (set_balance (place_record b p) (whole_amount (changed o (held_at b p) v'))) (doing o) in
      let left : act_on o v' (place_record b p) ≡ record { subject = (place_record b p).subject; balance = whole_amount (changed o (held_at b p) v'); reserved = (act_on o v' (place_record b p)).reserved } =
      λ j. record { subject = apart.0 j; balance = apart.1 j; reserved = (act_on o v' (place_record b p)).reserved } in
      stored_whole b _ _ _ _ sound (place_low (Code.Act p o) 0 0 refl) (transfer_low (Code.Act p o) refl)
      ∙ rw (carried_back v sound, e, k, v.opened, v.pending, same) (ap (set_record b p) (sym left))

-- ---- open

module _ (b : Book) (p : ℕ) (i : List ℕ) (h : answer b (Open p i) ≡ Ok tt) where
  opens_so : Opens (seen b) p i
  opens_so = opens (seen b) p i (accepted_tests b (Open p i) h).1

  pub stored_open : (x : View) (m : Uint128) (n : Option Uint128) (k : ℕ) → Shows b (Code.Open p) x → m ≡ halves (credits_in balance i)
      → k ≡ with_bit x.opened (p % 16) 1
      → stored b (Code.Open p) i (Ok (opening x m n k)) ≡ effect b (Open p i)
  unfolding open_place blank_place short_name
  stored_open x m n k v e q =
      let sound = (accepted_tests b (Open p i) h).0 in
      let same : p % 16 ≡ p = mod-eq_of_lt opens_so.low in
      stored_whole b _ _ _ _ sound (place_low (Code.Open p) 0 0 refl) (transfer_low (Code.Open p) refl)
      ∙ rw (carried_back v sound, e, q, v.opened, v.pending, same, le-leb (length (bytes_in subject i)) 32 opens_so.short)

-- ---- begin

-- 22 is passed
pub low_ends : (f g t : ℕ) → leb 16 f || leb 16 g || leb 8 t ≡ false → (f < 16) × (g < 16)
low_ends f g t h =
    let ends = or_l (leb 16 f || leb 16 g) (leb 8 t) h in
    (leb-false 16 f (or_l (leb 16 f) (leb 16 g) ends), leb-false 16 g (or_r (leb 16 f) (leb 16 g) ends))

module _ (b : Book) (f g t : ℕ) (i : List ℕ) (h : answer b (Begin f g t i) ≡ Ok tt) where
  pub stored_begin : (x : View) (m c : Uint128) (k : ℕ) → Shows b (Code.Begin f g t) x → m ≡ halves (held_at b f - credits_in amount i)
      → c ≡ halves (credits_in amount i) → k ≡ with_bit x.pending (t % 8) 1
      → stored b (Code.Begin f g t) i (Ok (moving x m c f g k)) ≡ effect b (Begin f g t i)
  unfolding set_transfer set_record
  stored_begin x m c k v e d q =
      let facts = begins (seen b) f g t i (accepted_tests b (Begin f g t i) h).1 in
      let sound = (accepted_tests b (Begin f g t i) h).0 in
      let same : t % 8 ≡ t = mod-eq_of_lt facts.low_number in
      let there : f % 16 ≡ f = mod-eq_of_lt facts.low_from in
      let kept : whole_of x.reserved ≡ (place_record b f).reserved = reserved_whole b sound f facts.low_from (v.reserved ∙ rw there) in
      stored_whole b _ _ _ _ sound (place_low (Code.Begin f g t) 0 0 refl) (transfer_low (Code.Begin f g t) refl)
      ∙ rw (e, d, q, v.opened, v.pending, same, there, kept)

-- ---- close

module _ (b : Book) (p : ℕ) (i : List ℕ) (h : answer b (Close p) ≡ Ok tt) where
  pub stored_close : (x : View) (k : ℕ) → Shows b (Code.Close p) x → k ≡ with_bit x.opened (p % 16) 0
      → stored b (Code.Close p) i (Ok (opening x zero_amount.mantissa x.total k)) ≡ effect b (Close p)
  unfolding close_place blank_place
  stored_close x k v q =
      let sound = (accepted_tests b (Close p) h).0 in
      let same : p % 16 ≡ p = mod-eq_of_lt (closes (seen b) p (accepted_tests b (Close p) h).1).low in
      stored_whole b _ _ _ _ sound (place_low (Code.Close p) 0 0 refl) (transfer_low (Code.Close p) refl)
      ∙ rw (carried_back v sound, q, v.opened, v.pending, same)
