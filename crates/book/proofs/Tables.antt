-- Laws of the sets, the tables and the sums of specs/Sets.antt. One notion carries all of them: a function altered at one index.
use mathlib.Core.Path.{◌≡◌, refl, sym, ap, ◌∙◌, subst}
use mathlib.Core.Logic.{◌≢◌}
use mathlib.Core.Bool.{Bool, true, false, cond, true≢false, false≢true}
use mathlib.Core.Option.{some, none}
use mathlib.Core.List.{List}
use Prim.Native.Nat.{ℕ, zero, suc, ◌+◌, ◌*◌, ◌/◌, ◌%◌, ◌^◌, ◌≤◌, ◌<◌, zero-le}
use native.Mathlib.Nat.{le_of_suc-le-suc, not-suc-le-zero, le_refl}
use native.Mathlib.Decide.{ℕ_discrete}
use native.Mathlib.Omega.{arith}
use lib.Dec.{eqb}
use lib.ListN.{length, get_or, set, length-set}
use lib.Seq.{get_or-set_same, get_or-set_other}
use borrow.Author.Tests.{eq-eqb, ne_eqb}
use Rattle.sheet.specs.Walk.{sum, every}
use Rattle.book.specs.Sets.{bit, with_bit, entry, any}

-- ---- a function altered at one index

pub record Altered {A : Type 0} (f g : ℕ → A) (p : ℕ) (x : A) : Type 0 where
  pub there : g p ≡ x
  pub elsewhere : (q : ℕ) → q ≢ p → g q ≡ f q

pub altered_map : {A B : Type 0} (h : A → B) {f g : ℕ → A} {p : ℕ} {x : A} → Altered f g p x
    → Altered (λ q. h (f q)) (λ q. h (g q)) p (h x)
altered_map h a = record { there = ap h a.there; elsewhere = λ q d. ap h (a.elsewhere q d) }

-- what holds of the new entry, and of every old one elsewhere, holds of every new one
pub altered_all : {A : Type 0} (P : ℕ → A → Type 0) {f g : ℕ → A} {p : ℕ} {x : A} → Altered f g p x → P p x
    → (q : ℕ) → (q ≢ p → P q (f q)) → P q (g q)
altered_all {A} P {f} {g} {p} {x} a new q old = go (ℕ_discrete q p)
  where
    go : Dec (q ≡ p) → P q (g q)
    go (yes e) = subst (λ (i : ℕ). P i (g i)) (sym e) (subst (λ (y : A). P p y) (sym a.there) new)
    go (no d) = subst (λ (y : A). P q y) (sym (a.elsewhere q d)) (old d)

-- ---- bits

pub bit_lt : (n p : ℕ) → bit n p < 2
unfolding bit
bit_lt n zero = omega arith
bit_lt n (suc p) = bit_lt (n / 2) p

half : (w r : ℕ) → r < 2 → (w * 2 + r) / 2 ≡ w
half w r h = omega arith

pub bit_same : (n p d : ℕ) → d < 2 → bit (with_bit n p d) p ≡ d
unfolding bit with_bit
bit_same n zero d h = omega arith
bit_same n (suc p) d h = rw (half (with_bit (n / 2) p d) (n % 2) (omega arith)) (bit_same (n / 2) p d h)

pub bit_other : (n p q d : ℕ) → d < 2 → q ≢ p → bit (with_bit n p d) q ≡ bit n q
unfolding bit with_bit
bit_other n zero zero d h e = absurd (e refl)
bit_other n zero (suc q) d h e = rw (half (n / 2) d h)
bit_other n (suc p) zero d h e = omega arith
bit_other n (suc p) (suc q) d h e =
    rw (half (with_bit (n / 2) p d) (n % 2) (omega arith)) (bit_other (n / 2) p q d h (λ z. e (ap suc z)))

pub with_bit_lt : (k n p d : ℕ) → d < 2 → n < 2 ^ k → p < k → with_bit n p d < 2 ^ k
unfolding with_bit
with_bit_lt zero n p d h l i = absurd (not-suc-le-zero i)
with_bit_lt (suc k) n zero d h l i = omega arith
with_bit_lt (suc k) n (suc p) d h l i =
    let r : with_bit (n / 2) p d < 2 ^ k = with_bit_lt k (n / 2) p d h (omega arith) (le_of_suc-le-suc i) in omega arith

pub bit_high : (k n p : ℕ) → n < 2 ^ k → k ≤ p → bit n p ≡ 0
unfolding bit
bit_high zero n zero l h = omega arith
bit_high zero n (suc p) l h = bit_high zero (n / 2) p (omega arith) zero-le
bit_high (suc k) n zero l h = absurd (not-suc-le-zero h)
bit_high (suc k) n (suc p) l h = bit_high k (n / 2) p (omega arith) (le_of_suc-le-suc h)

pub bits_zero : (k n : ℕ) → n < 2 ^ k → ((t : ℕ) → bit n t ≡ 0) → n ≡ 0
unfolding bit
bits_zero zero n l h = omega arith
bits_zero (suc k) n l h =
    let z : n / 2 ≡ 0 = bits_zero k (n / 2) (omega arith) (λ t. h (suc t)) in omega (arith, h 0)

-- ---- tables

module _ {A : Type 0} (d : A) where
  pub entry_in : (n : ℕ) (l : List A) (p : ℕ) → bit n p ≡ 1 → entry d n l p ≡ some (get_or l p d)
  unfolding entry
  entry_in n l p h = rw (eq-eqb (bit n p) 1 h)

  pub entry_out : (n : ℕ) (l : List A) (p : ℕ) → bit n p ≡ 0 → entry d n l p ≡ none
  unfolding entry
  entry_out n l p h = rw (ne_eqb (bit n p) 1 (omega arith))

  pub entry_put : (n : ℕ) (l : List A) (p : ℕ) (x : A) → p < length l
      → Altered (entry d n l) (entry d (with_bit n p 1) (set l p x)) p (some x)
  unfolding entry
  entry_put n l p x h =
      record {
        there = rw (eq-eqb (bit (with_bit n p 1) p) 1 (bit_same n p 1 (omega arith)), get_or-set_same l p x d h);
        elsewhere = λ q e. rw (bit_other n p q 1 (omega arith) e, get_or-set_other l p q x d e);
      }

  pub entry_set : (n : ℕ) (l : List A) (p : ℕ) (x : A) → p < length l → bit n p ≡ 1
      → Altered (entry d n l) (entry d n (set l p x)) p (some x)
  unfolding entry
  entry_set n l p x h i =
      record {
        there = rw (eq-eqb (bit n p) 1 i, get_or-set_same l p x d h);
        elsewhere = λ q e. rw (get_or-set_other l p q x d e);
      }

  pub entry_drop : (n : ℕ) (l : List A) (p : ℕ) (x : A) → Altered (entry d n l) (entry d (with_bit n p 0) (set l p x)) p none
  unfolding entry
  entry_drop n l p x =
      record {
        there = rw (bit_same n p 0 (omega arith));
        elsewhere = λ q e. rw (bit_other n p q 0 (omega arith) e, get_or-set_other l p q x d e);
      }

-- the records of a table, in use or not
pub get_set : {A : Type 0} (d : A) (l : List A) (p : ℕ) (x : A) → p < length l → Altered (λ q. get_or l q d) (λ q. get_or (set l p x) q d) p x
get_set d l p x h = record { there = get_or-set_same l p x d h; elsewhere = λ q e. get_or-set_other l p q x d e }

-- what an altered table is, at every index
pub altered_is : {A : Type 0} {f g : ℕ → A} {p : ℕ} {x : A} → Altered f g p x → (q : ℕ) → g q ≡ cond (eqb q p) x (f q)
altered_is {A} {f} {g} {p} {x} a q =
    altered_all (λ i y. y ≡ cond (eqb i p) x (f i)) a (rw (eq-eqb p p refl)) q (λ d. rw (ne_eqb q p d))

-- ---- sums and tests over the first n indices

pub sum_same : (f g : ℕ → ℕ) (n : ℕ) → ((i : ℕ) → i < n → g i ≡ f i) → sum g n ≡ sum f n
unfolding sum
sum_same f g zero h = refl
sum_same f g (suc n) h =
    let r : sum g n ≡ sum f n = sum_same f g n (λ i k. h i (omega arith)) in omega (arith, h n (le_refl (suc n)))

pub sum_zero : (f : ℕ → ℕ) (n : ℕ) → ((i : ℕ) → i < n → f i ≡ 0) → sum f n ≡ 0
unfolding sum
sum_zero f zero h = refl
sum_zero f (suc n) h =
    let r : sum f n ≡ 0 = sum_zero f n (λ i k. h i (omega arith)) in omega (arith, h n (le_refl (suc n)))

pub sum_altered : {f g : ℕ → ℕ} {p x : ℕ} → Altered f g p x → (n : ℕ) → p < n → sum g n + f p ≡ sum f n + x
unfolding sum
sum_altered {f} {g} {p} {x} a zero h = absurd (not-suc-le-zero h)
sum_altered {f} {g} {p} {x} a (suc n) h = go (ℕ_discrete n p) (λ k. sum_altered a n k)
  where
    go : Dec (n ≡ p) → (p < n → sum g n + f p ≡ sum f n + x) → sum g n + g n + f p ≡ sum f n + f n + x
    go (yes e) r =
        let s : sum g n ≡ sum f n = sum_same f g n (λ i k. a.elsewhere i (omega arith)) in
        let t : g n ≡ x = ap g e ∙ a.there in
        omega (arith, ap f e)
    go (no e) r = omega (arith, r (omega arith), a.elsewhere n e)

-- each is at most the sum
pub sum_part : (f : ℕ → ℕ) (n p : ℕ) → p < n → f p ≤ sum f n
unfolding sum
sum_part f zero p h = absurd (not-suc-le-zero h)
sum_part f (suc n) p h = go (ℕ_discrete p n) (λ k. sum_part f n p k)
  where
    go : Dec (p ≡ n) → (p < n → f p ≤ sum f n) → f p ≤ sum f n + f n
    go (yes e) r = omega (arith, ap f e)
    go (no e) r = omega (arith, r (omega arith))

pub every_true : (f : ℕ → Bool) (n : ℕ) → ((i : ℕ) → i < n → f i ≡ true) → every f n ≡ true
unfolding every
every_true f zero h = refl
every_true f (suc n) h = rw (every_true f n (λ i k. h i (omega arith))) (h n (le_refl (suc n)))

pub every_at : (f : ℕ → Bool) (n : ℕ) → every f n ≡ true → (i : ℕ) → i < n → f i ≡ true
unfolding every
every_at f zero h i k = absurd (not-suc-le-zero k)
every_at f (suc n) h i k = go (every f n) refl (f n) refl (ℕ_discrete i n) (λ z. every_at f n z i)
  where
    go : (x : Bool) → every f n ≡ x → (y : Bool) → f n ≡ y → Dec (i ≡ n) → (every f n ≡ true → i < n → f i ≡ true) → f i ≡ true
    go false e y w d r = absurd (false≢true (rw e at h))
    go true e false w d r = absurd (false≢true (rw (e, w) at h))
    go true e true w (yes z) r = ap f z ∙ w
    go true e true w (no z) r = r e (omega arith)

pub any_none : (f : ℕ → Bool) (n : ℕ) → any f n ≡ false → (i : ℕ) → i < n → f i ≡ false
unfolding any
any_none f zero h i k = absurd (not-suc-le-zero k)
any_none f (suc n) h i k = go (any f n) refl (ℕ_discrete i n) (λ z. any_none f n z i)
  where
    go : (x : Bool) → any f n ≡ x → Dec (i ≡ n) → (any f n ≡ false → i < n → f i ≡ false) → f i ≡ false
    go true e d r = absurd (true≢false (rw e at h))
    go false e (yes z) r = ap f z ∙ (rw e at h)
    go false e (no z) r = r e (omega arith)

pub any_some : (f : ℕ → Bool) (n i : ℕ) → i < n → f i ≡ true → any f n ≡ true
unfolding any
any_some f n i k h = go (any f n) refl
  where
    go : (x : Bool) → any f n ≡ x → any f n ≡ true
    go true e = e
    go false e = absurd (false≢true (sym (any_none f n e i k) ∙ h))

-- ---- a table of k entries over a set: P holds of each entry, in use or not

pub record Table {A : Type 0} (d : A) (P : A → Type 0) (k n : ℕ) (l : List A) : Type 0 where
  pub size : length l ≡ k
  pub range : n < 2 ^ k
  pub wholes : (i : ℕ) → i < k → P (get_or l i d)

module _ {A : Type 0} {d : A} {P : A → Type 0} {k n : ℕ} {l : List A} (t : Table d P k n l) (p : ℕ) (x : A) (low : p < k) (w : P x) where
  -- entry p is x, and the set is m
  pub table_over : (m : ℕ) → m < 2 ^ k → Table d P k m (set l p x)
  table_over m r =
      record {
        size = length-set l p x ∙ t.size;
        range = r;
        wholes = λ i h. altered_all (λ j y. P y) (get_set d l p x (rw t.size low)) w i (λ z. t.wholes i h);
      }

  pub table_put : (b : ℕ) → b < 2 → Table d P k (with_bit n p b) (set l p x)
  table_put b h = table_over (with_bit n p b) (with_bit_lt k n p b h t.range low)

  pub table_set : Table d P k n (set l p x)
  table_set = table_over n t.range
