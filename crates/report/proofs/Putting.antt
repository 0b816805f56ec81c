-- Laws of writing into a buffer, as far as it goes.
use mathlib.Core.Path.{◌≡◌, refl, sym, ap, ◌∙◌}
use mathlib.Core.List.{List, [], ◌∷◌, ◌++◌}
use Prim.Native.Nat.{ℕ, suc, ◌+◌, ◌≤◌, ◌<◌}
use native.Mathlib.Omega.{arith}
use lib.ListN.{length, take, drop, set, get_or, length-append, take-append-drop}
use lib.Seq.{sets, set_out, take-suc, length-take-le, take-length}
use Rattle.report.specs.Writing.{Wrote}
use Rattle.report.specs.declared.page.Page.{Page}

-- two texts, one behind the other, are one text
sets_join : (x y d : List ℕ) (at r : ℕ) → r ≡ at + length x → sets (sets d at x) r y ≡ sets d at (x ++ y)
sets_join [] y d at r e = let z : r ≡ at = omega arith in ap (λ (k : ℕ). sets d k y) z
sets_join (a ∷ x) y d at r e = sets_join x y (set d at a) (suc at) r (omega arith)

-- nothing is written behind the end
sets_out : (x d : List ℕ) (at : ℕ) → length d ≤ at → sets d at x ≡ d
sets_out [] d at h = refl
sets_out (a ∷ x) d at h =
    let e : set d at a ≡ d = set_out d at a h in
    rw e (sets_out x d (suc at) (omega arith))

-- nothing
pub wrote_none : (d : Page) → Wrote 0 d [] d
wrote_none d = record { bytes = refl; behind = omega arith; within = omega arith; same_buffer = refl }

-- one text, and another behind it
infixl 30 ◌then◌
pub ◌then◌ : {m n : ℕ} {d e f : Page} {x y : List ℕ} → Wrote m d x e → Wrote n e y f → Wrote (m + n) d (x ++ y) f
◌then◌ {m} {n} {d} {e} {f} {x} {y} p q =
    record {
      bytes = q.bytes ∙ ap (λ (l : List ℕ). sets l e.at y) p.bytes ∙ sets_join x y d.out.now d.at e.at p.behind;
      behind = q.behind ∙ omega (arith, p.behind, length-append x y);
      within = omega (arith, p.within, q.within, length-append x y);
      same_buffer = q.same_buffer ∙ p.same_buffer;
    }

-- the same text by another name
pub as_text_lem : {n : ℕ} {d e : Page} {x y : List ℕ} → x ≡ y → Wrote n d x e → Wrote n d y e
as_text_lem p w = rw (← p) w

-- and with room to spare
pub at_most : {m n : ℕ} {d e : Page} {x : List ℕ} → m ≤ n → Wrote m d x e → Wrote n d x e
at_most h w = record { bytes = w.bytes; behind = w.behind; within = omega (arith, w.within, h); same_buffer = w.same_buffer }

-- a page that began at its buffer's start: what the buffer holds then, and the length
module _ {n : ℕ} {d e : Page} {x y : List ℕ} (p : x ≡ y) (z : d.at ≡ 0) (w : Wrote n d x e) where
  pub buffer_after : {out : List ℕ} → out ≡ e.out.now → out ≡ sets d.out.now 0 y
  buffer_after h = h ∙ w.bytes ∙ rw (z, p)

  pub length_after : e.at ≡ length y
  length_after = rw (← p) (omega (arith, w.behind))

-- the loop that copies: the first i bytes are written, one byte more is, all are, or the buffer is full
pub one_more : (d text out : List ℕ) (at i : ℕ) → i < length text → out ≡ sets d at (take i text) → set out (at + i) (get_or text i 0) ≡ sets d at (take (suc i) text)
one_more d text out at i h e =
    rw (e, take-suc text i 0 h)
    (sets_join (take i text) (get_or text i 0 ∷ []) d at (at + i) (omega (arith, length-take-le i text (omega arith))))

pub full : (d text out : List ℕ) (at i : ℕ) → i < length text → length out ≤ at + i → out ≡ sets d at (take i text) → out ≡ sets d at text
full d text out at i h l e =
    sym (sets_out (drop i text) out (at + i) l)
    ∙ ap (λ (o : List ℕ). sets o (at + i) (drop i text)) e
    ∙ sets_join (take i text) (drop i text) d at (at + i) (omega (arith, length-take-le i text (omega arith)))
    ∙ ap (λ (t : List ℕ). sets d at t) (take-append-drop i text)

pub all_in : (d text out : List ℕ) (at i : ℕ) → i ≡ length text → out ≡ sets d at (take i text) → out ≡ sets d at text
all_in d text out at i h e = e ∙ rw (h, take-length)
