-- Laws of writing into a buffer, and of the four writes that make a state sheet.
use mathlib.Core.Path.{◌≡◌, refl, sym, ap, ◌∙◌}
use mathlib.Core.List.{List, [], ◌∷◌, ◌++◌, append_assoc, append-nil}
use mathlib.Core.Bool.{Bool, true, false, cond}
use Prim.Native.Nat.{ℕ, ◌+◌, ◌≤◌, ◌<◌}
use native.Mathlib.Omega.{arith}
use lib.ListN.{length, drop, length-append}
use lib.Seq.{take_at, drop-append-add, drop-drop}
use lib.Dec.{leb}
use borrow.Author.Tests.{le-leb, lt-leb}
use Rattle.sheet.specs.declared.Form.{Form}
use Rattle.std.specs.Prelude.{Some, None}
use Rattle.writer.specs.Encode.{over, encode, form_items, entry_bytes, put_into, put_answer}
use Rattle.writer.specs.Helpers.{overlay, head_of}

-- src written right behind p: no bound is asked
behind : (p rest src : List ℕ) (at : ℕ) → at ≡ length p → overlay (p ++ rest) at src ≡ p ++ (src ++ drop (length src) rest)
behind p rest src at e = rw (e, take_at p rest (length p) refl, drop-append-add)

pub over_next : (p src d : List ℕ) (at : ℕ) → at ≡ length p → overlay (over p d) at src ≡ over (p ++ src) d
over_next p src d at e = behind p _ src at e ∙ rw (drop-drop, length-append, append_assoc)

-- the length of a sheet of three fields
pub three_length : (f : Form) (x y z : List ℕ) → length (encode (form_items f x y z)) ≡ 19 + length x + length y + length z
unfolding encode
three_length f x y z = omega (arith, length-append x (y ++ (z ++ [])), length-append y (z ++ []), length-append z [])

-- the head and the bodies are the sheet
joined : (f : Form) (x y z : List ℕ) → head_of f (length x) (19 + length x) (length y) (19 + length x + length y) (length z) ++ x ++ y ++ z ≡ encode (form_items f x y z)
unfolding encode
joined f x y z =
    ap (λ (r : List ℕ). 3 ∷ entry_bytes 1 1 19 (length x) (entry_bytes f.second f.kind (19 + length x) (length y) (entry_bytes f.third 3 (19 + length x + length y) (length z) r)))
    (append_assoc x y z ∙ ap (λ (r : List ℕ). x ++ (y ++ r)) (sym (append-nil z)))

module _ (f : Form) (x y z old : List ℕ) where
  -- no room: the answer, and the bytes as they were
  pub too_short : length old < 19 + length x + length y + length z
      → (None ≡ put_answer (encode (form_items f x y z)) old) × (old ≡ put_into (encode (form_items f x y z)) old)
  unfolding put_answer put_into
  too_short h =
      let e : leb (length (encode (form_items f x y z))) (length old) ≡ false = lt-leb (length (encode (form_items f x y z))) (length old) (omega (arith, three_length f x y z)) in
      (sym (ap (λ (b : Bool). cond b (Some (length (encode (form_items f x y z)))) None) e), sym (ap (λ (b : Bool). cond b (over (encode (form_items f x y z)) old) old) e))

  -- the head and the three bodies, one behind the other
  pub four_writes : (second third end : ℕ) (h d₁ d₂ d₃ d₄ : List ℕ)
      → second ≡ 19 + length x → third ≡ second + length y → end ≡ third + length z → end ≤ length old
      → h ≡ head_of f (length x) second (length y) third (length z)
      → d₁ ≡ overlay old 0 h → d₂ ≡ overlay d₁ 19 x → d₃ ≡ overlay d₂ second y → d₄ ≡ overlay d₃ third z
      → (Some end ≡ put_answer (encode (form_items f x y z)) old) × (d₄ ≡ put_into (encode (form_items f x y z)) old)
  unfolding put_answer put_into
  four_writes second third end h d₁ d₂ d₃ d₄ es et ee fits eh e₁ e₂ e₃ e₄ =
      let w : List ℕ = encode (form_items f x y z) in
      let lw : length w ≡ end = omega (arith, three_length f x y z) in
      let e : leb (length w) (length old) ≡ true = le-leb (length w) (length old) (omega arith) in
      let lh : length h ≡ 19 = ap length eh in
      let g₁ : d₁ ≡ over h old = e₁ ∙ over_next [] h old 0 refl in
      let g₂ : d₂ ≡ over (h ++ x) old = e₂ ∙ (rw g₁ (over_next h x old 19 (sym lh))) in
      let g₃ : d₃ ≡ over (h ++ x ++ y) old = e₃ ∙ (rw g₂ (over_next (h ++ x) y old second (rw length-append (omega arith)))) in
      let g₄ : d₄ ≡ over (h ++ x ++ y ++ z) old = e₄ ∙ (rw g₃ (over_next (h ++ x ++ y) z old third (simp length-append (omega arith)))) in
      let gw : h ++ x ++ y ++ z ≡ w = rw (eh, et, es) (joined f x y z) in (
        ap Some (sym lw) ∙ sym (ap (λ (b : Bool). cond b (Some (length w)) None) e),
        g₄ ∙ ap (λ (v : List ℕ). over v old) gw ∙ sym (ap (λ (b : Bool). cond b (over w old) old) e),
      )
