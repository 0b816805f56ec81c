use Rattle.std.proofs.Common.{◌≡◌, ℕ, ◌+◌, List, ◌++◌, length, drop, replicate, ap, ◌∙◌, arith}
use Rattle.std.proofs.lemmas.List.{drop-replicate}
use Rattle.std.proofs.lemmas.List.Edits.{paste_all}
use Rattle.amount.specs.Canonical.{zeros}
use Rattle.book.specs.Book.{name_of}
use Rattle.book.specs.declared.Name.{Name}
use Rattle.steps.proofs.names.name_of.Goals as goal

pub returns : goal.returns
unfolding name_of zeros
returns c =
    let t = c.args.text.now in
    let all : 0 + c.loop-i.i ≡ length t = omega arith in
    ap {B = Name} (λ (l : List ℕ). record { bytes = l; len = length t })
    (c.loop-i.invariant
    ∙ paste_all (replicate 32 0) 0 t c.loop-i.i (omega arith)
    ∙ ap (λ (l : List ℕ). t ++ l) (ap (λ (n : ℕ). drop n (replicate 32 0)) all ∙ drop-replicate (length t) 32 0))
