use Rattle.std.proofs.Common.{◌≡◌, ℕ, min, length, take, rules, ap, ◌∙◌}
use Rattle.std.proofs.lemmas.List.{take_min}
use Rattle.book.specs.Book.{name_bytes}
use Rattle.book.proofs.Name.as_bytes.Goals as goal

pub returns-clause-text : goal.returns-clause-text
unfolding name_bytes
returns-clause-text c =
    let b = c.args.self.now.bytes in
    let whole : length b ≡ 32 = search rules in
    let most : c.min.result ≡ min c.args.self.now.len (length b) = rw whole c.min.ensures in
    ap (λ (n : ℕ). take n b) most ∙ take_min c.args.self.now.len b
