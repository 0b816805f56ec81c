use Rattle.std.proofs.Common.{◌∙◌, rules, tests}
use Rattle.std.proofs.lemmas.Iterator.{YieldsList-from_slice}
use Rattle.std.proofs.lemmas.Iterator.Search.{any_from_yields_List}
use Rattle.registry.specs.Readers.{is_mark}
use Rattle.registry.proofs.Readers.{any_marked}
use Rattle.registry.proofs.is_float.Goals as goal

pub returns : goal.returns
returns c =
    let t = c.args.text.now in
    any_from_yields_List is_mark _ _ _ c.any.ensures.ran (YieldsList-from_slice t cc) (λ x b q k. search (rules, tests)) ∙ any_marked t
