use Rattle.std.proofs.Common.{◌∙◌, rules}
use Rattle.std.proofs.lemmas.Iterator.{YieldsList-from_slice}
use Rattle.std.proofs.lemmas.Iterator.Search.{position_from_yields_List}
use borrow.Author.Tests.{tests}
use Rattle.book.specs.Steps.{stands_as}
use Rattle.book.proofs.Finding.{place_is}
use Rattle.book.proofs.find.find.Goals as goal

pub returns : goal.returns
returns g c =
    let e = position_from_yields_List (stands_as c.args.number) _ _ c.position.result c.position.ensures.ran (YieldsList-from_slice c.args.rows.now cc) (λ x b q k. search (rules, tests)) in
    e ∙ place_is c.args.number c.args.rows.now
