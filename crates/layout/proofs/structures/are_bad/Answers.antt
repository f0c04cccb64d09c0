-- `layout::structures::are_bad` meets its contract: of 1 to 960 structures one is bad. Assumes nothing.
use Rattle.std.proofs.Common.{sym, ◌∙◌, rules}
use Rattle.std.proofs.lemmas.Iterator.{YieldsList-from_slice}
use Rattle.std.proofs.lemmas.Iterator.Search.{any_from_yields_List}
use borrow.Author.Tests.{eqb-false, tests}
use Rattle.layout.specs.Structures.{is_bad}
use Rattle.layout.proofs.Steps.{counted}
use Rattle.layout.proofs.structures.are_bad.Goals as goal

pub returns-else-structures-gt-MOST : goal.returns-else-structures-gt-MOST
returns-else-structures-gt-MOST c =
    let t = c.if-structures-gt-MOST.false in
    any_from_yields_List is_bad _ _ _ c.any.ensures.ran (YieldsList-from_slice c.args.structures.now c.iter.ensures.rest) (λ x b q k. search (rules, tests))
    ∙ counted _ (eqb-false _ _ (sym c.is_empty.ensures ∙ t.0)) t.1
