-- `multicast::members::are_records` meets its contract: all are records exactly if no test of one fails. Assumes nothing.
use mathlib.Core.Bool.{true, false}
use mathlib.Core.Path.{◌≡◌}
use borrow.Author.Tests.{tests}
use Rattle.std.proofs.Common.{rules}
use Rattle.std.proofs.lemmas.Iterator.{cases_from_all, YieldsList-from_slice}
use Rattle.multicast.specs.Records.{is_record}
use Rattle.multicast.proofs.Walks.{all_or_one_not}
use Rattle.multicast.proofs.members.are_records.Goals as goal

pub returns : goal.returns
returns c =
    all_or_one_not c.args.ports.now c.all.result
    (cases_from_all _ _ _ (λ r. is_record r ≡ true) (λ r. is_record r ≡ false) c.all.ensures.ran (YieldsList-from_slice c.args.ports.now cc) (λ x q k. search (rules, tests)) (λ x q k. search (rules, tests)))
