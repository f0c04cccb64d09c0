-- `asking::with_data` meets its contract: the bytes of both, one after the other. Assumes nothing.
use mathlib.Core.List.{◌++◌}
use mathlib.Core.Path.{◌≡◌, sym, ap, ◌∙◌}
use lib.ListN.{length}
use Rattle.words.specs.Bytes.{four}
use Rattle.words.proofs.Laws.{listed, listed_from}
use Rattle.asking.proofs.filling.with_data.Goals as goal

pub returns : goal.returns
unfolding listed
returns c =
    let a = c.copy_from_slice.ensures in
    let b = c.copy_from_slice-2.ensures in
    let h : c.copy_from_slice.new.self ≡ four c.args.header 0 ++ four c.args.header 4 ++ four c.args.header 8 = a.after ∙ listed_from c.args.header 0 12 (ap length (sym a.after) ∙ a.len) in
    let k : length c.copy_from_slice-2.new.self ≡ 4 = rw h at b.len in
    let n : c.copy_from_slice-2.new.self ≡ four c.args.new 0 = b.after ∙ listed_from c.args.new 0 4 (ap length (sym b.after) ∙ k) in
    rw (h, n)
