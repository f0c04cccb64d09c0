-- `layout::Structure::header` meets its contract: the fields have no bit in common. Assumes nothing.
use native.Mathlib.Omega.{arith}
use Rattle.layout.proofs.Headers.{header_bits}
use Rattle.layout.proofs.Structure.header.Goals as goal

pub returns : goal.returns
returns c =
    let a = c.args in
    rw (c.to_le_bytes.ensures, c.from.ensures, c.from-2.ensures, c.from-3.ensures, header_bits a.self.id a.self.version a.next (omega arith) c.requires.0 c.requires.1)
