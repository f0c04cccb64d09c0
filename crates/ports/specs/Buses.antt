-- Sets of the 256 buses, as a survey keeps them: bit k of the word for base b is bus b + k. What `note` promises is said with them, and proofs/Members
-- shows what is in them; what `choose` promises rests on none of it. Assumes nothing.
use Rattle.std.specs.Prelude.{ℕ, ◌+◌, ◌-◌, ◌^◌, Bool, not, cond, [], ◌∷◌, eqb, ltb}
use Rattle.std.specs.Int.Bits.{bit_and, bit_or, bit_xor}
use Rattle.answers.specs.Checks.{any}
use Rattle.ports.specs.declared.Port.{Port}
use Rattle.ports.specs.declared.Buses.{Buses}

-- how many of the 64 buses from a base on are below an end
abbrev pub width : ℕ → ℕ → ℕ
width end base = cond (ltb 63 (end - base)) 64 (end - base)

-- those, as a word
unfoldable pub below : ℕ → ℕ → ℕ
below end base = 2 ^ width end base - 1

-- of the 64 buses from a base on, those below an end and not below a first, where the first is not past the end
abbrev pub range : ℕ → ℕ → ℕ → ℕ
range from end base = bit_xor (below end base) (below from base)

unfoldable pub buses_of : Port → Buses
buses_of p =
    record {
      first = range p.secondary (p.subordinate + 1) 0;
      second = range p.secondary (p.subordinate + 1) 64;
      third = range p.secondary (p.subordinate + 1) 128;
      fourth = range p.secondary (p.subordinate + 1) 192;
    }

unfoldable pub shared : Buses → Buses → Bool
shared a b =
    any (not (eqb (bit_and a.first b.first) 0)
    ∷ not (eqb (bit_and a.second b.second) 0)
    ∷ not (eqb (bit_and a.third b.third) 0)
    ∷ not (eqb (bit_and a.fourth b.fourth) 0)
    ∷ [])

unfoldable pub together : Buses → Buses → Buses
together a b =
    record {
      first = bit_or a.first b.first;
      second = bit_or a.second b.second;
      third = bit_or a.third b.third;
      fourth = bit_or a.fourth b.fourth;
    }
