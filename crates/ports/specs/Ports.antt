-- Document 02, 1/13: "a lent list of up to 32 ports, each with secondary bus, subordinate bus and whether it supports TCS routing", and when the
-- list is refused. Assumes nothing.
use Rattle.std.specs.Prelude.{ℕ, Bool, false, not, ◌&&◌, ◌||◌, List, [], ◌∷◌, eqb, leb, ltb, length}
use Rattle.answers.specs.Checks.{any}
use Rattle.ports.specs.declared.Port.{Port}

-- "a bus in a range": from the secondary to the subordinate, "ends included"
abbrev pub has : Port → ℕ → Bool
has p bus = leb p.secondary bus && leb bus p.subordinate

-- "whether it supports TCS routing": 0 says no, any other value yes
abbrev pub supports : Port → Bool
supports p = not (eqb p.tcs 0)

-- "if a secondary exceeds its subordinate"
abbrev pub exceeds : Port → Bool
exceeds p = ltb p.subordinate p.secondary

-- "if two ranges, ends included, meet": neither ends before the other begins
abbrev pub meet : Port → Port → Bool
meet p q = leb p.secondary q.subordinate && leb q.secondary p.subordinate

abbrev pub one_exceeds : List Port → Bool
one_exceeds [] = false
one_exceeds (p ∷ ps) = exceeds p || one_exceeds ps

abbrev pub meets_one_of : Port → List Port → Bool
meets_one_of p [] = false
meets_one_of p (q ∷ qs) = meet p q || meets_one_of p qs

abbrev pub two_meet : List Port → Bool
two_meet [] = false
two_meet (p ∷ ps) = meets_one_of p ps || two_meet ps

-- "The list is refused with 1 if it is longer than 32, if a secondary exceeds its subordinate, or if two ranges, ends included, meet."
unfoldable pub bad_list : List Port → Bool
bad_list ps = any (ltb 32 (length ps) ∷ one_exceeds ps ∷ two_meet ps ∷ [])
