-- Document 01, "The access": which requests are unsupported, what a successful write leaves and what a successful read shows.
-- Assumes nothing.
use Rattle.std.specs.Prelude.{ℕ, Bool, true, false, not, ◌&&◌, cond, List, [], ◌∷◌, eqb}
use Rattle.answers.specs.Checks.{any}
use Rattle.words.specs.Bytes.{four, put}
use Rattle.registers.specs.Merge.{merged}
use Rattle.registers.specs.Shown.{shown}
use Rattle.packet.specs.declared.Target.{Target}
use Rattle.packet.specs.declared.Target.TheVariants.{Type0, Type1, Trusted}
use Rattle.packet.specs.declared.Request.{Request}
use Rattle.packet.specs.Request.{is_trusted}
use Rattle.capture.specs.declared.Capture.{Capture}
use Rattle.capture.specs.declared.Capture.TheVariants.{Nothing, Number}
use Rattle.capture.specs.Kept.{captured}
use Rattle.board.specs.declared.Description.{Description}
use Rattle.board.specs.Description.{Space, with_bytes, Board}

abbrev pub is_type0 : Target → Bool
is_type0 Type0 = true
is_type0 Type1 = false
is_type0 Trusted = false

abbrev pub is_type1 : Target → Bool
is_type1 Type0 = false
is_type1 Type1 = true
is_type1 Trusted = false

abbrev pub nothing_captured : Capture → Bool
nothing_captured Nothing = true
nothing_captured (Number bus device) = false

-- the request's bus, device and function are "the captured two and the board's own"
abbrev pub addressed : Description → Capture → Request → Bool
addressed description Nothing q = false
addressed description (Number bus device) q =
    eqb q.bus bus && eqb q.device device && eqb q.function description.function

-- "UR is given, and nothing but the reply changes, for: a Type 1 request; a Type 0 request for another function; a trusted request while
-- nothing is captured (004, 2.2.9); a trusted request whose bus, device and function aren't the captured two and the board's own (house);
-- a poisoned write." "Poison on a read is ignored (house). All else succeeds."
unfoldable pub unsupported : Description → Capture → Request → Bool
unsupported description kept q =
    any
    (is_type1 q.target
    ∷ (is_type0 q.target && not (eqb q.function description.function))
    ∷ (is_trusted q.target && nothing_captured kept)
    ∷ (is_trusted q.target && not (addressed description kept q))
    ∷ (q.writes && q.poisoned)
    ∷ [])

-- a write to a space: four data bytes merged with those at the request's offset, under the rules and the marks there and the enables
unfoldable pub stored_bytes : Space → Request → List ℕ → List ℕ
stored_bytes s q new =
    put s.bytes q.offset
    (merged (four s.bytes q.offset) (four s.rules q.offset) (four s.marks q.offset) new q.enables)

-- "An ordinary write [at A] succeeds, captures, and changes no byte.", and 02, 6/13: "An ordinary write at A still changes nothing.": A, and the
-- rest as above
unfoldable pub stored_ordinary : ℕ → Space → Request → List ℕ → List ℕ
stored_ordinary a s q new = cond (eqb q.offset a) s.bytes (stored_bytes s q new)

-- "A successful Type 0 write captures its bus and device number before the reply is written, also with no byte enabled. No trusted
-- request captures."
unfoldable pub after_write : Board → Request → List ℕ → Board
after_write d q new =
    cond (is_trusted q.target)
    (record {
      description = d.description;
      capture = d.capture;
      ordinary = d.ordinary;
      trusted = with_bytes d.trusted (stored_bytes d.trusted q new);
    })
    (record {
      description = d.description;
      capture = captured d.capture q.bus q.device;
      ordinary = with_bytes d.ordinary (stored_ordinary d.description.a d.ordinary q new);
      trusted = d.trusted;
    })

-- the correlation register: "the four trusted bytes at B"
abbrev pub correlation : Board → List ℕ
correlation d = four d.trusted.bytes d.description.b

-- the four bytes that a read is for. "The ordinary word at A reads as the four trusted bytes at B": and no longer, since 02, 7/13, "under the same
-- enables". "The bytes stored at A in the ordinary space never appear in a reply. Full decoding: no two offsets reach the same byte, save through
-- this word.": description, ordinary bytes, trusted bytes
abbrev pub picked_word : Description → List ℕ → List ℕ → Request → List ℕ
picked_word description ordinary trusted q =
    cond (is_trusted q.target)
    (four trusted q.offset)
    (cond (eqb q.offset description.a) (four trusted description.b) (four ordinary q.offset))

-- 02, 7/13: "every successful read returns all four bytes whatever the enables, also at A": those four, as a read shows them
unfoldable pub shown_word : Description → List ℕ → List ℕ → Request → List ℕ
shown_word description ordinary trusted q = shown (picked_word description ordinary trusted q)

-- what a successful read shows
abbrev pub read_word : Board → Request → List ℕ
read_word d q = shown_word d.description d.ordinary.bytes d.trusted.bytes q
