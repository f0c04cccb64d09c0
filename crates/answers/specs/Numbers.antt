-- Document 01, "Answer numbers", and document 02, 3/13 and 8/13 to 10/13: the number that each answer stands for. Assumes nothing.
use Rattle.std.specs.Prelude.{ℕ, Result, Ok, Err}
use Rattle.answers.specs.declared.Refusal.{Refusal}
use Rattle.answers.specs.declared.Refusal.TheVariants.{BadDescription, NoRoom, ShortPacket, UnknownType, WrongLength, WrongField, OtherStructure, WrongExtent, NotOneFunction, BelowFloor, ComesBack, WrongGroups, NoLayout, NotAccepted}

-- 1 a space, device, function number, offset or, by 9/13, edition is out of its range, and by document 02, 6/13, "A bit marked both [as cleared by writing 1] and as writable" or
-- "another buffer length" of the marks · 2 no room · 3 fewer than 12 bytes · 4 not one of the six
-- types, or by 9/13 bit 7 under edition 2 · 5 the packet's length · 6 a fixed header field · 8 not the structure asked for · 9 a wrong length, or out of the space · 10 not
-- exactly one function. Document 01's "7 broken chain" is split by document 02, 3/13: "11 for a pointer below the floor, 12 for a pointer to an offset
-- already in the chain [..] 7 is no longer given". By document 02, 8/13, of a Multicast capability: "Num Group over Max Group, or index under 12 while
-- enabled: 13", and 1 also for "a longer list, no such port, or a record the reading can't give". By document 02, 10/13, of a layout: "Answer 14 'no layout'", 18 for one that
-- "the checker doesn't accept", 1 also for "Bad counts, versions or lengths" and for an ID 0000h, and 2 for "offset room below the count"
abbrev pub number_of : Refusal → ℕ
number_of BadDescription = 1
number_of NoRoom = 2
number_of ShortPacket = 3
number_of UnknownType = 4
number_of WrongLength = 5
number_of WrongField = 6
number_of OtherStructure = 8
number_of WrongExtent = 9
number_of NotOneFunction = 10
number_of BelowFloor = 11
number_of ComesBack = 12
number_of WrongGroups = 13
number_of NoLayout = 14
number_of NotAccepted = 18

-- 0 served, whatever the answer then holds; any other number, the refusal's
abbrev pub answered : {A : Type 0} → Result A Refusal → ℕ
answered (Ok value) = 0
answered (Err refusal) = number_of refusal
