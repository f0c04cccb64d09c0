-- Opens every definition of serving at once, for a proof that computes an example: `unfolding computing`. Assumes nothing.
use Rattle.words.specs.Places.{placed}
use Rattle.registers.specs.Merge.{merged_byte, merged}
use Rattle.registers.specs.Shown.{shown}
use Rattle.packet.specs.Fields.{type_of}
use Rattle.packet.specs.Request.{request_of}
use Rattle.packet.specs.Completion.{with_data, without_data}
use Rattle.capture.specs.Kept.{completer}
use Rattle.board.specs.Description.{doubly_marked, badly_described}
use Rattle.board.specs.Access.{unsupported, stored_bytes, stored_ordinary, after_write, shown_word}
use Rattle.board.specs.Serving.{respond, serve}
use Rattle.board.specs.Promise.{shows}

unfoldable pub computing : Unit {0}
unfolding placed merged_byte merged shown type_of request_of with_data without_data completer doubly_marked badly_described unsupported stored_bytes stored_ordinary after_write shown_word respond serve shows
computing = tt
