-- Opens every definition of serving a pair at once, for a proof that computes an example: `unfolding pair_computing`. Assumes nothing.
use Rattle.board.proofs.Computing.{computing}
use Rattle.pair.specs.Pair.{bad_pair, is_for}
use Rattle.pair.specs.Serving.{served_by, serve_pair}
use Rattle.pair.specs.Promise.{pair_shows}

unfoldable pub pair_computing : Unit {0}
unfolding computing bad_pair is_for served_by serve_pair pair_shows
pair_computing = tt
