-- What the entries of this crate promise: all that a caller sees afterwards. Assumes nothing.
use Rattle.std.specs.Prelude.{ℕ, List, ◌≡◌, Result, length}
use Rattle.answers.specs.declared.Refusal.{Refusal}
use Rattle.answers.specs.Numbers.{answered}
use Rattle.capture.specs.declared.Capture.{Capture}
use Rattle.board.specs.Description.{with_bytes}
use Rattle.board.specs.Promise.{count_of, space_of, over}
use Rattle.pair.specs.declared.Captures.{Captures}
use Rattle.pair.specs.declared.Side.{Side as Lent}
use Rattle.pair.specs.Pair.{Side, Pair}
use Rattle.pair.specs.Serving.{PairOutcome, serve_pair}

-- what a call tells: the count of reply bytes written, or why it is refused; and the captures to keep for the next packet
pub record Served : Type 0 where
  pub answer : Result ℕ Refusal
  pub kept : Captures

-- as answered: the number, the count of reply bytes written, the two captures; and the five lent buffers that can be written
pub record PairSeen : Type 0 where
  pub number : ℕ
  pub count : ℕ
  pub kept : Captures
  pub primary_ordinary : List ℕ
  pub primary_trusted : List ℕ
  pub alternate_ordinary : List ℕ
  pub alternate_trusted : List ℕ
  pub reply : List ℕ

-- a function that a caller lends: its number and offsets, its capture, and its six buffers as they are
abbrev pub lent_side : Lent → Side
lent_side s =
    record {
      function = s.function;
      capture = s.capture;
      ordinary = space_of s.ordinary.now s.ordinary_rules.now s.ordinary_marks.now;
      trusted = space_of s.trusted.now s.trusted_rules.now s.trusted_marks.now;
    }

abbrev pub lent_pair : ℕ → Side → Side → Pair
lent_pair edition primary alternate = record { edition = edition; primary = primary; alternate = alternate }

-- the pair that the caller holds after a call: the captures as they then are, and the four spaces' bytes as they then are
abbrev pub held_side : Side → Capture → List ℕ → List ℕ → Side
held_side s kept ordinary trusted =
    record { function = s.function; capture = kept; ordinary = with_bytes s.ordinary ordinary; trusted = with_bytes s.trusted trusted }

abbrev pub pair_after_call : Pair → Captures → List ℕ → List ℕ → List ℕ → List ℕ → Pair
pair_after_call pair kept primary_ordinary primary_trusted alternate_ordinary alternate_trusted =
    record {
      edition = pair.edition;
      primary = held_side pair.primary kept.primary primary_ordinary primary_trusted;
      alternate = held_side pair.alternate kept.alternate alternate_ordinary alternate_trusted;
    }

-- what a call has shown: its result, and the four spaces and the reply at its end
abbrev pub pair_seen : Served → List ℕ → List ℕ → List ℕ → List ℕ → List ℕ → PairSeen
pair_seen r primary_ordinary primary_trusted alternate_ordinary alternate_trusted reply =
    record {
      number = answered r.answer;
      count = count_of r.answer;
      kept = r.kept;
      primary_ordinary = primary_ordinary;
      primary_trusted = primary_trusted;
      alternate_ordinary = alternate_ordinary;
      alternate_trusted = alternate_trusted;
      reply = reply;
    }

-- what it should show, from an outcome and the reply as lent
unfoldable pub pair_shows : PairOutcome → List ℕ → PairSeen
pair_shows o reply =
    record {
      number = o.number;
      count = length o.written;
      kept = record { primary = o.after.primary.capture; alternate = o.after.alternate.capture };
      primary_ordinary = o.after.primary.ordinary.bytes;
      primary_trusted = o.after.primary.trusted.bytes;
      alternate_ordinary = o.after.alternate.ordinary.bytes;
      alternate_trusted = o.after.alternate.trusted.bytes;
      reply = over o.written reply;
    }

-- the promise of `pair::serve`: pair and packet and reply as lent, what the call tells, and the five buffers at its end
abbrev pub PairServes : Pair → List ℕ → List ℕ → Served → List ℕ → List ℕ → List ℕ → List ℕ → List ℕ → Type 0
PairServes pair p reply r primary_ordinary primary_trusted alternate_ordinary alternate_trusted after =
    pair_seen r primary_ordinary primary_trusted alternate_ordinary alternate_trusted after ≡ pair_shows (serve_pair pair p (length reply)) reply
