-- THEOREMS. The same packet twice: a board, a board of two functions, and a switch with boards behind its ports are left as once, and answer the same. Assumes nothing.
use Prim.Native.Nat.{ℕ}
use mathlib.Core.Bool.{Bool, true, false, ◌&&◌, cond}
use mathlib.Core.List.{List, []}
use mathlib.Core.Logic.{◌⊎◌, inl, inr}
use mathlib.Core.Path.{◌≡◌, refl, sym, ap, ap₂, ◌∙◌, fun_ext}
use lib.Dec.{eqb}
use lib.ListN.{length, take}
use lib.Seq.{take-append_seam}
use borrow.Author.Tests.{eq-eqb}
use Rattle.board.specs.Description.{Board}
use Rattle.board.specs.Serving.{Outcome, serve}
use Rattle.pair.specs.Pair.{Pair, Role, Primary, Alternate, board, bad_pair, WellPaired, is_for_role}
use Rattle.pair.specs.Serving.{PairOutcome, answers_as, served_by, serve_pair}
use Rattle.pair.proofs.Laws.{own_answers}
use Rattle.pair.proofs.Keeps.{own_board, neither_keeps, pair_serve_keeps_well}
use Rattle.runs.specs.Run.{Event, packet, reset, next}
use Rattle.isolation.proofs.Alone.{same_kinds, kinds_kept, for_same}
use Rattle.std.specs.Prelude.{Ok, Err}
use Rattle.ports.specs.declared.Port.{Port}
use Rattle.router.specs.declared.Verdict.TheVariants.{Leaves, Unsupported}
use Rattle.router.specs.Routing as routing
use Rattle.router.specs.Routing.{route}
use Rattle.router.specs.Promise as routes
use Rattle.router.specs.Promise.{Routed, told, over}
use Rattle.router.proofs.Unique.{route_unique}
use Rattle.retry.specs.Rows.{answered}
use Rattle.retry.specs.Switch.{Boards, Happening, sent, beside, changed_at, verdict, arrival, switch_next, switch_answer}
use Rattle.retry.specs.Repeats.{Twice, PairTwice, RouteTwice}
use Rattle.retry.proofs.Writes.{Able, kept_or_able, write_twice}

-- ---- a board

pub twice : Twice
twice d p size = by (kept_or_able d p size)
  where
    by : ((serve d p size).after ≡ d) ⊎ Able d p size → serve (serve d p size).after p size ≡ serve d p size
    by (inl same) = ap (λ (x : Board). serve x p size) same
    by (inr a) = write_twice d p size a

-- what happens to a board, twice
pub next_twice : (d : Board) (e : Event) → next (next d e) e ≡ next d e
next_twice d (packet bytes size) = ap (λ (o : Outcome). o.after) (twice d bytes size)
next_twice d reset = refl

-- ---- a board of two functions

over_side : (role : Role) (pair : Pair) (o o' : Outcome)
    → answers_as role (answers_as role pair o).after o' ≡ answers_as role pair o'
over_side Primary pair o o' = refl
over_side Alternate pair o o' = refl

module _ (role : Role) (pair : Pair) (well : WellPaired pair) (p q : List ℕ) (m n : ℕ) (own : is_for_role role pair p ≡ true) (also : is_for_role role pair q ≡ true) where
  pub first_serves : serve_pair pair p m ≡ answers_as role pair (serve (board role pair) p m)
  unfolding served_by
  first_serves = own_answers pair well p m role own

  after : Pair
  after = (serve_pair pair p m).after

  still_also : is_for_role role after q ≡ true
  unfolding after
  still_also = for_same pair (serve_pair pair p m).after role (packet q n) (kinds_kept pair pair (packet p m) (same_kinds pair)) ∙ also

  -- two packets for one function, one after the other: as it serves them alone
  pub second_serves : serve_pair (serve_pair pair p m).after q n ≡ answers_as role pair (serve (serve (board role pair) p m).after q n)
  unfolding served_by after
  second_serves =
      own_answers (serve_pair pair p m).after (pair_serve_keeps_well pair p m well) q n role still_also
      ∙ ap₂ (λ (x : PairOutcome) (b : Board). answers_as role x.after (serve b q n)) first_serves (own_board role pair p m well own)
      ∙ over_side role pair (serve (board role pair) p m) (serve (serve (board role pair) p m).after q n)

module _ (pair : Pair) (p : List ℕ) (size : ℕ) where
  pair_as_was : (serve_pair pair p size).after ≡ pair → serve_pair (serve_pair pair p size).after p size ≡ serve_pair pair p size
  pair_as_was same = ap (λ (x : Pair). serve_pair x p size) same

  pub bad_keeps : bad_pair pair ≡ true → (serve_pair pair p size).after ≡ pair
  unfolding serve_pair
  bad_keeps b = rw b

  own_twice : (role : Role) → WellPaired pair → is_for_role role pair p ≡ true → serve_pair (serve_pair pair p size).after p size ≡ serve_pair pair p size
  own_twice role w h =
      second_serves role pair w p p size size h h ∙ ap (answers_as role pair) (twice (board role pair) p size)
      ∙ sym (first_serves role pair w p p size size h h)

  well_twice : WellPaired pair → (first second : Bool) → is_for_role Primary pair p ≡ first → is_for_role Alternate pair p ≡ second
      → serve_pair (serve_pair pair p size).after p size ≡ serve_pair pair p size
  well_twice w true second f s = own_twice Primary w f
  well_twice w false true f s = own_twice Alternate w s
  well_twice w false false f s = pair_as_was (neither_keeps pair p size w f s)

  pair_by : (bad : Bool) → bad_pair pair ≡ bad → serve_pair (serve_pair pair p size).after p size ≡ serve_pair pair p size
  pair_by true b = pair_as_was (bad_keeps b)
  pair_by false b = well_twice b _ _ refl refl

pub pair_twice : PairTwice
pair_twice pair p size = pair_by pair p size _ refl

-- ---- a switch

-- what is told, with another buffer
retold : (r : Routed) (after buffer again : List ℕ) (o : routing.Outcome) → told r after ≡ routes.shows o buffer → told r (over o.written again) ≡ routes.shows o again
unfolding routes.shows
retold (Ok (Leaves place count)) after buffer again o e =
    λ i. record { number = (e i).number; leaves = (e i).leaves; port = (e i).port; count = (e i).count; buffer = over o.written again }
retold (Ok Unsupported) after buffer again o e =
    λ i. record { number = (e i).number; leaves = (e i).leaves; port = (e i).port; count = (e i).count; buffer = over o.written again }
retold (Err refusal) after buffer again o e =
    λ i. record { number = (e i).number; leaves = (e i).leaves; port = (e i).port; count = (e i).count; buffer = over o.written again }

buffer_told : (r : Routed) (a : List ℕ) → (told r a).buffer ≡ a
buffer_told (Ok (Leaves place count)) a = refl
buffer_told (Ok Unsupported) a = refl
buffer_told (Err refusal) a = refl

-- the bytes that leave
pub left_bytes : (r : Routed) (after buffer : List ℕ) (o : routing.Outcome) → told r after ≡ routes.shows o buffer → take (told r after).count after ≡ o.written
unfolding routes.shows
left_bytes r after buffer o e =
    ap (take (told r after).count) (sym (buffer_told r after))
    ∙ ap (λ (x : routes.Seen). take x.count x.buffer) e
    ∙ take-append_seam o.written _

pub route_twice : RouteTwice
route_twice ports p buffer again r q after after' size e f =
    let g : told q after' ≡ routes.shows (route ports p (length buffer)) again = f ∙ ap (λ (n : ℕ). routes.shows (route ports p n) again) (sym size) in (
      (route_unique ports p buffer r q after _ e (retold q after' again buffer (route ports p (length buffer)) g)).0,
      left_bytes r after buffer _ e ∙ sym (left_bytes q after' again _ g),
    )

-- something that settles at once, where it happens and where it does not
settles : (here : Bool) (d : Board) (e : Event) → let once = cond here (next d e) d in cond here (next once e) once ≡ once
settles true d e = next_twice d e
settles false d e = refl

module _ (ports : List Port) where
  pub switch_next_twice : (boards : Boards) (e : Happening) → switch_next ports (switch_next ports boards e) e ≡ switch_next ports boards e
  switch_next_twice boards (sent bytes sizes) =
      let v = verdict ports bytes sizes in
      fun_ext (λ k. settles (v.leaves && eqb k v.port) (boards k) (arrival ports bytes sizes))
  switch_next_twice boards (beside place event) = fun_ext (λ k. settles (true && eqb k place) (boards k) event)

  pub switch_answer_twice : (boards : Boards) (e : Happening) → switch_answer ports (switch_next ports boards e) e ≡ switch_answer ports boards e
  switch_answer_twice boards (beside place event) = refl
  switch_answer_twice boards (sent bytes sizes) = by (verdict ports bytes sizes).leaves
    where
      by : (leaves : Bool)
          → cond leaves (answered (serve (changed_at boards leaves (verdict ports bytes sizes).port (arrival ports bytes sizes) (verdict ports bytes sizes).port) (verdict ports bytes sizes).written sizes.reply))
          (record { number = (verdict ports bytes sizes).number; written = [] })
          ≡ cond leaves (answered (serve (boards (verdict ports bytes sizes).port) (verdict ports bytes sizes).written sizes.reply)) (record { number = (verdict ports bytes sizes).number; written = [] })
      by false = refl
      by true =
          rw (eq-eqb (verdict ports bytes sizes).port (verdict ports bytes sizes).port refl)
          (ap answered (twice (boards (verdict ports bytes sizes).port) (verdict ports bytes sizes).written sizes.reply))
