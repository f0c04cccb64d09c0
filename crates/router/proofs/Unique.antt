-- A second result that meets a promise of this crate is the same result. Assumes nothing.
use Prim.Native.Nat.{ℕ}
use mathlib.Core.Bool.{true≢false}
use mathlib.Core.List.{List}
use mathlib.Core.Path.{◌≡◌, refl, sym, ap, ◌∙◌}
use Rattle.std.specs.Prelude.{Ok, Err}
use Rattle.answers.proofs.Unique.{number_tells, number_positive}
use Rattle.ports.specs.declared.Port.{Port}
use Rattle.ports.specs.Choice.{Choice}
use Rattle.router.specs.declared.Verdict.TheVariants.{Leaves, Unsupported}
use Rattle.router.specs.Routing.{bus_of}
use Rattle.router.specs.Promise.{Routed, Seen, told, Decides, Routes}

-- the statements: whatever meets the promise from the same choice or ports, packet and buffer is the same verdict, with the same buffer
abbrev pub DecideUnique : Type 0
DecideUnique =
    (c : Choice) (p buffer : List ℕ) (r q : Routed) (after after' : List ℕ) → Decides c p buffer r after → Decides c p buffer q after'
    → (r ≡ q) × (after ≡ after')

abbrev pub RouteUnique : Type 0
RouteUnique =
    (ports : List Port) (p buffer : List ℕ) (r q : Routed) (after after' : List ℕ) → Routes ports p buffer r after → Routes ports p buffer q after'
    → (r ≡ q) × (after ≡ after')

-- what is told tells the verdict
told_tells : (r q : Routed) (a b : List ℕ) → told r a ≡ told q b → r ≡ q
told_tells (Ok (Leaves i n)) (Ok (Leaves j m)) a b e = λ k. Ok (Leaves (e k).port (e k).count)
told_tells (Ok (Leaves i n)) (Ok Unsupported) a b e = absurd (true≢false (ap (λ (x : Seen). x.leaves) e))
told_tells (Ok (Leaves i n)) (Err f) a b e = absurd (true≢false (ap (λ (x : Seen). x.leaves) e))
told_tells (Ok Unsupported) (Ok (Leaves j m)) a b e = absurd (true≢false (sym (ap (λ (x : Seen). x.leaves) e)))
told_tells (Ok Unsupported) (Ok Unsupported) a b e = refl
told_tells (Ok Unsupported) (Err f) a b e = absurd (number_positive f (sym (ap (λ (x : Seen). x.number) e)))
told_tells (Err f) (Ok (Leaves j m)) a b e = absurd (true≢false (sym (ap (λ (x : Seen). x.leaves) e)))
told_tells (Err f) (Ok Unsupported) a b e = absurd (number_positive f (ap (λ (x : Seen). x.number) e))
told_tells (Err f) (Err g) a b e = ap Err (number_tells f g (ap (λ (x : Seen). x.number) e))

buffer_told : (r : Routed) (a : List ℕ) → (told r a).buffer ≡ a
buffer_told (Ok (Leaves i n)) a = refl
buffer_told (Ok Unsupported) a = refl
buffer_told (Err f) a = refl

same : (r q : Routed) (a b : List ℕ) → told r a ≡ told q b → (r ≡ q) × (a ≡ b)
same r q a b e = (told_tells r q a b e, sym (buffer_told r a) ∙ ap (λ (x : Seen). x.buffer) e ∙ buffer_told q b)

pub decide_unique : DecideUnique
decide_unique c p buffer r q after after' e f = same r q after after' (e ∙ sym f)

pub route_unique : RouteUnique
route_unique ports p buffer r q after after' e f = same r q after after' (e ∙ sym f)

pub bus_of_unique : (p : List ℕ) (r q : ℕ) → r ≡ bus_of p → q ≡ bus_of p → r ≡ q
bus_of_unique p r q e f = e ∙ sym f
