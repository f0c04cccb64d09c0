-- From a state to a row, of any row whose steps do what happens: what settles at once may happen again where it stands; two successful writes that may be swapped,
-- or joined into one, from each state may be so in a row. Assumes nothing.
use Prim.Native.Nat.{ℕ}
use mathlib.Core.List.{List, [], ◌∷◌, ◌++◌}
use mathlib.Core.Path.{◌≡◌, refl, sym, ap, ◌∙◌, subst}
use lib.ListN.{length, replicate, get_or}
use Rattle.packet.specs.Request.{request_of}
use Rattle.retry.specs.Rows.{Answer, none, Row, events_in, end, answers_in, AllMeet}
use Rattle.retry.specs.Repeats.{RepeatOf}
use Rattle.retry.specs.Writes.{SameWrite, Successful, SwapOf, BothEnables, OneFor, JoinOf, joined_packet, JoinedOf}
use Rattle.retry.proofs.Exchange.{moved, replies, moved_again, replies_again, Faithful, block_is, exchanged}

-- ---- any row

module _ {State Happening Step : Type 0} (move : State → Happening → State) (reply : State → Happening → Answer) (row : Row State Happening Step) (faithful : Faithful move reply row) where
  -- what settles at once may happen again
  pub repeat_of : ((s : State) (e : Happening) → move (move s e) e ≡ move s e) → ((s : State) (e : Happening) → reply (move s e) e ≡ reply s e) → RepeatOf row
  repeat_of left same s steps others before e more rest m k stands again front a later many answers =
      let at : State = moved move reply s before in
      let x = block_is move reply row faithful s steps before (e ∷ []) rest m stands front (a ∷ []) later many refl answers in
      let head : a ≡ reply at e = ap (λ (l : List Answer). get_or l 0 none) x in
      let z = exchanged move reply row faithful s steps before (e ∷ []) rest m stands front (a ∷ []) later many refl answers others (e ∷ replicate more e) k again
      (moved_again move reply e at (left at e) (same at e) more) in
      (z.0, z.1 ∙ (λ i. front ++ (sym head i ∷ ((replies_again move reply e at (left at e) (same at e) more ∙ ap (replicate more) (sym head)) i ++ later))))

module _ {State Happening Size : Type 0} (move : State → Happening → State) (reply : State → Happening → Answer) (send : List ℕ → Size → Happening)
    (Fits : State → List ℕ → Size → Type 0) where
  -- two packets are successful one after the other, from a state
  abbrev pub Both : State → List ℕ → List ℕ → Size → Size → Type 0
  Both s p q m n = Successful (reply s (send p m)) × Successful (reply (move s (send p m)) (send q n))

  -- they may be swapped
  pub record Swapping (s : State) (p q : List ℕ) (m n : Size) : Type 0 where
    pub left : move (move s (send q n)) (send p m) ≡ move (move s (send p m)) (send q n)
    pub first : reply (move s (send q n)) (send p m) ≡ reply s (send p m)
    pub second : reply s (send q n) ≡ reply (move s (send p m)) (send q n)

  -- and one with both sets of enables is as good as both
  pub record Joining (s : State) (p q r : List ℕ) (m n k : Size) : Type 0 where
    pub left : move s (send r k) ≡ move (move s (send p m)) (send q n)
    pub one : OneFor p r (reply s (send p m)) (reply s (send r k))

  -- the first with the enables of both is such a one, at this state
  pub record Ones (s : State) (p q : List ℕ) (m : Size) : Type 0 where
    pub enables : BothEnables p q (joined_packet p q)
    pub fits : Fits s (joined_packet p q) m
    pub requester : (request_of (joined_packet p q)).requester ≡ (request_of p).requester
    pub tag : (request_of (joined_packet p q)).tag ≡ (request_of p).tag

  -- what there is to show of each state
  pub record Laws : Type 0 where
    pub swaps : (s : State) (p q : List ℕ) (m n : Size) → SameWrite p q → Both s p q m n → Swapping s p q m n
    pub joins : (s : State) (p q r : List ℕ) (m n k : Size) → SameWrite p q → BothEnables p q r → Fits s r k → Both s p q m n → Joining s p q r m n k
    pub ones : (s : State) (p q : List ℕ) (m n : Size) → SameWrite p q → Both s p q m n → Ones s p q m
    pub kept : (s : State) (e : Happening) (r : List ℕ) (k : Size) → Fits s r k → Fits (move s e) r k

  module _ {Step : Type 0} (row : Row State Happening Step) (faithful : Faithful move reply row) (laws : Laws) where
    fits_kept : (s : State) (es : List Happening) (r : List ℕ) (k : Size) → Fits s r k → Fits (moved move reply s es) r k
    fits_kept s [] r k f = f
    fits_kept s (e ∷ es) r k f = fits_kept (move s e) es r k (laws.kept s e r k f)

    -- two packets in a row, which were successful
    module _ (s : State) (steps : List Step) (before : List Happening) (p q : List ℕ) (m n : Size) (rest : List Happening) (meets : AllMeet row s steps)
        (stands : events_in row steps ≡ before ++ (send p m ∷ send q n ∷ rest)) (front : List Answer) (first second : Answer) (later : List Answer)
        (many : length front ≡ length before) (answers : answers_in row s steps ≡ front ++ (first ∷ second ∷ later)) where
      abbrev part : List Happening
      part = send p m ∷ send q n ∷ []

      at : State
      at = moved move reply s before

      block : (first ∷ second ∷ []) ≡ (reply at (send p m) ∷ reply (move at (send p m)) (send q n) ∷ [])
      unfolding at
      block = block_is move reply row faithful s steps before part rest meets stands front (first ∷ second ∷ []) later many refl answers

      first_is : first ≡ reply at (send p m)
      first_is = ap (λ (l : List Answer). get_or l 0 none) block

      second_is : second ≡ reply (move at (send p m)) (send q n)
      second_is = ap (λ (l : List Answer). get_or l 1 none) block

      both : Successful first → Successful second → Both at p q m n
      both f g = (subst Successful first_is f, subst Successful second_is g)

      instead : (others : List Step) (events : List Happening) → AllMeet row s others → events_in row others ≡ before ++ (events ++ rest)
          → moved move reply at events ≡ moved move reply at part
          → (end row s others ≡ end row s steps) × (answers_in row s others ≡ front ++ (replies move reply at events ++ later))
      unfolding at
      instead others events k e same =
          exchanged move reply row faithful s steps before part rest meets stands front (first ∷ second ∷ []) later many refl answers others events k e same

    pub swap_of : SwapOf row send
    unfolding at
    swap_of s steps others before p q m n rest meets k stands swapped same front first second later many answers f g =
        let here = both s steps before p q m n rest meets stands front first second later many answers f g in
        let w = laws.swaps (moved move reply s before) p q m n same here in
        let z = instead s steps before p q m n rest meets stands front first second later many answers others (send q n ∷ send p m ∷ []) k swapped w.left in
        let one = first_is s steps before p q m n rest meets stands front first second later many answers in
        let two = second_is s steps before p q m n rest meets stands front first second later many answers in
        (z.0, z.1 ∙ (λ i. front ++ ((w.second ∙ sym two) i ∷ (w.first ∙ sym one) i ∷ later)))

    pub join_of : JoinOf row send Fits
    unfolding at
    join_of s steps others before p q r m n k rest meets l stands joined same enables fits front first second later many answers f g =
        let here = both s steps before p q m n rest meets stands front first second later many answers f g in
        let there : State = moved move reply s before in
        let w = laws.joins there p q r m n k same enables (fits_kept s before r k fits) here in
        let z = instead s steps before p q m n rest meets stands front first second later many answers others (send r k ∷ []) l joined w.left in
        let one = first_is s steps before p q m n rest meets stands front first second later many answers in
        (reply there (send r k), subst (λ (x : Answer). OneFor p r x (reply there (send r k))) (sym one) w.one, z.0, z.1)

    pub joined_of : JoinedOf row send
    unfolding at
    joined_of s steps others before p q m n rest meets l stands joined same front first second later many answers f g =
        let here = both s steps before p q m n rest meets stands front first second later many answers f g in
        let there : State = moved move reply s before in
        let o = laws.ones there p q m n same here in
        let w = laws.joins there p q (joined_packet p q) m n m same o.enables o.fits here in
        let z = instead s steps before p q m n rest meets stands front first second later many answers others (send (joined_packet p q) m ∷ []) l joined w.left in
        let one = first_is s steps before p q m n rest meets stands front first second later many answers in
        (z.0, z.1 ∙ ap (λ (x : Answer). front ++ (x ∷ later)) (w.one.alike o.requester o.tag ∙ sym one))
