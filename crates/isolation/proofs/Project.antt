-- A row of steps as one of its parts sees it: where the steps that a part keeps move it as a model is moved, and the others leave it, the part goes the way of
-- the model over the kept events alone, and what is shown of it is what the model shows. For any states, steps, events and models. Assumes nothing.
use mathlib.Core.Bool.{Bool, true, false}
use mathlib.Core.List.{List, [], ◌∷◌}
use mathlib.Core.Path.{◌≡◌, refl, ap, ◌∙◌}
use Rattle.shares.specs.Kinds.{keep, only, along}

-- two lists with or without a first element
module _ {A : Type 0} (x y : A) (xs ys : List A) where
  keep_same : (b c : Bool) → b ≡ c → (b ≡ true → x ≡ y) → xs ≡ ys → keep b x xs ≡ keep c y ys
  keep_same true true same h t = λ i. h refl i ∷ t i
  keep_same false false same h t = t
  keep_same true false same h t = let z : true ≡ false = same in cc
  keep_same false true same h t = let z : false ≡ true = same in cc

-- the events of a row's steps, and the state at a row's end
abbrev pub events_of : {Step Event : Type 0} → (Step → Event) → List Step → List Event
events_of event [] = []
events_of event (x ∷ xs) = event x ∷ events_of event xs

abbrev pub end_of : {State Step : Type 0} → (State → Step → State) → State → List Step → State
end_of next s [] = s
end_of next s (x ∷ xs) = end_of next (next s x) xs

module _ {State Model Step Event : Type 0} (next : State → Step → State) (event : Step → Event) (move : Model → Event → Model) (part : State → Model)
    (Fits : State → List Step → Type 0) (kept : Event → Bool) where
  -- what is owed
  pub record Owed : Type 0 where
    pub rest : (s : State) (x : Step) (xs : List Step) → Fits s (x ∷ xs) → Fits (next s x) xs
    pub moves : (s : State) (x : Step) (xs : List Step) → Fits s (x ∷ xs) → kept (event x) ≡ true → part (next s x) ≡ move (part s) (event x)
    pub stays : (s : State) (x : Step) (xs : List Step) → Fits s (x ∷ xs) → kept (event x) ≡ false → part (next s x) ≡ part s

  module _ (owed : Owed) where
    end_by : (s : State) (x : Step) (xs : List Step) → Fits s (x ∷ xs) → (b : Bool) → kept (event x) ≡ b
        → part (end_of next (next s x) xs) ≡ end_of move (part (next s x)) (only kept (events_of event xs))
        → part (end_of next (next s x) xs) ≡ end_of move (part s) (keep b (event x) (only kept (events_of event xs)))
    end_by s x xs f true k ih = ih ∙ ap (λ (m : Model). end_of move m (only kept (events_of event xs))) (owed.moves s x xs f k)
    end_by s x xs f false k ih = ih ∙ ap (λ (m : Model). end_of move m (only kept (events_of event xs))) (owed.stays s x xs f k)

    -- THEOREM. The part at a row's end is the model at the end of the kept events.
    pub end_projected : (s : State) (xs : List Step) → Fits s xs → part (end_of next s xs) ≡ end_of move (part s) (only kept (events_of event xs))
    end_projected s [] f = refl
    end_projected s (x ∷ xs) f = end_by s x xs f _ refl (end_projected (next s x) xs (owed.rest s x xs f))

    -- a value for each step that counts, and what stands for it in the model
    module _ {Value : Type 0} (counts within : Event → Bool) (value : State → Step → Value) (modelled : Model → Event → Value) where
      pub record Shown : Type 0 where
        pub alike : (e : Event) → kept e ≡ true → counts e ≡ within e
        pub inside : (e : Event) → kept e ≡ false → counts e ≡ false
        pub same : (s : State) (x : Step) (xs : List Step) → Fits s (x ∷ xs) → counts (event x) ≡ true → value s x ≡ modelled (part s) (event x)

      module _ (shown : Shown) where
        abbrev Goal : State → List Step → Type 0
        Goal s xs = along (λ x. counts (event x)) next value s xs ≡ along within move modelled (part s) (only kept (events_of event xs))

        values_by : (s : State) (x : Step) (xs : List Step) → Fits s (x ∷ xs) → (b : Bool) → kept (event x) ≡ b → Goal (next s x) xs
            → along (λ x. counts (event x)) next value s (x ∷ xs)
            ≡ along within move modelled (part s) (keep b (event x) (only kept (events_of event xs)))
        values_by s x xs f true k ih =
            keep_same _ _ _ _ (counts (event x)) (within (event x)) (shown.alike (event x) k) (shown.same s x xs f)
            (ih ∙ ap (λ (m : Model). along within move modelled m (only kept (events_of event xs))) (owed.moves s x xs f k))
        values_by s x xs f false k ih =
            rw (shown.inside (event x) k) (ih ∙ ap (λ (m : Model). along within move modelled m (only kept (events_of event xs))) (owed.stays s x xs f k))

        -- THEOREM. What a row shows is what the model shows over the kept events.
        pub values_projected : (s : State) (xs : List Step) → Fits s xs → Goal s xs
        values_projected s [] f = refl
        values_projected s (x ∷ xs) f = values_by s x xs f _ refl (values_projected (next s x) xs (owed.rest s x xs f))
